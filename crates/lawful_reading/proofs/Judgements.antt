-- Of a log at most one thing is said, of one line at most.
use Rattle.cap_text.specs.Pieces.{Lacks}
use Rattle.lawful_reading.proofs.Common.{◌≡◌, ℕ, suc, ◌≤◌, inl, inr, true, false, ◌==◌, List, [], ◌∷◌, ◌++◌, length, Some, None, refl, sym, ap, ◌∙◌, subst, append_assoc, append-nil, FitsEntry, entry_text, log_text, Entry, Given, Segment, State, Stopped, start_of}
use Rattle.schedule_log.proofs.EntryUnique.{text_unique}
use Rattle.schedule_log.proofs.LogLines.{no_line_feed}
use Rattle.lawful_reading.specs.Reading.{IsAllowed, IsBeyond, Leads, nowhere, by_line, BeginsWith, IsLawful, IsRefused, IsUnlawful, IsTooLong}
use Rattle.lawful_reading.proofs.Once.{Same, same_after, none_after, within_steps}
use Rattle.lawful_reading.proofs.Refused.{not-empty}

-- ---- the first line of a text

tails : (x y : ℕ) (xs ys : List ℕ) → x ∷ xs ≡ y ∷ ys → xs ≡ ys
tails x y xs ys e = cc

heads : (x y : ℕ) (xs ys : List ℕ) → x ∷ xs ≡ y ∷ ys → x ≡ y
heads x y xs ys e = cc

no_feed : (y : ℕ) → 10 ≡ y → (y == 10) ≡ false → ⊥
no_feed y e h = let no : true ≡ false = subst (λ (n : ℕ). (n == 10) ≡ false) (sym e) h in absurd (cc)

pub cut_lines : (xs ys u v : List ℕ) → Lacks 10 xs → Lacks 10 ys → xs ++ 10 ∷ u ≡ ys ++ 10 ∷ v → (xs ≡ ys) × (u ≡ v)
cut_lines [] [] u v a b e = (refl, tails 10 10 u v e)
cut_lines [] (y ∷ ys) u v a b e = absurd (no_feed y (heads 10 y u (ys ++ 10 ∷ v) e) b.0)
cut_lines (x ∷ xs) [] u v a b e = absurd (no_feed x (sym (heads x 10 (xs ++ 10 ∷ u) v e)) a.0)
cut_lines (x ∷ xs) (y ∷ ys) u v a b e =
    let rest = cut_lines xs ys u v a.1 b.1 (tails x y (xs ++ 10 ∷ u) (ys ++ 10 ∷ v) e) in
    (ap (λ (n : ℕ). n ∷ xs) (heads x y (xs ++ 10 ∷ u) (ys ++ 10 ∷ v) e) ∙ ap (λ (l : List ℕ). y ∷ l) rest.0, rest.1)

pub first_line : (entry : Entry) (entries : List Entry) (u : List ℕ) → log_text (entry ∷ entries) ++ u ≡ entry_text entry ++ 10 ∷ (log_text entries ++ u)
unfolding log_text
first_line entry entries u = append_assoc (entry_text entry ++ 10 ∷ []) (log_text entries) u ∙ append_assoc (entry_text entry) (10 ∷ []) (log_text entries ++ u)

pub no_lines : (u : List ℕ) → log_text [] ++ u ≡ u
unfolding log_text
no_lines u = refl

-- ---- two readings of one text

-- from there on a line is allowed that is one of these bytes
record GoesOn (g : Given) (a : State) (bytes : List ℕ) : Type 0 where
  pub at : State
  pub same : Same a at
  pub entry : Entry
  pub after : State
  pub fits : FitsEntry entry
  pub allowed : IsAllowed g at entry after
  pub within : after.steps ≤ g.most_steps
  pub left : List ℕ
  pub begins : bytes ≡ entry_text entry ++ 10 ∷ left

-- both end at once, or one goes on where the other has ended
data Met (g : Given) (a b : State) (m n : ℕ) (u v : List ℕ) : Type 0 where
  together : Same a b → u ≡ v → m ≡ n → Met g a b m n u v
  first_ends : GoesOn g a u → Met g a b m n u v
  second_ends : GoesOn g b v → Met g a b m n u v

longer : (g : Given) (a b : State) (m n : ℕ) (u v : List ℕ) → Met g a b m n u v → Met g a b (suc m) (suc n) u v
longer g a b m n u v (together same e count) = together same e (ap suc count)
longer g a b m n u v (first_ends goes) = first_ends goes
longer g a b m n u v (second_ends goes) = second_ends goes

turned : (a b : State) → Same a b → Same b a
turned a b (inl e) = inl (sym e)
turned a b (inr over) = inr (over.1, over.0)

next_same : (g : Given) (s t : State) (x y : Entry) (a b : State) → Same s t → x ≡ y → IsAllowed g s x a → IsAllowed g t y b → Same a b
next_same g s t x y a b (inl e) entry p q =
    same_after g s x a b p (subst (λ (z : Entry). IsAllowed g s z b) (sym entry) (subst (λ (z : State). IsAllowed g z y b) (sym e) q))
next_same g s t x y a b (inr over) entry p q = absurd (none_after g s x a over.0.0 p)

meet : (g : Given) (s t : State) (es fs : List Entry) (a b : State) (u v : List ℕ) → Same s t → Leads g s es a → Leads g t fs b → log_text es ++ u ≡ log_text fs ++ v → Met g a b (length es) (length fs) u v
meet g s t _ _ a b u v same nowhere nowhere e = together same (sym (no_lines u) ∙ e ∙ no_lines v) refl
meet g s t _ _ a b u v same nowhere (by_line {between = t'} {entry = y} {entries = more} fits allowed within rest) e = first_ends (record {
  at = t;
  same = same;
  entry = y;
  after = t';
  fits = fits;
  allowed = allowed;
  within = within;
  left = log_text more ++ v;
  begins = sym (no_lines u) ∙ e ∙ first_line y more v;
})
meet g s t _ _ a b u v same (by_line {between = s'} {entry = x} {entries = more} fits allowed within rest) nowhere e = second_ends (record {
  at = s;
  same = turned s t same;
  entry = x;
  after = s';
  fits = fits;
  allowed = allowed;
  within = within;
  left = log_text more ++ u;
  begins = sym (no_lines v) ∙ sym e ∙ first_line x more u;
})
meet g s t _ _ a b u v same (by_line {between = s'} {entry = x} {entries = es} fits allowed within rest) (by_line {between = t'} {entry = y} {entries = fs} also and_so and_within other) e =
    let lines = cut_lines (entry_text x) (entry_text y) (log_text es ++ u) (log_text fs ++ v) (no_line_feed x) (no_line_feed y) (sym (first_line x es u) ∙ e ∙ first_line y fs v) in
    let entry : x ≡ y = text_unique x y fits also lines.0 in
    longer g a b (length es) (length fs) u v (meet g s' t' es fs a b u v (next_same g s t x y s' t' same entry allowed and_so) rest other lines.1)

-- ---- what goes on isn't the end

ended_not : (g : Given) (a : State) (bytes : List ℕ) → bytes ≡ [] → GoesOn g a bytes → ⊥
ended_not g a bytes e goes = not-empty (entry_text goes.entry) goes.left (sym e ∙ goes.begins)

refused_not : (g : Given) (a : State) (bytes : List ℕ) → IsRefused g a bytes → GoesOn g a bytes → ⊥
refused_not g a bytes refused goes = by goes.same where
  by : Same a goes.at → ⊥
  by (inl e) = refused.refused goes.entry goes.left (record { fits = goes.fits; bytes_are = goes.begins }) goes.after (subst (λ (s : State). IsAllowed g s goes.entry goes.after) (sym e) goes.allowed)
  by (inr over) = none_after g goes.at goes.entry goes.after over.1.0 goes.allowed

beyond_not : (g : Given) (a : State) (entry : Entry) (bytes left : List ℕ) → BeginsWith entry bytes left → IsBeyond g a entry → GoesOn g a bytes → ⊥
beyond_not g a entry bytes left begins beyond goes = by goes.same where
  same : entry ≡ goes.entry
  same = text_unique entry goes.entry begins.fits goes.fits (cut_lines (entry_text entry) (entry_text goes.entry) left goes.left (no_line_feed entry) (no_line_feed goes.entry) (sym begins.bytes_are ∙ goes.begins)).0

  by : Same a goes.at → ⊥
  by (inl e) = within_steps g a entry goes.after (subst (λ (x : Entry). IsAllowed g a x goes.after) (sym same) (subst (λ (s : State). IsAllowed g s goes.entry goes.after) (sym e) goes.allowed)) goes.within beyond
  by (inr over) = none_after g goes.at goes.entry goes.after over.1.0 goes.allowed

stops_too : (a b : State) → Same a b → a.end ≡ Stopped → b.end ≡ Stopped
stops_too a b (inl e) stopped = sym (ap (λ (s : State). s.end) e) ∙ stopped
stops_too a b (inr over) stopped = over.1.0

under_way_not : (s : State) (segment : Segment) → s.segment ≡ None → s.segment ≡ Some segment → ⊥
under_way_not s segment p q = let no : None ≡ Some segment = sym p ∙ q in absurd (cc)

-- ---- one judgement

module _ (g : Given) (trace log : List ℕ) where
  abbrev start : State
  start = start_of g trace

  pub lawful_unlawful : (line : ℕ) → IsLawful g trace log → IsUnlawful g trace log line → ⊥
  lawful_unlawful line p q = by (meet g start start p.entries q.entries p.last q.last [] q.bytes (inl refl) p.leads q.leads (append-nil (log_text p.entries) ∙ sym p.log_is ∙ q.log_is)) where
    by : Met g p.last q.last (length p.entries) (length q.entries) [] q.bytes → ⊥
    by (together same e count) = q.refused.over (sym e) (stops_too p.last q.last same p.stopped)
    by (first_ends goes) = ended_not g p.last [] refl goes
    by (second_ends goes) = refused_not g q.last q.bytes q.refused goes

  pub lawful_too_long : (line : ℕ) → IsLawful g trace log → IsTooLong g trace log line → ⊥
  lawful_too_long line p q = by (meet g start start p.entries q.entries p.last q.last [] q.bytes (inl refl) p.leads q.leads (append-nil (log_text p.entries) ∙ sym p.log_is ∙ q.log_is)) where
    by : Met g p.last q.last (length p.entries) (length q.entries) [] q.bytes → ⊥
    by (together same e count) = not-empty (entry_text q.entry) q.left (e ∙ q.begins.bytes_are)
    by (first_ends goes) = ended_not g p.last [] refl goes
    by (second_ends goes) = beyond_not g q.last q.entry q.bytes q.left q.begins q.beyond goes

  pub unlawful_too_long : (line other : ℕ) → IsUnlawful g trace log line → IsTooLong g trace log other → ⊥
  unlawful_too_long line other p q = by (meet g start start p.entries q.entries p.last q.last p.bytes q.bytes (inl refl) p.leads q.leads (sym p.log_is ∙ q.log_is)) where
    still : Same p.last q.last → p.bytes ≡ q.bytes → ⊥
    still (inl e) bytes = p.refused.within q.entry q.left (record { fits = q.begins.fits; bytes_are = bytes ∙ q.begins.bytes_are }) (subst (λ (s : State). IsBeyond g s q.entry) (sym e) q.beyond)
    still (inr over) bytes = under_way_not q.last q.beyond.segment over.1.1 q.beyond.under_way

    by : Met g p.last q.last (length p.entries) (length q.entries) p.bytes q.bytes → ⊥
    by (together same e count) = still same e
    by (first_ends goes) = refused_not g p.last p.bytes p.refused goes
    by (second_ends goes) = beyond_not g q.last q.entry q.bytes q.left q.begins q.beyond goes

  pub one_unlawful : (line other : ℕ) → IsUnlawful g trace log line → IsUnlawful g trace log other → line ≡ other
  one_unlawful line other p q = by (meet g start start p.entries q.entries p.last q.last p.bytes q.bytes (inl refl) p.leads q.leads (sym p.log_is ∙ q.log_is)) where
    by : Met g p.last q.last (length p.entries) (length q.entries) p.bytes q.bytes → line ≡ other
    by (together same e count) = p.line_is ∙ ap suc count ∙ sym q.line_is
    by (first_ends goes) = absurd (refused_not g p.last p.bytes p.refused goes)
    by (second_ends goes) = absurd (refused_not g q.last q.bytes q.refused goes)

  pub one_too_long : (line other : ℕ) → IsTooLong g trace log line → IsTooLong g trace log other → line ≡ other
  one_too_long line other p q = by (meet g start start p.entries q.entries p.last q.last p.bytes q.bytes (inl refl) p.leads q.leads (sym p.log_is ∙ q.log_is)) where
    by : Met g p.last q.last (length p.entries) (length q.entries) p.bytes q.bytes → line ≡ other
    by (together same e count) = p.line_is ∙ ap suc count ∙ sym q.line_is
    by (first_ends goes) = absurd (beyond_not g p.last p.entry p.bytes p.left p.begins p.beyond goes)
    by (second_ends goes) = absurd (beyond_not g q.last q.entry q.bytes q.left q.begins q.beyond goes)
