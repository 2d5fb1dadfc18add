-- The end of a log: the lines of the edges, and which averages they show.
use Rattle.run_course.proofs.Common.{◌≡◌, ◌≢◌, ℕ, zero, suc, ◌+◌, ◌<◌, ◌≤◌, ℤ, nat_eq, Bool, true, false, List, [], ◌∷◌, ◌++◌, get_or, length, set, take, drop, map, Result, refl, sym, ap, ◌∙◌, subst, arith, append-nil, append_assoc, length-set, add-one, pos, if◌then◌else◌, flat_map, cond-false, eq-eqb, ne_eqb, take-append-drop, take_more_set, drop_all, map_more, map-append, EdgeLine, entry_text, log_text, Entry, Held, cap_in, Failure, CountsPart, edge_lines, end_lines, Output, TakesPart, Grows}
use Rattle.std.proofs.lemmas.List.Concat.{flat_map-append}
use Rattle.choice_rules.specs.EdgeLines.{given, shown, edge_entry}
use Rattle.schedule_log.specs.declared.entries.StopLine.{StopLine}
use Rattle.run_course.proofs.Joined.{part_more, part_on, grows_on, grows_none}
use Rattle.run_course.proofs.FitTexts.{no_line}

-- ---- the averages that are shown

given_none : (caps : List ℕ) → given caps [] ≡ []
given_none [] = refl
given_none (cap ∷ caps) = refl

abbrev given_by : Bool → ℤ → List ℤ → List ℤ
given_by true average rest = rest
given_by false average rest = average ∷ rest

given_cons : (cap : ℕ) (caps : List ℕ) (average : ℤ) (averages : List ℤ) → given (cap ∷ caps) (average ∷ averages) ≡ given_by (nat_eq cap 0) average (given caps averages)
given_cons cap caps average averages = by_test (nat_eq cap 0) where
  by_test : (b : Bool) → (if b then given caps averages else average ∷ given caps averages) ≡ given_by b average (given caps averages)
  by_test true = refl
  by_test false = refl

given_at : (caps : List ℕ) (change : List ℤ) (r : ℕ) → r < length change →
    given (drop r caps) (drop r change) ≡ given_by (nat_eq (get_or caps r 0) 0) (get_or change r (pos 0)) (given (drop (suc r) caps) (drop (suc r) change))
given_at [] (d ∷ ds) zero h = refl
given_at [] (d ∷ ds) (suc r) h = refl
given_at (c ∷ cs) (d ∷ ds) zero h = given_cons c cs d ds
given_at (c ∷ cs) (d ∷ ds) (suc r) h = given_at cs ds r (omega (arith, h))
given_at _ [] r h = absurd (omega (arith, h))

given_skip : (caps : List ℕ) (change : List ℤ) (r : ℕ) → r < length change → get_or caps r 0 ≡ 0 → given (drop r caps) (drop r change) ≡ given (drop (r + 1) caps) (drop (r + 1) change)
given_skip caps change r h e =
    given_at caps change r h
    ∙ ap (λ (b : Bool). given_by b (get_or change r (pos 0)) (given (drop (suc r) caps) (drop (suc r) change))) (eq-eqb (get_or caps r 0) 0 e)
    ∙ ap (λ (n : ℕ). given (drop n caps) (drop n change)) (sym (add-one r))

given_more : (caps : List ℕ) (change : List ℤ) (r : ℕ) → r < length change → get_or caps r 0 ≢ 0 → given (drop r caps) (drop r change) ≡ get_or change r (pos 0) ∷ given (drop (r + 1) caps) (drop (r + 1) change)
given_more caps change r h e =
    given_at caps change r h
    ∙ ap (λ (b : Bool). given_by b (get_or change r (pos 0)) (given (drop (suc r) caps) (drop (suc r) change))) (ne_eqb (get_or caps r 0) 0 e)
    ∙ ap (λ (n : ℕ). get_or change r (pos 0) ∷ given (drop n caps) (drop n change)) (sym (add-one r))

-- the averages so far, and those that are left
pub record IsShown (caps : List ℕ) (change places : List ℤ) (used r : ℕ) : Type 0 where
  pub some : 1 ≤ used
  pub within : used ≤ r
  pub size : length places ≡ 8
  pub eight : length change ≡ 8
  pub parts : take used places ++ given (drop r caps) (drop r change) ≡ shown caps change

pub shown_skip : (caps : List ℕ) (change places : List ℤ) (used r : ℕ) → r < 8 → get_or caps r 0 ≡ 0 → IsShown caps change places used r → IsShown caps change places used (r + 1)
shown_skip caps change places used r below e is = record {
  some = is.some;
  within = let h = is.within in omega (arith, h);
  size = is.size;
  eight = is.eight;
  parts = ap (λ (l : List ℤ). take used places ++ l) (sym (given_skip caps change r (let eight = is.eight in omega (arith, eight, below)) e)) ∙ is.parts;
}

pub shown_more : (caps : List ℕ) (change places : List ℤ) (used r : ℕ) (v : ℤ) → r < 8 → get_or caps r 0 ≢ 0 → v ≡ get_or change r (pos 0) → IsShown caps change places used r →
    IsShown caps change (set places used v) (used + 1) (r + 1)
shown_more caps change places used r v below e same is = record {
  some = omega arith;
  within = let h = is.within in omega (arith, h);
  size = length-set places used v ∙ is.size;
  eight = is.eight;
  parts =
      let h = is.within in let size = is.size in let eight = is.eight in
      ap (λ (l : List ℤ). l ++ given (drop (r + 1) caps) (drop (r + 1) change)) (take_more_set places used v (omega (arith, h, size, below)) ∙ ap (λ (x : ℤ). take used places ++ x ∷ []) same)
      ∙ append_assoc (take used places) (get_or change r (pos 0) ∷ []) (given (drop (r + 1) caps) (drop (r + 1) change))
      ∙ ap (λ (l : List ℤ). take used places ++ l) (sym (given_more caps change r (omega (arith, eight, below)) e)) ∙ is.parts;
}

pub shown_end : (caps : List ℕ) (change places : List ℤ) (used r : ℕ) → 8 ≤ r → IsShown caps change places used r → take used places ≡ shown caps change
shown_end caps change places used r past is =
    let eight = is.eight in
    sym (append-nil (take used places))
    ∙ ap (λ (l : List ℤ). take used places ++ l) (sym (given_none (drop r caps)) ∙ ap (λ (l : List ℤ). given (drop r caps) l) (sym (drop_all r change (omega (arith, eight, past)))))
    ∙ is.parts

pub cap_is : (held : Held) (r : ℕ) → 1 ≤ r → cap_in held r ≡ get_or held.setting.caps r 0
cap_is held zero h = absurd (omega (arith, h))
cap_is held (suc r) h = cond-false (nat_eq (suc r) 0) held.machine.areas.pool.count (get_or held.setting.caps (suc r) 0) (ne_eqb (suc r) 0 (λ e. omega (arith, e)))

-- ---- the lines of the edges

pub lines_more : (caps : List ℕ) (edges : List EdgeLine) (i : ℕ) (d : EdgeLine) → i < length edges →
    log_text (edge_lines caps (take (i + 1) edges)) ≡ log_text (edge_lines caps (take i edges)) ++ (entry_text (edge_entry caps (get_or edges i d)) ++ 10 ∷ [])
unfolding log_text
lines_more caps edges i d h =
    ap (λ (l : List Entry). flat_map (λ entry. entry_text entry ++ 10 ∷ []) l) (map_more (edge_entry caps) edges i d h)
    ∙ flat_map-append (λ entry. entry_text entry ++ 10 ∷ []) (map (edge_entry caps) (take i edges)) (edge_entry caps (get_or edges i d) ∷ [])
    ∙ ap (λ (l : List ℕ). flat_map (λ entry. entry_text entry ++ 10 ∷ []) (map (edge_entry caps) (take i edges)) ++ l) (append-nil (entry_text (edge_entry caps (get_or edges i d)) ++ 10 ∷ []))

pub lines_split : (caps : List ℕ) (edges : List EdgeLine) (i : ℕ) → log_text (edge_lines caps edges) ≡ log_text (edge_lines caps (take i edges)) ++ log_text (edge_lines caps (drop i edges))
unfolding log_text
lines_split caps edges i =
    ap (λ (l : List EdgeLine). flat_map (λ entry. entry_text entry ++ 10 ∷ []) (map (edge_entry caps) l)) (sym (take-append-drop i edges))
    ∙ ap (λ (l : List Entry). flat_map (λ entry. entry_text entry ++ 10 ∷ []) l) (map-append (edge_entry caps) (take i edges) (drop i edges))
    ∙ flat_map-append (λ entry. entry_text entry ++ 10 ∷ []) (map (edge_entry caps) (take i edges)) (map (edge_entry caps) (drop i edges))

pub lines_parts : (caps : List ℕ) (edges : List EdgeLine) (i : ℕ) (d : EdgeLine) (entry : Entry) → entry ≡ edge_entry caps (get_or edges i d) → i < length edges →
    log_text (edge_lines caps edges) ≡ log_text (edge_lines caps (take i edges)) ++ ((entry_text entry ++ 10 ∷ []) ++ log_text (edge_lines caps (drop (i + 1) edges)))
lines_parts caps edges i d entry is h =
    lines_split caps edges (i + 1)
    ∙ ap (λ (l : List ℕ). l ++ log_text (edge_lines caps (drop (i + 1) edges))) (lines_more caps edges i d h ∙ ap (λ (e : Entry). log_text (edge_lines caps (take i edges)) ++ (entry_text e ++ 10 ∷ [])) (sym is))
    ∙ append_assoc (log_text (edge_lines caps (take i edges))) (entry_text entry ++ 10 ∷ []) (log_text (edge_lines caps (drop (i + 1) edges)))

-- one line more
pub line_put : (old mid new : Output) (caps : List ℕ) (edges : List EdgeLine) (i : ℕ) (d : EdgeLine) (entry : Entry) → entry ≡ edge_entry caps (get_or edges i d) → i < length edges →
    Grows old mid (log_text (edge_lines caps (take i edges))) → Grows mid new (entry_text entry ++ 10 ∷ []) → Grows old new (log_text (edge_lines caps (take (i + 1) edges)))
line_put old mid new caps edges i d entry is h first then_ =
    subst (λ (l : List ℕ). Grows old new l)
    (sym (lines_more caps edges i d h ∙ ap (λ (e : Entry). log_text (edge_lines caps (take i edges)) ++ (entry_text e ++ 10 ∷ [])) (sym is)))
    (grows_on old mid new (log_text (edge_lines caps (take i edges))) (entry_text entry ++ 10 ∷ []) first then_)

-- nothing is put
pub none_put : (now : Output) → Grows now now (log_text [])
none_put now = subst (λ (l : List ℕ). Grows now now l) (sym no_line) (grows_none now)

-- a beginning of a piece behind another is a beginning of both and what follows
pub begun_more : (old mid new : Output) (x y z whole : List ℕ) → whole ≡ x ++ (y ++ z) → Grows old mid x → TakesPart mid new y → TakesPart old new whole
begun_more old mid new x y z whole is first part =
    subst (λ (l : List ℕ). TakesPart old new l) (append_assoc x y z ∙ sym is) (part_more old new (x ++ y) z (part_on old mid new.taken x y first part))

-- a beginning of a piece is one of what it begins
pub puts_begun : (old new : Output) (x y whole : List ℕ) → whole ≡ x ++ y → TakesPart old new x → TakesPart old new whole
puts_begun old new x y whole is part = subst (λ (l : List ℕ). TakesPart old new l) (sym is) (part_more old new x y part)

-- ---- the end

pub end_text : (caps : List ℕ) (edges : List EdgeLine) (stop : StopLine) → log_text (end_lines caps edges stop) ≡ log_text (edge_lines caps edges) ++ (entry_text (Entry.Stop stop) ++ 10 ∷ [])
unfolding log_text
end_text caps edges stop =
    flat_map-append (λ entry. entry_text entry ++ 10 ∷ []) (map (edge_entry caps) edges) (Entry.Stop stop ∷ [])
    ∙ ap (λ (l : List ℕ). flat_map (λ entry. entry_text entry ++ 10 ∷ []) (map (edge_entry caps) edges) ++ l) (append-nil (entry_text (Entry.Stop stop) ++ 10 ∷ []))

pub end_text_of : (caps : List ℕ) (edges lines : List EdgeLine) (stop : StopLine) → lines ≡ edges → log_text (end_lines caps edges stop) ≡ log_text (edge_lines caps lines) ++ (entry_text (Entry.Stop stop) ++ 10 ∷ [])
end_text_of caps edges lines stop e = end_text caps edges stop ∙ ap (λ (l : List EdgeLine). log_text (edge_lines caps l) ++ (entry_text (Entry.Stop stop) ++ 10 ∷ [])) (sym e)

-- ---- counts

pub counts_on : (result : Result (Unit {0}) Failure) (old mid new : ℕ) → mid ≡ old → CountsPart result mid new → CountsPart result old new
counts_on result old mid new same counts = subst (λ (n : ℕ). CountsPart result n new) same counts
