-- The lines of a log, one after another.
use Rattle.schedule_audit.proofs.Common.{◌≡◌, ℕ, suc, ◌+◌, ◌<◌, ◌≤◌, Bool, true, false, ◌==◌, not, List, [], ◌∷◌, ◌++◌, length, take, drop, Option, Some, None, Ok, refl, sym, ap, ◌∙◌, subst, arith, cond, append-nil, IfSome, nat_lt, position, eqb-true, ReaderState, Given, State, start_of, entry_text, log_text, FitsEntry, Entry, End, Next, Judgement, IsReadTo, IsLine, RulesLine, Kept, Allows, IsEnd, IsTold, IsTraceOf, Stands, IsJudgementOf}
use Rattle.std.specs.List.{position_or_len}
use Rattle.std.proofs.lemmas.Bool.Decides.{nat_tests}
use Rattle.cap_text.specs.Pieces.{Lacks}
use Rattle.lawful_reading.specs.Reading.{BeginsWith, IsAllowed, IsLawful, IsTooLong, IsUnlawful, Leads, by_line, nowhere}
use Rattle.lawful_reading.specs.State as reading
use Rattle.schedule_log.proofs.LogLines.{no_line_feed}
use Rattle.schedule_reading.specs.declared.reading.End.TheVariants as end
use Rattle.schedule_reading.specs.declared.reading.Next.TheVariants as next
use Rattle.schedule_reading.specs.declared.rulings.Ruling.TheVariants as ruling
use Rattle.lawful_reading.proofs.Judgements.{cut_lines, no_lines}
use Rattle.lawful_reading.proofs.Found.{last_line}

-- ---- the first line feed

abbrev feed : ℕ → Bool
feed byte = byte == 10

lacks_on : (b : Bool) (x : ℕ) (xs : List ℕ) (n : ℕ) → feed x ≡ b → Lacks 10 (take n xs) → Lacks 10 (take (cond (not b) (1 + n) 0) (x ∷ xs))
lacks_on true x xs n e rest = tt
lacks_on false x xs n e rest = let one : suc n ≡ 1 + n = omega arith in subst (λ (k : ℕ). Lacks 10 (take k (x ∷ xs))) one (e, rest)

lacks_before : (xs : List ℕ) → Lacks 10 (take (position_or_len feed xs) xs)
lacks_before [] = tt
lacks_before (x ∷ xs) = subst (λ (b : Bool). Lacks 10 (take (cond (not b) (1 + position_or_len feed xs) 0) (x ∷ xs))) refl (lacks_on (feed x) x xs (position_or_len feed xs) refl (lacks_before xs))

whole_on : (b : Bool) (x : ℕ) (xs : List ℕ) (n : ℕ) → feed x ≡ b → (n < length xs → take n xs ++ 10 ∷ drop (n + 1) xs ≡ xs) → cond (not b) (1 + n) 0 < suc (length xs) →
    take (cond (not b) (1 + n) 0) (x ∷ xs) ++ 10 ∷ drop (cond (not b) (1 + n) 0 + 1) (x ∷ xs) ≡ x ∷ xs
whole_on true x xs n e rest h = ap (λ (y : ℕ). y ∷ xs) (sym (eqb-true x 10 e))
whole_on false x xs n e rest h =
    let below : n < length xs = omega (arith, h) in
    let one : 1 + n ≡ suc n = omega arith in
    let count : suc n + 1 ≡ suc (n + 1) = omega arith in
    ap (λ (k : ℕ). take k (x ∷ xs) ++ 10 ∷ drop (k + 1) (x ∷ xs)) one ∙ ap (λ (k : ℕ). x ∷ (take n xs ++ 10 ∷ drop k (x ∷ xs))) count ∙ ap (λ (l : List ℕ). x ∷ l) (rest below)

whole_at : (xs : List ℕ) → position_or_len feed xs < length xs → take (position_or_len feed xs) xs ++ 10 ∷ drop (position_or_len feed xs + 1) xs ≡ xs
whole_at [] h = absurd (omega (arith, h))
whole_at (x ∷ xs) h = whole_on (feed x) x xs (position_or_len feed xs) refl (whole_at xs) h

all_on : (b : Bool) (x : ℕ) (xs : List ℕ) (n : ℕ) → feed x ≡ b → (length xs ≤ n → Lacks 10 xs) → suc (length xs) ≤ cond (not b) (1 + n) 0 → Lacks 10 (x ∷ xs)
all_on true x xs n e rest h = absurd (omega (arith, h))
all_on false x xs n e rest h = (e, rest (omega (arith, h)))

lacks_all : (xs : List ℕ) → length xs ≤ position_or_len feed xs → Lacks 10 xs
lacks_all [] h = tt
lacks_all (x ∷ xs) h = all_on (feed x) x xs (position_or_len feed xs) refl (lacks_all xs) h

-- a line and what is left behind it
pub record IsCut (xs : List ℕ) (at : ℕ) : Type 0 where
  pub whole : take at xs ++ 10 ∷ drop (at + 1) xs ≡ xs
  pub lacks : Lacks 10 (take at xs)
  pub below : at < length xs

cut_by : (b : Bool) (xs : List ℕ) (at : ℕ) → nat_lt (position_or_len feed xs) (length xs) ≡ b → ◌≡◌ {A = Option ℕ} (cond b (Some (position_or_len feed xs)) None) (Some at) → IsCut xs at
cut_by true xs at e f =
    let same : position_or_len feed xs ≡ at = cc in
    let below : position_or_len feed xs < length xs = grind (arith, nat_tests, e) in
    subst (IsCut xs) same (record { whole = whole_at xs below; lacks = lacks_before xs; below = below })
cut_by false xs at e f = absurd (cc)

pub cut : (xs : List ℕ) (at : ℕ) → position feed xs ≡ Some at → IsCut xs at
cut xs at e = cut_by (nat_lt (position_or_len feed xs) (length xs)) xs at refl e

none_by : (b : Bool) (xs : List ℕ) → nat_lt (position_or_len feed xs) (length xs) ≡ b → ◌≡◌ {A = Option ℕ} (cond b (Some (position_or_len feed xs)) None) None → Lacks 10 xs
none_by true xs e f = absurd (cc)
none_by false xs e f = lacks_all xs (grind (arith, nat_tests, e))

pub none_left : (xs : List ℕ) → position feed xs ≡ None → Lacks 10 xs
none_left xs e = none_by (nat_lt (position_or_len feed xs) (length xs)) xs refl e

lacks_not : (xs ys : List ℕ) (u : List ℕ) → Lacks 10 (xs ++ 10 ∷ u) → ⊥
lacks_not [] ys u l = absurd (let no : true ≡ false = l.0 in cc)
lacks_not (x ∷ xs) ys u l = lacks_not xs ys u l.1

-- ---- entries

pub leads_more : (g : Given) (a b c : State) (entries : List Entry) (entry : Entry) → Leads g a entries b → FitsEntry entry → IsAllowed g b entry c → c.steps ≤ g.most_steps → Leads g a (entries ++ entry ∷ []) c
leads_more g a b c _ entry nowhere fits allowed within = by_line fits allowed within nowhere
leads_more g a b c _ entry (by_line {between = m} {entry = e} {entries = es} f p w rest) fits allowed within = by_line f p w (leads_more g m b c es entry rest fits allowed within)

long_more : (entries : List Entry) (entry : Entry) → length (entries ++ entry ∷ []) ≡ suc (length entries)
long_more [] entry = refl
long_more (e ∷ entries) entry = ap suc (long_more entries entry)

-- ---- before the first line

abbrev pub trace_in : Option (List ℕ) → List ℕ
trace_in None = []
trace_in (Some trace) = trace

pub start_told : (g : Given) (left : Option (List ℕ)) (k : Kept) → k.reader ≡ record { held = []; lines = 0; last = 0; refused = None } → k.next ≡ next.Unread → IfSome left (λ trace. IsTold (start_of g trace) k left)
start_told g None k reader unread = tt
start_told g (Some trace) k reader unread =
    subst (λ (n : Next). IsTraceOf (start_of g trace).trace k.reader n (Some trace)) (sym unread)
    (subst (λ (r : ReaderState). IsTraceOf (start_of g trace).trace r next.Unread (Some trace)) (sym reader) refl)

start_leads : (g : Given) (left : Option (List ℕ)) → IfSome left (λ trace. Leads g (start_of g trace) [] (start_of g (trace_in left)))
start_leads g None = tt
start_leads g (Some trace) = nowhere

some_told : (g : Given) (left : Option (List ℕ)) (k : Kept) → IfSome left (λ trace. IsTold (start_of g trace) k left) → IfSome left (λ trace. IsTold (start_of g (trace_in left)) k left)
some_told g None k t = tt
some_told g (Some trace) k t = t

pub read_start : (g : Given) (left : Option (List ℕ)) (log : List ℕ) (k : Kept) → Stands g (start_of g (trace_in left)) k → IfSome left (λ trace. IsTold (start_of g trace) k left) → IsReadTo g left log log 1 k left
read_start g left log k stands told = record {
  entries = [];
  state = start_of g (trace_in left);
  stands = stands;
  leads = start_leads g left;
  log_is = sym (no_lines log);
  line_is = refl;
  told = some_told g left k told;
}

-- ---- one line

module _ (g : Given) (left : Option (List ℕ)) (log rest : List ℕ) (line : ℕ) (k : Kept) (now : Option (List ℕ)) (is : IsReadTo g left log rest line k now) where
  module _ (at : ℕ) (cut_at : IsCut rest at) (new : Kept) (now' : Option (List ℕ)) where
    abbrev bytes : List ℕ
    bytes = take at rest

    abbrev more : List ℕ
    more = drop (at + 1) rest

    goes : (o : Option (List ℕ)) (entry : Entry) (l : IsLine bytes entry) (allows : Allows g is.state k entry now new now') → IfSome o (λ trace. Leads g (start_of g trace) is.entries is.state) → IfSome o (λ trace. IsTold is.state k now) →
        IfSome o (λ trace. Leads g (start_of g trace) (is.entries ++ entry ∷ []) allows.after)
    goes None entry l allows leads told = tt
    goes (Some trace) entry l allows leads told = leads_more g (start_of g trace) is.state allows.after is.entries entry leads l.fits (allows.allowed told) allows.within

    tells : (o : Option (List ℕ)) (entry : Entry) (allows : Allows g is.state k entry now new now') → IfSome o (λ trace. IsTold is.state k now) → IfSome o (λ trace. IsTold allows.after new now')
    tells None entry allows told = tt
    tells (Some trace) entry allows told = allows.trace told

    split : (entry : Entry) → entry_text entry ≡ bytes → rest ≡ entry_text entry ++ 10 ∷ more
    split entry text = sym cut_at.whole ∙ ap (λ (l : List ℕ). l ++ 10 ∷ more) (sym text)

    pub read_on : RulesLine g is.state k bytes now new now' (Ok ruling.Allowed) → IsReadTo g left log more (line + 1) new now'
    read_on r = record {
      entries = is.entries ++ r.0 ∷ [];
      state = r.2.after;
      stands = r.2.stands;
      leads = goes left r.0 r.1 r.2 is.leads is.told;
      log_is = is.log_is ∙ ap (λ (l : List ℕ). log_text is.entries ++ l) (split r.0 r.1.text) ∙ sym (last_line is.entries r.0 more);
      line_is = (let long = long_more is.entries r.0 in let this = is.line_is in omega (arith, long, this));
      told = tells left r.0 r.2 is.told;
    }

    -- an entry with which the rest begins is that of the line
    first_is : (entry : Entry) (u : List ℕ) → BeginsWith entry rest u → IsLine bytes entry
    first_is entry u begins = record {
      fits = begins.fits;
      text = (cut_lines (entry_text entry) bytes u more (no_line_feed entry) cut_at.lacks (sym begins.bytes_are ∙ sym cut_at.whole)).0;
    }

    not_over : rest ≡ [] → ⊥
    not_over e = let below = cut_at.below in let none = ap (λ (l : List ℕ). length l) e in omega (arith, below, none)

    pub read_refused : RulesLine g is.state k bytes now new now' (Ok ruling.Refused) → IsJudgementOf g left log (Judgement.Unlawful line)
    read_refused r = by left is.leads is.told where
      by : (o : Option (List ℕ)) → IfSome o (λ trace. Leads g (start_of g trace) is.entries is.state) → IfSome o (λ trace. IsTold is.state k now) → IfSome o (λ trace. IsUnlawful g trace log line)
      by None leads told = tt
      by (Some trace) leads told = record {
        entries = is.entries;
        last = is.state;
        leads = leads;
        bytes = rest;
        refused = record {
          over = λ e. absurd (not_over e);
          refused = λ entry u begins. (r told entry (first_is entry u begins)).refused;
          within = λ entry u begins. (r told entry (first_is entry u begins)).enough;
        };
        log_is = is.log_is;
        line_is = is.line_is;
      }

    pub read_late : RulesLine g is.state k bytes now new now' (Ok ruling.OutOfSteps) → IsJudgementOf g left log (Judgement.Steps line)
    read_late r = by left is.leads where
      by : (o : Option (List ℕ)) → IfSome o (λ trace. Leads g (start_of g trace) is.entries is.state) → IfSome o (λ trace. IsTooLong g trace log line)
      by None leads = tt
      by (Some trace) leads = record {
        entries = is.entries;
        last = is.state;
        leads = leads;
        entry = r.0;
        bytes = rest;
        left = more;
        begins = record { fits = r.1.fits; bytes_are = split r.0 r.1.text };
        beyond = r.2;
        log_is = is.log_is;
        line_is = is.line_is;
      }

  -- ---- no line is left

  stopped_is : (e : End) → IsEnd g is.state e → e ≡ end.Stopped → is.state.end ≡ reading.Stopped
  stopped_is e i same = subst (IsEnd g is.state) same i

  pub read_lawful : rest ≡ [] → k.end ≡ end.Stopped → IsJudgementOf g left log Judgement.Lawful
  read_lawful none stopped = by left is.leads where
    by : (o : Option (List ℕ)) → IfSome o (λ trace. Leads g (start_of g trace) is.entries is.state) → IfSome o (λ trace. IsLawful g trace log)
    by None leads = tt
    by (Some trace) leads = record {
      entries = is.entries;
      last = is.state;
      leads = leads;
      stopped = stopped_is k.end is.stands.end_is stopped;
      log_is = is.log_is ∙ ap (λ (l : List ℕ). log_text is.entries ++ l) none ∙ append-nil (log_text is.entries);
    }

  stop_of : (e : End) → IsEnd g is.state e → is.state.end ≡ reading.Stopped → e ≡ end.Stopped
  stop_of end.NotYet i same = absurd (let no : reading.NotYet ≡ reading.Stopped = sym i ∙ same in cc)
  stop_of (end.Edges edges read) i same = absurd (let no : reading.Edges _ ≡ reading.Stopped = sym i.0 ∙ same in cc)
  stop_of end.Stopped i same = refl

  pub read_unlawful : Lacks 10 rest → (rest ≡ [] → k.end ≡ end.Stopped → ⊥) → IsJudgementOf g left log (Judgement.Unlawful line)
  read_unlawful lacks never = by left is.leads where
    none_begins : (entry : Entry) (u : List ℕ) → BeginsWith entry rest u → ⊥
    none_begins entry u begins = lacks_not (entry_text entry) [] u (subst (Lacks 10) begins.bytes_are lacks)

    by : (o : Option (List ℕ)) → IfSome o (λ trace. Leads g (start_of g trace) is.entries is.state) → IfSome o (λ trace. IsUnlawful g trace log line)
    by None leads = tt
    by (Some trace) leads = record {
      entries = is.entries;
      last = is.state;
      leads = leads;
      bytes = rest;
      refused = record {
        over = λ e stopped. never e (stop_of k.end is.stands.end_is stopped);
        refused = λ entry u begins after allowed. none_begins entry u begins;
        within = λ entry u begins beyond. none_begins entry u begins;
      };
      log_is = is.log_is;
      line_is = is.line_is;
    }
