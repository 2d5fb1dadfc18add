-- The requests of a value are answered in turn.
use Rattle.std.proofs.lemmas.Bool.Decides.{Decides-int_eq}
use Rattle.run_history.proofs.Common.{◌≡◌, ◌∙◌, ℕ, zero, suc, ◌+◌, ◌<◌, ℤ, Bool, List, [], ◌∷◌, ◌++◌, Option, Some, None, false, true, take, drop, length, if◌then◌else◌, sym, ap, refl, subst, append_assoc, arith, int_eq, Arrive, Data, Answers, Happening, Came, Lost, Started, Waited, Put, Ran, Nothing, answers_from, clocks_for, clocks_of, value_answers, answered_once, end_of, output_of}
use Rattle.run_history.proofs.Outputs.{IsNone, IsOnce, none-both, none-other, once-before, once-now}

-- ---- equal values

pub equal : (value : ℤ) → int_eq value value ≡ true
equal value = (Decides-int_eq value value).1 refl

same : (a b : ℤ) → int_eq a b ≡ true → a ≡ b
same a b = (Decides-int_eq a b).0

other : (a b : ℤ) → int_eq a b ≡ false → int_eq b a ≡ false
other a b unlike = by (int_eq b a) refl
  where
    by : (t : Bool) → int_eq b a ≡ t → int_eq b a ≡ false
    by true alike = absurd (let clash : true ≡ false = sym ((Decides-int_eq a b).1 (sym (same b a alike))) ∙ unlike in cc)
    by false is = is

-- ---- lists in which a request isn't

pick : (request : ℕ) (t : Bool) (alike unlike : List ℕ) → (t ≡ true → IsNone request alike) → (t ≡ false → IsNone request unlike) → IsNone request (if t then alike else unlike)
pick request true alike unlike a b = a refl
pick request false alike unlike a b = b refl

left-empty : (some more : List ℕ) → some ++ more ≡ [] → some ≡ []
left-empty [] more is = refl
left-empty (x ∷ some) more is = absurd (let clash : x ∷ (some ++ more) ≡ [] = is in cc)

right-empty : (some more : List ℕ) → some ++ more ≡ [] → more ≡ []
right-empty [] more is = is
right-empty (x ∷ some) more is = absurd (let clash : x ∷ (some ++ more) ≡ [] = is in cc)

none-dropped : (request : ℕ) (some : List ℕ) → IsNone request some → IsNone request (drop 1 some)
none-dropped request [] none = none
none-dropped request (x ∷ some) none = λ at. right-empty (clocks_for request at x) (clocks_of request at some) (none at)

pub none-taken : (request : ℕ) (some : List ℕ) → IsNone request some → IsNone request (take 1 some)
none-taken request [] none = none
none-taken request (x ∷ some) none = λ at. ap (λ l. l ++ []) (left-empty (clocks_for request at x) (clocks_of request at some) (none at))

-- ---- the requests of each value that wait, with a request more and with an output more

abbrev pub Joined : ℤ → ℕ → (ℤ → List ℕ) → ℤ → List ℕ
Joined arrived came waiting value = if int_eq arrived value then waiting value ++ came ∷ [] else waiting value

abbrev pub Left : ℤ → (ℤ → List ℕ) → ℤ → List ℕ
Left put waiting value = if int_eq put value then drop 1 (waiting value) else waiting value

pub none-joined : (request came : ℕ) (arrived value : ℤ) (waiting : ℤ → List ℕ) → (came ≡ request → ⊥) → IsNone request (waiting value) → IsNone request (Joined arrived came waiting value)
none-joined request came arrived value waiting differs none =
    pick request (int_eq arrived value) (waiting value ++ came ∷ []) (waiting value) (λ _. none-both request (waiting value) (came ∷ []) none (none-other request came differs)) (λ _. none)

pub none-left : (request : ℕ) (put value : ℤ) (waiting : ℤ → List ℕ) → IsNone request (waiting value) → IsNone request (Left put waiting value)
none-left request put value waiting none = pick request (int_eq put value) (drop 1 (waiting value)) (waiting value) (λ _. none-dropped request (waiting value) none) (λ _. none)

-- ---- a request that is answered stays as it is

settled : (request came : ℕ) (waiting : ℤ → List ℕ) (under_way : List ℕ) (before : Option Answers) (told : List Happening) →
    request < came → ((value : ℤ) → IsNone request (waiting value)) → IsNone request under_way → value_answers request came waiting under_way before told ≡ before
settled request came waiting under_way before [] less none off = refl
settled request came waiting under_way before (Came clock (Arrive arrived) ∷ told) less none off =
    settled request (came + 1) (Joined arrived came waiting) under_way before told (omega arith) (λ value. none-joined request came arrived value waiting (λ is. omega (arith, is)) (none value)) off
settled request came waiting under_way before (Came clock (Data channel sent) ∷ told) less none off = settled request came waiting under_way before told less none off
settled request came waiting under_way before (Lost clock item ∷ told) less none off = settled request came waiting under_way before told less none off
settled request came waiting under_way before (Started thread clock ∷ told) less none off = settled request came waiting under_way before told less none off
settled request came waiting under_way before (Waited wait ∷ told) less none off = settled request came waiting under_way before told less none off
settled request came waiting under_way before (Put thread put ∷ told) less none off =
    settled request came (Left put waiting) (under_way ++ take 1 (waiting put)) before told less (λ value. none-left request put value waiting (none value)) (none-both request under_way (take 1 (waiting put)) off (none-taken request (waiting put) (none put)))
settled request came waiting under_way before (Ran segment free ∷ told) less none off =
    ap (λ l. value_answers request came waiting [] (answers_from before l) told) (off segment.ended) ∙ settled request came waiting [] before told less none (λ at. refl)
settled request came waiting under_way before (Nothing ∷ told) less none off = settled request came waiting under_way before told less none off

-- ---- one that the segment under way answers is answered at its end

settled-now : (request came : ℕ) (waiting : ℤ → List ℕ) (under_way : List ℕ) (told : List Happening) →
    request < came → ((value : ℤ) → IsNone request (waiting value)) → IsOnce request under_way → value_answers request came waiting under_way None told ≡ answered_once (end_of told)
settled-now request came waiting under_way [] less none once = refl
settled-now request came waiting under_way (Came clock (Arrive arrived) ∷ told) less none once =
    settled-now request (came + 1) (Joined arrived came waiting) under_way told (omega arith) (λ value. none-joined request came arrived value waiting (λ is. omega (arith, is)) (none value)) once
settled-now request came waiting under_way (Came clock (Data channel sent) ∷ told) less none once = settled-now request came waiting under_way told less none once
settled-now request came waiting under_way (Lost clock item ∷ told) less none once = settled-now request came waiting under_way told less none once
settled-now request came waiting under_way (Started thread clock ∷ told) less none once = settled-now request came waiting under_way told less none once
settled-now request came waiting under_way (Waited wait ∷ told) less none once = settled-now request came waiting under_way told less none once
settled-now request came waiting under_way (Put thread put ∷ told) less none once =
    settled-now request came (Left put waiting) (under_way ++ take 1 (waiting put)) told less (λ value. none-left request put value waiting (none value)) (once-before request under_way (take 1 (waiting put)) once (none-taken request (waiting put) (none put)))
settled-now request came waiting under_way (Ran segment free ∷ told) less none once =
    ap (λ l. value_answers request came waiting [] (answers_from None l) told) (once segment.ended) ∙ settled request came waiting [] (answered_once (Some segment.ended)) told less none (λ at. refl)
settled-now request came waiting under_way (Nothing ∷ told) less none once = settled-now request came waiting under_way told less none once

-- ---- one that waits behind others of its value gets the output of that number, of those of its value that follow

-- it waits there, and nowhere else
pub record Stands (request came : ℕ) (value : ℤ) (waiting : ℤ → List ℕ) (first rest under_way : List ℕ) : Type 0 where
  pub less : request < came
  pub here : waiting value ≡ first ++ request ∷ rest
  pub before : IsNone request first
  pub behind : IsNone request rest
  pub others : (u : ℤ) → int_eq value u ≡ false → IsNone request (waiting u)
  pub off : IsNone request under_way

joins : (t : Bool) (some first rest : List ℕ) (request came : ℕ) → some ≡ first ++ request ∷ rest → (if t then some ++ came ∷ [] else some) ≡ first ++ request ∷ (if t then rest ++ came ∷ [] else rest)
joins true some first rest request came is = ap (λ l. l ++ came ∷ []) is ∙ append_assoc first (request ∷ rest) (came ∷ [])
joins false some first rest request came is = is

stands-joined : (request came : ℕ) (value arrived : ℤ) (waiting : ℤ → List ℕ) (first rest under_way : List ℕ) → Stands request came value waiting first rest under_way →
    Stands request (came + 1) value (Joined arrived came waiting) first (if int_eq arrived value then rest ++ came ∷ [] else rest) under_way
stands-joined request came value arrived waiting first rest under_way s =
    let less = s.less in
    let differs : came ≡ request → ⊥ = λ is. omega (arith, is, less) in
    record {
      less = omega (arith, less);
      here = joins (int_eq arrived value) (waiting value) first rest request came s.here;
      before = s.before;
      behind = pick request (int_eq arrived value) (rest ++ came ∷ []) rest (λ _. none-both request rest (came ∷ []) s.behind (none-other request came differs)) (λ _. s.behind);
      others = λ u unlike. none-joined request came arrived u waiting differs (s.others u unlike);
      off = s.off;
    }

-- an output of another value
stands-aside : (request came : ℕ) (value put : ℤ) (waiting : ℤ → List ℕ) (first rest under_way : List ℕ) → int_eq put value ≡ false → Stands request came value waiting first rest under_way →
    Stands request came value (Left put waiting) first rest (under_way ++ take 1 (waiting put))
stands-aside request came value put waiting first rest under_way unlike s = record {
  less = s.less;
  here = ap (λ t. if t then drop 1 (waiting value) else waiting value) unlike ∙ s.here;
  before = s.before;
  behind = s.behind;
  others = λ u is. none-left request put u waiting (s.others u is);
  off = none-both request under_way (take 1 (waiting put)) s.off (none-taken request (waiting put) (s.others put (other put value unlike)));
}

-- an output of its value, which is the answer to another
stands-nearer : (request came one : ℕ) (value : ℤ) (waiting : ℤ → List ℕ) (first rest under_way : List ℕ) → Stands request came value waiting (one ∷ first) rest under_way →
    Stands request came value (Left value waiting) first rest (under_way ++ take 1 (waiting value))
stands-nearer request came one value waiting first rest under_way s = record {
  less = s.less;
  here = ap (λ t. if t then drop 1 (waiting value) else waiting value) (equal value) ∙ ap (drop 1) s.here;
  before = none-dropped request (one ∷ first) s.before;
  behind = s.behind;
  others = λ u is. none-left request value u waiting (s.others u is);
  off = none-both request under_way (take 1 (waiting value)) s.off (subst (IsNone request) (sym (ap (take 1) s.here)) (none-taken request (one ∷ first) s.before));
}

skips : (value put : ℤ) (thread : ℕ) (told : List Happening) (number : ℕ) → int_eq put value ≡ false → output_of value (Put thread put ∷ told) number ≡ output_of value told number
skips value put thread told zero unlike = ap (λ t. if t then end_of told else output_of value told zero) unlike
skips value put thread told (suc number) unlike = ap (λ t. if t then output_of value told number else output_of value told (suc number)) unlike

abbrev Follows : ℕ → ℕ → ℤ → (ℤ → List ℕ) → List ℕ → List ℕ → List Happening → Type 0
Follows request came value waiting first under_way told = value_answers request came waiting under_way None told ≡ answered_once (output_of value told (length first))

-- the oldest of its value is answered by the next output of it
follows-first : (request came thread : ℕ) (value : ℤ) (waiting : ℤ → List ℕ) (rest under_way : List ℕ) (told : List Happening) →
    Stands request came value waiting [] rest under_way → Follows request came value waiting [] under_way (Put thread value ∷ told)
follows-first request came thread value waiting rest under_way told s =
    let gone : (u : ℤ) → IsNone request (Left value waiting u) = λ u. pick request (int_eq value u) (drop 1 (waiting u)) (waiting u)
    (λ alike. subst (IsNone request) (sym (ap (drop 1) (ap waiting (sym (same value u alike)) ∙ s.here))) s.behind) (λ unlike. s.others u unlike) in
    let once : IsOnce request (under_way ++ take 1 (waiting value)) =
    subst (λ l. IsOnce request (under_way ++ l)) (sym (ap (take 1) s.here)) (once-now request request under_way s.off refl) in
    settled-now request came (Left value waiting) (under_way ++ take 1 (waiting value)) told s.less gone once
    ∙ ap answered_once (sym (ap (λ t. if t then end_of told else output_of value told zero) (equal value)))

-- so it is with all that follows
abbrev AllFollow : ℕ → ℤ → List Happening → Type 0
AllFollow request value told = (came : ℕ) (waiting : ℤ → List ℕ) (first rest under_way : List ℕ) → Stands request came value waiting first rest under_way → Follows request came value waiting first under_way told

follows-put : (request came thread : ℕ) (value : ℤ) (waiting : ℤ → List ℕ) (first rest under_way : List ℕ) (told : List Happening) → AllFollow request value told →
    Stands request came value waiting first rest under_way → Follows request came value waiting first under_way (Put thread value ∷ told)
follows-put request came thread value waiting [] rest under_way told next s = follows-first request came thread value waiting rest under_way told s
follows-put request came thread value waiting (one ∷ first) rest under_way told next s =
    next came (Left value waiting) first rest (under_way ++ take 1 (waiting value)) (stands-nearer request came one value waiting first rest under_way s)
    ∙ ap answered_once (sym (ap (λ t. if t then output_of value told (length first) else output_of value told (length (one ∷ first))) (equal value)))

follows-some : (t : Bool) (request came thread : ℕ) (value put : ℤ) (waiting : ℤ → List ℕ) (first rest under_way : List ℕ) (told : List Happening) → AllFollow request value told → int_eq put value ≡ t →
    Stands request came value waiting first rest under_way → Follows request came value waiting first under_way (Put thread put ∷ told)
follows-some true request came thread value put waiting first rest under_way told next is s =
    subst (λ (p : ℤ). Follows request came value waiting first under_way (Put thread p ∷ told)) (sym (same put value is)) (follows-put request came thread value waiting first rest under_way told next s)
follows-some false request came thread value put waiting first rest under_way told next is s =
    next came (Left put waiting) first rest (under_way ++ take 1 (waiting put)) (stands-aside request came value put waiting first rest under_way is s)
    ∙ ap answered_once (sym (skips value put thread told (length first) is))

pub follows : (request came : ℕ) (value : ℤ) (waiting : ℤ → List ℕ) (first rest under_way : List ℕ) (told : List Happening) →
    Stands request came value waiting first rest under_way → Follows request came value waiting first under_way told
follows request came value waiting first rest under_way [] s = refl
follows request came value waiting first rest under_way (Came clock (Arrive arrived) ∷ told) s =
    follows request (came + 1) value (Joined arrived came waiting) first (if int_eq arrived value then rest ++ came ∷ [] else rest) under_way told (stands-joined request came value arrived waiting first rest under_way s)
follows request came value waiting first rest under_way (Came clock (Data channel sent) ∷ told) s = follows request came value waiting first rest under_way told s
follows request came value waiting first rest under_way (Lost clock item ∷ told) s = follows request came value waiting first rest under_way told s
follows request came value waiting first rest under_way (Started thread clock ∷ told) s = follows request came value waiting first rest under_way told s
follows request came value waiting first rest under_way (Waited wait ∷ told) s = follows request came value waiting first rest under_way told s
follows request came value waiting first rest under_way (Put thread put ∷ told) s = follows-some (int_eq put value) request came thread value put waiting first rest under_way told
    (λ came' waiting' first' rest' under_way' s'. follows request came' value waiting' first' rest' under_way' told s') refl s
follows request came value waiting first rest under_way (Ran segment free ∷ told) s =
    ap (λ l. value_answers request came waiting [] (answers_from None l) told) (s.off segment.ended)
    ∙ follows request came value waiting first rest [] told (record { less = s.less; here = s.here; before = s.before; behind = s.behind; others = s.others; off = λ at. refl })
follows request came value waiting first rest under_way (Nothing ∷ told) s = follows request came value waiting first rest under_way told s
