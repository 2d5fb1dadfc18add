-- Where a line ends: at the first LF.
use Rattle.certificate_text.proofs.Common.{◌≡◌, ℕ, suc, ◌+◌, ◌<◌, ◌≤◌, Bool, true, false, cond, List, [], ◌∷◌, ◌++◌, length, get_or, take, drop, refl, ap, sym, ◌∙◌, arith, ◌==◌, Some, None, length-append, position, position_or_len, get_or-take, length-take-le, eq-eqb, canonical_decimal, Lacks, lacks-append, visible_lacks, visible_decimal}
use Rattle.std.proofs.lemmas.List.Sums.{split_at_first, passes_at_first, fails_before_first}
use Rattle.std.proofs.lemmas.Bool.{eqb-true}
use Rattle.cap_text.proofs.PieceSteps.{found, lost}

-- a text has one first line
pub split_same : (a b c d : List ℕ) → Lacks 10 a → Lacks 10 c → a ++ 10 ∷ b ≡ c ++ 10 ∷ d → (a ≡ c) × (b ≡ d)
split_same [] b [] d na nc e = (refl, cc)
split_same [] b (x ∷ c) d na nc e =
    let same : x ≡ 10 = cc in
    let yes : (x == 10) ≡ true = eq-eqb x 10 same in
    let no : (x == 10) ≡ false = nc.0 in
    absurd (cc)
split_same (x ∷ a) b [] d na nc e =
    let same : x ≡ 10 = cc in
    let yes : (x == 10) ≡ true = eq-eqb x 10 same in
    let no : (x == 10) ≡ false = na.0 in
    absurd (cc)
split_same (x ∷ a) b (y ∷ c) d na nc e =
    let heads : x ≡ y = cc in
    let rest = split_same a b c d na.1 nc.1 (cc) in
    ((λ i. heads i ∷ rest.0 i), rest.1)

-- whether a text has no LF, as a test that computes on words
abbrev pub unbroken : List ℕ → Bool
unbroken [] = true
unbroken (c ∷ cs) = cond (c == 10) false (unbroken cs)

pub from_unbroken : (text : List ℕ) → unbroken text ≡ true → Lacks 10 text
from_unbroken [] e = tt
from_unbroken (c ∷ cs) e = step (c == 10) refl e (from_unbroken cs)
  where
    step : (b : Bool) → (c == 10) ≡ b → cond b false (unbroken cs) ≡ true → (unbroken cs ≡ true → Lacks 10 cs) → ((c == 10) ≡ false) × Lacks 10 cs
    step true is h rest = absurd (cc)
    step false is h rest = (is, rest h)

-- the first line, by the place of the first LF

abbrev is_line_feed : ℕ → Bool
is_line_feed byte = byte == 10

lacks_by : (text : List ℕ) → ((k : ℕ) → k < length text → is_line_feed (get_or text k 0) ≡ false) → Lacks 10 text
lacks_by [] h = tt
lacks_by (c ∷ text) h = (h 0 (omega arith), lacks_by text (λ k l. h (suc k) (omega arith)))

-- what a line that was found is
pub record IsLineAt (text : List ℕ) (at : ℕ) : Type 0 where
  pub inside : at < length text
  pub whole : text ≡ take at text ++ 10 ∷ drop (at + 1) text
  pub lacks : Lacks 10 (take at text)

pub line_at : (text : List ℕ) (at : ℕ) → Some at ≡ position is_line_feed text → IsLineAt text at
line_at text at e =
    let place = found (position_or_len is_line_feed text) (length text) at e in
    let here : get_or text (position_or_len is_line_feed text) 0 ≡ 10 = eqb-true _ _ (passes_at_first is_line_feed text 0 place.0) in
    rw place.1 (record {
      inside = place.0;
      whole = split_at_first is_line_feed text 0 place.0 ∙ ap (λ x. take (position_or_len is_line_feed text) text ++ x ∷ drop (position_or_len is_line_feed text + 1) text) here;
      lacks = lacks_by (take (position_or_len is_line_feed text) text) (λ k l.
          let below : k < position_or_len is_line_feed text = omega (arith, length-take-le (position_or_len is_line_feed text) text (omega arith)) in
          rw (get_or-take (position_or_len is_line_feed text) text k 0 below) (fails_before_first is_line_feed text k 0 below));
    })

middle : (line more : List ℕ) → get_or (line ++ 10 ∷ more) (length line) 0 ≡ 10
middle [] more = refl
middle (c ∷ line) more = middle line more

pub no_line_at : (text : List ℕ) → None ≡ position is_line_feed text → (line more : List ℕ) → text ≡ line ++ 10 ∷ more → ⊥
no_line_at text e line more is =
    let past = lost (position_or_len is_line_feed text) (length text) e in
    let size : length text ≡ length line + suc (length more) = ap length is ∙ length-append line (10 ∷ more) in
    let fails : is_line_feed (get_or text (length line) 0) ≡ false = fails_before_first is_line_feed text (length line) 0 (omega arith) in
    let here : get_or text (length line) 0 ≡ 10 = ap (λ (t : List ℕ). get_or t (length line) 0) is ∙ middle line more in
    let yes : is_line_feed (get_or text (length line) 0) ≡ true = eq-eqb _ _ here in
    absurd (cc)

-- the line of a start and a number, where the first line is another

pub no_number_line : (text line rest start : List ℕ) (most : ℕ) → text ≡ line ++ 10 ∷ rest → Lacks 10 line → Lacks 10 start
    → ((n : ℕ) → n ≤ most → line ≡ start ++ canonical_decimal n → ⊥) → (n : ℕ) (more : List ℕ) → n ≤ most → text ≡ (start ++ canonical_decimal n) ++ 10 ∷ more → ⊥
no_number_line text line rest start most e lacks plain none n more small is =
    none n small (split_same line rest (start ++ canonical_decimal n) more lacks (lacks-append 10 start (canonical_decimal n) plain (visible_lacks 10 _ (omega arith) (visible_decimal n))) (sym e ∙ is)).0
