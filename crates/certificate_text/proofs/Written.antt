-- What a text has after each line or field that is appended.
use Rattle.std.specs.Int.{w128}
use Rattle.certificate_text.proofs.Common.{◌≡◌, ℕ, ℤ, pos, ◌+◌, ◌^◌, ◌<◌, List, [], ◌∷◌, ◌++◌, length, get_or, take, map, refl, ap, ◌∙◌, sym, subst, arith, to_z, of_z, FitsSigned, AllByRecursion, flat_map_more, map_more, canonical_decimal, canonical_integer, after_each, ended_lines, FunctionFact, function_line, HoldsFunctionWords, All-more}
use Rattle.std.proofs.lemmas.Int.{to_z-of_z}

decimal_of_pos : (n : ℕ) → canonical_integer (pos n) ≡ canonical_decimal n
unfolding canonical_integer
decimal_of_pos n = refl

-- a number of 32 bits, widened to 128 signed bits
pub widened : (z : ℤ) (n : ℕ) → n < 2 ^ 32 → z ≡ pos n → canonical_integer (to_z w128 (of_z w128 z)) ≡ canonical_decimal n
widened z n small e =
    let fits : FitsSigned w128 z = rw e (record { sfits = omega arith }) in
    ap canonical_integer (to_z-of_z w128 z fits ∙ e) ∙ decimal_of_pos n

pub fields_more : (start text numbers : List ℕ) (i d : ℕ) → i < length numbers → text ≡ start ++ after_each 32 (map canonical_decimal (take i numbers))
    → text ++ (32 ∷ canonical_decimal (get_or numbers i d)) ≡ start ++ after_each 32 (map canonical_decimal (take (i + 1) numbers))
fields_more start text numbers i d l e =
    ap (λ x. x ++ (32 ∷ canonical_decimal (get_or numbers i d))) e
    ∙ flat_map_more (λ field. 32 ∷ field) start (map canonical_decimal (take i numbers)) (canonical_decimal (get_or numbers i d))
    ∙ ap (λ x. start ++ after_each 32 x) (sym (map_more canonical_decimal numbers i d l))

pub lines_more : {A : Type 0} (f : A → List ℕ) (start text : List ℕ) (facts : List A) (i : ℕ) (d : A) → i < length facts → text ≡ start ++ ended_lines (map f (take i facts))
    → text ++ (f (get_or facts i d) ++ 10 ∷ []) ≡ start ++ ended_lines (map f (take (i + 1) facts))
lines_more f start text facts i d l e =
    ap (λ x. x ++ (f (get_or facts i d) ++ 10 ∷ [])) e
    ∙ flat_map_more (λ line. line ++ 10 ∷ []) start (map f (take i facts)) (f (get_or facts i d))
    ∙ ap (λ x. start ++ ended_lines x) (sym (map_more f facts i d l))

-- the line of one function more
pub one_function_more : (start text new : List ℕ) (facts : List FunctionFact) (i : ℕ) (d fact : FunctionFact) → new ≡ text ++ (function_line fact ++ 10 ∷ []) → HoldsFunctionWords fact
    → i < length facts → (text ≡ start ++ ended_lines (map function_line (take i facts))) × AllByRecursion HoldsFunctionWords (take i facts) → fact ≡ get_or facts i d
    → (new ≡ start ++ ended_lines (map function_line (take (i + 1) facts))) × AllByRecursion HoldsFunctionWords (take (i + 1) facts)
one_function_more start text new facts i d fact line words l before is = (
  line ∙ (ap (λ (x : FunctionFact). text ++ (function_line x ++ 10 ∷ [])) is ∙ lines_more function_line start text facts i d l before.0),
  All-more HoldsFunctionWords facts i d l before.1 (subst HoldsFunctionWords is words),
)
