-- Places in a frame.
use Rattle.rule_failures.proofs.Common.{◌≡◌, ℕ, ◌+◌, ◌*◌, ◌%◌, ◌<◌, ◌≤◌, List, [], ◌∷◌, length, arith, refl, sym, ap, subst, Option, inl, inr, slice_index, get_or_append_left, get_or_at, FlatCode, function_at, Certificate, FunctionFact, fact_at, AreApart, V4, IsPlaced, frame_places, frame_words, cases_lt, IsFirst}
use Rattle.rule_failures.proofs.FirstLemmas.{first_same}

pub place_of : (fact : FunctionFact) (x : ℕ) → x < length fact.places → slice_index (frame_places fact) x ≡ slice_index fact.places x
place_of fact x lt = get_or_append_left fact.places (fact.ra ∷ []) 0 x lt

pub words_of : (sizes : List ℕ) (x : ℕ) → x < length sizes → slice_index (frame_words sizes) x ≡ slice_index sizes x
words_of sizes x lt = get_or_append_left sizes (1 ∷ []) 0 x lt

pub place_of_ra : (fact : FunctionFact) (x : ℕ) → length fact.places ≡ x → slice_index (frame_places fact) x ≡ fact.ra
place_of_ra fact x e = get_or_at fact.places fact.ra [] 0 x e

pub words_of_ra : (sizes : List ℕ) → slice_index (frame_words sizes) (length sizes) ≡ 1
words_of_ra sizes = get_or_at sizes 1 [] 0 (length sizes) refl

-- what is looked at
pub taken_as : (fact : FunctionFact) (sizes : List ℕ) (x place words : ℕ) → slice_index (frame_places fact) x ≡ place → slice_index (frame_words sizes) x ≡ words → IsPlaced fact sizes x →
    (place % 4 ≡ 0) × (place + 4 * words ≤ fact.frame) ×
    ((y : ℕ) → y < x → AreApart (slice_index (frame_places fact) x) (slice_index (frame_words sizes) x) (slice_index (frame_places fact) y) (slice_index (frame_words sizes) y))
taken_as fact sizes x place words e f h = (
  subst (λ (p : ℕ). p % 4 ≡ 0) e h.aligned,
  (let room = h.inside in omega arith),
  h.apart,
)

pub placed_as : (fact : FunctionFact) (sizes : List ℕ) (x place words : ℕ) → slice_index (frame_places fact) x ≡ place → slice_index (frame_words sizes) x ≡ words →
    (place % 4 ≡ 0) × (place + 4 * words ≤ fact.frame) ×
    ((y : ℕ) → y < x → AreApart (slice_index (frame_places fact) x) (slice_index (frame_words sizes) x) (slice_index (frame_places fact) y) (slice_index (frame_words sizes) y)) →
    IsPlaced fact sizes x
placed_as fact sizes x place words e f h = record {
  aligned = subst (λ (p : ℕ). p % 4 ≡ 0) (sym e) h.0;
  inside = (let room = h.1 in omega arith);
  apart = h.2;
}

pub v4_from : (code : FlatCode) (certificate : Certificate) (f x : ℕ) (fact : FunctionFact) (sizes : List ℕ) → fact ≡ fact_at certificate f → sizes ≡ (function_at code f).sizes →
    IsPlaced fact sizes x → V4 code certificate f x
v4_from code certificate f x fact sizes e s h = record {
  placed = λ inside le. subst (λ l. IsPlaced (fact_at certificate f) l x) s (subst (λ z. IsPlaced z sizes x) e h);
}

pub v4_to : (code : FlatCode) (certificate : Certificate) (f x : ℕ) (fact : FunctionFact) (sizes : List ℕ) → fact ≡ fact_at certificate f → sizes ≡ (function_at code f).sizes →
    f < length code.functions → x ≤ length sizes → V4 code certificate f x → IsPlaced fact sizes x
v4_to code certificate f x fact sizes e s inside le h =
    let there : x ≤ length (function_at code f).sizes = subst (λ (l : List ℕ). x ≤ length l) s le in
    subst (λ z. IsPlaced z sizes x) (sym e) (subst (λ l. IsPlaced (fact_at certificate f) l x) (sym s) (h.placed inside there))

-- behind the return address there is no place
pub v4_past : (code : FlatCode) (certificate : Certificate) (f x : ℕ) (sizes : List ℕ) → sizes ≡ (function_at code f).sizes → length sizes < x → V4 code certificate f x
v4_past code certificate f x sizes s past = record {
  placed = λ inside le. absurd (let there = ap length s in omega arith);
}

pub v4_first : (code : FlatCode) (certificate : Certificate) (f : ℕ) (fact : FunctionFact) (sizes : List ℕ) → fact ≡ fact_at certificate f → sizes ≡ (function_at code f).sizes →
    f < length code.functions → (r : Option ℕ) → IsFirst (λ x. x ≤ length sizes → IsPlaced fact sizes x) r → IsFirst (V4 code certificate f) r
v4_first code certificate f fact sizes e s inside r h =
    first_same (λ x. x ≤ length sizes → IsPlaced fact sizes x) (V4 code certificate f) to (λ x v le. v4_to code certificate f x fact sizes e s inside le v) r h
  where
    to : (x : ℕ) → (x ≤ length sizes → IsPlaced fact sizes x) → V4 code certificate f x
    to x placed = elim (cases_lt (length sizes) x) [
      | inl past ↦ v4_past code certificate f x sizes s past
      | inr within ↦ v4_from code certificate f x fact sizes e s (placed within)
    ]
