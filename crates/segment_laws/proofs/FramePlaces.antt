-- The places of variables and return address in a frame, from the rules.
use Rattle.segment_laws.proofs.Common.{◌≡◌, ℕ, zero, suc, ◌+◌, ◌*◌, ◌%◌, ◌<◌, ◌≤◌, List, [], ◌∷◌, ◌++◌, length, get_or, refl, sym, ap, ◌∙◌, arith, ⊎_elim, cases_lt, FlatCode, function_at, Image, Certificate, FunctionFact, fact_at, AreApart, frame_places, frame_words, IsPlaced, IsValid, FrameFacts}

before_last : (xs : List ℕ) (y i : ℕ) → i < length xs → get_or (xs ++ y ∷ []) i 0 ≡ get_or xs i 0
before_last [] y i below = absurd (omega arith)
before_last (x ∷ xs) y zero below = refl
before_last (x ∷ xs) y (suc i) below = before_last xs y i (omega arith)

at_last : (xs : List ℕ) (y : ℕ) → get_or (xs ++ y ∷ []) (length xs) 0 ≡ y
at_last [] y = refl
at_last (x ∷ xs) y = at_last xs y

-- a word of one run is no word of another
words_apart : (a m b n j k : ℕ) → AreApart a m b n → j < m → k < n → a + 4 * j ≡ b + 4 * k → ⊥
words_apart a m b n j k apart inside other equal = apart.no_byte (a + 4 * j) (omega arith, omega arith) (omega arith, omega arith)

-- place x of a frame, for a variable
record HasPlace (fact : FunctionFact) (sizes : List ℕ) (x : ℕ) : Type 0 where
  place : get_or (frame_places fact) x 0 ≡ get_or fact.places x 0
  words : get_or (frame_words sizes) x 0 ≡ get_or sizes x 0

has_place : (fact : FunctionFact) (sizes : List ℕ) (x : ℕ) → length fact.places ≡ length sizes → x < length sizes → HasPlace fact sizes x
has_place fact sizes x same below = record { place = before_last fact.places fact.ra x (omega arith); words = before_last sizes 1 x below }

pub FrameFacts-valid : (code : FlatCode) (image : Image) (certificate : Certificate) (f : ℕ) → IsValid code image certificate → f < length code.functions → FrameFacts (record { flat = code; certificate = certificate }) f
FrameFacts-valid code image certificate f valid there =
    let fact = fact_at certificate f in
    let sizes : List ℕ = (function_at code f).sizes in
    let count : length fact.places ≡ length sizes = ((valid.holds 1 f 4).v1 refl).places refl there in
    let frame = ((valid.holds 3 f 0).v3 refl).frame refl there in
    let placed = (λ (x : ℕ) (small : x ≤ length sizes). (let is : IsPlaced fact sizes x = ((valid.holds 4 f x).v4 refl).placed there small in is)) in
    let last = placed (length sizes) (omega arith) in
    let ra_place : get_or (frame_places fact) (length sizes) 0 ≡ fact.ra = ap (λ (n : ℕ). get_or (frame_places fact) n 0) (sym count) ∙ at_last fact.places fact.ra in
    let ra_words : get_or (frame_words sizes) (length sizes) 0 ≡ 1 = at_last sizes 1 in
    let last_aligned = last.aligned in
    let last_inside = last.inside in
    record {
      aligned = frame.0;
      least = frame.1;
      most = frame.2;
      place_aligned = λ x below.
          let is = placed x (omega arith) in
          let has = has_place fact sizes x count below in
          ap (λ (n : ℕ). n % 4) (sym has.place) ∙ is.aligned;
      place_inside = λ x below.
          let is = placed x (omega arith) in
          let has = has_place fact sizes x count below in
          let inside = is.inside in
          omega (arith, inside, has.place, has.words);
      places_apart = λ x y j k x_below y_below differ j_in k_in equal.
          let first = placed x (omega arith) in
          let second = placed y (omega arith) in
          let at_x = has_place fact sizes x count x_below in
          let at_y = has_place fact sizes y count y_below in
          ⊎_elim
          (λ (lower : y < x).
          words_apart (get_or (frame_places fact) x 0) (get_or (frame_words sizes) x 0) (get_or (frame_places fact) y 0) (get_or (frame_words sizes) y 0) j k (first.apart y lower)
          (omega (arith, at_x.words, j_in)) (omega (arith, at_y.words, k_in)) (omega (arith, at_x.place, at_y.place, equal)))
          (λ (upper : x ≤ y).
          words_apart (get_or (frame_places fact) y 0) (get_or (frame_words sizes) y 0) (get_or (frame_places fact) x 0) (get_or (frame_words sizes) x 0) k j (second.apart x (omega (arith, upper, differ)))
          (omega (arith, at_y.words, k_in)) (omega (arith, at_x.words, j_in)) (omega (arith, at_x.place, at_y.place, equal)))
          (cases_lt y x);
      ra_aligned = ap (λ (n : ℕ). n % 4) (sym ra_place) ∙ last.aligned;
      ra_inside = omega (arith, last_inside, ra_place, ra_words);
      ra_apart = λ x j below inside equal.
          let at_x = has_place fact sizes x count below in
          words_apart (get_or (frame_places fact) (length sizes) 0) (get_or (frame_words sizes) (length sizes) 0) (get_or (frame_places fact) x 0) (get_or (frame_words sizes) x 0) 0 j (last.apart x below)
          (omega (arith, ra_words)) (omega (arith, at_x.words, inside)) (omega (arith, ra_place, at_x.place, equal));
    }
