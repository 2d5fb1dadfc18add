-- The pieces of a text, one after another.
use Rattle.cap_text.proofs.Common.{◌≡◌, ℕ, ◌+◌, ◌-◌, ◌<◌, ◌≤◌, Bool, true, false, cond, List, [], ◌∷◌, length, take, drop, refl, sym, arith, ◌==◌, Option, Some, None, is_some, not, nat_lt, position, position_or_len, take_rest, slice_split_none, slice_split_first, length-slice_split, fails_before_first, ne_eqb, ltb-true, ltb-false, pieces, pieces_left}
use denote.Ref.{Bor}

abbrev pub nothing : Option ℕ
nothing = None

pub found : (n most at : ℕ) → Some at ≡ cond (nat_lt n most) (Some n) None → (n < most) × (at ≡ n)
found n most at e = decided (nat_lt n most) refl e
  where
    decided : (b : Bool) → b ≡ nat_lt n most → Some at ≡ cond b (Some n) None → (n < most) × (at ≡ n)
    decided true is eq = (let t : nat_lt n most ≡ true = sym is in omega (arith, ltb-true), cc)
    decided false is eq = absurd (cc)

pub lost : (n most : ℕ) → nothing ≡ cond (nat_lt n most) (Some n) None → most ≤ n
lost n most e = decided (nat_lt n most) refl e
  where
    decided : (b : Bool) → b ≡ nat_lt n most → nothing ≡ cond b (Some n) None → most ≤ n
    decided true is eq = absurd (cc)
    decided false is eq = let t : nat_lt n most ≡ false = sym is in omega (arith, ltb-false)

pub piece_at : (separator : ℕ) (text : List ℕ) (at : ℕ) → Some at ≡ position (λ byte. byte == separator) text
    → (at < length text) × (pieces separator text ≡ take at text ∷ pieces separator (take (length text - (at + 1)) (drop (at + 1) text)))
piece_at separator text at e =
    let is = λ (byte : ℕ). byte == separator in
    let place = found (position_or_len is text) (length text) at e in
    rw (place.1, take_rest text (position_or_len is text + 1)) (place.0, slice_split_first is text 0 place.0)

pub last_piece : (separator : ℕ) (text : List ℕ) → None ≡ position (λ byte. byte == separator) text → pieces separator text ≡ text ∷ []
last_piece separator text e =
    let is = λ (byte : ℕ). byte == separator in
    let none = lost (position_or_len is text) (length text) e in
    slice_split_none is text (λ k d l. fails_before_first is text k d (omega arith))

pub some_pieces : (separator : ℕ) (text : List ℕ) → 0 < length (pieces separator text)
some_pieces separator text = omega (arith, length-slice_split (λ byte. byte == separator) text)

pub over_is : (separator : ℕ) (rest : Option (Bor (List ℕ))) (b : Bool) → not b ≡ is_some rest → b ≡ (length (pieces_left separator rest) == 0)
over_is separator None true e = refl
over_is separator (Some rest) false e = sym (ne_eqb (length (pieces separator rest.now)) 0 (λ none. let some = some_pieces separator rest.now in omega arith))
over_is separator _ _ e = absurd (cc)
