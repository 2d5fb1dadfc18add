-- One operation more in a list of ready operations.
use Rattle.decoded_code.proofs.Common.{◌≡◌, ℕ, zero, suc, ◌+◌, ◌%◌, ◌^◌, ◌<◌, ◌⊎◌, inl, inr, ◌++◌, List, [], ◌∷◌, length, Option, Some, refl, sym, ap, subst, ◌∙◌, arith, slice_get, slice_index, decoding, Instr, place_at, IsReadyAt, AreEachReady, Ready}
use Rattle.std.proofs.lemmas.List.{length_push}

pub pushed : {X : Type 0} (xs : List X) (x y : X) (k : ℕ) → slice_get (xs ++ (x ∷ [])) k ≡ Some y → (slice_get xs k ≡ Some y) ⊎ ((k ≡ length xs) × (x ≡ y))
pushed [] x y zero e = inr (refl, cc)
pushed [] x y (suc k) e = absurd (cc)
pushed (z ∷ xs) x y zero e = inl e
pushed (z ∷ xs) x y (suc k) e = elim (pushed xs x y k e) [ inl h ↦ inl h | inr h ↦ inr (omega (arith, h.0), h.1) ]

read_is : (words : List ℕ) (at word : ℕ) → slice_get words at ≡ Some word → slice_index words at ≡ word
read_is [] at word e = absurd (cc)
read_is (w ∷ words) zero word e = cc
read_is (w ∷ words) (suc at) word e = read_is words at word e

pub one_more : (words : List ℕ) (n place : ℕ) (old new : List Ready) (op : Ready) (found : Option Instr) → AreEachReady words n old → place ≡ place_at n % 2 ^ 32 → new ≡ old ++ (op ∷ []) →
    found ≡ decoding (slice_index words n) → IsReadyAt op place found → AreEachReady words (n + 1) new
one_more words n place old new op found are place_is is decoded ready = subst (AreEachReady words (n + 1)) (sym is) (record {
  count_is = length_push old op ∙ ap (λ k. k + 1) are.count_is;
  each = λ at word op' fits there got. elim (pushed old op op' at got) [
    | inl h ↦ are.each at word op' fits there h
    | inr h ↦ here at word op' fits there (h.0 ∙ are.count_is) h.1
  ];
})
  where
    here : (at word : ℕ) (op' : Ready) → place_at at < 2 ^ 32 → slice_get words at ≡ Some word → at ≡ n → op ≡ op' → IsReadyAt op' (place_at at) (decoding word)
    here at word op' fits there last same =
        let place_here : place ≡ place_at at = omega (arith, place_is, fits, last) in
        let word_here : found ≡ decoding word = decoded ∙ ap (λ (k : ℕ). decoding (slice_index words k)) (sym last) ∙ ap decoding (read_is words at word there) in
        subst (λ (o : Ready). IsReadyAt o (place_at at) (decoding word)) same
        (subst (λ (p : ℕ). IsReadyAt op p (decoding word)) place_here
        (subst (IsReadyAt op place) word_here ready))
