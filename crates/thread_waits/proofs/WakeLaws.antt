-- The least number of a tree is that of somebody who waits, and nobody waits for a lesser one.
use Rattle.thread_waits.proofs.Common.{◌≡◌, ◌≢◌, ℕ, zero, suc, ◌+◌, ◌*◌, ◌/◌, ◌<◌, ◌≤◌, ◌⊎◌, inl, inr, List, [], ◌∷◌, length, Option, Some, None, refl, sym, ◌∙◌, ap, subst, arith, slice_index_or, get_or_past, All-get_or, Wait, IsLeast, IsBetween, IsTreeOf, no_number, number_or, HasPlace}
use Rattle.thread_waits.proofs.BlockLaws.{past_or_not}

-- what is read at a place doesn't depend on the default
pub any_default : (xs : List ℕ) (k d e : ℕ) → k < length xs → slice_index_or xs k d ≡ slice_index_or xs k e
any_default [] k d e h = absurd (omega arith)
any_default (x ∷ xs) zero d e h = refl
any_default (x ∷ xs) (suc k) d e h = any_default xs k d e (omega arith)

within : (f : Option Wait → Option ℕ) → f None ≡ None → (xs : List (Option Wait)) (k n : ℕ) → f (slice_index_or xs k None) ≡ Some n → (k < length xs) ⊎ (length xs ≤ k) → k < length xs
within f none xs k n e (inl h) = h
within f none xs k n e (inr h) = let a : f (slice_index_or xs k None) ≡ None = rw (get_or_past xs k None h) none in absurd (cc)

module _ (f : Option Wait → Option ℕ) (none : f None ≡ None) (places : List (Option Wait)) (leaves : List ℕ) (t : IsTreeOf f places leaves) where
  -- the least number stands at a place
  pub place_of : (least : ℕ) → IsLeast leaves least → least ≢ no_number → HasPlace f places least
  place_of least l d =
      let block : ℕ = l.there.0 in
      let here : slice_index_or leaves block no_number ≡ least = any_default leaves block no_number least l.there.1 ∙ l.there.2 in
      let s : IsBetween f places (16 * block) (16 * block + 16) (slice_index_or leaves block no_number) = (t.leaf block).stands (λ e. d (sym here ∙ e)) in
      let is : f (slice_index_or places s.place None) ≡ Some least = s.number_is ∙ ap Some here in
      record { place = s.place; there = within f none places s.place least is (past_or_not (length places) s.place); number = is }

  -- no number that is waited for is less
  pub no_lower : (least : ℕ) → IsLeast leaves least → (k : ℕ) → k < length places → least ≤ number_or (f (slice_index_or places k None))
  no_lower least l k h =
      let fit : length places ≤ 16 * length leaves = t.places_fit in
      let leaf : least ≤ slice_index_or leaves (k / 16) no_number = All-get_or (λ number. least ≤ number) leaves (k / 16) no_number (omega arith) l.lowest in
      let low : slice_index_or leaves (k / 16) no_number ≤ number_or (f (slice_index_or places k None)) = (t.leaf (k / 16)).lowest k (omega arith) (omega arith) in
      omega arith

  -- who waits for a number waits for no lesser
  pub no_lesser : (least : ℕ) → IsLeast leaves least → (k : ℕ) → k < length places → (number : ℕ) → f (slice_index_or places k None) ≡ Some number → least ≤ number
  no_lesser least l k h number is = subst (λ (x : ℕ). least ≤ x) (ap number_or is) (no_lower least l k h)
