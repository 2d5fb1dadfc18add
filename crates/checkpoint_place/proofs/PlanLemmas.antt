-- Where no frame is too large, every weight is at most max path.
use Rattle.checkpoint_place.proofs.Common.{◌≡◌, ℕ, ◌+◌, ◌≤◌, Some, None, List, [], ◌∷◌, arith, nat_tests, AllByRecursion, by_test, is_too_large, refusal_from}
use Rattle.checkpoint_place.specs.declared.refusals.PlaceError.TheVariants.{FrameTooLarge}

pub all-fit : (max_path function : ℕ) (weights : List ℕ) → refusal_from max_path function weights ≡ None → AllByRecursion (λ weight. weight ≤ max_path) weights
all-fit max_path function [] h = tt
all-fit max_path function (weight ∷ weights) h =
    by_test (is_too_large max_path weight)
    (λ t. let some : Some (FrameTooLarge function weight) ≡ None = rw t at h in absurd cc)
    (λ e. (grind (arith, nat_tests), all-fit max_path (function + 1) weights (rw e at h)))
