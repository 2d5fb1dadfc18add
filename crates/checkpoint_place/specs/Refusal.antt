-- When a graph has no plan.
use Rattle.std.specs.Prelude.{ℕ, ◌+◌, ◌||◌, nat_lt, Bool, if◌then◌else◌, Option, Some, None, List, [], ◌∷◌}
use Rattle.checkpoint_place.specs.declared.refusals.PlaceError.{PlaceError}
use Rattle.checkpoint_place.specs.declared.refusals.PlaceError.TheVariants.{FrameTooLarge}

-- whether a frame is too large: it exceeds max path, or 2,032 bytes, within which a store's offset
-- reaches every word
abbrev pub is_too_large : ℕ → ℕ → Bool
is_too_large max_path weight = nat_lt max_path weight || nat_lt 2032 weight

-- the first function, from this number on, whose frame is too large, with its size in bytes
abbrev pub refusal_from : ℕ → ℕ → List ℕ → Option PlaceError
refusal_from max_path function [] = None
refusal_from max_path function (weight ∷ weights) =
    if is_too_large max_path weight then Some (FrameTooLarge function weight) else refusal_from max_path (function + 1) weights
