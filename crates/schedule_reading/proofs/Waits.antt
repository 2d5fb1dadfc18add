-- What is waited for at a place.
use Rattle.schedule_reading.proofs.Common.{◌≡◌, ◌≢◌, ℕ, zero, suc, ◌<◌, List, [], ◌∷◌, length, Option, None, IsSome, arith, slice_set, slice_index_or, Waiting, wait_at, Wait}
use Rattle.std.proofs.lemmas.List.{get_or-set_same, get_or-set_other}

pub there_if : {X : Type 0} (xs : List (Option X)) (k : ℕ) → IsSome (slice_index_or xs k None) → k < length xs
there_if [] k e = absurd (cc)
there_if (x ∷ xs) zero e = omega arith
there_if (x ∷ xs) (suc k) e = let below = there_if xs k e in omega (arith, below)

-- ---- a place is set

module _ (w : Waiting) (place : ℕ) (wait : Option Wait) where
  abbrev pub after : Waiting
  after = record w { places = slice_set w.places place wait }

  pub set_same : place < length w.places → wait_at after place ≡ wait
  set_same there = get_or-set_same w.places place wait None there

  pub set_other : (other : ℕ) → other ≢ place → wait_at after other ≡ wait_at w other
  set_other other apart = get_or-set_other w.places place other wait None apart
