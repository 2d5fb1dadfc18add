-- What a take leaves of the pool and of the areas around it.
use Rattle.segment_run.proofs.Common.{◌≡◌, ℕ, Option, Some, None, refl, ap, ◌∙◌, Pool, Taken, taken_for, IsTaken, shape_of, taken_for-shape, first_bytes-same, Areas, Accepted, AreOf}

-- the chunk that was taken for a need
pub record TakesOne (p : Pool) (need id : ℕ) (new : Pool) : Type 0 where
  pub taken : Taken
  pub is : taken_for p need ≡ Some taken
  pub chunk : id ≡ taken.chunk
  pub pool : new ≡ taken.pool

pub takes_for : (p new : Pool) (need id : ℕ) → IsTaken (taken_for p need) (Some id) p new → TakesOne p need id new
takes_for p new need id is = by (taken_for p need) refl is
  where
    by : (found : Option Taken) → taken_for p need ≡ found → IsTaken found (Some id) p new → TakesOne p need id new
    by None e is = absurd (let both : Some id ≡ None = is.0 in cc)
    by (Some taken) e is = record { taken = taken; is = e; chunk = (let both : Some id ≡ Some taken.chunk = is.0 in cc); pool = is.1 }

-- nothing is taken for the need
pub record TakesNone (p : Pool) (need : ℕ) (new : Pool) : Type 0 where
  pub is : taken_for p need ≡ None
  pub pool : new ≡ p

pub takes_none : (p new : Pool) (need : ℕ) → IsTaken (taken_for p need) None p new → TakesNone p need new
takes_none p new need is = by (taken_for p need) refl is
  where
    by : (found : Option Taken) → taken_for p need ≡ found → IsTaken found None p new → TakesNone p need new
    by None e is = record { is = e; pool = is.1 }
    by (Some taken) e is = absurd (let both : None ≡ Some taken.chunk = is.0 in cc)

-- whatever a take answers, the shape stays
pub shape-take : (p new : Pool) (need : ℕ) (answer : Option ℕ) → IsTaken (taken_for p need) answer p new → shape_of new ≡ shape_of p
shape-take p new need answer is = by (taken_for p need) refl is
  where
    by : (found : Option Taken) → taken_for p need ≡ found → IsTaken found answer p new → shape_of new ≡ shape_of p
    by None e is = ap shape_of is.1
    by (Some taken) e is = ap shape_of is.1 ∙ taken_for-shape p need taken e

-- where the shape stays, the areas are those of the same program
pub AreOf-same : (accepted : Accepted) (areas : Areas) (pool : Pool) → shape_of pool ≡ shape_of areas.pool → AreOf accepted areas → AreOf accepted (record areas { pool = pool })
AreOf-same accepted areas pool shape is = record { chunk = first_bytes-same areas.pool pool shape ∙ is.chunk; globals = is.globals; tables = is.tables }
