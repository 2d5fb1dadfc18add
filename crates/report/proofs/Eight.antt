-- What holds of each of eight numbers.
use Rattle.std.proofs.Common.{zero, suc, ℤ, List, [], ◌∷◌, arith}
use Rattle.std.specs.Prelude.{All}

all_none : (P : ℤ → Type 0) → All P []
all_none P k d below = absurd (omega (arith, below))

all_more : (P : ℤ → Type 0) (z : ℤ) (zs : List ℤ) → P z → All P zs → All P (z ∷ zs)
all_more P z zs first rest zero d below = first
all_more P z zs first rest (suc k) d below = rest k d (omega (arith, below))

pub all_eight : (P : ℤ → Type 0) (z0 z1 z2 z3 z4 z5 z6 z7 : ℤ) → P z0 → P z1 → P z2 → P z3 → P z4 → P z5 → P z6 → P z7 → All P (z0 ∷ z1 ∷ z2 ∷ z3 ∷ z4 ∷ z5 ∷ z6 ∷ z7 ∷ [])
all_eight P z0 z1 z2 z3 z4 z5 z6 z7 p0 p1 p2 p3 p4 p5 p6 p7 =
    all_more P z0 (z1 ∷ z2 ∷ z3 ∷ z4 ∷ z5 ∷ z6 ∷ z7 ∷ []) p0 (all_more P z1 (z2 ∷ z3 ∷ z4 ∷ z5 ∷ z6 ∷ z7 ∷ []) p1 (all_more P z2 (z3 ∷ z4 ∷ z5 ∷ z6 ∷ z7 ∷ []) p2 (all_more P z3 (z4 ∷ z5 ∷ z6 ∷ z7 ∷ []) p3 (all_more P z4 (z5 ∷ z6 ∷ z7 ∷ []) p4 (all_more P z5 (z6 ∷ z7 ∷ []) p5 (all_more P z6 (z7 ∷ []) p6 (all_more P z7 [] p7 (all_none P))))))))
