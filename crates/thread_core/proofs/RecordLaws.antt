-- Records at their places.
use Rattle.std.proofs.Common.{◌≡◌, Option, Some, None, IsSome, refl}

pub some_of : {X : Type 0} (o : Option X) → IsSome o → (x : X) × (o ≡ Some x)
some_of None s = absurd (cc)
some_of (Some x) s = (x, refl)
