-- Arrays that are zeroed have words.
use Rattle.std.specs.Prelude.{◌≡◌, ℕ, ◌<◌, length, slice_index, Some}
use Rattle.flat_code.specs.declared.operations.Op.{Op}
use Rattle.flat_code.specs.Codes.{FlatCode, function_at, operation_at}

-- each variable that an operation sets to 0 has at least one word, as every array of a source has
abbrev pub ZeroesSome : FlatCode → Type 0
ZeroesSome code = (f i a : ℕ) → f < length code.functions → operation_at code f i ≡ Some (Op.Zero a) → 0 < slice_index (function_at code f).sizes a
