-- The registers, as the list of their values by number; register 0 reads as 0 and is never written.
use Rattle.std.specs.Prelude.{ℕ, ◌==◌, if◌then◌else◌, List, slice_index, slice_set}

abbrev pub read : List ℕ → ℕ → ℕ
read x register = if register == 0 then 0 else slice_index x register

abbrev pub write : List ℕ → ℕ → ℕ → List ℕ
write x register value = if register == 0 then x else slice_set x register value
