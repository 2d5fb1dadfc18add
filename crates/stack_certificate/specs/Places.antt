-- The variables that an operation names have places.
use Rattle.std.specs.Prelude.{ℕ, ◌^◌, ◌<◌, ◌≤◌, length, Option, Some, None, All}
use Rattle.flat_code.specs.declared.operations.Op.{Op}

abbrev pub HasPlace : ℕ → Option ℕ → Type 0
HasPlace n None = Unit {0}
HasPlace n (Some x) = x < n

-- an address, if there is one, from which a distance can be taken
abbrev pub IsNear : Option ℕ → Type 0
IsNear None = Unit {0}
IsNear (Some address) = address < 2 ^ 60

abbrev pub HavePlaces : ℕ → Op → Type 0
HavePlaces n (Op.Const d value) = d < n
HavePlaces n (Op.Copy d s) = (d < n) × (s < n)
HavePlaces n (Op.Neg d s) = (d < n) × (s < n)
HavePlaces n (Op.Not d s) = (d < n) × (s < n)
HavePlaces n (Op.Flip d s) = (d < n) × (s < n)
HavePlaces n (Op.Bin op d a b) = (d < n) × (a < n) × (b < n)
HavePlaces n (Op.Zero a) = a < n
HavePlaces n (Op.LoadGlobal d g) = d < n
HavePlaces n (Op.StoreGlobal g s) = s < n
HavePlaces n (Op.LoadLocal d a i) = (d < n) × (a < n) × (i < n)
HavePlaces n (Op.LoadArray d a i) = (d < n) × (i < n)
HavePlaces n (Op.StoreLocal a i s) = (a < n) × (i < n) × (s < n)
HavePlaces n (Op.StoreArray a i s) = (i < n) × (s < n)
HavePlaces n (Op.Jump to) = Unit {0}
HavePlaces n (Op.JumpZero s to) = s < n
HavePlaces n (Op.Call site d f args) = All (λ x. x < n) args × (length args ≤ 6) × HasPlace n d
HavePlaces n (Op.CallTable site d t i s) = (i < n) × (s < n) × HasPlace n d
HavePlaces n (Op.Model site d number args) = All (λ x. x < n) args × (length args ≤ 6) × (number < 2048) × HasPlace n d
HavePlaces n (Op.Spawn site d f s) = (s < n) × HasPlace n d
HavePlaces n (Op.Return s) = HasPlace n s

-- an operation whose template has a number of words that doesn't depend on the size of an array
abbrev pub IsBounded : Op → Type 0
IsBounded (Op.Zero a) = ⊥
IsBounded _ = Unit {0}
