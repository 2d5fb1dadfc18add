-- Well-formedness has at most one proof, so a program can carry it.
use Rattle.std.specs.Prelude.{ℕ, Bool, List, Option, Some, None}
use Rattle.std.specs.List.{IsDistinct-prop, AllByRecursion-prop}
use Rattle.std.specs.Coded.{le_prop, Unit-prop, coded_ℕ, coded_list, coded_option}
use base.Stored.{Coded-set}
use mathlib.Core.Bool.{Bool-set}
use Rattle.flat_code.specs.declared.operations.Op.{Op}
use Rattle.flat_code.specs.declared.functions.FlatFunction.{FlatFunction}
use Rattle.flat_code.specs.Codes.{FlatCode}
use Rattle.flat_code.specs.WellFormed.{Context, IsScalar, IsResultPlace, IsReturned, IsOperation, IsFunction, IsWellFormed}
use Rattle.cap_word.specs.Signatures.{Signature, IsTable}

number_set : IsSet ℕ
number_set = Coded-set coded_ℕ

numbers_set : IsSet (List ℕ)
numbers_set = Coded-set (coded_list coded_ℕ)

place_set : IsSet (Option ℕ)
place_set = Coded-set (coded_option coded_ℕ)

IsScalar-prop : (c : Context) (x : ℕ) → IsProp (IsScalar c x)
IsScalar-prop c x = hlevel (le_prop, number_set)

IsResultPlace-prop : (c : Context) (gives : Bool) (d : Option ℕ) → IsProp (IsResultPlace c gives d)
IsResultPlace-prop c gives None = Unit-prop
IsResultPlace-prop c gives (Some d) = hlevel (Bool-set, le_prop, number_set)

IsReturned-prop : (c : Context) (s : Option ℕ) → IsProp (IsReturned c s)
IsReturned-prop c None = Bool-set _ _
IsReturned-prop c (Some s) = hlevel (Bool-set, le_prop, number_set)

IsOperation-prop : (c : Context) (op : Op) → IsProp (IsOperation c op)
IsOperation-prop c (Op.Const d value) = hlevel (le_prop, number_set)
IsOperation-prop c (Op.Copy d s) = hlevel (le_prop, number_set)
IsOperation-prop c (Op.Neg d s) = hlevel (le_prop, number_set)
IsOperation-prop c (Op.Not d s) = hlevel (le_prop, number_set)
IsOperation-prop c (Op.Flip d s) = hlevel (le_prop, number_set)
IsOperation-prop c (Op.Bin op d a b) = hlevel (le_prop, number_set)
IsOperation-prop c (Op.Zero a) = hlevel (le_prop)
IsOperation-prop c (Op.LoadGlobal d g) = hlevel (le_prop, number_set)
IsOperation-prop c (Op.StoreGlobal g s) = hlevel (le_prop, number_set)
IsOperation-prop c (Op.LoadLocal d a i) = hlevel (le_prop, number_set)
IsOperation-prop c (Op.LoadArray d a i) = hlevel (le_prop, number_set)
IsOperation-prop c (Op.StoreLocal a i s) = hlevel (le_prop, number_set)
IsOperation-prop c (Op.StoreArray a i s) = hlevel (le_prop, number_set)
IsOperation-prop c (Op.Jump to) = hlevel (le_prop)
IsOperation-prop c (Op.JumpZero s to) = hlevel (le_prop, number_set)
IsOperation-prop c (Op.Call site d f args) = hlevel (le_prop, number_set, AllByRecursion-prop, IsResultPlace-prop)
IsOperation-prop c (Op.CallTable site d t i s) = hlevel (le_prop, number_set, IsResultPlace-prop)
IsOperation-prop c (Op.Model site d n args) = hlevel (le_prop, number_set, place_set, AllByRecursion-prop, IsResultPlace-prop)
IsOperation-prop c (Op.Spawn site d f s) = hlevel (le_prop, number_set, IsResultPlace-prop)
IsOperation-prop c (Op.Return s) = IsReturned-prop c s

IsFunction-prop : (code : FlatCode) (f : FlatFunction) → IsProp (IsFunction code f)
IsFunction-prop code f = hlevel (le_prop, numbers_set, IsOperation-prop, AllByRecursion-prop)

IsTable-prop : (ss : List Signature) (row : List ℕ) → IsProp (IsTable ss row)
IsTable-prop ss row = hlevel (le_prop, number_set, Bool-set, AllByRecursion-prop)

pub IsWellFormed-prop : (code : FlatCode) → IsProp (IsWellFormed code)
IsWellFormed-prop code = hlevel (le_prop, number_set, IsDistinct-prop, AllByRecursion-prop, IsFunction-prop, IsTable-prop)
