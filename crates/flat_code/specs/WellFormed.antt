-- When a program of flat code is well formed: everything that lets the crates above index without a test.
use Rattle.std.specs.Prelude.{ℕ, ◌^◌, ◌<◌, ◌≤◌, ◌≡◌, Bool, true, false, IsTrue, eqb, List, length, map, sum, take, replicate, filter_map, flat_map, slice_index, Option, Some, None}
use Rattle.std.specs.List.{IsDistinct, AllByRecursion}
use Rattle.cap_word.specs.Signatures.{Signature, signature_at, IsTable}
use Rattle.flat_code.specs.declared.operations.Op.{Op}
use Rattle.flat_code.specs.declared.functions.FlatFunction.{FlatFunction}
use Rattle.flat_code.specs.Codes.{FlatCode, site_of}
use Rattle.flat_code.specs.Modelled.{modelled_parameters, modelled_gives}

abbrev pub signature_of : FlatFunction → Signature
signature_of f = record { params = f.params; gives = f.gives }

-- what a function's operations may name: functions, sizes of globals, the number of tables, sizes of its own
-- variables, whether it gives a result, and the number of its operations
pub record Context : Type 0 where
  pub signatures : List Signature
  pub globals : List ℕ
  pub tables : ℕ
  pub sizes : List ℕ
  pub gives : Bool
  pub ops : ℕ

abbrev pub context_of : FlatCode → FlatFunction → Context
context_of code f = record { signatures = map signature_of code.functions; globals = map (λ g. g.words) code.globals; tables = length code.tables; sizes = f.sizes; gives = f.gives; ops = length f.ops }

-- a variable, and one of one word
abbrev pub IsVariable : Context → ℕ → Type 0
IsVariable c x = x < length c.sizes

abbrev pub IsScalar : Context → ℕ → Type 0
IsScalar c x = (x < length c.sizes) × (slice_index c.sizes x ≡ 1)

-- a global of one word
abbrev pub IsGlobalScalar : Context → ℕ → Type 0
IsGlobalScalar c g = (g < length c.globals) × (slice_index c.globals g ≡ 1)

-- the variable that gets a result: only for a call that gives one
abbrev pub IsResultPlace : Context → Bool → Option ℕ → Type 0
IsResultPlace c gives None = Unit {0}
IsResultPlace c gives (Some d) = IsTrue gives × IsScalar c d

-- the returned value: there is one exactly if the function gives a result
abbrev pub IsReturned : Context → Option ℕ → Type 0
IsReturned c None = c.gives ≡ false
IsReturned c (Some s) = (c.gives ≡ true) × IsScalar c s

-- an operation: its numbers are in range, a variable or global that is used without an index has one word, and
-- arguments agree
abbrev pub IsOperation : Context → Op → Type 0
IsOperation c (Op.Const d value) = IsScalar c d × (value < 2 ^ 32)
IsOperation c (Op.Copy d s) = IsScalar c d × IsScalar c s
IsOperation c (Op.Neg d s) = IsScalar c d × IsScalar c s
IsOperation c (Op.Not d s) = IsScalar c d × IsScalar c s
IsOperation c (Op.Flip d s) = IsScalar c d × IsScalar c s
IsOperation c (Op.Bin op d a b) = IsScalar c d × IsScalar c a × IsScalar c b
IsOperation c (Op.Zero a) = IsVariable c a
IsOperation c (Op.LoadGlobal d g) = IsScalar c d × IsGlobalScalar c g
IsOperation c (Op.StoreGlobal g s) = IsGlobalScalar c g × IsScalar c s
IsOperation c (Op.LoadLocal d a i) = IsScalar c d × IsVariable c a × IsScalar c i
IsOperation c (Op.LoadArray d a i) = IsScalar c d × (a < length c.globals) × IsScalar c i
IsOperation c (Op.StoreLocal a i s) = IsVariable c a × IsScalar c i × IsScalar c s
IsOperation c (Op.StoreArray a i s) = (a < length c.globals) × IsScalar c i × IsScalar c s
IsOperation c (Op.Jump to) = to < c.ops
IsOperation c (Op.JumpZero s to) = IsScalar c s × (to < c.ops)
IsOperation c (Op.Call site d f args) = (f < length c.signatures) × (length args ≡ (signature_at c.signatures f).params) × AllByRecursion (IsScalar c) args × IsResultPlace c (signature_at c.signatures f).gives d
IsOperation c (Op.CallTable site d t i s) = (t < c.tables) × IsScalar c i × IsScalar c s × IsResultPlace c true d
IsOperation c (Op.Model site d n args) = (modelled_parameters n ≡ Some (length args)) × AllByRecursion (IsScalar c) args × IsResultPlace c (modelled_gives n) d
IsOperation c (Op.Spawn site d f s) = (f < length c.signatures) × ((signature_at c.signatures f).params ≡ 1) × IsScalar c s × IsResultPlace c true d
IsOperation c (Op.Return s) = IsReturned c s

-- a function: its parameters are its first variables, of one word each
pub record IsFunction (code : FlatCode) (f : FlatFunction) : Type 0 where
  pub params : f.params ≤ 6
  pub parameters : take f.params f.sizes ≡ replicate f.params 1
  pub words : sum f.sizes ≤ 2 ^ 20
  pub count : length f.ops ≤ 2 ^ 32
  pub ops : AllByRecursion (IsOperation (context_of code f)) f.ops

-- the numbers of all sites, function by function
abbrev pub site_numbers : FlatCode → List ℕ
site_numbers code = flat_map (λ f. filter_map site_of f.ops) code.functions

-- a program
pub record IsWellFormed (code : FlatCode) : Type 0 where
  pub functions : AllByRecursion (IsFunction code) code.functions
  pub main_defined : code.main < length code.functions
  pub main_params : (signature_at (map signature_of code.functions) code.main).params ≡ 0
  pub sites : IsDistinct eqb (site_numbers code)
  pub global_words : sum (map (λ g. g.words) code.globals) ≤ 65536
  pub tables : AllByRecursion (IsTable (map signature_of code.functions)) code.tables
  pub table_members : sum (map length code.tables) ≤ 65536
