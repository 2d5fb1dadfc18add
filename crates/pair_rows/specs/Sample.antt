-- A program in flat code with an operation of each kind, and its certificate.
use Rattle.std.specs.Prelude.{true, List, [], ◌∷◌, Some, None}
use Rattle.flat_code.specs.declared.operations.Op.{Op}
use Rattle.flat_code.specs.declared.operators.BinOp.{BinOp}
use Rattle.flat_code.specs.declared.functions.FlatFunction.{FlatFunction}
use Rattle.flat_code.specs.Codes.{FlatCode}
use Rattle.stack_certificate.specs.declared.certificates.Certificate.{Certificate}
use Rattle.stack_certificate.specs.declared.functions.FunctionFact.{FunctionFact}
use Rattle.stack_certificate.specs.declared.sites.LinkKind.{LinkKind}
use Rattle.stack_certificate.specs.declared.sites.SiteFact.{SiteFact}

-- `int g(int x) { return x; }`
abbrev pub callee_function : FlatFunction
callee_function = record { params = 1; gives = true; sizes = 1 ∷ 1 ∷ []; ops = Op.Copy 1 0 ∷ Op.Return (Some 1) ∷ Op.Const 1 0 ∷ Op.Return (Some 1) ∷ [] }

-- an operation of each kind
abbrev pub all_ops : List Op
all_ops =
    Op.Const 0 0x12345fff ∷ Op.Copy 2 0 ∷ Op.Neg 2 0 ∷ Op.Not 2 0 ∷
    Op.Flip 2 0 ∷ Op.Bin BinOp.Add 2 0 3 ∷ Op.Bin BinOp.Subtract 2 0 3 ∷ Op.Bin BinOp.Multiply 2 0 3 ∷
    Op.Bin BinOp.Divide 2 0 3 ∷ Op.Bin BinOp.Remainder 2 0 3 ∷ Op.Bin BinOp.BitAnd 2 0 3 ∷ Op.Bin BinOp.BitOr 2 0 3 ∷
    Op.Bin BinOp.BitXor 2 0 3 ∷ Op.Bin BinOp.ShiftLeft 2 0 3 ∷ Op.Bin BinOp.ShiftRight 2 0 3 ∷ Op.Bin BinOp.Less 2 0 3 ∷
    Op.Bin BinOp.Greater 2 0 3 ∷ Op.Bin BinOp.LessOrEqual 2 0 3 ∷ Op.Bin BinOp.GreaterOrEqual 2 0 3 ∷ Op.Bin BinOp.Equal 2 0 3 ∷
    Op.Bin BinOp.NotEqual 2 0 3 ∷ Op.Zero 1 ∷ Op.LoadGlobal 2 1 ∷ Op.StoreGlobal 1 2 ∷
    Op.LoadLocal 2 1 3 ∷ Op.LoadArray 2 0 3 ∷ Op.StoreLocal 1 3 2 ∷ Op.StoreArray 0 3 2 ∷
    Op.Jump 30 ∷ Op.JumpZero 2 0 ∷ Op.Call 0 (Some 0) 0 (2 ∷ []) ∷ Op.Call 1 None 0 (3 ∷ []) ∷
    Op.CallTable 2 (Some 2) 1 2 3 ∷ Op.Model 3 (Some 0) 16 [] ∷ Op.Model 4 None 20 (2 ∷ 3 ∷ []) ∷ Op.Spawn 5 (Some 2) 0 3 ∷
    Op.Return (Some 0) ∷
    []

abbrev pub main_function : FlatFunction
main_function = record { params = 0; gives = true; sizes = 1 ∷ 3 ∷ 1 ∷ 1 ∷ []; ops = all_ops }

abbrev pub sample_code : FlatCode
sample_code = record {
  functions = callee_function ∷ main_function ∷ [];
  globals = record { words = 4; start = 0 } ∷ record { words = 1; start = 9 } ∷ [];
  tables = (0 ∷ []) ∷ (0 ∷ 0 ∷ []) ∷ [];
  main = 1;
}

abbrev pub callee_fact : FunctionFact
callee_fact = record { entry = 4104; words = 16; frame = 16; ra = 12; bound = 16; places = 0 ∷ 4 ∷ [] }

abbrev pub main_fact : FunctionFact
main_fact = record { entry = 4168; words = 206; frame = 64; ra = 60; bound = 96; places = 8 ∷ 12 ∷ 24 ∷ 28 ∷ [] }

abbrev pub site_facts : List SiteFact
site_facts =
    record { number = 0; kind = LinkKind.Plain } ∷ record { number = 1; kind = LinkKind.Linked 48 } ∷
    record { number = 2; kind = LinkKind.Linked 16 } ∷ record { number = 5; kind = LinkKind.Spawned 32 } ∷ []

abbrev pub sample_certificate : Certificate
sample_certificate = record { chunk = 4096; max_path = 2032; functions = callee_fact ∷ main_fact ∷ []; sites = site_facts }

-- `int main() { put(7); return 0; }`
abbrev pub putting_function : FlatFunction
putting_function = record {
  params = 0;
  gives = true;
  sizes = 1 ∷ [];
  ops = Op.Const 0 7 ∷ Op.Model 0 None 3 (0 ∷ []) ∷ Op.Const 0 0 ∷ Op.Return (Some 0) ∷ Op.Const 0 0 ∷ Op.Return (Some 0) ∷ [];
}

abbrev pub putting_code : FlatCode
putting_code = record { functions = putting_function ∷ []; globals = []; tables = []; main = 0 }

abbrev pub putting_certificate : Certificate
putting_certificate = record {
  chunk = 4096;
  max_path = 2032;
  functions = record { entry = 4104; words = 22; frame = 16; ra = 12; bound = 16; places = 0 ∷ [] } ∷ [];
  sites = [];
}
