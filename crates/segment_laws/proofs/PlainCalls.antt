-- A call of a function at a plain site.
use Rattle.segment_laws.proofs.Common.{◌≡◌, ℕ, zero, suc, ◌+◌, ◌*◌, ◌<◌, ◌≤◌, false, List, [], ◌∷◌, ◌++◌, length, map, get_or, Option, Some, ap, arith, AllByRecursion, length-map, get_or-map, FlatFunction, Op, FlatCode, function_at, Context, signature_of, IsScalar, context_of, Signature, signature_at, LinkKind, fact_at, load, arguments, transfer, result, begin, kind_of, transfer_size, Checked}
pub use Rattle.segment_laws.specs.Calls.{CallFacts}
use Rattle.segment_laws.proofs.Calling.{get_front, arguments_at, row_before, LoadsArguments}
use Rattle.segment_laws.proofs.Entering.{EntryFacts}
use Rattle.segment_laws.proofs.Facts.{IsOperationAt}

some_words : (kind : LinkKind) → 1 ≤ transfer_size kind
some_words LinkKind.Plain = omega arith
some_words _ = omega arith

-- the parameters of a function that is there
pub parameters_of : (code : FlatCode) (g : ℕ) → g < length (map signature_of code.functions) → (signature_at (map signature_of code.functions) g).params ≡ (function_at code g).params
parameters_of code g lt =
    let there : g < length code.functions = omega (arith, length-map code.functions signature_of) in
    let default : FlatFunction = record { params = 0; gives = false; sizes = []; ops = [] } in
    ap (λ (s : Signature). s.params) (get_or-map signature_of code.functions g default (record { params = 0; gives = false }) there)

scalar_at : (c : Context) (xs : List ℕ) (j : ℕ) → j < length xs → AllByRecursion (IsScalar c) xs → IsScalar c (get_or xs j 0)
scalar_at c [] j lt h = absurd (omega arith)
scalar_at c (x ∷ xs) zero lt h = h.0
scalar_at c (x ∷ xs) (suc j) lt h = scalar_at c xs j (omega arith) h.1

pub call_loads : (c : Checked) (code : List ℕ) (f i site g : ℕ) (d : Option ℕ) (args : List ℕ) → EntryFacts c g → IsOperationAt c code f i (Op.Call site d g args) → LoadsArguments c code f i (Op.Call site d g args) args
call_loads c code f i site g d args entry there =
    let op : Op = Op.Call site d g args in
    let kind = kind_of c.certificate op in
    let fact = fact_at c.certificate f in
    let here = begin c.flat c.certificate f i in
    let moves = transfer kind (Some (fact_at c.certificate g).entry) (here + 4 * length args) in
    let some = some_words kind in
    let signatures = map signature_of c.flat.functions in
    record {
      fetch = λ j lt. there.fetch j (load fact (10 + j) (get_or args j 0))
          (get_front (arguments fact 10 args ++ moves) (result fact d) j (load fact (10 + j) (get_or args j 0)) (get_front (arguments fact 10 args) moves j (load fact (10 + j) (get_or args j 0)) (arguments_at fact 10 args j lt)));
      word = λ j lt. record { small = omega arith; row_is = row_before kind (length args) j (omega arith) };
      one = λ j lt. let s = scalar_at (context_of c.flat (function_at c.flat f)) args j lt there.formed.2 in record { there = s.0; one = s.1 };
      few = omega (arith, there.formed.1, parameters_of c.flat g there.formed.0, entry.most);
    }
