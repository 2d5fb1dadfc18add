use Rattle.segment_run.proofs.Common.{◌≡◌, ◌∙◌, ℕ, ◌<◌, List, length, get_or, ap, arith, Some, lowered, accepted_tree, FlatCode, function_at, site_of, FlatFunction, Op, IsValid, Checked, InOperation, IsAt, checked_of, StandsIn, IsInCall, Certificate, Image}
use Rattle.segment_run.proofs.Standing.{stands_in, one_function, has_word, read_operation, read_site, read_at}
use Rattle.segment_run.proofs.places.call_at.Goals as goal

-- what is read at the place of a call
record IsFoundAt (f j g site : ℕ) (ops : List Op) : Type 0 where
  function : f ≡ g
  inside : j < length ops
  read : (op : Op) → op ≡ get_or ops j op → site_of op ≡ Some site

found : (flat code : FlatCode) (image : Image) (certificate : Certificate) (valid : IsValid flat image certificate) (address f j g site : ℕ) (body : FlatFunction) (ops : List Op)
    → (call : IsInCall (record { flat = flat; certificate = certificate }) address g site) → StandsIn certificate address f
    → ((i word : ℕ) → IsAt (record { flat = flat; certificate = certificate }) address (InOperation f i word) → j ≡ i) → code ≡ flat → body ≡ function_at code f → ops ≡ body.ops → IsFoundAt f j g site ops
found flat code image certificate valid address f j g site body ops call stands only code_is body_is ops_are =
    let c : Checked = record { flat = flat; certificate = certificate } in
    let here = stands_in flat image certificate valid address g call.operation call.word call.at in
    let same = one_function flat image certificate valid address f g stands here in
    let at = read_at c address f g call.operation call.word same call.at in
    let operation : j ≡ call.operation = only call.operation call.word at in
    let body_there : body ≡ function_at flat f = body_is ∙ ap (λ (x : FlatCode). function_at x f) code_is in
    let ops_there : ops ≡ (function_at flat f).ops = ops_are ∙ ap (λ (x : FlatFunction). x.ops) body_there in
    let inside = (has_word c address f call.operation call.word at).inside in
    let small : j < length ops = omega (arith, ap length ops_there, operation, inside) in
    record {
      function = same;
      inside = small;
      read = λ op is. read_site c address f g j site op call same operation (read_operation flat f j ops op ops_there small is);
    }

pub function_at-function-requires : goal.function_at-function-requires
function_at-function-requires c =
    let call = c.requires.there in
    (call.0, stands_in (lowered (accepted_tree c.args.accepted.now)) c.args.accepted.now.image c.args.accepted.now.certificate c.requires.valid c.args.address call.0 call.2.operation call.2.word call.2.at)

pub operation_with-op-requires-clause-there : goal.operation_with-op-requires-clause-there
operation_with-op-requires-clause-there c =
    let call = c.requires.there in
    let flat : FlatCode = lowered (accepted_tree c.args.accepted.now) in
    let here = stands_in flat c.args.accepted.now.image c.args.accepted.now.certificate c.requires.valid c.args.address call.0 call.2.operation call.2.word call.2.at in
    let same = one_function flat c.args.accepted.now.image c.args.accepted.now.certificate c.requires.valid c.args.address c.function_at-function.result call.0 c.function_at-function.ensures here in
    (call.2.operation, call.2.word, read_at (checked_of c.args.accepted.now) c.args.address c.function_at-function.result call.0 call.2.operation call.2.word same call.2.at)

pub function_of-body-requires : goal.function_of-body-requires
function_of-body-requires c =
    let call = c.requires.there in
    let flat : FlatCode = lowered (accepted_tree c.args.accepted.now) in
    let here = stands_in flat c.args.accepted.now.image c.args.accepted.now.certificate c.requires.valid c.args.address call.0 call.2.operation call.2.word call.2.at in
    let same = one_function flat c.args.accepted.now.image c.args.accepted.now.certificate c.requires.valid c.args.address c.function_at-function.result call.0 c.function_at-function.ensures here in
    let count = ap (λ (x : FlatCode). length x.functions) c.flat.ensures in
    omega (arith, count, same, call.2.at.0)

pub bounds-as_slice-op : goal.bounds-as_slice-op
bounds-as_slice-op c =
    let call = c.requires.there in
    (found (lowered (accepted_tree c.args.accepted.now)) _ c.args.accepted.now.image c.args.accepted.now.certificate c.requires.valid c.args.address c.function_at-function.result c.operation_with-op.result call.0 call.1
    c.function_of-body.result.now c.as_slice.result.now call.2 c.function_at-function.ensures c.operation_with-op.ensures c.flat.ensures c.function_of-body.ensures c.as_slice.ensures).inside

pub unreachable-requires : goal.unreachable-requires
unreachable-requires c =
    let call = c.requires.there in
    let is = found (lowered (accepted_tree c.args.accepted.now)) _ c.args.accepted.now.image c.args.accepted.now.certificate c.requires.valid c.args.address c.function_at-function.result c.operation_with-op.result call.0 call.1
    c.function_of-body.result.now c.as_slice.result.now call.2 c.function_at-function.ensures c.operation_with-op.ensures c.flat.ensures c.function_of-body.ensures c.as_slice.ensures in
    let read = is.read c.index-as_slice-op.result c.index-as_slice-op.is in
    cc (read, c.in-None.ensures)

pub returns-clause-function : goal.returns-clause-function
returns-clause-function c f site call =
    (found (lowered (accepted_tree c.args.accepted.now)) _ c.args.accepted.now.image c.args.accepted.now.certificate c.requires.valid c.args.address c.function_at-function.result c.operation_with-op.result f site
    c.function_of-body.result.now c.as_slice.result.now call c.function_at-function.ensures c.operation_with-op.ensures c.flat.ensures c.function_of-body.ensures c.as_slice.ensures).function

pub returns-clause-site : goal.returns-clause-site
returns-clause-site c f site call =
    let is = found (lowered (accepted_tree c.args.accepted.now)) _ c.args.accepted.now.image c.args.accepted.now.certificate c.requires.valid c.args.address c.function_at-function.result c.operation_with-op.result f site
    c.function_of-body.result.now c.as_slice.result.now call c.function_at-function.ensures c.operation_with-op.ensures c.flat.ensures c.function_of-body.ensures c.as_slice.ensures in
    let read = is.read c.index-as_slice-op.result c.index-as_slice-op.is in
    let both : Some c.in-Some.site ≡ Some site = c.in-Some.ensures ∙ read in
    cc
