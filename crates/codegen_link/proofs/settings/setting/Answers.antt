use Rattle.codegen_link.proofs.Common.{length, ap, sym, subst, ◌∙◌, arith, slice_index, length-map-range_with_len, get_or-map-range_with_len, function_at, program_code, begin, JumpsInside}
use Rattle.codegen_link.proofs.AddressLemmas.{goes-is, setting-is}
use Rattle.codegen_link.proofs.SiteLemmas.{kind-link}
use Rattle.codegen_link.proofs.settings.setting.Goals as goal

pub bounds-begins-op : goal.bounds-begins-op
bounds-begins-op c =
    let code = program_code c.args.layout.now.flat.now in
    omega (arith, ap length c.requires.begins ∙ length-map-range_with_len (begin code c.args.layout.now.certificate.now c.args.function) 0 (length (function_at code c.args.function).ops), c.requires.op)

pub target-requires : goal.target-requires
target-requires c =
    let code = program_code c.args.layout.now.flat.now in
    let count = ap length c.requires.begins ∙ length-map-range_with_len (begin code c.args.layout.now.certificate.now c.args.function) 0 (length (function_at code c.args.function).ops) in
    subst (λ n. JumpsInside n c.operation_of-operation.result.now) (sym count) c.operation_of-operation.ensures.inside

pub returns : goal.returns
returns c =
    let flat = c.args.layout.now.flat.now in
    let code = program_code flat in
    let plan = c.args.layout.now.plan.now in
    let certificate = c.args.layout.now.certificate.now in
    let f = c.args.function in
    let i = c.args.op in
    let op = c.operation_of-operation.result.now in
    let there = c.operation_of-operation.ensures.value in
    let n = length (function_at code f).ops in
    setting-is code certificate f i op _ _ _ _ _ _ there
    (ap (λ xs. slice_index xs i) c.requires.begins ∙ get_or-map-range_with_len (begin code certificate f) 0 n i i 0 c.requires.op (omega arith))
    (c.target.ensures ∙ goes-is code certificate f n c.args.begins.now op c.requires.begins c.operation_of-operation.ensures.inside)
    c.entry.ensures c.address.ensures c.count.ensures
    (c.link_of.ensures ∙ sym (kind-link code plan certificate f i op flat.well_formed c.requires.ready.facts c.requires.function (sym there)))
