use Rattle.codegen_link.proofs.Common.{◌+◌, ◌++◌, length, ap, sym, subst, ◌∙◌, add-one, append_assoc, arith, function_at, operation_at, program_code, FunctionFact, Setting, fact_at, prologue, template, FlatFunction, operations_before}
use Rattle.codegen_link.proofs.AddressLemmas.{here-small, params-placed, prologue-fit, template-fits-at, to-small}
use Rattle.codegen_link.proofs.FactLemmas.{facts-count, is-for}
use Rattle.codegen_link.proofs.InstructionLemmas.{Fit}
use Rattle.codegen_link.proofs.StepLemmas.{next-words}
use Rattle.codegen_link.proofs.words.push_function.Goals as goal

pub fact_of-requires : goal.fact_of-requires
fact_of-requires c = omega (arith, facts-count _ _ _ c.requires.ready.facts, c.requires.function)

pub push_prologue-requires-clause-places : goal.push_prologue-requires-clause-places
push_prologue-requires-clause-places c =
    let placed = params-placed (program_code c.args.layout.now.flat.now) c.args.layout.now.plan.now c.args.layout.now.certificate.now c.args.layout.now.flat.now.well_formed c.requires.ready.facts c.requires.ready.max_path c.requires.ready.planned c.args.function c.requires.function in
    let params = ap (λ (f : FlatFunction). f.params) c.function_of-body.ensures.value in
    let places = ap (λ (fact : FunctionFact). length fact.places) c.fact_of.ensures in
    omega (arith, placed, params, places)

pub push_prologue-requires-clause-fits : goal.push_prologue-requires-clause-fits
push_prologue-requires-clause-fits c =
    let fit = prologue-fit (program_code c.args.layout.now.flat.now) c.args.layout.now.plan.now c.args.layout.now.certificate.now c.args.layout.now.flat.now.well_formed c.requires.ready.facts c.requires.ready.max_path c.requires.ready.planned c.args.function c.requires.function in
    let params = ap (λ (f : FlatFunction). f.params) c.function_of-body.ensures.value in
    let first : Fit (prologue c.fact_of.result.now (function_at (program_code c.args.layout.now.flat.now) c.args.function).params) =
    subst (λ (fact : FunctionFact). Fit (prologue fact (function_at (program_code c.args.layout.now.flat.now) c.args.function).params)) (sym c.fact_of.ensures) fit in
    subst (λ n. Fit (prologue c.fact_of.result.now n)) (sym params) first

pub push_operation-requires-clause-certificate : goal.push_operation-requires-clause-certificate
push_operation-requires-clause-certificate c = is-for _ _ _ c.requires.ready.facts

pub push_operation-requires-clause-here : goal.push_operation-requires-clause-here
push_operation-requires-clause-here c =
    let code = program_code c.args.layout.now.flat.now in
    let small = here-small code c.args.layout.now.plan.now c.args.layout.now.certificate.now c.args.layout.now.flat.now.well_formed c.requires.ready.facts c.requires.ready.max_path c.requires.ready.planned
    c.args.function c.loop-op.op (operation_at code c.args.function c.loop-op.op) c.requires.ready.fits c.requires.function in
    omega (arith, small, ap (λ (s : Setting). s.here) c.setting-setting.ensures)

pub push_operation-requires-clause-to : goal.push_operation-requires-clause-to
push_operation-requires-clause-to c =
    let code = program_code c.args.layout.now.flat.now in
    let small = to-small code c.args.layout.now.plan.now c.args.layout.now.certificate.now c.args.layout.now.flat.now.well_formed c.requires.ready.facts c.requires.ready.max_path c.requires.ready.planned
    c.args.function c.loop-op.op (operation_at code c.args.function c.loop-op.op) c.requires.ready.fits c.requires.function in
    omega (arith, small, ap (λ (s : Setting). s.to) c.setting-setting.ensures)

pub push_operation-requires-clause-fits : goal.push_operation-requires-clause-fits
push_operation-requires-clause-fits c =
    let count = ap (λ (f : FlatFunction). length f.ops) c.function_of-body.ensures.value in
    template-fits-at (program_code c.args.layout.now.flat.now) c.args.layout.now.plan.now c.args.layout.now.certificate.now c.args.layout.now.flat.now.well_formed c.requires.ready.facts c.requires.ready.max_path c.requires.ready.planned
    c.args.function c.loop-op.op c.requires.ready.fits c.requires.function (omega (arith, c.loop-op-test.true, count, c.len-op-end.ensures))

pub loop-op-preserved : goal.loop-op-preserved
loop-op-preserved c =
    let code = program_code c.args.layout.now.flat.now in
    let certificate = c.args.layout.now.certificate.now in
    let f = c.args.function in
    let i = c.loop-op.op in
    let start = prologue (fact_at certificate f) (function_at code f).params in
    next-words c.args.code.now.items c.loop-op.code.items c.push_operation.new.code.items (start ++ operations_before code certificate f i) (template code certificate f i) (start ++ operations_before code certificate f (i + 1))
    c.loop-op.invariant c.in_ok-push_operation.ensures
    (ap (λ n. start ++ operations_before code certificate f n) (add-one i) ∙ sym (append_assoc start (operations_before code certificate f i) (template code certificate f i)))
