use Rattle.codegen_link.proofs.Common.{◌+◌, [], length, ap, add-one, arith, program_code, function_code, functions_before}
use Rattle.codegen_link.proofs.AddressLemmas.{few-functions}
use Rattle.codegen_link.proofs.StepLemmas.{next-words}
use Rattle.codegen_link.proofs.words.code_of.Goals as goal

pub overflow_cast-function : goal.overflow_cast-function
overflow_cast-function c =
    omega (arith, few-functions (program_code c.args.layout.now.flat.now) c.args.layout.now.plan.now c.requires.ready.fits, c.loop-function-test.true, ap length c.functions-function-end.ensures)

pub loop-function-preserved : goal.loop-function-preserved
loop-function-preserved c =
    let code = program_code c.args.layout.now.flat.now in
    let certificate = c.args.layout.now.certificate.now in
    let f = c.loop-function.function in
    next-words [] c.loop-function.code.items c.push_function.new.code.items (functions_before code certificate f) (function_code code certificate f) (functions_before code certificate (f + 1))
    c.loop-function.invariant c.in_ok-push_function.ensures (ap (functions_before code certificate) (add-one f))
