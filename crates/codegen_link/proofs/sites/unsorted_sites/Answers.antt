use Rattle.codegen_link.proofs.Common.{[], ◌<◌, false, length, refl, subst, filter_map, FlatFunction, program_code, flat-pushed, site_fact}
use Rattle.codegen_link.proofs.sites.unsorted_sites.Goals as goal

pub loop-function-preserved : goal.loop-function-preserved
loop-function-preserved c =
    let code = program_code c.args.flat.now in
    let none : FlatFunction = record { params = 0; gives = false; sizes = []; ops = [] } in
    let sites = λ (f : FlatFunction). filter_map (site_fact code c.args.plan.now) f.ops in
    flat-pushed sites code.functions c.loop-function.function none _ _ _ (subst (λ fs. c.loop-function.function < length fs) c.functions-function-end.ensures c.loop-function-test.true)
    c.loop-function.invariant c.in_ok-push_sites.ensures refl
