use Rattle.codegen_link.proofs.Common.{◌++◌, [], take, sym, ap, ◌∙◌, append_assoc, filter_map, cons_option, function_at, program_code, site_fact}
use Rattle.codegen_link.proofs.AddressLemmas.{names-at}
use Rattle.codegen_link.proofs.StepLemmas.{filter-step}
use Rattle.codegen_link.proofs.sites.push_sites.Goals as goal

pub loop-op-preserved : goal.loop-op-preserved
loop-op-preserved c =
    let h = site_fact (program_code c.args.flat.now) c.args.plan.now in
    let ops = (function_at (program_code c.args.flat.now) c.args.function).ops in
    let more = cons_option (h c.operation_of-op.result.now) [] in
    c.in_ok-push_site.ensures ∙ (ap (λ t. t ++ more) c.loop-op.invariant ∙
    (append_assoc c.args.sites.now.items (filter_map h (take c.loop-op.op ops)) more ∙
    ap (λ t. c.args.sites.now.items ++ t) (sym (filter-step h ops c.loop-op.op c.operation_of-op.result.now (sym c.operation_of-op.ensures.value)))))

pub push_site-requires-clause-names : goal.push_site-requires-clause-names
push_site-requires-clause-names c =
    names-at (program_code c.args.flat.now) c.args.function c.loop-op.op c.operation_of-op.result.now c.args.flat.now.well_formed c.requires.function (sym c.operation_of-op.ensures.value)
