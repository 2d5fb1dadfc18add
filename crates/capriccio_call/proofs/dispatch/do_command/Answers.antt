use Rattle.capriccio_call.proofs.Common.{Result, sym, subst, Options, request_of, Builds, Outside, outside_by, Does, sizes_of, Graphs, Checks, Budgets, Audits, Stop, Ended, Serves, EndsAs, IsStatus, audit-options, build-sizes, serve-sizes, serve-policy, serve-pool, run-policy, IsEnd}
use Rattle.command_words.specs.declared.commands.Command.{Command}
use Rattle.capriccio_call.proofs.Handed.{ends-without}
use Rattle.capriccio_call.proofs.dispatch.do_command.Goals as goal

pub do_build-requires : goal.do_build-requires
do_build-requires g c =
    let asked = rw c.in-Build.is at c.requires.1 in
    rw c.options_of-in-Build.ensures (build-sizes c.requires.0 c.in-Build.source.now c.in-Build.image.now c.in-Build.certificate.now c.in-Build.placement asked)

pub serve-requires-clause-sizes : goal.serve-requires-clause-sizes
serve-requires-clause-sizes g c =
    let asked = rw c.in-Serve.is at c.requires.1 in
    rw c.options_of-in-Serve.ensures (serve-sizes c.requires.0 c.in-Serve.source.now c.in-Serve.placement c.in-Serve.policy asked)

pub serve-requires-clause-policy : goal.serve-requires-clause-policy
serve-requires-clause-policy g c =
    let asked = rw c.in-Serve.is at c.requires.1 in
    serve-policy c.requires.0 c.in-Serve.source.now c.in-Serve.placement c.in-Serve.policy asked

pub serve-requires-clause-pool : goal.serve-requires-clause-pool
serve-requires-clause-pool g c =
    let asked = rw c.in-Serve.is at c.requires.1 in
    rw c.options_of-in-Serve.ensures (serve-pool c.requires.0 c.in-Serve.source.now c.in-Serve.placement c.in-Serve.policy asked)

pub run_pair-requires : goal.run_pair-requires
run_pair-requires g c =
    let asked = rw c.in-Run.is at c.requires.1 in
    run-policy c.requires.0 c.in-Run.source.now c.in-Run.image.now c.in-Run.certificate.now c.in-Run.policy asked

pub returns-in-Graph : goal.returns-in-Graph
returns-in-Graph g c =
    let F = g.F.Shelf in let S = g.S.Source in let K = g.K.Sink in let a = c.args in
    let before : Outside = outside_by F.files F.load_faults F.store_faults S.left S.faults K.taken K.faults a.shelf.now a.trace.now a.out.now in
    let after : Outside = outside_by F.files F.load_faults F.store_faults S.left S.faults K.taken K.faults c.do_graph.new.shelf a.trace.now c.do_graph.new.out in
    let R : Options → Type 0 = λ o. EndsAs IsStatus (Graphs before.files c.in-Graph.source.now o.max_path) before after c.do_graph.result in
    let done : R (sizes_of c.in-Graph.placement) = subst R c.options_of.ensures (c.do_graph.ensures before.left before.reads) in
    let Q : Command → Type 0 = λ x. EndsAs IsEnd (Does (request_of x) before) before after c.ended_without_world.result in
    let P : Result Ended Stop → Type 0 = λ r. EndsAs IsEnd (Graphs before.files c.in-Graph.source.now c.in-Graph.placement.max_path) before after r in
    subst Q (sym c.in-Graph.is) (subst P (sym c.ended_without_world.ensures) (ends-without (Graphs before.files c.in-Graph.source.now c.in-Graph.placement.max_path) before after c.do_graph.result done))

pub returns-in-Check : goal.returns-in-Check
returns-in-Check g c =
    let F = g.F.Shelf in let S = g.S.Source in let K = g.K.Sink in let a = c.args in
    let before : Outside = outside_by F.files F.load_faults F.store_faults S.left S.faults K.taken K.faults a.shelf.now a.trace.now a.out.now in
    let after : Outside = outside_by F.files F.load_faults F.store_faults S.left S.faults K.taken K.faults c.do_check.new.shelf a.trace.now c.do_check.new.out in
    let Q : Command → Type 0 = λ x. EndsAs IsEnd (Does (request_of x) before) before after c.ended_without_world-in-Check.result in
    let P : Result Ended Stop → Type 0 = λ r. EndsAs IsEnd (Checks before.files c.in-Check.source.now c.in-Check.image.now c.in-Check.certificate.now) before after r in
    subst Q (sym c.in-Check.is) (subst P (sym c.ended_without_world-in-Check.ensures) (ends-without (Checks before.files c.in-Check.source.now c.in-Check.image.now c.in-Check.certificate.now) before after c.do_check.result (c.do_check.ensures before.left before.reads)))

pub returns-in-Serve : goal.returns-in-Serve
returns-in-Serve g c =
    let F = g.F.Shelf in let S = g.S.Source in let K = g.K.Sink in let a = c.args in
    let before : Outside = outside_by F.files F.load_faults F.store_faults S.left S.faults K.taken K.faults a.shelf.now a.trace.now a.out.now in
    let after : Outside = outside_by F.files F.load_faults F.store_faults S.left S.faults K.taken K.faults c.serve.new.shelf c.serve.new.trace c.serve.new.out in
    let P : Options → Type 0 = λ o. EndsAs IsEnd (Serves before.files before.left c.in-Serve.source.now o c.in-Serve.policy) before after c.serve.result in
    let Q : Command → Type 0 = λ x. EndsAs IsEnd (Does (request_of x) before) before after c.serve.result in
    let done : P (sizes_of c.in-Serve.placement) = subst P c.options_of-in-Serve.ensures (c.serve.ensures) in
    subst Q (sym c.in-Serve.is) done

pub returns-in-Run : goal.returns-in-Run
returns-in-Run g c =
    let F = g.F.Shelf in let S = g.S.Source in let K = g.K.Sink in let a = c.args in
    let before : Outside = outside_by F.files F.load_faults F.store_faults S.left S.faults K.taken K.faults a.shelf.now a.trace.now a.out.now in
    let after : Outside = outside_by F.files F.load_faults F.store_faults S.left S.faults K.taken K.faults c.run_pair.new.shelf c.run_pair.new.trace c.run_pair.new.out in
    let Q : Command → Type 0 = λ x. EndsAs IsEnd (Does (request_of x) before) before after c.run_pair.result in
    subst Q (sym c.in-Run.is) (c.run_pair.ensures)

pub returns-in-Build : goal.returns-in-Build
returns-in-Build g c =
    let F = g.F.Shelf in let S = g.S.Source in let K = g.K.Sink in let a = c.args in
    let before : Outside = outside_by F.files F.load_faults F.store_faults S.left S.faults K.taken K.faults a.shelf.now a.trace.now a.out.now in
    let after : Outside = outside_by F.files F.load_faults F.store_faults S.left S.faults K.taken K.faults c.do_build.new.shelf a.trace.now c.do_build.new.out in
    let R : Options → Type 0 = λ o. EndsAs IsStatus (Builds before.files c.in-Build.source.now c.in-Build.image.now c.in-Build.certificate.now o) before after c.do_build.result in
    let done : R (sizes_of c.in-Build.placement) = subst R c.options_of-in-Build.ensures (c.do_build.ensures before.left before.reads) in
    let Q : Command → Type 0 = λ x. EndsAs IsEnd (Does (request_of x) before) before after c.ended_without_world-in-Build.result in
    let P : Result Ended Stop → Type 0 = λ r. EndsAs IsEnd (Builds before.files c.in-Build.source.now c.in-Build.image.now c.in-Build.certificate.now (sizes_of c.in-Build.placement)) before after r in
    subst Q (sym c.in-Build.is) (subst P (sym c.ended_without_world-in-Build.ensures) (ends-without (Builds before.files c.in-Build.source.now c.in-Build.image.now c.in-Build.certificate.now (sizes_of c.in-Build.placement)) before after c.do_build.result done))

pub demo-requires-clause-some : goal.demo-requires-clause-some
demo-requires-clause-some g c =
    let asked = rw c.in-Demo.is at c.requires.1 in
    asked.2

pub demo-requires-clause-few : goal.demo-requires-clause-few
demo-requires-clause-few g c =
    let asked = rw c.in-Demo.is at c.requires.1 in
    asked.3

pub returns-in-Demo : goal.returns-in-Demo
returns-in-Demo g c =
    let F = g.F.Shelf in let S = g.S.Source in let K = g.K.Sink in let a = c.args in
    let before : Outside = outside_by F.files F.load_faults F.store_faults S.left S.faults K.taken K.faults a.shelf.now a.trace.now a.out.now in
    let after : Outside = outside_by F.files F.load_faults F.store_faults S.left S.faults K.taken K.faults a.shelf.now a.trace.now c.demo.new.out in
    let Q : Command → Type 0 = λ x. EndsAs IsEnd (Does (request_of x) before) before after c.demo.result in
    subst Q (sym c.in-Demo.is) (c.demo.ensures before.files before.loads before.stores before.left before.reads)

pub do_audit-requires : goal.do_audit-requires
do_audit-requires g c =
    let asked = rw c.in-Audit.is at c.requires.1 in
    audit-options c.requires.0 c.in-Audit.source.now c.in-Audit.log.now c.in-Audit.options asked

pub returns-in-Audit : goal.returns-in-Audit
returns-in-Audit g c =
    let F = g.F.Shelf in let S = g.S.Source in let K = g.K.Sink in let a = c.args in
    let before : Outside = outside_by F.files F.load_faults F.store_faults S.left S.faults K.taken K.faults a.shelf.now a.trace.now a.out.now in
    let after : Outside = outside_by F.files F.load_faults F.store_faults S.left S.faults K.taken K.faults c.do_audit.new.shelf c.do_audit.new.trace c.do_audit.new.out in
    let Q : Command → Type 0 = λ x. EndsAs IsEnd (Does (request_of x) before) before after c.ended_without_world-in-Audit.result in
    let P : Result Ended Stop → Type 0 = λ r. EndsAs IsEnd (Audits before.files before.left c.in-Audit.source.now c.in-Audit.log.now c.in-Audit.options) before after r in
    subst Q (sym c.in-Audit.is) (subst P (sym c.ended_without_world-in-Audit.ensures) (ends-without (Audits before.files before.left c.in-Audit.source.now c.in-Audit.log.now c.in-Audit.options) before after c.do_audit.result c.do_audit.ensures))

pub returns-in-Budget : goal.returns-in-Budget
returns-in-Budget g c =
    let F = g.F.Shelf in let S = g.S.Source in let K = g.K.Sink in let a = c.args in
    let before : Outside = outside_by F.files F.load_faults F.store_faults S.left S.faults K.taken K.faults a.shelf.now a.trace.now a.out.now in
    let after : Outside = outside_by F.files F.load_faults F.store_faults S.left S.faults K.taken K.faults c.do_budget.new.shelf a.trace.now c.do_budget.new.out in
    let Q : Command → Type 0 = λ x. EndsAs IsEnd (Does (request_of x) before) before after c.ended_without_world-in-Budget.result in
    let P : Result Ended Stop → Type 0 = λ r. EndsAs IsEnd (Budgets before.files c.in-Budget.source.now c.in-Budget.image.now c.in-Budget.certificate.now) before after r in
    subst Q (sym c.in-Budget.is) (subst P (sym c.ended_without_world-in-Budget.ensures) (ends-without (Budgets before.files c.in-Budget.source.now c.in-Budget.image.now c.in-Budget.certificate.now) before after c.do_budget.result (c.do_budget.ensures before.left before.reads)))
