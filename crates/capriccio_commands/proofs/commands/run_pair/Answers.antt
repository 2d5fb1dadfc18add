use Rattle.capriccio_commands.proofs.Common.{refl, err_from_is_err_and, accepted_tree, Outside, outside_by, RunsOn, Runs, setup_of, ends-follow, stopped, IsEnd, Keeps-refl}
use Rattle.capriccio_commands.proofs.commands.run_pair.Goals as goal

pub run_accepted-requires-clause-pool : goal.run_accepted-requires-clause-pool
run_accepted-requires-clause-pool g c = let is = c.in_ok-accepted.ensures.answer (g.S.Source.left c.args.trace.now) in is.1

pub accept_files-requires : goal.accept_files-requires
accept_files-requires g c = c.requires

pub returns-in_err-accepted : goal.returns-in_err-accepted
returns-in_err-accepted g c =
    let p = err_from_is_err_and c.from_residual.result c.from_residual.ensures.1 in
    let F = g.F.Shelf in let S = g.S.Source in let K = g.K.Sink in let a = c.args in let shelf = c.accept_files.new.shelf in
    let before : Outside = outside_by F.files F.load_faults F.store_faults S.left S.faults K.taken K.faults a.shelf.now a.trace.now a.out.now in
    let after : Outside = outside_by F.files F.load_faults F.store_faults S.left S.faults K.taken K.faults shelf a.trace.now a.out.now in
    let step = c.in_err-accepted.ensures in
    rw (p.1, p.2) (stopped IsEnd (Runs before.files before.left a.source.now a.image.now a.certificate.now a.policy) before after c.in_err-accepted.field-0.0 step.files step.stores
    (Keeps-refl before.left) refl (Keeps-refl before.taken) refl (step.answer before.left))

pub returns : goal.returns
returns g c =
    let F = g.F.Shelf in let S = g.S.Source in let K = g.K.Sink in let a = c.args in
    let before : Outside = outside_by F.files F.load_faults F.store_faults S.left S.faults K.taken K.faults a.shelf.now a.trace.now a.out.now in
    let accepted = c.in_ok-accepted.accepted in
    let step = c.in_ok-accepted.ensures in
    let is = step.answer before.left in
    ends-follow IsEnd (RunsOn before.left (setup_of (accepted_tree accepted) accepted.image accepted.certificate a.policy)) (Runs before.files before.left a.source.now a.image.now a.certificate.now a.policy) _ _ c.run_accepted.result is.0
    (c.run_accepted.ensures.ends _ _ _ _ _ _ step.files is.2 step.stores)
