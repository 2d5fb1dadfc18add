use Rattle.segment_run.proofs.Common.{refl, ap, subst, ◌∙◌, a0, a1, a2, Starts, system_call, read, checked_of, IsSafeMove, AsksAt, thread_of}
use Rattle.segment_run.proofs.Calls.{spawned_entry, at_spawn, last_chunk}
use Rattle.segment_run.proofs.running.call.Goals as goal

pub function_with_entry-requires-clause-there : goal.function_with_entry-requires-clause-there
function_with_entry-requires-clause-there c =
    let checked = checked_of c.args.accepted.now in
    let l = thread_of c.args.areas.now c.args.thread.now in
    let asks : AsksAt checked l (Starts (read l.core.x a0) (read l.core.x a1) (read l.core.x a2)) =
    subst (IsSafeMove checked l) (c.requires.calls ∙ ap (system_call l) c.in-4.is) c.requires.safe.move in
    spawned_entry checked.flat c.args.accepted.now.image c.args.accepted.now.certificate l (read l.core.x a0) (read l.core.x a1) (read l.core.x a2) c.requires.valid asks

pub end-requires-clause-last : goal.end-requires-clause-last
end-requires-clause-last c =
    let checked = checked_of c.args.accepted.now in
    let l = thread_of c.args.areas.now c.args.thread.now in
    last_chunk checked c.args.areas.now c.args.thread.now c.args.thread.now.depth refl
    (subst (IsSafeMove checked l) (c.requires.calls ∙ ap (system_call l) c.in-30.is) c.requires.safe.move)

pub returns-in-4 : goal.returns-in-4
returns-in-4 c =
    let checked = checked_of c.args.accepted.now in
    let l = thread_of c.args.areas.now c.args.thread.now in
    let step = c.requires.calls ∙ ap (system_call l) c.in-4.is in
    let asks : AsksAt checked l (Starts (read l.core.x a0) (read l.core.x a1) (read l.core.x a2)) =
    subst (IsSafeMove checked l) step c.requires.safe.move in
    (at_spawn checked.flat c.args.accepted.now.image c.args.accepted.now.certificate l (read l.core.x a0) (read l.core.x a1) (read l.core.x a2) c.function_with_entry.result c.requires.valid asks step c.function_with_entry.ensures, refl)
