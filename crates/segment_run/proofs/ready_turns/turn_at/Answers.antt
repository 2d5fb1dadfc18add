use Rattle.segment_run.proofs.ReadyRuns.{standing}
use Rattle.segment_run.proofs.ready_turns.turn_at.Goals as goal

pub operation_at-requires-clause-there : goal.operation_at-requires-clause-there
operation_at-requires-clause-there c =
    let r = c.requires.run in
    let s = standing r.0 c.args.ready.now c.args.areas.now c.args.file.now c.args.at r.1 r.3 in
    (r.0.code, s.0, r.3.are_ready, s.1)

pub operation_at-requires-clause-place : goal.operation_at-requires-clause-place
operation_at-requires-clause-place c = c.requires.run.3.way.form.core.pc

pub turn_in-requires-clause-kind : goal.turn_in-requires-clause-kind
turn_in-requires-clause-kind c = c.requires.kind c.operation_at.result.now c.operation_at.ensures.there
