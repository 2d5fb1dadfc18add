use Rattle.segment_run.proofs.Common.{slice_get-get_or}
use Rattle.segment_run.proofs.ReadyTurns.{in_list, is_ready}
use Rattle.segment_run.proofs.ready_turns.operation_at.Goals as goal

pub bounds-ready-at : goal.bounds-ready-at
bounds-ready-at c = in_list c.requires.there.0 c.args.ready.now c.args.at c.requires.there.1 c.requires.there.2 c.requires.there.3

pub returns-clause-ready : goal.returns-clause-ready
returns-clause-ready c = λ words instr are e.
    is_ready words c.args.ready.now c.args.at instr _ are e c.requires.place
    (slice_get-get_or c.args.ready.now c.args.at _ (in_list words c.args.ready.now c.args.at instr are e))

pub returns-clause-there : goal.returns-clause-there
returns-clause-there c =
    let there = c.requires.there in
    slice_get-get_or c.args.ready.now c.args.at _ (in_list there.0 c.args.ready.now c.args.at there.1 there.2 there.3)
