use Rattle.std.proofs.Common.{◌-◌, arith}
use Rattle.segment_run.proofs.ReadyRuns.{op_in, goes_in, went_in, if_some}
use Rattle.segment_run.proofs.ready_turns.turn_in.Goals as goal

pub read-a-requires : goal.read-a-requires
read-a-requires c =
    let r = c.requires.run in
    (op_in r.0 c.args.ready.now c.args.areas.now c.args.file.now c.args.at r.1 c.args.op.now r.3 c.requires.there).registers.rs1

pub read-b-requires : goal.read-b-requires
read-b-requires c =
    let r = c.requires.run in
    (op_in r.0 c.args.ready.now c.args.areas.now c.args.file.now c.args.at r.1 c.args.op.now r.3 c.requires.there).registers.rs2

pub turn-requires-clause-registers : goal.turn-requires-clause-registers
turn-requires-clause-registers c =
    let r = c.requires.run in
    (op_in r.0 c.args.ready.now c.args.areas.now c.args.file.now c.args.at r.1 c.args.op.now r.3 c.requires.there).registers

pub turn-requires-clause-place : goal.turn-requires-clause-place
turn-requires-clause-place c = c.requires.run.3.way.form.core.pc

pub turn-requires-clause-goes : goal.turn-requires-clause-goes
turn-requires-clause-goes c =
    let r = c.requires.run in
    goes_in r.0 c.args.ready.now c.args.areas.now c.args.file.now c.args.at r.1 c.args.op.now r.3 r.2 c.requires.there

pub returns-clause-went : goal.returns-clause-went
returns-clause-went c = λ run left some is.
    if_some c.turn.result c.turn.ensures.went (λ next went.
    went_in run c.args.ready.now c.args.areas.now c.turn.new.areas c.args.file.now c.turn.new.file c.args.at next left (left - 1) c.args.op.now is (omega (arith, some)) c.requires.there went)
