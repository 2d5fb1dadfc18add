use Rattle.thread_core.proofs.Common.{◌-◌, Some, Stop, Turn}
use Rattle.segment_run.specs.declared.segments.Segment.TheVariants as answer
use Rattle.thread_core.proofs.Joining.{joined, less_joined, cut_is, cut_trap, cut_chunk, cut_fuel}
use Rattle.thread_core.proofs.state.State.run_on.Goals as goal

pub returns-in-Blocks-clause-told : goal.returns-in-Blocks-clause-told
returns-in-Blocks-clause-told c = joined c.args.accepted.now c.args.most c.args.thread c.args.self.now c.run_to_call.new.self c.block.new.self (answer.Blocks c.in-Blocks.block) (Some c.block.result) (c.in-Blocks.ensures) c.block.ensures

pub returns-in-Asks-clause-told : goal.returns-in-Asks-clause-told
returns-in-Asks-clause-told c = joined c.args.accepted.now c.args.most c.args.thread c.args.self.now c.run_to_call.new.self c.answer.new.self (answer.Asks c.in-Asks.ask) c.answer.result (c.in-Asks.ensures) c.answer.ensures.told

pub returns-in-Asks-clause-fuel : goal.returns-in-Asks-clause-fuel
returns-in-Asks-clause-fuel c = less_joined c.answer.result c.answer.new.self.fuel.left c.run_to_call.new.self.fuel.left c.args.self.now.fuel.left c.answer.ensures.fuel c.in-Asks.ensures.less

pub returns-in-Traps-clause-told : goal.returns-in-Traps-clause-told
returns-in-Traps-clause-told c =
    cut_is c.args.accepted.now c.args.most c.args.thread c.args.self.now c.run_to_call.new.self c.cut.result (Turn.Cut (Stop.Trap c.in-Traps.kind) (c.args.most - c.run_to_call.new.self.fuel.left - c.run_to_call.new.self.begun)) c.cut.new.self
    (cut_trap c.args.accepted.now c.args.most c.args.thread c.args.self.now c.run_to_call.new.self c.in-Traps.kind (c.in-Traps.ensures)) c.cut.ensures.turn c.cut.ensures.after

pub returns-in-NoChunk-clause-told : goal.returns-in-NoChunk-clause-told
returns-in-NoChunk-clause-told c =
    cut_is c.args.accepted.now c.args.most c.args.thread c.args.self.now c.run_to_call.new.self c.cut-in-NoChunk.result (Turn.Cut Stop.NoChunk (c.args.most - c.run_to_call.new.self.fuel.left - c.run_to_call.new.self.begun)) c.cut-in-NoChunk.new.self
    (cut_chunk c.args.accepted.now c.args.most c.args.thread c.args.self.now c.run_to_call.new.self (c.in-NoChunk.ensures)) c.cut-in-NoChunk.ensures.turn c.cut-in-NoChunk.ensures.after

pub returns-in-OutOfFuel-clause-told : goal.returns-in-OutOfFuel-clause-told
returns-in-OutOfFuel-clause-told c =
    cut_is c.args.accepted.now c.args.most c.args.thread c.args.self.now c.run_to_call.new.self c.cut-in-OutOfFuel.result (Turn.Cut Stop.Fuel (c.args.most - c.run_to_call.new.self.fuel.left - c.run_to_call.new.self.begun)) c.cut-in-OutOfFuel.new.self
    (cut_fuel c.args.accepted.now c.args.most c.args.thread c.args.self.now c.run_to_call.new.self (c.in-OutOfFuel.ensures)) c.cut-in-OutOfFuel.ensures.turn c.cut-in-OutOfFuel.ensures.after
