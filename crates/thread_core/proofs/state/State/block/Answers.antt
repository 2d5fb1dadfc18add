use Rattle.thread_core.proofs.Common.{◌≡◌, ℕ, ◌-◌, ◌+◌, List, sym, ap, ◌∙◌, subst, arith, Stop, Pool, Op, Frame, key_of, Place, IsPastCall, checked_of, core_of, Turn, State}
use Rattle.thread_core.proofs.Blocking as law
use Rattle.thread_core.proofs.InRange.{in_range}
use Rattle.thread_core.proofs.Alike.{stop_told}
use Rattle.thread_core.proofs.Joining.{told_is}
use Rattle.thread_core.proofs.state.State.block.Goals as goal

pub returns-in-Some : goal.returns-in-Some
returns-in-Some c =
    told_is c.args.accepted.now c.args.most c.args.thread c.args.self.now c.args.self.now c.cut.result (Turn.Cut (Stop.Trap c.in-Some.kind) (c.args.most - c.args.self.now.fuel.left - c.args.self.now.begun)) c.cut.new.self
    (stop_told c.args.accepted.now c.args.most c.args.self.now c.args.thread c.requires.runs (Stop.Trap c.in-Some.kind) (law.traps c.args.accepted.now c.args.most c.args.self.now c.args.thread c.requires.runs c.requires.fuel c.args.block c.requires.at c.image-image.ensures.valid c.in-Some.kind (sym c.trap_of.ensures.trap ∙ c.in-Some.is)))
    c.cut.ensures.turn c.cut.ensures.after

pub pass-context-requires-clause-pc : goal.pass-context-requires-clause-pc
pass-context-requires-clause-pc c = law.small_pc c.args.accepted.now c.args.most c.args.self.now c.args.thread c.requires.runs c.requires.fuel c.args.block c.requires.at c.image-image.ensures.valid

pub walk-key-requires : goal.walk-key-requires
walk-key-requires c =
    law.around_over c.args.accepted.now c.args.self.now c.pool.result.now c.pass-context.result (c.pool.ensures ∙ ap (λ (x : State). x.areas.pool) c.pass-context.ensures.rest)
    (c.pass-context.ensures.rests c.args.accepted.now c.args.self.now.areas c.image-image.ensures.valid (law.before c.args.accepted.now c.args.most c.args.self.now c.args.thread c.requires.runs c.requires.fuel c.args.block c.requires.at c.image-image.ensures.valid))

pub wait-requires-clause-in_range : goal.wait-requires-clause-in_range
wait-requires-clause-in_range c =
    let time : c.clock-since.result ≡ c.args.self.now.waits.clock + 1 = c.clock-since.ensures ∙ ap (λ (x : State). x.waits.clock) c.pass-context.ensures.rest in
    (in_range c.args.self.now.exchange c.args.block c.trap_of.ensures.caps (sym c.trap_of.ensures.trap ∙ c.in_default.is), omega (arith, time, c.requires.runs.kept.clock, c.requires.runs.kept.fuel, c.requires.runs.kept.formed.fuel, c.requires.fuel))

pub returns : goal.returns
returns c =
    law.passed_told c.args.accepted.now c.args.most c.args.self.now c.args.thread c.requires.runs c.requires.fuel c.args.block c.requires.at c.image-image.ensures.valid (sym c.trap_of.ensures.trap ∙ c.in_default.is) c.pass-context.new.self c.pass-context.result c.wait.new.self c.clock-since.result c.segment_cost.result c.walk-key.result
    c.pass-context.ensures.«record» c.pass-context.ensures.context c.pass-context.ensures.rest c.pass-context.ensures.fuel (c.pass-context.ensures.rests c.args.accepted.now c.args.self.now.areas c.image-image.ensures.valid (law.before c.args.accepted.now c.args.most c.args.self.now c.args.thread c.requires.runs c.requires.fuel c.args.block c.requires.at c.image-image.ensures.valid))
    c.clock-since.ensures c.wait.ensures c.segment_cost.ensures
    (subst (λ (pool : Pool). (f i word : ℕ) (op : Op) (place : Place) (frames : List Frame) → IsPastCall (checked_of c.args.accepted.now) pool (core_of pool c.pass-context.result) f i op word place frames → c.walk-key.result ≡ key_of (checked_of c.args.accepted.now) f i frames) c.pool.ensures c.walk-key.ensures.behind)
