use Rattle.chunk_pool.proofs.Common.{ℕ, ◌∙◌, sym, ap, subst, Option, Some, taken_for, IsTaken}
use Rattle.chunk_pool.proofs.NeedLaws.{IsTaken-first, IsTaken-extra, IsTaken-none, take_tells}
use Rattle.chunk_pool.proofs.pool.ChunkPool.take.Goals as goal

pub returns-in_err-class-clause-taken : goal.returns-in_err-class-clause-taken
returns-in_err-class-clause-taken c =
    subst (λ (a : Option ℕ). IsTaken (taken_for c.args.self.now c.args.need) a c.args.self.now c.args.self.now) (sym c.from_residual.ensures)
    (IsTaken-none c.args.self.now c.args.need (sym c.in_err-class.ensures.value))

pub returns-in_err-class-clause-none : goal.returns-in_err-class-clause-none
returns-in_err-class-clause-none c =
    (take_tells c.args.self.now c.args.need c.from_residual.result c.args.self.now c.in_err-class.ensures.sound (returns-in_err-class-clause-taken c)).0

pub returns-in-First-clause-taken : goal.returns-in-First-clause-taken
returns-in-First-clause-taken c =
    IsTaken-first c.args.self.now c.args.need c.take_first.result c.take_first.new.self (sym c.in_ok-class.ensures.value ∙ ap Some c.in-First.is)
    c.take_first.ensures.first c.take_first.ensures.after

pub returns-in-First-clause-none : goal.returns-in-First-clause-none
returns-in-First-clause-none c =
    (take_tells c.args.self.now c.args.need (Some c.take_first.result) c.take_first.new.self c.in_ok-class.ensures.sound (returns-in-First-clause-taken c)).0

pub returns-in-First-clause-held : goal.returns-in-First-clause-held
returns-in-First-clause-held c =
    (take_tells c.args.self.now c.args.need (Some c.take_first.result) c.take_first.new.self c.in_ok-class.ensures.sound (returns-in-First-clause-taken c)).1

pub returns-in-Extra-clause-taken : goal.returns-in-Extra-clause-taken
returns-in-Extra-clause-taken c =
    IsTaken-extra c.args.self.now c.args.need c.take_extra.result c.take_extra.new.self (sym c.in_ok-class.ensures.value ∙ ap Some c.in-Extra.is)
    c.take_extra.ensures.first c.take_extra.ensures.after

pub returns-in-Extra-clause-none : goal.returns-in-Extra-clause-none
returns-in-Extra-clause-none c =
    (take_tells c.args.self.now c.args.need (Some c.take_extra.result) c.take_extra.new.self c.in_ok-class.ensures.sound (returns-in-Extra-clause-taken c)).0

pub returns-in-Extra-clause-held : goal.returns-in-Extra-clause-held
returns-in-Extra-clause-held c =
    (take_tells c.args.self.now c.args.need (Some c.take_extra.result) c.take_extra.new.self c.in_ok-class.ensures.sound (returns-in-Extra-clause-taken c)).1
