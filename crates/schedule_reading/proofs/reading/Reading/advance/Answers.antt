use Rattle.schedule_reading.proofs.Common.{Option, Some, Result, Ok, sym, subst, Segment, Given, State, tree_of, HasCome, Happening, Failure, Advances, KeepsBut, MayRun, RunsSomehow, Core, Kept}
use Rattle.source_runs.specs.declared.interpreter.Coming.TheVariants as coming
use Rattle.schedule_reading.specs.declared.events.Happening.TheVariants as happening
use Rattle.schedule_reading.proofs.Came.{asked_at, asks_advances, block_traps, blocks_advances, core_after, ends_advances, keeps_asked, late_advances, may_answer, traps_advances, under_after}
use Rattle.schedule_reading.proofs.reading.Reading.advance.Goals as goal
use Rattle.schedule_reading.proofs.reading.Reading.advance.Goals.{in-None, in-Some}

pub answer-requires : goal.answer-requires
answer-requires g c =
    let k : Core = record { policy = c.self.inside.policy; interpreter = c.self.inside.interpreter; words = c.self.inside.globals.items; threads = c.self.inside.threads; scheduler = c.self.inside.scheduler; graph = c.self.inside.graph; monitor = c.self.inside.monitor; free = c.self.inside.free; cost = c.self.inside.cost; left = c.self.inside.left } in
    let came : HasCome (tree_of k.interpreter) c.args.under.now.thread k.words c.args.left.now c.run.new.left c.run.new.thread c.run.new.globals.items (coming.Asks c.in-Asks.ask) =
    subst (HasCome (tree_of k.interpreter) c.args.under.now.thread k.words c.args.left.now c.run.new.left c.run.new.thread c.run.new.globals.items) c.in-Asks.is c.in_ok-coming.ensures.came in
    let runs : RunsSomehow k c.args.under.now c.args.left.now = subst (λ (x : Kept). RunsSomehow x.core c.args.under.now c.args.left.now) (sym c.self.view_is) c.requires.runs in (
      runs.0,
      runs.1,
      asked_at runs.0 runs.1 runs.2 c.args.crowds k c.args.under.now c.args.left.now c.run.new.left runs.3 c.run.new.globals.items c.run.new.thread c.in-Asks.ask came,
      may_answer runs.0 runs.1 runs.2 c.args.crowds k c.args.under.now c.args.left.now c.run.new.left runs.3 c.run.new.globals.items c.run.new.thread c.in-Asks.ask came,
    )

pub returns-in-Asks-clause-advances : goal.returns-in-Asks-clause-advances
returns-in-Asks-clause-advances g c =
    let k : Core = record { policy = c.self.inside.policy; interpreter = c.self.inside.interpreter; words = c.self.inside.globals.items; threads = c.self.inside.threads; scheduler = c.self.inside.scheduler; graph = c.self.inside.graph; monitor = c.self.inside.monitor; free = c.self.inside.free; cost = c.self.inside.cost; left = c.self.inside.left } in
    let came : HasCome (tree_of k.interpreter) c.args.under.now.thread k.words c.args.left.now c.run.new.left c.run.new.thread c.run.new.globals.items (coming.Asks c.in-Asks.ask) =
    subst (HasCome (tree_of k.interpreter) c.args.under.now.thread k.words c.args.left.now c.run.new.left c.run.new.thread c.run.new.globals.items) c.in-Asks.is c.in_ok-coming.ensures.came in
    subst (λ (x : Kept). (given : Given) (state : State) (here : Segment) → MayRun given state here x.core c.args.under.now c.args.left.now → Advances given state here c.args.crowds c.args.left.now c.run.new.left c.answer.new.self.core c.answer.new.under c.answer.result) c.self.view_is
    (λ given state here may. asks_advances given state here c.args.crowds k c.args.under.now c.args.left.now c.run.new.left may c.run.new.globals.items c.run.new.thread c.in-Asks.ask came c.answer.new.self.core c.answer.new.under c.answer.result
    (c.answer.ensures.answers given state (asked_at given state here c.args.crowds k c.args.under.now c.args.left.now c.run.new.left may c.run.new.globals.items c.run.new.thread c.in-Asks.ask came)
    (may_answer given state here c.args.crowds k c.args.under.now c.args.left.now c.run.new.left may c.run.new.globals.items c.run.new.thread c.in-Asks.ask came)))

pub returns-in-Asks-clause-keeps : goal.returns-in-Asks-clause-keeps
returns-in-Asks-clause-keeps g c =
    let k : Core = record { policy = c.self.inside.policy; interpreter = c.self.inside.interpreter; words = c.self.inside.globals.items; threads = c.self.inside.threads; scheduler = c.self.inside.scheduler; graph = c.self.inside.graph; monitor = c.self.inside.monitor; free = c.self.inside.free; cost = c.self.inside.cost; left = c.self.inside.left } in
    let came : HasCome (tree_of k.interpreter) c.args.under.now.thread k.words c.args.left.now c.run.new.left c.run.new.thread c.run.new.globals.items (coming.Asks c.in-Asks.ask) =
    subst (HasCome (tree_of k.interpreter) c.args.under.now.thread k.words c.args.left.now c.run.new.left c.run.new.thread c.run.new.globals.items) c.in-Asks.is c.in_ok-coming.ensures.came in
    subst (λ (x : Kept). KeepsBut x.core c.args.under.now c.args.left.now c.answer.new.self.core c.answer.new.under c.run.new.left) c.self.view_is
    (keeps_asked (tree_of k.interpreter) k c.args.under.now c.args.left.now c.run.new.left c.run.new.globals.items c.run.new.thread c.in-Asks.ask came c.answer.new.self.core c.answer.new.under c.answer.ensures.keeps)

pub returns-after-trap_of-clause-advances : goal.returns-after-trap_of-clause-advances
returns-after-trap_of-clause-advances g c =
    let k : Core = record { policy = c.self.inside.policy; interpreter = c.self.inside.interpreter; words = c.self.inside.globals.items; threads = c.self.inside.threads; scheduler = c.self.inside.scheduler; graph = c.self.inside.graph; monitor = c.self.inside.monitor; free = c.self.inside.free; cost = c.self.inside.cost; left = c.self.inside.left } in
    let came : HasCome (tree_of k.interpreter) c.args.under.now.thread k.words c.args.left.now c.run.new.left c.run.new.thread c.run.new.globals.items (coming.Blocks c.in-Blocks.block) =
    subst (HasCome (tree_of k.interpreter) c.args.under.now.thread k.words c.args.left.now c.run.new.left c.run.new.thread c.run.new.globals.items) c.in-Blocks.is c.in_ok-coming.ensures.came in
    subst (λ (x : Kept). (given : Given) (state : State) (here : Segment) → MayRun given state here x.core c.args.under.now c.args.left.now →
    Advances given state here c.args.crowds c.args.left.now c.run.new.left (core_after k c.run.new.globals.items) (under_after c.args.under.now c.run.new.thread) c.match-trap_of.result) c.self.view_is
    (λ given state here may. elim c.match-trap_of.branch [
      | in-None w ↦ subst (λ (r : Result (Option Happening) Failure). Advances given state here c.args.crowds c.args.left.now c.run.new.left (core_after k c.run.new.globals.items) (under_after c.args.under.now c.run.new.thread) r) (sym w.result-is)
          (blocks_advances given state here c.args.crowds k c.args.under.now c.args.left.now c.run.new.left may c.run.new.globals.items c.run.new.thread c.in-Blocks.block came w.in-None.ensures)
      | in-Some w ↦ subst (λ (r : Result (Option Happening) Failure). Advances given state here c.args.crowds c.args.left.now c.run.new.left (core_after k c.run.new.globals.items) (under_after c.args.under.now c.run.new.thread) r) (sym w.result-is)
          (block_traps given state here c.args.crowds k c.args.under.now c.args.left.now c.run.new.left may c.run.new.globals.items c.run.new.thread c.in-Blocks.block came w.in-Some.kind w.in-Some.ensures)
    ])

pub returns-in-Ends-clause-advances : goal.returns-in-Ends-clause-advances
returns-in-Ends-clause-advances g c =
    let k : Core = record { policy = c.self.inside.policy; interpreter = c.self.inside.interpreter; words = c.self.inside.globals.items; threads = c.self.inside.threads; scheduler = c.self.inside.scheduler; graph = c.self.inside.graph; monitor = c.self.inside.monitor; free = c.self.inside.free; cost = c.self.inside.cost; left = c.self.inside.left } in
    let came : HasCome (tree_of k.interpreter) c.args.under.now.thread k.words c.args.left.now c.run.new.left c.run.new.thread c.run.new.globals.items coming.Ends =
    subst (HasCome (tree_of k.interpreter) c.args.under.now.thread k.words c.args.left.now c.run.new.left c.run.new.thread c.run.new.globals.items) c.in-Ends.is c.in_ok-coming.ensures.came in
    subst (λ (x : Kept). (given : Given) (state : State) (here : Segment) → MayRun given state here x.core c.args.under.now c.args.left.now →
    Advances given state here c.args.crowds c.args.left.now c.run.new.left (core_after k c.run.new.globals.items) (under_after c.args.under.now c.run.new.thread) (Ok (Some happening.Ends))) c.self.view_is
    (λ given state here may. ends_advances given state here c.args.crowds k c.args.under.now c.args.left.now c.run.new.left may c.run.new.globals.items c.run.new.thread came)

pub returns-in-Traps-clause-advances : goal.returns-in-Traps-clause-advances
returns-in-Traps-clause-advances g c =
    let k : Core = record { policy = c.self.inside.policy; interpreter = c.self.inside.interpreter; words = c.self.inside.globals.items; threads = c.self.inside.threads; scheduler = c.self.inside.scheduler; graph = c.self.inside.graph; monitor = c.self.inside.monitor; free = c.self.inside.free; cost = c.self.inside.cost; left = c.self.inside.left } in
    let came : HasCome (tree_of k.interpreter) c.args.under.now.thread k.words c.args.left.now c.run.new.left c.run.new.thread c.run.new.globals.items (coming.Traps c.in-Traps.kind) =
    subst (HasCome (tree_of k.interpreter) c.args.under.now.thread k.words c.args.left.now c.run.new.left c.run.new.thread c.run.new.globals.items) c.in-Traps.is c.in_ok-coming.ensures.came in
    subst (λ (x : Kept). (given : Given) (state : State) (here : Segment) → MayRun given state here x.core c.args.under.now c.args.left.now →
    Advances given state here c.args.crowds c.args.left.now c.run.new.left (core_after k c.run.new.globals.items) (under_after c.args.under.now c.run.new.thread) (Ok (Some (happening.Traps c.in-Traps.kind)))) c.self.view_is
    (λ given state here may. traps_advances given state here c.args.crowds k c.args.under.now c.args.left.now c.run.new.left may c.run.new.globals.items c.run.new.thread c.in-Traps.kind came)

pub returns-in-OutOfSteps-clause-advances : goal.returns-in-OutOfSteps-clause-advances
returns-in-OutOfSteps-clause-advances g c =
    let k : Core = record { policy = c.self.inside.policy; interpreter = c.self.inside.interpreter; words = c.self.inside.globals.items; threads = c.self.inside.threads; scheduler = c.self.inside.scheduler; graph = c.self.inside.graph; monitor = c.self.inside.monitor; free = c.self.inside.free; cost = c.self.inside.cost; left = c.self.inside.left } in
    let came : HasCome (tree_of k.interpreter) c.args.under.now.thread k.words c.args.left.now c.run.new.left c.run.new.thread c.run.new.globals.items coming.OutOfSteps =
    subst (HasCome (tree_of k.interpreter) c.args.under.now.thread k.words c.args.left.now c.run.new.left c.run.new.thread c.run.new.globals.items) c.in-OutOfSteps.is c.in_ok-coming.ensures.came in
    subst (λ (x : Kept). (given : Given) (state : State) (here : Segment) → MayRun given state here x.core c.args.under.now c.args.left.now →
    Advances given state here c.args.crowds c.args.left.now c.run.new.left (core_after k c.run.new.globals.items) (under_after c.args.under.now c.run.new.thread) (Ok (Some happening.OutOfSteps))) c.self.view_is
    (λ given state here may. late_advances given state here c.args.crowds k c.args.under.now c.args.left.now c.run.new.left may c.run.new.globals.items c.run.new.thread came)
