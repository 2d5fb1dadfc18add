use Rattle.source_runs.proofs.Common.{◌≡◌, ◌-◌, ap, ◌∙◌, arith, moves, LeadsTo, SourceMove, source_machine, source_step, tree_of, running_of}
use Rattle.source_runs.proofs.Moved.{leads, step-after}
use Rattle.source_runs.proofs.interpreter.Interpreter.run.Goals as goal
use Rattle.source_runs.proofs.interpreter.Interpreter.run.Goals.{After-step}

-- a step that isn't silent, after those of the loop
led : (c : After-step) (made : SourceMove) →
    source_step (tree_of c.args.self.now) (running_of (tree_of c.args.self.now) c.loop-left.thread c.loop-left.globals.items) ≡ made →
    LeadsTo (tree_of c.args.self.now) (running_of (tree_of c.args.self.now) c.args.thread.now c.args.globals.now.items)
    (c.args.left.now - (c.loop-left.left - 1)) made
led c made e =
    leads (tree_of c.args.self.now) c.args.left.now c.loop-left.left _ _ made c.loop-left-test.true c.loop-left.invariant.within c.loop-left.invariant.silent e

pub returns-in-Ok-Asks-clause-came : goal.returns-in-Ok-Asks-clause-came
returns-in-Ok-Asks-clause-came c =
    let stepped = rw c.in-Ok-Asks.field-0-is at c.in-Ok-Asks.ensures in
    (led (goal.at.returns-in-Ok-Asks-clause-came c).After-step _ stepped.0, stepped.1, stepped.2)

pub returns-in-Ok-Blocks-clause-came : goal.returns-in-Ok-Blocks-clause-came
returns-in-Ok-Blocks-clause-came c =
    let stepped = rw c.in-Ok-Blocks.field-0-is at c.in-Ok-Blocks.ensures in
    (led (goal.at.returns-in-Ok-Blocks-clause-came c).After-step _ stepped.0, stepped.1)

pub returns-in-Ok-Ends-clause-came : goal.returns-in-Ok-Ends-clause-came
returns-in-Ok-Ends-clause-came c =
    let stepped = rw c.in-Ok-Ends.field-0-is at c.in-Ok-Ends.ensures in
    (led (goal.at.returns-in-Ok-Ends-clause-came c).After-step _ stepped.0, stepped.1)

pub returns-in-Err-Trap-clause-came : goal.returns-in-Err-Trap-clause-came
returns-in-Err-Trap-clause-came c =
    led (goal.at.returns-in-Err-Trap-clause-came c).After-step _ (rw c.in-Err-Trap.field-0-is at c.in-Err-Trap.ensures)

pub loop-left-preserved : goal.loop-left-preserved
loop-left-preserved c =
    let tree = tree_of c.args.self.now in
    let l = c.loop-left in
    let start = running_of tree c.args.thread.now c.args.globals.now.items in
    let now = running_of tree l.thread l.globals.items in
    let stepped = rw c.in-Ok-Goes.field-0-is at c.in-Ok-Goes.ensures in
    record {
      within = omega (arith, l.invariant.within);
      silent = step-after tree (c.args.left.now - l.left) (c.args.left.now - (l.left - 1)) start now (omega (arith, l.invariant.within, c.loop-left-test.true)) l.invariant.silent ∙ stepped.0;
      fits = stepped.1;
    }

pub returns-clause-came : goal.returns-clause-came
returns-clause-came c =
    let tree = tree_of c.args.self.now in
    let l = c.loop-left in
    let start = running_of tree c.args.thread.now c.args.globals.now.items in
    (omega arith, ap (λ n. moves (source_machine tree) n start) (omega arith) ∙ l.invariant.silent, l.invariant.fits)
