use Rattle.source_runs.proofs.Common.{◌≡◌, ◌-◌, ◌++◌, [], ℕ, List, ap, sym, ◌∙◌, take, map, reverse, Goes, Running, returned, tree_of, running_of, waiting_frame_of, WaitingFrame}
use Rattle.c_mean.specs.Frames as source
use Rattle.source_runs.proofs.Moved.{all-pop, below-pop}
use Rattle.source_runs.proofs.interpreter.Interpreter.give_back.Goals as goal

pub deliver-requires-clause-thread : goal.deliver-requires-clause-thread
deliver-requires-clause-thread c =
    let both = all-pop (tree_of c.args.self.now) c.args.thread.now.below.items c.pop.new.self.items c.in-Some.waiting c.in-Some.ensures.items c.requires.below in
    record { front = both.1.frame; place = tt {0}; below = both.0; globals = c.requires.full }

pub deliver-requires-clause-place : goal.deliver-requires-clause-place
deliver-requires-clause-place c = (all-pop (tree_of c.args.self.now) c.args.thread.now.below.items c.pop.new.self.items c.in-Some.waiting c.in-Some.ensures.items c.requires.below).1.place

pub returns-in-None : goal.returns-in-None
returns-in-None c =
    let tree = tree_of c.args.self.now in
    let words = c.args.globals.now.items in
    let thread = c.args.thread.now in
    let running = running_of tree thread words in
    let cases = rw c.in-None.is at c.pop.ensures.cases in
    let new : c.pop.new.self.items ≡ [] = c.pop.ensures.rest ∙ ap (λ (n : ℕ). take (n - 1) thread.below.items) cases.0 in
    let old : thread.below.items ≡ [] = (rw c.in-None.is at c.pop.ensures.items) ∙ ap (λ (xs : List WaitingFrame). xs ++ []) new in
    (ap (λ (xs : List WaitingFrame). returned running (reverse (map (waiting_frame_of tree) xs)) c.args.word) old, c.requires.full)

pub returns-in-Some : goal.returns-in-Some
returns-in-Some c =
    let tree = tree_of c.args.self.now in
    let words = c.args.globals.now.items in
    let thread = c.args.thread.now in
    let running = running_of tree thread words in (
      ap (λ (below : List source.WaitingFrame). returned running below c.args.word) (below-pop tree thread.below.items c.pop.new.self.items c.in-Some.waiting c.in-Some.ensures.items)
          ∙ ap (λ (r : Running). Goes r) (sym c.deliver.ensures.came),
      c.deliver.ensures.thread,
    )
