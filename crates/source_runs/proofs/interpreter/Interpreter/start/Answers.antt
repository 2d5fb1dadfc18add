use Rattle.source_runs.proofs.Common.{List, length, map, ap, sym, ◌∙◌, subst, AllByRecursion, option_to_list, reverse, Running, pushed, tree_of, IsWaitingFrame, globals_of, waiting_frame_of, WaitingFrame}
use Rattle.c_mean.specs.Frames as source
use Rattle.source_runs.proofs.interpreter.Interpreter.start.Goals as goal

pub frame-requires-clause-fits : goal.frame-requires-clause-fits
frame-requires-clause-fits c = c.requires.fits ∙ ap length (sym c.in_ok-names.ensures)

pub returns-clause-started : goal.returns-clause-started
returns-clause-started c = λ words.
    let tree = tree_of c.args.self.now in
    let with : source.Frame → List source.WaitingFrame → Running = λ f b. record { frame = f; below = b; globals = globals_of tree words } in
    ap (λ (f : source.Frame). with f (reverse (map (waiting_frame_of tree) c.new.result.items))) (c.in_ok-front.ensures.pushed ∙ ap (pushed tree c.args.function) c.in_ok-names.ensures)
    ∙ ap (λ (ws : List WaitingFrame). with (pushed tree c.args.function (option_to_list c.args.argument)) (reverse (map (waiting_frame_of tree) ws))) c.new.ensures.items

pub returns-clause-thread : goal.returns-clause-thread
returns-clause-thread c = λ words full.
    record {
      front = c.in_ok-front.ensures.frame;
      place = tt {0};
      below = subst (AllByRecursion (IsWaitingFrame (tree_of c.args.self.now))) (sym c.new.ensures.items) (tt {0});
      globals = full;
    }
