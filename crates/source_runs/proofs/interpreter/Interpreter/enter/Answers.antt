use Rattle.source_runs.proofs.Common.{◌≡◌, ◌∷◌, ◌++◌, [], List, map, ap, sym, ◌∙◌, subst, AllByRecursion, reverse, Running, pushed, tree_of, IsFrame, IsPlace, IsWaitingFrame, below_of, frame_of, globals_of, waiting_frame_of, WaitingFrame, on_ok_weaker}
use Rattle.c_mean.specs.Frames as source
use Rattle.source_runs.specs.declared.frames.Frame.{Frame}
use Rattle.source_runs.proofs.Moved.{all-push, below-pop}
use Rattle.source_runs.proofs.interpreter.Interpreter.enter.Goals as goal

pub returns-clause-entered : goal.returns-clause-entered
returns-clause-entered c = λ globals.
    let tree = tree_of c.args.self.now in
    let thread = c.args.thread.now in
    let waits : Frame → WaitingFrame = λ f. record { frame = f; site = c.args.site; place = c.args.place } in
    let with : source.Frame → List source.WaitingFrame → Running = λ f b. record { frame = f; below = b; globals = globals_of tree globals } in
    on_ok_weaker c.push.result (λ (items : c.push.new.list.items ≡ thread.below.items ++ waits c.replace-frame.result ∷ []).
    ap (λ (f : Frame). with (frame_of tree f) (reverse (map (waiting_frame_of tree) c.push.new.list.items))) c.replace-frame.ensures.after
    ∙ (ap (λ (f : source.Frame). with f (reverse (map (waiting_frame_of tree) c.push.new.list.items))) c.in_ok-pushed.ensures.pushed
    ∙ (ap (with (pushed tree c.args.function c.args.words.items)) (below-pop tree c.push.new.list.items thread.below.items (waits c.replace-frame.result) items)
    ∙ ap (λ (f : Frame). with (pushed tree c.args.function c.args.words.items) (waiting_frame_of tree (waits f) ∷ below_of tree thread)) c.replace-frame.ensures.value)))
    c.push.ensures

pub returns-clause-thread : goal.returns-clause-thread
returns-clause-thread c = λ globals h.
    let tree = tree_of c.args.self.now in
    let thread = c.args.thread.now in
    let w : WaitingFrame = record { frame = c.replace-frame.result; site = c.args.site; place = c.args.place } in
    let waits : IsWaitingFrame tree w = record {
      frame = subst (IsFrame tree) (sym c.replace-frame.ensures.value) c.requires.frame;
      place = subst (λ (f : Frame). IsPlace tree f.function c.args.place) (sym c.replace-frame.ensures.value) c.requires.place;
    } in
    on_ok_weaker c.push.result (λ (items : c.push.new.list.items ≡ thread.below.items ++ w ∷ []). record {
      front = subst (IsFrame tree) (sym c.replace-frame.ensures.after) c.in_ok-pushed.ensures.frame;
      place = tt {0};
      below = subst (AllByRecursion (IsWaitingFrame tree)) (sym items) (all-push tree thread.below.items w h.below waits);
      globals = h.globals;
    }) c.push.ensures
