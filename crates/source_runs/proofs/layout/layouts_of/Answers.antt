use Rattle.source_runs.proofs.Common.{◌<◌, ◌^◌, ℕ, List, subst, sym, sum, IsLayout}
use Rattle.source_runs.proofs.Functions.{layouts-more, small-at}
use Rattle.source_runs.proofs.layout.layouts_of.Goals as goal

pub layout_of-requires : goal.layout_of-requires
layout_of-requires c =
    subst (λ (ns : List ℕ). sum ns < 2 ^ 32) (sym c.as_slice.ensures.value) (small-at c.args.functions.now c.loop-function.function-index c.function-item.result c.requires c.loop-function-test.true c.function-item.is)

pub loop-function-preserved : goal.loop-function-preserved
loop-function-preserved c =
    layouts-more c.args.functions.now c.loop-function.function-index c.function-item.result c.loop-function.layouts.items c.push.new.list.items c.in_ok-layout.layout c.loop-function-test.true c.function-item.is c.loop-function.invariant
    (subst (λ (ns : List ℕ). IsLayout ns c.in_ok-layout.layout) c.as_slice.ensures.value c.in_ok-layout.ensures) c.in_ok-push.ensures
