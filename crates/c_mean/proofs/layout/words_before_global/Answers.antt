use Rattle.std.proofs.Common.{arith}
use Rattle.c_mean.proofs.LayoutLemmas.{global_next, global_next-le}
use Rattle.c_mean.proofs.layout.words_before_global.Goals as goal

pub overflow_add-start : goal.overflow_add-start
overflow_add-start c =
    omega (arith, c.loop-fact.invariant, global_next-le c.args.facts.now c.args.g c.loop-fact.fact-index (record { words = 0; start = 0 }) c.loop-fact-test.true)

pub loop-fact-preserved : goal.loop-fact-preserved
loop-fact-preserved c =
    omega (arith, c.loop-fact.invariant, global_next c.args.facts.now c.args.g c.loop-fact.fact-index (record { words = 0; start = 0 }) c.loop-fact-test.true)
