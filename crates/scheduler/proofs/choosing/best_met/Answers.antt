use Rattle.scheduler.proofs.Common.{ℕ, ◌+◌, ◌<◌, Bool, ThreadId, slice_index, sym, ◌∙◌, AreExact, entries_in, score}
use Rattle.scheduler.proofs.ChoiceLemmas.{IsNext, IsBestOf-taken, IsBestOf-passed, IsBestOf-ineligible, IsLawfulChoice-best, ranked}
use Rattle.scheduler.proofs.CoverLemmas.{all_seen, seen_before}
use Rattle.scheduler.proofs.choosing.best_met.Given.{Over}
use Rattle.scheduler.proofs.choosing.best_met.Goals.{In-Some}
use Rattle.scheduler.proofs.choosing.best_met.Goals as goal

-- the node is the next one
at_node : (g : Over) (c : In-Some g) (test : ThreadId → Bool) → ((node : ℕ) → AreExact c.args.bounds.now test (entries_in c.args.queues.now.queues node)) →
    IsNext test (score c.args.monitor.now c.args.graph.now.edges) (slice_index c.args.lasts.now) c.args.queues.now.queues c.in-Some.node
    (λ (n : ℕ). n < c.loop-node.from) (λ (n : ℕ). n < c.in-Some.node + 1) c.loop-node.best
at_node g c test exact = record {
  at = c.loop-node.invariant test exact;
  before = seen_before c.args.bounds.now test c.args.queues.now.queues c.loop-node.from c.in-Some.node exact (rw c.in-Some.is at c.next.ensures);
}

pub loop-node-preserved-then-is_below_best : goal.loop-node-preserved-then-is_below_best
loop-node-preserved-then-is_below_best g c = λ test exact.
    IsBestOf-taken (at_node g (goal.at.loop-node-preserved-then-is_below_best g c).In-Some test exact) c.in-Some-first_at.found
    (ranked c.args.monitor.now c.args.graph.now.edges c.pressures_of-pressures.result (c.pressures_of-pressures.ensures.scores _) c.rank_of-rank.ensures.rank)
    c.rank_of-rank.ensures.node (sym c.is_below_best.ensures ∙ c.if-is_below_best.true)
    (rw c.in-Some-first_at.is at (c.first_at.ensures.found test (exact c.in-Some.node)))

pub loop-node-preserved-else-is_below_best : goal.loop-node-preserved-else-is_below_best
loop-node-preserved-else-is_below_best g c = λ test exact.
    IsBestOf-passed (at_node g (goal.at.loop-node-preserved-else-is_below_best g c).In-Some test exact)
    (ranked c.args.monitor.now c.args.graph.now.edges c.pressures_of-pressures.result (c.pressures_of-pressures.ensures.scores _) c.rank_of-rank.ensures.rank)
    c.rank_of-rank.ensures.node (sym c.is_below_best.ensures ∙ c.if-is_below_best.false)

pub loop-node-preserved : goal.loop-node-preserved
loop-node-preserved g c = λ test exact.
    IsBestOf-ineligible (at_node g (goal.at.loop-node-preserved g c).In-Some test exact)
    (rw c.in_default-first_at.is at (c.first_at.ensures.found test (exact c.in-Some.node)))

pub returns-clause-lawful : goal.returns-clause-lawful
returns-clause-lawful g c = λ test exact.
    IsLawfulChoice-best {seen = λ (n : ℕ). n < c.loop-node.from} c.loop-node.best
    (all_seen c.args.bounds.now test c.args.queues.now.queues c.loop-node.from exact (rw c.in_default.is at c.next.ensures)) (c.loop-node.invariant test exact)

pub returns-clause-place : goal.returns-clause-place
returns-clause-place g c = λ test exact. (c.loop-node.invariant test exact).place
