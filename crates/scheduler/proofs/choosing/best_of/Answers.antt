use Rattle.scheduler.proofs.Common.{◌≡◌, Some, IsSome, [], slice_index, refl, sym, ◌∙◌, subst, rules, get, nat_cmp, is_eligible, score, IsPassed}
use Rattle.std.specs.Cmp.{nat_cmp_total}
use Rattle.std.specs.Map.Iter.{deref_pair}
use Rattle.std.proofs.lemmas.Map.Iter.{btree_map_turn, rest_all, rest_more}
use Rattle.scheduler.proofs.ChoiceLemmas.{IsNext, IsBestOf-taken, IsBestOf-passed, IsBestOf-ineligible, IsLawfulChoice-best, passed_before, ranked}
use Rattle.scheduler.proofs.choosing.best_of.Given.{Over}
use Rattle.scheduler.proofs.choosing.best_of.Goals.{In-Some}
use Rattle.scheduler.proofs.choosing.best_of.Goals as goal

-- the queue is the node's
turned : (g : Over) (c : In-Some g) → get nat_cmp c.args.queues.now c.in-Some.node.now ≡ Some c.in-Some.queue.now
turned g c =
    let gives = c.into_iter-node-iterator.ensures.into_iter_gives in
    (btree_map_turn deref_pair c.loop-node.yielded c.into_iter-node-iterator.result c.loop-node.node-iterator c.next.new.self c.next.result
    (c.in-Some.node, c.in-Some.queue) c.loop-node.yielded_by c.in-Some.is c.next.ensures.steps nat_cmp_total c.args.queues.now gives.0 gives.5).1

-- the node is the next one
at_node : (g : Over) (c : In-Some g) → (let r = c.args.ready.now in
    IsNext (is_eligible (g.R.Ready.is_ready r) (g.R.Ready.at_accept r) (g.R.Ready.any_elsewhere r) c.args.monitor.now.is_open)
    (score c.args.monitor.now c.args.graph.now.edges) (slice_index c.args.lasts.now) c.args.queues.now c.in-Some.node.now (IsPassed c.loop-node.node-iterator)
    (IsPassed c.next.new.self) c.loop-node.best)
at_node g c = record {
  at = c.loop-node.invariant;
  before = λ other some. passed_before c.in-Some.node.now c.in-Some.queue.now c.loop-node.node-iterator c.next.new.self
      (rest_more deref_pair c.loop-node.node-iterator c.next.new.self c.next.result (c.in-Some.node, c.in-Some.queue) c.in-Some.is c.next.ensures.steps) other;
}

pub rank_of-rank-requires-clause-there : goal.rank_of-rank-requires-clause-there
rank_of-rank-requires-clause-there g c =
    c.requires c.in-Some.node.now (subst (λ o. IsSome o) (sym (turned g (goal.at.rank_of-rank-requires-clause-there g c).In-Some)) (search rules))

pub loop-node-preserved-in-Some-first_of : goal.loop-node-preserved-in-Some-first_of
loop-node-preserved-in-Some-first_of g c =
    let at = (goal.at.loop-node-preserved-in-Some-first_of g c).In-Some in
    let first = rw (c.gate.ensures, c.in-Some-first_of.is) at c.first_of.ensures in
    IsBestOf-taken (at_node g at) c.in-Some-first_of.found
    (ranked c.args.monitor.now c.args.graph.now.edges c.pressures_of-pressures.result (c.pressures_of-pressures.ensures.scores _) c.rank_of-rank.ensures.rank)
    c.rank_of-rank.ensures.node (sym c.is_below_best.ensures ∙ c.if-is_below_best.true) (rw (turned g at) first)

pub loop-node-preserved-in_default : goal.loop-node-preserved-in_default
loop-node-preserved-in_default g c =
    let at = (goal.at.loop-node-preserved-in_default g c).In-Some in
    let nobody = rw (c.gate.ensures, c.in_default.is) at c.first_of.ensures in
    IsBestOf-ineligible (at_node g at) (rw (turned g at) nobody)

pub loop-node-preserved : goal.loop-node-preserved
loop-node-preserved g c =
    IsBestOf-passed (at_node g (goal.at.loop-node-preserved g c).In-Some)
    (ranked c.args.monitor.now c.args.graph.now.edges c.pressures_of-pressures.result (c.pressures_of-pressures.ensures.scores _) c.rank_of-rank.ensures.rank)
    c.rank_of-rank.ensures.node (sym c.is_below_best.ensures ∙ c.if-is_below_best.false)

pub returns : goal.returns
returns g c =
    let ended = rest_all deref_pair c.loop-node.node-iterator c.next.new.self c.next.result c.in-None.is c.next.ensures.steps in
    IsLawfulChoice-best {seen = IsPassed []} c.loop-node.best (λ node some. refl) (rw ended at c.loop-node.invariant)
