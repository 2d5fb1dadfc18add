use Rattle.cycle_break.proofs.Common.{◌≡◌, ◌-◌, reverse, [], function_count, come, IsMarked, IsSeen, into_each, walk, whole_walk, numbers_from}
use Rattle.cycle_break.proofs.order.leaving_order.Given as goal

abbrev pub invariant-loop-function : goal.invariant-loop-function
invariant-loop-function l = record {
  marked : IsMarked (function_count l.graph) l.visited (reverse l.left.items);
  goes : (into_each (walk l.graph.tables l.graph.sites l.without (function_count l.graph)) [] (numbers_from l.function (function_count l.graph - l.function)) (come (reverse l.left.items))).left
      ≡ (whole_walk l.graph l.without).left;
  seen : IsSeen l.graph.tables l.visited l.seen;
}
