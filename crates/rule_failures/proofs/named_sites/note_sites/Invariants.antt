use Rattle.rule_failures.proofs.Common.{◌≡◌, ℕ, ◌<◌, length, take, Some, ◌||◌, slice_get, slice_index, list_any, Op, certified_site, fact_numbers, is_site, IsNamedRight, is_marked}
use Rattle.rule_failures.proofs.named_sites.note_sites.Given as goal

abbrev pub invariant-loop-op : goal.invariant-loop-op
invariant-loop-op l = record {
  named : (j : ℕ) (op : Op) → j < l.op-index → slice_get l.ops j ≡ Some op → IsNamedRight l.facts op;
  noted : (k : ℕ) → k < length l.facts →
      is_marked l.seen k ≡ (is_marked l.initial.seen k || list_any (λ op. is_site (slice_index (fact_numbers l.facts) k) (certified_site op)) (take l.op-index l.ops));
}
