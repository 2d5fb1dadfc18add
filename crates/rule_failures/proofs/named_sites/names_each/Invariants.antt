use Rattle.rule_failures.proofs.Common.{◌≡◌, ℕ, ◌<◌, length, take, Some, slice_index, list_any, Op, operation_at, program_code, certified_site, fact_numbers, is_site, IsNamedRight, is_marked}
use Rattle.rule_failures.proofs.named_sites.names_each.Given as goal

abbrev pub invariant-loop-function : goal.invariant-loop-function
invariant-loop-function l = record {
  items : l.function-items ≡ l.flat.functions.items;
  count : length l.seen ≡ length l.facts;
  named : (g j : ℕ) (op : Op) → g < l.function-index → operation_at (program_code l.flat) g j ≡ Some op → IsNamedRight l.facts op;
  noted : (k : ℕ) → k < length l.facts →
      is_marked l.seen k ≡ list_any (λ f. list_any (λ op. is_site (slice_index (fact_numbers l.facts) k) (certified_site op)) f.ops) (take l.function-index l.flat.functions.items);
}
