-- Summaries of places: the needs of the threads there, and a lower bound of their passes and numbers.
use Rattle.std.specs.Prelude.{ℕ, ◌≡◌, ◌^◌, ◌-◌, ⊤, ◌&&◌, Bool, true, false, Option, Some, None, List, slice_index_or}
use Rattle.ready_tree.specs.declared.bounds.Bounds.{Bounds}
use Rattle.ready_tree.specs.Needs.{is_met, is_some_met}
use Rattle.ready_tree.specs.Nodes.{no_needs}
use Rattle.stride_rule.specs.declared.clients.Client.{Client}
use Rattle.stride_rule.specs.declared.rows.Row.{Row}
use Rattle.stride_rule.specs.declared.summaries.Summary.{Summary}
use Rattle.stride_rule.specs.Clients.{goes_before}

-- if the thread's need is met, the joined needs may be met; and the thread doesn't come before the lower
-- bound
pub record CoversRow (summary : Summary) (row : Row) : Type 0 where
  pub met : (bounds : Bounds) → is_met bounds row.need ≡ true → is_some_met bounds summary.needs ≡ true
  pub least : goes_before row.client.pass row.client.thread.number summary.pass summary.number ≡ false

abbrev pub Covers : Summary → Option Row → Type 0
Covers summary None = ⊤
Covers summary (Some row) = CoversRow summary row

-- the first summary covers every place that the other covers
pub record Includes (summary other : Summary) : Type 0 where
  pub met : (bounds : Bounds) → is_some_met bounds other.needs ≡ true → is_some_met bounds summary.needs ≡ true
  pub least : goes_before other.pass other.number summary.pass summary.number ≡ false

abbrev pub summary_at : List Summary → ℕ → Summary
summary_at level index = slice_index_or level index (record { needs = no_needs; pass = 2 ^ 64 - 1; number = 2 ^ 32 - 1 })

-- whether a thread there may be the first whose need is met, given the best so far
abbrev pub may_help : Bounds → Option Client → Summary → Bool
may_help bounds None summary = is_some_met bounds summary.needs
may_help bounds (Some best) summary = goes_before summary.pass summary.number best.pass best.thread.number && is_some_met bounds summary.needs
