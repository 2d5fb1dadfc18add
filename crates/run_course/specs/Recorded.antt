-- The record of a segment.
use Rattle.std.specs.Prelude.{◌≡◌, ℕ, ◌+◌, ◌<◌, ◌≤◌}
use Rattle.blocking_graph.specs.Edges.{edges_with, count_of}
use Rattle.choice_rules.specs.Seen.{changes, uses_in}
use Rattle.lawful_log.specs.State.{held_chunks}
use Rattle.run_course.specs.Kept.{Kept}
use Rattle.run_course.specs.declared.course.Under.{Under}
use Rattle.thread_core.specs.Worlds.{Held, cap_in}

-- the caps of a world are at most 1,000,000
abbrev pub HasSmallCaps : Held → Type 0
HasSmallCaps held = (r : ℕ) → r < 8 → cap_in held r ≤ 1000000

-- the graph has one more record: from the node of the choice to this one, at that cost, with the changes of the uses
-- since the choice
pub record IsRecorded (old new : Kept) (held : Held) (under : Under) (node cost : ℕ) : Type 0 where
  pub edges : new.graph.edges ≡ edges_with old.graph.edges (record { from = under.choice.node; to = node; cost = cost; change = changes under.before (uses_in (held_chunks held.machine) held.machine.exchange) })
  pub counted : count_of new.graph.edges ≡ count_of old.graph.edges + 1
  pub rest : new ≡ record old { graph = record old.graph { edges = new.graph.edges } }
