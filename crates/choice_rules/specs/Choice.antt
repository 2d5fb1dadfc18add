-- The lawful choice of a thread: among those that are eligible by the gate, as the rule of the policy says.
use Rattle.std.specs.Prelude.{◌≡◌, ◌≢◌, ℕ, Bool, false, not, ◌&&◌, ◌||◌, ℤ, IsTrue, IsSome, List, Option, Some, find, nat_eq}
use Rattle.blocking_graph.specs.Edges.{edges_of}
use Rattle.event_trace.specs.declared.events.Event.{Event}
use Rattle.resource_monitor.specs.Gate.{gate, gate_after}
use Rattle.resource_monitor.specs.Monitor.{MonitorState}
use Rattle.resource_monitor.specs.Pressure.{pressures}
use Rattle.scheduler.specs.Scores as scores
use Rattle.scheduler.specs.Scores.{comes_before}
use Rattle.choice_rules.specs.Policy.{Rule, by_graph, by_stride, Policy, all_caps}
use Rattle.choice_rules.specs.Seen.{Waiter, Past, Seen, uses_of, last_choice}
use Rattle.choice_rules.specs.Readiness.{is_ready, at_accept, any_elsewhere}
use Rattle.choice_rules.specs.Clock.{is_due, IsChoicePoint}
use Rattle.choice_rules.specs.Strides.{pass_of}
use Rattle.choice_rules.specs.Waiting.{at_node}
use Rattle.std.specs.List.{AllByRecursion}
use Rattle.stride_rule.specs.Clients.{goes_before}

-- ---- which threads are eligible

-- whether the gate is open, updated by the uses at the start and after each segment
abbrev pub is_open : Policy → Past → Bool
is_open policy past = gate policy.high policy.low policy.curves (all_caps policy) past.uses

-- a thread is eligible if it is ready and, if it is at `accept`, the gate is open or no thread that isn't at
-- `accept` is ready
abbrev pub is_eligible : Policy → Seen → ℕ → Waiter → Bool
is_eligible policy seen clock w =
    is_ready policy seen clock w && (not (at_accept seen w) || (is_open policy seen.past || not (any_elsewhere policy seen clock)))

-- ---- the choice by the graph: by the scores of the nodes, and the order of the queues

-- the monitor of the resources at a choice
abbrev pub monitor_of : Policy → Seen → MonitorState
monitor_of policy seen = record {
  curves = policy.curves;
  caps = all_caps policy;
  high = policy.high;
  low = policy.low;
  uses = uses_of seen;
  is_open = is_open policy seen.past;
}

-- a monitor after it has taken these uses
abbrev pub observed : MonitorState → List ℕ → MonitorState
observed m uses = record m { uses = uses; is_open = gate_after m.high m.low m.is_open (pressures m.curves uses m.caps) }

-- the score of a node, by the pressures now and the edges of all records
abbrev pub score_of : Policy → Seen → ℕ → ℤ
score_of policy seen node = scores.score (monitor_of policy seen) (edges_of seen.past.records) node

-- the threads at a node, in the order in which they joined it
abbrev pub queue_at : Seen → ℕ → List Waiter
queue_at seen node = at_node seen.waiting node

-- the first eligible thread of its node, which comes before every other node with an eligible thread
pub record IsGraphChoice (policy : Policy) (seen : Seen) (clock : ℕ) (chosen : Waiter) : Type 0 where
  pub first : find (is_eligible policy seen clock) (queue_at seen chosen.node) ≡ Some chosen
  pub least : (other : ℕ) → other ≢ chosen.node → IsSome (find (is_eligible policy seen clock) (queue_at seen other)) →
      IsTrue (comes_before (score_of policy seen) (last_choice seen.past.taken) chosen.node other)

-- ---- the choice by strides: by the passes, and the numbers of the threads

-- a thread comes before another: by pass, and by number if the passes are equal
abbrev pub goes_before_at : List (ℕ × ℕ) → Seen → ℕ → ℕ → Bool
goes_before_at tickets seen thread other =
    goes_before (pass_of tickets seen.past.taken thread) thread (pass_of tickets seen.past.taken other) other

-- the first eligible waiter of its thread, which comes before every other eligible thread
pub record IsStrideChoice (tickets : List (ℕ × ℕ)) (policy : Policy) (seen : Seen) (clock : ℕ) (chosen : Waiter) : Type 0 where
  pub first : find (λ w. is_eligible policy seen clock w && nat_eq w.thread chosen.thread) seen.waiting ≡ Some chosen
  pub least : AllByRecursion (λ other. IsTrue (is_eligible policy seen clock other) → other.thread ≢ chosen.thread →
      IsTrue (goes_before_at tickets seen chosen.thread other.thread)) seen.waiting

-- ---- the choice, by the rule

abbrev pub IsLawfulBy : Rule → Policy → Seen → ℕ → Waiter → Type 0
IsLawfulBy by_graph policy seen clock chosen = IsGraphChoice policy seen clock chosen
IsLawfulBy (by_stride tickets) policy seen clock chosen = IsStrideChoice tickets policy seen clock chosen

abbrev pub IsLawful : Policy → Seen → ℕ → Waiter → Type 0
IsLawful policy seen clock chosen = IsLawfulBy policy.rule policy seen clock chosen

-- no event is due, and the thread is the lawful choice
pub record IsChoice (policy : Policy) (seen : Seen) (clock : ℕ) (chosen : Waiter) : Type 0 where
  pub next : Option Event
  pub point : IsChoicePoint policy seen next clock
  pub not_due : is_due next clock ≡ false
  pub lawful : IsLawful policy seen clock chosen
