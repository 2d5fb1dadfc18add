-- What a choice point sees: everything on which the rules of choice points depend, whatever has run the threads.
use Rattle.std.specs.Prelude.{ℕ, suc, ◌-◌, ℤ, pos, ◌-ℤ◌, Bool, not, List, [], ◌∷◌, ◌++◌, length, drop, map, filter, nat_eq, if◌then◌else◌}
use Rattle.std.specs.List.{range_with_len}
use Rattle.blocking_graph.specs.declared.segments.SegmentRecord.{SegmentRecord}
use Rattle.c_mean.specs.ModelledCalls.{Exchange}
use Rattle.c_mean.specs.World as source
use Rattle.choice_rules.specs.Trace.{Trace}

-- a thread that waits at a node, and the clock at which it blocked there; at node 0 it hasn't run yet, and that clock
-- is 0
pub record Waiter : Type 0 where
  pub thread : ℕ
  pub node : ℕ
  pub since : ℕ

-- a past choice: the thread, the node from which it was taken, and the number of threads started before it
pub record PastChoice : Type 0 where
  pub thread : ℕ
  pub node : ℕ
  pub started : ℕ

-- the past on which choices depend: the keys that have occurred, in order; the records of the segments so far, the
-- earliest first; the choices so far, the latest first; and the uses at the start and after each segment, the earliest
-- first
pub record Past : Type 0 where
  pub keys : List (List ℕ)
  pub records : List SegmentRecord
  pub taken : List PastChoice
  pub uses : List (List ℕ)

-- the clock, the numbers of live threads and of held chunks, the source world at the last moment without a segment in
-- progress, the rest of the trace, the waiting threads, in the order in which they joined their nodes, whether a
-- segment is in progress, and the past
pub record Seen : Type 0 where
  pub clock : ℕ
  pub live : ℕ
  pub held : ℕ
  pub source : source.World
  pub trace : Trace
  pub waiting : List Waiter
  pub under_way : Bool
  pub past : Past

-- ---- uses

-- the uses of the eight resources: that of resource 0 is the number of held chunks
abbrev pub uses_in : ℕ → Exchange → List ℕ
uses_in held exchange = held ∷ drop 1 exchange.uses

abbrev pub uses_of : Seen → List ℕ
uses_of seen = uses_in seen.held seen.source.exchange

-- the change of each use
abbrev pub changes : List ℕ → List ℕ → List ℤ
changes (old ∷ olds) (new ∷ news) = (pos new -ℤ pos old) ∷ changes olds news
changes _ _ = []

-- ---- the nodes at which threads begin and end

-- the new threads, which wait at node 0: their numbers are at least the number of threads of a source world, and below
-- another number
abbrev pub newcomers : source.World → ℕ → List Waiter
newcomers old next = map (λ thread. record { thread = thread; node = 0; since = 0 }) (range_with_len (length old.threads) (next - length old.threads))

-- the node at which threads end
abbrev pub end_node : ℕ
end_node = 1

-- ---- the past

-- the past at the start, with the uses at the start
abbrev pub no_past : List ℕ → Past
no_past uses = record { keys = []; records = []; taken = []; uses = uses ∷ [] }

-- the waiting threads after one was chosen
abbrev pub others_waiting : List Waiter → Waiter → List Waiter
others_waiting waiting chosen = filter (λ w. not (nat_eq w.thread chosen.thread)) waiting

-- a thread was chosen, when this number of threads had been started
abbrev pub with_choice : Past → Waiter → ℕ → Past
with_choice past chosen started = record past { taken = record { thread = chosen.thread; node = chosen.node; started = started } ∷ past.taken }

-- a segment has ended, with this record and these uses after it; and the keys that have occurred by then
abbrev pub with_segment : Past → List (List ℕ) → SegmentRecord → List ℕ → Past
with_segment past keys segment uses = record { keys = keys; records = past.records ++ segment ∷ []; taken = past.taken; uses = past.uses ++ uses ∷ [] }

-- the number, from 1, of the last choice of a node, or 0; the latest choice comes first
abbrev pub last_choice : List PastChoice → ℕ → ℕ
last_choice [] node = 0
last_choice (latest ∷ earlier) node = if nat_eq latest.node node then suc (length earlier) else last_choice earlier node
