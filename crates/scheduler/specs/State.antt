-- The state of a scheduler: the queue of each node, the last choice of each node, and the number of choices.
use Rattle.std.specs.Prelude.{ℕ, ◌≡◌, ◌≢◌, ◌+◌, ◌^◌, ◌<◌, ◌≤◌, IsSome, Option, List, [], ◌∷◌, ◌++◌, length, slice_index, slice_index_or}
use Rattle.std.specs.List.{AllByRecursion}
use Rattle.std.specs.BTreeMap.{BTreeMap, get}
use Rattle.std.specs.Ordering.{nat_cmp}
use Rattle.cap_word.specs.declared.threads.ThreadId.{ThreadId}
use Rattle.ready_tree.specs.declared.entries.Entry.{Entry}
use Rattle.ready_tree.specs.declared.needs.Need.{Need}
use Rattle.scheduler.specs.declared.choices.Choice.{Choice}
use Rattle.ready_tree.specs.declared.needs.Needs.{Needs}
use Rattle.scheduler.specs.NodeQueues.{AreCovered}
use Rattle.scheduler.specs.Queues.{without, without_entry, threads_of}

-- by the numbers of the nodes, their queues and the numbers of their last choices; and the number of choices so far
pub record SchedulerState : Type 0 where
  pub queues : List (List Entry)
  pub lasts : List ℕ
  pub noted : ℕ

-- the threads that wait at a node with their needs, in order of joining
abbrev pub entries_at : SchedulerState → ℕ → List Entry
entries_at scheduler node = slice_index_or scheduler.queues node []

-- the threads that wait at a node, in order of joining
abbrev pub queue_of : SchedulerState → ℕ → List ThreadId
queue_of scheduler node = threads_of (entries_at scheduler node)

-- the number, from 1, of the last choice of a node, or 0
abbrev pub last_of : SchedulerState → ℕ → ℕ
last_of scheduler node = slice_index scheduler.lasts node

-- no thread waits and no choice has been made
abbrev pub started : SchedulerState
started = record { queues = []; lasts = []; noted = 0 }

-- a thread joined the end of a node's queue, and nothing else changed
pub record IsJoined (old new : SchedulerState) (node : ℕ) (thread : ThreadId) : Type 0 where
  pub queue : queue_of new node ≡ queue_of old node ++ thread ∷ []
  pub others : (other : ℕ) → other ≢ node → queue_of new other ≡ queue_of old other
  pub lasts : (other : ℕ) → last_of new other ≡ last_of old other
  pub noted : new.noted ≡ old.noted

-- a choice was noted: its thread left its queue, it is the last choice of its node, and nothing else changed
pub record IsNoted (old new : SchedulerState) (choice : Choice) : Type 0 where
  pub queue : queue_of new choice.node ≡ without choice.thread (queue_of old choice.node)
  pub others : (other : ℕ) → other ≢ choice.node → queue_of new other ≡ queue_of old other
  pub last : last_of new choice.node ≡ old.noted + 1
  pub other_lasts : (other : ℕ) → other ≢ choice.node → last_of new other ≡ last_of old other
  pub noted : new.noted ≡ old.noted + 1

-- ---- needs

-- a thread joined with its need
pub record IsTold (old new : SchedulerState) (node : ℕ) (entry : Entry) : Type 0 where
  pub queue : entries_at new node ≡ entries_at old node ++ entry ∷ []
  pub others : (other : ℕ) → other ≢ node → entries_at new other ≡ entries_at old other

-- a choice's thread left with its need
pub record IsTaken (old new : SchedulerState) (choice : Choice) : Type 0 where
  pub queue : entries_at new choice.node ≡ without_entry choice.thread (entries_at old choice.node)
  pub others : (other : ℕ) → other ≢ choice.node → entries_at new other ≡ entries_at old other

-- a world guarantees the needs
abbrev pub AreKnown : (ThreadId → Need → Type 0) → SchedulerState → Type 0
AreKnown vouches scheduler = (node : ℕ) → AllByRecursion (λ entry. vouches entry.thread entry.need) (entries_at scheduler node)

-- the invariant of the queues: each of their nodes has a place for its last choice, and the tree covers them
pub record IsKept (queues : BTreeMap ℕ (List (Option Entry))) (above : List Needs) (lasts : List ℕ) (count : ℕ) : Type 0 where
  pub covered : AreCovered queues above
  pub placed : (node : ℕ) → IsSome (get nat_cmp queues node) → node < length lasts
  pub counted : count ≤ 2 ^ 40
