-- The waiting threads, compared with the queues of a scheduler.
use Rattle.std.specs.Prelude.{◌≡◌, ◌≢◌, ℕ, Bool, List, [], ◌∷◌, Option, Some, None, filter, nat_eq, slice_index_or}
use Rattle.std.specs.List.{AllByRecursion, list_any}
use Rattle.cap_word.specs.declared.threads.ThreadId.{ThreadId}
use Rattle.choice_rules.specs.Seen.{Waiter}
use Rattle.scheduler.specs.State.{SchedulerState, queue_of}

-- no thread waits twice
abbrev pub IsOnce : List Waiter → Type 0
IsOnce [] = Unit {0}
IsOnce (waiter ∷ waiting) = AllByRecursion (λ other. other.thread ≢ waiter.thread) waiting × IsOnce waiting

-- a thread of that number waits
abbrev pub waits : List Waiter → ℕ → Bool
waits waiting number = list_any (λ w. nat_eq w.thread number) waiting

-- the waiting threads of a node
abbrev pub at_node : List Waiter → ℕ → List Waiter
at_node waiting node = filter (λ w. nat_eq w.node node) waiting

-- the thread is at its place, given the number of the thread at each place
abbrev pub IsPlaced : List (Option ℕ) → ThreadId → Type 0
IsPlaced places thread = slice_index_or places thread.slot None ≡ Some thread.number

-- the queue consists of these waiting threads
abbrev pub IsQueue : List (Option ℕ) → List ThreadId → List Waiter → Type 0
IsQueue places [] [] = Unit {0}
IsQueue places (thread ∷ threads) (waiter ∷ waiting) = (thread.number ≡ waiter.thread) × (IsPlaced places thread × IsQueue places threads waiting)
IsQueue places _ _ = ⊥

pub record AreQueued (places : List (Option ℕ)) (scheduler : SchedulerState) (waiting : List Waiter) : Type 0 where
  pub queue : (node : ℕ) → IsQueue places (queue_of scheduler node) (at_node waiting node)
