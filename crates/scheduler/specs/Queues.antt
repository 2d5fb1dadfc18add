-- Queues of threads.
use Rattle.std.specs.Prelude.{ℕ, ◌≡◌, ◌==◌, ◌&&◌, Bool, false, if◌then◌else◌, Option, Some, None, List, [], ◌∷◌, map}
use Rattle.std.specs.List.{AllByRecursion, range_with_len}
use Rattle.std.specs.BTreeMap.{BTreeMap, get}
use Rattle.std.specs.Ordering.{nat_cmp}
use Rattle.cap_word.specs.declared.threads.ThreadId.{ThreadId}
use Rattle.ready_tree.specs.declared.bounds.Bounds.{Bounds}
use Rattle.ready_tree.specs.declared.entries.Entry.{Entry}
use Rattle.ready_tree.specs.Needs.{is_met}
use Rattle.ready_tree.specs.Entries.{entries_of}

-- whether two identify the same thread
abbrev pub is_same : ThreadId → ThreadId → Bool
is_same thread other = thread.slot == other.slot && thread.number == other.number

-- a queue without a thread
abbrev pub without : ThreadId → List ThreadId → List ThreadId
without thread [] = []
without thread (first ∷ queue) = if is_same first thread then queue else first ∷ without thread queue

-- the same for entries
abbrev pub without_entry : ThreadId → List Entry → List Entry
without_entry thread [] = []
without_entry thread (first ∷ queue) = if is_same first.thread thread then queue else first ∷ without_entry thread queue

-- threads without their needs
abbrev pub threads_of : List Entry → List ThreadId
threads_of entries = map (λ entry. entry.thread) entries

-- the places of a queue, and none if there is no queue
abbrev pub places_of : Option (List (Option Entry)) → List (Option Entry)
places_of None = []
places_of (Some places) = places

abbrev pub places_in : BTreeMap ℕ (List (Option Entry)) → ℕ → List (Option Entry)
places_in queues node = places_of (get nat_cmp queues node)

-- the threads that wait at a node with their needs, in order of joining
abbrev pub entries_in : BTreeMap ℕ (List (Option Entry)) → ℕ → List Entry
entries_in queues node = entries_of (places_in queues node)

-- the threads alone
abbrev pub queue_in : BTreeMap ℕ (List (Option Entry)) → ℕ → List ThreadId
queue_in queues node = threads_of (entries_in queues node)

-- the queues of this number of nodes, by number
abbrev pub queues_of : BTreeMap ℕ (List (Option Entry)) → ℕ → List (List Entry)
queues_of queues count = map (entries_in queues) (range_with_len 0 count)

-- ---- which threads are eligible

-- whether the thread at a place passes a test
abbrev pub passes_at : (ThreadId → Bool) → Option Entry → Bool
passes_at test None = false
passes_at test (Some entry) = test entry.thread

-- the needs determine which threads pass the test
abbrev pub AreExact : Bounds → (ThreadId → Bool) → List Entry → Type 0
AreExact bounds test entries = AllByRecursion (λ entry. is_met bounds entry.need ≡ test entry.thread) entries
