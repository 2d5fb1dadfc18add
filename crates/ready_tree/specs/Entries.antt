-- The threads of a queue.
use Rattle.std.specs.Prelude.{ℕ, Bool, true, false, Option, Some, None, List, [], ◌∷◌, ◌==◌, ◌&&◌, slice_index_or}
use Rattle.cap_word.specs.declared.threads.ThreadId.{ThreadId}
use Rattle.ready_tree.specs.declared.bounds.Bounds.{Bounds}
use Rattle.ready_tree.specs.declared.entries.Entry.{Entry}
use Rattle.ready_tree.specs.Needs.{is_met}

-- the threads at the places, in order; the place of a thread that has left is empty
abbrev pub entries_of : List (Option Entry) → List Entry
entries_of [] = []
entries_of (None ∷ places) = entries_of places
entries_of (Some entry ∷ places) = entry ∷ entries_of places

-- whether there is a thread at a place
abbrev pub is_taken : Option Entry → Bool
is_taken None = false
is_taken (Some entry) = true

abbrev pub place_at : List (Option Entry) → ℕ → Option Entry
place_at places place = slice_index_or places place None

-- whether the need of the thread at a place is met
abbrev pub may_go : Bounds → Option Entry → Bool
may_go bounds None = false
may_go bounds (Some entry) = is_met bounds entry.need

-- whether it is the place of that thread
abbrev pub is_of : ThreadId → Option Entry → Bool
is_of thread None = false
is_of thread (Some entry) = entry.thread.slot == thread.slot && entry.thread.number == thread.number
