-- The needs of a world's threads.
use Rattle.std.specs.Prelude.{◌≡◌, Bool, true, false, not, Option, Some, None, if◌then◌else◌}
use Rattle.cap_word.specs.declared.threads.ThreadId.{ThreadId}
use Rattle.machine_world.specs.Threads.{Blocked, Thread, World}
use Rattle.ready_tree.specs.declared.needs.Need.{Need}
use Rattle.ready_tree.specs.Needs.{is_same_need}
use Rattle.thread_core.specs.Ready.{is_same_number, passes_at}
use Rattle.thread_core.specs.Worlds.{Held}
use Rattle.thread_waits.specs.Needs.{need_of_block}

-- the need of a thread; one that hasn't run yet needs nothing
abbrev pub need_of_blocked : Option Blocked → Need
need_of_blocked None = Need.Nothing
need_of_blocked (Some blocked) = need_of_block blocked.since blocked.block

-- the thread waits to be chosen
abbrev pub waits_to_go : World → Thread → Bool
waits_to_go w thread = not (is_same_number w.running thread.number)

-- it waits, and this is its need
abbrev pub waits_for_need : World → Need → Thread → Bool
waits_for_need w need thread = if is_same_number w.running thread.number then false else is_same_need (need_of_blocked thread.blocked) need

abbrev pub IsWaitingIn : Held → ThreadId → Type 0
IsWaitingIn held thread = passes_at (waits_to_go held.machine) held thread ≡ true

-- the thread with that id lives and waits, and this is its need
abbrev pub Vouches : Held → ThreadId → Need → Type 0
Vouches held thread need = passes_at (waits_for_need held.machine need) held thread ≡ true
