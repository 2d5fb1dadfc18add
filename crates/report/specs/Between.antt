-- A repeated run between two segments.
use Rattle.std.specs.Prelude.{◌≡◌, None, Bool, true}
use Rattle.thread_core.specs.Worlds.{Held}

-- the run hasn't stopped, and no segment is in progress
abbrev pub IsBetween : Held → Type 0
IsBetween held = (held.stopped ≡ None) × (held.machine.running ≡ None)

-- the same if the run continues
abbrev pub GoesOn : Bool → Held → Type 0
GoesOn goes held = goes ≡ true → IsBetween held
