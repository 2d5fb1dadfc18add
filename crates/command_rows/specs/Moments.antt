-- The state of a run, and a world in that state.
use Rattle.std.specs.Prelude.{◌≡◌, None, IsSome}
use Rattle.thread_core.specs.Worlds.{Held}
use Rattle.thread_core.specs.declared.turns.Turn.{Turn}
use Rattle.command_rows.specs.declared.moments.Moment.{Moment}

abbrev pub IsAt : Moment → Held → Type 0
IsAt Moment.Between held = (held.stopped ≡ None) × (held.machine.running ≡ None)
IsAt Moment.Within held = (held.stopped ≡ None) × IsSome held.machine.running
IsAt Moment.Over held = IsSome held.stopped

-- the state after a turn of a run that hadn't stopped
abbrev pub after_turn : Turn → Moment
after_turn (Turn.Out value) = Moment.Within
after_turn (Turn.Spawned thread) = Moment.Within
after_turn (Turn.Blocked key cost) = Moment.Between
after_turn (Turn.Ended cost) = Moment.Between
after_turn (Turn.Cut stop cost) = Moment.Over
after_turn Turn.Memory = Moment.Over

-- and after a turn of any run: one that has stopped stays stopped
abbrev pub then_at : Moment → Turn → Moment
then_at Moment.Between turn = after_turn turn
then_at Moment.Within turn = after_turn turn
then_at Moment.Over turn = Moment.Over
