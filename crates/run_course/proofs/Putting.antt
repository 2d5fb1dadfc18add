-- What a run writes of a value that is put, and a thread that starts.
use Rattle.run_course.proofs.Common.{◌≡◌, ℕ, List, [], ◌∷◌, ◌++◌, Option, Some, None, Result, refl, subst, IsSome, signed, ThreadId, Setup, setting_of, State, World, HasStarted, MayStart, RuleState, Choice, Under, Failure, Kept, Output, PutsText, Stands, StandsInside, StandsWithin, ActsTo, PartEnds, HasTicked, Rest, entry_text, Entry, MayProceed, Held, Turn}
use Rattle.run_course.proofs.AsSource.{source_steps}
use Rattle.run_course.proofs.Parts.{acts_within, part_of}
use Rattle.run_course.proofs.Told.{out_state, out_is, out_inside, put_told, spawn_inside, spawn_may_start}

-- where a segment goes on it may proceed
may_by : (held : Held) (stopped : Option Turn) → stopped ≡ None → IsSome held.machine.running → MayProceed held stopped
may_by held None e some = some
may_by held (Some turn) e some = tt

some_by : (o : Option ℕ) (n : ℕ) → o ≡ Some n → IsSome o
some_by None n e = absurd (cc)
some_by (Some m) n e = refl

pub may_proceed : (g : Setup) (state : State) (k : Kept) (held : Held) (left : Rest) (choice : Choice) (before : List ℕ) → StandsInside g state k held left choice before → MayProceed held held.stopped
may_proceed g state k held left choice before is = may_by held held.stopped is.going (some_by held.machine.running is.segment.thread is.within.running)

module _ (g : Setup) (state : State) (k : Kept) (held : Held) (left : Rest) (under : Under) (stands : StandsWithin g state k held left under) where
  module _ (value : ℕ) (turn_is : under.turn ≡ Turn.Out value) where
    abbrev pub put_next : State
    put_next = out_state g state k held left under stands (source_steps g state held stands.of stands.segment.thread) value turn_is

    pub put_inside : StandsInside g put_next k held left under.choice under.before
    put_inside = out_inside g state k held left under stands (source_steps g state held stands.of stands.segment.thread) value turn_is

    put_acts : ActsTo (setting_of g) state.machine put_next.machine
    put_acts = subst (λ (w : World). ActsTo (setting_of g) state.machine w)
        (put_told g state k held left under stands (source_steps g state held stands.of stands.segment.thread) value turn_is).machine (acts_within g state k held left under stands)

    -- after the segment has gone on
    pub put_part : (new : Kept) (after : Held) → Stands g put_next new after left → HasTicked put_next.machine after.machine → (taken written : Output) (result : Result (Unit {0}) Failure) →
        PutsText taken written (entry_text (Entry.Out under.choice.thread.number (signed value)) ++ 10 ∷ []) result → PartEnds g state left new after left taken written result
    put_part new after stand ticked taken written result puts = part_of g state put_next left new after taken written (Entry.Out under.choice.thread.number (signed value)) result
        (λ told. out_is g state k held left under stands (source_steps g state held stands.of stands.segment.thread) value turn_is) put_acts ticked stand puts

  pub spawned_inside : (thread : ThreadId) → under.turn ≡ Turn.Spawned thread → (rule : RuleState) → HasStarted k.rule rule thread → StandsInside g state (record k { rule = rule }) held left under.choice under.before
  spawned_inside thread turn_is rule starts = spawn_inside g state k held left under stands (source_steps g state held stands.of stands.segment.thread) thread turn_is rule starts

  pub spawned_may_start : (thread : ThreadId) → under.turn ≡ Turn.Spawned thread → MayStart k.rule thread
  spawned_may_start thread turn_is = spawn_may_start g state k held left under stands (source_steps g state held stands.of stands.segment.thread) thread turn_is
