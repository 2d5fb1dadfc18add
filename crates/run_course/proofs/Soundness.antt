-- Where a run stands, every live thread is in place and the chunks are partitioned.
use Rattle.run_course.proofs.Common.{◌≡◌, ℕ, List, Option, Some, None, sym, subst, checked_of, Setup, setting_of, State, IsSound, World, Move, Puts, Spawns, Blocks, Ends, Stops, step, IsWellFormed, Under, Kept, StandsBetween, StandsWithin, StandsBy, Stands, Rest, Tells, Held, Turn, IsReached, StepReaches, settled_sound, under_way_sound}
use Rattle.run_course.proofs.AsSource.{source_steps, formed_now}
use Rattle.run_course.proofs.Costs.{told_formed}

module _ (g : Setup) (state : State) where
  abbrev Formed : World → Type 0
  Formed w = IsWellFormed (checked_of g) (setting_of g) w

  reached_sound : (number : ℕ) (puts : List ℕ) (w : World) → Formed w → IsReached (checked_of g) g.program (setting_of g) state.source number puts w → IsSound (checked_of g) w
  reached_sound number puts w formed is = (under_way_sound (checked_of g) g.program (setting_of g) w is.segment formed is.under_way).0

  to_new : (after : World) (new : Held) → new.machine ≡ after → IsSound (checked_of g) after → IsSound (checked_of g) new.machine
  to_new after new e is = subst (λ (w : World). IsSound (checked_of g) w) (sym e) is

  -- the step that a turn tells
  sound_by : (at : World) (number : ℕ) (puts : List ℕ) (move : Move) (turn : Turn) (new : Held) → Formed at → IsReached (checked_of g) g.program (setting_of g) state.source number puts at → Formed new.machine →
      StepReaches (checked_of g) g.program (setting_of g) state.source number puts move → Tells move turn number at new → IsSound (checked_of g) new.machine
  sound_by at number puts (Puts value after) (Turn.Out told) new here is formed reached t =
      to_new after new t.1 (reached_sound number _ after (subst Formed t.1 formed) reached)
  sound_by at number puts (Spawns started after) (Turn.Spawned thread) new here is formed reached t =
      to_new after new t.2 (reached_sound number _ after (subst Formed t.2 formed) reached)
  sound_by at number puts (Spawns started after) Turn.Memory new here is formed reached t = to_new at new t.0 (reached_sound number puts at here is)
  sound_by at number puts (Blocks after) (Turn.Blocked key cost) new here is formed reached t =
      to_new after new t.2 (settled_sound (checked_of g) (setting_of g) after (subst Formed t.2 formed) reached.2.settled)
  sound_by at number puts (Ends after) (Turn.Ended cost) new here is formed reached t =
      to_new after new t.1 (settled_sound (checked_of g) (setting_of g) after (subst Formed t.1 formed) reached.2.settled)
  sound_by at number puts (Stops stop) (Turn.Cut told cost) new here is formed reached t = to_new at new t.2 (reached_sound number puts at here is)
  sound_by at number puts _ _ new here is formed reached t = absurd t

  module _ (k : Kept) (held : Held) (left : Rest) where
    pub sound_between : StandsBetween g state k held left → IsSound (checked_of g) held.machine
    sound_between stands = settled_sound (checked_of g) (setting_of g) held.machine (formed_now g state k held left stands) stands.settled

    pub sound_within : (under : Under) → StandsWithin g state k held left under → IsSound (checked_of g) held.machine
    sound_within under stands = sound_by stands.here stands.segment.thread stands.segment.puts (step (setting_of g) stands.here) under.turn held stands.within.formed stands.reached
        (told_formed (checked_of g) (setting_of g) stands.here held under.turn stands.segment.thread stands.within.formed stands.tells)
        (source_steps g state held stands.of stands.segment.thread stands.segment.puts stands.here stands.within.formed stands.reached) stands.tells

    sound_under : (under : Option Under) → StandsBy g state k held left under → IsSound (checked_of g) held.machine
    sound_under None stands = sound_between stands
    sound_under (Some under) stands = sound_within under stands

    pub sound_now : Stands g state k held left → IsSound (checked_of g) held.machine
    sound_now stands = sound_under k.under stands
