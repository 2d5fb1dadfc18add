-- What was told of a segment is a step.
use Rattle.run_course.proofs.Common.{◌≡◌, ℕ, refl, sym, ap, ◌∙◌, Stop, Setup, State, Under, Halt, Kept, Output, StandsWithin, World, thread_of, HaltsAt, Rest, Held, IsThread, Turn}
use Rattle.run_course.proofs.AsSource.{source_steps}
use Rattle.run_course.proofs.Parts.{acts_within, way_within, ticks_within}
use Rattle.run_course.proofs.Soundness.{sound_within}
use Rattle.run_course.proofs.Told.{cut_is, cut_told}
use Rattle.run_course.proofs.Turned.{some_live}

-- the thread of the segment lives, and its record stands at its place
cut_thread : (g : Setup) (state : State) (k : Kept) (held : Held) (left : Rest) (under : Under) (stands : StandsWithin g state k held left under) (stop : Stop) (cost : ℕ) → under.turn ≡ Turn.Cut stop cost →
    IsThread held under.choice.thread
cut_thread g state k held left under stands stop cost turn_is =
    let told = cut_told g state k held left under stands (source_steps g state held stands.of stands.segment.thread) stop cost turn_is in
    stands.placed (some_live held.machine under.choice.thread.number stands.reached.under_way.thread
    (ap (λ (w : World). thread_of w under.choice.thread.number) told.machine
    ∙ ap (λ (n : ℕ). thread_of stands.here n) (stands.thread_is ∙ sym stands.reached.of_thread) ∙ stands.reached.under_way.live))

pub cut_halts : (g : Setup) (state : State) (k : Kept) (held : Held) (left : Rest) (under : Under) (stands : StandsWithin g state k held left under) (stop : Stop) (cost : ℕ) → under.turn ≡ Turn.Cut stop cost → (taken : Output) →
    HaltsAt g state left k held (Halt.Cut under.choice.thread stop cost) taken taken
cut_halts g state k held left under stands stop cost turn_is taken = record {
  of = stands.of;
  stops = λ told. cut_is g state k held left under stands (source_steps g state held stands.of stands.segment.thread) stop cost turn_is;
  graph = stands.past.graph_is;
  acts = acts_within g state k held left under stands;
  way = way_within g state k held left under stands;
  clock = ticks_within g state k held left under stands;
  sound = sound_within g state k held left under stands;
  thread = cut_thread g state k held left under stands stop cost turn_is;
  writes = refl;
}
