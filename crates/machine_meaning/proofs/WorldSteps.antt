-- The step of a world with a segment under way, and the pick with which one begins.
use Rattle.machine_meaning.proofs.Common.{◌≡◌, ℕ, nat_eq, List, Option, Some, refl, sym, ap, subst, ◌∙◌, cond, arith, cond_both, Call, Blocking, Immediate, call_of, Goes, Asks, Stops, moves, Stop, lowered, Waiting, Segment, segment_machine, ProgramTree, IsWellScoped, IsValid, Op, AreGlobals, Frame, LocalMove, Ended, Trapped, NoRoom, Wrong, local_step, Checked, IsAtCall, StandAtCall, Thread, World, Setting, thread_of, Move, asked, moved, step_of, step_on, step, local_in, IsWellFormed, KeepsWellFormed, KeepsWellFormed-step, AsksCall, IsStepAsSource, NeedsFit-valid, need_of, kind_of, Certificate, Image, IsReached, StepReaches}
use Rattle.c_mean.specs.World as source
use Rattle.c_mean.proofs.SegmentLemmas.{asks_in_world, stops_in_world}
use Rattle.machine_world.specs.Local as local
use Rattle.machine_world.specs.Threads as machine
use Rattle.machine_meaning.proofs.Formed.{formed}
use Rattle.machine_meaning.proofs.SegmentSteps.{along, goes_reach, ended_reach, trapped_reach, block_reach, ask_reach}
use Rattle.machine_meaning.proofs.Spawns.{spawn_reach}

-- one step of a world whose running thread is there
pub step_is : (s : Setting) (w : World) (number : ℕ) (thread : Thread) → w.running ≡ Some number → thread_of w number ≡ Some thread → step s w ≡ cond (nat_eq w.cost s.fuel) (machine.Stops Stop.Fuel) (moved s w thread (local_step s.code (local_in w thread)))
unfolding step
step_is s w number thread running found = ap (step_on s w) running ∙ ap (step_of s w) found

module _ (program : ProgramTree) (image : Image) (certificate : Certificate) (scoped : IsWellScoped program) (valid : IsValid (lowered program) image certificate) (s : Setting) (code_is : s.code ≡ image.code)
    (start : source.World) (number : ℕ) (puts : List ℕ) (w : World) (formed_w : IsWellFormed (record { flat = lowered program; certificate = certificate }) s w) (r : IsReached (record { flat = lowered program; certificate = certificate }) program s start number puts w) where
  abbrev checked : Checked
  checked = record { flat = lowered program; certificate = certificate }

  abbrev thread : Thread
  thread = r.under_way.thread

  abbrev segment : Segment
  segment = r.segment

  abbrev Reaches : Move → Type 0
  Reaches move = KeepsWellFormed checked s move → StepReaches checked program s start number puts move

  call_reach : (m : ℕ) (waiting : Waiting) (globals : List (List ℕ)) (f i word : ℕ) (site n : ℕ) (d : Option ℕ) (args words : List ℕ) (frames : List Frame) → IsAtCall checked w.areas.pool thread.core f i (Op.Model site d n args) word frames
      → StandAtCall checked program w.areas.pool (Op.Model site d n args) frames waiting → AreGlobals (lowered program) globals w.areas.globals → (call : Call) → call_of n words ≡ Some call
      → moves (segment_machine program s.caps) m segment ≡ source.calls s.caps segment globals waiting call → Reaches (machine.package_call s w thread call)
  call_reach m waiting globals f i word site n d args words frames rests stands globals_are (Blocking block) is comes keeps =
      block_reach program image certificate scoped valid s code_is start number puts w formed_w r m waiting globals f i word site n d args words frames rests stands globals_are block is comes
  call_reach m waiting globals f i word site n d args words frames rests stands globals_are (Immediate ask) is comes keeps =
      ask_reach program image certificate scoped valid s code_is start number puts w formed_w r m waiting globals f i word site n d args words frames rests stands globals_are ask is comes keeps

  op_reach : (m : ℕ) (waiting : Waiting) (globals : List (List ℕ)) (f i word : ℕ) (op : Op) (frames : List Frame) → IsAtCall checked w.areas.pool thread.core f i op word frames → StandAtCall checked program w.areas.pool op frames waiting → AreGlobals (lowered program) globals w.areas.globals
      → (question : local.Question) (call : Call) → AsksCall checked op question call → moves (segment_machine program s.caps) m segment ≡ source.calls s.caps segment globals waiting call → Reaches (asked s w thread question)
  op_reach m waiting globals f i word (Op.Model site d n args) frames rests stands globals_are question call h comes =
      subst (λ (q : local.Question). Reaches (asked s w thread q)) (sym h.2) (call_reach m waiting globals f i word site n d args h.0 frames rests stands globals_are call h.1 comes)
  op_reach m waiting globals f i word (Op.Spawn site d g x) frames rests stands globals_are question call h comes =
      subst (λ (q : local.Question). Reaches (asked s w thread q)) (sym h.2)
      (spawn_reach program image certificate scoped valid s code_is start number puts w formed_w r m waiting globals f i word site g x d frames rests stands globals_are (need_of (kind_of certificate (Op.Spawn site d g x))) h.0
      (omega (
        arith,
        (NeedsFit-valid (lowered program) image certificate (formed program image certificate scoped valid) valid).spawned_is f i site g x d
            rests.frames_are.at.0 rests.operation,
      ))
      (subst (λ (c : Call). moves (segment_machine program s.caps) m segment ≡ source.calls s.caps segment globals waiting c) h.1 comes))
  op_reach m waiting globals f i word _ frames rests stands globals_are question call h comes = absurd h

  moved_reach : (move : LocalMove) → local_step s.code (local_in w thread) ≡ move → IsStepAsSource checked program segment.running (local_in w thread) move → Reaches (moved s w thread move)
  moved_reach (Goes next) e h keeps = goes_reach program image certificate scoped valid s code_is start number puts w formed_w r next e
  moved_reach (Asks question still) e h keeps =
      let source_asks = asks_in_world program s.caps segment h.1.0 h.1.1 h.1.2 h.1.3 in
      let at = h.1.4 in
      op_reach source_asks.0 h.1.2 h.1.1.globals at.function at.operation at.word at.op at.frames at.rests at.stands at.globals_are question h.1.1.call at.same source_asks.2 keeps
  moved_reach (Stops (Ended areas)) e h keeps =
      let source_stops = stops_in_world program s.caps segment h.0 h.1 h.2 in
      ended_reach program image certificate scoped valid s code_is start number puts w formed_w r source_stops.0 h.1 areas e h.3.0 h.3.1 source_stops.2
  moved_reach (Stops (Trapped kind)) e h keeps =
      let source_stops = stops_in_world program s.caps segment h.0 h.1 h.2 in
      trapped_reach program image certificate scoped valid s code_is start number puts w formed_w r source_stops.0 h.1 kind h.3.0 source_stops.2
  moved_reach (Stops NoRoom) e h keeps = tt
  moved_reach (Stops Wrong) e h keeps = absurd h.3

  pub step_reach : StepReaches checked program s start number puts (step s w)
  step_reach =
      let is = step_is s w segment.number thread r.under_way.running r.under_way.live in
      let keeps : KeepsWellFormed checked s (cond (nat_eq w.cost s.fuel) (machine.Stops Stop.Fuel) (moved s w thread (local_step s.code (local_in w thread)))) = subst (KeepsWellFormed checked s) is (KeepsWellFormed-step checked s w formed_w) in
      subst (StepReaches checked program s start number puts) (sym is)
      (cond_both (nat_eq w.cost s.fuel) (machine.Stops Stop.Fuel) (moved s w thread (local_step s.code (local_in w thread))) Reaches
      (λ spent keeps'. tt)
      (λ fuel. moved_reach (local_step s.code (local_in w thread)) refl (along program image certificate scoped valid s code_is start number puts w formed_w r).step)
      keeps)
