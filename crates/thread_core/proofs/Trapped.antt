-- Where a step of the world is a trap, the source's run comes to it from where it is, and starts no thread on the way.
use Rattle.thread_core.proofs.Common.{◌≡◌, ℕ, nat_eq, List, length, Option, Some, None, refl, sym, ap, subst, ◌∙◌, nat_le, cond_both, Call, Blocking, Immediate, most_threads, Block, Stop, TrapKind, lowered, Exchange, blocking_row, immediate_row, ProgramTree, IsWellScoped, IsValid, Taken, taken_for, Op, LocalMove, Ended, Trapped, local_step, Checked, Thread, World, Setting, Move, retired, resumed, result_of, unless_trap, printed, answered, blocks, package_call, spawned, starts, asked, moved, step, local_in, IsWellFormed, fact_at, need_of, kind_of, Certificate, Image, IsReached, IsFinished}
use Rattle.cap_word.specs.Runs.{Goes, Asks, Stops, moves}
use Rattle.c_mean.specs.Frames.{Waiting}
use Rattle.c_mean.specs.Steps.{source_resume}
use Rattle.c_mean.specs.World as source
use Rattle.c_mean.specs.World.{Segment, SegmentMove, segment_machine}
use Rattle.c_mean.proofs.SegmentLemmas.{asks_in_world, stops_in_world}
use Rattle.machine_world.specs.Local as local
use Rattle.machine_world.specs.Threads as machine
use Rattle.machine_meaning.specs.AsSource.{AsksCall, IsStepAsSource}
use Rattle.machine_meaning.proofs.SegmentSteps.{along, finish, own}
use Rattle.machine_meaning.proofs.WorldSteps.{step_is}

module _ (program : ProgramTree) (image : Image) (certificate : Certificate) (scoped : IsWellScoped program) (valid : IsValid (lowered program) image certificate) (s : Setting) (code_is : s.code ≡ image.code)
    (start : source.World) (number : ℕ) (puts : List ℕ) (w : World) (formed_w : IsWellFormed (record { flat = lowered program; certificate = certificate }) s w) (r : IsReached (record { flat = lowered program; certificate = certificate }) program s start number puts w) where
  abbrev checked : Checked
  checked = record { flat = lowered program; certificate = certificate }

  abbrev thread : Thread
  thread = r.under_way.thread

  abbrev segment : Segment
  segment = r.segment

  -- the source's run has come to the trap, with the threads that it had
  pub record HasTrapped (kind : TrapKind) : Type 0 where
    pub after : source.World
    pub finished : IsFinished checked program s start number puts (Some kind) after
    pub same : after.threads ≡ segment.world.threads

  abbrev pub TrapsSo : Move → Type 0
  TrapsSo (machine.Stops (Stop.Trap kind)) = HasTrapped kind
  TrapsSo _ = Unit {0}

  trapped : (m : ℕ) (globals : List (List ℕ)) (kind : TrapKind) (trap : Option TrapKind) (other : SegmentMove) → trap ≡ Some kind → moves (segment_machine program s.caps) m segment ≡ source.unless_trap segment globals trap other → HasTrapped kind
  trapped m globals kind trap other is comes =
      let after : source.World = record segment.world { globals = globals } in
      let stops : moves (segment_machine program s.caps) m segment ≡ Stops (record { trap = Some kind; world = after }) = comes ∙ ap (λ (t : Option TrapKind). source.unless_trap segment globals t other) is in
      record {
        after = after;
        finished = finish program image certificate scoped valid s code_is start number puts w formed_w r m (Some kind) after stops refl;
        same = refl;
      }

  -- ---- a modelled call

  module _ (m : ℕ) (waiting : Waiting) (globals : List (List ℕ)) where
    by_block : (block : Block) (trap : Option TrapKind) → moves (segment_machine program s.caps) m segment ≡ source.unless_trap segment globals trap (source.rests segment globals (source.Blocked block waiting)) → TrapsSo (blocks w thread block trap)
    by_block block (Some kind) comes = trapped m globals kind (Some kind) (source.rests segment globals (source.Blocked block waiting)) refl comes
    by_block block None comes = tt

    by_printed : (prints : Option ℕ) (after : World) → TrapsSo (printed prints after)
    by_printed None after = tt
    by_printed (Some value) after = tt

    by_trap : (trap : Option TrapKind) (prints : Option ℕ) (after : World) (other : SegmentMove) → moves (segment_machine program s.caps) m segment ≡ source.unless_trap segment globals trap other → TrapsSo (unless_trap trap (printed prints after))
    by_trap (Some kind) prints after other comes = trapped m globals kind (Some kind) other refl comes
    by_trap None prints after other comes = by_printed prints after

    by_call : (call : Call) → moves (segment_machine program s.caps) m segment ≡ source.calls s.caps segment globals waiting call → TrapsSo (package_call s w thread call)
    by_call (Blocking block) comes =
        subst (λ (x : Exchange). TrapsSo (blocks w thread block (blocking_row s.caps x block).trap)) (sym r.under_way.exchange)
        (by_block block (blocking_row s.caps segment.world.exchange block).trap comes)
    by_call (Immediate ask) comes =
        let row = immediate_row s.caps segment.world.exchange segment.number (length segment.world.threads) ask in
        subst (λ (x : Exchange). TrapsSo (answered w thread ask (immediate_row s.caps x thread.number w.next ask))) (sym r.under_way.exchange)
        (subst (λ (k : ℕ). TrapsSo (answered w thread ask (immediate_row s.caps segment.world.exchange k w.next ask))) (sym (own program image certificate scoped valid s code_is start number puts w formed_w r))
        (subst (λ (k : ℕ). TrapsSo (answered w thread ask (immediate_row s.caps segment.world.exchange segment.number k ask))) (sym r.under_way.next)
        (by_trap row.trap row.prints (record (retired w (resumed thread (result_of ask row.result)) w.areas) { exchange = row.after })
        (Goes (record { number = segment.number; running = source_resume waiting (record { result = row.result; globals = globals }); world = source.after_ask segment.world segment.number row })) comes)))

    by_room : (entry argument : ℕ) (room : Option Taken) → TrapsSo (spawned w thread entry argument room)
    by_room entry argument None = tt
    by_room entry argument (Some taken) = tt

    by_starts : (entry argument need : ℕ) → TrapsSo (starts w thread entry argument need)
    by_starts entry argument need =
        cond_both (nat_le most_threads (length w.threads)) (machine.Stops Stop.Threads) (spawned w thread entry argument (taken_for w.areas.pool need)) TrapsSo (λ full. tt) (λ room. by_room entry argument (taken_for w.areas.pool need))

    by_op : (op : Op) (question : local.Question) (call : Call) → AsksCall checked op question call → moves (segment_machine program s.caps) m segment ≡ source.calls s.caps segment globals waiting call → TrapsSo (asked s w thread question)
    by_op (Op.Model site d n args) question call h comes = subst (λ (q : local.Question). TrapsSo (asked s w thread q)) (sym h.2) (by_call call comes)
    by_op (Op.Spawn site d g x) question call h comes = subst (λ (q : local.Question). TrapsSo (asked s w thread q)) (sym h.2) (by_starts (fact_at certificate g).entry h.0 (need_of (kind_of certificate (Op.Spawn site d g x))))
    by_op op question call h comes = absurd h

  by_move : (move : LocalMove) → IsStepAsSource checked program segment.running (local_in w thread) move → TrapsSo (moved s w thread move)
  by_move (Asks question still) h =
      let source_asks = asks_in_world program s.caps segment h.1.0 h.1.1 h.1.2 h.1.3 in
      by_op source_asks.0 h.1.2 h.1.1.globals h.1.4.op question h.1.1.call h.1.4.same source_asks.2
  by_move (Stops (Trapped kind)) h =
      let source_stops = stops_in_world program s.caps segment h.0 h.1 h.2 in
      trapped source_stops.0 h.1.globals kind h.1.trap (source.rests segment h.1.globals source.Ended) h.3.0 source_stops.2
  by_move _ h = tt

  pub trap_step : TrapsSo (step s w)
  trap_step =
      subst TrapsSo (sym (step_is s w segment.number thread r.under_way.running r.under_way.live))
      (cond_both (nat_eq w.cost s.fuel) (machine.Stops Stop.Fuel) (moved s w thread (local_step s.code (local_in w thread))) TrapsSo
      (λ spent. tt)
      (λ fuel. by_move (local_step s.code (local_in w thread)) (along program image certificate scoped valid s code_is start number puts w formed_w r).step))
