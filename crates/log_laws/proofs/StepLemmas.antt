-- What a step of the world leaves of the number of the next thread and of the pool's shape, and when it finds no chunk.
use Rattle.log_laws.proofs.Common.{◌≡◌, ℕ, ◌+◌, nat_eq, nat_le, length, Option, Some, None, refl, subst, arith, cond, cond_both, Call, Blocking, Immediate, most_threads, Stop, immediate_row, blocking_row, Taken, taken_for, shape_of, taken_for-shape, KeepsShape, Local, LocalMove, Ended, Trapped, NoRoom, Wrong, local_step, Thread, World, Setting, Move, step_of, moved, package_call, printed, spawned, unless_trap, local_in, Ways, row_for, on_thread, on_printed, KeepsShape-step}
use Rattle.cap_word.specs.Runs.{Goes, Asks, Stops}
use Rattle.cap_word.specs.declared.traps.TrapKind.{TrapKind}
use Rattle.machine_world.specs.Local as local
use Rattle.machine_world.specs.Threads as machine

-- the next number is the same, or one more where a thread has started; the pool has its shape
pub record Stays (w after : World) (more : ℕ) : Type 0 where
  pub next : after.next ≡ w.next + more
  pub shape : shape_of after.areas.pool ≡ shape_of w.areas.pool

abbrev pub StaysAt : World → Move → Type 0
StaysAt w (machine.Goes after) = Stays w after 0
StaysAt w (machine.Puts value after) = Stays w after 0
StaysAt w (machine.Spawns number after) = Stays w after 1
StaysAt w (machine.Blocks after) = Stays w after 0
StaysAt w (machine.Ends after) = Stays w after 0
StaysAt w _ = Unit {0}

stays-ways : (s : Setting) (w : World) (thread : Thread) → Ways s w (StaysAt w) thread
stays-ways s w thread =
    let keeps : KeepsShape (local_in w thread) (local_step s.code (local_in w thread)) = KeepsShape-step s.code (local_in w thread) in
    record {
      goes = λ after e. record { next = omega arith; shape = subst (KeepsShape (local_in w thread)) e keeps };
      answers = λ ask still e. on_printed (StaysAt w) (row_for s w thread ask).prints _ (record { next = omega arith; shape = refl }) (λ word some. record { next = omega arith; shape = refl });
      blocks = λ block. record { next = omega arith; shape = refl };
      spawns = λ entry argument need still taken e few some. record { next = refl; shape = taken_for-shape w.areas.pool need taken some };
      ends = λ areas e. record { next = omega arith; shape = subst (KeepsShape (local_in w thread)) e keeps };
    }

module _ (s : Setting) (w : World) (thread : Thread) where
  -- what a step of the thread leaves
  pub stays-step : (move : Move) → step_of s w (Some thread) ≡ move → StaysAt w move
  stays-step move e = subst (StaysAt w) e (on_thread s w (StaysAt w) (λ stop. tt) tt thread (λ left. stays-ways s w thread))

  -- ---- where no chunk is found

  -- a local move after which the step of the world stops for want of a chunk
  abbrev pub FindsNone : LocalMove → Type 0
  FindsNone (Asks (local.Starts entry argument need) still) = taken_for w.areas.pool need ≡ None
  FindsNone (Stops NoRoom) = Unit {0}
  FindsNone _ = ⊥

  abbrev HasChunk : Move → Type 0
  HasChunk (machine.Stops Stop.NoChunk) = ⊥
  HasChunk _ = Unit {0}

  has-trap : (trap : Option TrapKind) (move : Move) → HasChunk move → HasChunk (unless_trap trap move)
  has-trap (Some kind) move has = tt
  has-trap None move has = has

  has-printed : (value : Option ℕ) (after : World) → HasChunk (printed value after)
  has-printed None after = tt
  has-printed (Some value) after = tt

  has-call : (call : Call) → HasChunk (package_call s w thread call)
  has-call (Blocking block) = has-trap (blocking_row s.caps w.exchange block).trap _ tt
  has-call (Immediate ask) =
      let row = immediate_row s.caps w.exchange thread.number w.next ask in
      has-trap row.trap _ (has-printed row.prints _)

  -- a move that finds a chunk, or one that finds none
  abbrev OneOf : LocalMove → Move → Type 0
  OneOf local move = (move ≡ machine.Stops Stop.NoChunk) → FindsNone local

  of-has : (local : LocalMove) (move : Move) → HasChunk move → OneOf local move
  of-has local move has e = absurd (subst HasChunk e has)

  one-spawned : (entry argument need : ℕ) (still : Local) (found : Option Taken) → taken_for w.areas.pool need ≡ found → OneOf (Asks (local.Starts entry argument need) still) (spawned w thread entry argument found)
  one-spawned entry argument need still None e none = e
  one-spawned entry argument need still (Some taken) e none = absurd (subst HasChunk none tt)

  one-moved : (move : LocalMove) → OneOf move (moved s w thread move)
  one-moved (Goes after) = of-has (Goes after) _ tt
  one-moved (Asks (local.Calls call) still) = of-has (Asks (local.Calls call) still) _ (has-call call)
  one-moved (Asks (local.Starts entry argument need) still) =
      cond_both (nat_le most_threads (length w.threads)) (machine.Stops Stop.Threads) (spawned w thread entry argument (taken_for w.areas.pool need)) (OneOf (Asks (local.Starts entry argument need) still))
      (λ _. of-has (Asks (local.Starts entry argument need) still) (machine.Stops Stop.Threads) tt)
      (λ _. one-spawned entry argument need still (taken_for w.areas.pool need) refl)
  one-moved (Stops (Ended areas)) = of-has (Stops (Ended areas)) _ tt
  one-moved (Stops (Trapped kind)) = of-has (Stops (Trapped kind)) _ tt
  one-moved (Stops NoRoom) = λ e. tt
  one-moved (Stops Wrong) = of-has (Stops Wrong) _ tt

  -- a step stops for want of a chunk only at a LINK or where a thread is about to start
  pub finds-none : cond (nat_eq w.cost s.fuel) (machine.Stops Stop.Fuel) (moved s w thread (local_step s.code (record { areas = w.areas; core = thread.core }))) ≡ machine.Stops Stop.NoChunk →
      FindsNone (local_step s.code (record { areas = w.areas; core = thread.core }))
  finds-none e =
      cond_both (nat_eq w.cost s.fuel) (machine.Stops Stop.Fuel) (moved s w thread (local_step s.code (record { areas = w.areas; core = thread.core })))
      (OneOf (local_step s.code (record { areas = w.areas; core = thread.core })))
      (λ _. of-has (local_step s.code (record { areas = w.areas; core = thread.core })) (machine.Stops Stop.Fuel) tt)
      (λ _. one-moved (local_step s.code (record { areas = w.areas; core = thread.core }))) e
