-- What holds of each way in which a step of the world can go holds of the step.
use Rattle.machine_world.proofs.Common.{◌≡◌, ℕ, ◌+◌, nat_eq, false, length, Option, Some, None, refl, nat_le, cond_both, Blocking, Immediate, most_threads, Ask, Block, TrapKind, ImmediateRow, blocking_row, immediate_row, Taken, taken_for, Areas, Local, LocalMove, local_step, passed}
use Rattle.cap_word.specs.Runs as runs
use Rattle.cap_word.specs.declared.stops.Stop.{Stop}
use Rattle.machine_world.specs.Local as local
use Rattle.machine_world.specs.Threads.{Thread, World, Setting, local_in, thread_of, without, with_thread, retired, resumed, result_of, Move, Goes, Puts, Spawns, Blocks, Ends, Stops, Wrong, unless_trap, printed, spawned, moved, step_of, step_on, step}

-- the thread, just after the ECALL of a call that blocks
abbrev pub blocked_at : World → Thread → Block → Thread
blocked_at w thread block = record thread { core = passed thread.core None; blocked = Some (record { block = block; since = w.clock + 1 }) }

-- a call that is answered at once, by its row
abbrev pub row_for : Setting → World → Thread → Ask → ImmediateRow
row_for s w thread ask = immediate_row s.caps w.exchange thread.number w.next ask

-- the world after a call that is answered at once
abbrev pub answered_by : World → Thread → Ask → ImmediateRow → World
answered_by w thread ask row = record (retired w (resumed thread (result_of ask row.result)) w.areas) { exchange = row.after }

module _ (s : Setting) (w : World) (P : Move → Type 0) where
  -- the ways in which the step of a thread can go
  pub record Ways (thread : Thread) : Type 0 where
    pub goes : (after : Local) → local_step s.code (local_in w thread) ≡ runs.Goes after → P (Goes (retired w (record thread { core = after.core }) after.areas))
    pub answers : (ask : Ask) (still : Local) → local_step s.code (local_in w thread) ≡ runs.Asks (local.Calls (Immediate ask)) still → P (printed (row_for s w thread ask).prints (answered_by w thread ask (row_for s w thread ask)))
    pub blocks : (block : Block) → P (Blocks (record (retired w (blocked_at w thread block) w.areas) { running = None }))
    pub spawns : (entry argument need : ℕ) (still : Local) (taken : Taken) → local_step s.code (local_in w thread) ≡ runs.Asks (local.Starts entry argument need) still →
        nat_le most_threads (length w.threads) ≡ false → taken_for w.areas.pool need ≡ Some taken →
        P (Spawns w.next (with_thread (retired w (resumed thread (Some w.next)) w.areas) taken entry argument))
    pub ends : (areas : Areas) → local_step s.code (local_in w thread) ≡ runs.Stops (local.Ended areas) →
        P (Ends (record w { threads = without thread.number w.threads; areas = areas; clock = w.clock + 1; cost = w.cost + 1; running = None }))

  module _ (stops : (stop : Stop) → P (Stops stop)) (wrong : P Wrong) where
    unless : (trap : Option TrapKind) (move : Move) → P move → P (unless_trap trap move)
    unless (Some kind) move h = stops (Stop.Trap kind)
    unless None move h = h

    on_spawned : (thread : Thread) (entry argument need : ℕ) (found : Option Taken) → taken_for w.areas.pool need ≡ found →
        ((taken : Taken) → taken_for w.areas.pool need ≡ Some taken → P (Spawns w.next (with_thread (retired w (resumed thread (Some w.next)) w.areas) taken entry argument))) → P (spawned w thread entry argument found)
    on_spawned thread entry argument need None e spawns = stops Stop.NoChunk
    on_spawned thread entry argument need (Some taken) e spawns = spawns taken e

    on_moved : (thread : Thread) → Ways thread → (move : LocalMove) → local_step s.code (local_in w thread) ≡ move → P (moved s w thread move)
    on_moved thread ways (runs.Goes after) e = ways.goes after e
    on_moved thread ways (runs.Asks (local.Calls (Blocking block)) still) e = unless (blocking_row s.caps w.exchange block).trap _ (ways.blocks block)
    on_moved thread ways (runs.Asks (local.Calls (Immediate ask)) still) e = unless (row_for s w thread ask).trap _ (ways.answers ask still e)
    on_moved thread ways (runs.Asks (local.Starts entry argument need) still) e =
        cond_both (nat_le most_threads (length w.threads)) (Stops Stop.Threads) (spawned w thread entry argument (taken_for w.areas.pool need)) P
        (λ _. stops Stop.Threads)
        (λ few. on_spawned thread entry argument need (taken_for w.areas.pool need) refl (λ taken some. ways.spawns entry argument need still taken e few some))
    on_moved thread ways (runs.Stops (local.Ended areas)) e = ways.ends areas e
    on_moved thread ways (runs.Stops (local.Trapped kind)) e = stops (Stop.Trap kind)
    on_moved thread ways (runs.Stops local.NoRoom) e = stops Stop.NoChunk
    on_moved thread ways (runs.Stops local.Wrong) e = wrong

    -- the thread's step, unless the fuel is used up
    pub on_thread : (thread : Thread) → ((nat_eq w.cost s.fuel ≡ false) → Ways thread) → P (step_of s w (Some thread))
    on_thread thread ways =
        cond_both (nat_eq w.cost s.fuel) (Stops Stop.Fuel) (moved s w thread (local_step s.code (local_in w thread))) P
        (λ _. stops Stop.Fuel)
        (λ left. on_moved thread (ways left) (local_step s.code (local_in w thread)) refl)

    on_found : (number : ℕ) (found : Option Thread) → thread_of w number ≡ found → ((thread : Thread) → thread_of w number ≡ Some thread → (nat_eq w.cost s.fuel ≡ false) → Ways thread) → P (step_of s w found)
    on_found number None e ways = wrong
    on_found number (Some thread) e ways = on_thread thread (ways thread e)

    on_running : (running : Option ℕ) → w.running ≡ running → ((number : ℕ) (thread : Thread) → w.running ≡ Some number → thread_of w number ≡ Some thread → (nat_eq w.cost s.fuel ≡ false) → Ways thread) → P (step_on s w running)
    on_running None e ways = wrong
    on_running (Some number) e ways = on_found number (thread_of w number) refl (λ thread there. ways number thread e there)

    pub on_step : ((number : ℕ) (thread : Thread) → w.running ≡ Some number → thread_of w number ≡ Some thread → (nat_eq w.cost s.fuel ≡ false) → Ways thread) → P (step s w)
    unfolding step
    on_step ways = on_running w.running refl ways

-- a predicate that holds of a move that prints or doesn't
pub on_printed : (P : Move → Type 0) (value : Option ℕ) (after : World) → P (Goes after) → ((word : ℕ) → value ≡ Some word → P (Puts word after)) → P (printed value after)
on_printed P None after goes puts = goes
on_printed P (Some word) after goes puts = puts word refl
