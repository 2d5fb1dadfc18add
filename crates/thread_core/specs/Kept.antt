-- The invariant of a world: its records, counts and waiting threads agree, and the machine world is well formed.
-- Between segments each thread rests in the code of the pair; during a segment, a segment of the source corresponds to
-- it.
use Rattle.std.specs.Prelude.{◌≡◌, ℕ, ◌+◌, ◌-◌, ◌<◌, ◌≤◌, ◌^◌, length, Option, Some, None, IsSome}
use Rattle.slab.specs.Slab.{get}
use Rattle.cap_word.specs.declared.threads.ThreadId.{ThreadId}
use Rattle.accepted_pairs.specs.Acceptance.{Acceptance}
use Rattle.accepted_pairs.specs.Accepting.{accepted_tree}
use Rattle.machine_world.specs.WellFormed.{IsWellFormed}
use Rattle.segment_run.specs.Contexts.{checked_of, code_of, local_of, AreOf, IsReady}
use Rattle.thread_waits.specs.Waiting.{wait_at, IsUntrapped}
use Rattle.segment_laws.specs.Found.{IsNumbered}
use Rattle.machine_meaning.specs.Running.{IsRunning}
use Rattle.machine_meaning.specs.UnderWay.{IsSettled}
use Rattle.thread_core.specs.States.{number_of, threads_of, setting_of, machine_of}
use Rattle.thread_core.specs.declared.records.Record.{Record}
use Rattle.thread_core.specs.declared.state.State.{State}
use Rattle.thread_core.specs.declared.world.World.TheInside.{Inside}

-- the segment in progress is that of the thread whose record is at this place
abbrev pub RunsAt : Option ThreadId → ℕ → Type 0
RunsAt None place = ⊥
RunsAt (Some thread) place = thread.slot ≡ place

-- no thread waits at a place without a record, the running thread doesn't wait, and every other thread does
pub record AreAligned (st : State) : Type 0 where
  pub vacant : (place : ℕ) → get st.records place ≡ None → wait_at st.waits place ≡ None
  pub runs : (place : ℕ) → RunsAt st.running place → wait_at st.waits place ≡ None
  pub waits : (place : ℕ) (r : Record) → get st.records place ≡ Some r → ¬ RunsAt st.running place → IsSome (wait_at st.waits place)
  pub there : (place : ℕ) (r : Record) → get st.records place ≡ Some r → place < length st.waits.places
  pub named : (place : ℕ) (r : Record) → get st.records place ≡ Some r → place < 2 ^ 32
  pub untrapped : (place : ℕ) → IsUntrapped st.exchange (wait_at st.waits place)

-- the running thread has a record at its place
abbrev pub IsRunningThere : State → Option ThreadId → Type 0
IsRunningThere st None = Unit {0}
IsRunningThere st (Some thread) = (r : Record) × (get st.records thread.slot ≡ Some r) × (r.number ≡ thread.number)

pub record IsKept (accepted : Acceptance) (most : ℕ) (st : State) : Type 0 where
  pub areas : AreOf accepted st.areas
  pub numbered : IsNumbered number_of st.records.slots st.next
  pub aligned : AreAligned st
  pub live : st.live ≡ length (threads_of st)
  pub fuel : st.fuel.left ≤ most
  pub begun : st.begun ≤ most - st.fuel.left
  pub clock : st.waits.clock ≤ 2 ^ 63 + (most - st.fuel.left)
  pub formed : IsWellFormed (checked_of accepted) (setting_of accepted most st) (machine_of most st)
  pub running : IsRunningThere st st.running

-- how far the run has advanced
abbrev pub HasCome : Acceptance → ℕ → State → Option ThreadId → Type 0
HasCome accepted most st None = IsSettled (checked_of accepted) (machine_of most st)
HasCome accepted most st (Some thread) = IsRunning (checked_of accepted) (accepted_tree accepted) (setting_of accepted most st) (machine_of most st)

pub record IsKeptIn (w : Inside) : Type 0 where
  pub chunks : w.chunks ≡ w.state.areas.pool.count
  pub state : IsKept w.accepted w.most w.state
  pub come : HasCome w.accepted w.most w.state w.state.running
  -- while the run hasn't stopped, the thread whose segment is in progress rests just after an ECALL
  pub ready : (thread : ThreadId) (r : Record) → w.state.running ≡ Some thread → w.state.stopped ≡ None → get w.state.records thread.slot ≡ Some r →
      IsReady (checked_of w.accepted) (code_of w.accepted) (local_of w.state.areas r.context)
  -- if the run has stopped, a segment was in progress
  pub stopped : IsSome w.state.stopped → IsSome w.state.running
