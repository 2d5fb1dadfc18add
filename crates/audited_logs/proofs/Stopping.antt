-- Why a step of the machine stops for fuel or for threads, and what the source's run comes to where it stops for threads.
use Rattle.audited_logs.proofs.Common.{◌≡◌, ℕ, ◌≤◌, nat_eq, nat_le, true, List, length, Option, Some, None, sym, ◌∙◌, subst, arith, cond_both, eqb-true, nat_tests, Call, Blocking, Immediate, most_threads, Asks, Stops, Goes, Stop, TrapKind, lowered, blocking_row, immediate_row, ProgramTree, IsWellScoped, IsValid, Taken, taken_for, Checked, IsWellFormed, IsReached, step_is}
use Rattle.c_mean.specs.World as source
use Rattle.flat_code.specs.declared.operations.Op.{Op}
use Rattle.machine_world.specs.Local as local
use Rattle.machine_world.specs.Local.{LocalMove, local_step, Ended, Trapped, NoRoom, Wrong}
use Rattle.machine_world.specs.Threads as machine
use Rattle.machine_world.specs.Threads.{Thread, World, Setting, Move, package_call, printed, spawned, unless_trap, moved, step, local_in}
use Rattle.machine_meaning.specs.AsSource.{AsksCall, IsStepAsSource}
use Rattle.stack_certificate.specs.declared.certificates.Certificate.{Certificate}
use Rattle.stack_image.specs.declared.images.Image.{Image}
use Rattle.machine_meaning.proofs.SegmentSteps.{along}
use Rattle.audited_logs.proofs.Begun.{ComesToStart, comes_to_start}

-- ---- the machine's step

-- a thread is about to start
abbrev pub IsStart : LocalMove → Type 0
IsStart (Asks (local.Starts entry argument need) still) = Unit {0}
IsStart _ = ⊥

-- why a step stops, by what the thread's own step leads to
abbrev pub HasCause : World → LocalMove → Move → Type 0
HasCause w own (machine.Stops Stop.Fuel) = ⊥
HasCause w own (machine.Stops Stop.Threads) = IsStart own × (most_threads ≤ length w.threads)
HasCause w own _ = Unit {0}

module _ (s : Setting) (w : World) (thread : Thread) where
  cause_trap : (own : LocalMove) (trap : Option TrapKind) (move : Move) → HasCause w own move → HasCause w own (unless_trap trap move)
  cause_trap own (Some kind) move is = tt
  cause_trap own None move is = is

  cause_printed : (own : LocalMove) (value : Option ℕ) (after : World) → HasCause w own (printed value after)
  cause_printed own None after = tt
  cause_printed own (Some value) after = tt

  cause_call : (own : LocalMove) (call : Call) → HasCause w own (package_call s w thread call)
  cause_call own (Blocking block) = cause_trap own (blocking_row s.caps w.exchange block).trap _ tt
  cause_call own (Immediate ask) =
      let row = immediate_row s.caps w.exchange thread.number w.next ask in
      cause_trap own row.trap _ (cause_printed own row.prints _)

  cause_spawned : (own : LocalMove) (entry argument : ℕ) (found : Option Taken) → HasCause w own (spawned w thread entry argument found)
  cause_spawned own entry argument None = tt
  cause_spawned own entry argument (Some taken) = tt

  as_many : nat_le most_threads (length w.threads) ≡ true → most_threads ≤ length w.threads
  as_many e = grind (arith, nat_tests, e)

  cause_moved : (own : LocalMove) → HasCause w own (moved s w thread own)
  cause_moved (Goes after) = tt
  cause_moved (Asks (local.Calls call) still) = cause_call (Asks (local.Calls call) still) call
  cause_moved (Asks (local.Starts entry argument need) still) =
      cond_both (nat_le most_threads (length w.threads)) (machine.Stops Stop.Threads) (spawned w thread entry argument (taken_for w.areas.pool need)) (HasCause w (Asks (local.Starts entry argument need) still))
      (λ full. (tt, as_many full))
      (λ _. cause_spawned (Asks (local.Starts entry argument need) still) entry argument (taken_for w.areas.pool need))
  cause_moved (Stops (Ended areas)) = tt
  cause_moved (Stops (Trapped kind)) = tt
  cause_moved (Stops NoRoom) = tt
  cause_moved (Stops Wrong) = tt

-- a step stops for fuel where all of it is spent
abbrev SpentAt : Setting → World → Move → Type 0
SpentAt s w move = move ≡ machine.Stops Stop.Fuel → w.cost ≡ s.fuel

pub fuel_spent : (s : Setting) (w : World) (number : ℕ) (thread : Thread) → w.running ≡ Some number → machine.thread_of w number ≡ Some thread → step s w ≡ machine.Stops Stop.Fuel → w.cost ≡ s.fuel
fuel_spent s w number thread running live e =
    let own = local_step s.code (local_in w thread) in
    cond_both (nat_eq w.cost s.fuel) (machine.Stops Stop.Fuel) (moved s w thread own) (SpentAt s w)
    (λ spent k. eqb-true w.cost s.fuel spent)
    (λ _ k. absurd (subst (HasCause w own) k (cause_moved s w thread own)))
    (sym (step_is s w number thread running live) ∙ e)

-- and for threads where one is about to start and as many live as may
abbrev CrowdedAt : World → LocalMove → Move → Type 0
CrowdedAt w own move = move ≡ machine.Stops Stop.Threads → IsStart own × (most_threads ≤ length w.threads)

fuel_apart : ◌≡◌ {A = Move} (machine.Stops Stop.Fuel) (machine.Stops Stop.Threads) → ⊥
fuel_apart e = absurd (cc)

crowded_step : (s : Setting) (w : World) (number : ℕ) (thread : Thread) → w.running ≡ Some number → machine.thread_of w number ≡ Some thread → step s w ≡ machine.Stops Stop.Threads → IsStart (local_step s.code (local_in w thread)) × (most_threads ≤ length w.threads)
crowded_step s w number thread running live e =
    let own = local_step s.code (local_in w thread) in
    cond_both (nat_eq w.cost s.fuel) (machine.Stops Stop.Fuel) (moved s w thread own) (CrowdedAt w own)
    (λ spent k. absurd (fuel_apart k))
    (λ _ k. subst (HasCause w own) k (cause_moved s w thread own))
    (sym (step_is s w number thread running live) ∙ e)

-- ---- the source's run

module _ (program : ProgramTree) (image : Image) (certificate : Certificate) (scoped : IsWellScoped program) (valid : IsValid (lowered program) image certificate) (s : Setting) (code_is : s.code ≡ image.code)
    (start : source.World) (number : ℕ) (puts : List ℕ) (w : World) (formed_w : IsWellFormed (record { flat = lowered program; certificate = certificate }) s w) (r : IsReached (record { flat = lowered program; certificate = certificate }) program s start number puts w) where
  abbrev checked : Checked
  checked = record { flat = lowered program; certificate = certificate }

  -- the operation at which the thread stands starts a thread
  record StartsAs (call : Call) : Type 0 where
    function : ℕ
    argument : ℕ
    is : call ≡ Rattle.cap_word.specs.Calls.spawn_of function argument

  not_call : (own call : Call) (entry argument need : ℕ) → ◌≡◌ {A = local.Question} (local.Starts entry argument need) (local.Calls call) → ⊥
  not_call own call entry argument need e = absurd (cc)

  starts_as : (op : Op) (entry argument need : ℕ) (call : Call) → AsksCall checked op (local.Starts entry argument need) call → StartsAs call
  starts_as (Op.Model site d n args) entry argument need call h = absurd (not_call call call entry argument need h.2)
  starts_as (Op.Spawn site d g x) entry argument need call h = record { function = g; argument = h.0; is = h.1 }
  starts_as _ entry argument need call h = absurd h

  start_by : (own : LocalMove) → IsStart own → IsStepAsSource checked program r.segment.running (local_in w r.under_way.thread) own → ComesToStart program s.caps r.segment
  start_by (Asks (local.Starts entry argument need) still) is h =
      let at = h.1.4 in
      let spawn = starts_as at.op entry argument need h.1.1.call at.same in
      comes_to_start program s.caps r.segment h.1.0 spawn.function spawn.argument h.1.1 h.1.2 h.1.3 spawn.is
  start_by _ is h = absurd is

  pub record Crowded : Type 0 where
    pub full : most_threads ≤ length w.threads
    pub comes : ComesToStart program s.caps r.segment

  -- where the machine stops for threads, the source's run comes to the start of one
  pub crowded : step s w ≡ machine.Stops Stop.Threads → Crowded
  crowded e =
      let stops = crowded_step s w r.segment.number r.under_way.thread r.under_way.running r.under_way.live e in
      record {
        full = stops.1;
        comes = start_by (local_step s.code (local_in w r.under_way.thread)) stops.0 (along program image certificate scoped valid s code_is start number puts w formed_w r).step;
      }
