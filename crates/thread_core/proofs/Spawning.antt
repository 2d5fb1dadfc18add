-- A thread that stands at the ECALL of a spawn: what the step of the world is, and what comes of it.
use Rattle.thread_core.proofs.Common.{◌≡◌, ℕ, ◌-◌, ◌<◌, ◌≤◌, true, false, length, Option, Some, None, refl, ap, ◌∙◌, subst, arith, nat_eq, nat_le, cond-true, cond-false, ne_eqb, nat_tests, get, lowered, Ask, Stop, ThreadId, Acceptance, accepted_tree, IsValid, Taken, taken_for, FitsNone, Op, formed, Checked, Thread, World, Setting, Stops, Spawns, thread_of, starts, spawned, retired, resumed, with_thread, moved, step_of, step_on, step, most_threads, IsWellFormed, KeepsWellFormed, KeepsWellFormed-step, checked_of, code_of, local_of, IsAtSpawn, IsAtAsk, NeedsFit-valid, fact_at, need_of, kind_of, thread_found, IsRunningThere, number_of, thread_of_record, threads_of, machine_of, setting_of, number_in, Runs, LocalIs, Record, State, taken_for-none}

module _ (accepted : Acceptance) (most : ℕ) (st : State) (thread : ThreadId) (runs : Runs accepted most st thread) (left : 0 < st.fuel.left) (function argument : ℕ)
    (at : LocalIs st thread (λ l. IsAtAsk (checked_of accepted) (code_of accepted) l (Ask.Spawn function argument))) (valid : IsValid (lowered (accepted_tree accepted)) accepted.image accepted.certificate) where
  abbrev pub c : Checked
  c = checked_of accepted

  abbrev pub s : Setting
  s = setting_of accepted most st

  abbrev pub w : World
  w = machine_of most st

  pub there : (r : Record) × (get st.records thread.slot ≡ Some r) × (r.number ≡ thread.number)
  there = subst (IsRunningThere st) runs.is runs.kept.running

  abbrev pub r : Record
  r = there.0

  abbrev pub t : Thread
  t = thread_of_record st.areas.pool st.waits thread.slot r

  pub found : thread_of w thread.number ≡ Some t
  found = subst (λ (n : ℕ). thread_of w n ≡ Some t) there.2
      (thread_found number_of (thread_of_record st.areas.pool st.waits) st.records.slots st.next thread.slot r (λ k x. refl) runs.kept.numbered there.1)

  pub spawn : IsAtSpawn c (code_of accepted) (local_of st.areas r.context) function argument
  spawn = at r there.1

  abbrev pub entry : ℕ
  entry = (fact_at accepted.certificate function).entry

  abbrev pub bound : ℕ
  bound = (fact_at accepted.certificate function).bound

  abbrev pub need : ℕ
  need = need_of (kind_of accepted.certificate (Op.Spawn spawn.site spawn.place function spawn.variable))

  fuelled : nat_eq (most - st.fuel.left) most ≡ false
  fuelled = ne_eqb (most - st.fuel.left) most (λ e. (let below = runs.kept.fuel in omega (arith, e, left, below)))

  pub step_is : step s w ≡ starts w t entry argument need
  unfolding step
  step_is =
      ap (λ (o : Option ThreadId). step_on s w (number_in o)) runs.is
      ∙ ap (step_of s w) found
      ∙ cond-false (nat_eq (most - st.fuel.left) most) (Stops Stop.Fuel) _ fuelled
      ∙ ap (moved s w t) spawn.asks

  -- ---- it stops

  le_true : (a b : ℕ) → a ≤ b → nat_le a b ≡ true
  le_true a b h = grind (arith, nat_tests, h)

  le_false : (a b : ℕ) → b < a → nat_le a b ≡ false
  le_false a b h = grind (arith, nat_tests, h)

  pub many : most_threads ≤ st.live → step s w ≡ Stops Stop.Threads
  many h = step_is ∙ cond-true (nat_le most_threads (length (threads_of st))) (Stops Stop.Threads) _
      (le_true most_threads (length (threads_of st)) (let same = runs.kept.live in omega (arith, h, same)))

  few_step : st.live < most_threads → step s w ≡ spawned w t entry argument (taken_for st.areas.pool need)
  few_step h = step_is ∙ cond-false (nat_le most_threads (length (threads_of st))) (Stops Stop.Threads) _
      (le_false most_threads (length (threads_of st)) (let same = runs.kept.live in omega (arith, h, same)))

  -- the need at the site is the bound of the function
  need_is : need ≡ bound
  need_is =
      (NeedsFit-valid (lowered (accepted_tree accepted)) accepted.image accepted.certificate (formed (accepted_tree accepted) accepted.image accepted.certificate accepted.program.well_scoped valid) valid).spawned_is
      spawn.rests.function spawn.rests.operation spawn.site function spawn.variable spawn.place spawn.rests.at.frames_are.at.0 spawn.rests.at.operation

  pub taken_is : taken_for st.areas.pool need ≡ taken_for st.areas.pool bound
  taken_is = ap (taken_for st.areas.pool) need_is

  pub fits_none : st.live < most_threads → FitsNone st.areas.pool bound → step s w ≡ Stops Stop.NoChunk
  fits_none few none =
      few_step few ∙ ap (spawned w t entry argument) (taken_is ∙ (taken_for-none st.areas.pool bound runs.kept.formed.areas.pool).1 none)

  -- ---- it starts a thread

  pub record Takes : Type 0 where
    pub taken : Taken
    pub is : taken_for st.areas.pool need ≡ Some taken

  takes_by : (found : Option Taken) → taken_for st.areas.pool bound ≡ found → (FitsNone st.areas.pool bound → ⊥) → Takes
  takes_by None e some = absurd (some ((taken_for-none st.areas.pool bound runs.kept.formed.areas.pool).0 e))
  takes_by (Some taken) e some = record { taken = taken; is = taken_is ∙ e }

  pub takes : (FitsNone st.areas.pool bound → ⊥) → Takes
  takes some = takes_by (taken_for st.areas.pool bound) refl some

  abbrev pub after : Taken → World
  after taken = with_thread (retired w (resumed t (Some st.next)) st.areas) taken entry argument

  pub starts_one : st.live < most_threads → (tk : Takes) → step s w ≡ Spawns st.next (after tk.taken)
  starts_one few tk = few_step few ∙ ap (spawned w t entry argument) tk.is

  pub after_formed : st.live < most_threads → (tk : Takes) → IsWellFormed c s (after tk.taken)
  after_formed few tk = subst (KeepsWellFormed c s) (starts_one few tk) (KeepsWellFormed-step c s w runs.kept.formed)
