-- A thread that runs passes its ECALL.
use Rattle.thread_core.proofs.Common.{◌≡◌, ◌≢◌, ℕ, ◌+◌, ◌-◌, ◌^◌, ◌<◌, ◌≤◌, ◌⊎◌, inl, inr, List, length, Option, Some, None, refl, sym, ◌∙◌, ap, subst, arith, length-map, Slab, get, ThreadId, Acceptance, Core, LocalMove, local_step, passed, with_result, Thread, thread_of, replaced, moved, step, retired, checked_of, code_of, local_of, IsOwned, IsOwned-owns, Context, Fuel, IsWellFormed, Exchanging, step_moves, wait_at, IsNumbered, record_written, has_form, number_of, thread_of_record, threads_of, machine_of, setting_of, number_in, IsKept, IsRunningThere, RunsAt, AreAligned, HasContext, passed_context, Runs, Record, State, same_or_not}
use Rattle.std.proofs.Math.Nat.{mod-eq_of_lt}
use Rattle.cap_word.specs.Word.{add}
use Rattle.thread_core.proofs.OutsideLaws.{untrapped_same}
use Rattle.thread_core.proofs.TellingLaws.{found_at}

same_record : (st : State) (place : ℕ) (r t : Record) → get st.records place ≡ Some r → get st.records place ≡ Some t → r ≡ t
same_record st place r t e f = let x : Some r ≡ Some t = sym e ∙ f in cc

running_is : (st : State) (running : Option ThreadId) (thread : ThreadId) → IsRunningThere st running → running ≡ Some thread → (r : Record) × (get st.records thread.slot ≡ Some r) × (r.number ≡ thread.number)
running_is st None thread k e = absurd (let x : None ≡ Some thread = e in cc)
running_is st (Some other) thread k e = let x : other ≡ thread = cc in subst (λ (t : ThreadId). (r : Record) × (get st.records t.slot ≡ Some r) × (r.number ≡ t.number)) x k

runs_there : (running : Option ThreadId) (thread : ThreadId) → running ≡ Some thread → RunsAt running thread.slot
runs_there None thread e = absurd (let x : None ≡ Some thread = e in cc)
runs_there (Some other) thread e = let x : other ≡ thread = cc in ap (λ (t : ThreadId). t.slot) x

pub number_runs : (running : Option ThreadId) (thread : ThreadId) → running ≡ Some thread → number_in running ≡ Some thread.number
number_runs None thread e = absurd (let x : None ≡ Some thread = e in cc)
number_runs (Some other) thread e = let x : other ≡ thread = cc in ap (λ (t : ThreadId). Some t.number) x

module _ (accepted : Acceptance) (most : ℕ) (st : State) (thread : ThreadId) (runs : Runs accepted most st thread) where
  -- its record
  pub its_record : (r : Record) × (get st.records thread.slot ≡ Some r) × (r.number ≡ thread.number)
  its_record = running_is st st.running thread runs.kept.running runs.is

  pub its_number : (r : Record) → get st.records thread.slot ≡ Some r → r.number ≡ thread.number
  its_number r e = ap (λ (x : Record). x.number) (same_record st thread.slot r its_record.0 e its_record.1) ∙ its_record.2

  pub waits_not : wait_at st.waits thread.slot ≡ None
  waits_not = runs.kept.aligned.runs thread.slot (runs_there st.running thread runs.is)

  pub its_thread : (r : Record) → get st.records thread.slot ≡ Some r → thread_of (machine_of most st) thread.number ≡ Some (thread_of_record st.areas.pool st.waits thread.slot r)
  its_thread r e = rw (← its_number r e) (found_at accepted most st runs.kept thread.slot r e)

  its_thread_by : (r : Record) → get st.records thread.slot ≡ Some r → thread_of (machine_of most st) r.number ≡ Some (thread_of_record st.areas.pool st.waits thread.slot r)
  its_thread_by r e = found_at accepted most st runs.kept thread.slot r e

  pub it_runs : (machine_of most st).running ≡ Some thread.number
  it_runs = number_runs st.running thread runs.is

  -- its chunks are its own
  pub its_chunks : (r : Record) → get st.records thread.slot ≡ Some r → IsOwned st.areas.pool (local_of st.areas r.context).core.chain
  its_chunks r e =
      IsOwned-owns (local_of st.areas r.context)
      (has_form (checked_of accepted) (setting_of accepted most st) (machine_of most st) thread.number (thread_of_record st.areas.pool st.waits thread.slot r) runs.kept.formed (its_thread r e)).owns

  -- the world's step is what the thread's makes of it
  pub its_step : (r : Record) (move : LocalMove) → get st.records thread.slot ≡ Some r → 0 < st.fuel.left → local_step (code_of accepted) (local_of st.areas r.context) ≡ move →
      step (setting_of accepted most st) (machine_of most st) ≡ moved (setting_of accepted most st) (machine_of most st) (thread_of_record st.areas.pool st.waits thread.slot r) move
  its_step r move e some is =
      let left : st.fuel.left ≤ most = runs.kept.fuel in
      step_moves (setting_of accepted most st) (machine_of most st) (thread_of_record st.areas.pool st.waits thread.slot r) move
      (it_runs ∙ ap Some (sym (its_number r e))) (its_thread_by r e) (omega arith) is

-- ---- behind its ECALL

next_word : (pc : ℕ) → pc < 2 ^ 32 - 4 → add pc 4 ≡ pc + 4
unfolding add
next_word pc h = mod-eq_of_lt (omega arith)

-- a context that passes its ECALL is the thread that does
pub passed_core : (st : State) (context : Context) (answer : Option ℕ) → context.pc < 2 ^ 32 - 4 → (local_of st.areas (passed_context context answer)).core ≡ passed (local_of st.areas context).core answer
passed_core st context None h = ap (λ (pc : ℕ). record { pc = pc; x = context.x; chain = (local_of st.areas context).core.chain }) (sym (next_word context.pc h))
passed_core st context (Some value) h = ap (λ (pc : ℕ). record { pc = pc; x = with_result context.x (Some value); chain = (local_of st.areas context).core.chain }) (sym (next_word context.pc h))

module _ (accepted : Acceptance) (most : ℕ) (st : State) (thread : ThreadId) (runs : Runs accepted most st thread) (r : Record) (there : get st.records thread.slot ≡ Some r)
    (context : Context) (exchange : Exchanging) (records : Slab Record) (fuel : Fuel) where
  abbrev after : State
  after = record st { exchange = exchange; records = records; fuel = fuel; waits = record st.waits { clock = st.waits.clock + 1 } }

  module _ (written : HasContext st thread context after) where
    now_there : get records thread.slot ≡ Some (record r { context = context })
    now_there = written.written r there

    both_parts : IsNumbered number_of records.slots st.next
        × (threads_of after ≡ replaced (thread_of_record st.areas.pool st.waits thread.slot (record r { context = context })) (threads_of st))
    both_parts = record_written number_of (thread_of_record st.areas.pool st.waits) (thread_of_record st.areas.pool st.waits) st.records.slots records.slots st.next thread.slot r (record r { context = context })
        (λ k s. refl) (λ k s. refl) runs.kept.numbered there now_there refl
        (record { records = λ k apart. written.others k apart; threads = λ k s apart e. refl })

    -- a record is there where one was
    was_there : (place : ℕ) (t : Record) → get records place ≡ Some t → (place ≡ thread.slot) ⊎ (place ≢ thread.slot) → (s : Record) × (get st.records place ≡ Some s)
    was_there place t e (inl same) = (r, rw same there)
    was_there place t e (inr apart) = (t, sym (written.others place apart) ∙ e)

    still_none : (place : ℕ) → get records place ≡ None → (place ≡ thread.slot) ⊎ (place ≢ thread.slot) → get st.records place ≡ None
    still_none place e (inl same) = absurd (let x : None ≡ Some (record r { context = context }) = sym e ∙ ap (λ k. get records k) same ∙ now_there in cc)
    still_none place e (inr apart) = sym (written.others place apart) ∙ e

    pub aligned_after : exchange.caps ≡ st.exchange.caps → AreAligned after
    aligned_after caps = record {
      vacant = λ place e. runs.kept.aligned.vacant place (still_none place e (same_or_not place thread.slot));
      runs = runs.kept.aligned.runs;
      waits = λ place t e away. let s : (s : Record) × (get st.records place ≡ Some s) = was_there place t e (same_or_not place thread.slot) in runs.kept.aligned.waits place s.0 s.1 away;
      there = λ place t e. let s : (s : Record) × (get st.records place ≡ Some s) = was_there place t e (same_or_not place thread.slot) in runs.kept.aligned.there place s.0 s.1;
      named = λ place t e. let s : (s : Record) × (get st.records place ≡ Some s) = was_there place t e (same_or_not place thread.slot) in runs.kept.aligned.named place s.0 s.1;
      untrapped = λ place. untrapped_same st.exchange exchange caps (wait_at st.waits place) (runs.kept.aligned.untrapped place);
    }

    pub threads_after : (answer : Option ℕ) → context ≡ passed_context r.context answer → r.context.pc < 2 ^ 32 - 4 →
        threads_of after ≡ replaced (record (thread_of_record st.areas.pool st.waits thread.slot r) { core = passed (local_of st.areas r.context).core answer }) (threads_of st)
    threads_after answer e pc =
        both_parts.1 ∙ ap (λ (core : Core). replaced (record (thread_of_record st.areas.pool st.waits thread.slot r) { core = core }) (threads_of st))
        (ap (λ (x : Context). (local_of st.areas x).core) e ∙ passed_core st r.context answer pc)

    -- the world after it
    pub world_after : (answer : Option ℕ) → context ≡ passed_context r.context answer → r.context.pc < 2 ^ 32 - 4 → fuel.left + 1 ≡ st.fuel.left →
        machine_of most after ≡ record (retired (machine_of most st) (record (thread_of_record st.areas.pool st.waits thread.slot r) { core = passed (local_of st.areas r.context).core answer }) st.areas) { exchange = exchange.exchange }
    world_after answer e pc less =
        let left : st.fuel.left ≤ most = runs.kept.fuel in
        let cost : most - fuel.left ≡ most - st.fuel.left + 1 = omega arith in
        ap (λ (threads : List Thread). record (machine_of most after) { threads = threads }) (threads_after answer e pc)
        ∙ ap (λ (n : ℕ). record (machine_of most after) {
          threads = replaced (record (thread_of_record st.areas.pool st.waits thread.slot r) { core = passed (local_of st.areas r.context).core answer }) (threads_of st);
          cost = n;
        }) cost

    running_after : (running : Option ThreadId) → running ≡ Some thread → IsRunningThere after running
    running_after None e = tt
    running_after (Some other) e =
        let same : other.slot ≡ thread.slot = (let x : other ≡ thread = cc in ap (λ (t : ThreadId). t.slot) x) in
        let number : other.number ≡ thread.number = (let x : other ≡ thread = cc in ap (λ (t : ThreadId). t.number) x) in
        (record r { context = context }, ap (λ k. get records k) same ∙ now_there, its_number accepted most st thread runs r there ∙ sym number)

    -- all is kept, where the world after it is well formed
    pub kept_after : (answer : Option ℕ) → context ≡ passed_context r.context answer → r.context.pc < 2 ^ 32 - 4 → fuel.left + 1 ≡ st.fuel.left → exchange.caps ≡ st.exchange.caps →
        IsWellFormed (checked_of accepted) (setting_of accepted most after) (machine_of most after) → IsKept accepted most after
    kept_after answer e pc less caps formed =
        let left : st.fuel.left ≤ most = runs.kept.fuel in
        let begun : st.begun ≤ most - st.fuel.left = runs.kept.begun in
        let clock : st.waits.clock ≤ 2 ^ 63 + (most - st.fuel.left) = runs.kept.clock in
        record {
          areas = runs.kept.areas;
          numbered = both_parts.0;
          aligned = aligned_after caps;
          live = runs.kept.live ∙ sym (ap length (threads_after answer e pc) ∙ simp length-map refl);
          fuel = omega arith;
          begun = omega arith;
          clock = omega arith;
          formed = formed;
          running = running_after st.running runs.is;
        }
