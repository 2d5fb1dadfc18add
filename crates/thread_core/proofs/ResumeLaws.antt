-- A segment of a thread that is ready begins.
use Rattle.thread_core.proofs.Common.{◌≡◌, Ok, ◌||◌, is_some, ◌*◌, pos, ◌-ℤ◌, ◌≢◌, ℕ, ◌+◌, ◌-◌, ◌<◌, ◌⊎◌, inl, inr, Bool, true, false, length, Option, Some, None, IsSome, option_map, is_none, refl, sym, ◌∙◌, ap, subst, arith, nat_eq, slice_set, if◌then◌else◌, nat_tests, length-map, length-set, get_or-set_same, get_or-set_other, Slab, get, lowered, IsWellScoped, accepted_tree, IsValid, Pool, Areas, Checked, IsResting, AtStart, PastCall, RestsBehind, fact_at, IsSettled, IsSettledIf, IsSettledThread, RestsSo, Block, ThreadId, Acceptance, Core, Pick, after_action, picked, picked_at, may_run, Blocked, result_on, Thread, World, Setting, first_with, replaced, IsWellFormed, IsWellFormedIf, IsWellFormedIf-action, checked_of, code_of, core_of, local_of, IsReady, Context, Exchanging, MayResume, row_of, Waiting, wait_at, IsUntrapped, Wait, IsNumbered, threads_in, record_written, all_same, number_of, thread_of_record, threads_of, machine_of, setting_of, number_in, blocked_of, IsKept, AreAligned, is_past, wake_of, answered_context, is_ready_in, held_in, SamePlaces, Runs, MayRun, wait_of, Record, State, same_or_not}
use Rattle.rv_code.specs.declared.instructions.Instr.{Instr}
use Rattle.rv_machine.specs.Step.{instruction_at}
use Rattle.segment_laws.proofs.Facts.{CodeFacts}
use Rattle.segment_run.proofs.Behind.{code_facts, behind_call}
use Rattle.segment_run.proofs.Retiring.{reply_rests}
use Rattle.thread_core.proofs.PassLaws.{its_chunks}
use Rattle.thread_core.proofs.OutsideLaws.{untrapped_same}
use Rattle.thread_core.proofs.TellingLaws.{found_at, ready_told}

if_so : (b : Bool) → b ≡ true → (x y : Option World) → (if b then x else y) ≡ x
if_so true e x y = refl
if_so false e x y = absurd (cc)

gone_at : (w : Waiting) (place : ℕ) → place < length w.places → wait_at (record w { places = slice_set w.places place None }) place ≡ None
gone_at w place there = get_or-set_same w.places place None None there

stays_at : (w : Waiting) (place other : ℕ) → other ≢ place → wait_at (record w { places = slice_set w.places place None }) other ≡ wait_at w other
stays_at w place other apart = get_or-set_other w.places place other None None apart

module _ (accepted : Acceptance) (most : ℕ) (st : State) (kept : IsKept accepted most st) (between : st.running ≡ None) (thread : ThreadId) (r : Record) (there : get st.records thread.slot ≡ Some r) (is : r.number ≡ thread.number)
    (records : Slab Record) (exchange : Exchanging) (context : Context) (now_there : get records thread.slot ≡ Some (record r { context = context })) (others : (place : ℕ) → place ≢ thread.slot → get records place ≡ get st.records place) where
  abbrev waits : Waiting
  waits = record st.waits { places = slice_set st.waits.places thread.slot None }

  abbrev pub resumed_state : State
  resumed_state = record st { records = records; exchange = exchange; waits = waits; running = Some thread; begun = most - st.fuel.left }

  gone : wait_at waits thread.slot ≡ None
  gone = gone_at st.waits thread.slot (kept.aligned.there thread.slot r there)

  elsewhere : (place : ℕ) → place ≢ thread.slot → wait_at waits place ≡ wait_at st.waits place
  elsewhere place apart = stays_at st.waits thread.slot place apart

  found_now : first_with thread.number (threads_of st) ≡ Some (thread_of_record st.areas.pool st.waits thread.slot r)
  found_now = rw (← is) (found_at accepted most st kept thread.slot r there)

  -- the record of the thread, and all others
  both_parts : IsNumbered number_of records.slots st.next
      × (threads_in number_of (thread_of_record st.areas.pool waits) records.slots st.next ≡ replaced (record { number = r.number; core = core_of st.areas.pool context; blocked = None }) (threads_of st))
  both_parts =
      let written = record_written number_of (thread_of_record st.areas.pool st.waits) (thread_of_record st.areas.pool waits) st.records.slots records.slots st.next thread.slot r (record r { context = context })
      (λ k s. refl) (λ k s. refl) kept.numbered there now_there refl
      (record { records = λ k apart. others k apart; threads = λ k s apart e. ap (λ (o : Option Wait). let t : Thread = record { number = s.number; core = core_of st.areas.pool s.context; blocked = blocked_of o } in t) (elsewhere k apart) }) in
      (written.0, written.1 ∙ ap (λ (o : Option Wait). replaced (record { number = r.number; core = core_of st.areas.pool context; blocked = blocked_of o }) (threads_of st)) gone)

  was_there : (place : ℕ) (t : Record) → get records place ≡ Some t → (place ≡ thread.slot) ⊎ (place ≢ thread.slot) → (s : Record) × (get st.records place ≡ Some s)
  was_there place t e (inl same) = (r, rw same there)
  was_there place t e (inr apart) = (t, sym (others place apart) ∙ e)

  pub same_places : SamePlaces st resumed_state
  same_places place = by_place (same_or_not place thread.slot)
    where
      by_place : (place ≡ thread.slot) ⊎ (place ≢ thread.slot) → option_map number_of (get records place) ≡ option_map number_of (get st.records place)
      by_place (inl same) = rw (same, now_there, there) refl
      by_place (inr apart) = ap (option_map number_of) (others place apart)

  aligned_now : exchange.caps ≡ st.exchange.caps → AreAligned resumed_state
  aligned_now caps = record {
    vacant = λ place e. vacant place e (same_or_not place thread.slot);
    runs = λ place same. ap (wait_at waits) (sym same) ∙ gone;
    waits = λ place t e away. subst (λ (o : Option Wait). IsSome o) (sym (elsewhere place (λ same. away (sym same))))
        (let s = was_there place t e (same_or_not place thread.slot) in kept.aligned.waits place s.0 s.1 (subst (λ (o : Option ThreadId). Rattle.thread_core.specs.Kept.RunsAt o place → ⊥) (sym between) (λ no. no)));
    there = λ place t e. let s = was_there place t e (same_or_not place thread.slot) in let low = kept.aligned.there place s.0 s.1 in let long = length-set st.waits.places thread.slot None in omega (arith, low, long);
    named = λ place t e. let s = was_there place t e (same_or_not place thread.slot) in kept.aligned.named place s.0 s.1;
    untrapped = λ place. untrapped place (same_or_not place thread.slot);
  }
    where
      vacant : (place : ℕ) → get records place ≡ None → (place ≡ thread.slot) ⊎ (place ≢ thread.slot) → wait_at waits place ≡ None
      vacant place e (inl same) = ap (wait_at waits) same ∙ gone
      vacant place e (inr apart) = elsewhere place apart ∙ kept.aligned.vacant place (sym (others place apart) ∙ e)

      untrapped : (place : ℕ) → (place ≡ thread.slot) ⊎ (place ≢ thread.slot) → IsUntrapped exchange (wait_at waits place)
      untrapped place (inl same) = subst (IsUntrapped exchange) (sym (ap (wait_at waits) same ∙ gone)) tt
      untrapped place (inr apart) = subst (IsUntrapped exchange) (sym (elsewhere place apart)) (untrapped_same st.exchange exchange caps (wait_at st.waits place) (kept.aligned.untrapped place))

  -- what is picked, where the world is the one that a pick leads to
  pub picked_is : may_run (setting_of accepted most st) (machine_of most st) (blocked_of (wait_at st.waits thread.slot)) ≡ true → (w : World) →
      picked_at (setting_of accepted most st) (machine_of most st) (thread_of_record st.areas.pool st.waits thread.slot r) (blocked_of (wait_at st.waits thread.slot)) ≡ w →
      after_action (setting_of accepted most st) (machine_of most st) (Pick thread.number) ≡ Some w
  picked_is may w e =
      let still : is_none (number_in st.running) ≡ true = rw between refl in
      if_so (is_none (number_in st.running)) still (picked (setting_of accepted most st) (machine_of most st) (first_with thread.number (threads_of st))) None
      ∙ ap (picked (setting_of accepted most st) (machine_of most st)) found_now
      ∙ if_so (may_run (setting_of accepted most st) (machine_of most st) (blocked_of (wait_at st.waits thread.slot))) may
      (Some (picked_at (setting_of accepted most st) (machine_of most st) (thread_of_record st.areas.pool st.waits thread.slot r) (blocked_of (wait_at st.waits thread.slot)))) None
      ∙ ap Some e

  -- all is kept, where a pick leads there
  pub kept_now : exchange.caps ≡ st.exchange.caps → exchange.backlog ≡ st.exchange.backlog → after_action (setting_of accepted most st) (machine_of most st) (Pick thread.number) ≡ Some (machine_of most resumed_state) → IsKept accepted most resumed_state
  kept_now caps backlog picks = record {
    areas = kept.areas;
    numbered = both_parts.0;
    aligned = aligned_now caps;
    live = kept.live ∙ sym (ap length both_parts.1 ∙ simp length-map refl);
    fuel = kept.fuel;
    begun = omega arith;
    clock = kept.clock;
    formed = subst (λ (s : Setting). IsWellFormed (checked_of accepted) s (machine_of most resumed_state)) (λ i. record { code = accepted.image.code; fuel = most; backlog = sym backlog i; caps = sym caps i })
        (subst (IsWellFormedIf (checked_of accepted) (setting_of accepted most st)) picks (IsWellFormedIf-action (checked_of accepted) (setting_of accepted most st) (machine_of most st) (Pick thread.number) tt kept.formed));
    running = (record r { context = context }, now_there, is);
  }

  -- one that is blocked
  pub picks_blocked : (block : Block) (since : ℕ) → wait_at st.waits thread.slot ≡ Some (Wait.At block since) →
      exchange.exchange ≡ (Rattle.c_mean.specs.ModelledCalls.blocking_row st.exchange.caps st.exchange.exchange block).after →
      core_of st.areas.pool context ≡ record (core_of st.areas.pool r.context) { x = Rattle.machine_world.specs.Local.with_result (core_of st.areas.pool r.context).x (Rattle.machine_world.specs.Threads.result_on block (Rattle.c_mean.specs.ModelledCalls.blocking_row st.exchange.caps st.exchange.exchange block).result) } →
      picked_at (setting_of accepted most st) (machine_of most st) (thread_of_record st.areas.pool st.waits thread.slot r) (blocked_of (wait_at st.waits thread.slot)) ≡ machine_of most resumed_state
  picks_blocked block since waits_are exchanged core = rw waits_are (λ i. record {
    threads = (ap (λ (x : Core). replaced (record { number = r.number; core = x; blocked = None }) (threads_of st)) (sym core) ∙ sym both_parts.1) i;
    areas = st.areas;
    exchange = sym exchanged i;
    clock = st.waits.clock;
    cost = most - st.fuel.left;
    next = st.next;
    running = (let number : Some r.number ≡ Some thread.number = ap Some is in number) i;
  })

-- one that hasn't run yet
module _ (accepted : Acceptance) (most : ℕ) (st : State) (kept : IsKept accepted most st) (thread : ThreadId) (r : Record) (there : get st.records thread.slot ≡ Some r) (is : r.number ≡ thread.number) (fresh : wait_at st.waits thread.slot ≡ Some Wait.Fresh) where
  pub picks_fresh : picked_at (setting_of accepted most st) (machine_of most st) (thread_of_record st.areas.pool st.waits thread.slot r) (blocked_of (wait_at st.waits thread.slot))
      ≡ machine_of most (record st { waits = record st.waits { places = slice_set st.waits.places thread.slot None }; running = Some thread; begun = most - st.fuel.left })
  picks_fresh = rw fresh (λ i. record {
    threads = sym threads_same i;
    areas = st.areas;
    exchange = st.exchange.exchange;
    clock = st.waits.clock;
    cost = most - st.fuel.left;
    next = st.next;
    running = (let number : Some r.number ≡ Some thread.number = ap Some is in number) i;
  })
    where
      waits_now : Waiting
      waits_now = record st.waits { places = slice_set st.waits.places thread.slot None }

      blocked_same : (k : ℕ) → (k ≡ thread.slot) ⊎ (k ≢ thread.slot) → blocked_of (wait_at (record st.waits { places = slice_set st.waits.places thread.slot None }) k) ≡ blocked_of (wait_at st.waits k)
      blocked_same k (inl same) = rw (same, gone_at st.waits thread.slot (kept.aligned.there thread.slot r there), fresh) refl
      blocked_same k (inr apart) = ap blocked_of (stays_at st.waits thread.slot k apart)

      threads_same : threads_in number_of (thread_of_record st.areas.pool (record st.waits { places = slice_set st.waits.places thread.slot None })) st.records.slots st.next ≡ threads_of st
      threads_same = (all_same number_of (thread_of_record st.areas.pool st.waits) (thread_of_record st.areas.pool (record st.waits { places = slice_set st.waits.places thread.slot None })) st.records.slots st.records.slots st.next kept.numbered (λ k. refl)
          (λ k s e. ap (λ (b : Option Rattle.machine_world.specs.Threads.Blocked). let t : Thread = record { number = s.number; core = core_of st.areas.pool s.context; blocked = b } in t) (blocked_same k (same_or_not k thread.slot)))).1

-- ---- behind the ECALL

module _ (accepted : Acceptance) (scoped : IsWellScoped (accepted_tree accepted)) (valid : IsValid (lowered (accepted_tree accepted)) accepted.image accepted.certificate) where
  abbrev c : Checked
  c = checked_of accepted

  facts : CodeFacts c accepted.image.code
  facts = code_facts (accepted_tree accepted) accepted.image accepted.certificate scoped valid

  at_entry : (f pc : ℕ) → f < length c.flat.functions → pc ≡ (fact_at accepted.certificate f).entry + 4 * 0 → instruction_at accepted.image.code pc ≡ Ok Instr.Ecall → ⊥
  at_entry f pc below is e =
      let first : Instr = Instr.Addi 2 2 (pos 0 -ℤ pos (fact_at accepted.certificate f).frame) in
      let fetch : instruction_at accepted.image.code pc ≡ Ok first = ap (instruction_at accepted.image.code) is ∙ facts.prologue_fetch f 0 first below refl in
      let both : Ok first ≡ Ok Instr.Ecall = sym fetch ∙ e in cc

  -- a thread that rests as it does between segments doesn't stand at an ECALL
  pub no_ecall : (pool : Pool) (thread : Thread) (blocked : Option Blocked) (rests : IsResting c pool thread.core) → RestsSo c pool thread rests blocked → instruction_at accepted.image.code thread.core.pc ≡ Ok Instr.Ecall → ⊥
  no_ecall pool thread None (AtStart f frames in_place) so = at_entry f thread.core.pc in_place.at.0 in_place.at.2
  no_ecall pool thread (Some blocked) (PastCall f i op word place frames in_place) so = (behind_call (accepted_tree accepted) accepted.image accepted.certificate scoped valid pool thread.core f i word op place frames in_place).no_ecall
  no_ecall pool thread _ _ so = absurd so

  -- one that is blocked rests behind its ECALL
  pub rests_behind : (areas : Areas) (thread : Thread) (blocked : Blocked) (rests : IsResting c areas.pool thread.core) → RestsSo c areas.pool thread rests (Some blocked) → RestsBehind c accepted.image.code (record { areas = areas; core = thread.core })
  rests_behind areas thread blocked (PastCall f i op word place frames in_place) so = record { rests = PastCall f i op word place frames in_place; behind = tt; no_ecall = no_ecall areas.pool thread (Some blocked) (PastCall f i op word place frames in_place) so }
  rests_behind areas thread blocked _ so = absurd so

  -- one that rests behind its ECALL, or at its start, may run
  module _ (most : ℕ) (new : State) (thread : ThreadId) (kept : IsKept accepted most new) (is : new.running ≡ Some thread) (going : new.stopped ≡ None) where
    runs_new : Runs accepted most new thread
    runs_new = record { kept = kept; is = is; going = going }

    pub may_run_new : (r : Record) → get new.records thread.slot ≡ Some r → IsResting c new.areas.pool (core_of new.areas.pool r.context) → (instruction_at accepted.image.code r.context.pc ≡ Ok Instr.Ecall → ⊥) → MayRun accepted most new thread
    may_run_new r there rests behind = record {
      runs = runs_new;
      ready = λ t e. let same : r ≡ t = (let x : Some r ≡ Some t = sym there ∙ e in cc) in
          subst (λ (y : Record). IsReady c (code_of accepted) (local_of new.areas y.context)) same (record { owned = its_chunks accepted most new thread runs_new r there; rests = rests; behind = behind });
    }

-- ---- the thread that is ready

-- its record stands at its place, and what it waits for is there
pub record Stands (st : State) (thread : ThreadId) : Type 0 where
  pub r : Record
  pub there : get st.records thread.slot ≡ Some r
  pub is : r.number ≡ thread.number
  pub ready : Rattle.thread_waits.specs.Waiting.is_ready_in st.exchange.caps st.exchange.exchange st.waits.clock (wait_at st.waits thread.slot) ≡ true

pub stands : (accepted : Acceptance) (most : ℕ) (st : State) (thread : ThreadId) → IsKept accepted most st → is_ready_in (held_in accepted most st) thread ≡ true → Stands st thread
stands accepted most st thread kept ready = by_record (get st.records thread.slot) refl (sym (ready_told accepted most st kept thread) ∙ ready)
  where
    by_number : (r : Record) → get st.records thread.slot ≡ Some r → (b : Bool) → nat_eq r.number thread.number ≡ b →
        Rattle.thread_waits.specs.Waiting.is_ready_in st.exchange.caps st.exchange.exchange st.waits.clock (if b then wait_at st.waits thread.slot else None) ≡ true → Stands st thread
    by_number r e true same ok = record { r = r; there = e; is = grind (arith, nat_tests, same); ready = ok }
    by_number r e false same ok = absurd (cc)

    by_record : (o : Option Record) → get st.records thread.slot ≡ o → Rattle.thread_waits.specs.Waiting.is_ready_in st.exchange.caps st.exchange.exchange st.waits.clock (wait_of st thread o) ≡ true → Stands st thread
    by_record None e ok = absurd (cc)
    by_record (Some r) e ok = by_number r e (nat_eq r.number thread.number) refl ok

-- somebody waits there
pub no_wait : (st : State) (thread : ThreadId) → Stands st thread → wait_at st.waits thread.slot ≡ None → ⊥
no_wait st thread h e = let f : false ≡ true = rw e at h.ready in cc

waited : (now : Bool) (clock since : ℕ) (wait : Option ℕ) → (now || is_past clock (wake_of since wait)) ≡ true → (now || is_some wait) ≡ true
waited false clock since None e = e
waited _ clock since _ e = refl

may_of : (setting : Setting) (w : World) (wait : Option Wait) → Rattle.thread_waits.specs.Waiting.is_ready_in setting.caps w.exchange w.clock wait ≡ true → may_run setting w (blocked_of wait) ≡ true
may_of setting w None e = absurd (cc)
may_of setting w (Some Wait.Fresh) e = refl
may_of setting w (Some (Wait.At block since)) e = e

answered_core : (pool : Pool) (context : Context) (o : Option ℕ) → core_of pool (answered_context context o) ≡ record (core_of pool context) { x = Rattle.machine_world.specs.Local.with_result (core_of pool context).x o }
answered_core pool context None = refl
answered_core pool context (Some value) = refl

-- what came of it
pub record Resumed (accepted : Acceptance) (most : ℕ) (st : State) (thread : ThreadId) (new : State) : Type 0 where
  pub picks : after_action (setting_of accepted most st) (machine_of most st) (Pick thread.number) ≡ Some (machine_of most new)
  pub may : MayRun accepted most new thread
  pub begun : new.begun ≡ most - st.fuel.left
  pub fuel : new.fuel ≡ st.fuel
  pub caps : new.exchange.caps ≡ st.exchange.caps
  pub backlog : new.exchange.backlog ≡ st.exchange.backlog
  pub areas : new.areas ≡ st.areas
  pub same : SamePlaces st new

module _ (accepted : Acceptance) (most : ℕ) (st : State) (thread : ThreadId) (scoped : IsWellScoped (accepted_tree accepted)) (valid : IsValid (lowered (accepted_tree accepted)) accepted.image accepted.certificate)
    (kept : IsKept accepted most st) (between : st.running ≡ None) (going : st.stopped ≡ None) (settled : IsSettled (checked_of accepted) (machine_of most st)) (h : Stands st thread) where
  may_be : may_run (setting_of accepted most st) (machine_of most st) (blocked_of (wait_at st.waits thread.slot)) ≡ true
  may_be = may_of (setting_of accepted most st) (machine_of most st) (wait_at st.waits thread.slot) h.ready

  abbrev its_thread : Thread
  its_thread = thread_of_record st.areas.pool st.waits thread.slot h.r

  at_rest : IsSettledThread (checked_of accepted) st.areas.pool its_thread
  at_rest =
      let found : first_with thread.number (threads_of st) ≡ Some its_thread = rw (← h.is) (found_at accepted most st kept thread.slot h.r h.there) in
      subst (λ (o : Option Thread). IsSettledIf (checked_of accepted) st.areas.pool o) found (settled.threads thread.number)

  pub may_resume : (block : Block) (since : ℕ) → wait_at st.waits thread.slot ≡ Some (Wait.At block since) → MayResume st.exchange block
  may_resume block since e = record {
    untrapped = (subst (IsUntrapped st.exchange) e (kept.aligned.untrapped thread.slot)).0;
    ready = waited (row_of st.exchange block).ready st.waits.clock since (row_of st.exchange block).wait (rw e at h.ready);
  }

  pub resumed_fresh : wait_at st.waits thread.slot ≡ Some Wait.Fresh → (new : State) → new ≡ record st { waits = record st.waits { places = slice_set st.waits.places thread.slot None }; running = Some thread; begun = most - st.fuel.left } → Resumed accepted most st thread new
  resumed_fresh fresh new e = subst (Resumed accepted most st thread) (sym e) (record {
    picks = picks;
    may = may_run_new accepted scoped valid most now thread (kept_now accepted most st kept between thread h.r h.there h.is st.records st.exchange h.r.context h.there (λ place apart. refl) refl refl picks) refl going h.r h.there at_rest.0
        (no_ecall accepted scoped valid st.areas.pool its_thread its_thread.blocked at_rest.0 at_rest.1);
    begun = refl;
    fuel = refl;
    caps = refl;
    backlog = refl;
    areas = refl;
    same = λ place. refl;
  })
    where
      now : State
      now = record st { waits = record st.waits { places = slice_set st.waits.places thread.slot None }; running = Some thread; begun = most - st.fuel.left }

      picks : after_action (setting_of accepted most st) (machine_of most st) (Pick thread.number) ≡ Some (machine_of most (record st { waits = record st.waits { places = slice_set st.waits.places thread.slot None }; running = Some thread; begun = most - st.fuel.left }))
      picks = picked_is accepted most st kept between thread h.r h.there h.is st.records st.exchange h.r.context h.there (λ place apart. refl) may_be
          (machine_of most (record st { waits = record st.waits { places = slice_set st.waits.places thread.slot None }; running = Some thread; begun = most - st.fuel.left })) (picks_fresh accepted most st kept thread h.r h.there h.is fresh)

  module _ (block : Block) (since : ℕ) (waits_are : wait_at st.waits thread.slot ≡ Some (Wait.At block since)) (records : Slab Record) (exchange : Exchanging) where
    abbrev answer : Option ℕ
    answer = result_on block (row_of st.exchange block).result

    abbrev context : Context
    context = answered_context h.r.context answer

    behind_old : RestsBehind (checked_of accepted) accepted.image.code (record { areas = st.areas; core = its_thread.core })
    behind_old = rests_behind accepted scoped valid st.areas its_thread (record { block = block; since = since }) at_rest.0
        (subst (λ (o : Option Blocked). RestsSo (checked_of accepted) st.areas.pool its_thread at_rest.0 o) (ap blocked_of waits_are) at_rest.1)

    behind_new : (o : Option ℕ) → RestsBehind (checked_of accepted) accepted.image.code (record { areas = st.areas; core = core_of st.areas.pool (answered_context h.r.context o) })
    behind_new None = behind_old
    behind_new (Some value) = reply_rests (checked_of accepted) accepted.image.code st.areas (core_of st.areas.pool h.r.context) value behind_old

    pc_same : (o : Option ℕ) → (answered_context h.r.context o).pc ≡ (core_of st.areas.pool (answered_context h.r.context o)).pc
    pc_same None = refl
    pc_same (Some value) = refl

    module _ (now_there : get records thread.slot ≡ Some (record h.r { context = context })) (others : (place : ℕ) → place ≢ thread.slot → get records place ≡ get st.records place)
        (exchanged : exchange ≡ record st.exchange { exchange = (row_of st.exchange block).after }) where
      abbrev now_resumed : State
      now_resumed = resumed_state accepted most st kept between thread h.r h.there h.is records exchange context now_there others

      picks_now : after_action (setting_of accepted most st) (machine_of most st) (Pick thread.number) ≡ Some (machine_of most now_resumed)
      picks_now = picked_is accepted most st kept between thread h.r h.there h.is records exchange context now_there others may_be (machine_of most now_resumed)
          (picks_blocked accepted most st kept between thread h.r h.there h.is records exchange context now_there others block since waits_are (ap (λ (x : Exchanging). x.exchange) exchanged) (answered_core st.areas.pool h.r.context answer))

      caps_same : exchange.caps ≡ st.exchange.caps
      caps_same = ap (λ (x : Exchanging). x.caps) exchanged

      backlog_same : exchange.backlog ≡ st.exchange.backlog
      backlog_same = ap (λ (x : Exchanging). x.backlog) exchanged

      pub resumed_blocked : (new : State) → new ≡ now_resumed → Resumed accepted most st thread new
      resumed_blocked new e = subst (Resumed accepted most st thread) (sym e) (record {
        picks = picks_now;
        may = may_run_new accepted scoped valid most now_resumed thread (kept_now accepted most st kept between thread h.r h.there h.is records exchange context now_there others caps_same backlog_same picks_now) refl going
            (record h.r { context = context }) now_there (behind_new answer).rests (λ f. (behind_new answer).no_ecall (ap (instruction_at accepted.image.code) (sym (pc_same answer)) ∙ f));
        begun = refl;
        fuel = refl;
        caps = caps_same;
        backlog = backlog_same;
        areas = refl;
        same = same_places accepted most st kept between thread h.r h.there h.is records exchange context now_there others;
      })
