-- What a state is where a thread has started: its machine world is that after the step, and it keeps what every state keeps.
use Rattle.thread_core.proofs.Common.{◌≡◌, ◌≢◌, ℕ, ◌+◌, ◌-◌, ◌^◌, ◌<◌, ◌≤◌, ◌⊎◌, inl, inr, List, [], ◌∷◌, ◌++◌, length, Option, Some, None, refl, sym, ap, ◌∙◌, subst, arith, ⊎_elim, IsSome, option_map, cases_eq, length-map, length-append, Slab, get, lowered, Ask, ThreadId, Acceptance, accepted_tree, IsValid, Pool, Op, formed, program_zeroes, Areas, with_header, size_in, IsResting, AtCall, fact_at, Thread, World, Setting, Move, thread_of, resumed, replaced, start_core, most_threads, IsWellFormed, CodeFacts-valid, CodeFacts, checked_of, code_of, local_of, core_of, chain_from, AreOf, IsReady, RestsBefore, RestsBehind, IsAtAsk, Context, Fuel, IsOwned-owns, replaced_joined, IsNumbered, KeepsRecords, threads_in, thread_found, record_added, record_written, Waiting, wait_at, IsUntrapped, Wait, has_form, IsKept, RunsAt, IsRunningThere, passed_context, number_of, thread_of_record, threads_of, blocked_of, machine_of, setting_of, number_in, Runs, LocalIs, Told, TellsIf, held_in, Record, State, Turn, count-same}
use Rattle.cap_word.specs.Word as word
use Rattle.segment_laws.proofs.Registers.{add-small}
use Rattle.segment_laws.specs.Kept.{KeepsChunks}
use Rattle.segment_laws.proofs.SameRest.{rests_law}
use Rattle.machine_meaning.proofs.Fresh.{kept_starting}
use Rattle.thread_core.proofs.OtherChains.{chain_stays}
use Rattle.thread_core.proofs.Spawning as spawning
use Rattle.thread_core.proofs.Spawning.{Takes}
use Rattle.thread_core.proofs.TellingLaws.{number_at}

module _ (accepted : Acceptance) (most : ℕ) (st : State) (thread : ThreadId) (runs : Runs accepted most st thread) (left : 0 < st.fuel.left) (function argument : ℕ)
    (at : LocalIs st thread (λ l. IsAtAsk (checked_of accepted) (code_of accepted) l (Ask.Spawn function argument))) (valid : IsValid (lowered (accepted_tree accepted)) accepted.image accepted.certificate)
    (few : st.live < most_threads) (tk : Takes accepted most st thread runs left function argument at valid) where
  abbrev pub there : (r : Record) × (get st.records thread.slot ≡ Some r) × (r.number ≡ thread.number)
  there = spawning.there accepted most st thread runs left function argument at valid

  abbrev pub r : Record
  r = there.0

  abbrev pub pool : Pool
  pool = with_header tk.taken.pool tk.taken.chunk 0 0

  abbrev pub areas : Areas
  areas = record st.areas { pool = pool }

  abbrev t : Thread
  t = thread_of_record st.areas.pool st.waits thread.slot r

  abbrev s : Setting
  s = setting_of accepted most st

  -- ---- the chains of all threads stay

  pub found_at : (k : ℕ) (x : Record) → get st.records k ≡ Some x → thread_of (machine_of most st) x.number ≡ Some (thread_of_record st.areas.pool st.waits k x)
  found_at k x e = thread_found number_of (thread_of_record st.areas.pool st.waits) st.records.slots st.next k x (λ k x. refl) runs.kept.numbered e

  chunks_kept : (k : ℕ) (x : Record) → get st.records k ≡ Some x → KeepsChunks st.areas.pool pool (chain_from st.areas.pool x.context.chunk x.context.depth)
  chunks_kept k x e = kept_starting (checked_of accepted) s (machine_of most st) x.number _ tk.taken (thread_of_record st.areas.pool st.waits k x) runs.kept.formed tk.is (found_at k x e)

  chain_kept : (k : ℕ) (x : Record) → get st.records k ≡ Some x → chain_from pool x.context.chunk x.context.depth ≡ chain_from st.areas.pool x.context.chunk x.context.depth
  chain_kept k x e = let kept = chunks_kept k x e in chain_stays st.areas.pool pool x.context.chunk x.context.depth kept.shape kept.words

  -- ---- the thread that spawns rests there still

  facts : CodeFacts (checked_of accepted) (code_of accepted)
  facts = CodeFacts-valid (lowered (accepted_tree accepted)) accepted.image accepted.certificate (formed (accepted_tree accepted) accepted.image accepted.certificate accepted.program.well_scoped valid)
      (program_zeroes (accepted_tree accepted) accepted.program.well_scoped) valid

  pub pc_small : r.context.pc < 2 ^ 32 - 4
  pc_small =
      let spawn = spawning.spawn accepted most st thread runs left function argument at valid in
      let stands = spawn.rests.at.frames_are.at in
      let op : Op = Op.Spawn spawn.site spawn.place function spawn.variable in
      let room = (facts.operation spawn.rests.function spawn.rests.operation op stands.0 spawn.rests.at.operation).room in
      let within = subst (λ (o : Option Op). spawn.rests.word < size_in (checked_of accepted) spawn.rests.function o) spawn.rests.at.operation stands.1 in
      let is = stands.2 in
      omega (arith, room, within, is)

  pub rests_before : RestsBefore (checked_of accepted) (local_of st.areas r.context)
  rests_before =
      let rests = (spawning.spawn accepted most st thread runs left function argument at valid).rests in
      record { rests = AtCall rests.function rests.operation _ rests.word rests.frames rests.at; before = tt }

  -- ---- with the parts of the new state

  abbrev passed_now : Context
  passed_now = passed_context r.context (Some st.next)

  abbrev next_record : Record
  next_record = record r { context = passed_now }

  module _ (context : Context) (core_is : core_of pool context ≡ start_core tk.taken (fact_at accepted.certificate function).entry argument) (areas_of : AreOf accepted areas)
      (place : ℕ) (vacant : get st.records place ≡ None) (named : place < 2 ^ 32)
      (between : Slab Record) (added : get between place ≡ Some (record { number = st.next; context = context })) (others : (k : ℕ) → k ≢ place → get between k ≡ get st.records k)
      (waits : Waiting) (fresh : wait_at waits place ≡ Some Wait.Fresh) (waits_kept : (k : ℕ) → k ≢ place → wait_at waits k ≡ wait_at st.waits k) (longer : length st.waits.places ≤ length waits.places) (place_there : place < length waits.places)
      (clock : waits.clock ≡ st.waits.clock + 1)
      (records : Slab Record) (written : get records thread.slot ≡ Some next_record) (written_others : (k : ℕ) → k ≢ thread.slot → get records k ≡ get between k)
      (fuel : Fuel) (one_less : fuel.left + 1 ≡ st.fuel.left) (rests : RestsBehind (checked_of accepted) (code_of accepted) (local_of st.areas passed_now)) where
    abbrev pub new : State
    new = record st { areas = areas; waits = waits; records = records; fuel = fuel; live = st.live + 1; next = st.next + 1 }

    abbrev new_record : Record
    new_record = record { number = st.next; context = context }

    apart : thread.slot ≢ place
    apart e = let both : Some r ≡ None = sym there.1 ∙ ap (get st.records) e ∙ vacant in cc

    between_slot : get between thread.slot ≡ Some r
    between_slot = others thread.slot apart ∙ there.1

    new_there : get records place ≡ Some new_record
    new_there = written_others place (λ e. apart (sym e)) ∙ added

    old_there : (k : ℕ) → k ≢ place → k ≢ thread.slot → get records k ≡ get st.records k
    old_there k one two = written_others k two ∙ others k one

    -- ---- the threads

    abbrev thread_in : ℕ → Record → Thread
    thread_in = thread_of_record pool waits

    keeps : KeepsRecords (thread_of_record st.areas.pool st.waits) thread_in st.records.slots between.slots place
    keeps = record {
      records = others;
      threads = λ k x one e. λ i. record { number = x.number; core = record { pc = x.context.pc; x = x.context.x; chain = chain_kept k x e i }; blocked = blocked_of (waits_kept k one i) };
    }

    joined : IsNumbered number_of between.slots (st.next + 1) × (threads_in number_of thread_in between.slots (st.next + 1) ≡ threads_of st ++ thread_in place new_record ∷ [])
    joined = record_added number_of (thread_of_record st.areas.pool st.waits) thread_in st.records.slots between.slots st.next place new_record runs.kept.numbered vacant added refl keeps

    passes : IsNumbered number_of records.slots (st.next + 1) × (threads_in number_of thread_in records.slots (st.next + 1) ≡ replaced (thread_in thread.slot next_record) (threads_in number_of thread_in between.slots (st.next + 1)))
    passes = record_written number_of thread_in thread_in between.slots records.slots (st.next + 1) thread.slot r next_record (λ k x. refl) (λ k x. refl) joined.0 between_slot written refl
        (record { records = written_others; threads = λ k x one e. refl })

    runs_here : RunsAt st.running thread.slot
    runs_here = subst (λ (o : Option ThreadId). RunsAt o thread.slot) (sym runs.is) refl

    slot_free : wait_at waits thread.slot ≡ None
    slot_free = waits_kept thread.slot apart ∙ runs.kept.aligned.runs thread.slot runs_here

    next_pc : r.context.pc + 4 ≡ word.add r.context.pc 4
    next_pc = sym (add-small r.context.pc 4 (let small = pc_small in omega (arith, small)))

    passed_is : thread_in thread.slot next_record ≡ resumed t (Some st.next)
    passed_is = λ i. record { number = r.number; core = record { pc = next_pc i; x = passed_now.x; chain = chain_kept thread.slot r there.1 i }; blocked = blocked_of (slot_free i) }

    abbrev started : Thread
    started = record { number = st.next; core = start_core tk.taken (fact_at accepted.certificate function).entry argument; blocked = None }

    started_is : thread_in place new_record ≡ started
    started_is = λ i. record { number = st.next; core = core_is i; blocked = blocked_of (fresh i) }

    below : r.number < st.next
    below = runs.kept.numbered.below thread.slot r there.1

    threads_are : threads_of new ≡ replaced (resumed t (Some st.next)) (threads_of st) ++ started ∷ []
    threads_are =
        passes.1
        ∙ ap (λ (a : Thread). replaced a (threads_in number_of thread_in between.slots (st.next + 1))) passed_is
        ∙ ap (replaced (resumed t (Some st.next))) (joined.1 ∙ ap (λ (n : Thread). threads_of st ++ n ∷ []) started_is)
        ∙ replaced_joined (resumed t (Some st.next)) started (threads_of st) (λ e. let less = below in omega (arith, less, e))

    cost_is : most - fuel.left ≡ most - st.fuel.left + 1
    cost_is = let within = runs.kept.fuel in omega (arith, one_less, within)

    pub machine_is : machine_of most new ≡ spawning.after accepted most st thread runs left function argument at valid tk.taken
    machine_is = λ i. record { threads = threads_are i; areas = areas; exchange = st.exchange.exchange; clock = clock i; cost = cost_is i; next = st.next + 1; running = number_in st.running }

    -- ---- what is kept

    abbrev is_new : ℕ → Type 0
    is_new k = (k ≡ place) ⊎ ((k ≡ thread.slot) ⊎ ((k ≢ place) × (k ≢ thread.slot)))

    which : (k : ℕ) → is_new k
    which k = ⊎_elim
        (λ (e : k ≡ place). let at_place : is_new k = inl e in at_place)
        (λ one. ⊎_elim (λ (e : k ≡ thread.slot). let at_slot : is_new k = inr (inl e) in at_slot) (λ two. let other : is_new k = inr (inr (one, two)) in other) (cases_eq k thread.slot))
        (cases_eq k place)

    vacant_by : (k : ℕ) → is_new k → get records k ≡ None → wait_at waits k ≡ None
    vacant_by k (inl e) none = let both : Some new_record ≡ None = sym new_there ∙ ap (get records) (sym e) ∙ none in absurd (cc)
    vacant_by k (inr (inl e)) none = let both : Some next_record ≡ None = sym written ∙ ap (get records) (sym e) ∙ none in absurd (cc)
    vacant_by k (inr (inr apart_both)) none = waits_kept k apart_both.0 ∙ runs.kept.aligned.vacant k (sym (old_there k apart_both.0 apart_both.1) ∙ none)

    slot_of : (k : ℕ) → RunsAt st.running k → thread.slot ≡ k
    slot_of k running = subst (λ (o : Option ThreadId). RunsAt o k) runs.is running

    runs_by : (k : ℕ) → RunsAt st.running k → wait_at waits k ≡ None
    runs_by k running = ap (wait_at waits) (sym (slot_of k running)) ∙ slot_free

    waits_by : (k : ℕ) → is_new k → (x : Record) → get records k ≡ Some x → (RunsAt st.running k → ⊥) → IsSome (wait_at waits k)
    waits_by k (inl e) x here idle = subst (λ (o : Option Wait). IsSome o) (sym (ap (wait_at waits) e ∙ fresh)) refl
    waits_by k (inr (inl e)) x here idle = absurd (idle (subst (RunsAt st.running) (sym e) runs_here))
    waits_by k (inr (inr one)) x here idle = subst (λ (o : Option Wait). IsSome o) (sym (waits_kept k one.0)) (runs.kept.aligned.waits k x (sym (old_there k one.0 one.1) ∙ here) idle)

    there_by : (k : ℕ) → is_new k → (x : Record) → get records k ≡ Some x → k < length waits.places
    there_by k (inl e) x here = (let h = place_there in omega (arith, h, e))
    there_by k (inr (inl e)) x here = (let h = runs.kept.aligned.there thread.slot r there.1 in omega (arith, h, e, longer))
    there_by k (inr (inr one)) x here = (let h = runs.kept.aligned.there k x (sym (old_there k one.0 one.1) ∙ here) in omega (arith, h, longer))

    named_by : (k : ℕ) → is_new k → (x : Record) → get records k ≡ Some x → k < 2 ^ 32
    named_by k (inl e) x here = subst (λ (n : ℕ). n < 2 ^ 32) (sym e) named
    named_by k (inr (inl e)) x here = subst (λ (n : ℕ). n < 2 ^ 32) (sym e) (runs.kept.aligned.named thread.slot r there.1)
    named_by k (inr (inr one)) x here = runs.kept.aligned.named k x (sym (old_there k one.0 one.1) ∙ here)

    untrapped_by : (k : ℕ) → (k ≡ place) ⊎ (k ≢ place) → IsUntrapped st.exchange (wait_at waits k)
    untrapped_by k (inl e) = subst (λ (o : Option Wait). IsUntrapped st.exchange o) (sym (ap (wait_at waits) e ∙ fresh)) tt
    untrapped_by k (inr one) = subst (λ (o : Option Wait). IsUntrapped st.exchange o) (sym (waits_kept k one)) (runs.kept.aligned.untrapped k)

    after_formed : IsWellFormed (checked_of accepted) s (machine_of most new)
    after_formed = subst (λ (v : World). IsWellFormed (checked_of accepted) s v) (sym machine_is) (spawning.after_formed accepted most st thread runs left function argument at valid few tk)

    running_there : IsRunningThere new st.running
    running_there = subst (IsRunningThere new) (sym runs.is) (next_record, written, there.2)

    live_is : st.live + 1 ≡ length (threads_of new)
    live_is =
        let count = ap length threads_are in
        let more = length-append (replaced (resumed t (Some st.next)) (threads_of st)) (started ∷ []) in
        let same : length (replaced (resumed t (Some st.next)) (threads_of st)) ≡ length (threads_of st) = length-map (threads_of st) _ in
        let live = runs.kept.live in
        omega (arith, count, more, same, live)

    pub kept_new : IsKept accepted most new
    kept_new = record {
      areas = areas_of;
      numbered = passes.0;
      aligned = record {
        vacant = λ k e. vacant_by k (which k) e;
        runs = runs_by;
        waits = λ k x e idle. waits_by k (which k) x e idle;
        there = λ k x e. there_by k (which k) x e;
        named = λ k x e. named_by k (which k) x e;
        untrapped = λ k. untrapped_by k (cases_eq k place);
      };
      live = live_is;
      fuel = let within = runs.kept.fuel in omega (arith, one_less, within);
      begun = let begun = runs.kept.begun in let within = runs.kept.fuel in omega (arith, begun, one_less, within);
      clock = let before = runs.kept.clock in let within = runs.kept.fuel in omega (arith, before, one_less, within, clock);
      formed = after_formed;
      running = running_there;
    }

    places_by : (other : ThreadId) → is_new other.slot → option_map number_of (get st.records other.slot) ≡ Some other.number → option_map number_of (get records other.slot) ≡ Some other.number
    places_by other (inl e) is = let both : None ≡ Some other.number = sym (ap (λ (k : ℕ). option_map number_of (get st.records k)) e ∙ ap (option_map number_of) vacant) ∙ is in absurd (cc)
    places_by other (inr (inl e)) is =
        ap (λ (k : ℕ). option_map number_of (get records k)) e ∙ ap (option_map number_of) written
        ∙ sym (ap (λ (k : ℕ). option_map number_of (get st.records k)) e ∙ ap (option_map number_of) there.1) ∙ is
    places_by other (inr (inr one)) is = ap (option_map number_of) (old_there other.slot one.0 one.1) ∙ is

    new_found : thread_of (machine_of most new) r.number ≡ Some (thread_in thread.slot next_record)
    new_found = thread_found number_of thread_in records.slots (st.next + 1) thread.slot next_record (λ k x. refl) passes.0 written

    ready_now : IsReady (checked_of accepted) (code_of accepted) (local_of areas passed_now)
    ready_now =
        let form = has_form (checked_of accepted) s (machine_of most new) r.number (thread_in thread.slot next_record) after_formed new_found in
        let on = rests_law (checked_of accepted) st.areas.pool pool (core_of st.areas.pool passed_now) rests.rests (chunks_kept thread.slot r there.1) in
        record {
          owned = IsOwned-owns (local_of areas passed_now) form.owns;
          rests = subst (λ (chain : List ℕ). IsResting (checked_of accepted) pool (record { pc = passed_now.pc; x = passed_now.x; chain = chain })) (sym (chain_kept thread.slot r there.1)) on.rests;
          behind = rests.no_ecall;
        }

    ready_new : LocalIs new thread (IsReady (checked_of accepted) (code_of accepted))
    ready_new = λ x e. (let both : Some next_record ≡ Some x = sym written ∙ e in let same : next_record ≡ x = cc in
        subst (λ (y : Record). IsReady (checked_of accepted) (code_of accepted) (local_of areas y.context)) same ready_now)

    pub told_new : Told accepted most thread st (Some (Turn.Spawned (record { slot = place; number = st.next }))) new
    told_new = record {
      kept = kept_new;
      rest = record {
        caps = refl;
        backlog = refl;
        chunks = count-same st.areas.pool pool (chunks_kept thread.slot r there.1).shape;
        begun = refl;
      };
      places = λ other is alive. number_at new other.slot ∙ places_by other (which other.slot) (sym (number_at st other.slot) ∙ is);
      tells = subst (λ (m : Move). TellsIf m (Some (Turn.Spawned (record { slot = place; number = st.next }))) thread.number (machine_of most st) (held_in accepted most new))
          (sym (spawning.starts_one accepted most st thread runs left function argument at valid few tk))
          (refl, number_at new place ∙ ap (option_map number_of) new_there, machine_is, runs.going);
      goes = record { runs = record { kept = kept_new; is = runs.is; going = runs.going }; ready = ready_new };
    }
