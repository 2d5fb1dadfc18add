-- The world with its first thread.
use Rattle.thread_core.proofs.Common.{◌≡◌, ◌≢◌, ℕ, zero, suc, ◌+◌, ◌-◌, ◌*◌, ◌/◌, ◌%◌, ◌<◌, ◌≤◌, ◌^◌, ◌⊎◌, inl, inr, List, [], ◌∷◌, length, map, slice_set, Option, Some, None, option_map, IsSome, refl, sym, ◌∙◌, ap, subst, arith, slice_index_or, cases_eq, get, Updates, ThreadId, lowered, lowered_function, ProgramTree, IsWellScoped, Acceptance, accepted_tree, IsValid, Pool, Taken, IsPool, FitsNone, start_pool, taken_for, Areas, Core, with_header, start_world, started_on, empty_world, StandsForWorld, World, start_core, with_thread, AreWords, AreWellFormed, IsWellFormed, IsWellFormedIf, IsWellFormedIf-start, AreOf, checked_of, core_of, IsStarted, Context, NeedsFit-valid, fact_at, Certificate, Image, Exchanging, wait_at, Waiting, IsUntrapped, Wait, at_place, IsNumbered, record_added, StandsSettled, AreAligned, IsKept, HasCome, RunsAt, IsRunningThere, IsPolicy, start_areas, number_of, numbers_of, number_in, blocked_of, threads_of, machine_of, setting_of, thread_of_record, Record, State, first_bytes-start, taken_for-count, taken_for-none, taken_for-start}
use Rattle.c_mean.specs.World as source
use Rattle.segment_run.proofs.Forming.{areas_formed}
use Rattle.machine_meaning.proofs.BetweenSegments.{starts_law}
use Rattle.thread_core.specs.FirstParts.{AreParts}
use Rattle.thread_core.specs.declared.making.Parts.{Parts}
use Rattle.thread_core.specs.declared.policy.WorldPolicy.{WorldPolicy}
use Rattle.machine_world.proofs.CountedLaws.{all_free-new}

pub chunk_fours : (chunk : ℕ) → chunk % 16 ≡ 0 → 4 * (chunk / 4) ≡ chunk
chunk_fours chunk h = omega (arith, h)

abbrev pub areas_of : Image → Pool → Areas
areas_of image pool = record { pool = pool; globals = image.globals; tables = image.tables }

pub pool_is : (accepted : Acceptance) (policy : WorldPolicy) (certificate : Certificate) (pool : Pool) → certificate ≡ accepted.certificate → pool ≡ start_pool policy.chunks (certificate.chunk / 4) policy.extra (policy.extra_bytes / 4) → pool ≡ (start_areas accepted policy).pool
pool_is accepted policy certificate pool is started = started ∙ ap (λ (c : Certificate). start_pool policy.chunks (c.chunk / 4) policy.extra (policy.extra_bytes / 4)) is

pub areas_are : (accepted : Acceptance) (policy : WorldPolicy) (image : Image) (certificate : Certificate) (pool : Pool) → image ≡ accepted.image → certificate ≡ accepted.certificate → pool ≡ start_pool policy.chunks (certificate.chunk / 4) policy.extra (policy.extra_bytes / 4) →
    areas_of image pool ≡ start_areas accepted policy
areas_are accepted policy image certificate pool image_is is started =
    let same = pool_is accepted policy certificate pool is started in
    (λ j. record { pool = same j; globals = (image_is j).globals; tables = (image_is j).tables })

-- the areas in which a run starts have the form that the certificate says
pub areas_start : (accepted : Acceptance) (policy : WorldPolicy) → IsValid (lowered (accepted_tree accepted)) accepted.image accepted.certificate → IsPool (start_areas accepted policy).pool → AreWords (start_areas accepted policy).globals → accepted.certificate.chunk % 16 ≡ 0 →
    AreWellFormed (checked_of accepted) (start_areas accepted policy)
areas_start accepted policy valid pool words aligned =
    areas_formed (lowered (accepted_tree accepted)) accepted.image accepted.certificate (start_areas accepted policy) valid pool words
    (first_bytes-start policy.chunks (accepted.certificate.chunk / 4) policy.extra (policy.extra_bytes / 4) ∙ chunk_fours accepted.certificate.chunk aligned) refl refl

-- the machine world with the first thread is the started one, where it is that on each chunk that may be taken
started_is : (A : Areas) (entry : ℕ) (context : Context) (after : Areas) (w : World) (found : Option Taken) → IsStarted found entry 0 (Some context) A after →
    ((taken : Taken) → core_of after.pool context ≡ start_core taken entry 0 → after ≡ record A { pool = with_header taken.pool taken.chunk 0 0 } → with_thread (empty_world A) taken entry 0 ≡ w) →
    started_on (empty_world A) entry found ≡ Some w
started_is A entry context after w None h k = absurd h
started_is A entry context after w (Some taken) h k = ap Some (k taken h.0 h.1)

started_count : (A : Areas) (entry need : ℕ) (context : Context) (after : Areas) (found : Option Taken) → taken_for A.pool need ≡ found → IsStarted found entry 0 (Some context) A after → after.pool.count ≡ A.pool.count
started_count A entry need context after None e h = absurd h
started_count A entry need context after (Some taken) e h = ap (λ (a : Areas). a.pool.count) h.1 ∙ taken_for-count A.pool need taken e

-- the number of the record at a place
numbers_at : (slots : List (Option Record)) (place : ℕ) → slice_index_or (map (option_map number_of) slots) place None ≡ option_map number_of (slice_index_or slots place None)
numbers_at (x ∷ slots) (suc place) = numbers_at slots place
numbers_at _ _ = refl

-- what came of it
pub record IsMade (accepted : Acceptance) (policy : WorldPolicy) (fuel : ℕ) (st : State) : Type 0 where
  pub chunks : policy.chunks + policy.extra ≡ st.areas.pool.count
  pub kept : IsKept accepted fuel st
  pub settled : HasCome accepted fuel st st.running
  pub machine : start_world (start_areas accepted policy) (fact_at accepted.certificate (accepted_tree accepted).main).entry
      (fact_at accepted.certificate (accepted_tree accepted).main).bound ≡ Some (machine_of fuel st)
  pub stands : StandsForWorld (checked_of accepted) (accepted_tree accepted) (machine_of fuel st) (source.start_world (accepted_tree accepted))
  pub main : slice_index_or (numbers_of st) 0 None ≡ Some 0
  pub caps : st.exchange.caps ≡ policy.caps
  pub backlog : st.exchange.backlog ≡ policy.backlog

main_there : (accepted : Acceptance) → IsWellScoped (accepted_tree accepted) → (accepted_tree accepted).main < length (lowered (accepted_tree accepted)).functions
main_there accepted scoped = let main = scoped.main_defined in omega (arith, main, Rattle.std.proofs.lemmas.List.length-map (accepted_tree accepted).functions lowered_function)

module _ (accepted : Acceptance) (scoped : IsWellScoped (accepted_tree accepted)) (valid : IsValid (lowered (accepted_tree accepted)) accepted.image accepted.certificate) where
  abbrev program : ProgramTree
  program = accepted_tree accepted

  there : program.main < length (lowered program).functions
  there = main_there accepted scoped

  -- the number of main is that of a fact
  pub main_fact : (main : ℕ) → main ≡ program.main → main < length accepted.certificate.functions
  main_fact main is = let count = (((valid.holds 1 0 3).v1 refl).functions refl).0 in omega (arith, count, is, there)

  entry_below : (fact_at accepted.certificate program.main).entry < 2 ^ 32
  entry_below =
      let inside = (((valid.holds 2 program.main 1).v2 refl).inside refl there).2 in
      let few = (((valid.holds 1 0 2).v1 refl).words refl).1 in
      omega (arith, inside, few)

  bound_fits : (fact_at accepted.certificate program.main).bound + 16 ≤ accepted.certificate.chunk
  bound_fits = (NeedsFit-valid (lowered program) accepted.image accepted.certificate (Rattle.machine_meaning.proofs.Formed.formed program accepted.image accepted.certificate scoped valid) valid).bound program.main there

  -- a chunk is there for main
  pub main_fits : (policy : WorldPolicy) (parts : Parts) → AreParts accepted policy parts → (main : ℕ) → main ≡ program.main → FitsNone parts.areas.pool (fact_at accepted.certificate main).bound → ⊥
  main_fits policy parts are main main_is none =
      let bound : ℕ = (fact_at accepted.certificate program.main).bound in
      let pool : Pool = (start_areas accepted policy).pool in
      let sound : IsPool pool = subst (λ (a : Areas). IsPool a.pool) are.areas are.formed.pool in
      let none_there : FitsNone pool bound = subst (λ (a : Areas). FitsNone a.pool bound) are.areas (subst (λ (f : ℕ). FitsNone parts.areas.pool (fact_at accepted.certificate f).bound) main_is none) in
      let fours = chunk_fours accepted.certificate.chunk (((valid.holds 1 0 1).v1 refl).chunk refl).0 in
      let taken = taken_for-start policy.chunks (accepted.certificate.chunk / 4) policy.extra (policy.extra_bytes / 4) bound sound (omega (arith, fours, bound_fits)) in
      let both : None ≡ Some taken.0 = sym ((taken_for-none pool bound sound).1 none_there) ∙ taken.1 in
      absurd (cc)

  module _ (policy : WorldPolicy) (fuel : ℕ) (parts : Parts) (is_policy : IsPolicy accepted policy fuel) (are_parts : AreParts accepted policy parts) (st : State) (main : ℕ) (context : Context)
      (main_is : main ≡ program.main)
      (machine : IsStarted (taken_for parts.areas.pool (fact_at accepted.certificate main).bound) (fact_at accepted.certificate main).entry 0 (Some context) parts.areas st.areas)
      (of : AreOf accepted st.areas)
      (updates : Updates parts.records st.records parts.records.vacant_key (Some (record { number = 0; context = context })))
      (waits_are : st.waits ≡ record parts.waits { places = slice_set parts.waits.places parts.records.vacant_key (Some Wait.Fresh) })
      (exchange_is : st.exchange ≡ parts.exchange)
      (live : st.live ≡ 1) (next : st.next ≡ 1) (left : st.fuel.left ≡ fuel) (running : st.running ≡ None) (begun : st.begun ≡ 0) where
    abbrev start : Areas
    start = start_areas accepted policy

    abbrev first : Record
    first = record { number = 0; context = context }

    abbrev waits : Waiting
    waits = record { places = Some Wait.Fresh ∷ []; clock = 0 }

    waits_is : st.waits ≡ waits
    waits_is = rw (are_parts.first_key, are_parts.waits) at waits_are

    slot : get st.records 0 ≡ Some first
    slot = rw are_parts.first_key at updates.changed

    others : (place : ℕ) → place ≢ 0 → get st.records place ≡ None
    others place apart = updates.others place (λ e. apart (e ∙ are_parts.first_key)) ∙ ap (λ (slots : List (Option Record)). slice_index_or slots place None) are_parts.records

    added : IsNumbered number_of st.records.slots 1 × (Rattle.segment_laws.specs.Found.threads_in number_of (thread_of_record st.areas.pool st.waits) st.records.slots 1 ≡ thread_of_record st.areas.pool st.waits 0 first ∷ [])
    added = record_added number_of (thread_of_record st.areas.pool st.waits) (thread_of_record st.areas.pool st.waits) [] st.records.slots 0 0 first
        (record { unique = λ i j r s at. absurd (none_there i r at); below = λ i r at. absurd (none_there i r at) }) refl slot refl
        (record { records = λ k apart. others k apart ∙ sym (past k); threads = λ k s apart at. refl })
      where
        past : (k : ℕ) → at_place {R = Record} [] k ≡ None
        past zero = refl
        past (suc k) = refl

        none_there : (i : ℕ) (r : Record) → at_place [] i ≡ Some r → ⊥
        none_there i r at = let n = past i in let x : None ≡ Some r = sym n ∙ at in cc

    fresh : wait_at st.waits 0 ≡ Some Wait.Fresh
    fresh = rw waits_is refl

    threads_are : threads_of st ≡ record { number = 0; core = core_of st.areas.pool context; blocked = None } ∷ []
    threads_are =
        let at_one : threads_of st ≡ Rattle.segment_laws.specs.Found.threads_in number_of (thread_of_record st.areas.pool st.waits) st.records.slots 1 = ap (Rattle.segment_laws.specs.Found.threads_in number_of (thread_of_record st.areas.pool st.waits) st.records.slots) next in
        at_one ∙ added.1 ∙ ap (λ (wait : Option Wait). record { number = 0; core = core_of st.areas.pool context; blocked = blocked_of wait } ∷ []) fresh

    cost_is : fuel - st.fuel.left ≡ 0
    cost_is = omega (arith, left)

    on_parts : IsStarted (taken_for parts.areas.pool (fact_at accepted.certificate program.main).bound) (fact_at accepted.certificate main).entry 0 (Some context) parts.areas st.areas
    on_parts = subst (λ (f : ℕ). IsStarted (taken_for parts.areas.pool (fact_at accepted.certificate f).bound) (fact_at accepted.certificate main).entry 0 (Some context) parts.areas st.areas) main_is machine

    starts : IsStarted (taken_for start.pool (fact_at accepted.certificate program.main).bound) (fact_at accepted.certificate program.main).entry 0 (Some context) start st.areas
    starts = rw (are_parts.areas, main_is) at on_parts

    chunks_is : policy.chunks + policy.extra ≡ st.areas.pool.count
    chunks_is = sym (started_count start (fact_at accepted.certificate program.main).entry (fact_at accepted.certificate program.main).bound context st.areas (taken_for start.pool (fact_at accepted.certificate program.main).bound) refl starts)

    machine_is : start_world (start_areas accepted policy) (fact_at accepted.certificate program.main).entry (fact_at accepted.certificate program.main).bound ≡ Some (machine_of fuel st)
    unfolding start_world
    machine_is = started_is start (fact_at accepted.certificate program.main).entry context st.areas (machine_of fuel st) (taken_for start.pool (fact_at accepted.certificate program.main).bound) starts
        (λ taken core areas j. record {
          threads = (ap (λ (c : Core). record { number = 0; core = c; blocked = None } ∷ []) (sym core) ∙ sym threads_are) j;
          areas = sym areas j;
          exchange = sym (ap (λ (x : Exchanging). x.exchange) (exchange_is ∙ are_parts.exchange)) j;
          clock = sym (ap (λ (w : Waiting). w.clock) waits_is) j;
          cost = sym cost_is j;
          next = sym next j;
          running = sym (ap number_in running) j;
        })

    settled_is : StandsSettled (checked_of accepted) program (machine_of fuel st) (source.start_world program)
    settled_is = starts_law program accepted.image accepted.certificate (machine_of fuel st) start scoped valid refl formed machine_is
      where
        formed : AreWellFormed (checked_of accepted) start
        formed = subst (AreWellFormed (checked_of accepted)) are_parts.areas are_parts.formed

    well : IsWellFormed (checked_of accepted) (setting_of accepted fuel st) (machine_of fuel st)
    well = subst (IsWellFormedIf (checked_of accepted) (setting_of accepted fuel st)) machine_is
        (IsWellFormedIf-start (checked_of accepted) (setting_of accepted fuel st) start
        (fact_at accepted.certificate program.main).entry (fact_at accepted.certificate program.main).bound
        (subst (AreWellFormed (checked_of accepted)) are_parts.areas are_parts.formed)
        (all_free-new policy.chunks (accepted.certificate.chunk / 4) policy.extra (policy.extra_bytes / 4)) is_policy.most entry_below)

    -- ---- the places

    at_first : (place : ℕ) → (place ≡ 0) ⊎ (place ≢ 0) → (r : Record) → get st.records place ≡ Some r → place ≡ 0
    at_first place (inl is) r at = is
    at_first place (inr apart) r at = absurd (let n = others place apart in let x : None ≡ Some r = sym n ∙ at in cc)

    wait_is : (place : ℕ) → wait_at st.waits place ≡ wait_at waits place
    wait_is place = rw waits_is refl

    aligned_is : AreAligned st
    aligned_is = record {
      vacant = vacant;
      runs = λ place h. absurd (subst (λ (o : Option ThreadId). RunsAt o place) running h);
      waits = λ place r at no. waits_there place (at_first place (cases_eq place 0) r at);
      there = λ place r at. let is = at_first place (cases_eq place 0) r at in let one : length st.waits.places ≡ 1 = ap (λ (w : Waiting). length w.places) waits_is in omega (arith, is, one);
      named = λ place r at. let is = at_first place (cases_eq place 0) r at in omega (arith, is);
      untrapped = λ place. subst (IsUntrapped st.exchange) (sym (wait_is place)) (untrapped place);
    }
      where
        vacant : (place : ℕ) → get st.records place ≡ None → wait_at st.waits place ≡ None
        vacant zero none = absurd (let x : None ≡ Some first = sym none ∙ slot in cc)
        vacant (suc place) none = wait_is (suc place) ∙ past place
          where
            past : (k : ℕ) → slice_index_or {A = Option Wait} [] k None ≡ None
            past zero = refl
            past (suc k) = refl

        waits_there : (place : ℕ) → place ≡ 0 → IsSome (wait_at st.waits place)
        waits_there place is = let at : wait_at st.waits place ≡ Some Wait.Fresh = ap (wait_at st.waits) is ∙ fresh in rw at refl

        untrapped : (place : ℕ) → IsUntrapped st.exchange (wait_at waits place)
        untrapped zero = tt
        untrapped _ = tt

    kept_is : IsKept accepted fuel st
    kept_is = record {
      areas = of;
      numbered = subst (IsNumbered number_of st.records.slots) (sym next) added.0;
      aligned = aligned_is;
      live = live ∙ ap length (sym threads_are);
      fuel = omega (arith, left);
      begun = omega (arith, begun);
      clock = let zero = ap (λ (w : Waiting). w.clock) waits_is in omega (arith, zero);
      formed = well;
      running = subst (IsRunningThere st) (sym running) tt;
    }

    -- main's record stands at place 0
    main_at : slice_index_or (numbers_of st) 0 None ≡ Some 0
    main_at = numbers_at st.records.slots 0 ∙ ap (option_map number_of) slot

    pub made_law : IsMade accepted policy fuel st
    made_law = record {
      chunks = chunks_is;
      kept = kept_is;
      settled = subst (HasCome accepted fuel st) (sym running) settled_is.settled;
      machine = machine_is;
      stands = settled_is.stands;
      main = main_at;
      caps = ap (λ (x : Exchanging). x.caps) (exchange_is ∙ are_parts.exchange);
      backlog = ap (λ (x : Exchanging). x.backlog) (exchange_is ∙ are_parts.exchange);
    }
