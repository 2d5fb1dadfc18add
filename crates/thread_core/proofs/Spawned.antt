-- What came of a spawn, from what its calls tell.
use Rattle.thread_core.proofs.Common.{◌≡◌, ◌≢◌, ℕ, ◌+◌, ◌-◌, ◌^◌, ◌<◌, List, length, Option, Some, None, refl, sym, ap, ◌∙◌, subst, arith, slice_index_or, slice_set, get_or-set_other, get_or-set_same, length-set, get, lowered, Ask, ThreadId, Acceptance, accepted_tree, IsValid, Taken, taken_for, FitsNone, Areas, start_core, Move, most_threads, checked_of, code_of, local_of, core_of, AreOf, RestsBefore, RestsBehind, IsAtAsk, IsStarted, Context, fact_at, Waiting, wait_at, Wait, ContextIs, HasContext, passed_context, machine_of, Runs, LocalIs, Told, TellsIf, held_in, Record, State, Turn}
use Rattle.thread_core.specs.Starts.{HasMorePlaces, HasPlaceFor, HasAdded}
use Rattle.thread_core.proofs.Alike.{kept_alike, rest_alike, places_alike, machine_alike}
use Rattle.thread_core.proofs.Spawning as spawning
use Rattle.thread_core.proofs.Started as started

module _ (accepted : Acceptance) (most : ℕ) (st : State) (thread : ThreadId) (runs : Runs accepted most st thread) (left : 0 < st.fuel.left) (function argument : ℕ)
    (at : LocalIs st thread (λ l. IsAtAsk (checked_of accepted) (code_of accepted) l (Ask.Spawn function argument))) (valid : IsValid (lowered (accepted_tree accepted)) accepted.image accepted.certificate)
    (few : st.live < most_threads) (some : FitsNone st.areas.pool (fact_at accepted.certificate function).bound → ⊥) (st1 : State) (more : HasMorePlaces st st1) where
  takes : spawning.Takes accepted most st thread runs left function argument at valid
  takes = spawning.takes accepted most st thread runs left function argument at valid some

  -- there was no memory
  pub no_memory : Told accepted most thread st (Some Turn.Memory) (record st1 { stopped = Some Turn.Memory })
  no_memory =
      let new : State = record st { records = st1.records; waits = st1.waits; stopped = Some Turn.Memory } in
      let told : Told accepted most thread st (Some Turn.Memory) new = record {
        kept = kept_alike accepted most st st1.records st1.waits (Some Turn.Memory) more.slots more.same more.longer more.clock runs.kept;
        rest = rest_alike accepted most st st1.records st1.waits (Some Turn.Memory) more.slots more.same more.longer more.clock runs.kept;
        places = places_alike accepted most st st1.records st1.waits (Some Turn.Memory) more.slots more.same more.longer more.clock runs.kept;
        tells = subst (λ (m : Move). TellsIf m (Some Turn.Memory) thread.number (machine_of most st) (held_in accepted most new))
            (sym (spawning.starts_one accepted most st thread runs left function argument at valid few takes))
            (machine_alike accepted most st st1.records st1.waits (Some Turn.Memory) more.slots more.same more.longer more.clock runs.kept, refl);
        goes = runs.is;
      } in
      subst (λ (x : State). Told accepted most thread st (Some Turn.Memory) (record x { records = st1.records; waits = st1.waits; stopped = Some Turn.Memory })) (sym more.rest) told

  module _ (slot : ℕ) (has : HasPlaceFor st1 slot) (context : Context) (areas : Areas)
      (starts : IsStarted (taken_for st1.areas.pool (fact_at accepted.certificate function).bound) (fact_at accepted.certificate function).entry argument (Some context) st1.areas areas) (areas_of : AreOf accepted areas)
      (st3 : State) (was_added : HasAdded (record st1 { areas = areas }) st1.records.vacant_key (record { number = st1.next; context = context }) st3) where
    next_is : st1.next ≡ st.next
    next_is = ap (λ (x : State). x.next) more.rest

    added : HasAdded (record st1 { areas = areas }) slot (record { number = st1.next; context = context }) st3
    added = subst (λ (k : ℕ). HasAdded (record st1 { areas = areas }) k (record { number = st1.next; context = context }) st3) has.next was_added

    got : (k : ℕ) → get st1.records k ≡ get st.records k
    got k = ap (λ (l : List (Option Record)). slice_index_or l k None) more.slots

    vacant : get st.records slot ≡ None
    vacant = sym (got slot) ∙ has.vacant

    apart : thread.slot ≢ slot
    apart e = let there = spawning.there accepted most st thread runs left function argument at valid in let both : Some there.0 ≡ None = sym there.1 ∙ ap (get st.records) e ∙ vacant in cc

    others : (k : ℕ) → k ≢ slot → get st3.records k ≡ get st.records k
    others k one = added.others k one ∙ got k

    pub slot_there : get st3.records thread.slot ≡ Some (spawning.r accepted most st thread runs left function argument at valid)
    slot_there = others thread.slot apart ∙ (spawning.there accepted most st thread runs left function argument at valid).1

    began : IsStarted (Some takes.taken) (fact_at accepted.certificate function).entry argument (Some context) st.areas areas
    began =
        let same : st1.areas ≡ st.areas = ap (λ (x : State). x.areas) more.rest in
        let at_st : IsStarted (taken_for st.areas.pool (fact_at accepted.certificate function).bound) (fact_at accepted.certificate function).entry argument (Some context) st.areas areas =
        subst (λ (a : Areas). IsStarted (taken_for a.pool (fact_at accepted.certificate function).bound) (fact_at accepted.certificate function).entry argument (Some context) a areas) same starts in
        subst (λ (o : Option Taken). IsStarted o (fact_at accepted.certificate function).entry argument (Some context) st.areas areas)
        (sym (spawning.taken_is accepted most st thread runs left function argument at valid) ∙ takes.is) at_st

    -- the pc at the thread's ECALL is small
    pub small : ContextIs st3 thread (λ context. context.pc < 2 ^ 32 - 4)
    small = λ x e. (let both : Some (spawning.r accepted most st thread runs left function argument at valid) ≡ Some x = sym slot_there ∙ e in let same : spawning.r accepted most st thread runs left function argument at valid ≡ x = cc in
        subst (λ (y : Record). y.context.pc < 2 ^ 32 - 4) same (started.pc_small accepted most st thread runs left function argument at valid few takes))

    before : ContextIs st3 thread (λ context. RestsBefore (checked_of accepted) (local_of st.areas context))
    before = λ x e. (let both : Some (spawning.r accepted most st thread runs left function argument at valid) ≡ Some x = sym slot_there ∙ e in let same : spawning.r accepted most st thread runs left function argument at valid ≡ x = cc in
        subst (λ (y : Record). RestsBefore (checked_of accepted) (local_of st.areas y.context)) same (started.rests_before accepted most st thread runs left function argument at valid few takes))

    module _ (st4 : State) (result : Context) (has_context : HasContext st3 thread result st4) (context_is : ContextIs st3 thread (λ context. result ≡ passed_context context (Some st1.next)))
        (rest : st4 ≡ record st3 { records = st4.records; fuel = st4.fuel; waits = record st3.waits { clock = st3.waits.clock + 1 } }) (fuel : st4.fuel.left + 1 ≡ st3.fuel.left)
        (rests : (a : Acceptance) (areas : Areas) → IsValid (lowered (accepted_tree a)) a.image a.certificate → ContextIs st3 thread (λ context. RestsBefore (checked_of a) (local_of areas context)) → RestsBehind (checked_of a) (code_of a) (local_of areas result)) where
      places_are : st3.waits.places ≡ slice_set st1.waits.places slot (Some Wait.Fresh)
      places_are = ap (λ (w : Waiting). w.places) added.waits

      fresh : wait_at (record st3.waits { clock = st3.waits.clock + 1 }) slot ≡ Some Wait.Fresh
      fresh = ap (λ (l : List (Option Wait)). slice_index_or l slot None) places_are ∙ get_or-set_same st1.waits.places slot (Some Wait.Fresh) None has.there

      waits_kept : (k : ℕ) → k ≢ slot → wait_at (record st3.waits { clock = st3.waits.clock + 1 }) k ≡ wait_at st.waits k
      waits_kept k one = ap (λ (l : List (Option Wait)). slice_index_or l k None) places_are ∙ get_or-set_other st1.waits.places slot k (Some Wait.Fresh) None one ∙ more.same k

      count_is : length st3.waits.places ≡ length st1.waits.places
      count_is = ap length places_are ∙ length-set st1.waits.places slot (Some Wait.Fresh)

      clock_is : st3.waits.clock + 1 ≡ st.waits.clock + 1
      clock_is = ap (λ (n : ℕ). n + 1) (ap (λ (w : Waiting). w.clock) added.waits ∙ more.clock)

      fuel_is : st4.fuel.left + 1 ≡ st.fuel.left
      fuel_is = fuel ∙ ap (λ (x : State). x.fuel.left) added.rest ∙ ap (λ (x : State). x.fuel.left) more.rest

      result_is : result ≡ passed_context (spawning.r accepted most st thread runs left function argument at valid).context (Some st.next)
      result_is = context_is (spawning.r accepted most st thread runs left function argument at valid) slot_there ∙ ap (λ (n : ℕ). passed_context (spawning.r accepted most st thread runs left function argument at valid).context (Some n)) next_is

      written : get st4.records thread.slot ≡ Some (record (spawning.r accepted most st thread runs left function argument at valid) { context = passed_context (spawning.r accepted most st thread runs left function argument at valid).context (Some st.next) })
      written = has_context.written (spawning.r accepted most st thread runs left function argument at valid) slot_there
          ∙ ap (λ (x : Context). Some (record (spawning.r accepted most st thread runs left function argument at valid) { context = x })) result_is

      behind : RestsBehind (checked_of accepted) (code_of accepted) (local_of st.areas (passed_context (spawning.r accepted most st thread runs left function argument at valid).context (Some st.next)))
      behind = subst (λ (x : Context). RestsBehind (checked_of accepted) (code_of accepted) (local_of st.areas x)) result_is (rests accepted st.areas valid before)

      new_is : st4 ≡ record st { areas = areas; waits = record st3.waits { clock = st3.waits.clock + 1 }; records = st4.records; fuel = st4.fuel; live = st.live + 1; next = st.next + 1 }
      new_is =
          rest
          ∙ ap (λ (x : State). record x { records = st4.records; fuel = st4.fuel; waits = record st3.waits { clock = st3.waits.clock + 1 } }) added.rest
          ∙ ap (λ (x : State). record x { areas = areas; records = st4.records; fuel = st4.fuel; waits = record st3.waits { clock = st3.waits.clock + 1 }; live = x.live + 1; next = x.next + 1 }) more.rest

      pub spawned_told : Told accepted most thread st (Some (Turn.Spawned (record { slot = slot; number = st1.next }))) st4
      spawned_told =
          subst (λ (n : ℕ). Told accepted most thread st (Some (Turn.Spawned (record { slot = slot; number = n }))) st4) (sym next_is)
          (subst (Told accepted most thread st (Some (Turn.Spawned (record { slot = slot; number = st.next }))))
          (sym (new_is ∙ ap (λ (a : Areas). record st { areas = a; waits = record st3.waits { clock = st3.waits.clock + 1 }; records = st4.records; fuel = st4.fuel; live = st.live + 1; next = st.next + 1 }) began.1))
          (started.told_new accepted most st thread runs left function argument at valid few takes context
          (subst (λ (a : Areas). core_of a.pool context ≡ start_core takes.taken (fact_at accepted.certificate function).entry argument) began.1 began.0)
          (subst (λ (a : Areas). AreOf accepted a) began.1 areas_of)
          slot vacant has.named st3.records
          (added.added ∙ ap (λ (n : ℕ). let x : Record = record { number = n; context = context } in Some x) next_is) others
          (record st3.waits { clock = st3.waits.clock + 1 }) fresh waits_kept (let h = more.longer in let e = count_is in omega (arith, h, e)) (let h = has.there in let e = count_is in omega (arith, h, e)) clock_is
          st4.records written has_context.others st4.fuel fuel_is behind))
