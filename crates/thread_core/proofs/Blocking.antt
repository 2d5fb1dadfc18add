-- A thread that stands at the ECALL of a call that blocks: what the step of the world is, and what comes of it.
use Rattle.thread_core.proofs.Common.{◌≡◌, ◌≢◌, ℕ, ◌+◌, ◌-◌, ◌^◌, ◌<◌, ◌⊎◌, inl, inr, List, length, Option, Some, None, IsSome, option_map, refl, sym, ap, ◌∙◌, subst, arith, slice_set, length-map, length-set, get_or-set_same, get_or-set_other, Slab, get, lowered, BlockingRow, Blocking, Block, Stop, ThreadId, TrapKind, Acceptance, accepted_tree, IsValid, Pool, Op, Frame, key_of, Core, Calls, passed, Checked, Place, IsResting, IsPastCall, AtStart, AtCall, PastCall, IsPast, Thread, World, Move, Blocks, Stops, blocks, retired, replaced, thread_of, step, IsWellFormed, KeepsWellFormed, KeepsWellFormed-step, checked_of, code_of, local_of, core_of, RestsBefore, RestsBehind, RestsAround, IsAround, IsAtModel, Context, Fuel, row_of, Waiting, wait_at, IsUntrapped, Wait, IsNumbered, record_written, IsKept, AreAligned, RunsAt, ContextIs, HasContext, passed_context, number_of, thread_of_record, threads_of, blocked_of, machine_of, setting_of, Runs, LocalIs, Told, TellsIf, held_in, HasKeyOf, HasKey, Record, State, Turn, same_or_not}
use Rattle.thread_core.proofs.Answering.{rests_small}
use Rattle.thread_core.proofs.PassLaws.{its_record, its_step, passed_core}
use Rattle.thread_core.proofs.TellingLaws.{number_at, found_at}

around_by : (c : Checked) (pool : Pool) (core : Core) (rests : IsResting c pool core) → IsPast c pool core rests → IsAround c pool core rests
around_by c pool core (AtStart f frames in_place) past = past
around_by c pool core (AtCall f i op word frames in_place) past = absurd past
around_by c pool core (PastCall f i op word place frames in_place) past = tt

pub around : (accepted : Acceptance) (st : State) (context : Context) → RestsBehind (checked_of accepted) (code_of accepted) (local_of st.areas context) → RestsAround (checked_of accepted) st.areas.pool (core_of st.areas.pool context)
around accepted st context behind = record { rests = behind.rests; around = around_by (checked_of accepted) st.areas.pool (core_of st.areas.pool context) behind.rests behind.behind }

-- the key of a thread that rests behind its ECALL
key_by : (c : Checked) (pool : Pool) (core : Core) (key : List ℕ) (rests : IsResting c pool core) → IsPast c pool core rests →
    ((f i word : ℕ) (op : Op) (place : Place) (frames : List Frame) → IsPastCall c pool core f i op word place frames → key ≡ key_of c f i frames) → HasKeyOf c pool core key
key_by c pool core key (PastCall f i op word place frames in_place) past is =
    record { function = f; operation = i; word = word; op = op; place = place; frames = frames; stands = in_place; is = λ g j w o p fs stands. is g j w o p fs stands }
key_by c pool core key _ past is = absurd past

has_key : (c : Checked) (w : World) (found : Option Thread) (t : Thread) (key : List ℕ) → found ≡ Some t → HasKeyOf c w.areas.pool t.core key → HasKey c w found key
has_key c w None t key e h = absurd (let x : None ≡ Some t = e in cc)
has_key c w (Some u) t key e h = let same : u ≡ t = cc in subst (λ (u : Thread). HasKeyOf c w.areas.pool u.core key) (sym same) h

module _ (accepted : Acceptance) (most : ℕ) (st : State) (thread : ThreadId) (runs : Runs accepted most st thread) (left : 0 < st.fuel.left) (block : Block)
    (at : LocalIs st thread (λ l. IsAtModel (checked_of accepted) (code_of accepted) l (Calls (Blocking block)))) (valid : IsValid (lowered (accepted_tree accepted)) accepted.image accepted.certificate) where
  abbrev pub r : Record
  r = (its_record accepted most st thread runs).0

  pub there : get st.records thread.slot ≡ Some r
  there = (its_record accepted most st thread runs).1

  model : IsAtModel (checked_of accepted) (code_of accepted) (local_of st.areas r.context) (Calls (Blocking block))
  model = at r there

  -- for each record that is there
  all_there : (P : Record → Type 0) → P r → (x : Record) → get st.records thread.slot ≡ Some x → P x
  all_there P p x e = let both : Some r ≡ Some x = sym there ∙ e in let same : r ≡ x = cc in subst P same p

  small_r : r.context.pc < 2 ^ 32 - 4
  small_r = rests_small accepted st r.context _ valid model.rests

  pub small_pc : ContextIs st thread (λ context. context.pc < 2 ^ 32 - 4)
  small_pc = all_there (λ (x : Record). x.context.pc < 2 ^ 32 - 4) small_r

  pub before : ContextIs st thread (λ context. RestsBefore (checked_of accepted) (local_of st.areas context))
  before = all_there (λ (x : Record). RestsBefore (checked_of accepted) (local_of st.areas x.context))
      (record { rests = AtCall model.rests.function model.rests.operation _ model.rests.word model.rests.frames model.rests.at; before = tt })

  abbrev t : Thread
  t = thread_of_record st.areas.pool st.waits thread.slot r

  abbrev row : BlockingRow
  row = row_of st.exchange block

  step_is : step (setting_of accepted most st) (machine_of most st) ≡ blocks (machine_of most st) t block row.trap
  step_is = its_step accepted most st thread runs r _ there left model.asks

  pub traps : (kind : TrapKind) → row.trap ≡ Some kind → step (setting_of accepted most st) (machine_of most st) ≡ Stops (Stop.Trap kind)
  traps kind e = step_is ∙ ap (blocks (machine_of most st) t block) e

  abbrev waiter : Thread
  waiter = record t { core = passed t.core None; blocked = Some (record { block = block; since = st.waits.clock + 1 }) }

  abbrev after : World
  after = record (retired (machine_of most st) waiter st.areas) { running = None }

  goes : row.trap ≡ None → step (setting_of accepted most st) (machine_of most st) ≡ Blocks after
  goes e = step_is ∙ ap (blocks (machine_of most st) t block) e

  pub place_there : thread.slot < length st.waits.places
  place_there = runs.kept.aligned.there thread.slot r there

  module _ (untrapped : row.trap ≡ None) (records : Slab Record) (fuel : Fuel) (result : Context) where
    abbrev wait : Wait
    wait = Wait.At block (st.waits.clock + 1)

    abbrev waits : Waiting
    waits = record { places = slice_set st.waits.places thread.slot (Some wait); clock = st.waits.clock + 1 }

    abbrev pub new : State
    new = record st { records = records; fuel = fuel; waits = waits; running = None }

    waits_here : wait_at waits thread.slot ≡ Some wait
    waits_here = get_or-set_same st.waits.places thread.slot (Some wait) None place_there

    waits_there : (k : ℕ) → k ≢ thread.slot → wait_at waits k ≡ wait_at st.waits k
    waits_there k apart = get_or-set_other st.waits.places thread.slot k (Some wait) None apart

    with_blocked : (s : Record) → Option Wait → Thread
    with_blocked s o = record { number = s.number; core = core_of st.areas.pool s.context; blocked = blocked_of o }

    module _ (written : get records thread.slot ≡ Some (record r { context = result })) (others : (k : ℕ) → k ≢ thread.slot → get records k ≡ get st.records k)
        (result_is : result ≡ passed_context r.context None) (less : fuel.left + 1 ≡ st.fuel.left) (behind : RestsBehind (checked_of accepted) (code_of accepted) (local_of st.areas result)) where
      both : IsNumbered number_of records.slots st.next × (threads_of new ≡ replaced (thread_of_record st.areas.pool waits thread.slot (record r { context = result })) (threads_of st))
      unfolding with_blocked
      both = record_written number_of (thread_of_record st.areas.pool st.waits) (thread_of_record st.areas.pool waits) st.records.slots records.slots st.next thread.slot r (record r { context = result })
          (λ k s. refl) (λ k s. refl) runs.kept.numbered there written refl
          (record { records = others; threads = λ k s apart e. ap (with_blocked s) (waits_there k apart) })

      core_is : core_of st.areas.pool result ≡ passed t.core None
      core_is = ap (core_of st.areas.pool) result_is ∙ passed_core st r.context None small_r

      waiter_is : thread_of_record st.areas.pool waits thread.slot (record r { context = result }) ≡ waiter
      waiter_is = λ i. record { number = r.number; core = core_is i; blocked = blocked_of (waits_here i) }

      threads_are : threads_of new ≡ replaced waiter (threads_of st)
      threads_are = both.1 ∙ ap (λ (u : Thread). replaced u (threads_of st)) waiter_is

      machine_is : machine_of most new ≡ after
      machine_is =
          let cost : most - fuel.left ≡ most - st.fuel.left + 1 = omega (arith, less, runs.kept.fuel) in
          (λ i. record (machine_of most new) { threads = threads_are i; cost = cost i })

      formed_new : IsWellFormed (checked_of accepted) (setting_of accepted most new) (machine_of most new)
      formed_new = subst (λ (w : World). IsWellFormed (checked_of accepted) (setting_of accepted most st) w) (sym machine_is)
          (subst (KeepsWellFormed (checked_of accepted) (setting_of accepted most st)) (goes untrapped) (KeepsWellFormed-step (checked_of accepted) (setting_of accepted most st) (machine_of most st) runs.kept.formed))

      was_by : (place : ℕ) (x : Record) → get records place ≡ Some x → (place ≡ thread.slot) ⊎ (place ≢ thread.slot) → (y : Record) × (get st.records place ≡ Some y)
      was_by place x e (inl same) = (r, ap (get st.records) same ∙ there)
      was_by place x e (inr apart) = (x, sym (others place apart) ∙ e)

      was : (place : ℕ) (x : Record) → get records place ≡ Some x → (y : Record) × (get st.records place ≡ Some y)
      was place x e = was_by place x e (same_or_not place thread.slot)

      vacant_by : (place : ℕ) → get records place ≡ None → (place ≡ thread.slot) ⊎ (place ≢ thread.slot) → wait_at waits place ≡ None
      vacant_by place e (inl same) = absurd (let f : Some (record r { context = result }) ≡ None = sym written ∙ ap (get records) (sym same) ∙ e in cc)
      vacant_by place e (inr apart) = waits_there place apart ∙ runs.kept.aligned.vacant place (sym (others place apart) ∙ e)

      waiting_by : (place : ℕ) (x : Record) → get records place ≡ Some x → (place ≡ thread.slot) ⊎ (place ≢ thread.slot) → IsSome (wait_at waits place)
      waiting_by place x e (inl same) = subst (λ (o : Option Wait). IsSome o) (sym (ap (wait_at waits) same ∙ waits_here)) refl
      waiting_by place x e (inr apart) = subst (λ (o : Option Wait). IsSome o) (sym (waits_there place apart))
          (runs.kept.aligned.waits place x (sym (others place apart) ∙ e) (λ runs_at. apart (sym (subst (λ (o : Option ThreadId). RunsAt o place) runs.is runs_at))))

      untrapped_by : (place : ℕ) → (place ≡ thread.slot) ⊎ (place ≢ thread.slot) → IsUntrapped st.exchange (wait_at waits place)
      untrapped_by place (inl same) = subst (IsUntrapped st.exchange) (sym (ap (wait_at waits) same ∙ waits_here)) (untrapped, omega (arith, runs.kept.clock, runs.kept.fuel, runs.kept.formed.fuel, left))
      untrapped_by place (inr apart) = subst (IsUntrapped st.exchange) (sym (waits_there place apart)) (runs.kept.aligned.untrapped place)

      aligned : AreAligned new
      aligned = record {
        vacant = λ place e. vacant_by place e (same_or_not place thread.slot);
        runs = λ place none. absurd none;
        waits = λ place x e apart. waiting_by place x e (same_or_not place thread.slot);
        there = λ place x e. (let below = runs.kept.aligned.there place (was place x e).0 (was place x e).1 in let same = length-set st.waits.places thread.slot (Some wait) in omega (arith, below, same));
        named = λ place x e. runs.kept.aligned.named place (was place x e).0 (was place x e).1;
        untrapped = λ place. untrapped_by place (same_or_not place thread.slot);
      }

      kept_new : IsKept accepted most new
      kept_new = record {
        areas = runs.kept.areas;
        numbered = both.0;
        aligned = aligned;
        live = runs.kept.live ∙ sym (ap length threads_are ∙ simp length-map refl);
        fuel = omega (arith, less, runs.kept.fuel);
        begun = omega (arith, less, runs.kept.fuel, runs.kept.begun);
        clock = omega (arith, less, runs.kept.fuel, runs.kept.clock);
        formed = formed_new;
        running = tt;
      }

      same_by : (place : ℕ) → (place ≡ thread.slot) ⊎ (place ≢ thread.slot) → option_map number_of (get records place) ≡ option_map number_of (get st.records place)
      same_by place (inl e) = ap (λ (k : ℕ). option_map number_of (get records k)) e ∙ ap (option_map number_of) written
          ∙ sym (ap (λ (k : ℕ). option_map number_of (get st.records k)) e ∙ ap (option_map number_of) there)
      same_by place (inr apart) = ap (option_map number_of) (others place apart)

      pub blocked_told : (key : List ℕ) → ((f i word : ℕ) (op : Op) (place : Place) (frames : List Frame) → IsPastCall (checked_of accepted) st.areas.pool (core_of st.areas.pool result) f i op word place frames → key ≡ key_of (checked_of accepted) f i frames) →
          Told accepted most thread st (Some (Turn.Blocked key (most - fuel.left - st.begun))) new
      blocked_told key is =
          let turn : Turn = Turn.Blocked key (most - fuel.left - st.begun) in
          let here : HasKeyOf (checked_of accepted) st.areas.pool (core_of st.areas.pool result) key = key_by (checked_of accepted) st.areas.pool (core_of st.areas.pool result) key behind.rests behind.behind is in
          let number : r.number ≡ thread.number = (its_record accepted most st thread runs).2 in
          let found : thread_of (machine_of most new) thread.number ≡ Some (thread_of_record st.areas.pool waits thread.slot (record r { context = result })) =
          subst (λ (n : ℕ). thread_of (machine_of most new) n ≡ Some (thread_of_record st.areas.pool waits thread.slot (record r { context = result }))) number (found_at accepted most new kept_new thread.slot (record r { context = result }) written) in
          let keyed : HasKey (checked_of accepted) (machine_of most new) (thread_of (machine_of most new) thread.number) key =
          has_key (checked_of accepted) (machine_of most new) (thread_of (machine_of most new) thread.number) (thread_of_record st.areas.pool waits thread.slot (record r { context = result })) key found here in
          record {
            kept = kept_new;
            rest = record { caps = refl; backlog = refl; chunks = refl; begun = refl };
            places = λ other old alive. number_at new other.slot ∙ same_by other.slot (same_or_not other.slot thread.slot) ∙ sym (number_at st other.slot) ∙ old;
            tells = subst (λ (m : Move). TellsIf m (Some turn) thread.number (machine_of most st) (held_in accepted most new)) (sym (goes untrapped ∙ ap (λ (w : World). Blocks w) (sym machine_is))) (keyed, refl, refl, runs.going);
            goes = refl;
          }

  -- the same, from what the calls under it tell
  pub passed_told : (untrapped : row.trap ≡ None) (st4 : State) (result : Context) (waits4 : Waiting) (since cost : ℕ) (key : List ℕ) → HasContext st thread result st4 → ContextIs st thread (λ context. result ≡ passed_context context None) →
      (st4 ≡ record st { records = st4.records; fuel = st4.fuel; waits = record st.waits { clock = st.waits.clock + 1 } }) → (st4.fuel.left + 1 ≡ st.fuel.left) → RestsBehind (checked_of accepted) (code_of accepted) (local_of st.areas result) →
      (since ≡ st4.waits.clock) → (waits4 ≡ record st4.waits { places = slice_set st4.waits.places thread.slot (Some (Wait.At block since)) }) → (cost ≡ most - st4.fuel.left - st4.begun) →
      ((f i word : ℕ) (op : Op) (place : Place) (frames : List Frame) → IsPastCall (checked_of accepted) st4.areas.pool (core_of st4.areas.pool result) f i op word place frames → key ≡ key_of (checked_of accepted) f i frames) →
      Told accepted most thread st (Some (Turn.Blocked key cost)) (record st4 { waits = waits4; running = None })
  passed_told untrapped st4 result waits4 since cost key has context_is rest less behind since_is waits_is cost_is key_is =
      let time : since ≡ st.waits.clock + 1 = since_is ∙ ap (λ (x : State). x.waits.clock) rest in
      let waits_are : waits4 ≡ record { places = slice_set st.waits.places thread.slot (Some (Wait.At block (st.waits.clock + 1))); clock = st.waits.clock + 1 } =
      waits_is ∙ ap (λ (x : State). record x.waits { places = slice_set x.waits.places thread.slot (Some (Wait.At block since)) }) rest
      ∙ ap (λ (n : ℕ). let w : Waiting = record { places = slice_set st.waits.places thread.slot (Some (Wait.At block n)); clock = st.waits.clock + 1 } in w) time in
      let final : record st4 { waits = waits4; running = None } ≡ new untrapped st4.records st4.fuel result =
      ap (λ (x : State). record x { waits = waits4; running = None }) rest
      ∙ ap (λ (w : Waiting). record st { records = st4.records; fuel = st4.fuel; waits = w; running = None }) waits_are in
      let begun : st4.begun ≡ st.begun = ap (λ (x : State). x.begun) rest in
      let cost_now : cost ≡ most - st4.fuel.left - st.begun = cost_is ∙ ap (λ (n : ℕ). most - st4.fuel.left - n) begun in
      let keyed : (f i word : ℕ) (op : Op) (place : Place) (frames : List Frame) → IsPastCall (checked_of accepted) st.areas.pool (core_of st.areas.pool result) f i op word place frames → key ≡ key_of (checked_of accepted) f i frames =
      subst (λ (pool : Pool). (f i word : ℕ) (op : Op) (place : Place) (frames : List Frame) → IsPastCall (checked_of accepted) pool (core_of pool result) f i op word place frames → key ≡ key_of (checked_of accepted) f i frames) (ap (λ (x : State). x.areas.pool) rest) key_is in
      let told = blocked_told untrapped st4.records st4.fuel result (has.written r there) has.others (context_is r there) less behind key keyed in
      subst (Told accepted most thread st (Some (Turn.Blocked key cost))) (sym final)
      (subst (λ (n : ℕ). Told accepted most thread st (Some (Turn.Blocked key n)) (new untrapped st4.records st4.fuel result)) (sym cost_now) told)

pub around_over : (accepted : Acceptance) (st : State) (pool : Pool) (context : Context) → pool ≡ st.areas.pool → RestsBehind (checked_of accepted) (code_of accepted) (local_of st.areas context) → RestsAround (checked_of accepted) pool (core_of pool context)
around_over accepted st pool context e behind = subst (λ (p : Pool). RestsAround (checked_of accepted) p (core_of p context)) (sym e) (around accepted st context behind)
