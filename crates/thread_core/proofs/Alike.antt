-- A state with more room than another stands for the same machine world, and keeps what it keeps.
use Rattle.thread_core.proofs.Common.{◌≡◌, ℕ, ◌+◌, ◌-◌, ◌≤◌, List, length, Option, Some, None, refl, sym, ap, ◌∙◌, subst, arith, ◌^◌, IsSome, slice_index_or, map, option_map, Slab, get, Stop, ThreadId, Acceptance, Thread, World, Stops, Move, step, IsWellFormed, checked_of, core_of, Waiting, wait_at, IsUntrapped, Wait, IsNumbered, threads_in, all_same, IsKept, IsRunningThere, number_of, thread_of_record, blocked_of, machine_of, setting_of, number_in, Runs, KeepsRest, Told, TellsIf, held_in, KeepsPlaces, Record, State, Turn}

module _ (accepted : Acceptance) (most : ℕ) (st : State) (records : Slab Record) (waits : Waiting) (stopped : Option Turn) (slots : records.slots ≡ st.records.slots) (same : (place : ℕ) → wait_at waits place ≡ wait_at st.waits place)
    (longer : length st.waits.places ≤ length waits.places) (clock : waits.clock ≡ st.waits.clock) where
  abbrev pub alike : State
  alike = record st { records = records; waits = waits; stopped = stopped }

  got : (place : ℕ) → get records place ≡ get st.records place
  got place = ap (λ (l : List (Option Record)). slice_index_or l place None) slots

  module _ (kept : IsKept accepted most st) where
    threads_same : IsNumbered number_of records.slots st.next × (threads_in number_of (thread_of_record st.areas.pool waits) records.slots st.next ≡ threads_in number_of (thread_of_record st.areas.pool st.waits) st.records.slots st.next)
    threads_same = all_same number_of (thread_of_record st.areas.pool st.waits) (thread_of_record st.areas.pool waits) st.records.slots records.slots st.next kept.numbered got
        (λ k s e. ap (λ (o : Option Wait). let t : Thread = record { number = s.number; core = core_of st.areas.pool s.context; blocked = blocked_of o } in t) (same k))

    pub machine_alike : machine_of most alike ≡ machine_of most st
    machine_alike = λ i. record { threads = threads_same.1 i; areas = st.areas; exchange = st.exchange.exchange; clock = clock i; cost = most - st.fuel.left; next = st.next; running = number_in st.running }

    running_there : (running : Option ThreadId) → IsRunningThere st running → IsRunningThere alike running
    running_there None there = tt
    running_there (Some thread) there = (there.0, got thread.slot ∙ there.1, there.2)

    pub kept_alike : IsKept accepted most alike
    kept_alike = record {
      areas = kept.areas;
      numbered = threads_same.0;
      aligned = record {
        vacant = λ place e. same place ∙ kept.aligned.vacant place (sym (got place) ∙ e);
        runs = λ place runs. same place ∙ kept.aligned.runs place runs;
        waits = λ place r e apart. subst (λ (o : Option Wait). IsSome o) (sym (same place)) (kept.aligned.waits place r (sym (got place) ∙ e) apart);
        there = λ place r e. (let below = kept.aligned.there place r (sym (got place) ∙ e) in omega (arith, below, longer));
        named = λ place r e. kept.aligned.named place r (sym (got place) ∙ e);
        untrapped = λ place. subst (λ (o : Option Wait). IsUntrapped st.exchange o) (sym (same place)) (kept.aligned.untrapped place);
      };
      live = kept.live ∙ sym (ap length threads_same.1);
      fuel = kept.fuel;
      begun = kept.begun;
      clock = subst (λ (n : ℕ). n ≤ 2 ^ 63 + (most - st.fuel.left)) (sym clock) kept.clock;
      formed = subst (λ (w : World). IsWellFormed (checked_of accepted) (setting_of accepted most st) w) (sym machine_alike) kept.formed;
      running = running_there st.running kept.running;
    }

    pub rest_alike : KeepsRest accepted most st alike
    rest_alike = record {
      caps = refl;
      backlog = refl;
      chunks = refl;
      begun = refl;
    }

    pub places_alike : KeepsPlaces (held_in accepted most st) (held_in accepted most alike)
    places_alike = λ thread is live. subst (λ (l : List (Option Record)). slice_index_or (map (option_map number_of) l) thread.slot None ≡ Some thread.number) (sym slots) is

-- a run that stops where it is
pub stop_told : (accepted : Acceptance) (most : ℕ) (st : State) (thread : ThreadId) → Runs accepted most st thread → (stop : Stop) → step (setting_of accepted most st) (machine_of most st) ≡ Stops stop →
    Told accepted most thread st (Some (Turn.Cut stop (most - st.fuel.left - st.begun))) (record st { stopped = Some (Turn.Cut stop (most - st.fuel.left - st.begun)) })
stop_told accepted most st thread runs stop e =
    let turn : Turn = Turn.Cut stop (most - st.fuel.left - st.begun) in
    record {
      kept = kept_alike accepted most st st.records st.waits (Some turn) refl (λ place. refl) (omega arith) refl runs.kept;
      rest = rest_alike accepted most st st.records st.waits (Some turn) refl (λ place. refl) (omega arith) refl runs.kept;
      places = places_alike accepted most st st.records st.waits (Some turn) refl (λ place. refl) (omega arith) refl runs.kept;
      tells = subst (λ (m : Move). TellsIf m (Some turn) thread.number (machine_of most st) (held_in accepted most (record st { stopped = Some turn }))) (sym e) (refl, refl, refl, refl);
      goes = runs.is;
    }
