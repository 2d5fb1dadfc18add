-- What is told of one thread is told of its record.
use Rattle.thread_core.proofs.Common.{◌≡◌, ◌≢◌, ℕ, ◌⊎◌, inl, inr, Bool, true, false, Option, Some, None, option_map, IsSome, refl, sym, ◌∙◌, ap, arith, nat_eq, if◌then◌else◌, slice_index_or, nat_tests, get, Block, ThreadId, Acceptance, Thread, Setting, first_with, wait_at, IsUntrapped, Wait, IsNumbered, thread_found, number_of, thread_of_record, threads_of, machine_of, setting_of, numbers_of, number_in, IsKept, RunsAt, IsRunningThere, wait_of, waits_for_in, is_same_number, passes, is_ready_thread, is_at_accept_thread, Record, State, self}
use Rattle.std.proofs.Math.ListN as list
use Rattle.thread_waits.specs.Waiting as waits
use Rattle.ready_tree.specs.declared.bounds.Bounds.{Bounds}
use Rattle.ready_tree.specs.declared.needs.Need.{Need}
use Rattle.ready_tree.specs.Needs.{is_met, is_arrival, is_same_need}
use Rattle.ready_tree.proofs.NeedLaws.{same_need, need_self}
use Rattle.thread_waits.specs.Needs.{need_for}
use Rattle.thread_core.specs.Needs.{waits_for_need, waits_to_go}

pub eq_cases : (a b : ℕ) → ((nat_eq a b ≡ true) × (a ≡ b)) ⊎ ((nat_eq a b ≡ false) × (a ≢ b))
eq_cases a b = grind (arith, nat_tests)

-- the number of the record at a place
pub number_at : (st : State) (place : ℕ) → slice_index_or (numbers_of st) place None ≡ option_map number_of (get st.records place)
number_at st place = list.get_or-map (option_map number_of) st.records.slots place None

by_same : (b c : Bool) → b ≡ true → (if b then c else false) ≡ c
by_same true c e = refl
by_same false c e = absurd (cc)

two_ways : (o : Option Wait) (wait : Wait) → o ≡ None → o ≡ Some wait → ⊥
two_ways None wait n e = cc
two_ways (Some other) wait n e = cc

none_some : (o : Option Wait) → o ≡ None → IsSome o → ⊥
none_some None e s = cc
none_some (Some wait) e s = cc

-- the thread that runs isn't that of a record at another place
not_by : (number n : ℕ) → ((nat_eq number n ≡ true) × (number ≡ n)) ⊎ ((nat_eq number n ≡ false) × (number ≢ n)) → ((number ≡ n) → ⊥) → nat_eq number n ≡ false
not_by number n (inl same) d = absurd (d same.1)
not_by number n (inr other) d = other.0

runs_not : (st : State) (running : Option ThreadId) → IsRunningThere st running → (place : ℕ) (r : Record) → IsNumbered number_of st.records.slots st.next → get st.records place ≡ Some r →
    (RunsAt running place → ⊥) → is_same_number (number_in running) r.number ≡ false
runs_not st None there place r numbered e here = refl
runs_not st (Some thread) there place r numbered e here =
    not_by thread.number r.number (eq_cases thread.number r.number) (λ same. here (numbered.unique thread.slot place there.0 r there.1 e (there.2 ∙ same)))

-- where the record at a place isn't the running thread's only if it runs elsewhere, it runs
runs_yes_by : (st : State) (thread : ThreadId) → IsRunningThere st (Some thread) → (place : ℕ) (r : Record) → get st.records place ≡ Some r → ((thread.slot ≡ place → ⊥) → ⊥) →
    ((nat_eq thread.slot place ≡ true) × (thread.slot ≡ place)) ⊎ ((nat_eq thread.slot place ≡ false) × (thread.slot ≢ place)) → nat_eq thread.number r.number ≡ true
runs_yes_by st thread there place r e here (inl same) =
    let s : Some there.0 ≡ Some r = sym there.1 ∙ ap (λ k. get st.records k) same.1 ∙ e in
    let n : there.0 ≡ r = cc in
    let m : thread.number ≡ r.number = sym there.2 ∙ ap (λ (x : Record). x.number) n in
    rw m (self r.number)
runs_yes_by st thread there place r e here (inr other) = absurd (here other.1)

runs_yes : (st : State) (running : Option ThreadId) → IsRunningThere st running → (place : ℕ) (r : Record) → get st.records place ≡ Some r → ((RunsAt running place → ⊥) → ⊥) → is_same_number (number_in running) r.number ≡ true
runs_yes st None there place r e here = absurd (here (λ runs. runs))
runs_yes st (Some thread) there place r e here = runs_yes_by st thread there place r e here (eq_cases thread.slot place)

module _ (accepted : Acceptance) (most : ℕ) (st : State) (kept : IsKept accepted most st) where
  -- the thread of a record is found by its number
  pub found_at : (place : ℕ) (r : Record) → get st.records place ≡ Some r → first_with r.number (threads_of st) ≡ Some (thread_of_record st.areas.pool st.waits place r)
  found_at place r e = thread_found number_of (thread_of_record st.areas.pool st.waits) st.records.slots st.next place r (λ k s. refl) kept.numbered e

  -- a test of a thread whose record stands at its place
  pub told : (test : Thread → Bool) (thread : ThreadId) (r : Record) → get st.records thread.slot ≡ Some r → r.number ≡ thread.number →
      (if is_same_number (slice_index_or (numbers_of st) thread.slot None) thread.number then passes test (first_with thread.number (threads_of st)) else false)
      ≡ test (thread_of_record st.areas.pool st.waits thread.slot r)
  told test thread r e n =
      let f : first_with thread.number (threads_of st) ≡ Some (thread_of_record st.areas.pool st.waits thread.slot r) = rw (← n) (found_at thread.slot r e) in
      rw (number_at st thread.slot, e, f) (by_same (nat_eq r.number thread.number) (test (thread_of_record st.areas.pool st.waits thread.slot r)) (rw n (self thread.number)))

  -- and of one that has none there
  pub untold : (test : Thread → Bool) (thread : ThreadId) → get st.records thread.slot ≡ None →
      (if is_same_number (slice_index_or (numbers_of st) thread.slot None) thread.number then passes test (first_with thread.number (threads_of st)) else false) ≡ false
  untold test thread e = rw (number_at st thread.slot, e) refl

  pub other_number : (test : Thread → Bool) (thread : ThreadId) (r : Record) → get st.records thread.slot ≡ Some r → nat_eq r.number thread.number ≡ false →
      (if is_same_number (slice_index_or (numbers_of st) thread.slot None) thread.number then passes test (first_with thread.number (threads_of st)) else false) ≡ false
  other_number test thread r e n = rw (number_at st thread.slot, e, n) refl

  -- ---- who runs

  -- who waits isn't the one that runs
  pub not_running : (place : ℕ) (r : Record) (wait : Wait) → get st.records place ≡ Some r → wait_at st.waits place ≡ Some wait → is_same_number (number_in st.running) r.number ≡ false
  not_running place r wait there waits =
      runs_not st st.running kept.running place r kept.numbered there (λ runs. two_ways (wait_at st.waits place) wait (kept.aligned.runs place runs) waits)

  -- who doesn't wait is
  pub is_running : (place : ℕ) (r : Record) → get st.records place ≡ Some r → wait_at st.waits place ≡ None → is_same_number (number_in st.running) r.number ≡ true
  is_running place r there none =
      runs_yes st st.running kept.running place r there (λ not_here. none_some (wait_at st.waits place) none (kept.aligned.waits place r there not_here))

  -- ---- ready, at a place

  abbrev setting : Setting
  setting = setting_of accepted most st

  ready_by : (place : ℕ) (r : Record) (wait : Option Wait) → get st.records place ≡ Some r → wait_at st.waits place ≡ wait →
      is_ready_thread setting (machine_of most st) (thread_of_record st.areas.pool st.waits place r) ≡ waits.is_ready_in st.exchange.caps st.exchange.exchange st.waits.clock wait
  ready_by place r None there e = rw (is_running place r there e) refl
  ready_by place r (Some Wait.Fresh) there e = rw (not_running place r Wait.Fresh there e, e) refl
  ready_by place r (Some (Wait.At block since)) there e = rw (not_running place r (Wait.At block since) there e, e) refl

  pub ready_at : (place : ℕ) (r : Record) → get st.records place ≡ Some r →
      is_ready_thread setting (machine_of most st) (thread_of_record st.areas.pool st.waits place r) ≡ waits.is_ready_in st.exchange.caps st.exchange.exchange st.waits.clock (wait_at st.waits place)
  ready_at place r there = ready_by place r (wait_at st.waits place) there refl

  accept_by : (place : ℕ) (r : Record) (wait : Option Wait) → wait_at st.waits place ≡ wait → is_at_accept_thread (thread_of_record st.areas.pool st.waits place r) ≡ waits.is_at_accept wait
  accept_by place r None e = rw e refl
  accept_by place r (Some Wait.Fresh) e = rw e refl
  accept_by place r (Some (Wait.At block since)) e = rw e refl

  pub accept_at : (place : ℕ) (r : Record) → is_at_accept_thread (thread_of_record st.areas.pool st.waits place r) ≡ waits.is_at_accept (wait_at st.waits place)
  accept_at place r = accept_by place r (wait_at st.waits place) refl

  -- ---- by what a thread waits for

  by_number : (test : Thread → Bool) (of_wait : Option Wait → Bool) → of_wait None ≡ false →
      ((place : ℕ) (r : Record) → get st.records place ≡ Some r → test (thread_of_record st.areas.pool st.waits place r) ≡ of_wait (wait_at st.waits place)) →
      (thread : ThreadId) (r : Record) → get st.records thread.slot ≡ Some r →
      ((nat_eq r.number thread.number ≡ true) × (r.number ≡ thread.number)) ⊎ ((nat_eq r.number thread.number ≡ false) × (r.number ≢ thread.number)) →
      (if is_same_number (slice_index_or (numbers_of st) thread.slot None) thread.number then passes test (first_with thread.number (threads_of st)) else false) ≡ of_wait (wait_of st thread (Some r))
  by_number test of_wait none agree thread r e (inl same) = told test thread r e same.1 ∙ agree thread.slot r e ∙ rw same.0 refl
  by_number test of_wait none agree thread r e (inr other) = other_number test thread r e other.0 ∙ rw other.0 (sym none)

  -- a test of a thread is one of what it waits for, where the two agree at each place, and fails where it has no record
  pub by_wait : (test : Thread → Bool) (of_wait : Option Wait → Bool) → of_wait None ≡ false →
      ((place : ℕ) (r : Record) → get st.records place ≡ Some r → test (thread_of_record st.areas.pool st.waits place r) ≡ of_wait (wait_at st.waits place)) →
      (thread : ThreadId) (o : Option Record) → get st.records thread.slot ≡ o →
      (if is_same_number (slice_index_or (numbers_of st) thread.slot None) thread.number then passes test (first_with thread.number (threads_of st)) else false) ≡ of_wait (wait_of st thread o)
  by_wait test of_wait none agree thread None e = untold test thread e ∙ sym none
  by_wait test of_wait none agree thread (Some r) e = by_number test of_wait none agree thread r e (eq_cases r.number thread.number)

  pub ready_told : (thread : ThreadId) →
      (if is_same_number (slice_index_or (numbers_of st) thread.slot None) thread.number then passes (is_ready_thread setting (machine_of most st)) (first_with thread.number (threads_of st)) else false)
      ≡ waits.is_ready_in st.exchange.caps st.exchange.exchange st.waits.clock (waits_for_in st thread)
  ready_told thread = by_wait (is_ready_thread setting (machine_of most st)) (waits.is_ready_in st.exchange.caps st.exchange.exchange st.waits.clock) refl ready_at thread (get st.records thread.slot) refl

  pub accept_told : (thread : ThreadId) →
      (if is_same_number (slice_index_or (numbers_of st) thread.slot None) thread.number then passes is_at_accept_thread (first_with thread.number (threads_of st)) else false)
      ≡ waits.is_at_accept (waits_for_in st thread)
  accept_told thread = by_wait is_at_accept_thread waits.is_at_accept refl (λ place r there. accept_at place r) thread (get st.records thread.slot) refl

  untrapped_if : (b : Bool) (wait : Option Wait) → IsUntrapped st.exchange wait → IsUntrapped st.exchange (if b then wait else None)
  untrapped_if true wait u = u
  untrapped_if false wait u = tt

  -- what a thread that waits waits for was no trap
  untrapped_of : (thread : ThreadId) (o : Option Record) → IsUntrapped st.exchange (wait_of st thread o)
  untrapped_of thread None = tt
  untrapped_of thread (Some r) = untrapped_if (nat_eq r.number thread.number) (wait_at st.waits thread.slot) (kept.aligned.untrapped thread.slot)

  pub untrapped_for : (thread : ThreadId) → IsUntrapped st.exchange (waits_for_in st thread)
  untrapped_for thread = untrapped_of thread (get st.records thread.slot)

  -- ---- needs

  -- what is waited for has this need
  abbrev has_need : Need → Option Wait → Bool
  has_need need None = false
  has_need need (Some wait) = is_same_need (need_for wait) need

  abbrev is_wait : Option Wait → Bool
  is_wait None = false
  is_wait (Some wait) = true

  need_by : (need : Need) (place : ℕ) (r : Record) (wait : Option Wait) → get st.records place ≡ Some r → wait_at st.waits place ≡ wait →
      waits_for_need (machine_of most st) need (thread_of_record st.areas.pool st.waits place r) ≡ has_need need wait
  need_by need place r None there e = rw (is_running place r there e) refl
  need_by need place r (Some Wait.Fresh) there e = rw (not_running place r Wait.Fresh there e, e) refl
  need_by need place r (Some (Wait.At block since)) there e = rw (not_running place r (Wait.At block since) there e, e) refl

  waits_by : (place : ℕ) (r : Record) (wait : Option Wait) → get st.records place ≡ Some r → wait_at st.waits place ≡ wait →
      waits_to_go (machine_of most st) (thread_of_record st.areas.pool st.waits place r) ≡ is_wait wait
  waits_by place r None there e = rw (is_running place r there e) refl
  waits_by place r (Some wait) there e = rw (not_running place r wait there e) refl

  pub need_told : (need : Need) (thread : ThreadId) →
      (if is_same_number (slice_index_or (numbers_of st) thread.slot None) thread.number then passes (waits_for_need (machine_of most st) need) (first_with thread.number (threads_of st)) else false)
      ≡ has_need need (waits_for_in st thread)
  need_told need thread = by_wait (waits_for_need (machine_of most st) need) (has_need need) refl (λ place r there. need_by need place r (wait_at st.waits place) there refl) thread (get st.records thread.slot) refl

  pub waits_told : (thread : ThreadId) →
      (if is_same_number (slice_index_or (numbers_of st) thread.slot None) thread.number then passes (waits_to_go (machine_of most st)) (first_with thread.number (threads_of st)) else false)
      ≡ is_wait (waits_for_in st thread)
  waits_told thread = by_wait (waits_to_go (machine_of most st)) is_wait refl (λ place r there. waits_by place r (wait_at st.waits place) there refl) thread (get st.records thread.slot) refl

  -- who waits has a need
  pub some_need : (wait : Option Wait) → is_wait wait ≡ true → option_map need_for wait ≡ None → ⊥
  some_need None waits e = cc
  some_need (Some wait) waits e = cc

  pub has_own : (need : Need) (wait : Option Wait) → option_map need_for wait ≡ Some need → has_need need wait ≡ true
  has_own need None e = absurd (cc)
  has_own need (Some wait) e = let same : need_for wait ≡ need = cc in rw same (need_self need)

  -- what a thread waits for stands at its place
  at_place_by : (b : Bool) (o : Option Wait) (wait : Wait) → (if b then o else None) ≡ Some wait → o ≡ Some wait
  at_place_by true o wait e = e
  at_place_by false o wait e = absurd (cc)

  at_place_of : (thread : ThreadId) (o : Option Record) (wait : Wait) → wait_of st thread o ≡ Some wait → wait_at st.waits thread.slot ≡ Some wait
  at_place_of thread None wait e = absurd (cc)
  at_place_of thread (Some r) wait e = at_place_by (nat_eq r.number thread.number) (wait_at st.waits thread.slot) wait e

  pub at_place : (thread : ThreadId) (wait : Wait) → waits_for_in st thread ≡ Some wait → wait_at st.waits thread.slot ≡ Some wait
  at_place thread wait e = at_place_of thread (get st.records thread.slot) wait e

  -- a need is met where who waits so is ready, and is an arrival where it is at `accept`
  pub met_for : (bounds : Bounds) (need : Need) (wait : Option Wait) →
      ((w : Wait) → wait ≡ Some w → is_met bounds (need_for w) ≡ waits.is_ready_for st.exchange.caps st.exchange.exchange st.waits.clock w) → has_need need wait ≡ true →
      waits.is_ready_in st.exchange.caps st.exchange.exchange st.waits.clock wait ≡ is_met bounds need
  met_for bounds need None met has = absurd (cc)
  met_for bounds need (Some wait) met has = sym (met wait refl) ∙ ap (λ (n : Need). is_met bounds n) (same_need (need_for wait) need has)

  arrival_of : (wait : Wait) → waits.is_at_accept (Some wait) ≡ is_arrival (need_for wait)
  arrival_of Wait.Fresh = refl
  arrival_of (Wait.At Block.Accept since) = refl
  arrival_of (Wait.At (Block.Wait channel) since) = refl
  arrival_of (Wait.At (Block.Sleep ticks) since) = refl
  arrival_of (Wait.At Block.Yield since) = refl
  arrival_of (Wait.At (Block.WaitFor channel ticks) since) = refl
  arrival_of (Wait.At (Block.Take resource amount) since) = refl

  pub arrival_for : (need : Need) (wait : Option Wait) → has_need need wait ≡ true → waits.is_at_accept wait ≡ is_arrival need
  arrival_for need None has = absurd (cc)
  arrival_for need (Some wait) has = arrival_of wait ∙ ap (λ (n : Need). is_arrival n) (same_need (need_for wait) need has)
