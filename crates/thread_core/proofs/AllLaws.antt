-- What is told of all threads is told of all who wait.
use Rattle.thread_core.proofs.Common.{◌≡◌, ℕ, zero, suc, ◌<◌, ◌≤◌, ◌⊎◌, ◌&&◌, ◌||◌, inl, inr, not, Bool, true, false, List, [], ◌∷◌, length, map, All, Contains, Option, Some, None, refl, sym, ◌∙◌, ap, subst, arith, nat_eq, if◌then◌else◌, slice_index_or, list_any, AllByRecursion, get_or_past, get_or-map, length-map, get, Acceptance, asleep_until, Thread, first_with, wait_at, Wait, IsOfRecord, thread_members, number_of, thread_of_record, threads_of, machine_of, setting_of, IsKept, Record, State, get_or_any, or_right, or_cases, past_or_not}
use Rattle.std.proofs.lemmas.List.Folds.{Any-from_list_any, list_any-from_Any}
use Rattle.thread_waits.specs.Waiting as waits
use Rattle.thread_core.specs.Ready as ready
use Rattle.thread_core.proofs.TellingLaws.{found_at, ready_at, accept_at}

both_ways : (a b : Bool) → (a ≡ true → b ≡ true) → (b ≡ true → a ≡ true) → a ≡ b
both_ways true b there back = sym (there refl)
both_ways false true there back = back refl
both_ways false false there back = refl

-- a thread of the list of which a fact holds that holds of all, and that passes the test
record Passing (P : Thread → Type 0) (test : Thread → Bool) : Type 0 where
  thread : Thread
  fact : P thread
  passes : test thread ≡ true

passing_by : (P : Thread → Type 0) (test : Thread → Bool) (thread : Thread) (threads : List Thread) → AllByRecursion P (thread ∷ threads) →
    (AllByRecursion P threads → list_any test threads ≡ true → Passing P test) → (test thread ≡ true) ⊎ (list_any test threads ≡ true) → Passing P test
passing_by P test thread threads all rest (inl e) = record { thread = thread; fact = all.0; passes = e }
passing_by P test thread threads all rest (inr e) = rest all.1 e

passing : (P : Thread → Type 0) (test : Thread → Bool) (threads : List Thread) → AllByRecursion P threads → list_any test threads ≡ true → Passing P test
passing P test [] all e = absurd (let f : false ≡ true = e in cc)
passing P test (thread ∷ threads) all e = passing_by P test thread threads all (passing P test threads) (or_cases (test thread) (list_any test threads) e)

found_any_by : (test : Thread → Bool) (first : Thread) (threads : List Thread) (number : ℕ) (thread : Thread) → test thread ≡ true → (first_with number threads ≡ Some thread → list_any test threads ≡ true) →
    (b : Bool) → nat_eq first.number number ≡ b → (if b then Some first else first_with number threads) ≡ Some thread → (test first || list_any test threads) ≡ true
found_any_by test first threads number thread t rest true n e = let same : first ≡ thread = cc in rw same (rw t refl)
found_any_by test first threads number thread t rest false n e = or_right (test first) (list_any test threads) (rest e)

found_contained_by : {X : Type 0} (f : Thread → X) (first : Thread) (threads : List Thread) (number : ℕ) (thread : Thread) → (first_with number threads ≡ Some thread → Contains (map f threads) (f thread)) →
    (b : Bool) → nat_eq first.number number ≡ b → (if b then Some first else first_with number threads) ≡ Some thread → Contains (f first ∷ map f threads) (f thread)
found_contained_by f first threads number thread rest true n e = let same : first ≡ thread = cc in (zero, omega arith, ap f same)
found_contained_by f first threads number thread rest false n e = let c : Contains (map f threads) (f thread) = rest e in (suc c.0, omega (arith, c.1), c.2)

contained_by : {X : Type 0} (P : Thread → Type 0) (f : Thread → X) (thread : Thread) (threads : List Thread) (x : X) → AllByRecursion P (thread ∷ threads) →
    (Contains (map f threads) x → (thread : Thread) × P thread × (f thread ≡ x)) → (k : ℕ) → k < suc (length (map f threads)) → slice_index_or (f thread ∷ map f threads) k x ≡ x → (thread : Thread) × P thread × (f thread ≡ x)
contained_by P f thread threads x all rest zero h e = (thread, all.0, e)
contained_by P f thread threads x all rest (suc k) h e = rest (k, omega arith, e)

all_of_by : (P Q : Thread → Type 0) (thread : Thread) (threads : List Thread) → ((thread : Thread) → P thread → Q thread) → AllByRecursion P (thread ∷ threads) → All Q threads →
    (k : ℕ) (d : Thread) → k < suc (length threads) → Q (slice_index_or (thread ∷ threads) k d)
all_of_by P Q thread threads f all rest zero d h = f thread all.0
all_of_by P Q thread threads f all rest (suc k) d h = rest k d (omega arith)

-- a thread that is found is one of the list
found_any : (test : Thread → Bool) (threads : List Thread) (number : ℕ) (thread : Thread) → first_with number threads ≡ Some thread → test thread ≡ true → list_any test threads ≡ true
found_any test [] number thread e t = absurd (let f : None ≡ Some thread = e in cc)
found_any test (first ∷ threads) number thread e t = found_any_by test first threads number thread t (λ f. found_any test threads number thread f t) (nat_eq first.number number) refl e

found_contained : {X : Type 0} (f : Thread → X) (threads : List Thread) (number : ℕ) (thread : Thread) → first_with number threads ≡ Some thread → Contains (map f threads) (f thread)
found_contained f [] number thread e = absurd (let g : None ≡ Some thread = e in cc)
found_contained f (first ∷ threads) number thread e = found_contained_by f first threads number thread (found_contained f threads number thread) (nat_eq first.number number) refl e

contained_passing : {X : Type 0} (P : Thread → Type 0) (f : Thread → X) (threads : List Thread) (x : X) → AllByRecursion P threads → Contains (map f threads) x → (thread : Thread) × P thread × (f thread ≡ x)
contained_passing P f [] x all c = absurd (omega (arith, c.1))
contained_passing P f (thread ∷ threads) x all c = contained_by P f thread threads x all (contained_passing P f threads x all.1) c.0 c.1 c.2

all_of : (P Q : Thread → Type 0) (threads : List Thread) → ((thread : Thread) → P thread → Q thread) → AllByRecursion P threads → All Q threads
all_of P Q [] f all = λ k d h. absurd (omega arith)
all_of P Q (thread ∷ threads) f all = λ k d h. all_of_by P Q thread threads f all (all_of P Q threads f all.1) k d h

wait_there : (places : List (Option Wait)) (k : ℕ) (wait : Wait) → slice_index_or places k None ≡ Some wait → (k < length places) ⊎ (length places ≤ k) → k < length places
wait_there places k wait e (inl h) = h
wait_there places k wait e (inr h) = absurd (let n : slice_index_or places k None ≡ None = get_or_past places k None h in let x : None ≡ Some wait = sym n ∙ e in cc)

some_or_none : {X : Type 0} (o : Option X) → (o ≡ None) ⊎ ((x : X) × (o ≡ Some x))
some_or_none None = inl refl
some_or_none (Some x) = inr (x, refl)

-- what passes a test that nobody passes is something
something : (test : Option Wait → Bool) → test None ≡ false → (o : Option Wait) → test o ≡ true → (wait : Wait) × (o ≡ Some wait)
something test none None e = absurd (let x : false ≡ true = sym none ∙ e in cc)
something test none (Some wait) e = (wait, refl)

module _ (accepted : Acceptance) (most : ℕ) (st : State) (kept : IsKept accepted most st) where
  members : AllByRecursion (IsOfRecord number_of (thread_of_record st.areas.pool st.waits) st.records.slots) (threads_of st)
  members = thread_members number_of (thread_of_record st.areas.pool st.waits) st.records.slots st.next

  -- where somebody waits there is a record
  record_there : (place : ℕ) (wait : Wait) → wait_at st.waits place ≡ Some wait → (get st.records place ≡ None) ⊎ ((r : Record) × (get st.records place ≡ Some r)) → (r : Record) × (get st.records place ≡ Some r)
  record_there place wait e (inl none) = absurd (let n : wait_at st.waits place ≡ None = kept.aligned.vacant place none in let x : None ≡ Some wait = sym n ∙ e in cc)
  record_there place wait e (inr some) = some

  any_there : (test : Thread → Bool) (of_wait : Option Wait → Bool) → of_wait None ≡ false →
      ((place : ℕ) (r : Record) → get st.records place ≡ Some r → test (thread_of_record st.areas.pool st.waits place r) ≡ of_wait (wait_at st.waits place)) →
      list_any test (threads_of st) ≡ true → list_any of_wait st.waits.places ≡ true
  any_there test of_wait none agree e =
      let p : Passing (IsOfRecord number_of (thread_of_record st.areas.pool st.waits) st.records.slots) test = passing (IsOfRecord number_of (thread_of_record st.areas.pool st.waits) st.records.slots) test (threads_of st) members e in
      let place : ℕ = p.fact.place in
      let passes : of_wait (wait_at st.waits place) ≡ true = sym (agree place p.fact.r p.fact.there) ∙ ap test (sym p.fact.is) ∙ p.passes in
      let s : (wait : Wait) × (wait_at st.waits place ≡ Some wait) = something of_wait none (wait_at st.waits place) passes in
      let h : place < length st.waits.places = wait_there st.waits.places place s.0 s.1 (past_or_not (length st.waits.places) place) in
      list_any-from_Any of_wait st.waits.places (place, wait_at st.waits place, h, get_or_any st.waits.places place (wait_at st.waits place) None h, passes)

  any_back : (test : Thread → Bool) (of_wait : Option Wait → Bool) → of_wait None ≡ false →
      ((place : ℕ) (r : Record) → get st.records place ≡ Some r → test (thread_of_record st.areas.pool st.waits place r) ≡ of_wait (wait_at st.waits place)) →
      list_any of_wait st.waits.places ≡ true → list_any test (threads_of st) ≡ true
  any_back test of_wait none agree e =
      let a : (k : ℕ) × (x : Option Wait) × (k < length st.waits.places) × (slice_index_or st.waits.places k x ≡ x) × (of_wait x ≡ true) = Any-from_list_any of_wait st.waits.places e in
      let is : wait_at st.waits a.0 ≡ a.1 = get_or_any st.waits.places a.0 None a.1 a.2 ∙ a.3 in
      let passes : of_wait (wait_at st.waits a.0) ≡ true = rw is a.4 in
      let s : (wait : Wait) × (wait_at st.waits a.0 ≡ Some wait) = something of_wait none (wait_at st.waits a.0) passes in
      let r : (r : Record) × (get st.records a.0 ≡ Some r) = record_there a.0 s.0 s.1 (some_or_none (get st.records a.0)) in
      found_any test (threads_of st) r.0.number (thread_of_record st.areas.pool st.waits a.0 r.0) (found_at accepted most st kept a.0 r.0 r.1) (agree a.0 r.0 r.1 ∙ passes)

  pub any_alike : (test : Thread → Bool) (of_wait : Option Wait → Bool) → of_wait None ≡ false →
      ((place : ℕ) (r : Record) → get st.records place ≡ Some r → test (thread_of_record st.areas.pool st.waits place r) ≡ of_wait (wait_at st.waits place)) →
      list_any of_wait st.waits.places ≡ list_any test (threads_of st)
  any_alike test of_wait none agree = both_ways (list_any of_wait st.waits.places) (list_any test (threads_of st)) (any_back test of_wait none agree) (any_there test of_wait none agree)

  pub any_ready_told : waits.any_ready_in st.exchange.caps st.exchange.exchange st.waits ≡ list_any (ready.is_ready_thread (setting_of accepted most st) (machine_of most st)) (threads_of st)
  any_ready_told = any_alike (ready.is_ready_thread (setting_of accepted most st) (machine_of most st)) (waits.is_ready_in st.exchange.caps st.exchange.exchange st.waits.clock) refl (ready_at accepted most st kept)

  pub any_elsewhere_told : waits.any_elsewhere_in st.exchange.caps st.exchange.exchange st.waits
      ≡ list_any (λ thread. ready.is_ready_thread (setting_of accepted most st) (machine_of most st) thread && not (ready.is_at_accept_thread thread)) (threads_of st)
  any_elsewhere_told = any_alike (λ thread. ready.is_ready_thread (setting_of accepted most st) (machine_of most st) thread && not (ready.is_at_accept_thread thread))
      (λ wait. waits.is_ready_in st.exchange.caps st.exchange.exchange st.waits.clock wait && not (waits.is_at_accept wait)) refl
      (λ place r e. rw (ready_at accepted most st kept place r e, accept_at accepted most st kept place r) refl)

  -- ---- sleepers

  -- until when a thread sleeps, and who waits
  abbrev sleeps : Thread → Option ℕ
  sleeps = λ thread. asleep_until (setting_of accepted most st) (machine_of most st) thread.blocked

  abbrev sleeps_so : Option Wait → Option ℕ
  sleeps_so = waits.sleeps_in st.exchange.caps st.exchange.exchange st.waits.clock

  asleep_by : (place : ℕ) (r : Record) (wait : Option Wait) → wait_at st.waits place ≡ wait → sleeps (thread_of_record st.areas.pool st.waits place r) ≡ sleeps_so wait
  asleep_by place r None e = rw e refl
  asleep_by place r (Some Wait.Fresh) e = rw e refl
  asleep_by place r (Some (Wait.At block since)) e = rw e refl

  asleep_at : (place : ℕ) (r : Record) → sleeps (thread_of_record st.areas.pool st.waits place r) ≡ sleeps_so (wait_at st.waits place)
  asleep_at place r = asleep_by place r (wait_at st.waits place) refl

  none_at : (place : ℕ) → All (λ wait. sleeps_so wait ≡ None) st.waits.places → (place < length st.waits.places) ⊎ (length st.waits.places ≤ place) → sleeps_so (wait_at st.waits place) ≡ None
  none_at place all (inl h) = all place None h
  none_at place all (inr h) = rw (get_or_past st.waits.places place None h) refl

  time_place : (place time : ℕ) → sleeps_so (wait_at st.waits place) ≡ Some time → (place < length st.waits.places) ⊎ (length st.waits.places ≤ place) → place < length st.waits.places
  time_place place time e (inl h) = h
  time_place place time e (inr h) = absurd (let n : sleeps_so (wait_at st.waits place) ≡ None = rw (get_or_past st.waits.places place None h) refl in let x : None ≡ Some time = sym n ∙ e in cc)

  sleeper : (o : Option Wait) (time : ℕ) → sleeps_so o ≡ Some time → (wait : Wait) × (o ≡ Some wait)
  sleeper None time e = absurd (let x : None ≡ Some time = e in cc)
  sleeper (Some wait) time e = (wait, refl)

  -- a time at which a thread wakes stands among the waits
  time_there : (time : ℕ) → Contains (map sleeps (threads_of st)) (Some time) → Contains (map sleeps_so st.waits.places) (Some time)
  time_there time c =
      let p : (thread : Thread) × IsOfRecord number_of (thread_of_record st.areas.pool st.waits) st.records.slots thread × (sleeps thread ≡ Some time) =
      contained_passing (IsOfRecord number_of (thread_of_record st.areas.pool st.waits) st.records.slots) sleeps (threads_of st) (Some time) members c in
      let place : ℕ = p.1.place in
      let e : sleeps_so (wait_at st.waits place) ≡ Some time = sym (asleep_at place p.1.r) ∙ ap sleeps (sym p.1.is) ∙ p.2 in
      let h : place < length st.waits.places = time_place place time e (past_or_not (length st.waits.places) place) in
      (place, rw length-map h, get_or-map sleeps_so st.waits.places place None (Some time) h ∙ e)

  -- and the other way round
  time_back : (time : ℕ) → Contains (map sleeps_so st.waits.places) (Some time) → Contains (map sleeps (threads_of st)) (Some time)
  time_back time c =
      let place : ℕ = c.0 in
      let h : place < length st.waits.places = rw length-map at c.1 in
      let e : sleeps_so (wait_at st.waits place) ≡ Some time = sym (get_or-map sleeps_so st.waits.places place None (Some time) h) ∙ c.2 in
      let s : (wait : Wait) × (wait_at st.waits place ≡ Some wait) = sleeper (wait_at st.waits place) time e in
      let r : (r : Record) × (get st.records place ≡ Some r) = record_there place s.0 s.1 (some_or_none (get st.records place)) in
      subst (λ (o : Option ℕ). Contains (map sleeps (threads_of st)) o) (asleep_at place r.0 ∙ e)
      (found_contained sleeps (threads_of st) r.0.number (thread_of_record st.areas.pool st.waits place r.0) (found_at accepted most st kept place r.0 r.1))

  pub wake_told : (result : Option ℕ) → waits.IsWake st.exchange.caps st.exchange.exchange st.waits result → ready.IsWake (setting_of accepted most st) (machine_of most st) result
  wake_told None all = all_of (IsOfRecord number_of (thread_of_record st.areas.pool st.waits) st.records.slots) (λ thread. sleeps thread ≡ None) (threads_of st)
      (λ thread of. ap sleeps of.is ∙ asleep_at of.place of.r ∙ none_at of.place all (past_or_not (length st.waits.places) of.place)) members
  wake_told (Some time) w = (time_back time w.0, λ other c. w.1 other (time_there other c))
