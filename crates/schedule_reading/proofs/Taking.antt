-- The lawful choice: which thread goes on, and from where.
use Rattle.schedule_reading.proofs.Common.{◌≡◌, ◌≢◌, ℕ, suc, ◌+◌, ◌-◌, ◌<◌, ◌≤◌, ◌||◌, ◌&&◌, not, Bool, true, false, List, [], ◌∷◌, ◌++◌, length, Option, Some, None, IsSome, option_to_list, find, refl, sym, ap, ◌∙◌, subst, arith, ⊎_elim, if◌then◌else◌, append-nil, length-set, ◌⊎◌, inl, inr, IfSome, IsTrue, count_by, is_some, slice_get, slice_index, list_any, eq-eqb, ne_eqb, Block, ThreadId, Running, source_resume, started, ProgramTree, begun, begun_at, IsLawful, IsLawfulBy, is_open, monitor_of, queue_at, observed, Rule, any_elsewhere, any_ready, at_accept, is_ready, Seen, Waiter, last_choice, newcomers, uses_in, uses_of, chosen_from, Given, lives, State, seen_of, gate_after, pressures, is_eligible, IsLawfulChoice, score, SchedulerState, IsNoted, IsTaken, last_of, queue_of, Choice, globals_of, running_of, waiting_of, Thread, Exchanging, row_of, Wait, Under, Rest, Slot, GoesOn, HasBegun, MayBegin, MayGo, Core, Chooses, Chosen, ChosenOther, AreThreads, CanGo, IsScheduled, IsSince, IsSlot, IsWaiter, RestsAs, StandsAt, StandsWithin, numbers_of, waiting_with, ThreadsState, WaitsAs, any_elsewhere_in, at_accept_in, at_place, is_ready_in, wait_of, waits_in, cap_in, used_in, IsPlaced, same_eight, drop_long, but, one_choice, both_left, same_or_not}
use Rattle.c_mean.specs.ModelledCalls.{Exchange, BlockingRow, blocking_row, is_past, use_of, wake_of}
use Rattle.c_mean.specs.World as source
use Rattle.choice_rules.specs.Choice as rules
use Rattle.choice_rules.specs.Clock.{latest as latest_of}
use Rattle.choice_rules.specs.Readiness as readiness
use Rattle.thread_waits.specs.Counted.{wake_of as wake_at}
use Rattle.thread_waits.specs.Waiting as waits_of
use Rattle.schedule_reading.specs.declared.threads.Rest.TheVariants as rest
use Rattle.schedule_reading.proofs.Any.{accept_agrees, any_elsewhere_same, ready_agrees}
use Rattle.schedule_reading.proofs.Beginning.{are_left, none_new, scheduled_left}
use Rattle.schedule_reading.proofs.Caps.{used_is, within_policy}
use Rattle.choice_rules.proofs.GraphChoices.{lawful_choice, some_choice}
use Rattle.choice_rules.proofs.GraphChoices as choosing
use Rattle.schedule_reading.proofs.Keeping.{of_with}
use Rattle.schedule_reading.proofs.Places.{At, placed_at, same_slot}
use Rattle.schedule_reading.proofs.Pointing.{ready_same}

-- ---- small things

since_some : (since : ℕ) (o : Option Wait) → IsSince since o → IsSome o
since_some since None is = absurd is
since_some since (Some wait) is = refl

add_one : (n : ℕ) → n + 1 ≡ suc n
add_one n = omega arith

find_on : (b : Bool) (test : ThreadId → Bool) (x : ThreadId) (xs : List ThreadId) (t : ThreadId) → test x ≡ b → (if b then Some x else find test xs) ≡ Some t → (find test xs ≡ Some t → test t ≡ true) → test t ≡ true
find_on true test x xs t e f later = let is : x ≡ t = cc in ap test (sym is) ∙ e
find_on false test x xs t e f later = later f

-- what is found passes
find_passes : (test : ThreadId → Bool) (xs : List ThreadId) (t : ThreadId) → find test xs ≡ Some t → test t ≡ true
find_passes test [] t e = absurd (cc)
find_passes test (x ∷ xs) t e = find_on (test x) test x xs t refl e (λ e'. find_passes test xs t e')

-- a call is ready now, or after some time
ready_by : (ready : Bool) (wait : Option ℕ) (since clock : ℕ) → (ready || is_past clock (wake_of since wait)) ≡ true → IsTrue (ready || is_some wait)
ready_by false None since clock e = absurd (cc)
ready_by _ _ since clock e = refl

ready_or_wait : (row : BlockingRow) (since clock : ℕ) → (row.ready || is_past clock (wake_of since row.wait)) ≡ true → IsTrue (row.ready || is_some row.wait)
ready_or_wait row since clock e = ready_by row.ready row.wait since clock e

-- the uses of the eight resources
row_uses : (caps : List ℕ) (x : Exchange) (block : Block) → length (blocking_row caps x block).after.uses ≡ length x.uses
row_uses caps x (Block.Take resource amount) = length-set x.uses resource (use_of x resource + amount)
row_uses caps x _ = refl

pub uses_are : (g : Given) (k : Core) (uses : List ℕ) → length uses ≡ 8 → length k.threads.exchange.exchange.uses ≡ 8 → ((r : ℕ) → r < 8 → slice_index uses r ≡ used_in k r) → uses ≡ uses_in (k.policy.chunks - k.free) k.threads.exchange.exchange
uses_are g k uses eight there same =
    same_eight uses (uses_in (k.policy.chunks - k.free) k.threads.exchange.exchange) eight
    (let seven = drop_long k.threads.exchange.exchange.uses there in omega (arith, seven)) (λ r below. same r below ∙ used_is k r)

-- ---- what is given

module _ (g : Given) (state : State) (k : Core) (chooses : Chooses g state k) (uses : List ℕ) (eight : length uses ≡ 8) (use_is : (r : ℕ) → r < 8 → slice_index uses r ≡ used_in k r) where
  abbrev now : ℕ
  now = k.threads.waits.clock

  stands : StandsAt g state now k
  stands = chooses.stands

  abbrev seen : Seen
  seen = seen_of state

  eight_uses : length k.threads.exchange.exchange.uses ≡ 8
  eight_uses = ap (λ (x : Exchange). length x.uses) stands.threads.exchange_is ∙ stands.threads.uses

  pub uses_now : uses ≡ uses_of seen
  uses_now =
      uses_are g k uses eight eight_uses use_is
      ∙ ap (λ (n : ℕ). uses_in (n - k.free) k.threads.exchange.exchange) stands.of.chunks
      ∙ ap (λ (n : ℕ). uses_in n k.threads.exchange.exchange) stands.counted.held
      ∙ ap (λ (x : Exchange). uses_in state.held x) stands.threads.exchange_is

  -- the monitor after it has seen them
  gate_now : gate_after k.monitor.high k.monitor.low k.monitor.is_open (pressures k.monitor.curves uses k.monitor.caps) ≡ is_open g.policy state.past
  gate_now =
      (λ i. gate_after (stands.of.high i) (stands.of.low i) k.monitor.is_open (pressures (stands.of.curves i) (uses_now i) (stands.of.monitor_caps i))) ∙ stands.gate

  pub monitor_is : observed k.monitor uses ≡ monitor_of g.policy seen
  monitor_is = λ i. record {
    curves = stands.of.curves i;
    caps = stands.of.monitor_caps i;
    high = stands.of.high i;
    low = stands.of.low i;
    uses = uses_now i;
    is_open = gate_now i;
  }

  -- ---- a thread of a queue, and who waits

  module _ (thread : ThreadId) (w : Waiter) (same : thread.number ≡ w.thread) (placed : IsPlaced (numbers_of k.threads.slots) thread) (is : IsWaiter k.threads.slots k.threads.waits.places w) where
    at : At k.threads.slots thread
    at = placed_at k.threads.slots thread placed

    its_place : is.has.place ≡ thread.slot
    its_place = stands.threads.are.one is.has.place thread.slot is.has.slot at.slot is.has.there at.there (is.has.number_is ∙ sym same ∙ sym at.number_is)

    own_wait : waits_in k.threads.slots k.threads.waits.places thread ≡ at_place k.threads.waits.places is.has.place
    own_wait =
        ap (λ (o : Option Slot). wait_of k.threads.waits.places thread o) at.there
        ∙ ap (λ (b : Bool). if b then at_place k.threads.waits.places thread.slot else None) (eq-eqb at.slot.number thread.number at.number_is)
        ∙ ap (at_place k.threads.waits.places) (sym its_place)

    pub ready_is : is_ready_in k.threads thread ≡ is_ready g.policy seen now w
    ready_is =
        ap (λ (o : Option Wait). waits_of.is_ready_in k.threads.exchange.caps k.threads.exchange.exchange now o) own_wait
        ∙ sym (ready_agrees g.program k.threads.slots k.threads.waits.places state.source.threads state.waiting stands.threads.are k.threads.exchange.caps k.threads.exchange.exchange now w is)
        ∙ ap (λ (caps : List ℕ). readiness.is_ready_at caps k.threads.exchange.exchange now w.since (slice_get state.source.threads w.thread)) stands.of.exchange_caps
        ∙ ap (λ (x : Exchange). readiness.is_ready_at g.policy.caps x now w.since (slice_get state.source.threads w.thread)) stands.threads.exchange_is

    pub accept_is : at_accept_in k.threads thread ≡ at_accept seen w
    accept_is =
        ap (λ (o : Option Wait). waits_of.is_at_accept o) own_wait
        ∙ sym (accept_agrees g.program k.threads.slots k.threads.waits.places state.source.threads state.waiting stands.threads.are w is)

  pub elsewhere_is : any_elsewhere_in k.threads ≡ any_elsewhere g.policy seen now
  elsewhere_is =
      ap (λ (caps : List ℕ). list_any (λ wait. waits_of.is_ready_in caps k.threads.exchange.exchange now wait && not (waits_of.is_at_accept wait)) k.threads.waits.places) stands.of.exchange_caps
      ∙ ap (λ (x : Exchange). list_any (λ wait. waits_of.is_ready_in g.policy.caps x now wait && not (waits_of.is_at_accept wait)) k.threads.waits.places) stands.threads.exchange_is
      ∙ any_elsewhere_same g.program k.threads.slots k.threads.waits.places state.source.threads state.waiting stands.threads.are g.policy.caps state.source.exchange now

  any_is : any_ready g.policy seen now ≡ true
  any_is = sym (ready_same g state now k stands) ∙ chooses.ready

  -- ---- the scheduler's choice

  abbrev tests : ThreadId → Bool
  tests = is_eligible (is_ready_in k.threads) (at_accept_in k.threads) (any_elsewhere_in k.threads) (observed k.monitor uses).is_open

  abbrev LawfulIn : Option Choice → Type 0
  LawfulIn choice = IsLawfulChoice (queue_of k.scheduler) tests (score (observed k.monitor uses) k.graph.edges) (last_of k.scheduler) choice

  pub some_taken : LawfulIn None → ⊥
  some_taken none =
      some_choice g.policy seen now (numbers_of k.threads.slots) k.scheduler (IsWaiter k.threads.slots k.threads.waits.places) stands.threads.are.waiters stands.scheduled.queued
      (is_ready_in k.threads) (at_accept_in k.threads) (any_elsewhere_in k.threads) (observed k.monitor uses) k.graph.edges ready_is accept_is elsewhere_is monitor_is stands.past.edges stands.past.lasts any_is none

  module _ (choice : Choice) (lawful : LawfulIn (Some choice)) where
    abbrev PickedBy : Type 0
    PickedBy = choosing.Chosen g.policy seen now (numbers_of k.threads.slots) k.scheduler (IsWaiter k.threads.slots k.threads.waits.places) stands.threads.are.waiters stands.scheduled.queued
        (is_ready_in k.threads) (at_accept_in k.threads) (any_elsewhere_in k.threads) (observed k.monitor uses) k.graph.edges ready_is accept_is elsewhere_is monitor_is stands.past.edges stands.past.lasts choice

    picked : PickedBy
    picked = lawful_choice g.policy seen now (numbers_of k.threads.slots) k.scheduler (IsWaiter k.threads.slots k.threads.waits.places) stands.threads.are.waiters stands.scheduled.queued
        (is_ready_in k.threads) (at_accept_in k.threads) (any_elsewhere_in k.threads) (observed k.monitor uses) k.graph.edges ready_is accept_is elsewhere_is monitor_is stands.past.edges stands.past.lasts choice lawful

    is_lawful : IsLawful g.policy seen now picked.waiter
    is_lawful = subst (λ (r : Rule). IsLawfulBy r g.policy seen now picked.waiter) (sym stands.of.rule) picked.lawful

    -- another line isn't that of the choice
    pub other : (thread node : ℕ) → (choice.thread.number ≡ thread → choice.node ≡ node → ⊥) → ChosenOther g state k thread node
    other thread node never chosen is thread_is node_is =
        let same : picked.waiter ≡ chosen = one_choice g.policy seen now picked.waiter chosen is_lawful is in
        never (picked.thread_is ∙ ap (λ (w : Waiter). w.thread) same ∙ sym thread_is) (picked.node_is ∙ ap (λ (w : Waiter). w.node) same ∙ sym node_is)

    -- ---- where its thread stands

    place : At k.threads.slots choice.thread
    place = placed_at k.threads.slots choice.thread picked.placed

    own : IsSlot g.program k.threads.waits.places state.source.threads choice.thread.slot place.slot
    own = stands.threads.are.each choice.thread.slot place.slot place.there

    waits_here : IsSince picked.waiter.since (at_place k.threads.waits.places choice.thread.slot)
    waits_here = subst (λ (n : ℕ). IsSince picked.waiter.since (at_place k.threads.waits.places n))
        (its_place choice.thread picked.waiter picked.thread_is picked.placed picked.holds) picked.holds.since

    chosen_ready : is_ready_in k.threads choice.thread ≡ true
    chosen_ready = both_left (is_ready_in k.threads choice.thread) (not (at_accept_in k.threads choice.thread) || ((observed k.monitor uses).is_open || not (any_elsewhere_in k.threads)))
        (find_passes tests (queue_of k.scheduler choice.node) choice.thread lawful.first)

    ready_here : waits_of.is_ready_in k.threads.exchange.caps k.threads.exchange.exchange now (at_place k.threads.waits.places choice.thread.slot) ≡ true
    ready_here =
        ap (λ (n : ℕ). waits_of.is_ready_in k.threads.exchange.caps k.threads.exchange.exchange now (at_place k.threads.waits.places n)) (sym (its_place choice.thread picked.waiter picked.thread_is picked.placed picked.holds))
        ∙ ap (λ (o : Option Wait). waits_of.is_ready_in k.threads.exchange.caps k.threads.exchange.exchange now o) (sym (own_wait choice.thread picked.waiter picked.thread_is picked.placed picked.holds)) ∙ chosen_ready

    goes_by : (r : Rest) → CanGo g.program r → WaitsAs r (at_place k.threads.waits.places choice.thread.slot) → MayGo g.program k.threads.exchange k.words r
    goes_by (rest.Fresh function argument) can waits = can
    goes_by (rest.Blocked block thread) can waits = (
      ready_or_wait (row_of k.threads.exchange block) waits.0 now
          (ap (λ (o : Option Wait). waits_of.is_ready_in k.threads.exchange.caps k.threads.exchange.exchange now o) (sym waits.1) ∙ ready_here),
      can k.words stands.full,
    )
    goes_by rest.Away can waits = absurd (subst (IsSince picked.waiter.since) waits waits_here)

    pub may_begin : (tree : ProgramTree) → tree ≡ g.program → MayBegin tree k.threads k.words choice.thread
    may_begin tree e = subst (λ (t : ProgramTree). MayBegin t k.threads k.words choice.thread) (sym e) (record {
      slot = place.slot;
      there = place.there;
      waits = since_some picked.waiter.since (at_place k.threads.waits.places choice.thread.slot) waits_here;
      waits_as = own.waits;
      full = stands.full;
      may = goes_by place.slot.rest own.can_go own.waits;
    })

    -- ---- and its segment

    pub record Begins (number : ℕ) (running : Running) (exchange : Exchange) : Type 0 where
      pub here : source.Segment
      pub begins : begun g.program g.policy.caps state.source number ≡ Some here
      pub number_is : here.number ≡ number
      pub running_is : running ≡ here.running
      pub threads_are : here.world.threads ≡ state.source.threads
      pub exchange_is : exchange ≡ here.world.exchange
      pub eight_then : length here.world.exchange.uses ≡ 8

    module _ (threads : ThreadsState) (words : List ℕ) (thread : Thread) (begun_is : HasBegun g.program k.threads k.words threads words choice.thread thread) where
      same_place : begun_is.slot ≡ place.slot
      same_place = same_slot k.threads.slots choice.thread.slot begun_is.slot place.slot begun_is.was place.there

      number_here : slice_get state.source.threads choice.thread.number ≡ Some own.there
      number_here = ap (slice_get state.source.threads) (sym place.number_is) ∙ own.is_there

      begins_at : (r : Rest) (there : source.Rest) → slice_get state.source.threads choice.thread.number ≡ Some there → RestsAs g.program r there → GoesOn g.program r k.threads.exchange k.words threads.exchange words thread →
          Begins choice.thread.number (running_of g.program thread words) threads.exchange.exchange
      begins_at (rest.Fresh function argument) there e rests goes = record {
        here = record { number = choice.thread.number; running = started g.program function (option_to_list argument) state.source.globals; world = state.source };
        begins = ap (λ (o : Option source.Rest). begun_at g.program g.policy.caps state.source choice.thread.number o) (e ∙ ap (λ (x : source.Rest). Some x) rests);
        number_is = refl;
        running_is = goes.0 ∙ ap (λ (gs : List (List ℕ)). started g.program function (option_to_list argument) gs) stands.globals;
        threads_are = refl;
        exchange_is = ap (λ (x : Exchanging). x.exchange) goes.2 ∙ stands.threads.exchange_is;
        eight_then = stands.threads.uses;
      }
      begins_at (rest.Blocked block blocked) there e rests goes =
          let row_is : row_of k.threads.exchange block ≡ blocking_row g.policy.caps state.source.exchange block =
          ap (λ (caps : List ℕ). blocking_row caps k.threads.exchange.exchange block) stands.of.exchange_caps ∙ ap (λ (x : Exchange). blocking_row g.policy.caps x block) stands.threads.exchange_is in
          record {
            here = record {
              number = choice.thread.number;
              running = source_resume (waiting_of g.program blocked) (record { result = (blocking_row g.policy.caps state.source.exchange block).result; globals = state.source.globals });
              world = record state.source { exchange = (blocking_row g.policy.caps state.source.exchange block).after };
            };
            begins = ap (λ (o : Option source.Rest). begun_at g.program g.policy.caps state.source choice.thread.number o) (e ∙ ap (λ (x : source.Rest). Some x) rests);
            number_is = refl;
            running_is = goes.0
                ∙ ap (λ (row : BlockingRow). source_resume (waiting_of g.program blocked) (record { result = row.result; globals = globals_of g.program k.words })) row_is
                ∙ ap (λ (gs : List (List ℕ)). source_resume (waiting_of g.program blocked) (record { result = (blocking_row g.policy.caps state.source.exchange block).result; globals = gs })) stands.globals;
            threads_are = refl;
            exchange_is = ap (λ (x : Exchanging). x.exchange) goes.1 ∙ ap (λ (row : BlockingRow). row.after) row_is;
            eight_then = row_uses g.policy.caps state.source.exchange block ∙ stands.threads.uses;
          }
      begins_at rest.Away there e rests goes = absurd goes

      begins_now : Begins choice.thread.number (running_of g.program thread words) threads.exchange.exchange
      begins_now = begins_at place.slot.rest own.there number_here own.rests_as (subst (λ (s : Slot). GoesOn g.program s.rest k.threads.exchange k.words threads.exchange words thread) same_place begun_is.goes_on)

      -- ---- what is kept then

      module _ (scheduler : SchedulerState) (noted : IsNoted k.scheduler scheduler choice) (taken : IsTaken k.scheduler scheduler choice) (within : (r : ℕ) → r < 8 → slice_index uses r ≤ cap_in k r) where
        abbrev new : Core
        new = record k { words = words; threads = threads; scheduler = scheduler; monitor = observed k.monitor uses }

        abbrev under : Under
        under = record { choice = choice; before = uses; thread = thread }

        abbrev after : State
        after = chosen_from state now picked.waiter begins_now.here

        same_number : choice.thread.number ≡ picked.waiter.thread
        same_number = picked.thread_is

        waiting_is : waiting_with after begins_now.here.world.threads ≡ but choice.thread.number state.waiting
        waiting_is =
            ap (λ (l : List source.Rest). but picked.waiter.thread state.waiting ++ newcomers state.source (length l)) begins_now.threads_are
            ∙ ap (λ (l : List Waiter). but picked.waiter.thread state.waiting ++ l) (none_new state.source)
            ∙ append-nil (but picked.waiter.thread state.waiting) ∙ ap (λ (n : ℕ). but n state.waiting) (sym same_number)

        slot_number : begun_is.slot.number ≡ choice.thread.number
        slot_number = ap (λ (s : Slot). s.number) same_place ∙ place.number_is

        threads_left : AreThreads g.program threads.slots threads.waits.places state.source.threads (but choice.thread.number state.waiting)
        threads_left = are_left g.program k.threads threads state.source.threads state.waiting choice.thread begun_is.slot stands.threads.are begun_is.was slot_number begun_is.away begun_is.waits begun_is.others

        last_is : (node : ℕ) → last_of scheduler node ≡ last_choice after.past.taken node
        last_is node = ⊎_elim
            (λ (here : node ≡ choice.node).
            ap (last_of scheduler) here ∙ noted.last ∙ ap (λ (n : ℕ). n + 1) stands.past.taken
            ∙ add_one (length state.past.taken) ∙ sym (ap (λ (b : Bool). if b then suc (length state.past.taken) else last_choice state.past.taken node) (eq-eqb picked.waiter.node node (sym picked.node_is ∙ sym here))))
            (λ apart.
            noted.other_lasts node apart ∙ stands.past.lasts node
            ∙ sym (ap (λ (b : Bool). if b then suc (length state.past.taken) else last_choice state.past.taken node) (ne_eqb picked.waiter.node node (λ e. apart (sym e ∙ sym picked.node_is)))))
            (same_or_not node choice.node)

        stands_within : StandsWithin g after new under
        stands_within = record {
          of = of_with g k new refl refl begun_is.caps begun_is.backlog (record { curves = refl; caps = refl; high = refl; low = refl }) stands.of;
          counted = record {
            cost = stands.counted.cost;
            most_cost = stands.counted.most_cost;
            free = stands.counted.free;
            held = stands.counted.held;
            left = stands.counted.left;
            starts = let first = stands.counted.starts in let same = begun_is.next in omega (arith, first, same);
          };
          segment = record { node = picked.waiter.node; uses = uses_of seen; here = begins_now.here };
          under_way = refl;
          clock_is = begun_is.clock;
          runs = record {
            beside = record {
              are = record {
                exchange_is = begins_now.exchange_is;
                uses = begins_now.eight_then;
                count = begun_is.next ∙ stands.threads.count ∙ ap (λ (l : List source.Rest). length l) (sym begins_now.threads_are);
                live = begun_is.live ∙ stands.threads.live ∙ ap (λ (l : List source.Rest). count_by lives l) (sym begins_now.threads_are);
                are = subst (λ (l : List source.Rest). AreThreads g.program threads.slots threads.waits.places l (waiting_with after begins_now.here.world.threads)) (sym begins_now.threads_are)
                    (subst (λ (ws : List Waiter). AreThreads g.program threads.slots threads.waits.places state.source.threads ws) (sym waiting_is) threads_left);
              };
              started = let same = ap (λ (l : List source.Rest). length l) begins_now.threads_are in omega (arith, same);
              away = record begun_is.slot { rest = rest.Away };
              away_there = begun_is.away;
              away_number = slot_number ∙ sym begins_now.number_is;
              away_waits = begun_is.waits;
              resting = λ p s apart e.
                  subst (λ (o : Option Wait). IsSome o) (sym (begun_is.others.waits p apart)) (stands.resting p s (sym (begun_is.others.slots p apart) ∙ e));
              number_is = sym begins_now.number_is;
              scheduled = subst (λ (ws : List Waiter). IsScheduled threads.slots threads.waits.places scheduler ws) (sym waiting_is)
                  (scheduled_left g.program k.threads threads state.source.threads state.waiting choice.thread begun_is.slot stands.threads.are begun_is.was slot_number begun_is.away begun_is.waits begun_is.others
                  k.scheduler scheduler choice.node noted taken tests (rules.is_eligible g.policy seen now) picked.waiter lawful.first
                  (subst (λ (n : ℕ). find (rules.is_eligible g.policy seen now) (queue_at seen n) ≡ Some picked.waiter) (sym picked.node_is) picked.lawful.first) same_number stands.scheduled);
            };
            thread = begun_is.thread_is;
            running = begins_now.running_is;
          };
          node_is = picked.node_is;
          before_is = uses_now;
          within_caps = within_policy g k uses stands.of within;
          past = record {
            lasts = last_is;
            taken = noted.noted ∙ ap (λ (n : ℕ). n + 1) stands.past.taken ∙ add_one (length state.past.taken);
            noted = let more = noted.noted in let most = stands.past.noted in omega (arith, more, most);
            graph_keys = stands.past.graph_keys;
            edges = stands.past.edges;
            records = stands.past.records;
            keys = stands.past.keys;
          };
          gate = gate_now;
          timely = record {
            clock_is = let same = begun_is.clock in let most = stands.timely.clock_is in omega (arith, same, most);
            sleepers = λ p. sleeps p (same_or_not p choice.thread.slot);
          };
        } where
          sleeps : (p : ℕ) → (p ≡ choice.thread.slot) ⊎ (p ≢ choice.thread.slot) → IfSome (wake_at (at_place threads.waits.places p)) (λ time. time ≤ latest_of k.cost)
          sleeps p (inl e) = subst (λ (o : Option Wait). IfSome (wake_at o) (λ time. time ≤ latest_of k.cost)) (sym (ap (at_place threads.waits.places) e ∙ begun_is.waits)) tt
          sleeps p (inr apart) = subst (λ (o : Option Wait). IfSome (wake_at o) (λ time. time ≤ latest_of k.cost)) (sym (begun_is.others.waits p apart)) (stands.timely.sleepers p)

        pub chosen : (thread_line node_line : ℕ) → choice.thread.number ≡ thread_line → choice.node ≡ node_line → Chosen g state k thread_line node_line new under
        chosen thread_line node_line p q = record {
          chosen = picked.waiter;
          lawful = is_lawful;
          thread_is = sym p ∙ picked.thread_is;
          node_is = sym q ∙ picked.node_is;
          here = begins_now.here;
          begins = ap (begun g.program g.policy.caps state.source) (sym p) ∙ begins_now.begins;
          stands = stands_within;
        }
