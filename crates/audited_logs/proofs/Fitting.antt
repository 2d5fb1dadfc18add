-- Each line that a reading allows fits the format, and leaves its state in range.
use Rattle.audited_logs.proofs.Common.{◌≡◌, ℕ, ◌+◌, ◌-◌, ◌^◌, ◌<◌, ◌≤◌, ℤ, pos, ◌-ℤ◌, unsigned_abs, Bool, true, false, ◌&&◌, nat_eq, List, [], ◌∷◌, ◌++◌, length, drop, Some, None, refl, sym, ap, ◌∙◌, subst, arith, rules, FitsSigned, filter, w32, AllByRecursion, sfits_to_z, ints, All-from_recursion, edges_of, keys_with, signed, to_z-signed, IsWellScoped, IsLawfulBy, is_eligible, delivery_of, item_of, received, edge_entry, Rule, by_graph, by_stride, is_ready, Waiter, uses_in, changes, newcomers, FitsKind, EventKind, IsComing, IsRun, StopsBy, Given, chunks_of, IsOut, IsBlock, IsEnd, IsClosed, rested, FitsItem, FitsEntry, FitsStop, Entry, Item, StopLine, AreCapsSmall, All-weaker, All-append}
use Rattle.c_mean.specs.World as source
use Rattle.c_mean.proofs.WorldStandLemmas.{blocked_stands}
use Rattle.event_trace.specs.declared.events.EventKind.TheVariants as events
use Rattle.lawful_reading.specs.State.{Segment, State, seen_of, start_of}
use Rattle.audited_logs.proofs.EdgeFits.{FitsRecord, edges_fit}
use Rattle.audited_logs.proofs.Keys.{key_fits}
use Rattle.audited_logs.proofs.Ranges.{latest, FitsWaiter, FitsSegment, FitsIf, InRange, all_filter, find_all, later_waiter, newcomers_fit, node_within, keys_within, clock_within}
use Rattle.audited_logs.proofs.Steps.{keeps_step, keeps_moves}
use Rattle.audited_logs.proofs.Uses.{Small, FitUses, delivery_fits, begun_fits, moves_fit, rest_fits, put_fits}
use Rattle.audited_logs.proofs.ReadWorlds.{after_more}
use Rattle.choice_rules.proofs.Changes.{drop_long}

-- ---- values

signed_fits : (value : ℕ) → value < 2 ^ 32 → FitsSigned w32 (signed value)
signed_fits value fits = subst (FitsSigned w32) (to_z-signed value fits) (sfits_to_z {w = w32} {n = value} (search (rules, fits)))

item_fits : (kind : EventKind) → FitsKind kind → FitsItem (item_of kind)
item_fits (events.Arrive value) fits = signed_fits value fits
item_fits (events.Message channel value) fits = (let few = fits.0 in omega (arith, few), signed_fits value fits.1)

-- the changes of small uses
change_fits : (old new : ℕ) → old ≤ 2 ^ 31 → new ≤ 2 ^ 31 → unsigned_abs (pos new -ℤ pos old) ≤ 2 ^ 31
change_fits old new h k = omega (arith, ints, h, k)

record FitChanges (values : List ℤ) (count : ℕ) : Type 0 where
  small : AllByRecursion (λ change. unsigned_abs change ≤ 2 ^ 31) values
  long : length values ≡ count

changes_fit : (old new : List ℕ) → Small old → Small new → length old ≡ length new → FitChanges (changes old new) (length old)
changes_fit [] [] h k same = record { small = tt; long = refl }
changes_fit (o ∷ old) (n ∷ new) h k same =
    let rest = changes_fit old new h.1 k.1 (omega (arith, same)) in
    let long = rest.long in
    record { small = (change_fits o n h.0 k.0, rest.small); long = omega (arith, long) }
changes_fit _ _ h k same = absurd (omega (arith, same))

-- the uses of all eight resources, where those of the exchange and the held chunks are small
rest_small : (uses : List ℕ) → Small uses → Small (drop 1 uses)
rest_small [] h = tt
rest_small (u ∷ uses) h = h.1

uses_small : (held : ℕ) (x : source.World) → held ≤ 131072 → FitUses x.exchange → Small (uses_in held x.exchange)
uses_small held x few fits = (omega (arith, few), rest_small x.exchange.uses fits.small)

uses_eight : (held : ℕ) (x : source.World) → FitUses x.exchange → length (uses_in held x.exchange) ≡ 8
uses_eight held x fits = let rest = drop_long x.exchange.uses fits.eight in omega (arith, rest)

-- the source's run of the segment's thread, and how many threads have started by its end
pub record Ran (g : Given) (b : State) (thread : ℕ) (world : source.World) (cost : ℕ) : Type 0 where
  pub runs : source.RunsTo g.program g.policy.caps b.source thread (record { trap = None; world = world })
  pub few : length world.threads ≤ b.cost + cost + 1

-- ---- what a given reading keeps

module _ (g : Given) (scoped : IsWellScoped g.program) (small : AreCapsSmall g.policy.caps) (fuel : g.policy.fuel ≤ 1000000000) (chunks : chunks_of g ≤ 131072) where
  abbrev Range : State → Type 0
  Range b = InRange g.program g.policy.caps b

  clock_fits : (b : State) (clock : ℕ) → Range b → clock ≤ latest b.cost → clock < 2 ^ 64
  clock_fits b clock range within = let cost = range.cost in omega (arith, within, cost)

  -- ---- what comes

  pub record Came (clock : ℕ) (item : Item) (after : State) : Type 0 where
    pub clock_small : clock < 2 ^ 64
    pub item_is : FitsItem item
    pub range : Range after

  received_uses : (drops : Bool) (world : source.World) (kind : EventKind) → FitUses world.exchange → FitUses (received drops world (delivery_of kind)).exchange
  received_uses true world kind fits = fits
  received_uses false world kind fits = delivery_fits world.exchange (delivery_of kind) fits

  record Led (world : source.World) : Type 0 where
    schedule : List source.Entry
    after : source.IsAfter g.program g.policy.caps (source.start_world g.program) schedule world

  received_led : (drops : Bool) (world : source.World) (kind : EventKind) → Led world → Led (received drops world (delivery_of kind))
  received_led true world kind led = led
  received_led false world kind led = record {
    schedule = led.schedule ++ source.Deliver (delivery_of kind) ∷ [];
    after = after_more g.program g.policy.caps (source.start_world g.program) world (received false world (delivery_of kind)) led.schedule (source.Deliver (delivery_of kind)) led.after refl;
  }

  pub came : (b after : State) (clock : ℕ) (item : Item) (drops : Bool) → IsComing g b clock item drops after → Range b → Came clock item after
  came b after clock item drops is range =
      let within = clock_within g.program g.policy.caps g.policy b (Some is.event) clock range is.delivery.point in
      let kind = is.delivery.point.next_is.line.spells.fits.kind in
      let led = received_led drops b.source is.event.kind (record { schedule = range.schedule; after = range.after }) in
      record {
        clock_small = clock_fits b clock range within;
        item_is = subst FitsItem (sym is.delivery.item_is) (item_fits is.event.kind kind);
        range = subst Range (sym is.after_is) (record {
          clock = within;
          cost = range.cost;
          held = range.held;
          lines = (let few = is.delivery.point.next_is.counted in omega (arith, few));
          waiting = range.waiting;
          keys = range.keys;
          records = range.records;
          count = range.count;
          exchange = received_uses drops b.source is.event.kind range.exchange;
          segment = range.segment;
          schedule = led.schedule;
          after = led.after;
        });
      }

  -- ---- the choice

  left_true : (a c : Bool) → (a && c) ≡ true → a ≡ true
  left_true true c e = refl
  left_true false c e = absurd (let no : false ≡ true = e in cc)

  -- the chosen thread waits, and is ready
  record IsReady (b : State) (clock : ℕ) (chosen : Waiter) : Type 0 where
    fits : FitsWaiter b.cost chosen
    ready : is_ready g.policy (seen_of b) clock chosen ≡ true

  ready_by : (b : State) (clock : ℕ) (chosen : Waiter) (rule : Rule) → AllByRecursion (FitsWaiter b.cost) b.waiting → IsLawfulBy rule g.policy (seen_of b) clock chosen → IsReady b clock chosen
  ready_by b clock chosen by_graph all is =
      let found = find_all (FitsWaiter b.cost) (is_eligible g.policy (seen_of b) clock) (filter (λ (w : Waiter). nat_eq w.node chosen.node) b.waiting) chosen (all_filter (FitsWaiter b.cost) (λ (w : Waiter). nat_eq w.node chosen.node) b.waiting all) is.first in
      record { fits = found.holds; ready = left_true (is_ready g.policy (seen_of b) clock chosen) _ found.passes }
  ready_by b clock chosen (by_stride tickets) all is =
      let found = find_all (FitsWaiter b.cost) (λ (w : Waiter). is_eligible g.policy (seen_of b) clock w && nat_eq w.thread chosen.thread) b.waiting chosen all is.first in
      record { fits = found.holds; ready = left_true (is_ready g.policy (seen_of b) clock chosen) _ (left_true (is_eligible g.policy (seen_of b) clock chosen) (nat_eq chosen.thread chosen.thread) found.passes) }

  pub record Chosen (clock thread node : ℕ) (after : State) : Type 0 where
    pub clock_small : clock < 2 ^ 64
    pub thread_small : thread < 2 ^ 32
    pub node_small : node < 2 ^ 32
    pub range : Range after

  pub chosen : (b after : State) (clock thread node : ℕ) → IsRun g b clock thread node after → (is_number : (here : source.Segment) → source.begun g.program g.policy.caps b.source thread ≡ Some here → here.number ≡ thread) → Range b → Chosen clock thread node after
  chosen b after clock thread node is is_number range =
      let within = clock_within g.program g.policy.caps g.policy b is.choice.next clock range is.choice.point in
      let ready = ready_by b clock is.chosen g.policy.rule range.waiting is.choice.lawful in
      let cost = range.cost in
      let number = ready.fits.thread in
      let place = ready.fits.node in
      let thread_is = is.thread_is in
      let node_is = is.node_is in
      let here_is = is_number is.here is.begins in
      let begins : source.begun g.program g.policy.caps b.source is.chosen.thread ≡ Some is.here = ap (λ (n : ℕ). source.begun g.program g.policy.caps b.source n) (sym is.thread_is) ∙ is.begins in
      record {
        clock_small = clock_fits b clock range within;
        thread_small = omega (arith, cost, number, thread_is);
        node_small = omega (arith, cost, place, node_is);
        range = subst Range (sym is.after_is) (record {
          clock = within;
          cost = range.cost;
          held = range.held;
          lines = range.lines;
          waiting = all_filter (FitsWaiter b.cost) _ b.waiting range.waiting;
          keys = range.keys;
          records = range.records;
          count = range.count;
          exchange = range.exchange;
          segment = record {
            node = place;
            thread = omega (arith, number, thread_is, here_is);
            small = uses_small b.held b.source range.held range.exchange;
            eight = uses_eight b.held b.source range.exchange;
            exchange = begun_fits g.program g.policy.caps b.source is.chosen.thread clock is.chosen.since is.here small range.exchange ready.ready begins;
          };
          schedule = range.schedule;
          after = range.after;
        });
      }

  -- ---- a segment

  under : (b : State) (segment : Segment) → b.segment ≡ Some segment → Range b → FitsSegment b.cost segment
  under b segment e range = subst (FitsIf b.cost) e range.segment

  pub record Put (thread : ℕ) (value : ℤ) (after : State) : Type 0 where
    pub thread_small : thread < 2 ^ 32
    pub value_small : FitsSigned w32 value
    pub range : Range after

  pub put : (b after : State) (thread : ℕ) (value : ℤ) (is : IsOut g b thread value after) → is.word < 2 ^ 32 → Range b → Put thread value after
  put b after thread value is word range =
      let fits = under b is.segment is.under_way range in
      let cost = range.cost in
      let number = fits.thread in
      let thread_is = is.thread_is in
      let silent = keeps_moves g.program g.policy.caps is.puts.before is.segment.here is.puts.here is.puts.silent.moved in
      let step = keeps_step g.program g.policy.caps is.puts.here _ is.puts.puts in
      let same : is.here.number ≡ is.segment.here.number = step.number ∙ silent.number in
      record {
        thread_small = omega (arith, cost, number, thread_is);
        value_small = subst (FitsSigned w32) (sym is.value_is) (signed_fits is.word word);
        range = subst Range (sym is.after_is) (record {
          clock = range.clock;
          cost = range.cost;
          held = range.held;
          lines = range.lines;
          waiting = range.waiting;
          keys = range.keys;
          records = range.records;
          count = range.count;
          exchange = range.exchange;
          segment = record {
            node = fits.node;
            thread = omega (arith, number, same);
            small = fits.small;
            eight = fits.eight;
            exchange = put_fits g.program g.policy.caps is.puts.here is.here is.puts.puts (moves_fit g.program g.policy.caps is.puts.before is.segment.here is.puts.here is.puts.silent.moved fits.exchange);
          };
          schedule = range.schedule;
          after = range.after;
        });
      }

  -- ---- the end of a segment

  module _ (b : State) (thread cost free steps : ℕ) (segment : Segment) (world : source.World) (closed : IsClosed g b thread cost free steps segment world) (ran : Ran g b thread world cost) (range : Range b) where
    total : b.cost + cost ≤ 1000000000
    total = let most = closed.possible.fuel in omega (arith, most, fuel)

    pub thread_small : thread < 2 ^ 32
    thread_small = let number = (under b segment closed.under_way range).thread in let is = closed.thread_is in let most = range.cost in omega (arith, number, is, most)

    pub cost_small : cost < 2 ^ 64
    cost_small = let all = total in omega (arith, all)

    pub free_small : free < 2 ^ 32
    free_small = let few = closed.possible.chunks in omega (arith, few, chunks)

    exchange_now : FitUses world.exchange
    exchange_now =
        let fits = under b segment closed.under_way range in
        rest_fits g.program g.policy.caps closed.rests.here (record { trap = None; world = world }) closed.rests.stops
        (moves_fit g.program g.policy.caps closed.rests.before segment.here closed.rests.here closed.rests.silent.moved fits.exchange)

    pub led : source.IsAfter g.program g.policy.caps (source.start_world g.program) (range.schedule ++ source.Run thread ∷ []) world
    led = after_more g.program g.policy.caps (source.start_world g.program) b.source world range.schedule (source.Run thread) range.after ran.runs

    held_now : chunks_of g - free ≤ 131072
    held_now = omega (arith, chunks)

    record_now : (node : ℕ) → node ≤ b.cost + 2 → FitsRecord (record { from = segment.node; to = node; cost = cost; change = changes segment.uses (uses_in (chunks_of g - free) world.exchange) })
    record_now node few =
        let fits = under b segment closed.under_way range in
        let first = fits.node in
        let most = range.cost in
        let all = total in
        let eight = uses_eight (chunks_of g - free) world exchange_now in
        let old = fits.eight in
        let change = changes_fit segment.uses (uses_in (chunks_of g - free) world.exchange) fits.small (uses_small (chunks_of g - free) world held_now exchange_now) (omega (arith, eight, old)) in
        record {
          from = omega (arith, first, most);
          to = omega (arith, few, most);
          range = record { cost = omega (arith, all); changes = All-from_recursion (λ z. unsigned_abs z ≤ 2 ^ 31) (changes segment.uses (uses_in (chunks_of g - free) world.exchange)) change.small };
          eight = change.long ∙ fits.eight;
        }

    one_longer : {X : Type 0} (xs : List X) (x : X) → length (xs ++ x ∷ []) ≡ length xs + 1
    one_longer [] x = refl
    one_longer (y ∷ xs) x = let rest = one_longer xs x in omega (arith, rest)

    pub rested_range : (node : ℕ) (joining : List Waiter) (keys : List (List ℕ)) → node ≤ b.cost + 2 → AllByRecursion (FitsWaiter (b.cost + cost)) joining → length keys ≤ b.cost + 1 → Range (rested g b segment node cost free steps world joining keys)
    rested_range node joining keys few all short =
        let some = closed.some in
        let clock = range.clock in
        let count = range.count in
        record {
          clock = omega (arith, clock, some);
          cost = total;
          held = held_now;
          lines = range.lines;
          waiting = All-append (FitsWaiter (b.cost + cost)) (b.waiting ++ newcomers b.source (length world.threads)) joining
              (All-append (FitsWaiter (b.cost + cost)) b.waiting (newcomers b.source (length world.threads))
              (All-weaker (FitsWaiter b.cost) (FitsWaiter (b.cost + cost)) (λ w fits. later_waiter b.cost (b.cost + cost) (omega arith) w fits) b.waiting range.waiting)
              (newcomers_fit (b.cost + cost) b.source (length world.threads) ran.few))
              all;
          keys = omega (arith, short, some);
          records = All-append FitsRecord b.past.records (_ ∷ []) range.records (record_now node few, tt);
          count = (let more = one_longer b.past.records (record { from = segment.node; to = node; cost = cost; change = changes segment.uses (uses_in (chunks_of g - free) world.exchange) }) in omega (arith, more, count, some));
          exchange = exchange_now;
          segment = tt;
          schedule = range.schedule ++ source.Run thread ∷ [];
          after = led;
        }

  pub record Closed (entry : Entry) (after : State) : Type 0 where
    pub fits : FitsEntry entry
    pub range : Range after

  pub blocked : (b after : State) (thread node : ℕ) (key : List ℕ) (cost free : ℕ) (is : IsBlock g b thread node key cost free after) → Ran g b thread is.world cost → Range b → Closed (Entry.Block thread node key cost free) after
  blocked b after thread node key cost free is ran range =
      let keys = range.keys in
      let some = is.closed.some in
      let clock = range.clock in
      let most = range.cost in
      let place : node ≤ b.cost + 2 = (let node_is = is.node_is in let within = node_within b.past.keys key in omega (arith, node_is, within, keys)) in
      let number : thread ≤ b.cost = (let own = (under b is.segment is.closed.under_way range).thread in let thread_is = is.closed.thread_is in omega (arith, own, thread_is)) in
      let led_now = led b thread cost free is.steps is.segment is.world is.closed ran range in
      let stands = blocked_stands g.program g.policy.caps (range.schedule ++ source.Run thread ∷ []) is.world thread is.block is.waiting led_now is.blocked in
      let joins : FitsWaiter (b.cost + cost) (record { thread = thread; node = node; since = b.clock + cost }) = record { since = omega (arith, clock, some); node = omega (arith, place, some); thread = omega (arith, number) } in
      let short : length (keys_with b.past.keys key) ≤ b.cost + 1 = (let more = keys_within b.past.keys key in omega (arith, more, keys)) in
      record {
        fits = (
          thread_small b thread cost free is.steps is.segment is.world is.closed ran range,
          omega (arith, place, most),
          subst Rattle.schedule_log.specs.EntryRanges.FitsKey (sym is.key_is) (key_fits g.program scoped is.waiting stands),
          cost_small b thread cost free is.steps is.segment is.world is.closed ran range,
          free_small b thread cost free is.steps is.segment is.world is.closed ran range,
        );
        range = subst Range (sym is.after_is) (rested_range b thread cost free is.steps is.segment is.world is.closed ran range node _ (keys_with b.past.keys key) place (joins, tt) short);
      }

  pub ended : (b after : State) (thread cost free : ℕ) (is : IsEnd g b thread cost free after) → Ran g b thread is.world cost → Range b → Closed (Entry.End thread cost free) after
  ended b after thread cost free is ran range = record {
    fits = (
      thread_small b thread cost free is.steps is.segment is.world is.closed ran range,
      cost_small b thread cost free is.steps is.segment is.world is.closed ran range,
      free_small b thread cost free is.steps is.segment is.world is.closed ran range,
    );
    range = subst Range (sym is.after_is) (rested_range b thread cost free is.steps is.segment is.world is.closed ran range 1 [] b.past.keys (omega arith) tt (let keys = range.keys in omega (arith, keys)));
  }

  -- ---- the end

  stop_fits : (b : State) (line : StopLine) (steps : ℕ) → StopsBy g b line steps → Range b → FitsStop line
  stop_fits b StopLine.Done steps is range = tt
  stop_fits b StopLine.Idle steps is range = tt
  stop_fits b (StopLine.Trace line) steps is range = by is.0.refused where
    lines : b.trace.lines ≤ 1000000
    lines = range.lines

    by : Rattle.choice_rules.specs.Trace.IsRefused b.trace line → line < 2 ^ 64
    by (Rattle.std.proofs.Common.inl refused) = let number = refused.number_is in let few = lines in omega (arith, number, few)
    by (Rattle.std.proofs.Common.inr refused) = let number = refused.2.number_is in let few = lines in omega (arith, number, few)
  stop_fits b (StopLine.Cut thread stop cost free) steps is range =
      let number = (under b is.segment is.under_way range).thread in
      let thread_is = is.thread_is in
      let now = range.cost in
      let most = is.possible.fuel in
      let few = is.possible.chunks in
      (omega (arith, number, thread_is, now), omega (arith, most, fuel), omega (arith, few, chunks))

  pub ending_fits : (b : State) (line : StopLine) (steps : ℕ) → StopsBy g b line steps → Range b → AllByRecursion FitsEntry (Rattle.std.specs.Prelude.map (edge_entry g.policy.caps) (edges_of b.past.records) ++ Entry.Stop line ∷ [])
  ending_fits b line steps is range =
      let cost = range.cost in
      let count = range.count in
      edges_fit g.policy.caps b.past.records range.records (omega (arith, cost, count)) (Entry.Stop line ∷ []) (stop_fits b line steps is range, tt)

  -- ---- the start

  pub starts : (trace : List ℕ) → Range (start_of g trace)
  starts trace = record {
    clock = omega arith;
    cost = omega arith;
    held = omega arith;
    lines = omega arith;
    waiting = (record { since = omega arith; node = omega arith; thread = omega arith }, tt);
    keys = omega arith;
    records = tt;
    count = omega arith;
    exchange = record { small = (omega arith, (omega arith, (omega arith, (omega arith, (omega arith, (omega arith, (omega arith, (omega arith, tt)))))))); eight = refl };
    segment = tt;
    schedule = [];
    after = refl;
  }
