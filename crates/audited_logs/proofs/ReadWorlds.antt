-- Where the lines of a log have led as they are read, the source's world is the one under the schedule that they print.
use Rattle.audited_logs.proofs.Common.{◌≡◌, ℕ, Bool, false, true, List, [], ◌∷◌, ◌++◌, append_assoc, append-nil, map, Option, Some, None, refl, sym, ap, ◌∙◌, subst, is_some, map-append, same_Some, SegmentRecord, ProgramTree, Delivery, with_delivery, delivery_of, received, delivered, IsComing, Given, chunks_of, IsAllowed, Leads, nowhere, by_line, IsBlock, IsEnd, IsClosed, Entry, Item, delivered_is}
use Rattle.c_mean.specs.World as source
use Rattle.lawful_reading.specs.State.{Segment, State, start_of}
use Rattle.audited_logs.specs.Printed.{schedule_of, costs_of, clock_after, held_after, IsPrintedChoice, AreLawfulChoices}
use Rattle.audited_logs.proofs.ReadRuns.{IsUnderWay, at_first, puts_on, rests_on}

-- ---- schedules

-- one entry more of a schedule
pub after_more : (p : ProgramTree) (caps : List ℕ) (start world after : source.World) (schedule : List source.Entry) (entry : source.Entry) → source.IsAfter p caps start schedule world → source.IsAfterEntry p caps world entry after → source.IsAfter p caps start (schedule ++ entry ∷ []) after
after_more p caps start world after [] entry is step = (after, subst (λ (x : source.World). source.IsAfterEntry p caps x entry after) is step, refl)
after_more p caps start world after (first ∷ schedule) entry is step = (is.0, is.1, after_more p caps is.0 world after schedule entry is.2 step)

-- ---- line by line

abbrev costs_in : State → List ℕ
costs_in state = map (λ (segment : SegmentRecord). segment.cost) state.past.records

pub none_under : (o : Option Segment) (segment : Segment) → is_some o ≡ false → o ≡ Some segment → ⊥
none_under None segment between e = absurd (let wrong : ◌≡◌ {A = Option Segment} None (Some segment) = e in cc)
none_under (Some other) segment between e = absurd (let wrong : true ≡ false = between in cc)

module _ (g : Given) where
  abbrev pub caps : List ℕ
  caps = g.policy.caps

  abbrev pub Comes : List source.Entry → source.World → Type 0
  Comes schedule world = source.IsAfter g.program caps (source.start_world g.program) schedule world

  -- the segment under way is the source's run of its thread
  abbrev pub IsFollowed : State → Type 0
  IsFollowed state = (segment : Segment) → state.segment ≡ Some segment → IsUnderWay g.program caps state.source segment.here

  pub start_followed : (trace : List ℕ) → IsFollowed (start_of g trace)
  start_followed trace segment under = absurd (let wrong : ◌≡◌ {A = Option Segment} None (Some segment) = under in cc)

  -- where a segment has ended, its thread has run
  pub ran : (before : State) (thread cost free steps : ℕ) (segment : Segment) (world : source.World) → IsFollowed before → IsClosed g before thread cost free steps segment world →
      source.IsAfterEntry g.program caps before.source (source.Run thread) world
  ran before thread cost free steps segment world followed closed =
      let at = followed segment closed.under_way in
      let runs = rests_on g.program caps before.source segment.here steps (record { trap = None; world = world }) at closed.rests in
      subst (λ (t : ℕ). source.RunsTo g.program caps before.source t (record { trap = None; world = world })) (sym closed.thread_is) runs

  -- what a line delivers
  pub delivers : (before after : State) (clock : ℕ) (item : Item) (drops : Bool) → (is : IsComing g before clock item drops after) → delivered item ≡ delivery_of is.event.kind
  delivers before after clock item drops is =
      let point = is.delivery.point in
      ap delivered is.delivery.item_is ∙ delivered_is is.event.kind point.next_is.line.spells.fits.kind

  -- ---- the segment under way

  pub follow_on : (before after : State) (entry : Entry) → IsAllowed g before entry after → IsFollowed before → IsFollowed after
  follow_on before after (Entry.Event clock item) is at = subst IsFollowed (sym is.after_is) (λ segment under. absurd (none_under before.segment segment is.delivery.point.between under))
  follow_on before after (Entry.Dropped clock item) is at = subst IsFollowed (sym is.after_is) (λ segment under. absurd (none_under before.segment segment is.delivery.point.between under))
  follow_on before after (Entry.Run clock thread node) is at =
      subst IsFollowed (sym is.after_is)
      (λ segment under. subst (λ (s : Segment). IsUnderWay g.program caps before.source s.here) (same_Some _ segment under) (at_first g.program caps before.source thread is.here is.begins))
  follow_on before after (Entry.Out thread value) is at =
      subst IsFollowed (sym is.after_is)
      (λ segment under. subst (λ (s : Segment). IsUnderWay g.program caps before.source s.here) (same_Some _ segment under)
      (puts_on g.program caps before.source is.segment.here is.steps is.word is.here (at is.segment is.under_way) is.puts))
  follow_on before after (Entry.Edge from to count cost changes) is at = subst IsFollowed (sym is.after_is) at
  follow_on before after _ is at =
      subst IsFollowed (sym is.after_is) (λ segment under. absurd (let wrong : ◌≡◌ {A = Option Segment} None (Some segment) = under in cc))

  -- ---- what has been printed

  record Reads (before : State) (entries : List Entry) (after : State) : Type 0 where
    source : (schedule : List source.Entry) → Comes schedule before.source → Comes (schedule ++ schedule_of entries) after.source
    costs : costs_in after ≡ costs_in before ++ costs_of entries
    clock : after.clock ≡ clock_after before.clock entries
    held : after.held ≡ held_after (chunks_of g) before.held entries

  -- one entry of the schedule more
  more_on : (schedule rest : List source.Entry) (entry : source.Entry) (before between after : source.World) → Comes schedule before → source.IsAfterEntry g.program caps before entry between →
      (Comes (schedule ++ entry ∷ []) between → Comes ((schedule ++ entry ∷ []) ++ rest) after) → Comes (schedule ++ entry ∷ rest) after
  more_on schedule rest entry before between after at step on =
      subst (λ (s : List source.Entry). Comes s after) (append_assoc schedule (entry ∷ []) rest) (on (after_more g.program caps (source.start_world g.program) before between schedule entry at step))

  -- one cost more
  cost_on : (records : List SegmentRecord) (segment : SegmentRecord) (costs rest : List ℕ) → costs ≡ map (λ (s : SegmentRecord). s.cost) (records ++ segment ∷ []) ++ rest → costs ≡ map (λ (s : SegmentRecord). s.cost) records ++ segment.cost ∷ rest
  cost_on records segment costs rest e =
      e ∙ ap (λ (xs : List ℕ). xs ++ rest) (map-append (λ (s : SegmentRecord). s.cost) records (segment ∷ [])) ∙ append_assoc (map (λ (s : SegmentRecord). s.cost) records) (segment.cost ∷ []) rest

  abbrev ReadsOn : State → Entry → List Entry → State → State → Type 0
  ReadsOn before entry entries after between = Reads between entries after → Reads before (entry ∷ entries) after

  event_on : (before between after : State) (clock : ℕ) (item : Item) (entries : List Entry) → IsComing g before clock item false between → Reads between entries after → Reads before (Entry.Event clock item ∷ entries) after
  event_on before between after clock item entries is =
      let next : source.World = received false before.source (delivery_of is.event.kind) in
      let step : source.IsAfterEntry g.program caps before.source (source.Deliver (delivered item)) next =
      ap (λ (d : Delivery). record before.source { exchange = with_delivery before.source.exchange d }) (sym (delivers before between clock item false is)) in
      subst (ReadsOn before (Entry.Event clock item) entries after) (sym is.after_is)
      (λ r. record {
        source = λ schedule at. more_on schedule (schedule_of entries) (source.Deliver (delivered item)) before.source next after.source at step (λ there. r.source (schedule ++ source.Deliver (delivered item) ∷ []) there);
        costs = r.costs;
        clock = r.clock;
        held = r.held;
      })

  block_on : (before between after : State) (thread node : ℕ) (key : List ℕ) (cost free : ℕ) (entries : List Entry) → IsFollowed before → IsBlock g before thread node key cost free between → Reads between entries after →
      Reads before (Entry.Block thread node key cost free ∷ entries) after
  block_on before between after thread node key cost free entries followed is =
      let step = ran before thread cost free is.steps is.segment is.world followed is.closed in
      subst (ReadsOn before (Entry.Block thread node key cost free) entries after) (sym is.after_is)
      (λ r. record {
        source = λ schedule at. more_on schedule (schedule_of entries) (source.Run thread) before.source is.world after.source at step (λ there. r.source (schedule ++ source.Run thread ∷ []) there);
        costs = cost_on before.past.records _ (costs_in after) (costs_of entries) r.costs;
        clock = r.clock;
        held = r.held;
      })

  end_on : (before between after : State) (thread cost free : ℕ) (entries : List Entry) → IsFollowed before → IsEnd g before thread cost free between → Reads between entries after → Reads before (Entry.End thread cost free ∷ entries) after
  end_on before between after thread cost free entries followed is =
      let step = ran before thread cost free is.steps is.segment is.world followed is.closed in
      subst (ReadsOn before (Entry.End thread cost free) entries after) (sym is.after_is)
      (λ r. record {
        source = λ schedule at. more_on schedule (schedule_of entries) (source.Run thread) before.source is.world after.source at step (λ there. r.source (schedule ++ source.Run thread ∷ []) there);
        costs = cost_on before.past.records _ (costs_in after) (costs_of entries) r.costs;
        clock = r.clock;
        held = r.held;
      })

  entry_on : (before between after : State) (entry : Entry) (entries : List Entry) → IsFollowed before → IsAllowed g before entry between → Reads between entries after → Reads before (entry ∷ entries) after
  entry_on before between after (Entry.Event clock item) entries followed is = event_on before between after clock item entries is
  entry_on before between after (Entry.Block thread node key cost free) entries followed is = block_on before between after thread node key cost free entries followed is
  entry_on before between after (Entry.End thread cost free) entries followed is = end_on before between after thread cost free entries followed is
  entry_on before between after (Entry.Dropped clock item) entries followed is =
      subst (ReadsOn before (Entry.Dropped clock item) entries after) (sym is.after_is) (λ r. record { source = r.source; costs = r.costs; clock = r.clock; held = r.held })
  entry_on before between after (Entry.Run clock thread node) entries followed is =
      subst (ReadsOn before (Entry.Run clock thread node) entries after) (sym is.after_is) (λ r. record { source = r.source; costs = r.costs; clock = r.clock; held = r.held })
  entry_on before between after (Entry.Out thread value) entries followed is =
      subst (ReadsOn before (Entry.Out thread value) entries after) (sym is.after_is) (λ r. record { source = r.source; costs = r.costs; clock = r.clock; held = r.held })
  entry_on before between after (Entry.Edge from to count cost changes) entries followed is =
      subst (ReadsOn before (Entry.Edge from to count cost changes) entries after) (sym is.after_is) (λ r. record { source = r.source; costs = r.costs; clock = r.clock; held = r.held })
  entry_on before between after (Entry.Stop stop) entries followed is =
      subst (ReadsOn before (Entry.Stop stop) entries after) (sym is.after_is) (λ r. record { source = r.source; costs = r.costs; clock = r.clock; held = r.held })

  leads_read : (before after : State) (entries : List Entry) → Leads g before entries after → IsFollowed before → Reads before entries after
  leads_read before after [] nowhere followed = record {
    source = λ schedule at. subst (λ (s : List source.Entry). Comes s before.source) (sym (append-nil schedule)) at;
    costs = sym (append-nil (costs_in before));
    clock = refl;
    held = refl;
  }
  leads_read before after (entry ∷ entries) (by_line {between = between} fits is within leads) followed =
      entry_on before between after entry entries followed is (leads_read between after entries leads (follow_on before between entry is followed))

  -- ---- the choices

  -- where the lines before one have led
  record LedTo (before : State) (earlier : List Entry) (entry : Entry) : Type 0 where
    state : State
    read : Leads g before earlier state
    after : State
    allowed : IsAllowed g state entry after

  led_to : (before last : State) (earlier later : List Entry) (entry : Entry) → Leads g before (earlier ++ entry ∷ later) last → LedTo before earlier entry
  led_to before last [] later entry (by_line {between = between} fits is within leads) = record { state = before; read = nowhere; after = between; allowed = is }
  led_to before last (x ∷ earlier) later entry (by_line {between = between} fits is within leads) =
      let rest = led_to between last earlier later entry leads in
      record { state = rest.state; read = by_line fits is within rest.read; after = rest.after; allowed = rest.allowed }

  chosen : (trace : List ℕ) (earlier : List Entry) (clock thread node : ℕ) → LedTo (start_of g trace) earlier (Entry.Run clock thread node) → IsPrintedChoice g trace earlier clock thread node
  chosen trace earlier clock thread node to =
      let run = to.allowed in
      let reads = leads_read (start_of g trace) to.state earlier to.read (start_followed trace) in
      record {
        state = to.state;
        read = to.read;
        chosen = run.chosen;
        choice = run.choice;
        thread_is = run.thread_is;
        node_is = run.node_is;
        source = reads.source [] refl;
        costs = reads.costs;
        clock_is = reads.clock;
        held = reads.held;
      }

  pub choices_are_lawful : (trace : List ℕ) (entries : List Entry) (last : State) → Leads g (start_of g trace) entries last → AreLawfulChoices g trace entries
  choices_are_lawful trace entries last leads earlier later clock thread node is =
      chosen trace earlier clock thread node (led_to (start_of g trace) last earlier later (Entry.Run clock thread node) (subst (λ (es : List Entry). Leads g (start_of g trace) es last) is leads))
