-- The lines of a lawful log are those of the text: line by line, beside the state of the log.
use Rattle.audited_logs.proofs.Common.{ℕ, ℤ, ◌≡◌, true, false, refl, sym, ap, subst, ◌∙◌, List, [], ◌∷◌, ◌++◌, append-nil, length, map, Option, Some, None, is_some, edges_of, EdgeLine, Stop, TrapKind, Delivery, with_delivery, delivery_of, received, edge_entry, outputs_of, HasRun, IsCut, DeepProgram, DeepRest, DeepWorld, RunsTheSame, WorldsAlike, delivered, Setup, live_in, World, Entry, Item, StopLine, lines_of, ComesTo, HaveAllEnded, IsSomeLive, ComesToTrap, ComesToCut, StopsSo, AreTextLines, IsTextLog, delivered_is}
use Rattle.c_mean.specs.World as source
use Rattle.lawful_log.specs.Choice.{IsRun}
use Rattle.lawful_log.specs.Deliveries.{IsComing}
use Rattle.lawful_log.specs.Lawful.{IsAllowed, Leads, nowhere, by_entry, ending, IsLawfulLog}
use Rattle.lawful_log.specs.Segments.{IsOut, IsBlock, IsEnd}
use Rattle.lawful_log.specs.State.{Segment, State, start_of}
use Rattle.lawful_log.specs.Stops.{IsStop}
use Rattle.audited_logs.proofs.Rests.{rest_at, blocked_in, ended_in, all_ended, some_live}
use Rattle.audited_logs.proofs.Values.{put_more, after_more}

-- what the segment under way has put
abbrev own : Option Segment → List (ℕ × ℕ)
own None = []
own (Some segment) = outputs_of segment.thread segment.puts

none_own : (o : Option Segment) → is_some o ≡ false → own o ≡ []
none_own None h = refl
none_own (Some segment) h = absurd (let wrong : true ≡ false = h in cc)

module _ (g : Setup) (text : DeepProgram) (same : RunsTheSame g.program text) where
  abbrev caps : List ℕ
  caps = g.policy.caps

  -- where the lines have come to in a state: the source's world is that after their schedule, and they have printed what was put
  record Position (state : State) (schedule : List source.Entry) (put : List (ℕ × ℤ)) : Type 0 where
    after : source.IsAfter g.program caps (source.start_world g.program) schedule state.source
    values : put ≡ lines_of (state.source.outputs ++ own state.segment)

  -- from there, whatever the log goes on with, its lines are the text's
  abbrev GoesOn : State → List Entry → Type 0
  GoesOn state entries = (schedule : List source.Entry) (put : List (ℕ × ℤ)) → Position state schedule put → AreTextLines text caps schedule put entries

  -- ---- what comes from outside

  event_on : (before after : State) (clock : ℕ) (item : Item) (rest : List Entry) → IsComing g before clock item false after → GoesOn after rest → GoesOn before (Entry.Event clock item ∷ rest)
  event_on before after clock item rest is later schedule put at =
      let kind = is.event.kind in
      let fits = is.delivery.point.next_is.line.spells.fits.kind in
      let named : delivered item ≡ delivery_of kind = ap delivered is.delivery.item_is ∙ delivered_is kind fits in
      let step : source.IsAfterEntry g.program caps before.source (source.Deliver (delivered item)) (received false before.source (delivery_of kind)) =
      ap (λ (d : Delivery). record before.source { exchange = with_delivery before.source.exchange d }) (sym named) in
      let next = after_more g.program caps (source.start_world g.program) before.source (received false before.source (delivery_of kind)) schedule (source.Deliver (delivered item)) at.after step in
      later (schedule ++ source.Deliver (delivered item) ∷ []) put
      (subst (λ (state : State). Position state (schedule ++ source.Deliver (delivered item) ∷ []) put) (sym is.after_is) (record { after = next; values = at.values }))

  dropped_on : (before after : State) (clock : ℕ) (item : Item) (rest : List Entry) → IsComing g before clock item true after → GoesOn after rest → GoesOn before (Entry.Dropped clock item ∷ rest)
  dropped_on before after clock item rest is later schedule put at =
      later schedule put (subst (λ (state : State). Position state schedule put) (sym is.after_is) (record { after = at.after; values = at.values }))

  -- ---- a choice

  -- between segments just what the source has put was printed
  between_values : (state : State) (schedule : List source.Entry) (put : List (ℕ × ℤ)) → is_some state.segment ≡ false → Position state schedule put → put ≡ lines_of (state.source.outputs ++ [])
  between_values state schedule put between at = at.values ∙ ap (λ (xs : List (ℕ × ℕ)). lines_of (state.source.outputs ++ xs)) (none_own state.segment between)

  run_on : (before after : State) (clock thread node : ℕ) (rest : List Entry) → IsRun g before clock thread node after → GoesOn after rest → GoesOn before (Entry.Run clock thread node ∷ rest)
  run_on before after clock thread node rest is later schedule put at =
      later schedule put (subst (λ (state : State). Position state schedule put) (sym is.after_is) (record { after = at.after; values = between_values before schedule put is.choice.point.between at }))

  -- ---- a segment

  -- within one the segment's words come after what the source has put
  within_values : (state : State) (segment : Segment) (schedule : List source.Entry) (put : List (ℕ × ℤ)) → state.segment ≡ Some segment → Position state schedule put → put ≡ lines_of (state.source.outputs ++ outputs_of segment.thread segment.puts)
  within_values state segment schedule put under at = at.values ∙ ap (λ (o : Option Segment). lines_of (state.source.outputs ++ own o)) under

  out_on : (before after : State) (thread : ℕ) (value : ℤ) (rest : List Entry) → IsOut g before thread value after → GoesOn after rest → GoesOn before (Entry.Out thread value ∷ rest)
  out_on before after thread value rest is later schedule put at =
      let segment = is.segment in
      let mine = within_values before segment schedule put is.way.under_way at in
      let first = ap (λ (xs : List (ℕ × ℤ)). xs ++ (thread, value) ∷ []) mine in
      let second = ap (λ (t : ℕ). lines_of (before.source.outputs ++ outputs_of segment.thread segment.puts) ++ (t, value) ∷ []) is.thread_is in
      let third = ap (λ (v : ℤ). lines_of (before.source.outputs ++ outputs_of segment.thread segment.puts) ++ (segment.thread, v) ∷ []) is.value_is in
      let values = first ∙ second ∙ third ∙ sym (put_more segment.thread before.source.outputs segment.puts is.word) in
      later schedule (put ++ (thread, value) ∷ []) (subst (λ (state : State). Position state schedule (put ++ (thread, value) ∷ [])) (sym is.after_is) (record { after = at.after; values = values }))

  -- the segment's thread has run to this world
  record Rested (before : State) (schedule : List source.Entry) (put : List (ℕ × ℤ)) (thread : ℕ) (world : source.World) : Type 0 where
    after : source.IsAfter g.program caps (source.start_world g.program) (schedule ++ source.Run thread ∷ []) world
    values : put ≡ lines_of world.outputs

  rested_by : (before : State) (segment : Segment) (schedule : List source.Entry) (put : List (ℕ × ℤ)) (thread : ℕ) (world : source.World) → before.segment ≡ Some segment → thread ≡ segment.thread →
      HasRun g.program caps before.source segment.thread segment.puts None world → Position before schedule put → Rested before schedule put thread world
  rested_by before segment schedule put thread world under thread_is run at =
      let step : source.IsAfterEntry g.program caps before.source (source.Run thread) world =
      subst (λ (t : ℕ). source.RunsTo g.program caps before.source t (record { trap = None; world = world })) (sym thread_is) run.runs in
      record {
        after = after_more g.program caps (source.start_world g.program) before.source world schedule (source.Run thread) at.after step;
        values = within_values before segment schedule put under at ∙ ap lines_of (sym run.puts);
      }

  -- the place of the lines after a segment, at whose end the source's world is this one
  rested_position : (schedule : List source.Entry) (put : List (ℕ × ℤ)) (state : State) → source.IsAfter g.program caps (source.start_world g.program) schedule state.source → put ≡ lines_of state.source.outputs → own state.segment ≡ [] → Position state schedule put
  rested_position schedule put state after values none = record {
    after = after;
    values = values ∙ ap lines_of (sym (append-nil state.source.outputs)) ∙ ap (λ (xs : List (ℕ × ℕ)). lines_of (state.source.outputs ++ xs)) (sym none);
  }

  block_on : (before after : State) (thread node : ℕ) (key : List ℕ) (cost free : ℕ) (rest : List Entry) → IsBlock g before thread node key cost free after → GoesOn after rest → GoesOn before (Entry.Block thread node key cost free ∷ rest)
  block_on before after thread node key cost free rest is later schedule put at =
      let more = schedule ++ source.Run thread ∷ [] in
      let here = rested_by before is.segment schedule put thread is.world is.way.under_way is.thread_is is.run at in
      let there = same.reached caps more is.world here.after in
      let found = rest_at is.world.threads there.0.threads thread (source.Blocked is.block is.waiting) there.2.threads is.rests in
      let blocked = blocked_in (source.Blocked is.block is.waiting) found.0 found.2 is.block is.waiting refl in (
        (there.0, there.1, here.values ∙ ap lines_of there.2.outputs, (is.block, blocked.0, found.1 ∙ ap (λ (d : DeepRest). Some d) blocked.1, is.key_is ∙ blocked.2)),
        later more put (subst (λ (state : State). Position state more put) (sym is.after_is) (rested_position more put _ here.after here.values refl)),
      )

  end_on : (before after : State) (thread cost free : ℕ) (rest : List Entry) → IsEnd g before thread cost free after → GoesOn after rest → GoesOn before (Entry.End thread cost free ∷ rest)
  end_on before after thread cost free rest is later schedule put at =
      let more = schedule ++ source.Run thread ∷ [] in
      let here = rested_by before is.segment schedule put thread is.world is.way.under_way is.thread_is is.run at in
      let there = same.reached caps more is.world here.after in
      let found = rest_at is.world.threads there.0.threads thread source.Ended there.2.threads is.rests in
      let ended = ended_in source.Ended found.0 found.2 refl in (
        (there.0, there.1, here.values ∙ ap lines_of there.2.outputs, found.1 ∙ ap (λ (d : DeepRest). Some d) ended),
        later more put (subst (λ (state : State). Position state more put) (sym is.after_is) (rested_position more put _ here.after here.values refl)),
      )

  -- ---- line by line

  entry_on : (before after : State) (entry : Entry) (rest : List Entry) → IsAllowed g before entry after → GoesOn after rest → GoesOn before (entry ∷ rest)
  entry_on before after (Entry.Event clock item) rest is later = event_on before after clock item rest is later
  entry_on before after (Entry.Dropped clock item) rest is later = dropped_on before after clock item rest is later
  entry_on before after (Entry.Run clock thread node) rest is later = run_on before after clock thread node rest is later
  entry_on before after (Entry.Out thread value) rest is later = out_on before after thread value rest is later
  entry_on before after (Entry.Block thread node key cost free) rest is later = block_on before after thread node key cost free rest is later
  entry_on before after (Entry.End thread cost free) rest is later = end_on before after thread cost free rest is later
  entry_on before after _ rest is later = absurd is

  leads_on : (before after : State) (entries more : List Entry) → Leads g before entries after → GoesOn after more → GoesOn before (entries ++ more)
  leads_on before after entries more nowhere later = later
  leads_on before after entries more (by_entry {between = between} {entry = entry} {entries = rest} is leads) later =
      entry_on before between entry (rest ++ more) is (leads_on between after rest more leads later)

  -- ---- the end

  edges_on : (edges : List EdgeLine) (stop : StopLine) (schedule : List source.Entry) (put : List (ℕ × ℤ)) → StopsSo text caps schedule put stop → AreTextLines text caps schedule put (map (edge_entry caps) edges ++ Entry.Stop stop ∷ [])
  edges_on [] stop schedule put h = h
  edges_on (edge ∷ edges) stop schedule put h = edges_on edges stop schedule put h

  -- a stop at a choice point, where something holds of each world of the text that is like the source's
  point_on : (last : State) (schedule : List source.Entry) (put : List (ℕ × ℤ)) (asked : DeepWorld → Type 0) → is_some last.segment ≡ false → Position last schedule put →
      ((world : DeepWorld) → WorldsAlike last.source world → asked world) → ComesTo text caps schedule put asked
  point_on last schedule put asked between at holds =
      let there = same.reached caps schedule last.source at.after in
      (there.0, there.1, between_values last schedule put between at ∙ ap lines_of (append-nil last.source.outputs) ∙ ap lines_of there.2.outputs, holds there.0 there.2)

  trap_on : (last : State) (segment : Segment) (schedule : List source.Entry) (put : List (ℕ × ℤ)) (thread : ℕ) (kind : TrapKind) (world : source.World) → last.segment ≡ Some segment → thread ≡ segment.thread →
      HasRun g.program caps last.source segment.thread segment.puts (Some kind) world → Position last schedule put → ComesToTrap text caps schedule put thread kind
  trap_on last segment schedule put thread kind world under thread_is run at =
      let runs = subst (λ (t : ℕ). source.RunsTo g.program caps last.source t (record { trap = Some kind; world = world })) (sym thread_is) run.runs in
      let there = same.rested caps schedule last.source thread (record { trap = Some kind; world = world }) at.after runs in
      (there.0, there.1, there.2, there.3, sym there.4, within_values last segment schedule put under at ∙ ap lines_of (sym run.puts) ∙ ap lines_of there.5.outputs)

  cut_on : (last : State) (segment : Segment) (schedule : List source.Entry) (put : List (ℕ × ℤ)) (thread : ℕ) → last.segment ≡ Some segment → thread ≡ segment.thread →
      IsCut g.program caps last.source segment.thread segment.puts → Position last schedule put → ComesToCut text caps schedule put thread
  cut_on last segment schedule put thread under thread_is cut at =
      let number = length segment.puts in
      let mine = subst (λ (t : ℕ). source.IsCutAt g.program caps last.source t number cut.reached) (sym thread_is) cut.cut in
      let there = same.cut caps schedule last.source thread number cut.reached at.after mine in
      (there.0, number, there.1, there.2, there.3, within_values last segment schedule put under at ∙ ap lines_of (sym cut.puts) ∙ ap lines_of there.4)

  -- as many threads of the machine are live as of the source, where the stop comes at a choice point
  abbrev AreAsMany : State → Type 0
  AreAsMany last = is_some last.segment ≡ false → length last.machine.threads ≡ live_in last.source

  stop_on : (last : State) (stop : StopLine) (end : World) → AreAsMany last → IsStop g last stop end → (schedule : List source.Entry) (put : List (ℕ × ℤ)) → Position last schedule put → StopsSo text caps schedule put stop
  stop_on last StopLine.Done end many is schedule put at =
      let done = is.0 in
      point_on last schedule put HaveAllEnded done.between at (λ world alike. all_ended last.source.threads world.threads alike.threads (sym (many done.between) ∙ done.nobody))
  stop_on last StopLine.Idle end many is schedule put at =
      let idle = is.0 in
      point_on last schedule put IsSomeLive idle.between at (λ world alike. some_live last.source.threads world.threads alike.threads (λ none. idle.live (many idle.between ∙ none)))
  stop_on last (StopLine.Trace line) end many is schedule put at = let refused = is.0 in point_on last schedule put (λ world. Unit {0}) refused.between at (λ world alike. tt)
  stop_on last (StopLine.Cut thread (Stop.Trap kind) cost free) end many is schedule put at = trap_on last is.segment schedule put thread kind is.puts.0 is.way.under_way is.thread_is is.puts.1 at
  stop_on last (StopLine.Cut thread _ cost free) end many is schedule put at = cut_on last is.segment schedule put thread is.way.under_way is.thread_is is.puts at

  -- ---- the log

  pub log_of_same : (trace : List ℕ) (entries : List Entry) (stop : StopLine) (end : World) (log : IsLawfulLog g trace entries stop end) → AreAsMany log.last → IsTextLog text caps entries
  log_of_same trace entries stop end log many =
      subst (λ (all : List Entry). AreTextLines text caps [] [] all) (sym log.entries_are)
      (leads_on (start_of g trace log.start) log.last log.before_end (ending g log.last stop) log.leads
      (λ schedule put at. edges_on (edges_of log.last.past.records) stop schedule put (stop_on log.last stop end many log.stops schedule put at))
      [] [] (record { after = refl; values = refl }))
