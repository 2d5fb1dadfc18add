-- The lines of a log that is lawful as it is read are those of the text: line by line, beside where they have led.
use Rattle.audited_logs.proofs.Common.{ℕ, ℤ, ◌≡◌, true, false, refl, sym, ap, subst, ◌∙◌, List, [], ◌∷◌, ◌++◌, Option, Some, None, is_some, signed, Stop, TrapKind, ReadsNested, Delivery, with_delivery, IsWellScoped, delivery_of, received, DeepProgram, DeepRest, DeepWorld, deep_program, RunsTheSame, WorldsAlike, delivered, IsComing, IsRun, Given, IsAllowed, Leads, nowhere, by_line, IsLawful, IsOut, IsBlock, IsEnd, IsClosed, Entry, Item, StopLine, lines_of, ComesTo, HaveAllEnded, IsSomeLive, IsBlockedAt, HasEnded, ComesToTrap, ComesToCut, StopsSo, AreTextLines, IsTextLog, program_means}
use Rattle.c_mean.specs.World as source
use Rattle.lawful_reading.specs.Ends.{IsCut, StopsBy}
use Rattle.lawful_reading.specs.State.{Segment, State, start_of}
use Rattle.audited_logs.proofs.ReadRuns.{outputs_at_first, rests_on, rested_outputs, cut_there}
use Rattle.audited_logs.proofs.ReadWorlds.{IsFollowed, after_more, delivers, follow_on, ran, start_followed}
use Rattle.audited_logs.proofs.Rests.{rest_at, blocked_in, ended_in, all_ended, some_live}

-- what has been put where the lines have led: within a segment, with what its thread has put
abbrev put_in : source.World → Option Segment → List (ℕ × ℕ)
put_in world None = world.outputs
put_in world (Some segment) = segment.here.world.outputs

put_between : (world : source.World) (o : Option Segment) → is_some o ≡ false → put_in world o ≡ world.outputs
put_between world None between = refl
put_between world (Some segment) between = absurd (let wrong : true ≡ false = between in cc)

line_more : (outputs : List (ℕ × ℕ)) (thread word : ℕ) → lines_of (outputs ++ (thread, word) ∷ []) ≡ lines_of outputs ++ (thread, signed word) ∷ []
line_more [] thread word = refl
line_more (output ∷ outputs) thread word = ap (λ (xs : List (ℕ × ℤ)). (output.0, signed output.1) ∷ xs) (line_more outputs thread word)

module _ (g : Given) (text : DeepProgram) (same : RunsTheSame g.program text) where
  abbrev caps : List ℕ
  caps = g.policy.caps

  -- where the lines have led: the source's world is that after their schedule, and they have printed what was put
  record Position (state : State) (schedule : List source.Entry) (put : List (ℕ × ℤ)) : Type 0 where
    after : source.IsAfter g.program caps (source.start_world g.program) schedule state.source
    values : put ≡ lines_of (put_in state.source state.segment)

  more : (world next : source.World) (schedule : List source.Entry) (entry : source.Entry) → source.IsAfter g.program caps (source.start_world g.program) schedule world → source.IsAfterEntry g.program caps world entry next →
      source.IsAfter g.program caps (source.start_world g.program) (schedule ++ entry ∷ []) next
  more world next schedule entry at step = after_more g.program caps (source.start_world g.program) world next schedule entry at step

  within_values : (state : State) (segment : Segment) (schedule : List source.Entry) (put : List (ℕ × ℤ)) → state.segment ≡ Some segment → Position state schedule put → put ≡ lines_of segment.here.world.outputs
  within_values state segment schedule put under at = at.values ∙ ap (λ (o : Option Segment). lines_of (put_in state.source o)) under

  between_values : (state : State) (schedule : List source.Entry) (put : List (ℕ × ℤ)) → is_some state.segment ≡ false → Position state schedule put → put ≡ lines_of state.source.outputs
  between_values state schedule put between at = at.values ∙ ap lines_of (put_between state.source state.segment between)

  -- ---- where each line leads

  event_at : (before after : State) (clock : ℕ) (item : Item) (schedule : List source.Entry) (put : List (ℕ × ℤ)) → IsComing g before clock item false after → Position before schedule put → Position after (schedule ++ source.Deliver (delivered item) ∷ []) put
  event_at before after clock item schedule put is at =
      let next = received false before.source (delivery_of is.event.kind) in
      let step : source.IsAfterEntry g.program caps before.source (source.Deliver (delivered item)) next =
      ap (λ (d : Delivery). record before.source { exchange = with_delivery before.source.exchange d }) (sym (delivers g before after clock item false is)) in
      subst (λ (state : State). Position state (schedule ++ source.Deliver (delivered item) ∷ []) put) (sym is.after_is)
      (record { after = more before.source next schedule (source.Deliver (delivered item)) at.after step; values = between_values before schedule put is.delivery.point.between at ∙ ap lines_of (sym (put_between next before.segment is.delivery.point.between)) })

  dropped_at : (before after : State) (clock : ℕ) (item : Item) (schedule : List source.Entry) (put : List (ℕ × ℤ)) → IsComing g before clock item true after → Position before schedule put → Position after schedule put
  dropped_at before after clock item schedule put is at = subst (λ (state : State). Position state schedule put) (sym is.after_is) (record { after = at.after; values = at.values })

  run_at : (before after : State) (clock thread node : ℕ) (schedule : List source.Entry) (put : List (ℕ × ℤ)) → IsRun g before clock thread node after → Position before schedule put → Position after schedule put
  run_at before after clock thread node schedule put is at =
      subst (λ (state : State). Position state schedule put) (sym is.after_is)
      (record { after = at.after; values = between_values before schedule put is.choice.point.between at ∙ ap lines_of (sym (outputs_at_first g.program caps before.source thread is.here is.begins)) })

  out_at : (before after : State) (thread : ℕ) (value : ℤ) (schedule : List source.Entry) (put : List (ℕ × ℤ)) → IsOut g before thread value after → Position before schedule put → Position after schedule (put ++ (thread, value) ∷ [])
  out_at before after thread value schedule put is at =
      let here = is.segment.here in
      let puts = is.puts in
      let first = ap (λ (xs : List (ℕ × ℤ)). xs ++ (thread, value) ∷ []) (within_values before is.segment schedule put is.under_way at) in
      let second = ap (λ (t : ℕ). lines_of here.world.outputs ++ (t, value) ∷ []) is.thread_is in
      let third = ap (λ (v : ℤ). lines_of here.world.outputs ++ (here.number, v) ∷ []) is.value_is in
      let whole = first ∙ second ∙ third ∙ sym (line_more here.world.outputs here.number is.word) ∙ ap lines_of (sym puts.output) in
      subst (λ (state : State). Position state schedule (put ++ (thread, value) ∷ [])) (sym is.after_is) (record { after = at.after; values = whole })

  -- the thread has run to this world, and what it put was printed
  record Rested (schedule : List source.Entry) (put : List (ℕ × ℤ)) (thread : ℕ) (world : source.World) : Type 0 where
    after : source.IsAfter g.program caps (source.start_world g.program) (schedule ++ source.Run thread ∷ []) world
    values : put ≡ lines_of world.outputs

  rested : (before : State) (thread cost free steps : ℕ) (segment : Segment) (world : source.World) (schedule : List source.Entry) (put : List (ℕ × ℤ)) → IsFollowed g before → IsClosed g before thread cost free steps segment world → Position before schedule put →
      Rested schedule put thread world
  rested before thread cost free steps segment world schedule put followed closed at = record {
    after = more before.source world schedule (source.Run thread) at.after (ran g before thread cost free steps segment world followed closed);
    values = within_values before segment schedule put closed.under_way at ∙ ap lines_of (sym (rested_outputs g.program caps segment.here steps (record { trap = None; world = world }) closed.rests));
  }

  block_at : (before after : State) (thread node : ℕ) (key : List ℕ) (cost free : ℕ) (schedule : List source.Entry) (put : List (ℕ × ℤ)) → (is : IsBlock g before thread node key cost free after) → Rested schedule put thread is.world →
      Position after (schedule ++ source.Run thread ∷ []) put
  block_at before after thread node key cost free schedule put is here =
      subst (λ (state : State). Position state (schedule ++ source.Run thread ∷ []) put) (sym is.after_is) (record { after = here.after; values = here.values })

  end_at : (before after : State) (thread cost free : ℕ) (schedule : List source.Entry) (put : List (ℕ × ℤ)) → (is : IsEnd g before thread cost free after) → Rested schedule put thread is.world → Position after (schedule ++ source.Run thread ∷ []) put
  end_at before after thread cost free schedule put is here =
      subst (λ (state : State). Position state (schedule ++ source.Run thread ∷ []) put) (sym is.after_is) (record { after = here.after; values = here.values })

  -- ---- what the text does at a line

  blocks : (before after : State) (thread node : ℕ) (key : List ℕ) (cost free : ℕ) (schedule : List source.Entry) (put : List (ℕ × ℤ)) → (is : IsBlock g before thread node key cost free after) → Rested schedule put thread is.world →
      ComesTo text caps (schedule ++ source.Run thread ∷ []) put (IsBlockedAt thread key)
  blocks before after thread node key cost free schedule put is here =
      let there = same.reached caps (schedule ++ source.Run thread ∷ []) is.world here.after in
      let found = rest_at is.world.threads there.0.threads thread (source.Blocked is.block is.waiting) there.2.threads is.blocked in
      let blocked = blocked_in (source.Blocked is.block is.waiting) found.0 found.2 is.block is.waiting refl in
      (there.0, there.1, here.values ∙ ap lines_of there.2.outputs, (is.block, blocked.0, found.1 ∙ ap (λ (d : DeepRest). Some d) blocked.1, is.key_is ∙ blocked.2))

  ends : (before after : State) (thread cost free : ℕ) (schedule : List source.Entry) (put : List (ℕ × ℤ)) → (is : IsEnd g before thread cost free after) → Rested schedule put thread is.world → ComesTo text caps (schedule ++ source.Run thread ∷ []) put (HasEnded thread)
  ends before after thread cost free schedule put is here =
      let there = same.reached caps (schedule ++ source.Run thread ∷ []) is.world here.after in
      let found = rest_at is.world.threads there.0.threads thread source.Ended there.2.threads is.ended in
      let ended = ended_in source.Ended found.0 found.2 refl in
      (there.0, there.1, here.values ∙ ap lines_of there.2.outputs, found.1 ∙ ap (λ (d : DeepRest). Some d) ended)

  -- ---- the stop

  point : (last : State) (schedule : List source.Entry) (put : List (ℕ × ℤ)) (asked : DeepWorld → Type 0) → is_some last.segment ≡ false → Position last schedule put → ((world : DeepWorld) → WorldsAlike last.source world → asked world) →
      ComesTo text caps schedule put asked
  point last schedule put asked between at holds =
      let there = same.reached caps schedule last.source at.after in
      (there.0, there.1, between_values last schedule put between at ∙ ap lines_of there.2.outputs, holds there.0 there.2)

  trapped : (last : State) (thread : ℕ) (kind : TrapKind) (cost free steps : ℕ) (schedule : List source.Entry) (put : List (ℕ × ℤ)) → IsFollowed g last → IsCut g last thread (Stop.Trap kind) cost free steps → Position last schedule put → ComesToTrap text caps schedule put thread kind
  trapped last thread kind cost free steps schedule put followed cut at =
      let segment = cut.segment in
      let reached = cut.cause.0 in
      let rest = cut.cause.1 in
      let runs = rests_on g.program caps last.source segment.here steps reached (followed segment cut.under_way) rest in
      let there = same.rested caps schedule last.source thread reached at.after (subst (λ (t : ℕ). source.RunsTo g.program caps last.source t reached) (sym cut.thread_is) runs) in
      let outputs = rested_outputs g.program caps segment.here steps reached rest in
      (there.0, there.1, there.2, there.3, sym there.4 ∙ cut.cause.2, within_values last segment schedule put cut.under_way at ∙ ap lines_of (sym outputs) ∙ ap lines_of there.5.outputs)

  cut_off : (last : State) (thread : ℕ) (segment : Segment) (schedule : List source.Entry) (put : List (ℕ × ℤ)) → IsFollowed g last → last.segment ≡ Some segment → thread ≡ segment.here.number → Position last schedule put → ComesToCut text caps schedule put thread
  cut_off last thread segment schedule put followed under thread_is at =
      let way = followed segment under in
      let mine = subst (λ (t : ℕ). source.IsCutAt g.program caps last.source t way.puts segment.here) (sym thread_is) (cut_there g.program caps last.source segment.here way) in
      let there = same.cut caps schedule last.source thread way.puts segment.here at.after mine in
      (there.0, way.puts, there.1, there.2, there.3, within_values last segment schedule put under at ∙ ap lines_of there.4)

  stop_so : (last : State) (stop : StopLine) (steps : ℕ) (schedule : List source.Entry) (put : List (ℕ × ℤ)) → IsFollowed g last → StopsBy g last stop steps → Position last schedule put → StopsSo text caps schedule put stop
  stop_so last StopLine.Done steps schedule put followed is at =
      let done = is.0 in
      point last schedule put HaveAllEnded done.between at (λ world alike. all_ended last.source.threads world.threads alike.threads done.nobody)
  stop_so last StopLine.Idle steps schedule put followed is at =
      let idle = is.0 in
      point last schedule put IsSomeLive idle.between at (λ world alike. some_live last.source.threads world.threads alike.threads idle.live)
  stop_so last (StopLine.Trace line) steps schedule put followed is at = let refused = is.0 in point last schedule put (λ world. Unit {0}) refused.between at (λ world alike. tt)
  stop_so last (StopLine.Cut thread (Stop.Trap kind) cost free) steps schedule put followed is at = trapped last thread kind cost free steps schedule put followed is at
  stop_so last (StopLine.Cut thread _ cost free) steps schedule put followed is at = cut_off last thread is.segment schedule put followed is.under_way is.thread_is at

  -- ---- line by line

  -- from there, whatever the log goes on with, its lines are the text's
  abbrev GoesOn : State → List Entry → Type 0
  GoesOn state entries = (schedule : List source.Entry) (put : List (ℕ × ℤ)) → Position state schedule put → AreTextLines text caps schedule put entries

  entry_on : (before after : State) (entry : Entry) (rest : List Entry) → IsFollowed g before → IsAllowed g before entry after → GoesOn after rest → GoesOn before (entry ∷ rest)
  entry_on before after (Entry.Event clock item) rest followed is later schedule put at = later (schedule ++ source.Deliver (delivered item) ∷ []) put (event_at before after clock item schedule put is at)
  entry_on before after (Entry.Dropped clock item) rest followed is later schedule put at = later schedule put (dropped_at before after clock item schedule put is at)
  entry_on before after (Entry.Run clock thread node) rest followed is later schedule put at = later schedule put (run_at before after clock thread node schedule put is at)
  entry_on before after (Entry.Out thread value) rest followed is later schedule put at = later schedule (put ++ (thread, value) ∷ []) (out_at before after thread value schedule put is at)
  entry_on before after (Entry.Block thread node key cost free) rest followed is later schedule put at =
      let here = rested before thread cost free is.steps is.segment is.world schedule put followed is.closed at in
      (blocks before after thread node key cost free schedule put is here, later (schedule ++ source.Run thread ∷ []) put (block_at before after thread node key cost free schedule put is here))
  entry_on before after (Entry.End thread cost free) rest followed is later schedule put at =
      let here = rested before thread cost free is.steps is.segment is.world schedule put followed is.closed at in
      (ends before after thread cost free schedule put is here, later (schedule ++ source.Run thread ∷ []) put (end_at before after thread cost free schedule put is here))
  entry_on before after (Entry.Edge from to count cost changes) rest followed is later schedule put at =
      later schedule put (subst (λ (state : State). Position state schedule put) (sym is.after_is) (record { after = at.after; values = at.values }))
  entry_on before after (Entry.Stop stop) rest followed is later schedule put at = stop_so before stop is.steps schedule put followed is.stops at

  leads_on : (before last : State) (entries : List Entry) → Leads g before entries last → IsFollowed g before → GoesOn before entries
  leads_on before last [] nowhere followed schedule put at = tt
  leads_on before last (entry ∷ rest) (by_line {between = between} fits is within leads) followed schedule put at =
      entry_on before between entry rest followed is (leads_on between last rest leads (follow_on g before between entry is followed)) schedule put at

  pub lines_are_the_texts : (trace : List ℕ) (entries : List Entry) (last : State) → Leads g (start_of g trace) entries last → IsTextLog text caps entries
  lines_are_the_texts trace entries last leads = leads_on (start_of g trace) last entries leads (start_followed g trace) [] [] (record { after = refl; values = refl })

-- the log of a source's program is the source's
pub log_of_source : (source : List ℕ) (g : Given) (trace log : List ℕ) (read : ReadsNested source g.program) → IsWellScoped g.program → (lawful : IsLawful g trace log) → IsTextLog (deep_program read.tree) g.policy.caps lawful.entries
log_of_source source g trace log read scoped lawful = lines_are_the_texts g (deep_program read.tree) (program_means source g.program scoped read) trace lawful.entries lawful.last lawful.leads
