-- From the entries of a lawful log to a good run of the machine.
use Rattle.log_laws.proofs.Common.{◌≡◌, ℕ, ℤ, Bool, true, false, ◌+◌, List, [], ◌∷◌, ◌++◌, map, Option, Some, None, refl, sym, ap, subst, ◌∙◌, is_some, Delivery, delivery_of, IsRun, IsComing, delivered, stop_turns, machine_entries, checked_of, IsGoodLog, IsAllowed, Leads, nowhere, by_entry, ending, IsLawfulLog, IsOut, IsBlock, IsEnd, Setup, setting_of, start_machine, Segment, State, start_of, IsStop, Checked, Action, Deliver, Advance, Pick, after_action, after_actions, and_then, after_steps, IsGoodStretch, World, Setting, Entry, Item, StopLine}
use Rattle.blocking_graph.specs.Edges.{edges_of}
use Rattle.blocking_graph.specs.declared.edges.EdgeLine.{EdgeLine}
use Rattle.choice_rules.specs.EdgeLines.{edge_entry}
use Rattle.machine_world.specs.GoodRuns as runs
use Rattle.machine_world.specs.GoodRuns.{InWorld, IsGoodRun}
use Rattle.log_laws.proofs.Words.{delivered_is, delivers_words}
use Rattle.log_laws.proofs.Stretching.{AreKept, Way, way_begun, way_quiet, way_puts, Rested, way_blocks, way_ends}

abbrev no_segment : Option Segment
no_segment = None

-- two actions, one after the other
pub record Two (s : Setting) (first second : Action) (w after : World) : Type 0 where
  pub between : World
  pub once : after_action s w first ≡ Some between
  pub then : after_action s between second ≡ Some after

abbrev no_world : Option World
no_world = None

two_by : (s : Setting) (first second : Action) (w after : World) (found : Option World) → after_action s w first ≡ found → and_then found (after_actions s (second ∷ [])) ≡ Some after → Two s first second w after
two_by s first second w after None e rest = absurd (let none : no_world ≡ Some after = rest in cc)
two_by s first second w after (Some between) e rest = last (after_action s between second) refl rest
  where
    last : (found : Option World) → after_action s between second ≡ found → and_then found (after_actions s []) ≡ Some after → Two s first second w after
    last None h rest = absurd (let none : no_world ≡ Some after = rest in cc)
    last (Some other) h rest = record { between = between; once = e; then = h ∙ rest }

two : (s : Setting) (first second : Action) (w after : World) → after_actions s (first ∷ second ∷ []) w ≡ Some after → Two s first second w after
two s first second w after e = two_by s first second w after (after_action s w first) refl e

module _ (g : Setup) (B U : World → Type 0) (kept : AreKept (checked_of g) (setting_of g) B U) where
  abbrev c : Checked
  c = checked_of g

  abbrev s : Setting
  s = setting_of g

  -- where the good run has come to in a state: between segments it is the state's machine; within one it is the world in
  -- which that segment began
  pub data Position (state : State) (w : World) : Type 0 where
    Between : state.segment ≡ None → w ≡ state.machine → B state.machine → Position state w
    Within : (segment : Segment) → state.segment ≡ Some segment → Way c s B U kept w segment.thread segment.cost state.machine → Position state w

  -- from there, whatever the log goes on with, a good run goes on
  abbrev pub GoesOn : State → List Entry → Type 0
  GoesOn state entries = (w : World) → Position state w → IsGoodRun c s (machine_entries entries) w

  -- ---- what comes from outside

  event_goes : (before after : State) (clock : ℕ) (item : Item) (drops : Bool) (rest : List runs.Entry) → IsComing g before clock item drops after → ((w : World) → Position after w → IsGoodRun c s rest w) → (w : World) → Position before w →
      IsGoodRun c s (runs.Waits clock ∷ runs.Comes (delivered item) ∷ rest) w
  event_goes before after clock item drops rest is later w (Within segment under way) = absurd (let both : false ≡ true = sym is.delivery.point.between ∙ ap (λ (o : Option Segment). is_some o) under in cc)
  event_goes before after clock item drops rest is later w (Between none here rests) =
      let fits = is.delivery.point.next_is.line.spells.fits.kind in
      let delivery = delivery_of is.event.kind in
      let named : delivered item ≡ delivery = ap delivered is.delivery.item_is ∙ delivered_is is.event.kind fits in
      let both = two s (Advance clock) (Deliver delivery) before.machine is.machine is.delivers in
      let advanced = kept.advances before.machine both.between clock rests both.once in
      let received = kept.delivers both.between is.machine delivery (delivers_words is.event.kind fits) advanced both.then in
      let position : Position after is.machine = subst (λ (state : State). Position state is.machine) (sym is.after_is) (Between none refl received) in
      let last : InWorld (after_action s both.between (Deliver (delivered item))) (IsGoodRun c s rest) =
      subst (λ (o : Option World). InWorld o (IsGoodRun c s rest)) (sym (ap (λ (d : Delivery). after_action s both.between (Deliver d)) named ∙ both.then)) (later is.machine position) in
      subst (λ (o : Option World). InWorld o (IsGoodRun c s (runs.Comes (delivered item) ∷ rest))) (sym (ap (λ (x : World). after_action s x (Advance clock)) here ∙ both.once)) last

  -- ---- a choice

  run_goes : (before after : State) (clock thread node : ℕ) (rest : List runs.Entry) → IsRun g before clock thread node after → ((w : World) → Position after w → IsGoodRun c s rest w) → (w : World) → Position before w → IsGoodRun c s (runs.Waits clock ∷ rest) w
  run_goes before after clock thread node rest is later w (Within segment under way) = absurd (let both : false ≡ true = sym is.choice.point.between ∙ ap (λ (o : Option Segment). is_some o) under in cc)
  run_goes before after clock thread node rest is later w (Between none here rests) =
      let both = two s (Advance clock) (Pick thread) before.machine is.machine is.begins in
      let advanced = kept.advances before.machine both.between clock rests both.once in
      let way : Way c s B U kept both.between is.chosen.thread 0 is.machine = subst (λ (t : ℕ). Way c s B U kept both.between t 0 is.machine) is.thread_is (way_begun c s B U kept both.between is.machine thread advanced both.then) in
      let position : Position after both.between = subst (λ (state : State). Position state both.between) (sym is.after_is) (Within _ refl way) in
      subst (λ (o : Option World). InWorld o (IsGoodRun c s rest)) (sym (ap (λ (x : World). after_action s x (Advance clock)) here ∙ both.once)) (later both.between position)

  -- ---- a segment

  same_segment : (state : State) (segment other : Segment) → state.segment ≡ Some segment → state.segment ≡ Some other → segment ≡ other
  same_segment state segment other a b = let both : Some segment ≡ Some other = sym a ∙ b in cc

  out_goes : (before after : State) (thread : ℕ) (value : ℤ) (rest : List runs.Entry) → IsOut g before thread value after → ((w : World) → Position after w → IsGoodRun c s rest w) → (w : World) → Position before w → IsGoodRun c s rest w
  out_goes before after thread value rest is later w (Between none here rests) = absurd (let both : no_segment ≡ Some is.segment = sym none ∙ is.way.under_way in cc)
  out_goes before after thread value rest is later w (Within segment under way) =
      let same = same_segment before segment is.segment under is.way.under_way in
      let mine : Way c s B U kept w is.segment.thread is.segment.cost before.machine = subst (λ (x : Segment). Way c s B U kept w x.thread x.cost before.machine) same way in
      let here = way_quiet c s B U kept w before.machine is.here is.segment.thread is.segment.cost is.steps mine is.way.quiet in
      let next = way_puts c s B U kept w is.here is.machine is.segment.thread (is.segment.cost + is.steps) is.word here is.puts in
      later w (subst (λ (state : State). Position state w) (sym is.after_is) (Within _ refl next))

  turn_goes : (w machine : World) (thread number cost total : ℕ) (rest : List runs.Entry) → number ≡ thread → total ≡ cost → Rested c s B U kept w thread cost machine → (B machine → IsGoodRun c s rest machine) → IsGoodRun c s (runs.Turn number total ∷ rest) w
  turn_goes w machine thread number cost total rest number_is total_is is later =
      let inner : IsGoodStretch c s total is.begun × InWorld (after_steps s total is.begun) (IsGoodRun c s rest) = (
        subst (λ (n : ℕ). IsGoodStretch c s n is.begun) (sym total_is) is.stretch,
        subst (λ (o : Option World). InWorld o (IsGoodRun c s rest)) (sym (ap (λ (n : ℕ). after_steps s n is.begun) total_is ∙ is.steps)) (later is.rests),
      ) in
      subst (λ (o : Option World). InWorld o (λ (begun : World). IsGoodStretch c s total begun × InWorld (after_steps s total begun) (IsGoodRun c s rest))) (sym (ap (λ (n : ℕ). after_action s w (Pick n)) number_is ∙ is.picks)) inner

  block_goes : (before after : State) (thread node : ℕ) (key : List ℕ) (cost free : ℕ) (rest : List runs.Entry) → IsBlock g before thread node key cost free after → ((w : World) → Position after w → IsGoodRun c s rest w) → (w : World) → Position before w → IsGoodRun c s (runs.Turn thread cost ∷ rest) w
  block_goes before after thread node key cost free rest is later w (Between none here rests) = absurd (let both : no_segment ≡ Some is.segment = sym none ∙ is.way.under_way in cc)
  block_goes before after thread node key cost free rest is later w (Within segment under way) =
      let same = same_segment before segment is.segment under is.way.under_way in
      let mine : Way c s B U kept w is.segment.thread is.segment.cost before.machine = subst (λ (x : Segment). Way c s B U kept w x.thread x.cost before.machine) same way in
      let here = way_quiet c s B U kept w before.machine is.here is.segment.thread is.segment.cost is.steps mine is.way.quiet in
      let rested = way_blocks c s B U kept w is.here is.machine is.segment.thread (is.segment.cost + is.steps) here is.blocks in
      turn_goes w is.machine is.segment.thread thread (is.segment.cost + is.steps + 1) cost rest is.thread_is is.cost_is rested
      (λ rests. later is.machine (subst (λ (state : State). Position state is.machine) (sym is.after_is) (Between refl refl rests)))

  end_goes : (before after : State) (thread cost free : ℕ) (rest : List runs.Entry) → IsEnd g before thread cost free after → ((w : World) → Position after w → IsGoodRun c s rest w) → (w : World) → Position before w → IsGoodRun c s (runs.Turn thread cost ∷ rest) w
  end_goes before after thread cost free rest is later w (Between none here rests) = absurd (let both : no_segment ≡ Some is.segment = sym none ∙ is.way.under_way in cc)
  end_goes before after thread cost free rest is later w (Within segment under way) =
      let same = same_segment before segment is.segment under is.way.under_way in
      let mine : Way c s B U kept w is.segment.thread is.segment.cost before.machine = subst (λ (x : Segment). Way c s B U kept w x.thread x.cost before.machine) same way in
      let here = way_quiet c s B U kept w before.machine is.here is.segment.thread is.segment.cost is.steps mine is.way.quiet in
      let rested = way_ends c s B U kept w is.here is.machine is.segment.thread (is.segment.cost + is.steps) here is.ends in
      turn_goes w is.machine is.segment.thread thread (is.segment.cost + is.steps + 1) cost rest is.thread_is is.cost_is rested
      (λ rests. later is.machine (subst (λ (state : State). Position state is.machine) (sym is.after_is) (Between refl refl rests)))

  -- ---- entry by entry

  entry_goes : (before after : State) (entry : Entry) (more : List Entry) → IsAllowed g before entry after → GoesOn after more → GoesOn before (entry ∷ more)
  entry_goes before after (Entry.Event clock item) more is later w position = event_goes before after clock item _ (machine_entries more) is later w position
  entry_goes before after (Entry.Dropped clock item) more is later w position = event_goes before after clock item _ (machine_entries more) is later w position
  entry_goes before after (Entry.Run clock thread node) more is later w position = run_goes before after clock thread node (machine_entries more) is later w position
  entry_goes before after (Entry.Out thread value) more is later w position = out_goes before after thread value (machine_entries more) is later w position
  entry_goes before after (Entry.Block thread node key cost free) more is later w position = block_goes before after thread node key cost free (machine_entries more) is later w position
  entry_goes before after (Entry.End thread cost free) more is later w position = end_goes before after thread cost free (machine_entries more) is later w position
  entry_goes before after _ more is later w position = absurd is

  leads_goes : (before after : State) (entries more : List Entry) → Leads g before entries after → GoesOn after more → GoesOn before (entries ++ more)
  leads_goes before after entries more nowhere later w position = later w position
  leads_goes before after entries more (by_entry {between = between} {entry = entry} {entries = rest} is leads) later w position =
      entry_goes before between entry (rest ++ more) is (leads_goes between after rest more leads later) w position

  -- ---- the end

  edges_nothing : (edges : List EdgeLine) (stop : StopLine) → machine_entries (map (edge_entry g.policy.caps) edges ++ Entry.Stop stop ∷ []) ≡ stop_turns stop
  edges_nothing [] stop = refl
  edges_nothing (edge ∷ edges) stop = edges_nothing edges stop

  stop_goes : (last : State) (stop : StopLine) (end : World) → IsStop g last stop end → (w : World) → Position last w → IsGoodRun c s (stop_turns stop) w
  stop_goes last (StopLine.Cut thread stop cost free) end is w (Between none here rests) = absurd (let both : no_segment ≡ Some is.segment = sym none ∙ is.way.under_way in cc)
  stop_goes last (StopLine.Cut thread stop cost free) end is w (Within segment under way) =
      let same = same_segment last segment is.segment under is.way.under_way in
      let mine : Way c s B U kept w is.segment.thread is.segment.cost last.machine = subst (λ (x : Segment). Way c s B U kept w x.thread x.cost last.machine) same way in
      let here = way_quiet c s B U kept w last.machine end is.segment.thread is.segment.cost is.steps mine is.way.quiet in
      let inner : IsGoodStretch c s cost here.begun × InWorld (after_steps s cost here.begun) (IsGoodRun c s []) = (
        subst (λ (n : ℕ). IsGoodStretch c s n here.begun) (sym is.cost_is) here.stretch,
        subst (λ (o : Option World). InWorld o (IsGoodRun c s [])) (sym (ap (λ (n : ℕ). after_steps s n here.begun) is.cost_is ∙ here.steps)) tt,
      ) in
      subst (λ (o : Option World). InWorld o (λ (begun : World). IsGoodStretch c s cost begun × InWorld (after_steps s cost begun) (IsGoodRun c s []))) (sym (ap (λ (n : ℕ). after_action s w (Pick n)) is.thread_is ∙ here.picks)) inner
  stop_goes last _ end is w position = tt

  -- ---- the log

  pub log_is_good : (trace : List ℕ) (entries : List Entry) (stop : StopLine) (end : World) → ((start : World) → start_machine g ≡ Some start → B start) → IsLawfulLog g trace entries stop end → IsGoodLog g entries
  log_is_good trace entries stop end begun log = record {
    start = log.start;
    starts = log.starts;
    good = subst (λ (all : List Entry). IsGoodRun c s (machine_entries all) log.start) (sym log.entries_are)
        (leads_goes (start_of g trace log.start) log.last log.before_end (ending g log.last stop) log.leads
        (λ w position. subst (λ (rest : List runs.Entry). IsGoodRun c s rest w) (sym (edges_nothing (edges_of log.last.past.records) stop)) (stop_goes log.last stop end log.stops w position))
        log.start (Between refl refl (begun log.start log.starts)));
  }
