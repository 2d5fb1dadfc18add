-- When the threads of the tree follow those of the text, both do the same over whole schedules, runs of a thread, and runs that are cut.
use Rattle.hoist_meaning.proofs.Common.{ℕ, ◌+◌, ◌<◌, ◌≤◌, ◌≡◌, refl, sym, ap, subst, ◌∙◌, List, [], ◌∷◌, ◌++◌, length, Option, Some, None, option_map, arith, map, replicate, append-nil, Call, Blocking, Immediate, Question, Finish, Move, Goes, Asks, Stops, moves, Progress, Unfinished, Over, run, seen, TrapKind, Comes, comes, Came, came, RunComes, run_comes, run_came, ProgramTree, Running, Waiting, blocking_row, immediate_row, Delivery, with_delivery, SourceMove, source_step, source_machine, started, Rest, World, Segment, Rested, Entry, Deliver, Run, with_printed, empty_exchange, DeepProgram, DeepRunning, DeepWaiting, DeepMove, deep_step, deep_machine, DeepRest, DeepWorld, DeepSegment, DeepRested, RestsAlike, BothFresh, BothBlocked, BothEnded, RestAlike, WorldsAlike, ThreadStart, FitsFunction, shown_by_program, shown_by_text, RunsTheSame}
use Rattle.c_tree.specs.declared.facts.GlobalFact.{GlobalFact}
use Rattle.c_mean.specs.World as source
use Rattle.deep_mean.specs.DeepSteps as deep_steps
use Rattle.deep_mean.specs.DeepWorld as deep
use Rattle.hoist_meaning.proofs.Asking.{asked, asked_moves, went, stopped}
use Rattle.hoist_meaning.proofs.Outputs.{Outputs, Grows, cut_there, cut_here}
use Rattle.hoist_meaning.proofs.Matching.{ThreadsFollow, RestsMatch, ThreadsMatch, WorldsMatch, SegmentsMatch, BegunMatch, text_machine, tree_machine, segments_follow, begins}

-- ---- what segments put

abbrev text_shown : DeepSegment → Outputs
text_shown segment = segment.world.outputs

abbrev text_kept : DeepWorld → Outputs
text_kept world = world.outputs

abbrev tree_shown : Segment → Outputs
tree_shown segment = segment.world.outputs

abbrev tree_kept : World → Outputs
tree_kept world = world.outputs

abbrev text_asked : deep.SegmentMove → Move DeepSegment DeepWorld (Option TrapKind) ⊥
text_asked move = asked (λ (r : DeepRested). r.trap) (λ (r : DeepRested). r.world) move

abbrev tree_asked : source.SegmentMove → Move Segment World (Option TrapKind) ⊥
tree_asked move = asked (λ (r : Rested). r.trap) (λ (r : Rested). r.world) move

abbrev AtMostOne : Outputs → Outputs → Type 0
AtMostOne before after = (more : Outputs) × (after ≡ before ++ more) × (length more ≤ 1)

none_put : (outputs : Outputs) → AtMostOne outputs outputs
none_put outputs = ([], sym (append-nil outputs), omega arith)

printed_put : (number : ℕ) (outputs : Outputs) (prints : Option ℕ) → AtMostOne outputs (with_printed number outputs prints)
printed_put number outputs None = none_put outputs
printed_put number outputs (Some value) = ((number, value) ∷ [], refl, omega arith)

text_unless : (segment : DeepSegment) (globals : List (List ℕ)) (trap : Option TrapKind) (move : deep.SegmentMove) → Grows text_shown text_kept segment.world.outputs (text_asked move) → Grows text_shown text_kept segment.world.outputs (text_asked (deep.unless_trap segment globals trap move))
text_unless segment globals (Some trap) move h = refl
text_unless segment globals None move h = h

text_call : (caps : List ℕ) (segment : DeepSegment) (globals : List (List ℕ)) (waiting : DeepWaiting) (call : Call) → Grows text_shown text_kept segment.world.outputs (text_asked (deep.calls caps segment globals waiting call))
text_call caps segment globals waiting (Blocking block) = text_unless segment globals (blocking_row caps segment.world.exchange block).trap (deep.rests segment globals (deep.Blocked block waiting)) refl
text_call caps segment globals waiting (Immediate ask) =
    let row = immediate_row caps segment.world.exchange segment.number (length segment.world.threads) ask in
    text_unless segment globals row.trap _ (printed_put segment.number segment.world.outputs row.prints)

text_grows : (text : DeepProgram) (caps : List ℕ) (segment : DeepSegment) → Grows text_shown text_kept segment.world.outputs (text_asked (deep.segment_step text caps segment))
text_grows text caps segment = by_move (deep_step text segment.running)
  where
    by_move : (move : DeepMove) → Grows text_shown text_kept segment.world.outputs (text_asked (deep.segment_move caps segment move))
    by_move (Goes next) = none_put segment.world.outputs
    by_move (Asks question waiting) = text_call caps segment question.globals waiting question.call
    by_move (Stops finish) = text_unless segment finish.globals finish.trap (deep.rests segment finish.globals deep.Ended) refl

tree_unless : (segment : Segment) (globals : List (List ℕ)) (trap : Option TrapKind) (move : source.SegmentMove) → Grows tree_shown tree_kept segment.world.outputs (tree_asked move) → Grows tree_shown tree_kept segment.world.outputs (tree_asked (source.unless_trap segment globals trap move))
tree_unless segment globals (Some trap) move h = refl
tree_unless segment globals None move h = h

tree_call : (caps : List ℕ) (segment : Segment) (globals : List (List ℕ)) (waiting : Waiting) (call : Call) → Grows tree_shown tree_kept segment.world.outputs (tree_asked (source.calls caps segment globals waiting call))
tree_call caps segment globals waiting (Blocking block) = tree_unless segment globals (blocking_row caps segment.world.exchange block).trap (source.rests segment globals (source.Blocked block waiting)) refl
tree_call caps segment globals waiting (Immediate ask) =
    let row = immediate_row caps segment.world.exchange segment.number (length segment.world.threads) ask in
    tree_unless segment globals row.trap _ (printed_put segment.number segment.world.outputs row.prints)

tree_grows : (program : ProgramTree) (caps : List ℕ) (segment : Segment) → Grows tree_shown tree_kept segment.world.outputs (tree_asked (source.segment_step program caps segment))
tree_grows program caps segment = by_move (source_step program segment.running)
  where
    by_move : (move : SourceMove) → Grows tree_shown tree_kept segment.world.outputs (tree_asked (source.segment_move caps segment move))
    by_move (Goes next) = none_put segment.world.outputs
    by_move (Asks question waiting) = tree_call caps segment question.globals waiting question.call
    by_move (Stops finish) = tree_unless segment finish.globals finish.trap (source.rests segment finish.globals source.Ended) refl

abbrev started_globals : List GlobalFact → List (List ℕ)
started_globals globals = map (λ (g : GlobalFact). replicate g.words g.start) globals

module _ (text : DeepProgram) (program : ProgramTree) (R : DeepRunning → Running → Type 0) (V : DeepWaiting → Waiting → Type 0) (threads : ThreadsFollow text program R V) where
  -- ---- what is looked at of worlds that match

  rest_alike : (d : DeepRest) (r : Rest) → RestsMatch text program R V d r → RestsAlike r d
  rest_alike d r (RestsMatch.FreshMatch f arguments starts) = BothFresh f arguments
  rest_alike d r (RestsMatch.BlockedMatch block waiting other v) = BothBlocked block other waiting (sym (threads.keys waiting other v))
  rest_alike d r (RestsMatch.EndedMatch) = BothEnded

  rests_alike : (ds : List DeepRest) (rs : List Rest) → ThreadsMatch text program R V ds rs → RestAlike rs ds
  rests_alike ds rs (ThreadsMatch.Nil) = tt
  rests_alike ds rs (ThreadsMatch.Cons d r ds' rs' h hs) = (rest_alike d r h, rests_alike ds' rs' hs)

  pub worlds_alike : (world : DeepWorld) (other : World) → WorldsMatch text program R V world other → WorldsAlike other world
  worlds_alike world other (WorldsMatch.Match ds rs globals exchange outputs match) = record { threads = rests_alike ds rs match; globals = refl; exchange = refl; outputs = refl }

  same_outputs : (world : DeepWorld) (other : World) → WorldsMatch text program R V world other → world.outputs ≡ other.outputs
  same_outputs world other (WorldsMatch.Match ds rs globals exchange outputs match) = refl

  same_shown : (segment : DeepSegment) (other : Segment) → SegmentsMatch text program R V segment other → text_shown segment ≡ tree_shown other
  same_shown segment other (SegmentsMatch.Both number running there world world' r match) = same_outputs world world' match

  module _ (caps : List ℕ) where
    -- ---- a run of a thread

    abbrev TextRun : Option DeepSegment → DeepRested → Type 0
    TextRun begun rested = (n : ℕ) × (option_map (moves (deep.segment_machine text caps) n) begun ≡ Some (Stops rested))

    abbrev TreeRun : Option Segment → Rested → Type 0
    TreeRun begun rested = (n : ℕ) × (option_map (moves (source.segment_machine program caps) n) begun ≡ Some (Stops rested))

    abbrev Here : Option Segment → DeepRested → Type 0
    Here begun rested = (end : Rested) × TreeRun begun end × (end.trap ≡ rested.trap) × WorldsMatch text program R V rested.world end.world

    abbrev There : Option DeepSegment → Rested → Type 0
    There begun rested = (end : DeepRested) × TextRun begun end × (rested.trap ≡ end.trap) × WorldsMatch text program R V end.world rested.world

    run_here : (outputs : Outputs) (b : Option DeepSegment) (c : Option Segment) (rested : DeepRested) → BegunMatch text program R V caps threads outputs b c → TextRun b rested → Here c rested
    run_here outputs b c rested (BegunMatch.NotBegun o) h = let e = h.1 in absurd cc
    run_here outputs b c rested (BegunMatch.Begun d s match) h =
        let e : moves (deep.segment_machine text caps) h.0 d ≡ Stops rested = (let f = h.1 in cc) in
        let asks : moves (text_machine text program R V caps) h.0 d ≡ Asks rested.trap rested.world = asked_moves (λ (r : DeepRested). r.trap) (λ (r : DeepRested). r.world) (deep.segment_machine text caps) h.0 d ∙ ap text_asked e in
        let there = subst (λ v. Comes (SegmentsMatch text program R V) (WorldsMatch text program R V) (text_machine text program R V caps) (tree_machine text program R V caps) (segments_follow text program R V caps threads) h.0 v s) asks
        (comes (SegmentsMatch text program R V) (WorldsMatch text program R V) (text_machine text program R V caps) (tree_machine text program R V caps) (segments_follow text program R V caps threads) h.0 d s match) in
        let end = stopped (λ (r : Rested). r.trap) (λ (r : Rested). r.world) (moves (source.segment_machine program caps) there.0 s) rested.trap there.1
        (sym (asked_moves (λ (r : Rested). r.trap) (λ (r : Rested). r.world) (source.segment_machine program caps) there.0 s) ∙ there.2) in
        (end.0, (there.0, ap Some end.1), end.2, subst (WorldsMatch text program R V rested.world) (sym end.3) there.3)

    run_there : (outputs : Outputs) (b : Option DeepSegment) (c : Option Segment) (rested : Rested) → BegunMatch text program R V caps threads outputs b c → TreeRun c rested → There b rested
    run_there outputs b c rested (BegunMatch.NotBegun o) h = let e = h.1 in absurd cc
    run_there outputs b c rested (BegunMatch.Begun d s match) h =
        let e : moves (source.segment_machine program caps) h.0 s ≡ Stops rested = (let f = h.1 in cc) in
        let asks : moves (tree_machine text program R V caps) h.0 s ≡ Asks rested.trap rested.world = asked_moves (λ (r : Rested). r.trap) (λ (r : Rested). r.world) (source.segment_machine program caps) h.0 s ∙ ap tree_asked e in
        let there = subst (λ v. Came (SegmentsMatch text program R V) (WorldsMatch text program R V) (text_machine text program R V caps) (tree_machine text program R V caps) (segments_follow text program R V caps threads) v d) asks
        (came (SegmentsMatch text program R V) (WorldsMatch text program R V) (text_machine text program R V caps) (tree_machine text program R V caps) (segments_follow text program R V caps threads) h.0 d s match) in
        let end = stopped (λ (r : DeepRested). r.trap) (λ (r : DeepRested). r.world) (moves (deep.segment_machine text caps) there.0 d) rested.trap there.1
        (sym (asked_moves (λ (r : DeepRested). r.trap) (λ (r : DeepRested). r.world) (deep.segment_machine text caps) there.0 d) ∙ there.2) in
        (end.0, (there.0, ap Some end.1), sym end.2, subst (λ w. WorldsMatch text program R V w rested.world) (sym end.3) there.3)

    -- ---- schedules

    delivered : (world : DeepWorld) (other : World) (delivery : Delivery) → WorldsMatch text program R V world other
        → WorldsMatch text program R V (record world { exchange = with_delivery world.exchange delivery }) (record other { exchange = with_delivery other.exchange delivery })
    delivered world other delivery (WorldsMatch.Match ds rs globals exchange outputs match) = WorldsMatch.Match ds rs globals (with_delivery exchange delivery) outputs match

    entry_here : (entry : Entry) (world next : DeepWorld) (other : World) → WorldsMatch text program R V world other → deep.IsAfterEntry text caps world entry next → (after : World) × source.IsAfterEntry program caps other entry after × WorldsMatch text program R V next after
    entry_here (Deliver delivery) world next other match h =
        (record other { exchange = with_delivery other.exchange delivery }, refl, subst (λ w. WorldsMatch text program R V w (record other { exchange = with_delivery other.exchange delivery })) (sym h) (delivered world other delivery match))
    entry_here (Run number) world next other match h =
        let end = run_here world.outputs (deep.begun text caps world number) (source.begun program caps other number) (record { trap = None; world = next }) (begins text program R V caps threads world other number match) h in
        let same : end.0 ≡ record { trap = None; world = end.0.world } = ap (λ (t : Option TrapKind). record { trap = t; world = end.0.world }) end.2 in
        (end.0.world, subst (TreeRun (source.begun program caps other number)) same end.1, end.3)

    entry_there : (entry : Entry) (world : DeepWorld) (other next : World) → WorldsMatch text program R V world other → source.IsAfterEntry program caps other entry next → (after : DeepWorld) × deep.IsAfterEntry text caps world entry after × WorldsMatch text program R V after next
    entry_there (Deliver delivery) world other next match h =
        (record world { exchange = with_delivery world.exchange delivery }, refl, subst (WorldsMatch text program R V (record world { exchange = with_delivery world.exchange delivery })) (sym h) (delivered world other delivery match))
    entry_there (Run number) world other next match h =
        let end = run_there world.outputs (deep.begun text caps world number) (source.begun program caps other number) (record { trap = None; world = next }) (begins text program R V caps threads world other number match) h in
        let same : end.0 ≡ record { trap = None; world = end.0.world } = ap (λ (t : Option TrapKind). record { trap = t; world = end.0.world }) (sym end.2) in
        (end.0.world, subst (TextRun (deep.begun text caps world number)) same end.1, end.3)

    pub after_here : (entries : List Entry) (world after : DeepWorld) (other : World) → WorldsMatch text program R V world other → deep.IsAfter text caps world entries after → (there : World) × source.IsAfter program caps other entries there × WorldsMatch text program R V after there
    after_here [] world after other match h = (other, refl, subst (λ w. WorldsMatch text program R V w other) (sym h) match)
    after_here (entry ∷ entries) world after other match h =
        let next = entry_here entry world h.0 other match h.1 in
        let rest = after_here entries h.0 after next.0 next.2 h.2 in (rest.0, (next.0, next.1, rest.1), rest.2)

    pub after_there : (entries : List Entry) (world : DeepWorld) (other after : World) → WorldsMatch text program R V world other → source.IsAfter program caps other entries after → (there : DeepWorld) × deep.IsAfter text caps world entries there × WorldsMatch text program R V there after
    after_there [] world other after match h = (world, refl, subst (WorldsMatch text program R V world) (sym h) match)
    after_there (entry ∷ entries) world other after match h =
        let next = entry_there entry world other h.0 match h.1 in
        let rest = after_there entries next.0 h.0 after next.2 h.2 in (rest.0, (next.0, next.1, rest.1), rest.2)

    -- ---- cuts

    abbrev TextCut : Option DeepSegment → ℕ → DeepSegment → Type 0
    TextCut begun count segment =
        (m : ℕ) × (option_map (moves (deep.segment_machine text caps) m) begun ≡ Some (Goes segment)) × (length segment.world.outputs ≡ count)
        × ((n : ℕ) → n < m → (earlier : DeepSegment) → option_map (moves (deep.segment_machine text caps) n) begun ≡ Some (Goes earlier) → length earlier.world.outputs < count)

    abbrev TreeCut : Option Segment → ℕ → Segment → Type 0
    TreeCut begun count segment =
        (m : ℕ) × (option_map (moves (source.segment_machine program caps) m) begun ≡ Some (Goes segment)) × (length segment.world.outputs ≡ count)
        × ((n : ℕ) → n < m → (earlier : Segment) → option_map (moves (source.segment_machine program caps) n) begun ≡ Some (Goes earlier) → length earlier.world.outputs < count)

    text_went : (n : ℕ) (d segment : DeepSegment) → option_map (moves (deep.segment_machine text caps) n) (Some d) ≡ Some (Goes segment) → moves (text_machine text program R V caps) n d ≡ Goes segment
    text_went n d segment e =
        let f : moves (deep.segment_machine text caps) n d ≡ Goes segment = cc in asked_moves (λ (r : DeepRested). r.trap) (λ (r : DeepRested). r.world) (deep.segment_machine text caps) n d ∙ ap text_asked f

    tree_went : (n : ℕ) (s segment : Segment) → option_map (moves (source.segment_machine program caps) n) (Some s) ≡ Some (Goes segment) → moves (tree_machine text program R V caps) n s ≡ Goes segment
    tree_went n s segment e =
        let f : moves (source.segment_machine program caps) n s ≡ Goes segment = cc in asked_moves (λ (r : Rested). r.trap) (λ (r : Rested). r.world) (source.segment_machine program caps) n s ∙ ap tree_asked f

    text_goes : (n : ℕ) (d segment : DeepSegment) → moves (text_machine text program R V caps) n d ≡ Goes segment → option_map (moves (deep.segment_machine text caps) n) (Some d) ≡ Some (Goes segment)
    text_goes n d segment e =
        ap Some (went (λ (r : DeepRested). r.trap) (λ (r : DeepRested). r.world) (moves (deep.segment_machine text caps) n d) segment (sym (asked_moves (λ (r : DeepRested). r.trap) (λ (r : DeepRested). r.world) (deep.segment_machine text caps) n d) ∙ e))

    tree_goes : (n : ℕ) (s segment : Segment) → moves (tree_machine text program R V caps) n s ≡ Goes segment → option_map (moves (source.segment_machine program caps) n) (Some s) ≡ Some (Goes segment)
    tree_goes n s segment e =
        ap Some (went (λ (r : Rested). r.trap) (λ (r : Rested). r.world) (moves (source.segment_machine program caps) n s) segment (sym (asked_moves (λ (r : Rested). r.trap) (λ (r : Rested). r.world) (source.segment_machine program caps) n s) ∙ e))

    cut_in_tree : (outputs : Outputs) (b : Option DeepSegment) (c : Option Segment) (count : ℕ) (segment : DeepSegment) → BegunMatch text program R V caps threads outputs b c → length outputs ≤ count → TextCut b count segment
        → (there : Segment) × TreeCut c count there × (there.world.outputs ≡ segment.world.outputs)
    cut_in_tree outputs b c count segment (BegunMatch.NotBegun o) few h = let e = h.1 in absurd cc
    cut_in_tree outputs b c count segment (BegunMatch.Begun d s match) few h =
        let f = cut_there (SegmentsMatch text program R V) (WorldsMatch text program R V) (text_machine text program R V caps) (tree_machine text program R V caps) (segments_follow text program R V caps threads)
        text_shown text_kept tree_shown tree_kept (text_grows text caps) (tree_grows program caps) same_shown same_outputs h.0 count d segment s match few (text_went h.0 d segment h.1) h.2 in
        (f.0.state, (f.0.steps, tree_goes f.0.steps s f.0.state f.0.comes, f.0.many, λ n lt earlier e. f.0.first n lt earlier (tree_went n s earlier e)), f.1)

    cut_in_text : (outputs : Outputs) (b : Option DeepSegment) (c : Option Segment) (count : ℕ) (segment : Segment) → BegunMatch text program R V caps threads outputs b c → length outputs ≤ count → TreeCut c count segment
        → (there : DeepSegment) × TextCut b count there × (there.world.outputs ≡ segment.world.outputs)
    cut_in_text outputs b c count segment (BegunMatch.NotBegun o) few h = let e = h.1 in absurd cc
    cut_in_text outputs b c count segment (BegunMatch.Begun d s match) few h =
        let at_start : length d.world.outputs ≡ length s.world.outputs = ap length (same_shown d s match) in
        let f = cut_here (SegmentsMatch text program R V) (WorldsMatch text program R V) (text_machine text program R V caps) (tree_machine text program R V caps) (segments_follow text program R V caps threads)
        text_shown text_kept tree_shown tree_kept (text_grows text caps) (tree_grows program caps) same_shown same_outputs h.0 count d s segment match (omega (arith, at_start, few)) (tree_went h.0 s segment h.1) h.2 in
        (f.0.state, (f.0.steps, text_goes f.0.steps d f.0.state f.0.comes, f.0.many, λ n lt earlier e. f.0.first n lt earlier (text_went n d earlier e)), f.1)

    pub cuts_here : (world : DeepWorld) (other : World) (number puts : ℕ) (segment : DeepSegment) → WorldsMatch text program R V world other → deep.IsCutAt text caps world number puts segment
        → (there : Segment) × source.IsCutAt program caps other number puts there × (there.world.outputs ≡ segment.world.outputs)
    cuts_here world other number puts segment match h =
        let same : length world.outputs + puts ≡ length other.outputs + puts = ap (λ (os : Outputs). length os + puts) (same_outputs world other match) in
        let f = cut_in_tree world.outputs (deep.begun text caps world number) (source.begun program caps other number) (length world.outputs + puts) segment (begins text program R V caps threads world other number match) (omega arith) h in
        (f.0, subst (λ count. TreeCut (source.begun program caps other number) count f.0) same f.1, f.2)

    pub cuts_there : (world : DeepWorld) (other : World) (number puts : ℕ) (segment : Segment) → WorldsMatch text program R V world other → source.IsCutAt program caps other number puts segment
        → (there : DeepSegment) × deep.IsCutAt text caps world number puts there × (there.world.outputs ≡ segment.world.outputs)
    cuts_there world other number puts segment match h =
        let same : length other.outputs + puts ≡ length world.outputs + puts = ap (λ (os : Outputs). length os + puts) (sym (same_outputs world other match)) in
        cut_in_text world.outputs (deep.begun text caps world number) (source.begun program caps other number) (length world.outputs + puts) segment (begins text program R V caps threads world other number match) (omega arith)
        (subst (λ count. TreeCut (source.begun program caps other number) count segment) same h)

    pub runs_here : (world : DeepWorld) (other : World) (number : ℕ) (rested : DeepRested) → WorldsMatch text program R V world other → deep.RunsTo text caps world number rested
        → (end : Rested) × source.RunsTo program caps other number end × (end.trap ≡ rested.trap) × WorldsMatch text program R V rested.world end.world
    runs_here world other number rested match h = run_here world.outputs (deep.begun text caps world number) (source.begun program caps other number) rested (begins text program R V caps threads world other number match) h

    pub runs_there : (world : DeepWorld) (other : World) (number : ℕ) (rested : Rested) → WorldsMatch text program R V world other → source.RunsTo program caps other number rested
        → (end : DeepRested) × deep.RunsTo text caps world number end × (rested.trap ≡ end.trap) × WorldsMatch text program R V end.world rested.world
    runs_there world other number rested match h = run_there world.outputs (deep.begun text caps world number) (source.begun program caps other number) rested (begins text program R V caps threads world other number match) h

  -- ---- from the start

  start_match : text.main ≡ program.main → text.globals ≡ program.globals → WorldsMatch text program R V (deep.start_world text) (source.start_world program)
  start_match mains globals =
      subst (λ g. WorldsMatch text program R V (deep.start_world text) (record { threads = source.Fresh program.main [] ∷ []; globals = started_globals g; exchange = empty_exchange; outputs = [] })) globals
      (subst (λ m. WorldsMatch text program R V (deep.start_world text) (record { threads = source.Fresh m [] ∷ []; globals = started_globals text.globals; exchange = empty_exchange; outputs = [] })) mains
      (WorldsMatch.Match (deep.Fresh text.main [] ∷ []) (source.Fresh text.main [] ∷ []) (started_globals text.globals) empty_exchange []
      (ThreadsMatch.Cons (deep.Fresh text.main []) (source.Fresh text.main []) [] [] (RestsMatch.FreshMatch text.main [] threads.main) ThreadsMatch.Nil)))

  -- ---- a thread alone

  -- what the text's thread shows, that of the program shows
  program_shown : (start : ThreadStart) (n : ℕ) (progress : Progress DeepRunning Question Finish) (other : Running) → RunComes R V (deep_machine text) (source_machine program) threads.follows start.answers n progress [] other
      → (m : ℕ) × (seen (run (source_machine program) start.answers m [] other) ≡ seen progress)
  program_shown start n (Unfinished calls next) other h = (h.0, ap seen h.3)
  program_shown start n (Over calls end) other h = (h.0, ap seen h.1)

  shows : (start : ThreadStart) → FitsFunction program start → (n : ℕ) → (m : ℕ) × (shown_by_program program start m ≡ shown_by_text text start n)
  shows start fits n =
      let one = deep_steps.started text start.function start.arguments start.globals in
      let other = started program start.function start.arguments start.globals in
      program_shown start n (run (deep_machine text) start.answers n [] one) other
      (run_comes R V (deep_machine text) (source_machine program) threads.follows start.answers n [] one other (threads.starts start.function start.arguments start.globals fits))

  shown : (start : ThreadStart) → FitsFunction program start → (n : ℕ) → (m : ℕ) × (shown_by_text text start m ≡ shown_by_program program start n)
  shown start fits n =
      run_came R V (deep_machine text) (source_machine program) threads.follows start.answers n []
      (deep_steps.started text start.function start.arguments start.globals) (started program start.function start.arguments start.globals)
      (threads.starts start.function start.arguments start.globals fits)

  -- Threads that follow make programs that run the same.
  pub follow_same : text.main ≡ program.main → text.globals ≡ program.globals → RunsTheSame program text
  follow_same mains globals =
      let start = start_match mains globals in
      record {
        reached = λ caps entries after h.
            let at = after_there caps entries (deep.start_world text) (source.start_world program) after start h in (at.0, at.1, worlds_alike at.0 after at.2);
        reaches = λ caps entries other h.
            let at = after_here caps entries (deep.start_world text) other (source.start_world program) start h in (at.0, at.1, worlds_alike other at.0 at.2);
        rested = λ caps entries world number rested h run.
            let at = after_there caps entries (deep.start_world text) (source.start_world program) world start h in
            let end = runs_there caps at.0 world number rested at.2 run in (at.0, end.0, at.1, end.1, end.2, worlds_alike end.0.world rested.world end.3);
        rests = λ caps entries other number end h run.
            let at = after_here caps entries (deep.start_world text) other (source.start_world program) start h in
            let rested = runs_here caps other at.0 number end at.2 run in (at.0, rested.0, at.1, rested.1, rested.2, worlds_alike end.world rested.0.world rested.3);
        cut = λ caps entries world number puts segment h cut.
            let at = after_there caps entries (deep.start_world text) (source.start_world program) world start h in
            let there = cuts_there caps at.0 world number puts segment at.2 cut in (at.0, there.0, at.1, there.1, sym there.2);
        cuts = λ caps entries other number puts there h cut.
            let at = after_here caps entries (deep.start_world text) other (source.start_world program) start h in
            let here = cuts_here caps other at.0 number puts there at.2 cut in (at.0, here.0, at.1, here.1, here.2);
        shown = shown;
        shows = shows;
      }
