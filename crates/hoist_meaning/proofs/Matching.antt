-- When the threads of the tree follow those of the text, the worlds that they make match, and a segment of one thread follows too.
use Rattle.hoist_meaning.proofs.Common.{ℕ, zero, suc, ◌+◌, ◌≡◌, refl, ap, subst, ◌∙◌, List, [], ◌∷◌, ◌++◌, length, Option, Some, None, arith, slice_get, slice_set, Call, Blocking, Immediate, Answer, Move, Goes, Asks, Stops, Machine, and_then, moves, IsAnswered, Follows, Ask, TrapKind, goes_on, asks_at, stops_at, ProgramTree, Running, Waiting, key_of, function_at, Exchange, ImmediateRow, blocking_row, immediate_row, Rest, World, Segment, Rested, with_printed, DeepProgram, DeepRunning, DeepWaiting, DeepMove, DeepRest, DeepWorld, DeepSegment, DeepRested}
use Rattle.cap_word.specs.declared.calls.Block.{Block}
use Rattle.c_mean.specs.Steps as source_steps
use Rattle.c_mean.specs.World as source
use Rattle.c_mean.proofs.SegmentLemmas.{silent}
use Rattle.deep_mean.specs.DeepFrames as frames
use Rattle.deep_mean.specs.DeepSteps as deep_steps
use Rattle.deep_mean.specs.DeepWorld as deep
use Rattle.hoist_meaning.proofs.Asking.{asked, asking, asked_moves}

-- threads of the tree follow those of the text, from their starts on
pub record ThreadsFollow (text : DeepProgram) (program : ProgramTree) (R : DeepRunning → Running → Type 0) (V : DeepWaiting → Waiting → Type 0) : Type 0 where
  pub follows : Follows R V (deep_steps.deep_machine text) (source_steps.source_machine program)
  -- threads that start a function
  pub starts : (f : ℕ) (arguments : List ℕ) (globals : List (List ℕ)) → length arguments ≡ (function_at program f).params → R (deep_steps.started text f arguments globals) (source_steps.started program f arguments globals)
  -- threads at a modelled call have the same key
  pub keys : (waiting : DeepWaiting) (other : Waiting) → V waiting other → frames.key_of waiting ≡ key_of other
  -- the threads that `main` and a `spawn` start
  pub main : (globals : List (List ℕ)) → R (deep_steps.started text text.main [] globals) (source_steps.started program text.main [] globals)
  pub spawned : (state : DeepRunning) (other : Running) (f argument : ℕ) (here globals : List (List ℕ)) (waiting : DeepWaiting) → R state other
      → deep_steps.deep_step text state ≡ Asks (record { call = Immediate (Ask.Spawn f argument); globals = here }) waiting
      → R (deep_steps.started text f (argument ∷ []) globals) (source_steps.started program f (argument ∷ []) globals)

module _ (text : DeepProgram) (program : ProgramTree) (R : DeepRunning → Running → Type 0) (V : DeepWaiting → Waiting → Type 0) where
  -- ---- worlds

  -- two threads rest alike, so that they go on alike
  pub data RestsMatch : DeepRest → Rest → Type 0 where
    FreshMatch : (f : ℕ) (arguments : List ℕ) → ((globals : List (List ℕ)) → R (deep_steps.started text f arguments globals) (source_steps.started program f arguments globals)) → RestsMatch (deep.Fresh f arguments) (source.Fresh f arguments)
    BlockedMatch : (block : Block) (waiting : DeepWaiting) (other : Waiting) → V waiting other → RestsMatch (deep.Blocked block waiting) (source.Blocked block other)
    EndedMatch : RestsMatch deep.Ended source.Ended

  pub data ThreadsMatch : List DeepRest → List Rest → Type 0 where
    Nil : ThreadsMatch [] []
    Cons : (d : DeepRest) (r : Rest) (ds : List DeepRest) (rs : List Rest) → RestsMatch d r → ThreadsMatch ds rs → ThreadsMatch (d ∷ ds) (r ∷ rs)

  pub data WorldsMatch : DeepWorld → World → Type 0 where
    Match : (ds : List DeepRest) (rs : List Rest) (globals : List (List ℕ)) (exchange : Exchange) (outputs : List (ℕ × ℕ)) → ThreadsMatch ds rs
        → WorldsMatch (record { threads = ds; globals = globals; exchange = exchange; outputs = outputs }) (record { threads = rs; globals = globals; exchange = exchange; outputs = outputs })

  pub data SegmentsMatch : DeepSegment → Segment → Type 0 where
    Both : (number : ℕ) (running : DeepRunning) (other : Running) (world : DeepWorld) (there : World) → R running other → WorldsMatch world there
        → SegmentsMatch (record { number = number; running = running; world = world }) (record { number = number; running = other; world = there })

  pub same_length : (ds : List DeepRest) (rs : List Rest) → ThreadsMatch ds rs → length ds ≡ length rs
  same_length ds rs (ThreadsMatch.Nil) = refl
  same_length ds rs (ThreadsMatch.Cons d r ds' rs' h hs) = ap suc (same_length ds' rs' hs)

  pub set_match : (ds : List DeepRest) (rs : List Rest) (n : ℕ) (d : DeepRest) (r : Rest) → ThreadsMatch ds rs → RestsMatch d r → ThreadsMatch (slice_set ds n d) (slice_set rs n r)
  set_match ds rs n d r (ThreadsMatch.Nil) h = ThreadsMatch.Nil
  set_match ds rs zero d r (ThreadsMatch.Cons e s ds' rs' g gs) h = ThreadsMatch.Cons d r ds' rs' h gs
  set_match ds rs (suc n) d r (ThreadsMatch.Cons e s ds' rs' g gs) h = ThreadsMatch.Cons e s (slice_set ds' n d) (slice_set rs' n r) g (set_match ds' rs' n d r gs h)

  pub more_match : (ds : List DeepRest) (rs : List Rest) (d : DeepRest) (r : Rest) → ThreadsMatch ds rs → RestsMatch d r → ThreadsMatch (ds ++ d ∷ []) (rs ++ r ∷ [])
  more_match ds rs d r (ThreadsMatch.Nil) h = ThreadsMatch.Cons d r [] [] h ThreadsMatch.Nil
  more_match ds rs d r (ThreadsMatch.Cons e s ds' rs' g gs) h = ThreadsMatch.Cons e s (ds' ++ d ∷ []) (rs' ++ r ∷ []) g (more_match ds' rs' d r gs h)

  -- the thread of a number
  pub data OptionsMatch : Option DeepRest → Option Rest → Type 0 where
    Neither : OptionsMatch None None
    Here : (d : DeepRest) (r : Rest) → RestsMatch d r → OptionsMatch (Some d) (Some r)

  pub thread_matches : (ds : List DeepRest) (rs : List Rest) (n : ℕ) → ThreadsMatch ds rs → OptionsMatch (slice_get ds n) (slice_get rs n)
  thread_matches ds rs n (ThreadsMatch.Nil) = OptionsMatch.Neither
  thread_matches ds rs zero (ThreadsMatch.Cons d r ds' rs' h hs) = OptionsMatch.Here d r h
  thread_matches ds rs (suc n) (ThreadsMatch.Cons d r ds' rs' h hs) = thread_matches ds' rs' n hs

  -- ---- segments

  abbrev pub text_machine : List ℕ → Machine DeepSegment DeepWorld (Option TrapKind) ⊥ ⊥
  text_machine caps = asking (λ (r : DeepRested). r.trap) (λ (r : DeepRested). r.world) (deep.segment_machine text caps)

  abbrev pub tree_machine : List ℕ → Machine Segment World (Option TrapKind) ⊥ ⊥
  tree_machine caps = asking (λ (r : Rested). r.trap) (λ (r : Rested). r.world) (source.segment_machine program caps)

  abbrev in_text : deep.SegmentMove → Move DeepSegment DeepWorld (Option TrapKind) ⊥
  in_text move = asked (λ (r : DeepRested). r.trap) (λ (r : DeepRested). r.world) move

  abbrev in_tree : source.SegmentMove → Move Segment World (Option TrapKind) ⊥
  in_tree move = asked (λ (r : Rested). r.trap) (λ (r : Rested). r.world) move

  -- what steps of two segments come to
  data MovesMatch : Move DeepSegment DeepWorld (Option TrapKind) ⊥ → Move Segment World (Option TrapKind) ⊥ → Type 0 where
    On : (d : DeepSegment) (s : Segment) → SegmentsMatch d s → MovesMatch (Goes d) (Goes s)
    Rests : (trap : Option TrapKind) (world : DeepWorld) (there : World) → WorldsMatch world there → MovesMatch (Asks trap world) (Asks trap there)

  module _ (caps : List ℕ) (threads : ThreadsFollow text program R V) where
    quiet : (segment : Segment) (n : ℕ) (thread : Running) → moves (source_steps.source_machine program) n segment.running ≡ Goes thread → moves (tree_machine caps) n segment ≡ Goes (record segment { running = thread })
    quiet segment n thread e =
        asked_moves (λ (r : Rested). r.trap) (λ (r : Rested). r.world) (source.segment_machine program caps) n segment ∙ ap in_tree (silent program caps segment n thread e)

    answered_after : (count : ℕ) (segment last : Segment) (move : Move DeepSegment DeepWorld (Option TrapKind) ⊥) (there : Move Segment World (Option TrapKind) ⊥) → moves (tree_machine caps) count segment ≡ Goes last → (tree_machine caps).step last ≡ there → MovesMatch move there
        → IsAnswered SegmentsMatch WorldsMatch (tree_machine caps) move segment
    answered_after count segment last move there e f (MovesMatch.On d s h) =
        let sum : suc count ≡ count + 1 = omega arith in
        (count, s, ap (λ n. moves (tree_machine caps) n segment) sum ∙ goes_on (tree_machine caps) count 1 segment last e ∙ ap (λ m. and_then m (moves (tree_machine caps) 0)) f, h)
    answered_after count segment last move there e f (MovesMatch.Rests trap world other h) =
        (count + 1, other, goes_on (tree_machine caps) count 1 segment last e ∙ ap (λ m. and_then m (moves (tree_machine caps) 0)) f, h)

    module _ (number : ℕ) (ds : List DeepRest) (rs : List Rest) (globals : List (List ℕ)) (exchange : Exchange) (outputs : List (ℕ × ℕ)) (match : ThreadsMatch ds rs) where
      abbrev text_world : DeepWorld
      text_world = record { threads = ds; globals = globals; exchange = exchange; outputs = outputs }

      abbrev tree_world : World
      tree_world = record { threads = rs; globals = globals; exchange = exchange; outputs = outputs }

      abbrev text_segment : DeepRunning → DeepSegment
      text_segment running = record { number = number; running = running; world = text_world }

      abbrev tree_segment : Running → Segment
      tree_segment running = record { number = number; running = running; world = tree_world }

      unless_match : (running : DeepRunning) (other : Running) (here : List (List ℕ)) (trap : Option TrapKind) (move : deep.SegmentMove) (there : source.SegmentMove) → MovesMatch (in_text move) (in_tree there)
          → MovesMatch (in_text (deep.unless_trap (text_segment running) here trap move)) (in_tree (source.unless_trap (tree_segment other) here trap there))
      unless_match running other here (Some trap) move there h =
          MovesMatch.Rests (Some trap) (record text_world { globals = here }) (record tree_world { globals = here }) (WorldsMatch.Match ds rs here exchange outputs match)
      unless_match running other here None move there h = h

      rest_match : (running : DeepRunning) (other : Running) (here : List (List ℕ)) (d : DeepRest) (r : Rest) → RestsMatch d r → MovesMatch (in_text (deep.rests (text_segment running) here d)) (in_tree (source.rests (tree_segment other) here r))
      rest_match running other here d r h =
          MovesMatch.Rests None (record text_world { threads = slice_set ds number d; globals = here }) (record tree_world { threads = slice_set rs number r; globals = here })
          (WorldsMatch.Match (slice_set ds number d) (slice_set rs number r) here exchange outputs (set_match ds rs number d r match h))

      abbrev Starts : ℕ → ℕ → Type 0
      Starts f argument = (here : List (List ℕ)) → R (deep_steps.started text f (argument ∷ []) here) (source_steps.started program f (argument ∷ []) here)

      started_match : (next : ℕ) (ask : Ask) → ((f argument : ℕ) → ask ≡ Ask.Spawn f argument → Starts f argument)
          → ThreadsMatch (deep.with_started ds (immediate_row caps exchange number next ask).starts) (source.with_started rs (immediate_row caps exchange number next ask).starts)
      started_match next (Ask.Spawn f argument) h = more_match ds rs (deep.Fresh f (argument ∷ [])) (source.Fresh f (argument ∷ [])) match (RestsMatch.FreshMatch f (argument ∷ []) (h f argument refl))
      started_match next _ h = match

      answer_match : (running : DeepRunning) (other : Running) (here : List (List ℕ)) (waiting : DeepWaiting) (there : Waiting) (row : ImmediateRow) → V waiting there
          → ThreadsMatch (deep.with_started ds row.starts) (source.with_started rs row.starts)
          → MovesMatch (in_text (deep.answered (text_segment running) here waiting row)) (in_tree (source.answered (tree_segment other) here there row))
      answer_match running other here waiting there row v started =
          let answer : Answer = record { result = row.result; globals = here } in
          let d : DeepSegment = record { number = number; running = deep_steps.deep_resume waiting answer; world = deep.after_ask text_world number row } in
          let s : Segment = record { number = number; running = source_steps.source_resume there answer; world = source.after_ask tree_world number row } in
          unless_match running other here row.trap (Goes d) (Goes s)
          (MovesMatch.On d s
          (SegmentsMatch.Both number (deep_steps.deep_resume waiting answer) (source_steps.source_resume there answer) (deep.after_ask text_world number row) (source.after_ask tree_world number row) (threads.follows.resumes waiting there answer v)
          (WorldsMatch.Match (deep.with_started ds row.starts) (source.with_started rs row.starts) globals row.after (with_printed number outputs row.prints) started)))

      call_match : (running : DeepRunning) (other : Running) (here : List (List ℕ)) (waiting : DeepWaiting) (there : Waiting) (call : Call) → V waiting there → ((f argument : ℕ) → call ≡ Immediate (Ask.Spawn f argument) → Starts f argument)
          → MovesMatch (in_text (deep.calls caps (text_segment running) here waiting call)) (in_tree (source.calls caps (tree_segment other) here there call))
      call_match running other here waiting there (Blocking block) v starts =
          unless_match running other here (blocking_row caps exchange block).trap (deep.rests (text_segment running) here (deep.Blocked block waiting)) (source.rests (tree_segment other) here (source.Blocked block there))
          (rest_match running other here (deep.Blocked block waiting) (source.Blocked block there) (RestsMatch.BlockedMatch block waiting there v))
      call_match running other here waiting there (Immediate ask) v starts =
          subst (λ (n : ℕ). MovesMatch (in_text (deep.calls caps (text_segment running) here waiting (Immediate ask))) (in_tree (source.answered (tree_segment other) here there (immediate_row caps exchange number n ask))))
          (same_length ds rs match)
          (answer_match running other here waiting there (immediate_row caps exchange number (length ds) ask) v (started_match (length ds) ask (λ f argument e. starts f argument (ap Immediate e))))

      step_answers : (running : DeepRunning) (other : Running) → R running other → (move : DeepMove) → deep_steps.deep_step text running ≡ move → IsAnswered R V (source_steps.source_machine program) move other
          → IsAnswered SegmentsMatch WorldsMatch (tree_machine caps) (in_text (deep.segment_move caps (text_segment running) move)) (tree_segment other)
      step_answers running other r (Goes next) e h =
          (h.0, tree_segment h.1, quiet (tree_segment other) (suc h.0) h.1 h.2, SegmentsMatch.Both number next h.1 text_world tree_world h.3 (WorldsMatch.Match ds rs globals exchange outputs match))
      step_answers running other r (Asks question waiting) e h =
          let at = asks_at (source_steps.source_machine program) h.0 other question h.1 h.2 in
          answered_after at.count (tree_segment other) (tree_segment at.last) (in_text (deep.segment_move caps (text_segment running) (Asks question waiting))) (in_tree (source.segment_move caps (tree_segment at.last) (Asks question h.1)))
          (quiet (tree_segment other) at.count at.last at.silent) (ap (λ m. in_tree (source.segment_move caps (tree_segment at.last) m)) at.asks)
          (call_match running at.last question.globals waiting h.1 question.call h.3
          (λ f argument c here. threads.spawned running other f argument question.globals here waiting r (e ∙ ap (λ (call : Call). Asks (record { call = call; globals = question.globals }) waiting) c)))
      step_answers running other r (Stops finish) e h =
          let at = stops_at (source_steps.source_machine program) h.0 other finish h.1 in
          answered_after at.count (tree_segment other) (tree_segment at.last) (in_text (deep.segment_move caps (text_segment running) (Stops finish))) (in_tree (source.segment_move caps (tree_segment at.last) (Stops finish)))
          (quiet (tree_segment other) at.count at.last at.silent) (ap (λ m. in_tree (source.segment_move caps (tree_segment at.last) m)) at.stops)
          (unless_match running at.last finish.globals finish.trap (deep.rests (text_segment running) finish.globals deep.Ended) (source.rests (tree_segment at.last) finish.globals source.Ended)
          (rest_match running at.last finish.globals deep.Ended source.Ended RestsMatch.EndedMatch))

    segment_steps : (d : DeepSegment) (s : Segment) → SegmentsMatch d s → IsAnswered SegmentsMatch WorldsMatch (tree_machine caps) ((text_machine caps).step d) s
    segment_steps d s (SegmentsMatch.Both number running other world there r (WorldsMatch.Match ds rs globals exchange outputs match)) =
        step_answers number ds rs globals exchange outputs match running other r (deep_steps.deep_step text running) refl (threads.follows.steps running other r)

    pub segments_follow : Follows SegmentsMatch WorldsMatch (text_machine caps) (tree_machine caps)
    segments_follow = record { steps = segment_steps; resumes = λ waiting other answer v. absurd answer }

    -- ---- a thread that begins to run

    pub data BegunMatch : List (ℕ × ℕ) → Option DeepSegment → Option Segment → Type 0 where
      NotBegun : (outputs : List (ℕ × ℕ)) → BegunMatch outputs None None
      Begun : (d : DeepSegment) (s : Segment) → SegmentsMatch d s → BegunMatch d.world.outputs (Some d) (Some s)

    option_begins : (number : ℕ) (ds : List DeepRest) (rs : List Rest) (globals : List (List ℕ)) (exchange : Exchange) (outputs : List (ℕ × ℕ)) → ThreadsMatch ds rs → (od : Option DeepRest) (or : Option Rest) → OptionsMatch od or
        → BegunMatch outputs (deep.begun_at text caps (record { threads = ds; globals = globals; exchange = exchange; outputs = outputs }) number od) (source.begun_at program caps (record { threads = rs; globals = globals; exchange = exchange; outputs = outputs }) number or)
    option_begins number ds rs globals exchange outputs match od or (OptionsMatch.Neither) = BegunMatch.NotBegun outputs
    option_begins number ds rs globals exchange outputs match od or (OptionsMatch.Here d r h) = rest_begins d r h
      where
        rest_begins : (d : DeepRest) (r : Rest) → RestsMatch d r
            → BegunMatch outputs (deep.begun_at text caps (record { threads = ds; globals = globals; exchange = exchange; outputs = outputs }) number (Some d)) (source.begun_at program caps (record { threads = rs; globals = globals; exchange = exchange; outputs = outputs }) number (Some r))
        rest_begins d r (RestsMatch.FreshMatch f arguments starts) =
            let world : DeepWorld = record { threads = ds; globals = globals; exchange = exchange; outputs = outputs } in
            let there : World = record { threads = rs; globals = globals; exchange = exchange; outputs = outputs } in
            let running = deep_steps.started text f arguments globals in
            let other = source_steps.started program f arguments globals in
            BegunMatch.Begun (record { number = number; running = running; world = world }) (record { number = number; running = other; world = there })
            (SegmentsMatch.Both number running other world there (starts globals) (WorldsMatch.Match ds rs globals exchange outputs match))
        rest_begins d r (RestsMatch.BlockedMatch block waiting other v) =
            let row = blocking_row caps exchange block in
            let answer : Answer = record { result = row.result; globals = globals } in
            let world : DeepWorld = record { threads = ds; globals = globals; exchange = row.after; outputs = outputs } in
            let there : World = record { threads = rs; globals = globals; exchange = row.after; outputs = outputs } in
            BegunMatch.Begun (record { number = number; running = deep_steps.deep_resume waiting answer; world = world }) (record { number = number; running = source_steps.source_resume other answer; world = there })
            (SegmentsMatch.Both number (deep_steps.deep_resume waiting answer) (source_steps.source_resume other answer) world there (threads.follows.resumes waiting other answer v) (WorldsMatch.Match ds rs globals row.after outputs match))
        rest_begins d r (RestsMatch.EndedMatch) = BegunMatch.NotBegun outputs

    pub begins : (world : DeepWorld) (other : World) (number : ℕ) → WorldsMatch world other → BegunMatch world.outputs (deep.begun text caps world number) (source.begun program caps other number)
    begins world other number (WorldsMatch.Match ds rs globals exchange outputs match) =
        option_begins number ds rs globals exchange outputs match (slice_get ds number) (slice_get rs number) (thread_matches ds rs number match)
