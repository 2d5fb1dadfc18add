-- What the log has of a step in a segment is one.
use Rattle.lawful_log.proofs.Common.{◌≡◌, ℕ, ◌+◌, true, false, List, [], ◌∷◌, ◌++◌, Option, Some, None, refl, sym, ◌∙◌, ap, subst, slice_get, is_some, ℤ, keys_with, node_number, signed, Block, Stop, TrapKind, Waiting, key_of, end_node, World, Move, Puts, Blocks, Ends, Stops, step, Entry, StopLine, Setup, setting_of, Segment, State, quiet_world, IsOnTheWay, HasRun, IsOut, IsBlock, IsEnd, rested, IsStopped, free_count}
use Rattle.c_mean.specs.World as source
use Rattle.c_mean.proofs.WorldLemmas.{one_run}
use Rattle.lawful_log.proofs.Quiet.{one_place}

module _ (g : Setup) (state : State) where
  -- ---- what a step has in the log

  -- the state after a word is put
  abbrev put_from : Segment → ℕ → ℕ → World → State
  put_from segment steps word machine = record state {
    machine = machine;
    segment = Some (record segment { cost = segment.cost + steps + 1; puts = segment.puts ++ word ∷ [] });
  }

  record HasBlocked (segment : Segment) (steps : ℕ) (machine : World) (entry : Entry) (after : State) : Type 0 where
    world : source.World
    run : HasRun g state segment None world
    block : Block
    waiting : Waiting
    rests : slice_get world.threads segment.thread ≡ Some (source.Blocked block waiting)
    entry_is : entry ≡ Entry.Block segment.thread (node_number state.past.keys (key_of waiting)) (key_of waiting) (segment.cost + steps + 1) (free_count machine.areas.pool)
    after_is : after ≡ rested state segment (node_number state.past.keys (key_of waiting)) (segment.cost + steps + 1) machine world
        (record { thread = segment.thread; node = node_number state.past.keys (key_of waiting); since = machine.clock } ∷ []) (keys_with state.past.keys (key_of waiting))

  record HasEnded (segment : Segment) (steps : ℕ) (machine : World) (entry : Entry) (after : State) : Type 0 where
    world : source.World
    run : HasRun g state segment None world
    entry_is : entry ≡ Entry.End segment.thread (segment.cost + steps + 1) (free_count machine.areas.pool)
    after_is : after ≡ rested state segment end_node (segment.cost + steps + 1) machine world [] state.past.keys

  abbrev Tells : Segment → ℕ → Move → Entry → State → Type 0
  Tells segment steps (Puts word machine) entry after = (entry ≡ Entry.Out segment.thread (signed word)) × (after ≡ put_from segment steps word machine)
  Tells segment steps (Blocks machine) entry after = HasBlocked segment steps machine entry after
  Tells segment steps (Ends machine) entry after = HasEnded segment steps machine entry after
  Tells segment steps _ entry after = ⊥

  -- an entry of a segment
  pub record IsGoing (entry : Entry) (after : State) : Type 0 where
    segment : Segment
    steps : ℕ
    here : World
    way : IsOnTheWay g state segment steps here
    tells : Tells segment steps (step (setting_of g) here) entry after

  -- a stop in a segment
  abbrev TellsStop : Segment → ℕ → World → Move → StopLine → World → Type 0
  TellsStop segment steps here (Stops stop) line machine =
      (line ≡ StopLine.Cut segment.thread stop (segment.cost + steps) (free_count here.areas.pool)) × (machine ≡ here)
  TellsStop segment steps here _ line machine = ⊥

  pub record IsCutHere (line : StopLine) (machine : World) : Type 0 where
    segment : Segment
    steps : ℕ
    here : World
    way : IsOnTheWay g state segment steps here
    tells : TellsStop segment steps here (step (setting_of g) here) line machine

  -- ---- both are one

  loud : (segment : Segment) (steps : ℕ) (move : Move) (entry : Entry) (after : State) → Tells segment steps move entry after → quiet_world move ≡ None
  loud segment steps (Puts word machine) entry after t = refl
  loud segment steps (Blocks machine) entry after t = refl
  loud segment steps (Ends machine) entry after t = refl
  loud segment steps _ entry after t = absurd t

  loud_stop : (segment : Segment) (steps : ℕ) (here : World) (move : Move) (line : StopLine) (machine : World) → TellsStop segment steps here move line machine → quiet_world move ≡ None
  loud_stop segment steps here (Stops stop) line after t = refl
  loud_stop segment steps here _ line after t = absurd t

  one_way : (a b : Segment) (n m : ℕ) (v w : World) → IsOnTheWay g state a n v → quiet_world (step (setting_of g) v) ≡ None →
      IsOnTheWay g state b m w → quiet_world (step (setting_of g) w) ≡ None → (a ≡ b) × (n ≡ m) × (v ≡ w)
  one_way a b n m v w p lp q lq =
      let places : (n ≡ m) × (v ≡ w) = one_place (setting_of g) n m state.machine v w p.quiet lp q.quiet lq in
      let segments : Some a ≡ Some b = sym p.under_way ∙ q.under_way in
      (cc, places.0, places.1)

  one_world : (segment : Segment) (trap : Option TrapKind) (v w : source.World) → HasRun g state segment trap v → HasRun g state segment trap w → v ≡ w
  one_world segment trap v w p q = ap (λ (r : source.Rested). r.world) (one_run g.program g.policy.caps state.source segment.thread _ _ p.runs q.runs)

  one_waiting : (v w : source.World) (number : ℕ) (a b : Block) (x y : Waiting) → v ≡ w → slice_get v.threads number ≡ Some (source.Blocked a x) →
      slice_get w.threads number ≡ Some (source.Blocked b y) → x ≡ y
  one_waiting v w number a b x y e p q =
      let both : Some (source.Blocked a x) ≡ Some (source.Blocked b y) = sym p ∙ ap (λ (u : source.World). slice_get u.threads number) e ∙ q in cc

  tells_one : (segment : Segment) (steps : ℕ) (move : Move) (a b : Entry) (s t : State) → Tells segment steps move a s → Tells segment steps move b t → (a ≡ b) × (s ≡ t)
  tells_one segment steps (Puts word machine) a b s t p q = (p.0 ∙ sym q.0, p.1 ∙ sym q.1)
  tells_one segment steps (Blocks machine) a b s t p q =
      let worlds : p.world ≡ q.world = one_world segment None _ _ p.run q.run in
      let waits : p.waiting ≡ q.waiting = one_waiting _ _ segment.thread _ _ _ _ worlds p.rests q.rests in (
        p.entry_is ∙ ap (λ (x : Waiting). Entry.Block segment.thread (node_number state.past.keys (key_of x)) (key_of x) (segment.cost + steps + 1) (free_count machine.areas.pool)) waits ∙ sym q.entry_is,
        p.after_is ∙ ap (λ (u : source.World). rested state segment (node_number state.past.keys (key_of p.waiting)) (segment.cost + steps + 1) machine u
            (record { thread = segment.thread; node = node_number state.past.keys (key_of p.waiting); since = machine.clock } ∷ []) (keys_with state.past.keys (key_of p.waiting))) worlds
            ∙ ap (λ (x : Waiting). rested state segment (node_number state.past.keys (key_of x)) (segment.cost + steps + 1) machine q.world
            (record { thread = segment.thread; node = node_number state.past.keys (key_of x); since = machine.clock } ∷ []) (keys_with state.past.keys (key_of x))) waits
            ∙ sym q.after_is,
      )
  tells_one segment steps (Ends machine) a b s t p q =
      let worlds : p.world ≡ q.world = one_world segment None _ _ p.run q.run in (
        p.entry_is ∙ sym q.entry_is,
        p.after_is ∙ ap (λ (u : source.World). rested state segment end_node (segment.cost + steps + 1) machine u [] state.past.keys) worlds ∙ sym q.after_is,
      )
  tells_one segment steps _ a b s t p q = absurd p

  moved : (a b : Segment) (n m : ℕ) (v w : World) (entry : Entry) (after : State) → (a ≡ b) × (n ≡ m) × (v ≡ w) →
      Tells a n (step (setting_of g) v) entry after → Tells b m (step (setting_of g) w) entry after
  moved a b n m v w entry after e t =
      subst (λ (x : World). Tells b m (step (setting_of g) x) entry after) e.2
      (subst (λ (k : ℕ). Tells b k (step (setting_of g) v) entry after) e.1
      (subst (λ (x : Segment). Tells x n (step (setting_of g) v) entry after) e.0 t))

  pub one_going : (a b : Entry) (s t : State) → IsGoing a s → IsGoing b t → (a ≡ b) × (s ≡ t)
  one_going a b s t p q =
      let same : (p.segment ≡ q.segment) × (p.steps ≡ q.steps) × (p.here ≡ q.here) =
      one_way _ _ _ _ _ _ p.way (loud _ _ _ _ _ p.tells) q.way (loud _ _ _ _ _ q.tells) in
      tells_one q.segment q.steps (step (setting_of g) q.here) a b s t (moved _ _ _ _ _ _ a s same p.tells) q.tells

  not_both : (segment : Segment) (steps : ℕ) (here : World) (move : Move) (a : Entry) (s : State) (line : StopLine) (machine : World) → Tells segment steps move a s → TellsStop segment steps here move line machine → ⊥
  not_both segment steps here (Stops stop) a s line after p q = p
  not_both segment steps here _ a s line after p q = q

  moved_stop : (a b : Segment) (n m : ℕ) (v w : World) (line : StopLine) (machine : World) → (a ≡ b) × (n ≡ m) × (v ≡ w) →
      TellsStop a n v (step (setting_of g) v) line machine → TellsStop b m w (step (setting_of g) w) line machine
  moved_stop a b n m v w line machine e t =
      subst (λ (x : World). TellsStop b m x (step (setting_of g) x) line machine) e.2
      (subst (λ (k : ℕ). TellsStop b k v (step (setting_of g) v) line machine) e.1
      (subst (λ (x : Segment). TellsStop x n v (step (setting_of g) v) line machine) e.0 t))

  pub going_not_cut : (a : Entry) (s : State) (line : StopLine) (machine : World) → IsGoing a s → IsCutHere line machine → ⊥
  going_not_cut a s line machine p q =
      let same : (p.segment ≡ q.segment) × (p.steps ≡ q.steps) × (p.here ≡ q.here) =
      one_way _ _ _ _ _ _ p.way (loud _ _ _ _ _ p.tells) q.way (loud_stop q.segment q.steps q.here (step (setting_of g) q.here) line machine q.tells) in
      not_both q.segment q.steps q.here (step (setting_of g) q.here) a s line machine (moved _ _ _ _ _ _ a s same p.tells) q.tells

  stop_one : (segment : Segment) (steps : ℕ) (here : World) (move : Move) (a b : StopLine) (s t : World) → TellsStop segment steps here move a s → TellsStop segment steps here move b t → (a ≡ b) × (s ≡ t)
  stop_one segment steps here (Stops stop) a b s t p q = (p.0 ∙ sym q.0, p.1 ∙ sym q.1)
  stop_one segment steps here _ a b s t p q = absurd p

  pub one_cut : (a b : StopLine) (s t : World) → IsCutHere a s → IsCutHere b t → (a ≡ b) × (s ≡ t)
  one_cut a b s t p q =
      let same : (p.segment ≡ q.segment) × (p.steps ≡ q.steps) × (p.here ≡ q.here) =
      one_way _ _ _ _ _ _ p.way (loud_stop p.segment p.steps p.here (step (setting_of g) p.here) a s p.tells)
      q.way (loud_stop q.segment q.steps q.here (step (setting_of g) q.here) b t q.tells) in
      stop_one q.segment q.steps q.here (step (setting_of g) q.here) a b s t (moved_stop _ _ _ _ _ _ a s same p.tells) q.tells

  -- ---- the rules say so

  pub out_goes : (thread : ℕ) (value : ℤ) (after : State) → IsOut g state thread value after → IsGoing (Entry.Out thread value) after
  out_goes thread value after p = record {
    segment = p.segment;
    steps = p.steps;
    here = p.here;
    way = p.way;
    tells = subst (λ (move : Move). Tells p.segment p.steps move (Entry.Out thread value) after) (sym p.puts)
        (let e : Entry.Out thread value ≡ Entry.Out p.segment.thread (signed p.word) = ap (λ (n : ℕ). Entry.Out n value) p.thread_is ∙ ap (λ v. Entry.Out p.segment.thread v) p.value_is in (e, p.after_is));
  }

  block_told : (thread node : ℕ) (key : List ℕ) (cost free : ℕ) (after : State) → (p : IsBlock g state thread node key cost free after) →
      HasBlocked p.segment p.steps p.machine (Entry.Block thread node key cost free) after
  block_told thread node key cost free after p = record {
    world = p.world;
    run = p.run;
    block = p.block;
    waiting = p.waiting;
    rests = subst (λ (n : ℕ). slice_get p.world.threads n ≡ Some (source.Blocked p.block p.waiting)) p.thread_is p.rests;
    entry_is = let node_at : node ≡ node_number state.past.keys (key_of p.waiting) = p.node_is ∙ ap (λ (k : List ℕ). node_number state.past.keys k) p.key_is in
        ap (λ (n : ℕ). Entry.Block n node key cost free) p.thread_is ∙ ap (λ (n : ℕ). Entry.Block p.segment.thread n key cost free) node_at
        ∙ ap (λ (k : List ℕ). Entry.Block p.segment.thread (node_number state.past.keys (key_of p.waiting)) k cost free) p.key_is
        ∙ ap (λ (n : ℕ). Entry.Block p.segment.thread (node_number state.past.keys (key_of p.waiting)) (key_of p.waiting) n free) p.cost_is
        ∙ ap (λ (n : ℕ). Entry.Block p.segment.thread (node_number state.past.keys (key_of p.waiting)) (key_of p.waiting) (p.segment.cost + p.steps + 1) n) p.free_is;
    after_is = let node_at : node ≡ node_number state.past.keys (key_of p.waiting) = p.node_is ∙ ap (λ (k : List ℕ). node_number state.past.keys k) p.key_is in
        p.after_is
        ∙ ap (λ (n : ℕ). rested state p.segment node cost p.machine p.world (record { thread = n; node = node; since = p.machine.clock } ∷ []) (keys_with state.past.keys key)) p.thread_is
        ∙ ap (λ (n : ℕ). rested state p.segment n cost p.machine p.world (record { thread = p.segment.thread; node = n; since = p.machine.clock } ∷ []) (keys_with state.past.keys key)) node_at
        ∙ ap (λ (n : ℕ). rested state p.segment (node_number state.past.keys (key_of p.waiting)) n p.machine p.world (record { thread = p.segment.thread; node = node_number state.past.keys (key_of p.waiting); since = p.machine.clock } ∷ []) (keys_with state.past.keys key)) p.cost_is
        ∙ ap (λ (k : List ℕ). rested state p.segment (node_number state.past.keys (key_of p.waiting)) (p.segment.cost + p.steps + 1) p.machine p.world (record { thread = p.segment.thread; node = node_number state.past.keys (key_of p.waiting); since = p.machine.clock } ∷ []) (keys_with state.past.keys k)) p.key_is;
  }

  pub block_goes : (thread node : ℕ) (key : List ℕ) (cost free : ℕ) (after : State) → IsBlock g state thread node key cost free after → IsGoing (Entry.Block thread node key cost free) after
  block_goes thread node key cost free after p = record {
    segment = p.segment;
    steps = p.steps;
    here = p.here;
    way = p.way;
    tells = subst (λ (move : Move). Tells p.segment p.steps move (Entry.Block thread node key cost free) after) (sym p.blocks) (block_told thread node key cost free after p);
  }

  end_told : (thread cost free : ℕ) (after : State) → (p : IsEnd g state thread cost free after) → HasEnded p.segment p.steps p.machine (Entry.End thread cost free) after
  end_told thread cost free after p = record {
    world = p.world;
    run = p.run;
    entry_is = ap (λ (n : ℕ). Entry.End n cost free) p.thread_is ∙ ap (λ (n : ℕ). Entry.End p.segment.thread n free) p.cost_is
        ∙ ap (λ (n : ℕ). Entry.End p.segment.thread (p.segment.cost + p.steps + 1) n) p.free_is;
    after_is = p.after_is ∙ ap (λ (n : ℕ). rested state p.segment end_node n p.machine p.world [] state.past.keys) p.cost_is;
  }

  pub end_goes : (thread cost free : ℕ) (after : State) → IsEnd g state thread cost free after → IsGoing (Entry.End thread cost free) after
  end_goes thread cost free after p = record {
    segment = p.segment;
    steps = p.steps;
    here = p.here;
    way = p.way;
    tells = subst (λ (move : Move). Tells p.segment p.steps move (Entry.End thread cost free) after) (sym p.ends) (end_told thread cost free after p);
  }

  pub stop_cuts : (thread : ℕ) (stop : Stop) (cost free : ℕ) (machine : World) → IsStopped g state thread stop cost free machine → IsCutHere (StopLine.Cut thread stop cost free) machine
  stop_cuts thread stop cost free machine p = record {
    segment = p.segment;
    steps = p.steps;
    here = machine;
    way = p.way;
    tells = subst (λ (move : Move). TellsStop p.segment p.steps machine move (StopLine.Cut thread stop cost free) machine) (sym p.stops)
        (let e : StopLine.Cut thread stop cost free ≡ StopLine.Cut p.segment.thread stop (p.segment.cost + p.steps) (free_count machine.areas.pool) =
        ap (λ (n : ℕ). StopLine.Cut n stop cost free) p.thread_is ∙ ap (λ (n : ℕ). StopLine.Cut p.segment.thread stop n free) p.cost_is
        ∙ ap (λ (n : ℕ). StopLine.Cut p.segment.thread stop (p.segment.cost + p.steps) n) p.free_is in (e, refl));
  }

  -- no segment is under way where none is
  pub going_under_way : (a : Entry) (s : State) → IsGoing a s → is_some state.segment ≡ false → ⊥
  going_under_way a s p e = let under : true ≡ false = sym (ap (λ (o : Option Segment). is_some o) p.way.under_way) ∙ e in absurd (cc)

  pub cut_under_way : (line : StopLine) (machine : World) → IsCutHere line machine → is_some state.segment ≡ false → ⊥
  cut_under_way line machine p e = let under : true ≡ false = sym (ap (λ (o : Option Segment). is_some o) p.way.under_way) ∙ e in absurd (cc)
