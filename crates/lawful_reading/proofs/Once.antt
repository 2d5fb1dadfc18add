-- A line that is allowed leads to one state, within the steps that it needs, and none is allowed after the stop.
use Rattle.lawful_reading.proofs.Common.{◌≡◌, ℕ, ◌+◌, ◌<◌, ◌≤◌, ◌⊎◌, inl, inr, Bool, true, false, List, [], ◌∷◌, Option, Some, None, refl, sym, ap, ◌∙◌, subst, arith, ℤ, keys_with, Stop, delivery_of, received, Waiter, end_node, behind, one_clock, one_choice, Event, Entry, Item, StopLine, Given, PutsNext, RestsNext, IsCrowdedNext, ComesAt, Segment, State, End, NotYet, Edges, Stopped, seen_of, IsComing, IsRun, chosen_from, IsOut, IsBlock, IsEnd, IsClosed, rested, edges_left, IsEdge, StopsBy, IsAllowed, IsBeyond}
use Rattle.c_mean.specs.World as source
use Rattle.lawful_reading.proofs.Moves.{one_put, one_rest}
use Rattle.lawful_reading.proofs.Refused.{stopped-not}

-- the stop has come, and no segment is under way
abbrev pub IsOver : State → Type 0
IsOver s = (s.end ≡ Stopped) × (s.segment ≡ None)

-- the same state, or both after the stop
abbrev pub Same : State → State → Type 0
Same a b = (a ≡ b) ⊎ (IsOver a × IsOver b)

same_some : {X : Type 0} (a b : X) → ◌≡◌ {A = Option X} (Some a) (Some b) → a ≡ b
same_some a b e = cc

same_rest : (e : Entry) (a b : List Entry) → e ∷ a ≡ e ∷ b → a ≡ b
same_rest e a b h = cc

pub same_segment : (s : State) (a b : Segment) → s.segment ≡ Some a → s.segment ≡ Some b → a ≡ b
same_segment s a b p q = same_some a b (sym p ∙ q)

-- ---- choice points

abbrev come : State → ℕ → Bool → Event → State
come s clock drops event = record s { clock = clock; source = received drops s.source (delivery_of event.kind); trace = behind s.trace event }

one_coming : (g : Given) (s : State) (clock : ℕ) (item : Item) (drops : Bool) (a b : State) → IsComing g s clock item drops a → IsComing g s clock item drops b → a ≡ b
one_coming g s clock item drops a b p q =
    let both = one_clock g.policy (seen_of s) (Some p.event) (Some q.event) clock clock p.delivery.point q.delivery.point in
    p.after_is ∙ ap (λ (e : Event). come s clock drops e) (same_some p.event q.event both.0) ∙ sym q.after_is

one_run : (g : Given) (s : State) (clock thread node : ℕ) (a b : State) → IsRun g s clock thread node a → IsRun g s clock thread node b → a ≡ b
one_run g s clock thread node a b p q =
    let chosen : p.chosen ≡ q.chosen = one_choice g.policy (seen_of s) clock p.chosen q.chosen p.choice.lawful q.choice.lawful in
    let here : p.here ≡ q.here = same_some p.here q.here (sym p.begins ∙ q.begins) in
    p.after_is ∙ ap (λ (w : Waiter). chosen_from s clock w p.here) chosen ∙ ap (λ (h : source.Segment). chosen_from s clock q.chosen h) here ∙ sym q.after_is

-- ---- segments

abbrev put : State → Segment → source.Segment → ℕ → State
put s segment here steps = record s { segment = Some (record segment { here = here }); steps = s.steps + steps }

one_out : (g : Given) (s : State) (thread : ℕ) (value : ℤ) (a b : State) → IsOut g s thread value a → IsOut g s thread value b → a ≡ b
one_out g s thread value a b p q =
    let segment : p.segment ≡ q.segment = same_segment s p.segment q.segment p.under_way q.under_way in
    let puts : PutsNext g.program g.policy.caps p.segment.here q.steps q.word q.here = subst (λ (x : Segment). PutsNext g.program g.policy.caps x.here q.steps q.word q.here) (sym segment) q.puts in
    let both = one_put g.program g.policy.caps p.segment.here p.here q.here p.steps q.steps p.word q.word p.puts puts in
    p.after_is ∙ ap (λ (x : Segment). put s x p.here p.steps) segment ∙ ap (λ (h : source.Segment). put s q.segment h p.steps) both.segments
    ∙ ap (λ (n : ℕ). put s q.segment q.here n) both.steps_are ∙ sym q.after_is

-- a segment that is closed rests in one world
record SameClosed (steps other : ℕ) (segment another : Segment) (world behind_it : source.World) : Type 0 where
  pub steps_are : steps ≡ other
  pub segments : segment ≡ another
  pub worlds : world ≡ behind_it

one_closed : (g : Given) (s : State) (thread cost free steps other : ℕ) (segment another : Segment) (world behind_it : source.World) →
    IsClosed g s thread cost free steps segment world → IsClosed g s thread cost free other another behind_it → SameClosed steps other segment another world behind_it
one_closed g s thread cost free steps other segment another world behind_it p q =
    let same : segment ≡ another = same_segment s segment another p.under_way q.under_way in
    let rests : RestsNext g.program g.policy.caps segment.here other (record { trap = None; world = behind_it }) =
    subst (λ (x : Segment). RestsNext g.program g.policy.caps x.here other (record { trap = None; world = behind_it })) (sym same) q.rests in
    let both = one_rest g.program g.policy.caps segment.here steps other (record { trap = None; world = world }) (record { trap = None; world = behind_it }) p.rests rests in
    record { steps_are = both.steps_are; segments = same; worlds = ap (λ (r : source.Rested). r.world) both.rests_are }

one_rested : (g : Given) (s : State) (cost free node steps other : ℕ) (segment another : Segment) (world behind_it : source.World) (joining : List Waiter) (keys : List (List ℕ)) → SameClosed steps other segment another world behind_it →
    rested g s segment node cost free steps world joining keys ≡ rested g s another node cost free other behind_it joining keys
one_rested g s cost free node steps other segment another world behind_it joining keys same =
    ap (λ (x : Segment). rested g s x node cost free steps world joining keys) same.segments
    ∙ ap (λ (n : ℕ). rested g s another node cost free n world joining keys) same.steps_are
    ∙ ap (λ (w : source.World). rested g s another node cost free other w joining keys) same.worlds

one_block : (g : Given) (s : State) (thread node : ℕ) (key : List ℕ) (cost free : ℕ) (a b : State) → IsBlock g s thread node key cost free a → IsBlock g s thread node key cost free b → a ≡ b
one_block g s thread node key cost free a b p q =
    p.after_is
    ∙ one_rested g s cost free node p.steps q.steps p.segment q.segment p.world q.world (record { thread = thread; node = node; since = s.clock + cost } ∷ []) (keys_with s.past.keys key)
    (one_closed g s thread cost free p.steps q.steps p.segment q.segment p.world q.world p.closed q.closed)
    ∙ sym q.after_is

one_end : (g : Given) (s : State) (thread cost free : ℕ) (a b : State) → IsEnd g s thread cost free a → IsEnd g s thread cost free b → a ≡ b
one_end g s thread cost free a b p q =
    p.after_is
    ∙ one_rested g s cost free end_node p.steps q.steps p.segment q.segment p.world q.world [] s.past.keys
    (one_closed g s thread cost free p.steps q.steps p.segment q.segment p.world q.world p.closed q.closed)
    ∙ sym q.after_is

-- ---- the end

one_edge : (g : Given) (s : State) (entry : Entry) (a b : State) → IsEdge g s entry a → IsEdge g s entry b → a ≡ b
one_edge g s entry a b p q =
    p.after_is ∙ ap (λ (left : List Entry). record s { end = Edges left }) (same_rest entry p.rest q.rest (sym p.first ∙ q.first)) ∙ sym q.after_is

-- ---- every line

pub same_after : (g : Given) (s : State) (entry : Entry) (a b : State) → IsAllowed g s entry a → IsAllowed g s entry b → Same a b
same_after g s (Entry.Event clock item) a b p q = inl (one_coming g s clock item false a b p q)
same_after g s (Entry.Dropped clock item) a b p q = inl (one_coming g s clock item true a b p q)
same_after g s (Entry.Run clock thread node) a b p q = inl (one_run g s clock thread node a b p q)
same_after g s (Entry.Out thread value) a b p q = inl (one_out g s thread value a b p q)
same_after g s (Entry.Block thread node key cost free) a b p q = inl (one_block g s thread node key cost free a b p q)
same_after g s (Entry.End thread cost free) a b p q = inl (one_end g s thread cost free a b p q)
same_after g s (Entry.Edge from to count cost changes) a b p q = inl (one_edge g s (Entry.Edge from to count cost changes) a b p q)
same_after g s (Entry.Stop line) a b p q = inr ((ap (λ (x : State). x.end) p.after_is, ap (λ (x : State). x.segment) p.after_is), (ap (λ (x : State). x.end) q.after_is, ap (λ (x : State). x.segment) q.after_is))

-- nothing follows a stop
over : (s : State) → s.end ≡ Stopped → s.end ≡ NotYet → ⊥
over s stopped not_over = stopped-not (sym not_over ∙ stopped)

no_edge : (g : Given) (s : State) (end : End) (entry : Entry) (rest : List Entry) → end ≡ Stopped → edges_left g s end ≡ entry ∷ rest → ⊥
no_edge g s end entry rest stopped first = let no : [] ≡ entry ∷ rest = ap (λ (e : End). edges_left g s e) (sym stopped) ∙ first in absurd (cc)

pub none_after : (g : Given) (s : State) (entry : Entry) (a : State) → s.end ≡ Stopped → IsAllowed g s entry a → ⊥
none_after g s (Entry.Block thread node key cost free) a stopped p = over s stopped p.closed.not_over
none_after g s (Entry.End thread cost free) a stopped p = over s stopped p.closed.not_over
none_after g s (Entry.Edge from to count cost changes) a stopped p = no_edge g s s.end (Entry.Edge from to count cost changes) p.rest stopped p.first
none_after g s (Entry.Stop line) a stopped p = p.first stopped
none_after g s _ a stopped p = over s stopped p.not_over

-- ---- steps

beyond_none : (g : Given) (s a : State) (most : ℕ) → a.steps ≡ s.steps → a.steps ≤ most → most < s.steps + 0 → ⊥
beyond_none g s a most same within beyond = omega (arith, same, within, beyond)

beyond_some : (s a : State) (steps most : ℕ) → a.steps ≡ s.steps + steps → a.steps ≤ most → most < s.steps + steps → ⊥
beyond_some s a steps most same within beyond = omega (arith, same, within, beyond)

comes_in : (g : Given) (s : State) (segment another : Segment) (steps : ℕ) → s.segment ≡ Some segment → s.segment ≡ Some another → ComesAt g.program g.policy.caps segment.here steps → ComesAt g.program g.policy.caps another.here steps
comes_in g s segment another steps p q comes = subst (λ (x : Segment). ComesAt g.program g.policy.caps x.here steps) (same_segment s segment another p q) comes

abbrev Crowds : Given → Segment → ℕ → Type 0
Crowds g segment steps = IsCrowdedNext g.program g.policy.caps segment.here steps

stop_steps : (g : Given) (s : State) (line : StopLine) (steps : ℕ) (b : IsBeyond g s (Entry.Stop line)) → StopsBy g s line steps → g.most_steps < s.steps + steps
stop_steps g s (StopLine.Cut thread (Stop.Trap kind) cost free) steps b stops =
    b.beyond steps (comes_in g s stops.segment b.segment steps stops.under_way b.under_way (inr (stops.cause.0, stops.cause.1)))
stop_steps g s (StopLine.Cut thread Stop.NoChunk cost free) steps b stops = b.beyond steps stops.cause
stop_steps g s (StopLine.Cut thread Stop.Fuel cost free) steps b stops = b.beyond steps stops.cause.1
stop_steps g s (StopLine.Cut thread Stop.Threads cost free) steps b stops =
    b.beyond steps (inl (subst (λ (x : Segment). Crowds g x steps) (same_segment s stops.segment b.segment stops.under_way b.under_way) stops.cause))
stop_steps g s _ steps b stops = b.beyond steps stops.1

-- an allowed line within the steps needs no more
pub within_steps : (g : Given) (s : State) (entry : Entry) (a : State) → IsAllowed g s entry a → a.steps ≤ g.most_steps → IsBeyond g s entry → ⊥
within_steps g s (Entry.Out thread value) a p within b = beyond_some s a p.steps g.most_steps (ap (λ (x : State). x.steps) p.after_is) within
    (b.beyond p.steps (comes_in g s p.segment b.segment p.steps p.under_way b.under_way (inl (p.word, p.here, p.puts))))
within_steps g s (Entry.Block thread node key cost free) a p within b = beyond_some s a p.steps g.most_steps (ap (λ (x : State). x.steps) p.after_is) within
    (b.beyond p.steps (comes_in g s p.segment b.segment p.steps p.closed.under_way b.under_way (inr (record { trap = None; world = p.world }, p.closed.rests))))
within_steps g s (Entry.End thread cost free) a p within b = beyond_some s a p.steps g.most_steps (ap (λ (x : State). x.steps) p.after_is) within
    (b.beyond p.steps (comes_in g s p.segment b.segment p.steps p.closed.under_way b.under_way (inr (record { trap = None; world = p.world }, p.closed.rests))))
within_steps g s (Entry.Stop line) a p within b = beyond_some s a p.steps g.most_steps (ap (λ (x : State). x.steps) p.after_is) within (stop_steps g s line p.steps b p.stops)
within_steps g s _ a p within b = beyond_none g s a g.most_steps (ap (λ (x : State). x.steps) p.after_is) within (b.beyond 0 refl)
