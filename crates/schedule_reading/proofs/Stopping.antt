-- Stops at choice points, and the end of a log.
use Rattle.schedule_reading.proofs.Common.{◌≡◌, ℕ, zero, suc, ◌<◌, ◌≤◌, ◌⊎◌, inl, inr, true, false, List, [], ◌∷◌, length, drop, map, Option, Some, None, Ok, refl, sym, ap, ◌∙◌, subst, arith, ⊎_elim, cases_lt, edges_of, EdgeLine, IsChoicePoint, edge_entry, IsBadTrace, IsDone, IsIdle, not_bad, not_done, not_idle, not_refused, one_refusal, Event, StopsBy, edges_left, Given, IsBeyond, State, seen_of, Entry, StopLine, Between, Shown, Point, End, AreOver, Fits, RulesStop, entry_of, stop_line, Core, Kept, IsPoint, Shows, IsEnd, IsTold}
use Rattle.schedule_reading.specs.declared.stops.Between.TheVariants as stops
use Rattle.schedule_reading.specs.declared.points.Point.TheVariants as point
use Rattle.schedule_reading.specs.declared.reading.End.TheVariants as end
use Rattle.schedule_reading.specs.declared.rulings.Ruling.TheVariants as ruling
use Rattle.schedule_reading.proofs.Delivering.{not_beyond}

-- ---- stops at choice points

module _ (g : Given) (state : State) (old : Kept) (told : Option (List ℕ)) (within : state.steps ≤ g.most_steps) where
  none_of : (line : StopLine) → state.segment ≡ None → ((steps : ℕ) → StopsBy g state line steps → ⊥) → RulesStop g state old told line (Ok ruling.Refused)
  none_of line none never t = (never, not_beyond g state (Entry.Stop line) none)

  stop_now : (line : StopLine) → (IsTold state old told → StopsBy g state line 0) → RulesStop g state old told line (Ok ruling.Allowed)
  stop_now line is = (0, is, (let w = within in omega (arith, w)))

  module _ (new : Kept) (told' : Option (List ℕ)) (none : state.segment ≡ None) where
    pub stop_allowed : (p : Point) (stop : Between) → Fits p stop → IsPoint g state old told new told' p → RulesStop g state old told (stop_line stop) (Ok ruling.Allowed)
    stop_allowed point.Done stops.Done fit h = stop_now StopLine.Done (λ t. (h.stops t, refl))
    stop_allowed point.Idle stops.Idle fit h = stop_now StopLine.Idle (λ t. (h.stops t, refl))
    stop_allowed (point.BadTrace line) (stops.Trace number) fit h = stop_now (StopLine.Trace number) (λ t. (subst (λ (n : ℕ). IsBadTrace (seen_of state) n) fit (h.stops t), refl))
    stop_allowed _ _ fit h = absurd fit

    -- two stops
    idle_done : IsIdle g.policy (seen_of state) → IsDone (seen_of state) → ⊥
    idle_done i d = i.live d.nobody

    bad_done : (line : ℕ) → IsBadTrace (seen_of state) line → IsDone (seen_of state) → ⊥
    bad_done line b d = b.live d.nobody

    bad_idle : (line : ℕ) → IsBadTrace (seen_of state) line → IsIdle g.policy (seen_of state) → ⊥
    bad_idle line b i = not_refused state.trace None line i.over b.refused

    at_point : (next : Option Event) (clock : ℕ) (stop : Between) (steps : ℕ) → IsChoicePoint g.policy (seen_of state) next clock → StopsBy g state (stop_line stop) steps → ⊥
    at_point next clock stops.Done steps p s = not_done g.policy (seen_of state) next clock p s.0
    at_point next clock stops.Idle steps p s = not_idle g.policy (seen_of state) next clock p s.0
    at_point next clock (stops.Trace number) steps p s = not_bad g.policy (seen_of state) next clock number p s.0

    never_stops : (p : Point) (stop : Between) (steps : ℕ) → (Fits p stop → ⊥) → IsPoint g state old told new told' p → IsTold state old told → StopsBy g state (stop_line stop) steps → ⊥
    never_stops point.Done stops.Idle steps nofit h t s = idle_done s.0 (h.stops t)
    never_stops point.Done (stops.Trace number) steps nofit h t s = bad_done number s.0 (h.stops t)
    never_stops point.Idle stops.Done steps nofit h t s = idle_done (h.stops t) s.0
    never_stops point.Idle (stops.Trace number) steps nofit h t s = bad_idle number s.0 (h.stops t)
    never_stops (point.BadTrace line) stops.Done steps nofit h t s = bad_done line (h.stops t) s.0
    never_stops (point.BadTrace line) stops.Idle steps nofit h t s = bad_idle line (h.stops t) s.0
    never_stops (point.BadTrace line) (stops.Trace number) steps nofit h t s = nofit (one_refusal state.trace line number (h.stops t).refused s.0.refused)
    never_stops (point.Comes event) stop steps nofit h t s = at_point (Some event) new.core.threads.waits.clock stop steps (h.goes.point t) s
    never_stops point.Choice stop steps nofit h t s = at_point h.known new.core.threads.waits.clock stop steps (h.goes.point t) s
    never_stops _ _ steps nofit h t s = nofit tt

    pub stop_refused : (p : Point) (stop : Between) → (Fits p stop → ⊥) → IsPoint g state old told new told' p → RulesStop g state old told (stop_line stop) (Ok ruling.Refused)
    stop_refused p stop nofit h t = none_of (stop_line stop) none (λ steps s. never_stops p stop steps nofit h t s) t

-- a stop at a choice point isn't one within a segment
pub stop_within : (g : Given) (state : State) (old : Kept) (told : Option (List ℕ)) (stop : Between) → (seen_of state).under_way ≡ true → state.steps ≤ g.most_steps → RulesStop g state old told (stop_line stop) (Ok ruling.Refused)
stop_within g state old told stop under_way within t = ((λ steps s. no stop steps s), enough stop) where
  no : (stop : Between) (steps : ℕ) → StopsBy g state (stop_line stop) steps → ⊥
  no stops.Done steps s = absurd (let both : true ≡ false = sym under_way ∙ s.0.between in cc)
  no stops.Idle steps s = absurd (let both : true ≡ false = sym under_way ∙ s.0.between in cc)
  no (stops.Trace number) steps s = absurd (let both : true ≡ false = sym under_way ∙ s.0.between in cc)

  enough : (stop : Between) → IsBeyond g state (Entry.Stop (stop_line stop)) → ⊥
  enough stops.Done b = let far = b.beyond 0 refl in omega (arith, far, within)
  enough _ b = let far = b.beyond 0 refl in omega (arith, far, within)

-- ---- edges

same_shown : (caps : List ℕ) (edge : EdgeLine) (line : Shown) → edge_entry caps edge ≡ entry_of line → Shows edge caps line
same_shown caps edge line e = record { from = (cc); to = (cc); count = (cc); cost = (cc); changes = (cc) }

shown_same : (caps : List ℕ) (edge : EdgeLine) (line : Shown) → Shows edge caps line → edge_entry caps edge ≡ entry_of line
shown_same caps edge line s = λ i. Entry.Edge (s.from i) (s.to i) (s.count i) (s.cost i) (s.changes i)

none_left : (items : List EdgeLine) (read : ℕ) → length items ≤ read → drop read items ≡ []
none_left [] zero h = refl
none_left [] (suc n) h = refl
none_left (x ∷ items) zero h = absurd (omega (arith, h))
none_left (x ∷ items) (suc n) h = none_left items n (omega (arith, h))

-- the lines of the edges that are left
module _ (g : Given) (state : State) (graph_edges items : List EdgeLine) (read : ℕ) (left : edges_left g state state.end ≡ map (edge_entry g.policy.caps) (drop read items)) (caps : List ℕ) (caps_are : caps ≡ g.policy.caps) where
  pub edge_over : length items ≤ read → edges_left g state state.end ≡ []
  edge_over h = left ∙ ap (map (edge_entry g.policy.caps)) (none_left items read h)

  first_left : (edge : EdgeLine) (more : List EdgeLine) → drop read items ≡ edge ∷ more → edges_left g state state.end ≡ edge_entry g.policy.caps edge ∷ map (edge_entry g.policy.caps) more
  first_left edge more e = left ∙ ap (map (edge_entry g.policy.caps)) e

  pub edge_allowed : (edge : EdgeLine) (more : List EdgeLine) (line : Shown) → drop read items ≡ edge ∷ more → Shows edge caps line → edges_left g state state.end ≡ entry_of line ∷ map (edge_entry g.policy.caps) more
  edge_allowed edge more line e s =
      first_left edge more e ∙ ap (λ (x : Entry). x ∷ map (edge_entry g.policy.caps) more) (shown_same g.policy.caps edge line (subst (λ (cs : List ℕ). Shows edge cs line) caps_are s))

  same_head : (a b : Entry) (xs ys : List Entry) → a ∷ xs ≡ b ∷ ys → a ≡ b
  same_head a b xs ys e = cc

  pub edge_refused : (edge : EdgeLine) (more : List EdgeLine) (line : Shown) → drop read items ≡ edge ∷ more → (Shows edge caps line → ⊥) → (rest : List Entry) → edges_left g state state.end ≡ entry_of line ∷ rest → ⊥
  edge_refused edge more line e never rest first =
      never (subst (λ (cs : List ℕ). Shows edge cs line) (sym caps_are)
      (same_shown g.policy.caps edge line (same_head (edge_entry g.policy.caps edge) (entry_of line) (map (edge_entry g.policy.caps) more) rest (sym (first_left edge more e) ∙ first))))

  pub edge_none : (line : Shown) → length items ≤ read → (rest : List Entry) → edges_left g state state.end ≡ entry_of line ∷ rest → ⊥
  edge_none line h rest first = absurd (let no : [] ≡ entry_of line ∷ rest = sym (edge_over h) ∙ first in cc)

-- no edge is left
pub over_left : (g : Given) (state : State) (k : Core) (e : End) → IsEnd g state e → k.graph.edges ≡ edges_of state.past.records → AreOver k e → edges_left g state state.end ≡ []
over_left g state k end.NotYet is same over = ap (edges_left g state) is ∙ ap (map (edge_entry g.policy.caps)) (sym same ∙ over)
over_left g state k (end.Edges edges read) is same over =
    ap (edges_left g state) is.0 ∙ ap (map (edge_entry g.policy.caps)) (none_left edges.items read (let at = over in omega (arith, at)))
over_left g state k end.Stopped is same over = absurd over

some_left : (items : List EdgeLine) (read : ℕ) → read < length items → (edge : EdgeLine) × (more : List EdgeLine) × (drop read items ≡ edge ∷ more)
some_left [] read h = absurd (omega (arith, h))
some_left (x ∷ items) zero h = (x, items, refl)
some_left (x ∷ items) (suc n) h = some_left items n (omega (arith, h))

-- some edge is left
pub left_over : (g : Given) (state : State) (k : Core) (e : End) → IsEnd g state e → k.graph.edges ≡ edges_of state.past.records → (AreOver k e → ⊥) → edges_left g state state.end ≡ [] → (e ≡ end.Stopped) ⊎ ⊥
left_over g state k end.NotYet is same some none = inr (some (none_map k.graph.edges (ap (map (edge_entry g.policy.caps)) same ∙ sym (ap (edges_left g state) is) ∙ none))) where
  none_map : (items : List EdgeLine) → map (edge_entry g.policy.caps) items ≡ [] → items ≡ []
  none_map [] e = refl
  none_map (x ∷ items) e = absurd (cc)
left_over g state k (end.Edges edges read) is same some none = inr (⊎_elim
    (λ (below : read < length edges.items).
    let s = some_left edges.items read below in
    let no : edge_entry g.policy.caps s.0 ∷ map (edge_entry g.policy.caps) s.1 ≡ [] = sym (ap (edges_left g state) is.0 ∙ ap (map (edge_entry g.policy.caps)) s.2) ∙ none in
    absurd (cc))
    (λ all. some (let most = is.1 in omega (arith, all, most)))
    (cases_lt read (length edges.items)))
left_over g state k end.Stopped is same some none = inl refl
