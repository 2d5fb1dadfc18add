-- At most one log is lawful.
use Rattle.lawful_log.proofs.Common.{◌≡◌, ℕ, List, ◌∷◌, ◌++◌, Some, None, refl, sym, ◌∙◌, ap, subst, ◌⊎◌, inl, inr, true, false, append_assoc, append-nil, not_refused, one_refusal, World, Entry, StopLine, Setup, start_machine, State, start_of, IsStop}
use Rattle.lawful_log.specs.Lawful.{IsAllowed, Leads, nowhere, by_entry, ending, IsLawfulLog}
use Rattle.lawful_log.proofs.Going.{IsGoing, one_going, going_not_cut, one_cut, out_goes, block_goes, end_goes, stop_cuts, going_under_way, cut_under_way}
use Rattle.lawful_log.proofs.OneChoice.{IsAtPoint, one_at_point, coming_point, run_point, point_not_done, point_not_bad, point_not_idle}

module _ (g : Setup) (state : State) where
  -- an entry is one of a segment or one at a choice point
  told : (a : Entry) (s : State) → IsAllowed g state a s → IsGoing g state a s ⊎ IsAtPoint g state a s
  told (Entry.Event clock item) s p = inr (coming_point g state clock item false s p)
  told (Entry.Dropped clock item) s p = inr (coming_point g state clock item true s p)
  told (Entry.Run clock thread node) s p = inr (run_point g state clock thread node s p)
  told (Entry.Out thread value) s p = inl (out_goes g state thread value s p)
  told (Entry.Block thread node key cost free) s p = inl (block_goes g state thread node key cost free s p)
  told (Entry.End thread cost free) s p = inl (end_goes g state thread cost free s p)
  told _ s p = absurd p

  one_told : (a b : Entry) (s t : State) → IsGoing g state a s ⊎ IsAtPoint g state a s → IsGoing g state b t ⊎ IsAtPoint g state b t → (a ≡ b) × (s ≡ t)
  one_told a b s t (inl p) (inl q) = one_going g state a b s t p q
  one_told a b s t (inl p) (inr q) = absurd (going_under_way g state a s p q.point.between)
  one_told a b s t (inr p) (inl q) = absurd (going_under_way g state b t q p.point.between)
  one_told a b s t (inr p) (inr q) = one_at_point g state a b s t p q

  pub one_entry : (a b : Entry) (s t : State) → IsAllowed g state a s → IsAllowed g state b t → (a ≡ b) × (s ≡ t)
  one_entry a b s t p q = one_told a b s t (told a s p) (told b t q)

  no_stop : (a : Entry) (s : State) (line : StopLine) (machine : World) → IsGoing g state a s ⊎ IsAtPoint g state a s → IsStop g state line machine → ⊥
  no_stop a s (StopLine.Cut thread stop cost free) machine (inl p) q = going_not_cut g state a s _ machine p (stop_cuts g state thread stop cost free machine q)
  no_stop a s StopLine.Done machine (inr p) q = point_not_done g state a s p q.0
  no_stop a s StopLine.Idle machine (inr p) q = point_not_idle g state a s p q.0
  no_stop a s (StopLine.Trace line) machine (inr p) q = point_not_bad g state a s line p q.0
  no_stop a s (StopLine.Cut thread stop cost free) machine (inr p) q = cut_under_way g state _ machine (stop_cuts g state thread stop cost free machine q) p.point.between
  no_stop a s _ machine (inl p) q = going_under_way g state a s p q.0.between

  pub entry_or_stop : (a : Entry) (s : State) (line : StopLine) (machine : World) → IsAllowed g state a s → IsStop g state line machine → ⊥
  entry_or_stop a s line machine p q = no_stop a s line machine (told a s p) q

  pub one_stop : (a b : StopLine) (s t : World) → IsStop g state a s → IsStop g state b t → (a ≡ b) × (s ≡ t)
  one_stop StopLine.Done StopLine.Done s t p q = (refl, p.1 ∙ sym q.1)
  one_stop StopLine.Done StopLine.Idle s t p q = absurd (q.0.live p.0.nobody)
  one_stop StopLine.Done (StopLine.Trace line) s t p q = absurd (q.0.live p.0.nobody)
  one_stop StopLine.Idle StopLine.Done s t p q = absurd (p.0.live q.0.nobody)
  one_stop StopLine.Idle StopLine.Idle s t p q = (refl, p.1 ∙ sym q.1)
  one_stop StopLine.Idle (StopLine.Trace line) s t p q = absurd (not_refused state.trace None line p.0.over q.0.refused)
  one_stop (StopLine.Trace line) StopLine.Done s t p q = absurd (p.0.live q.0.nobody)
  one_stop (StopLine.Trace line) StopLine.Idle s t p q = absurd (not_refused state.trace None line q.0.over p.0.refused)
  one_stop (StopLine.Trace line) (StopLine.Trace line') s t p q = (ap StopLine.Trace (one_refusal state.trace line line' p.0.refused q.0.refused), p.1 ∙ sym q.1)
  one_stop (StopLine.Cut thread stop cost free) StopLine.Done s t p q = absurd (cut_under_way g state _ s (stop_cuts g state thread stop cost free s p) q.0.between)
  one_stop (StopLine.Cut thread stop cost free) StopLine.Idle s t p q = absurd (cut_under_way g state _ s (stop_cuts g state thread stop cost free s p) q.0.between)
  one_stop (StopLine.Cut thread stop cost free) (StopLine.Trace line) s t p q = absurd (cut_under_way g state _ s (stop_cuts g state thread stop cost free s p) q.0.between)
  one_stop (StopLine.Cut thread stop cost free) (StopLine.Cut thread' stop' cost' free') s t p q =
      one_cut g state _ _ s t (stop_cuts g state thread stop cost free s p) (stop_cuts g state thread' stop' cost' free' t q)
  one_stop _ (StopLine.Cut thread stop cost free) s t p q = absurd (cut_under_way g state _ t (stop_cuts g state thread stop cost free t q) p.0.between)

-- what is led to, with the rest of the way to a stop
pub record IsOnTheRoad (g : Setup) (a b : List Entry) (here there : State) : Type 0 where
  rest : List Entry
  joined : b ≡ a ++ rest
  leads : Leads g here rest there

along : (g : Setup) (entry : Entry) (a b : List Entry) (here there : State) → IsOnTheRoad g a b here there → IsOnTheRoad g (entry ∷ a) (entry ∷ b) here there
along g entry a b here there r = record { rest = r.rest; joined = ap (λ (es : List Entry). entry ∷ es) r.joined; leads = r.leads }

-- two ways from one state, of which the second leads to a stop: the first is the beginning of the second
pub one_road : (g : Setup) (before here there : State) (a b : List Entry) (line : StopLine) (machine : World) → Leads g before a here → Leads g before b there →
    IsStop g there line machine → IsOnTheRoad g a b here there
one_road g before here there _ b line machine nowhere q stop = record { rest = b; joined = refl; leads = q }
one_road g before here there _ _ line machine (by_entry {between = s} {entry = a} {entries = more} p ps) nowhere stop = absurd (entry_or_stop g before a s line machine p stop)
one_road g before here there _ _ line machine (by_entry {between = s} {entry = a} {entries = more} p ps) (by_entry {between = t} {entry = b} {entries = others} q qs) stop =
    let same : (a ≡ b) × (s ≡ t) = one_entry g before a b s t p q in
    let road : IsOnTheRoad g more others here there =
    one_road g s here there more others line machine ps (subst (λ (u : State). Leads g u others there) (sym same.1) qs) stop in
    subst (λ (x : Entry). IsOnTheRoad g (a ∷ more) (x ∷ others) here there) same.0 (along g a more others here there road)

-- what comes from the start: the way, and the entries
same_start : (g : Setup) (v w : World) → start_machine g ≡ Some v → start_machine g ≡ Some w → w ≡ v
same_start g v w p q = let both : Some w ≡ Some v = sym q ∙ p in cc

led : (g : Setup) (trace : List ℕ) (v w : World) (a b : List Entry) (here there : State) (line : StopLine) (machine : World) → start_machine g ≡ Some v →
    start_machine g ≡ Some w → Leads g (start_of g trace v) a here → Leads g (start_of g trace w) b there → IsStop g there line machine → IsOnTheRoad g a b here there
led g trace v w a b here there line machine sv sw p q stop =
    one_road g (start_of g trace v) here there a b line machine p
    (subst (λ (u : World). Leads g (start_of g trace u) b there) (same_start g v w sv sw) q) stop

pub begins_each : (g : Setup) (trace : List ℕ) (start : World) (so_far entries : List Entry) (state : State) (stop : StopLine) (end : World) →
    start_machine g ≡ Some start → Leads g (start_of g trace start) so_far state → IsLawfulLog g trace entries stop end →
    (rest : List Entry) × (entries ≡ so_far ++ rest)
begins_each g trace start so_far entries state stop end starts leads log =
    let road = led g trace start log.start so_far log.before_end state log.last stop end starts log.starts leads log.leads log.stops in (
      road.rest ++ ending g log.last stop,
      log.entries_are ∙ ap (λ (es : List Entry). es ++ ending g log.last stop) road.joined ∙ append_assoc so_far road.rest (ending g log.last stop),
    )

-- two ways to stops from one state are one
record IsSameEnd (g : Setup) (a b : List Entry) (here there : State) : Type 0 where
  entries : a ≡ b
  states : here ≡ there

at_end : (g : Setup) (a b rest : List Entry) (here there : State) (line : StopLine) (machine : World) → b ≡ a ++ rest → Leads g here rest there →
    IsStop g here line machine → IsSameEnd g a b here there
at_end g a b _ here there line machine e nowhere stop = record { entries = sym (e ∙ append-nil a); states = refl }
at_end g a b _ here there line machine e (by_entry {between = s} {entry = x} p ps) stop = absurd (entry_or_stop g here x s line machine p stop)

same_end : (g : Setup) (trace : List ℕ) (a b : List Entry) (stop other : StopLine) (v w : World) → (p : IsLawfulLog g trace a stop v) →
    (q : IsLawfulLog g trace b other w) → IsSameEnd g p.before_end q.before_end p.last q.last
same_end g trace a b stop other v w p q =
    let road = led g trace p.start q.start p.before_end q.before_end p.last q.last other w p.starts q.starts p.leads q.leads q.stops in
    at_end g p.before_end q.before_end road.rest p.last q.last stop v road.joined road.leads p.stops

pub same_stops : (g : Setup) (trace : List ℕ) (a b : List Entry) (stop other : StopLine) (v w : World) → IsLawfulLog g trace a stop v →
    IsLawfulLog g trace b other w → (stop ≡ other) × (v ≡ w)
same_stops g trace a b stop other v w p q =
    let same = same_end g trace a b stop other v w p q in
    one_stop g p.last stop other v w p.stops (subst (λ (s : State). IsStop g s other w) (sym same.states) q.stops)

pub same_entries : (g : Setup) (trace : List ℕ) (a b : List Entry) (stop other : StopLine) (v w : World) → IsLawfulLog g trace a stop v →
    IsLawfulLog g trace b other w → a ≡ b
same_entries g trace a b stop other v w p q =
    let same = same_end g trace a b stop other v w p q in
    let stops : (stop ≡ other) × (v ≡ w) = same_stops g trace a b stop other v w p q in
    p.entries_are ∙ ap (λ (es : List Entry). es ++ ending g p.last stop) same.entries
    ∙ ap (λ (s : State). q.before_end ++ ending g s stop) same.states ∙ ap (λ (l : StopLine). q.before_end ++ ending g q.last l) stops.0 ∙ sym q.entries_are
