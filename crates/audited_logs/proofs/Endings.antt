-- The end of a log: the edges, and the stop.
use Rattle.audited_logs.proofs.Common.{◌≡◌, ◌≢◌, ℕ, ◌+◌, inl, inr, List, [], ◌∷◌, ◌++◌, map, Option, None, refl, sym, ap, subst, is_some, AllByRecursion, edges_of, EdgeLine, Stop, edge_entry, ending, Setup, State, edges_left, MayStop, IsCause, StopsBy, Segment, End, NotYet, Edges, Stopped, FitsEntry, Entry, StopLine, given_of}
use Rattle.lawful_reading.specs.State as reading_state
use Rattle.lawful_reading.proofs.Refused.{stopped-not}
use Rattle.audited_logs.proofs.Beside.{Position, Between, Within}
use Rattle.audited_logs.proofs.Stops.{StopsAs}
use Rattle.audited_logs.proofs.Texts.{no_line, Whole, whole_more}

module _ (g : Setup) (most : ℕ) where
  -- a stop is the same whatever edges are still to come
  cause_with : (b : reading_state.State) (end : End) (segment : Segment) (stop : Stop) (cost steps : ℕ) → IsCause (given_of g most) b segment stop cost steps → IsCause (given_of g most) (record b { end = end }) segment stop cost steps
  cause_with b end segment (Stop.Trap kind) cost steps is = is
  cause_with b end segment _ cost steps is = is

  stops_with : (b : reading_state.State) (end : End) (line : StopLine) (steps : ℕ) → StopsBy (given_of g most) b line steps → StopsBy (given_of g most) (record b { end = end }) line steps
  stops_with b end (StopLine.Cut thread stop cost free) steps is = record {
    segment = is.segment;
    under_way = is.under_way;
    thread_is = is.thread_is;
    possible = record { fuel = is.possible.fuel; chunks = is.possible.chunks };
    cause = cause_with b end is.segment stop cost steps is.cause;
  }
  stops_with b end _ steps is = is

  may_stop : (b : reading_state.State) (end : End) (line : StopLine) (steps : ℕ) → StopsBy (given_of g most) b line steps → MayStop (given_of g most) (record b { end = end })
  may_stop b end StopLine.Done steps is = inr (inl is.0)
  may_stop b end StopLine.Idle steps is = inr (inr (inl is.0))
  may_stop b end (StopLine.Trace line) steps is = inr (inr (inr (line, is.0)))
  may_stop b end (StopLine.Cut thread stop cost free) steps is = inl (ap (λ (o : Option Segment). is_some o) is.under_way)

  edges_not : (left : List Entry) → Edges left ≢ Stopped
  edges_not left e = let no : NotYet ≡ Stopped = ap closed e in stopped-not no where
    closed : End → End
    closed NotYet = NotYet
    closed (Edges left) = NotYet
    closed Stopped = Stopped

  ends_read : (edges : List EdgeLine) (end : End) (b : reading_state.State) (line : StopLine) → end ≢ Stopped → edges_left (given_of g most) (record b { end = end }) end ≡ map (edge_entry g.policy.caps) edges →
      AllByRecursion FitsEntry (map (edge_entry g.policy.caps) edges ++ Entry.Stop line ∷ []) → StopsAs g most b line →
      Whole (given_of g most) (record b { end = end }) (map (edge_entry g.policy.caps) edges ++ Entry.Stop line ∷ [])
  ends_read [] end b line going left fits is =
      let after : reading_state.State = record b { segment = None; steps = b.steps + is.steps; end = Stopped } in
      whole_more (given_of g most) (record b { end = end }) after (Entry.Stop line) [] fits.0
      (record { first = going; edges_over = left; steps = is.steps; stops = stops_with b end line is.steps is.stops; after_is = refl })
      (record { last = after; chain = no_line; stopped = refl })
  ends_read (edge ∷ edges) end b line going left fits is =
      let rest = map (edge_entry g.policy.caps) edges in
      whole_more (given_of g most) (record b { end = end }) (record b { end = Edges rest }) (edge_entry g.policy.caps edge) (rest ++ Entry.Stop line ∷ []) fits.0
      (record { may_stop = may_stop b end line is.steps is.stops; rest = rest; first = left; after_is = refl })
      (ends_read edges (Edges rest) b line (edges_not rest) refl fits.1 is)

  end_is : (a : State) (b : reading_state.State) → Position g a b → b.end ≡ NotYet
  end_is a b (Between rests b_is) = ap (λ (x : reading_state.State). x.end) b_is
  end_is a b (Within segment clock cost held here under runs at b_is) = ap (λ (x : reading_state.State). x.end) b_is

  past_is : (a : State) (b : reading_state.State) → Position g a b → edges_of b.past.records ≡ edges_of a.past.records
  past_is a b (Between rests b_is) = ap (λ (x : reading_state.State). edges_of x.past.records) b_is
  past_is a b (Within segment clock cost held here under runs at b_is) = ap (λ (x : reading_state.State). edges_of x.past.records) b_is

  pub ending_read : (last : State) (line : StopLine) (b : reading_state.State) → Position g last b → AllByRecursion FitsEntry (map (edge_entry g.policy.caps) (edges_of b.past.records) ++ Entry.Stop line ∷ []) → StopsAs g most b line → Whole (given_of g most) b (ending g last line)
  ending_read last line b at fits is =
      let left = ap (λ (edges : List EdgeLine). map (edge_entry g.policy.caps) edges) (past_is last b at) in
      let going : NotYet ≢ Stopped = λ e. stopped-not e in
      let fit = subst (λ (edges : List EdgeLine). AllByRecursion FitsEntry (map (edge_entry g.policy.caps) edges ++ Entry.Stop line ∷ [])) (past_is last b at) fits in
      let all = ends_read (edges_of last.past.records) NotYet b line going left fit is in
      subst (λ (end : End). Whole (given_of g most) (record b { end = end }) (ending g last line)) (sym (end_is last b at)) all
