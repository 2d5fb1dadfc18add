-- Which lines are allowed doesn't rest on how many steps may be taken.
use Rattle.audited_logs.proofs.Common.{◌≡◌, ℕ, ◌+◌, ◌≤◌, List, refl, sym, ap, ◌∙◌, arith, Stop, Entry, StopLine, edges_left, IsCause, StopsBy, Given, IsAllowed, Leads, nowhere, by_line, IsClosed}
use Rattle.c_mean.specs.World as source
use Rattle.lawful_reading.specs.State.{Segment, State, End, NotYet, IsPossible}
use Rattle.audited_logs.proofs.Texts.{Chain, no_line, one_line}

module _ (g : Given) (most : ℕ) where
  abbrev other : Given
  other = record g { most_steps = most }

  possible_any : (b : State) (cost free : ℕ) → IsPossible g b cost free → IsPossible other b cost free
  possible_any b cost free is = record { fuel = is.fuel; chunks = is.chunks }

  closed_any : (b : State) (thread cost free steps : ℕ) (segment : Segment) (world : source.World) → IsClosed g b thread cost free steps segment world → IsClosed other b thread cost free steps segment world
  closed_any b thread cost free steps segment world is = record {
    not_over = is.not_over;
    under_way = is.under_way;
    rests = is.rests;
    thread_is = is.thread_is;
    some = is.some;
    possible = possible_any b cost free is.possible;
  }

  cause_any : (b : State) (segment : Segment) (stop : Stop) (cost steps : ℕ) → IsCause g b segment stop cost steps → IsCause other b segment stop cost steps
  cause_any b segment (Stop.Trap kind) cost steps is = is
  cause_any b segment _ cost steps is = is

  stops_any : (b : State) (line : StopLine) (steps : ℕ) → StopsBy g b line steps → StopsBy other b line steps
  stops_any b (StopLine.Cut thread stop cost free) steps is = record {
    segment = is.segment;
    under_way = is.under_way;
    thread_is = is.thread_is;
    possible = possible_any b cost free is.possible;
    cause = cause_any b is.segment stop cost steps is.cause;
  }
  stops_any b _ steps is = is

  edges_any : (b : State) (end : End) → edges_left g b end ≡ edges_left other b end
  edges_any b NotYet = refl
  edges_any b _ = refl

  allowed_any : (b : State) (entry : Entry) (a : State) → IsAllowed g b entry a → IsAllowed other b entry a
  allowed_any b (Entry.Run clock thread node) a is = record {
    not_over = is.not_over;
    chosen = is.chosen;
    choice = is.choice;
    thread_is = is.thread_is;
    node_is = is.node_is;
    here = is.here;
    begins = is.begins;
    after_is = is.after_is;
  }
  allowed_any b (Entry.Out thread value) a is = record {
    not_over = is.not_over;
    segment = is.segment;
    under_way = is.under_way;
    steps = is.steps;
    word = is.word;
    here = is.here;
    puts = is.puts;
    thread_is = is.thread_is;
    value_is = is.value_is;
    after_is = is.after_is;
  }
  allowed_any b (Entry.Block thread node key cost free) a is = record {
    segment = is.segment;
    steps = is.steps;
    world = is.world;
    closed = closed_any b thread cost free is.steps is.segment is.world is.closed;
    block = is.block;
    waiting = is.waiting;
    blocked = is.blocked;
    key_is = is.key_is;
    node_is = is.node_is;
    after_is = is.after_is;
  }
  allowed_any b (Entry.End thread cost free) a is = record {
    segment = is.segment;
    steps = is.steps;
    world = is.world;
    closed = closed_any b thread cost free is.steps is.segment is.world is.closed;
    ended = is.ended;
    after_is = is.after_is;
  }
  allowed_any b (Entry.Edge from to count cost changes) a is = record { may_stop = is.may_stop; rest = is.rest; first = sym (edges_any b b.end) ∙ is.first; after_is = is.after_is }
  allowed_any b (Entry.Stop line) a is = record { first = is.first; edges_over = sym (edges_any b b.end) ∙ is.edges_over; steps = is.steps; stops = stops_any b line is.steps is.stops; after_is = is.after_is }
  allowed_any b _ a is = record { not_over = is.not_over; event = is.event; delivery = is.delivery; after_is = is.after_is }

  -- ---- steps are only added

  same_rises : (b a : State) → a.steps ≡ b.steps → b.steps ≤ a.steps
  same_rises b a e = omega (arith, e)

  more_rises : (b a : State) (steps : ℕ) → a.steps ≡ b.steps + steps → b.steps ≤ a.steps
  more_rises b a steps e = omega (arith, e)

  allowed_rises : (b : State) (entry : Entry) (a : State) → IsAllowed g b entry a → b.steps ≤ a.steps
  allowed_rises b (Entry.Out thread value) a is = more_rises b a is.steps (ap (λ (s : State). s.steps) is.after_is)
  allowed_rises b (Entry.Block thread node key cost free) a is = more_rises b a is.steps (ap (λ (s : State). s.steps) is.after_is)
  allowed_rises b (Entry.End thread cost free) a is = more_rises b a is.steps (ap (λ (s : State). s.steps) is.after_is)
  allowed_rises b (Entry.Stop line) a is = more_rises b a is.steps (ap (λ (s : State). s.steps) is.after_is)
  allowed_rises b _ a is = same_rises b a (ap (λ (s : State). s.steps) is.after_is)

  chain_rises : (b last : State) (entries : List Entry) → Chain g b entries last → b.steps ≤ last.steps
  chain_rises b last entries no_line = omega arith
  chain_rises b last entries (one_line {between = between} {entry = entry} {entries = rest} fits is chain) =
      let first = allowed_rises b entry between is in
      let others = chain_rises between last rest chain in
      omega (arith, first, others)

  -- within all their steps the lines are read to their end
  pub leads_at : (b last : State) (entries : List Entry) → Chain g b entries last → last.steps ≤ most → Leads other b entries last
  leads_at b last entries no_line within = nowhere
  leads_at b last entries (one_line {between = between} {entry = entry} {entries = rest} fits is chain) within =
      let later = chain_rises between last rest chain in
      by_line fits (allowed_any b entry between is) (omega (arith, later, within)) (leads_at between last rest chain within)
