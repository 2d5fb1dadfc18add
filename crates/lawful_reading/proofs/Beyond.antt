-- A line that is allowed, and within the steps in no way, needs more than may be taken.
use Rattle.lawful_reading.proofs.Common.{◌≡◌, ℕ, ◌+◌, ◌<◌, ◌≤◌, inl, inr, None, refl, ap, arith, ⊎_elim, cases_lt, Stop, Entry, StopLine, Given, ComesAt, IsCrowdedNext, State, Stopped, IsStop, IsAllowed, IsBeyond}
use Rattle.c_mean.specs.World as source
use Rattle.lawful_reading.proofs.Moves.{not_put_and_rest, one_put, one_rest, silent_puts, silent_rests}

-- ---- steps

-- up to the next output, block, end or trap there is one number of steps
one_come : (g : Given) (here : source.Segment) (m n : ℕ) → ComesAt g.program g.policy.caps here m → ComesAt g.program g.policy.caps here n → m ≡ n
one_come g here m n (inl p) (inl q) = (one_put g.program g.policy.caps here p.1 q.1 m n p.0 q.0 p.2 q.2).steps_are
one_come g here m n (inl p) (inr q) = absurd (not_put_and_rest g.program g.policy.caps here p.1 m n p.0 q.0 p.2 q.1)
one_come g here m n (inr p) (inl q) = absurd (not_put_and_rest g.program g.policy.caps here q.1 n m q.0 p.0 q.2 p.1)
one_come g here m n (inr p) (inr q) = (one_rest g.program g.policy.caps here m n p.0 q.0 p.1 q.1).steps_are

-- a start of a thread that is one too many comes before it
crowded_first : (g : Given) (here : source.Segment) (n m : ℕ) → IsCrowdedNext g.program g.policy.caps here n → ComesAt g.program g.policy.caps here m → n < m
crowded_first g here n m c (inl p) = silent_puts g.program g.policy.caps here c.here p.1 m p.0 n p.2 c.silent
crowded_first g here n m c (inr p) = silent_rests g.program g.policy.caps here c.here p.0 m n p.1 c.silent

above : (a b : ℕ) → (a ≤ b → ⊥) → b < a
above a b never = ⊎_elim (λ (h : b < a). h) (λ (h : a ≤ b). absurd (never h)) (cases_lt b a)

-- the line is allowed, and within the steps in no way
module _ (g : Given) (s : State) (within : s.steps ≤ g.most_steps) where
  abbrev Never : Entry → Type 0
  Never entry = (x : State) → IsAllowed g s entry x → x.steps ≤ g.most_steps → ⊥

  -- a line that needs no steps is within them
  stands : (entry : Entry) (after : State) → after.steps ≡ s.steps → IsAllowed g s entry after → Never entry → IsBeyond g s entry
  stands entry after same allowed never = absurd (never after allowed (omega (arith, same, within)))

  none_more : (a n : ℕ) → a ≡ s.steps + n → n ≡ 0 → a ≡ s.steps
  none_more a n is none = omega (arith, is, none)

  all_beyond : (a n m : ℕ) → a ≡ s.steps + n → (a ≤ g.most_steps → ⊥) → n ≤ m → g.most_steps < s.steps + m
  all_beyond a n m is never more = let large = above a g.most_steps never in omega (arith, is, large, more)

  same_most : (n m : ℕ) → n ≡ m → n ≤ m
  same_most n m same = omega (arith, same)

  less_most : (n m : ℕ) → n < m → n ≤ m
  less_most n m less = omega (arith, less)

  -- the state after a stop
  abbrev over : ℕ → State
  over n = record s { segment = None; steps = s.steps + n; end = Stopped }

  stop_beyond : (line : StopLine) (after : State) → IsStop g s line after → Never (Entry.Stop line) → IsBeyond g s (Entry.Stop line)
  stop_beyond StopLine.Done after p never = stands (Entry.Stop StopLine.Done) after (none_more after.steps p.steps (ap (λ (x : State). x.steps) p.after_is) p.stops.1) p never
  stop_beyond StopLine.Idle after p never = stands (Entry.Stop StopLine.Idle) after (none_more after.steps p.steps (ap (λ (x : State). x.steps) p.after_is) p.stops.1) p never
  stop_beyond (StopLine.Trace line) after p never = stands (Entry.Stop (StopLine.Trace line)) after (none_more after.steps p.steps (ap (λ (x : State). x.steps) p.after_is) p.stops.1) p never
  stop_beyond (StopLine.Cut thread (Stop.Trap kind) cost free) after p never =
      let cut = p.stops in
      let is : after.steps ≡ s.steps + p.steps = ap (λ (x : State). x.steps) p.after_is in
      record {
        segment = cut.segment;
        under_way = cut.under_way;
        beyond = λ n comes. all_beyond after.steps p.steps n is (never after p) (same_most p.steps n (one_come g cut.segment.here p.steps n (inr (cut.cause.0, cut.cause.1)) comes));
      }
  stop_beyond (StopLine.Cut thread Stop.NoChunk cost free) after p never =
      let cut = p.stops in
      stands (Entry.Stop (StopLine.Cut thread Stop.NoChunk cost free)) after (none_more after.steps p.steps (ap (λ (x : State). x.steps) p.after_is) cut.cause) p never
  stop_beyond (StopLine.Cut thread Stop.Fuel cost free) after p never =
      let cut = p.stops in
      stands (Entry.Stop (StopLine.Cut thread Stop.Fuel cost free)) after (none_more after.steps p.steps (ap (λ (x : State). x.steps) p.after_is) cut.cause.1) p never
  stop_beyond (StopLine.Cut thread Stop.Threads cost free) after p never =
      let cut = p.stops in
      let is : after.steps ≡ s.steps + p.steps = ap (λ (x : State). x.steps) p.after_is in
      record {
        segment = cut.segment;
        under_way = cut.under_way;
        beyond = λ n needs. ⊎_elim
            (λ crowded. all_beyond (s.steps + n) n n refl
            (never (over n) (record {
              first = p.first;
              edges_over = p.edges_over;
              steps = n;
              stops = record { segment = cut.segment; under_way = cut.under_way; thread_is = cut.thread_is; possible = cut.possible; cause = crowded };
              after_is = refl;
            }))
            (same_most n n refl))
            (λ comes. all_beyond after.steps p.steps n is (never after p) (less_most p.steps n (crowded_first g cut.segment.here p.steps n cut.cause comes)))
            needs;
      }

  pub beyond_all : (entry : Entry) (after : State) → IsAllowed g s entry after → Never entry → IsBeyond g s entry
  beyond_all (Entry.Event clock item) after p never = stands (Entry.Event clock item) after (ap (λ (x : State). x.steps) p.after_is) p never
  beyond_all (Entry.Dropped clock item) after p never = stands (Entry.Dropped clock item) after (ap (λ (x : State). x.steps) p.after_is) p never
  beyond_all (Entry.Run clock thread node) after p never = stands (Entry.Run clock thread node) after (ap (λ (x : State). x.steps) p.after_is) p never
  beyond_all (Entry.Out thread value) after p never =
      let is : after.steps ≡ s.steps + p.steps = ap (λ (x : State). x.steps) p.after_is in
      record {
        segment = p.segment;
        under_way = p.under_way;
        beyond = λ n comes. all_beyond after.steps p.steps n is (never after p) (same_most p.steps n (one_come g p.segment.here p.steps n (inl (p.word, p.here, p.puts)) comes));
      }
  beyond_all (Entry.Edge from to count cost changes) after p never =
      stands (Entry.Edge from to count cost changes) after (ap (λ (x : State). x.steps) p.after_is) p never
  beyond_all (Entry.Stop line) after p never = stop_beyond line after p never
  beyond_all _ after p never =
      let is : after.steps ≡ s.steps + p.steps = ap (λ (x : State). x.steps) p.after_is in
      let closed = p.closed in
      record {
        segment = p.segment;
        under_way = closed.under_way;
        beyond = λ n comes. all_beyond after.steps p.steps n is (never after p)
            (same_most p.steps n (one_come g p.segment.here p.steps n (inr (record { trap = None; world = p.world }, closed.rests)) comes));
      }
