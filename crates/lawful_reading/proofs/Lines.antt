-- Of a line it is decided whether it is allowed within the steps, and whether it needs more than may be taken.
use Rattle.lawful_reading.proofs.Common.{◌≡◌, ◌≢◌, ℕ, suc, ◌+◌, ◌-◌, ◌<◌, ◌≤◌, ℤ, Bool, false, true, inl, inr, List, [], ◌∷◌, Option, Some, None, refl, ap, arith, ⊎_elim, is_some, slice_get, cases_lt, keys_with, node_number, Stop, delivery_of, received, IsDelivery, Waiter, end_node, IsChoice, behind, Event, Entry, Item, StopLine, Given, Segment, State, End, NotYet, Edges, Stopped, seen_of, IsPossible, IsComing, IsRun, chosen_from, IsOut, IsBlock, IsEnd, rested, edges_left, MayStop, IsStop, StopsBy, IsAllowed, Needs, StopNeeds, IsBeyond, Decided, decided_by, both_decided, either_decided, denied, le_decided, number_same, bool_same, integer_same, Below, below_decided, list_same, held_decided}
use Rattle.c_mean.specs.World as source
use Rattle.c_mean.specs.World.{begun}
use Rattle.lawful_reading.proofs.DecidedHappenings.{crowded_decided, comes_decided}
use Rattle.lawful_reading.proofs.Points.{done_decided, idle_decided, some_bad_decided, delivery_decided, choice_decided}
use Rattle.lawful_reading.proofs.SegmentLines.{possible_decided, OutAt, out_decided, RestAt, rest_decided, BlockedAt, blocked_decided, ended_decided, stop_decided}

-- ---- small things

not_yet_decided : (end : End) → Decided (end ≡ NotYet)
not_yet_decided NotYet = inl refl
not_yet_decided _ = inr (λ e. absurd (cc))

stopped_decided : (end : End) → Decided (end ≡ Stopped)
stopped_decided Stopped = inl refl
stopped_decided _ = inr (λ e. absurd (cc))

some_decided : {A : Type 0} (o : Option A) → Decided ((x : A) × (o ≡ Some x))
some_decided None = inr (λ h. let e = h.1 in absurd (cc))
some_decided (Some x) = inl (x, refl)

none_left_decided : (entries : List Entry) → Decided (entries ≡ [])
none_left_decided [] = inl refl
none_left_decided (entry ∷ entries) = inr (λ e. absurd (cc))

module _ (from to count : ℕ) (cost : ℤ) (changes : List ℤ) where
  abbrev AreSame : ℕ → ℕ → ℕ → ℤ → List ℤ → Type 0
  AreSame f t n c v = (f ≡ from) × ((t ≡ to) × ((n ≡ count) × ((c ≡ cost) × (v ≡ changes))))

  edge_same : (entry : Entry) → Decided (entry ≡ Entry.Edge from to count cost changes)
  edge_same (Entry.Edge f t n c v) = decided_by (λ (e : AreSame f t n c v) k. Entry.Edge (e.0 k) (e.1.0 k) (e.1.1.0 k) (e.1.1.1.0 k) (e.1.1.1.1 k)) (λ e. (cc, (cc, (cc, (cc, cc)))))
      (both_decided (number_same f from) (both_decided (number_same t to) (both_decided (number_same n count) (both_decided (integer_same c cost) (list_same integer_same v changes)))))
  edge_same entry = inr (λ e. absurd (cc))

  first_decided : (entries : List Entry) → Decided ((rest : List Entry) × (entries ≡ Entry.Edge from to count cost changes ∷ rest))
  first_decided [] = inr (λ h. let e = h.1 in absurd (cc))
  first_decided (entry ∷ entries) = decided_by (λ (e : entry ≡ Entry.Edge from to count cost changes). (entries, ap (λ (x : Entry). x ∷ entries) e)) (λ h. let e = h.1 in cc) (edge_same entry)

module _ (g : Given) (s : State) (within : s.steps ≤ g.most_steps) where
  -- a number that is above those of steps that may be taken still
  abbrev left : ℕ
  left = suc (g.most_steps - s.steps)

  may_be_taken : (n : ℕ) → n < left → s.steps + n ≤ g.most_steps
  may_be_taken n h = omega (arith, h, within)

  is_left : (n a : ℕ) → a ≡ s.steps + n → a ≤ g.most_steps → n < left
  is_left n a is h = omega (arith, is, h)

  abbrev pub GoesOn : Entry → Type 0
  GoesOn entry = (after : State) × (IsAllowed g s entry after × (after.steps ≤ g.most_steps))

  -- ---- choice points

  coming_decided : (clock : ℕ) (item : Item) (drops : Bool) → Decided ((after : State) × (IsComing g s clock item drops after × (after.steps ≤ g.most_steps)))
  coming_decided clock item drops =
      decided_by
      (λ (h : (s.end ≡ NotYet) × ((event : Event) × IsDelivery g.policy (seen_of s) clock event item drops)). (
        record s { clock = clock; source = received drops s.source (delivery_of h.1.0.kind); trace = behind s.trace h.1.0 },
        (record { not_over = h.0; event = h.1.0; delivery = h.1.1; after_is = refl }, within),
      ))
      (λ c. (c.1.0.not_over, (c.1.0.event, c.1.0.delivery)))
      (both_decided (not_yet_decided s.end) (delivery_decided g.policy (seen_of s) clock item drops))

  abbrev Chosen : ℕ → ℕ → ℕ → Waiter → Type 0
  Chosen clock thread node chosen = IsChoice g.policy (seen_of s) clock chosen × ((thread ≡ chosen.thread) × (node ≡ chosen.node))

  run_decided : (clock thread node : ℕ) → Decided ((after : State) × (IsRun g s clock thread node after × (after.steps ≤ g.most_steps)))
  run_decided clock thread node =
      decided_by
      (λ (h : (s.end ≡ NotYet) × (((chosen : Waiter) × Chosen clock thread node chosen) × ((here : source.Segment) × (begun g.program g.policy.caps s.source thread ≡ Some here)))). (
        chosen_from s clock h.1.0.0 h.1.1.0,
        (record { not_over = h.0; chosen = h.1.0.0; choice = h.1.0.1.0; thread_is = h.1.0.1.1.0; node_is = h.1.0.1.1.1; here = h.1.1.0; begins = h.1.1.1; after_is = refl }, within),
      ))
      (λ r. (r.1.0.not_over, ((r.1.0.chosen, (r.1.0.choice, (r.1.0.thread_is, r.1.0.node_is))), (r.1.0.here, r.1.0.begins))))
      (both_decided (not_yet_decided s.end) (both_decided (choice_decided g.policy (seen_of s) clock thread node) (some_decided (begun g.program g.policy.caps s.source thread))))

  -- ---- segments

  -- no end has begun, and with some step of the segment under way it holds
  abbrev InSegment : (Segment → ℕ → Type 0) → Type 0
  InSegment P = (s.end ≡ NotYet) × ((segment : Segment) × ((s.segment ≡ Some segment) × Below (P segment) left))

  in_segment : (P : Segment → ℕ → Type 0) → ((segment : Segment) (n : ℕ) → Decided (P segment n)) → Decided (InSegment P)
  in_segment P each = both_decided (not_yet_decided s.end) (held_decided (λ segment. Below (P segment) left) s.segment (λ segment e. below_decided (P segment) (each segment) left))

  abbrev Puts : ℕ → ℤ → Segment → ℕ → Type 0
  Puts thread value segment n = (thread ≡ segment.here.number) × OutAt g segment value n

  out_goes : (thread : ℕ) (value : ℤ) → Decided ((after : State) × (IsOut g s thread value after × (after.steps ≤ g.most_steps)))
  out_goes thread value = decided_by to from (in_segment (Puts thread value) (λ segment n. both_decided (number_same thread segment.here.number) (out_decided g segment value n))) where
    to : InSegment (Puts thread value) → (after : State) × (IsOut g s thread value after × (after.steps ≤ g.most_steps))
    to (over, (segment, (under, (n, (small, (thread_is, (word, (here, (puts, value_is))))))))) = (
      record s { segment = Some (record segment { here = here }); steps = s.steps + n },
      (
        record { not_over = over; segment = segment; under_way = under; steps = n; word = word; here = here; puts = puts; thread_is = thread_is; value_is = value_is; after_is = refl },
        may_be_taken n small,
      ),
    )

    from : (after : State) × (IsOut g s thread value after × (after.steps ≤ g.most_steps)) → InSegment (Puts thread value)
    from (after, (o, most)) =
        (o.not_over, (o.segment, (o.under_way, (o.steps, (is_left o.steps after.steps (ap (λ (x : State). x.steps) o.after_is) most, (o.thread_is, (o.word, (o.here, (o.puts, o.value_is)))))))))

  abbrev Closes : ℕ → ℕ → ℕ → (source.World → Type 0) → Segment → ℕ → Type 0
  Closes thread cost free P segment n = (thread ≡ segment.here.number) × ((1 ≤ cost) × (IsPossible g s cost free × RestAt g segment P n))

  closes_decided : (thread cost free : ℕ) (P : source.World → Type 0) → ((world : source.World) → Decided (P world)) → Decided (InSegment (Closes thread cost free P))
  closes_decided thread cost free P each = in_segment (Closes thread cost free P)
      (λ segment n. both_decided (number_same thread segment.here.number) (both_decided (le_decided 1 cost) (both_decided (possible_decided g s cost free) (rest_decided g segment P each n))))

  abbrev BlocksAs : ℕ → ℕ → List ℕ → source.World → Type 0
  BlocksAs thread node key world = BlockedAt world.threads thread key × (node ≡ node_number s.past.keys key)

  block_goes : (thread node : ℕ) (key : List ℕ) (cost free : ℕ) → Decided ((after : State) × (IsBlock g s thread node key cost free after × (after.steps ≤ g.most_steps)))
  block_goes thread node key cost free =
      decided_by to from (closes_decided thread cost free (BlocksAs thread node key) (λ world. both_decided (blocked_decided world.threads thread key) (number_same node (node_number s.past.keys key))))
    where
      to : InSegment (Closes thread cost free (BlocksAs thread node key)) → (after : State) × (IsBlock g s thread node key cost free after × (after.steps ≤ g.most_steps))
      to (over, (segment, (under, (n, (small, (thread_is, (some, (possible, (world, (rests, ((block, (waiting, (blocked, key_is))), node_is))))))))))) = (
        rested g s segment node cost free n world (record { thread = thread; node = node; since = s.clock + cost } ∷ []) (keys_with s.past.keys key),
        (
          record {
            segment = segment;
            steps = n;
            world = world;
            closed = record { not_over = over; under_way = under; rests = rests; thread_is = thread_is; some = some; possible = possible };
            block = block;
            waiting = waiting;
            blocked = blocked;
            key_is = key_is;
            node_is = node_is;
            after_is = refl;
          },
          may_be_taken n small,
        ),
      )

      from : (after : State) × (IsBlock g s thread node key cost free after × (after.steps ≤ g.most_steps)) → InSegment (Closes thread cost free (BlocksAs thread node key))
      from (after, (b, most)) =
          let c = b.closed in (
            c.not_over,
            (
              b.segment,
              (
                c.under_way,
                (
                  b.steps,
                  (
                    is_left b.steps after.steps (ap (λ (x : State). x.steps) b.after_is) most,
                    (c.thread_is, (c.some, (c.possible, (b.world, (c.rests, ((b.block, (b.waiting, (b.blocked, b.key_is))), b.node_is)))))),
                  ),
                ),
              ),
            ),
          )

  abbrev EndsAs : ℕ → source.World → Type 0
  EndsAs thread world = slice_get world.threads thread ≡ Some source.Ended

  end_goes : (thread cost free : ℕ) → Decided ((after : State) × (IsEnd g s thread cost free after × (after.steps ≤ g.most_steps)))
  end_goes thread cost free = decided_by to from (closes_decided thread cost free (EndsAs thread) (λ world. ended_decided world.threads thread)) where
    to : InSegment (Closes thread cost free (EndsAs thread)) → (after : State) × (IsEnd g s thread cost free after × (after.steps ≤ g.most_steps))
    to (over, (segment, (under, (n, (small, (thread_is, (some, (possible, (world, (rests, ended)))))))))) = (
      rested g s segment end_node cost free n world [] s.past.keys,
      (
        record {
          segment = segment;
          steps = n;
          world = world;
          closed = record { not_over = over; under_way = under; rests = rests; thread_is = thread_is; some = some; possible = possible };
          ended = ended;
          after_is = refl;
        },
        may_be_taken n small,
      ),
    )

    from : (after : State) × (IsEnd g s thread cost free after × (after.steps ≤ g.most_steps)) → InSegment (Closes thread cost free (EndsAs thread))
    from (after, (e, most)) =
        let c = e.closed in
        (c.not_over, (e.segment, (c.under_way, (e.steps, (is_left e.steps after.steps (ap (λ (x : State). x.steps) e.after_is) most, (c.thread_is, (c.some, (c.possible, (e.world, (c.rests, e.ended))))))))))

  -- ---- the end

  may_stop_decided : Decided (MayStop g s)
  may_stop_decided = either_decided (bool_same (is_some s.segment) true) (either_decided (done_decided g.policy (seen_of s)) (either_decided (idle_decided g.policy (seen_of s)) (some_bad_decided g.policy (seen_of s))))

  edge_goes : (from to count : ℕ) (cost : ℤ) (changes : List ℤ) → Decided (GoesOn (Entry.Edge from to count cost changes))
  edge_goes from to count cost changes =
      decided_by
      (λ (h : MayStop g s × ((rest : List Entry) × (edges_left g s s.end ≡ Entry.Edge from to count cost changes ∷ rest))). (
        record s { end = Edges h.1.0 },
        (record { may_stop = h.0; rest = h.1.0; first = h.1.1; after_is = refl }, within),
      ))
      (λ e. (e.1.0.may_stop, (e.1.0.rest, e.1.0.first)))
      (both_decided may_stop_decided (first_decided from to count cost changes (edges_left g s s.end)))

  abbrev Stops : StopLine → Type 0
  Stops line = (s.end ≢ Stopped) × ((edges_left g s s.end ≡ []) × Below (λ n. StopsBy g s line n) left)

  stop_goes : (line : StopLine) → Decided ((after : State) × (IsStop g s line after × (after.steps ≤ g.most_steps)))
  stop_goes line =
      decided_by to from
      (both_decided (denied (stopped_decided s.end)) (both_decided (none_left_decided (edges_left g s s.end)) (below_decided (λ n. StopsBy g s line n) (stop_decided g s line) left)))
    where
      to : Stops line → (after : State) × (IsStop g s line after × (after.steps ≤ g.most_steps))
      to (first, (edges, (n, (small, stops)))) = (
        record s { segment = None; steps = s.steps + n; end = Stopped },
        (record { first = first; edges_over = edges; steps = n; stops = stops; after_is = refl }, may_be_taken n small),
      )

      from : (after : State) × (IsStop g s line after × (after.steps ≤ g.most_steps)) → Stops line
      from (after, (p, most)) = (p.first, (p.edges_over, (p.steps, (is_left p.steps after.steps (ap (λ (x : State). x.steps) p.after_is) most, p.stops))))

  -- ---- every line

  pub goes_decided : (entry : Entry) → Decided (GoesOn entry)
  goes_decided (Entry.Event clock item) = coming_decided clock item false
  goes_decided (Entry.Dropped clock item) = coming_decided clock item true
  goes_decided (Entry.Run clock thread node) = run_decided clock thread node
  goes_decided (Entry.Out thread value) = out_goes thread value
  goes_decided (Entry.Block thread node key cost free) = block_goes thread node key cost free
  goes_decided (Entry.End thread cost free) = end_goes thread cost free
  goes_decided (Entry.Edge from to count cost changes) = edge_goes from to count cost changes
  goes_decided (Entry.Stop line) = stop_goes line

  -- ---- steps

  stop_needs : (segment : Segment) (stop : Stop) (n : ℕ) → Decided (StopNeeds g segment stop n)
  stop_needs segment (Stop.Trap kind) n = comes_decided g.program g.policy.caps segment.here n
  stop_needs segment Stop.Threads n = either_decided (crowded_decided g.program g.policy.caps segment.here n) (comes_decided g.program g.policy.caps segment.here n)
  stop_needs segment _ n = number_same n 0

  needs_decided : (segment : Segment) (entry : Entry) (n : ℕ) → Decided (Needs g segment entry n)
  needs_decided segment (Entry.Out thread value) n = comes_decided g.program g.policy.caps segment.here n
  needs_decided segment (Entry.Block thread node key cost free) n = comes_decided g.program g.policy.caps segment.here n
  needs_decided segment (Entry.End thread cost free) n = comes_decided g.program g.policy.caps segment.here n
  needs_decided segment (Entry.Stop (StopLine.Cut thread stop cost free)) n = stop_needs segment stop n
  needs_decided segment _ n = number_same n 0

  abbrev AreBeyond : Entry → Segment → Type 0
  AreBeyond entry segment = (n : ℕ) → Needs g segment entry n → g.most_steps < s.steps + n

  beyond_in : (entry : Entry) (segment : Segment) → Decided (Below (Needs g segment entry) left) → Decided (AreBeyond entry segment)
  beyond_in entry segment (inl b) = inr (λ all. let most = may_be_taken b.0 b.1.0 in let more = all b.0 b.1.1 in omega (arith, most, more))
  beyond_in entry segment (inr none) = inl (λ n needs.
      ⊎_elim (λ (h : g.most_steps < s.steps + n). h) (λ (h : s.steps + n ≤ g.most_steps). absurd (none (n, (is_left n (s.steps + n) refl h, needs)))) (cases_lt g.most_steps (s.steps + n)))

  pub beyond_decided : (entry : Entry) → Decided (IsBeyond g s entry)
  beyond_decided entry =
      decided_by (λ (h : (segment : Segment) × ((s.segment ≡ Some segment) × AreBeyond entry segment)). record { segment = h.0; under_way = h.1.0; beyond = h.1.1 }) (λ b. (b.segment, (b.under_way, b.beyond)))
      (held_decided (AreBeyond entry) s.segment (λ segment e. beyond_in entry segment (below_decided (Needs g segment entry) (needs_decided segment entry) left)))

  pub is_stopped_decided : Decided (s.end ≡ Stopped)
  is_stopped_decided = stopped_decided s.end
