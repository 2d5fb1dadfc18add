-- The end of a segment, in a lawful log and in its reading.
use Rattle.audited_logs.proofs.Common.{◌≡◌, ℕ, ◌+◌, ◌-◌, List, [], ◌∷◌, ◌++◌, length, None, refl, sym, ap, ◌∙◌, subst, arith, keys_with, Goes, Stops, lowered, SegmentMove, Rested, RunsTo, IsWellScoped, IsValid, Waiter, uses_in, changes, newcomers, end_node, with_segment, free_count, free_bounded, checked_of, Setup, chunks_of, IsPossible, World, with_puts, StandsSettled, given_of}
use Rattle.c_mean.specs.World as source
use Rattle.c_mean.proofs.WorldLemmas.{one_run}
use Rattle.choice_rules.specs.SourceRuns as rules
use Rattle.lawful_log.specs.Segments as log
use Rattle.lawful_log.specs.State.{Segment, State, held_chunks}
use Rattle.lawful_reading.specs.Segments as reading
use Rattle.lawful_reading.specs.State as reading_state
use Rattle.audited_logs.proofs.Beside.{Holds, Runs, IsAt, Position, Between, Within, between_at, between_of, within_of, segment_of, not_both, same_segment}
use Rattle.audited_logs.proofs.Cuts.{Rest, begun_by, moved_from, rests_next}
use Rattle.audited_logs.proofs.Fitting.{Ran}
use Rattle.audited_logs.proofs.Outs.{number_at}
use Rattle.audited_logs.proofs.Quiet.{Over, quiet_on, blocks_on, ends_on}

-- ---- what may be printed

pub possible : (g : Setup) (most : ℕ) (b : reading_state.State) (w : World) (cost free : ℕ) → Holds g w → b.cost + cost ≡ w.cost → free ≡ free_count w.areas.pool → IsPossible (given_of g most) b cost free
possible g most b w cost free holds cost_is free_is = record {
  fuel = (let spent = holds.formed.cost in omega (arith, spent, cost_is));
  chunks = (let few = free_bounded w.areas.pool holds.formed.areas.pool in let count = holds.count in omega (arith, few, count, free_is));
}

-- ---- the source's run

-- from a cut the run of the thread rests, if it puts no more
pub next_rest : (g : Setup) (start : source.World) (number : ℕ) (puts : List ℕ) (here : source.Segment) (rested : Rested) → IsAt g start number puts here → RunsTo g.program g.policy.caps start number rested →
    rested.world.outputs ≡ with_puts start number puts → Rest g.program g.policy.caps here rested
next_rest g start number puts here rested at run outputs =
    let from = begun_by g.program g.policy.caps start number at.cut.0 (let move : SegmentMove = Goes here in move) at.cut.1 in
    let there = moved_from g.program g.policy.caps start number run.0 from.first (let move : SegmentMove = Stops rested in move) from.begins run.1 in
    rests_next g.program g.policy.caps at.cut.0 run.0 from.first here rested from.moved there (outputs ∙ sym at.outputs)

-- ---- the state after a segment

module _ (g : Setup) (most : ℕ) (before : State) (segment : Segment) (machine : World) (world : source.World) (clock cost held steps : ℕ) (here : source.Segment) where
  abbrev b : reading_state.State
  b = within_of before clock cost held (segment_of segment here) steps

  -- where the clock, the cost and the held chunks are these
  abbrev rested_at : ℕ → ℕ → (ℕ → List Waiter) → List (List ℕ) → ℕ → (clk cst now : ℕ) → reading_state.State
  rested_at node taken joining keys total clk cst now =
      let uses : List ℕ = uses_in now world.exchange in
      between_at clk cst now world before.trace (before.waiting ++ newcomers before.source (length world.threads) ++ joining clk)
      (with_segment before.past keys (record { from = segment.node; to = node; cost = taken; change = changes segment.uses uses }) uses) total

  pub rested_is : (node taken free more : ℕ) (joining : ℕ → List Waiter) (keys : List (List ℕ)) → Holds g machine → StandsSettled (checked_of g) g.program machine world → machine.clock ≡ clock + taken → machine.cost ≡ cost + taken → free ≡ free_count machine.areas.pool →
      Position g (log.rested before segment node taken machine world (joining machine.clock) keys) (reading.rested (given_of g most) b (segment_of segment here) node taken free more world (joining (clock + taken)) keys)
  rested_is node taken free more joining keys holds stands clock_is cost_is free_is =
      let all = chunks_of (given_of g most) in
      let count_is : all ≡ machine.areas.pool.count = (let count = holds.count in omega (arith, count)) in
      let held_is : all - free ≡ held_chunks machine = ap (λ (n : ℕ). n - free) count_is ∙ ap (λ (n : ℕ). machine.areas.pool.count - n) free_is in
      let is : reading.rested (given_of g most) b (segment_of segment here) node taken free more world (joining (clock + taken)) keys ≡ between_of (log.rested before segment node taken machine world (joining machine.clock) keys) (steps + more) =
      ap (λ (n : ℕ). rested_at node taken joining keys (steps + more) n (cost + taken) (all - free)) (sym clock_is)
      ∙ ap (λ (n : ℕ). rested_at node taken joining keys (steps + more) machine.clock n (all - free)) (sym cost_is)
      ∙ ap (λ (n : ℕ). rested_at node taken joining keys (steps + more) machine.clock machine.cost n) held_is in
      Between (record { none = refl; holds = holds; stands = stands }) is

-- ---- the segment that ends

-- the line is closed in the reading, and how the machine and the source stand then
pub record Closed (g : Setup) (most : ℕ) (before : State) (segment : Segment) (machine : World) (world : source.World) (clock cost held steps : ℕ) (here : source.Segment) (thread taken free : ℕ) : Type 0 where
  pub more : ℕ
  pub closed : reading.IsClosed (given_of g most) (within_of before clock cost held (segment_of segment here) steps) thread taken free more (segment_of segment here) world
  pub holds : Holds g machine
  pub stands : StandsSettled (checked_of g) g.program machine world
  pub clock_is : machine.clock ≡ clock + taken
  pub cost_is : machine.cost ≡ cost + taken
  pub ran : Ran (given_of g most) (within_of before clock cost held (segment_of segment here) steps) thread world taken

pub closes : (g : Setup) (scoped : IsWellScoped g.program) (valid : IsValid (lowered g.program) g.image g.certificate) (most : ℕ) (before : State) (segment : Segment) (machine : World) (world : source.World) (clock cost held steps : ℕ) (here : source.Segment)
    (thread taken free spent : ℕ) → Over g scoped valid before.source segment.thread segment.puts clock cost spent machine → IsAt g before.source segment.thread segment.puts here → rules.HasRun g.program g.policy.caps before.source segment.thread segment.puts None world →
    thread ≡ segment.thread → taken ≡ spent + 1 → free ≡ free_count machine.areas.pool → Closed g most before segment machine world clock cost held steps here thread taken free
closes g scoped valid most before segment machine world clock cost held steps here thread taken free spent over at run thread_is taken_is free_is =
    let rest = next_rest g before.source segment.thread segment.puts here (record { trap = None; world = world }) at run.runs run.puts in
    let worlds : over.finished.0 ≡ world = ap (λ (r : Rested). r.world) (one_run g.program g.policy.caps before.source segment.thread (record { trap = None; world = over.finished.0 }) (record { trap = None; world = world }) over.finished.1.runs run.runs) in
    let clock_is : machine.clock ≡ clock + taken = (let e = over.clock_is in omega (arith, e, taken_is)) in
    let cost_is : machine.cost ≡ cost + taken = (let e = over.cost_is in omega (arith, e, taken_is)) in
    record {
      more = rest.steps;
      closed = record {
        not_over = refl;
        under_way = refl;
        rests = rest.is;
        thread_is = thread_is ∙ sym (number_at g before.source segment.thread segment.puts here at);
        some = omega (arith, taken_is);
        possible = possible g most (within_of before clock cost held (segment_of segment here) steps) machine taken free over.holds (sym cost_is) free_is;
      };
      holds = over.holds;
      stands = subst (StandsSettled (checked_of g) g.program machine) worlds over.finished.2;
      clock_is = clock_is;
      cost_is = cost_is;
      ran = record {
        runs = subst (λ (n : ℕ). RunsTo g.program g.policy.caps before.source n (record { trap = None; world = world })) (sym thread_is) run.runs;
        few = (let next = over.finished.2.stands.next in let many = over.holds.formed.next in let same : length over.finished.0.threads ≡ length world.threads = ap (λ (w : source.World). length w.threads) worlds in omega (arith, next, many, same, cost_is));
      };
    }

-- ---- `block`

pub record Blocked (g : Setup) (most : ℕ) (b : reading_state.State) (thread node : ℕ) (key : List ℕ) (cost free : ℕ) (after : State) : Type 0 where
  pub now : reading_state.State
  pub block : reading.IsBlock (given_of g most) b thread node key cost free now
  pub ran : Ran (given_of g most) b thread block.world cost
  pub position : Position g after now

module _ (g : Setup) (scoped : IsWellScoped g.program) (valid : IsValid (lowered g.program) g.image g.certificate) (most : ℕ) (before after : State) where
  module _ (thread node : ℕ) (key : List ℕ) (taken free : ℕ) (is : log.IsBlock g before thread node key taken free after) where
    block_within : (clock cost held steps : ℕ) (here : source.Segment) → Runs g before.source is.segment.thread is.segment.puts clock cost is.segment.cost before.machine →
        IsAt g before.source is.segment.thread is.segment.puts here → Blocked g most (within_of before clock cost held (segment_of is.segment here) steps) thread node key taken free after
    block_within clock cost held steps here runs at =
        let quiet = quiet_on g scoped valid before.source is.segment.thread is.segment.puts clock cost is.steps is.segment.cost before.machine is.here runs is.way.quiet in
        let over = blocks_on g scoped valid before.source is.segment.thread is.segment.puts clock cost (is.segment.cost + is.steps) is.here is.machine quiet is.blocks in
        let closed = closes g scoped valid most before is.segment is.machine is.world clock cost held steps here thread taken free (is.segment.cost + is.steps) over at is.run is.thread_is is.cost_is is.free_is in
        let joining : ℕ → List Waiter = λ since. record { thread = thread; node = node; since = since } ∷ [] in
        let now = reading.rested (given_of g most) (within_of before clock cost held (segment_of is.segment here) steps) (segment_of is.segment here) node taken free closed.more is.world (joining (clock + taken)) (keys_with before.past.keys key) in
        record {
          now = now;
          block = record {
            segment = segment_of is.segment here;
            steps = closed.more;
            world = is.world;
            closed = closed.closed;
            block = is.block;
            waiting = is.waiting;
            blocked = is.rests;
            key_is = is.key_is;
            node_is = is.node_is;
            after_is = refl;
          };
          ran = closed.ran;
          position = subst (λ (a : State). Position g a now) (sym is.after_is)
              (rested_is g most before is.segment is.machine is.world clock cost held steps here node taken free closed.more joining (keys_with before.past.keys key) closed.holds closed.stands closed.clock_is closed.cost_is is.free_is);
        }

    pub blocked : (b : reading_state.State) → Position g before b → Blocked g most b thread node key taken free after
    blocked b (Between rests b_is) = absurd (not_both before is.segment rests.none is.way.under_way)
    blocked b (Within segment clock cost held here under runs at b_is) =
        let same = same_segment before segment is.segment under is.way.under_way in
        subst (λ (x : reading_state.State). Blocked g most x thread node key taken free after) (sym (b_is ∙ ap (λ (x : Segment). within_of before clock cost held (segment_of x here) b.steps) same))
        (block_within clock cost held b.steps here
        (subst (λ (x : Segment). Runs g before.source x.thread x.puts clock cost x.cost before.machine) same runs)
        (subst (λ (x : Segment). IsAt g before.source x.thread x.puts here) same at))

-- ---- `end`

pub record Ended (g : Setup) (most : ℕ) (b : reading_state.State) (thread cost free : ℕ) (after : State) : Type 0 where
  pub now : reading_state.State
  pub end : reading.IsEnd (given_of g most) b thread cost free now
  pub ran : Ran (given_of g most) b thread end.world cost
  pub position : Position g after now

module _ (g : Setup) (scoped : IsWellScoped g.program) (valid : IsValid (lowered g.program) g.image g.certificate) (most : ℕ) (before after : State) where
  module _ (thread taken free : ℕ) (is : log.IsEnd g before thread taken free after) where
    end_within : (clock cost held steps : ℕ) (here : source.Segment) → Runs g before.source is.segment.thread is.segment.puts clock cost is.segment.cost before.machine →
        IsAt g before.source is.segment.thread is.segment.puts here → Ended g most (within_of before clock cost held (segment_of is.segment here) steps) thread taken free after
    end_within clock cost held steps here runs at =
        let quiet = quiet_on g scoped valid before.source is.segment.thread is.segment.puts clock cost is.steps is.segment.cost before.machine is.here runs is.way.quiet in
        let over = ends_on g scoped valid before.source is.segment.thread is.segment.puts clock cost (is.segment.cost + is.steps) is.here is.machine quiet is.ends in
        let closed = closes g scoped valid most before is.segment is.machine is.world clock cost held steps here thread taken free (is.segment.cost + is.steps) over at is.run is.thread_is is.cost_is is.free_is in
        let joining : ℕ → List Waiter = λ since. [] in
        let now = reading.rested (given_of g most) (within_of before clock cost held (segment_of is.segment here) steps) (segment_of is.segment here) end_node taken free closed.more is.world [] before.past.keys in
        record {
          now = now;
          end = record { segment = segment_of is.segment here; steps = closed.more; world = is.world; closed = closed.closed; ended = is.rests; after_is = refl };
          ran = closed.ran;
          position = subst (λ (a : State). Position g a now) (sym is.after_is)
              (rested_is g most before is.segment is.machine is.world clock cost held steps here end_node taken free closed.more joining before.past.keys closed.holds closed.stands closed.clock_is closed.cost_is is.free_is);
        }

    pub ended : (b : reading_state.State) → Position g before b → Ended g most b thread taken free after
    ended b (Between rests b_is) = absurd (not_both before is.segment rests.none is.way.under_way)
    ended b (Within segment clock cost held here under runs at b_is) =
        let same = same_segment before segment is.segment under is.way.under_way in
        subst (λ (x : reading_state.State). Ended g most x thread taken free after) (sym (b_is ∙ ap (λ (x : Segment). within_of before clock cost held (segment_of x here) b.steps) same))
        (end_within clock cost held b.steps here
        (subst (λ (x : Segment). Runs g before.source x.thread x.puts clock cost x.cost before.machine) same runs)
        (subst (λ (x : Segment). IsAt g before.source x.thread x.puts here) same at))
