-- The stop, in a lawful log and in its reading, and the edges before it.
use Rattle.audited_logs.proofs.Common.{◌≡◌, ℕ, ◌+◌, ◌-◌, ◌<◌, ◌≤◌, false, List, length, Some, refl, sym, ap, ◌∙◌, subst, arith, ⊎_elim, cases_lt, Goes, moves, Stop, goes_on, lowered, SegmentMove, segment_machine, IsWellScoped, IsValid, Seen, IsDone, IsBadTrace, IsIdle, checked_of, Setup, setting_of, IsCause, StopsBy, IsCrowdedNext, live_in, World, StopLine, given_of}
use Rattle.c_mean.specs.World as source
use Rattle.lawful_log.specs.State.{Segment, State, seen_of}
use Rattle.lawful_log.specs.Stops as log
use Rattle.lawful_reading.specs.State as reading_state
use Rattle.audited_logs.proofs.Begun.{begins, still_lives, StillLives}
use Rattle.audited_logs.proofs.Beside.{Runs, IsAt, Position, Between, Within, within_of, segment_of, same_seen, not_both, not_within, same_segment}
use Rattle.audited_logs.proofs.Cuts.{begun_by, moved_from, later_moves}
use Rattle.audited_logs.proofs.Live.{live_within}
use Rattle.audited_logs.proofs.Outs.{number_at}
use Rattle.audited_logs.proofs.Policies.{idle_read}
use Rattle.audited_logs.proofs.Quiet.{quiet_on}
use Rattle.audited_logs.proofs.Resting.{possible, next_rest}
use Rattle.audited_logs.proofs.Steps.{keeps_moves}
use Rattle.audited_logs.proofs.Stopping.{crowded, fuel_spent}

-- the line's stop in the reading
pub record StopsAs (g : Setup) (most : ℕ) (b : reading_state.State) (line : StopLine) : Type 0 where
  pub steps : ℕ
  pub stops : StopsBy (given_of g most) b line steps

-- ---- at a choice point

point_stops : (g : Setup) (most : ℕ) (last : State) (b : reading_state.State) (P : Seen → Type 0) → ((seen : Seen) → P seen → seen.under_way ≡ false) → Position g last b → P (seen_of last) → P (reading_state.seen_of b)
point_stops g most last b P between (Between rests b_is) is =
    subst (λ (x : reading_state.State). P (reading_state.seen_of x)) (sym b_is) (subst P (same_seen g last b.steps rests) is)
point_stops g most last b P between (Within segment clock cost held here under runs at b_is) is = absurd (not_within last segment under (between (seen_of last) is))

-- ---- within a segment

module _ (g : Setup) (scoped : IsWellScoped g.program) (valid : IsValid (lowered g.program) g.image g.certificate) (most : ℕ) where
  -- the source's run is at a start where as many threads live as may
  record Crowds (here : source.Segment) : Type 0 where
    steps : ℕ
    is : IsCrowdedNext g.program g.policy.caps here steps

  crowds : (start : source.World) (number : ℕ) (puts : List ℕ) (clock cost spent : ℕ) (w : World) (here : source.Segment) → Runs g start number puts clock cost spent w → IsAt g start number puts here →
      Rattle.machine_world.specs.Threads.step (setting_of g) w ≡ Rattle.machine_world.specs.Threads.Stops Stop.Threads → Crowds here
  crowds start number puts clock cost spent w here runs at e =
      let r = runs.reached in
      let crowd = crowded g.program g.image g.certificate scoped valid (setting_of g) refl start number puts w runs.holds.formed r e in
      let from = begun_by g.program g.policy.caps start number at.cut.0 (let move : SegmentMove = Goes here in move) at.cut.1 in
      let there = moved_from g.program g.policy.caps start number r.steps from.first (let move : SegmentMove = Goes r.segment in move) from.begins r.comes in
      let same : r.segment.world.outputs ≡ here.world.outputs = r.outputs ∙ sym at.outputs in
      let behind : at.cut.0 ≤ r.steps = ⊎_elim
      (λ (h : r.steps < at.cut.0).
      let few = at.cut.3 r.steps h r.segment r.comes in
      let count = at.cut.2 in
      let long : length r.segment.world.outputs ≡ length here.world.outputs = ap length same in
      absurd (omega (arith, few, count, long)))
      (λ (h : at.cut.0 ≤ r.steps). h)
      (cases_lt r.steps at.cut.0) in
      let count : at.cut.0 + (r.steps - at.cut.0) ≡ r.steps = omega (arith, behind) in
      let on : moves (segment_machine g.program g.policy.caps) (r.steps - at.cut.0) here ≡ Goes r.segment = later_moves g.program g.policy.caps at.cut.0 r.steps (r.steps - at.cut.0) from.first here (let move : SegmentMove = Goes r.segment in move) from.moved there count in
      let all : moves (segment_machine g.program g.policy.caps) ((r.steps - at.cut.0) + crowd.comes.before) here ≡ Goes crowd.comes.here =
      goes_on (segment_machine g.program g.policy.caps) (r.steps - at.cut.0) crowd.comes.before here r.segment on ∙ crowd.comes.moved in
      let lives : StillLives r.segment r.segment.number =
      subst (StillLives r.segment) (sym r.of_thread) (still_lives start number from.first r.segment (begins g.program g.policy.caps start number from.first from.begins) (keeps_moves g.program g.policy.caps r.steps from.first r.segment there)) in
      let live = live_within (checked_of g) g.program (setting_of g) w r.segment runs.holds.formed.counted.numbered r.under_way lives in
      let as_many : length w.threads ≡ 65535 = (let full = crowd.full in let few = runs.holds.few in omega (arith, full, few)) in
      record {
        steps = (r.steps - at.cut.0) + crowd.comes.before;
        is = record {
          here = crowd.comes.here;
          silent = record { moved = all; outputs = ap (λ (world : source.World). world.outputs) crowd.comes.world ∙ same };
          live = ap live_in crowd.comes.world ∙ sym live ∙ as_many;
          after = crowd.comes.after;
          starts = crowd.comes.starts;
          one_more = crowd.comes.one_more;
        };
      }

  -- why a segment is cut, in the reading
  record Causes (b : reading_state.State) (segment : reading_state.Segment) (stop : Stop) (cost : ℕ) : Type 0 where
    steps : ℕ
    cause : IsCause (given_of g most) b segment stop cost steps

  module _ (last : State) (thread : ℕ) (stop : Stop) (taken free : ℕ) (end : World) (is : log.IsStopped g last thread stop taken free end) (clock cost held total : ℕ) (here : source.Segment)
      (runs : Runs g last.source is.segment.thread is.segment.puts clock cost is.segment.cost last.machine) (at : IsAt g last.source is.segment.thread is.segment.puts here) where
    abbrev b : reading_state.State
    b = within_of last clock cost held (segment_of is.segment here) total

    quiet : Runs g last.source is.segment.thread is.segment.puts clock cost (is.segment.cost + is.steps) end
    quiet = quiet_on g scoped valid last.source is.segment.thread is.segment.puts clock cost is.steps is.segment.cost last.machine end runs is.way.quiet

    cost_now : cost + taken ≡ end.cost
    cost_now = let e = quiet.cost_is in let t = is.cost_is in omega (arith, e, t)

    cause_by : (why : Stop) → Rattle.machine_world.specs.Threads.step (setting_of g) end ≡ Rattle.machine_world.specs.Threads.Stops why → log.IsCutBy g last is.segment why → Causes b (segment_of is.segment here) why taken
    cause_by (Stop.Trap kind) e cut =
        let rest = next_rest g last.source is.segment.thread is.segment.puts here (record { trap = Some kind; world = cut.0 }) at cut.1.runs cut.1.puts in
        record { steps = rest.steps; cause = (record { trap = Some kind; world = cut.0 }, rest.is, refl) }
    cause_by Stop.NoChunk e cut = record { steps = 0; cause = refl }
    cause_by Stop.Fuel e cut =
        let r = quiet.reached in
        record { steps = 0; cause = (cost_now ∙ fuel_spent (setting_of g) end r.segment.number r.under_way.thread r.under_way.running r.under_way.live e, refl) }
    cause_by Stop.Threads e cut =
        let crowd = crowds last.source is.segment.thread is.segment.puts clock cost (is.segment.cost + is.steps) end here quiet at e in
        record { steps = crowd.steps; cause = crowd.is }

    pub cut_stops : StopsAs g most b (StopLine.Cut thread stop taken free)
    cut_stops =
        let cause = cause_by stop is.stops is.puts in
        record {
          steps = cause.steps;
          stops = record {
            segment = segment_of is.segment here;
            under_way = refl;
            thread_is = is.thread_is ∙ sym (number_at g last.source is.segment.thread is.segment.puts here at);
            possible = possible g most b end taken free quiet.holds cost_now is.free_is;
            cause = cause.cause;
          };
        }

  cut_at : (last : State) (thread : ℕ) (stop : Stop) (taken free : ℕ) (end : World) → log.IsStopped g last thread stop taken free end → (b : reading_state.State) → Position g last b → StopsAs g most b (StopLine.Cut thread stop taken free)
  cut_at last thread stop taken free end is b (Between rests b_is) = absurd (not_both last is.segment rests.none is.way.under_way)
  cut_at last thread stop taken free end is b (Within segment clock cost held here under runs at b_is) =
      let same = same_segment last segment is.segment under is.way.under_way in
      subst (λ (x : reading_state.State). StopsAs g most x (StopLine.Cut thread stop taken free)) (sym (b_is ∙ ap (λ (x : Segment). within_of last clock cost held (segment_of x here) b.steps) same))
      (cut_stops last thread stop taken free end is clock cost held b.steps here
      (subst (λ (x : Segment). Runs g last.source x.thread x.puts clock cost x.cost last.machine) same runs)
      (subst (λ (x : Segment). IsAt g last.source x.thread x.puts here) same at))

  -- ---- each stop

  pub stops_as : (last : State) (line : StopLine) (end : World) → log.IsStop g last line end → (b : reading_state.State) → Position g last b → StopsAs g most b line
  stops_as last StopLine.Done end is b at = record { steps = 0; stops = (point_stops g most last b IsDone (λ seen done. done.between) at is.0, refl) }
  stops_as last StopLine.Idle end is b at = record { steps = 0; stops = (idle_read g.policy (reading_state.seen_of b) (point_stops g most last b (IsIdle g.policy) (λ seen idle. idle.between) at is.0), refl) }
  stops_as last (StopLine.Trace line) end is b at = record { steps = 0; stops = (point_stops g most last b (λ (seen : Seen). IsBadTrace seen line) (λ seen bad. bad.between) at is.0, refl) }
  stops_as last (StopLine.Cut thread stop cost free) end is b at = cut_at last thread stop cost free end is b at
