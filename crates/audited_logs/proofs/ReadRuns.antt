-- The source's run of the thread whose segment is under way, as the lines of a log are read: it has come to where the last output was put.
use Rattle.audited_logs.proofs.Common.{◌≡◌, ℕ, ◌+◌, ◌-◌, ◌<◌, ◌≤◌, List, [], ◌∷◌, length, Option, Some, refl, sym, ap, ◌∙◌, subst, arith, length-append, ⊎_elim, slice_get, cases_lt, none-some, same_Some, Goes, Stops, and_then, moves, goes_on, ProgramTree, Rest, SegmentMove, Rested, begun, begun_at, segment_step, segment_machine, IsCutAt, RunsTo, Fresh, Blocked, PutsNext, RestsNext}
use Rattle.c_mean.specs.World as source
use Rattle.audited_logs.proofs.Cuts.{later_moves, moved_from, moves_from}
use Rattle.audited_logs.proofs.Steps.{grows, keeps_moves, keeps_step}

-- a thread begins under its own number, and puts nothing by that
record Begins (world : source.World) (number : ℕ) (here : source.Segment) : Type 0 where
  pub number_is : here.number ≡ number
  pub outputs : here.world.outputs ≡ world.outputs

begins_at : (program : ProgramTree) (caps : List ℕ) (world : source.World) (number : ℕ) (rest : Option Rest) (here : source.Segment) → begun_at program caps world number rest ≡ Some here → Begins world number here
begins_at program caps world number (Some (Fresh function arguments)) here e = subst (Begins world number) (same_Some _ here e) (record { number_is = refl; outputs = refl })
begins_at program caps world number (Some (Blocked block waiting)) here e = subst (Begins world number) (same_Some _ here e) (record { number_is = refl; outputs = refl })
begins_at program caps world number _ here e = absurd (none-some here e)

module _ (program : ProgramTree) (caps : List ℕ) where
  -- so many steps of the thread's run have led here, and no fewer put as many values
  pub record IsUnderWay (world : source.World) (here : source.Segment) : Type 0 where
    pub first : source.Segment
    pub steps : ℕ
    pub puts : ℕ
    pub begins : begun program caps world here.number ≡ Some first
    pub moved : moves (segment_machine program caps) steps first ≡ Goes here
    pub long : length here.world.outputs ≡ length world.outputs + puts
    pub least : (n : ℕ) → n < steps → (earlier : source.Segment) → moves (segment_machine program caps) n first ≡ Goes earlier → length earlier.world.outputs < length world.outputs + puts

  -- it begins so
  first_of : (world : source.World) (thread : ℕ) (here : source.Segment) → begun program caps world thread ≡ Some here → Begins world thread here
  first_of world thread here e = begins_at program caps world thread (slice_get world.threads thread) here e

  pub at_first : (world : source.World) (thread : ℕ) (here : source.Segment) → begun program caps world thread ≡ Some here → IsUnderWay world here
  at_first world thread here e =
      let is = first_of world thread here e in
      let same : length here.world.outputs ≡ length world.outputs = ap length is.outputs in
      record {
        first = here;
        steps = 0;
        puts = 0;
        begins = ap (λ (n : ℕ). begun program caps world n) is.number_is ∙ e;
        moved = refl;
        long = omega (arith, same);
        least = λ n below earlier moved. absurd (omega (arith, below));
      }

  pub outputs_at_first : (world : source.World) (thread : ℕ) (here : source.Segment) → begun program caps world thread ≡ Some here → here.world.outputs ≡ world.outputs
  outputs_at_first world thread here e = let is = first_of world thread here e in is.outputs

  -- one step more
  one_step : (here next : source.Segment) → segment_step program caps here ≡ Goes next → moves (segment_machine program caps) 1 here ≡ Goes next
  one_step here next e = ap (λ (m : SegmentMove). and_then m (moves (segment_machine program caps) 0)) e

  one_stop : (here : source.Segment) (rested : Rested) → segment_step program caps here ≡ Stops rested → moves (segment_machine program caps) 1 here ≡ Stops rested
  one_stop here rested e = ap (λ (m : SegmentMove). and_then m (moves (segment_machine program caps) 0)) e

  -- within the steps up to an output no more has been put
  few_before : (world : source.World) (here : source.Segment) (at : IsUnderWay world here) (steps word : ℕ) (after : source.Segment) (put : PutsNext program caps here steps word after) (n : ℕ) → n < at.steps + steps → (earlier : source.Segment) →
      moves (segment_machine program caps) n at.first ≡ Goes earlier → length earlier.world.outputs ≤ length world.outputs + at.puts
  few_before world here at steps word after put n below earlier moved =
      let long = at.long in
      ⊎_elim
      (λ (h : n < at.steps). let less = at.least n h earlier moved in omega (arith, less))
      (λ (h : at.steps ≤ n).
      let is = put.steps_is in
      let from : moves (segment_machine program caps) (n - at.steps) here ≡ Goes earlier = later_moves program caps at.steps n (n - at.steps) at.first here (Goes earlier) at.moved moved (omega (arith, h)) in
      let rest : moves (segment_machine program caps) (put.before - (n - at.steps)) earlier ≡ Goes put.here =
      later_moves program caps (n - at.steps) put.before (put.before - (n - at.steps)) here earlier (Goes put.here) from put.silent.moved (omega (arith, h, below, is)) in
      let few = grows earlier put.here (keeps_moves program caps (put.before - (n - at.steps)) earlier put.here rest) in
      let same : length put.here.world.outputs ≡ length here.world.outputs = ap length put.silent.outputs in
      omega (arith, few, same, long))
      (cases_lt n at.steps)

  -- up to its next output
  pub puts_on : (world : source.World) (here : source.Segment) (steps word : ℕ) (after : source.Segment) → IsUnderWay world here → PutsNext program caps here steps word after → IsUnderWay world after
  puts_on world here steps word after at put =
      let is = put.steps_is in
      let way : moves (segment_machine program caps) (put.before + 1) here ≡ Goes after =
      goes_on (segment_machine program caps) put.before 1 here put.here put.silent.moved ∙ one_step put.here after put.puts in
      let count : at.steps + (put.before + 1) ≡ at.steps + steps = omega (arith, is) in
      let moved : moves (segment_machine program caps) (at.steps + steps) at.first ≡ Goes after =
      ap (λ (n : ℕ). moves (segment_machine program caps) n at.first) (sym count) ∙ goes_on (segment_machine program caps) at.steps (put.before + 1) at.first here at.moved ∙ way in
      let kept = keeps_moves program caps (put.before + 1) here after way in
      let more : length after.world.outputs ≡ length here.world.outputs + 1 = ap length put.output ∙ length-append here.world.outputs ((here.number, word) ∷ []) in
      let long = at.long in
      record {
        first = at.first;
        steps = at.steps + steps;
        puts = at.puts + 1;
        begins = ap (λ (n : ℕ). begun program caps world n) kept.number ∙ at.begins;
        moved = moved;
        long = omega (arith, more, long);
        least = λ n below earlier there. let few = few_before world here at steps word after put n below earlier there in omega (arith, few);
      }

  -- to where it rests or traps
  pub rests_on : (world : source.World) (here : source.Segment) (steps : ℕ) (rested : Rested) → IsUnderWay world here → RestsNext program caps here steps rested → RunsTo program caps world here.number rested
  rests_on world here steps rested at rest =
      let way : moves (segment_machine program caps) (rest.before + 1) here ≡ Stops rested =
      goes_on (segment_machine program caps) rest.before 1 here rest.here rest.silent.moved ∙ one_stop rest.here rested rest.stops in
      let moved : moves (segment_machine program caps) (at.steps + (rest.before + 1)) at.first ≡ Stops rested = goes_on (segment_machine program caps) at.steps (rest.before + 1) at.first here at.moved ∙ way in
      (at.steps + (rest.before + 1), moves_from program caps world here.number (at.steps + (rest.before + 1)) at.first at.begins ∙ ap (λ (m : SegmentMove). Some m) moved)

  -- and then it has put what it had put before
  pub rested_outputs : (here : source.Segment) (steps : ℕ) (rested : Rested) → RestsNext program caps here steps rested → rested.world.outputs ≡ here.world.outputs
  rested_outputs here steps rested rest = keeps_step program caps rest.here (Stops rested) rest.stops ∙ rest.silent.outputs

  -- cut there, it has put what it has
  pub cut_there : (world : source.World) (here : source.Segment) (at : IsUnderWay world here) → IsCutAt program caps world here.number at.puts here
  cut_there world here at = (
    at.steps,
    moves_from program caps world here.number at.steps at.first at.begins ∙ ap (λ (m : SegmentMove). Some m) at.moved,
    at.long,
    λ n below earlier moved. at.least n below earlier (moved_from program caps world here.number n at.first (Goes earlier) at.begins moved),
  )
