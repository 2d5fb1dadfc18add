-- The source's run of a thread, cut at its outputs: what comes next after a cut.
use Rattle.audited_logs.proofs.Common.{◌≡◌, ℕ, zero, suc, ◌+◌, ◌-◌, ◌<◌, ◌≤◌, List, [], ◌∷◌, ◌++◌, length, Option, Some, None, refl, sym, ap, ◌∙◌, arith, length-append, ⊎_elim, option_map, cases_lt, Goes, Asks, Stops, and_then, moves, moves_add, goes_on, stops_stay, ProgramTree, PutsNext, RestsNext, same_next, same_end, not_both}
use Rattle.c_mean.specs.World as source
use Rattle.c_mean.specs.World.{Segment, SegmentMove, Rested, segment_step, segment_machine, begun, thread_moves}
use Rattle.audited_logs.proofs.Steps.{keeps_step, keeps_moves, grows, none_put}

none-not : (move : SegmentMove) → ◌≡◌ {A = Option SegmentMove} None (Some move) → ⊥
none-not move e = absurd (cc)

same_some : (a b : SegmentMove) → ◌≡◌ {A = Option SegmentMove} (Some a) (Some b) → a ≡ b
same_some a b e = cc

module _ (program : ProgramTree) (caps : List ℕ) where
  -- ---- steps one after another

  -- the last of some steps
  pub record LastStep (n : ℕ) (first last : Segment) : Type 0 where
    pub here : Segment
    pub moved : moves (segment_machine program caps) n first ≡ Goes here
    pub step : segment_step program caps here ≡ Goes last

  last_of : (n : ℕ) (first last here : Segment) (move : SegmentMove) → moves (segment_machine program caps) n first ≡ Goes here → segment_step program caps here ≡ move → and_then move (moves (segment_machine program caps) 0) ≡ Goes last → LastStep n first last
  last_of n first last here (Goes next) moved e k = record { here = here; moved = moved; step = e ∙ ap (λ (s : Segment). let m : SegmentMove = Goes s in m) (same_next next last k) }
  last_of n first last here (Asks question waiting) moved e k = absurd question
  last_of n first last here (Stops rested) moved e k = absurd (not_both rested last k)

  last_by : (n : ℕ) (first last : Segment) (move : SegmentMove) → moves (segment_machine program caps) n first ≡ move → and_then move (moves (segment_machine program caps) 1) ≡ Goes last → LastStep n first last
  last_by n first last (Goes here) moved k = last_of n first last here (segment_step program caps here) moved refl k
  last_by n first last (Asks question waiting) moved k = absurd question
  last_by n first last (Stops rested) moved k = absurd (not_both rested last k)

  pub last_step : (n : ℕ) (first last : Segment) → moves (segment_machine program caps) (n + 1) first ≡ Goes last → LastStep n first last
  last_step n first last e = last_by n first last (moves (segment_machine program caps) n first) refl (sym (moves_add (segment_machine program caps) n 1 first) ∙ e)

  -- the moves after some steps
  pub later_moves : (m n k : ℕ) (first here : Segment) (move : SegmentMove) → moves (segment_machine program caps) m first ≡ Goes here → moves (segment_machine program caps) n first ≡ move → m + k ≡ n → moves (segment_machine program caps) k here ≡ move
  later_moves m n k first here move moved e count =
      sym (goes_on (segment_machine program caps) m k first here moved) ∙ ap (λ (i : ℕ). moves (segment_machine program caps) i first) count ∙ e

  -- the first step that stops
  pub record FirstStop (n : ℕ) (first : Segment) (rested : Rested) : Type 0 where
    pub before : ℕ
    pub here : Segment
    pub moved : moves (segment_machine program caps) before first ≡ Goes here
    pub stops : segment_step program caps here ≡ Stops rested

  stop_later : (n : ℕ) (first next : Segment) (rested : Rested) → segment_step program caps first ≡ Goes next → FirstStop n next rested → FirstStop (suc n) first rested
  stop_later n first next rested e is =
      record { before = suc is.before; here = is.here; moved = ap (λ (v : SegmentMove). and_then v (moves (segment_machine program caps) is.before)) e ∙ is.moved; stops = is.stops }

  stop_by : (n : ℕ) (first : Segment) (rested : Rested) (move : SegmentMove) → segment_step program caps first ≡ move → ((next : Segment) → moves (segment_machine program caps) n next ≡ Stops rested → FirstStop n next rested) →
      and_then move (moves (segment_machine program caps) n) ≡ Stops rested → FirstStop (suc n) first rested
  stop_by n first rested (Goes next) e rest k = stop_later n first next rested e (rest next k)
  stop_by n first rested (Asks question waiting) e rest k = absurd question
  stop_by n first rested (Stops other) e rest k = record { before = 0; here = first; moved = refl; stops = e ∙ ap (λ (r : Rested). let m : SegmentMove = Stops r in m) (same_end other rested k) }

  pub first_stop : (n : ℕ) (first : Segment) (rested : Rested) → moves (segment_machine program caps) n first ≡ Stops rested → FirstStop n first rested
  first_stop zero first rested e = absurd (not_both rested first (sym e))
  first_stop (suc n) first rested e = stop_by n first rested (segment_step program caps first) refl (λ next k. first_stop n next rested k) e

  -- ---- what comes next

  pub record Put (cut : Segment) (word : ℕ) (next : Segment) : Type 0 where
    pub steps : ℕ
    pub is : PutsNext program caps cut steps word next

  -- the first moment with one output more than at a cut comes behind it
  cut_first : (m n : ℕ) (first cut next : Segment) → moves (segment_machine program caps) m first ≡ Goes cut → moves (segment_machine program caps) n first ≡ Goes next → length cut.world.outputs < length next.world.outputs → m < n
  cut_first m n first cut next moved e more = ⊎_elim (λ (h : m < n). h)
      (λ (h : n ≤ m).
      let back : moves (segment_machine program caps) (m - n) next ≡ Goes cut = later_moves n m (m - n) first next (Goes cut) e moved (omega (arith, h)) in
      let few = grows next cut (keeps_moves program caps (m - n) next cut back) in
      absurd (omega (arith, few, more)))
      (cases_lt m n)

  pub puts_next : (m n word : ℕ) (first cut next : Segment) → moves (segment_machine program caps) m first ≡ Goes cut → moves (segment_machine program caps) n first ≡ Goes next →
      next.world.outputs ≡ cut.world.outputs ++ (cut.number, word) ∷ [] →
      ((k : ℕ) → k < n → (earlier : Segment) → moves (segment_machine program caps) k first ≡ Goes earlier → length earlier.world.outputs < length next.world.outputs) → Put cut word next
  puts_next m n word first cut next moved e output least =
      let long : length next.world.outputs ≡ length cut.world.outputs + 1 = ap length output ∙ length-append cut.world.outputs ((cut.number, word) ∷ []) in
      let behind : m < n = cut_first m n first cut next moved e (omega (arith, long)) in
      let count : m + ((n - suc m) + 1) ≡ n = omega (arith, behind) in
      let last = last_step (n - suc m) cut next (later_moves m n ((n - suc m) + 1) first cut (Goes next) moved e count) in
      let there : moves (segment_machine program caps) (m + (n - suc m)) first ≡ Goes last.here = goes_on (segment_machine program caps) m (n - suc m) first cut moved ∙ last.moved in
      let few = least (m + (n - suc m)) (omega (arith, behind)) last.here there in
      record {
        steps = suc (n - suc m);
        is = record {
          before = n - suc m;
          here = last.here;
          silent = record { moved = last.moved; outputs = none_put cut last.here (keeps_moves program caps (n - suc m) cut last.here last.moved) (omega (arith, few, long)) };
          puts = last.step;
          output = output;
          steps_is = refl;
        };
      }

  pub record Rest (cut : Segment) (rested : Rested) : Type 0 where
    pub steps : ℕ
    pub is : RestsNext program caps cut steps rested

  pub rests_next : (m n : ℕ) (first cut : Segment) (rested : Rested) → moves (segment_machine program caps) m first ≡ Goes cut → moves (segment_machine program caps) n first ≡ Stops rested → rested.world.outputs ≡ cut.world.outputs → Rest cut rested
  rests_next m n first cut rested moved e outputs =
      let behind : m ≤ n = ⊎_elim
      (λ (h : n < m).
      let stay : moves (segment_machine program caps) (n + (m - n)) first ≡ Stops rested = stops_stay (segment_machine program caps) n (m - n) first rested e in
      let count : n + (m - n) ≡ m = omega (arith, h) in
      absurd (not_both rested cut (sym stay ∙ ap (λ (i : ℕ). moves (segment_machine program caps) i first) count ∙ moved)))
      (λ (h : m ≤ n). h)
      (cases_lt n m) in
      let stop = first_stop (n - m) cut rested (later_moves m n (n - m) first cut (Stops rested) moved e (omega (arith, behind))) in
      record {
        steps = suc stop.before;
        is = record {
          before = stop.before;
          here = stop.here;
          silent = record { moved = stop.moved; outputs = sym (keeps_step program caps stop.here (Stops rested) stop.stops) ∙ outputs };
          stops = stop.stops;
          steps_is = refl;
        };
      }

  -- ---- from where a thread rests

  pub record Begun (start : source.World) (number n : ℕ) (move : SegmentMove) : Type 0 where
    pub first : Segment
    pub begins : begun program caps start number ≡ Some first
    pub moved : moves (segment_machine program caps) n first ≡ move

  pub begun_by : (start : source.World) (number n : ℕ) (move : SegmentMove) → thread_moves program caps start number n ≡ Some move → Begun start number n move
  begun_by start number n move e = from (begun program caps start number) refl e where
    from : (o : Option Segment) → begun program caps start number ≡ o → option_map (moves (segment_machine program caps) n) o ≡ Some move → Begun start number n move
    from None is k = absurd (none-not move k)
    from (Some first) is k = record { first = first; begins = is; moved = same_some (moves (segment_machine program caps) n first) move k }

  -- all of its moves are from there
  pub moved_from : (start : source.World) (number n : ℕ) (first : Segment) (move : SegmentMove) → begun program caps start number ≡ Some first → thread_moves program caps start number n ≡ Some move → moves (segment_machine program caps) n first ≡ move
  moved_from start number n first move begins e =
      same_some (moves (segment_machine program caps) n first) move (sym (ap (λ (o : Option Segment). option_map (moves (segment_machine program caps) n) o) begins) ∙ e)

  pub moves_from : (start : source.World) (number n : ℕ) (first : Segment) → begun program caps start number ≡ Some first → thread_moves program caps start number n ≡ Some (moves (segment_machine program caps) n first)
  moves_from start number n first begins = ap (λ (o : Option Segment). option_map (moves (segment_machine program caps) n) o) begins
