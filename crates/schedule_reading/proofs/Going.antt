-- Steps of a segment, one after another.
use Rattle.schedule_reading.proofs.Common.{◌≡◌, ℕ, suc, ◌+◌, ◌-◌, ◌<◌, ◌≤◌, List, [], ◌∷◌, ◌++◌, sym, ap, ◌∙◌, subst, arith, ⊎_elim, cases_lt, Goes, and_then, moves, goes_on, Segment, SegmentMove, segment_machine, segment_step, ProgramTree, Given, IsSilent, IsCrowdedNext, PutsNext, RestsNext, same_next, CrowdsAt, NoneCrowded}
use Rattle.c_mean.specs.World as source

module _ (program : ProgramTree) (caps : List ℕ) where
  -- silence after silence
  pub silent_on : (start here there : Segment) (m n : ℕ) → IsSilent program caps start m here → IsSilent program caps here n there → IsSilent program caps start (m + n) there
  silent_on start here there m n p q = record {
    moved = goes_on (segment_machine program caps) m n start here p.moved ∙ q.moved;
    outputs = q.outputs ∙ p.outputs;
  }

  one_step : (here after : Segment) → segment_step program caps here ≡ Goes after → moves (segment_machine program caps) 1 here ≡ Goes after
  one_step here after e = ap (λ (m : SegmentMove). and_then m (moves (segment_machine program caps) 0)) e

  -- silence, and one more silent step
  pub silent_more : (start here after : Segment) (n : ℕ) → IsSilent program caps start n here → segment_step program caps here ≡ Goes after → after.world.outputs ≡ here.world.outputs → IsSilent program caps start (suc n) after
  silent_more start here after n p goes same =
      let count : n + 1 ≡ suc n = omega arith in
      subst (λ (k : ℕ). IsSilent program caps start k after) count
      (silent_on start here after n 1 p (record { moved = one_step here after goes; outputs = same }))

  pub puts_on : (start here after : Segment) (m steps word : ℕ) → IsSilent program caps start m here → start.number ≡ here.number → PutsNext program caps here steps word after → PutsNext program caps start (m + steps) word after
  puts_on start here after m steps word p number q = record {
    before = m + q.before;
    here = q.here;
    silent = silent_on start here q.here m q.before p q.silent;
    puts = q.puts;
    output = q.output ∙ ap (λ (xs : List (ℕ × ℕ)). xs ++ (here.number, word) ∷ []) p.outputs ∙ ap (λ (n : ℕ). start.world.outputs ++ (n, word) ∷ []) (sym number);
    steps_is = let is = q.steps_is in omega (arith, is);
  }

  pub rests_on : (start here : Segment) (rested : source.Rested) (m steps : ℕ) → IsSilent program caps start m here → RestsNext program caps here steps rested → RestsNext program caps start (m + steps) rested
  rests_on start here rested m steps p q = record {
    before = m + q.before;
    here = q.here;
    silent = silent_on start here q.here m q.before p q.silent;
    stops = q.stops;
    steps_is = let is = q.steps_is in omega (arith, is);
  }

  pub crowds_on : (start here : Segment) (m steps : ℕ) → IsSilent program caps start m here → IsCrowdedNext program caps here steps → IsCrowdedNext program caps start (m + steps)
  crowds_on start here m steps p q = record {
    here = q.here;
    silent = silent_on start here q.here m steps p q.silent;
    live = q.live;
    after = q.after;
    starts = q.starts;
    one_more = q.one_more;
  }

-- ---- none is crowded

module _ (g : Given) where
  abbrev Silent : Segment → ℕ → Segment → Type 0
  Silent start n here = IsSilent g.program g.policy.caps start n here

  -- a later start is one from there
  crowded_after : (start here : Segment) (m steps : ℕ) → Silent start m here → m ≤ steps → IsCrowdedNext g.program g.policy.caps start steps → IsCrowdedNext g.program g.policy.caps here (steps - m)
  crowded_after start here m steps p late q =
      let count : m + (steps - m) ≡ steps = omega (arith, late) in
      let moved : moves (segment_machine g.program g.policy.caps) (steps - m) here ≡ Goes q.here =
      sym (goes_on (segment_machine g.program g.policy.caps) m (steps - m) start here p.moved) ∙ ap (λ (k : ℕ). moves (segment_machine g.program g.policy.caps) k start) count ∙ q.silent.moved in
      record {
        here = q.here;
        silent = record { moved = moved; outputs = q.silent.outputs ∙ sym p.outputs };
        live = q.live;
        after = q.after;
        starts = q.starts;
        one_more = q.one_more;
      }

  pub none_on : (start here : Segment) (m n : ℕ) → Silent start m here → NoneCrowded g start m → NoneCrowded g here n → NoneCrowded g start (m + n)
  none_on start here m n p first then_ steps below crowded = ⊎_elim
      (λ (early : steps < m). first steps early crowded)
      (λ (late : m ≤ steps). then_ (steps - m) (omega (arith, below, late)) (crowded_after start here m steps p late crowded))
      (cases_lt steps m)

  -- by one step from a segment at which none is
  at_start : (start : Segment) (steps : ℕ) → steps < 1 → IsCrowdedNext g.program g.policy.caps start steps → CrowdsAt g start
  at_start start steps below q =
      let zero_is : steps ≡ 0 = omega (arith, below) in
      let here : start ≡ q.here = same_next start q.here (ap (λ (k : ℕ). moves (segment_machine g.program g.policy.caps) k start) (sym zero_is) ∙ q.silent.moved) in
      subst (λ (s : Segment). CrowdsAt g s) (sym here) (q.live, record { after = q.after; goes = q.starts; one_more = q.one_more })

  pub none_here : (start : Segment) → (CrowdsAt g start → ⊥) → NoneCrowded g start 1
  none_here start none steps below q = none (at_start start steps below q)
