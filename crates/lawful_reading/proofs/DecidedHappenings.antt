-- It is decided what the running thread comes to with a step.
use Rattle.lawful_reading.proofs.Common.{◌≡◌, ℕ, zero, suc, List, [], ◌∷◌, ◌++◌, length, inl, inr, refl, sym, ap, subst, arith, Goes, Asks, Stops, moves, ProgramTree, live_in, IsSilent, PutsNext, RestsNext, IsCrowdedNext, ComesAt, most_threads, Decided, decided_by, both_decided, either_decided, only_decided, number_same, list_same}
use Rattle.c_mean.specs.World.{Segment, SegmentMove, Rested, segment_step, segment_machine}
use Rattle.lawful_reading.proofs.Moves.{not_both, same_next}

-- ---- moves

goes_by : (P : Segment → Type 0) → ((next : Segment) → Decided (P next)) → (move : SegmentMove) → Decided ((next : Segment) × ((move ≡ Goes next) × P next))
goes_by P each (Goes next) = only_decided (λ other. (◌≡◌ {A = SegmentMove} (Goes next) (Goes other)) × P other) next (λ other h. same_next other next (sym h.0)) (both_decided (inl refl) (each next))
goes_by P each (Asks question waiting) = absurd waiting
goes_by P each (Stops rested) = inr (λ h. not_both rested h.0 h.1.0)

stops_by : (move : SegmentMove) → Decided ((rested : Rested) × (move ≡ Stops rested))
stops_by (Goes next) = inr (λ h. not_both h.0 next (sym h.1))
stops_by (Asks question waiting) = absurd waiting
stops_by (Stops rested) = inl (rested, refl)

-- ---- outputs

pair_same : (a b : ℕ × ℕ) → Decided (a ≡ b)
pair_same a b = decided_by (λ (e : (a.0 ≡ b.0) × (a.1 ≡ b.1)) k. (e.0 k, e.1 k)) (λ e. ((λ k. (e k).0), (λ k. (e k).1))) (both_decided (number_same a.0 b.0) (number_same a.1 b.1))

abbrev Put : List (ℕ × ℕ) → ℕ → List (ℕ × ℕ) → ℕ → Type 0
Put before number after word = after ≡ before ++ (number, word) ∷ []

put_decided : (before : List (ℕ × ℕ)) (number : ℕ) (after : List (ℕ × ℕ)) → Decided ((word : ℕ) × Put before number after word)
put_decided [] number (x ∷ []) = decided_by (λ (e : x.0 ≡ number). (x.1, ap (λ (n : ℕ). (n, x.1) ∷ []) e)) (λ h. let e = h.1 in let same : x ≡ (number, h.0) = cc in (λ k. (same k).0)) (number_same x.0 number)
put_decided (x ∷ before) number (y ∷ after) =
    decided_by (λ (h : (y ≡ x) × ((word : ℕ) × Put before number after word)). (h.1.0, (let first = h.0 in let rest = h.1.1 in cc))) (λ h. let e = h.1 in (cc, (h.0, cc)))
    (both_decided (pair_same y x) (put_decided before number after))
put_decided _ number _ = inr (λ h. let e = h.1 in absurd (cc))

-- ---- with a step

module _ (program : ProgramTree) (caps : List ℕ) (start : Segment) where
  -- after silent steps, so many, the thread is somewhere, and it holds there
  after_silence : (n : ℕ) (P : Segment → Type 0) → ((here : Segment) → Decided (P here)) → Decided ((here : Segment) × (IsSilent program caps start n here × P here))
  after_silence n P each =
      decided_by (λ (h : (here : Segment) × ((moves (segment_machine program caps) n start ≡ Goes here) × ((here.world.outputs ≡ start.world.outputs) × P here))). (h.0, (record { moved = h.1.0; outputs = h.1.1.0 }, h.1.1.1)))
      (λ h. (h.0, (h.1.0.moved, (h.1.0.outputs, h.1.1))))
      (goes_by (λ here. (here.world.outputs ≡ start.world.outputs) × P here) (λ here. both_decided (list_same pair_same here.world.outputs start.world.outputs) (each here)) (moves (segment_machine program caps) n start))

  one_less : (n before : ℕ) (here : Segment) → suc n ≡ suc before → IsSilent program caps start before here → IsSilent program caps start n here
  one_less n before here e silent = subst (λ (m : ℕ). IsSilent program caps start m here) (omega (arith, e)) silent

  abbrev PutsHere : Segment → Type 0
  PutsHere here = (after : Segment) × ((segment_step program caps here ≡ Goes after) × ((word : ℕ) × Put start.world.outputs start.number after.world.outputs word))

  pub puts_decided : (steps : ℕ) → Decided ((word : ℕ) × (after : Segment) × PutsNext program caps start steps word after)
  puts_decided zero = inr (λ p. let e = p.2.steps_is in absurd (omega (arith, e)))
  puts_decided (suc n) =
      decided_by
      (λ (h : (here : Segment) × (IsSilent program caps start n here × PutsHere here)). (h.1.1.1.1.0, h.1.1.0, record { before = n; here = h.0; silent = h.1.0; puts = h.1.1.1.0; output = h.1.1.1.1.1; steps_is = refl }))
      (λ p. (p.2.here, (one_less n p.2.before p.2.here p.2.steps_is p.2.silent, (p.1, (p.2.puts, (p.0, p.2.output))))))
      (after_silence n PutsHere
      (λ here. goes_by (λ after. (word : ℕ) × Put start.world.outputs start.number after.world.outputs word) (λ after. put_decided start.world.outputs start.number after.world.outputs) (segment_step program caps here)))

  pub rests_decided : (steps : ℕ) → Decided ((rested : Rested) × RestsNext program caps start steps rested)
  rests_decided zero = inr (λ r. let e = r.1.steps_is in absurd (omega (arith, e)))
  rests_decided (suc n) =
      decided_by
      (λ (h : (here : Segment) × (IsSilent program caps start n here × ((rested : Rested) × (segment_step program caps here ≡ Stops rested)))). (h.1.1.0, record { before = n; here = h.0; silent = h.1.0; stops = h.1.1.1; steps_is = refl }))
      (λ r. (r.1.here, (one_less n r.1.before r.1.here r.1.steps_is r.1.silent, (r.0, r.1.stops))))
      (after_silence n (λ here. (rested : Rested) × (segment_step program caps here ≡ Stops rested)) (λ here. stops_by (segment_step program caps here)))

  abbrev CrowdedHere : Segment → Type 0
  CrowdedHere here = (live_in here.world ≡ most_threads) × ((after : Segment) × ((segment_step program caps here ≡ Goes after) × (length after.world.threads ≡ suc (length here.world.threads))))

  pub crowded_decided : (steps : ℕ) → Decided (IsCrowdedNext program caps start steps)
  crowded_decided n =
      decided_by
      (λ (h : (here : Segment) × (IsSilent program caps start n here × CrowdedHere here)). record { here = h.0; silent = h.1.0; live = h.1.1.0; after = h.1.1.1.0; starts = h.1.1.1.1.0; one_more = h.1.1.1.1.1 })
      (λ c. (c.here, (c.silent, (c.live, (c.after, (c.starts, c.one_more))))))
      (after_silence n CrowdedHere
      (λ here. both_decided (number_same (live_in here.world) most_threads)
      (goes_by (λ after. length after.world.threads ≡ suc (length here.world.threads)) (λ after. number_same (length after.world.threads) (suc (length here.world.threads))) (segment_step program caps here))))

  pub comes_decided : (steps : ℕ) → Decided (ComesAt program caps start steps)
  comes_decided steps = either_decided (puts_decided steps) (rests_decided steps)
