-- How the cost of a run grows with its turns, and that its worlds stay well formed.
use Rattle.run_course.proofs.Common.{◌≡◌, ℕ, zero, suc, ◌+◌, ◌-◌, ◌*◌, ◌<◌, ◌≤◌, sym, ap, ◌∙◌, subst, arith, Checked, Step, world_of, World, Setting, Move, Puts, Spawns, Blocks, Ends, Stops, step, IsWellFormed, IsWellFormedIf, Counts, counts_step, Tells, Held, Turn, GoesOn, turn_rank}
use Rattle.machine_world.proofs.FormWorlds.{IsWellFormedIf-action}

-- the instructions of a turn's own step
abbrev pub tick : Turn → ℕ
tick (Turn.Cut stop cost) = 0
tick Turn.Memory = 0
tick _ = 1

-- ---- the cost

pub goes_cost : (s : Setting) (n : ℕ) (w at : World) → GoesOn s n w at → w.cost ≤ at.cost
goes_cost s zero w at e = let same : at.cost ≡ w.cost = ap (λ (v : World). v.cost) e in omega arith
goes_cost s (suc n) w at goes =
    let one : goes.0.cost ≡ w.cost + 1 = (subst (Counts w) goes.1 (counts_step s w)).cost in
    let rest : goes.0.cost ≤ at.cost = goes_cost s n goes.0 at goes.2 in omega arith

cost_same : (w v : World) → w ≡ v → w.cost ≡ v.cost
cost_same w v e = ap (λ (u : World). u.cost) e

cost_by : (at : World) (move : Move) (turn : Turn) (number : ℕ) (new : Held) → Counts at move → Tells move turn number at new → new.machine.cost ≡ at.cost + tick turn
cost_by at (Puts value after) (Turn.Out told) number new c t = cost_same new.machine after t.1 ∙ c.cost
cost_by at (Spawns started after) (Turn.Spawned thread) number new c t = cost_same new.machine after t.2 ∙ c.cost
cost_by at (Spawns started after) Turn.Memory number new c t = let same : new.machine.cost ≡ at.cost = cost_same new.machine at t.0 in omega arith
cost_by at (Blocks after) (Turn.Blocked key cost) number new c t = cost_same new.machine after t.2 ∙ c.cost
cost_by at (Ends after) (Turn.Ended cost) number new c t = cost_same new.machine after t.1 ∙ c.cost
cost_by at (Stops stop) (Turn.Cut told cost) number new c t = let same : new.machine.cost ≡ at.cost = cost_same new.machine at t.2 in omega arith
cost_by at _ _ number new c t = absurd t

pub told_cost : (s : Setting) (at : World) (turn : Turn) (number : ℕ) (new : Held) → Tells (step s at) turn number at new → new.machine.cost ≡ at.cost + tick turn
told_cost s at turn number new t = cost_by at (step s at) turn number new (counts_step s at) t

-- ---- well formed

module _ (c : Checked) (s : Setting) (at : World) (new : Held) where
  is_formed : (after : World) → new.machine ≡ after → IsWellFormed c s after → IsWellFormed c s new.machine
  is_formed after e f = subst (IsWellFormed c s) (sym e) f

  formed_by : (move : Move) (turn : Turn) (number : ℕ) → IsWellFormed c s at → IsWellFormedIf c s (world_of move) → Tells move turn number at new → IsWellFormed c s new.machine
  formed_by (Puts value after) (Turn.Out told) number here f t = is_formed after t.1 f
  formed_by (Spawns started after) (Turn.Spawned thread) number here f t = is_formed after t.2 f
  formed_by (Spawns started after) Turn.Memory number here f t = is_formed at t.0 here
  formed_by (Blocks after) (Turn.Blocked key cost) number here f t = is_formed after t.2 f
  formed_by (Ends after) (Turn.Ended cost) number here f t = is_formed after t.1 f
  formed_by (Stops stop) (Turn.Cut told cost) number here f t = is_formed at t.2 here
  formed_by _ _ number here f t = absurd t

  pub told_formed : (turn : Turn) (number : ℕ) → IsWellFormed c s at → Tells (step s at) turn number at new → IsWellFormed c s new.machine
  told_formed turn number here t = formed_by (step s at) turn number here (IsWellFormedIf-action c s at Step tt here) t

-- ---- what is still to do falls

falls_one : (fuel old new r : ℕ) → old + 1 ≤ new → new ≤ fuel → 1 ≤ r → 3 * (fuel - new) + 2 < 3 * (fuel - old) + r
falls_one fuel old new r more most some = omega arith

falls_none : (fuel old new r : ℕ) → old ≤ new → 1 ≤ r → 3 * (fuel - new) + 0 < 3 * (fuel - old) + r
falls_none fuel old new r more some = omega arith

pub falls : (turn : Turn) (fuel old at new r : ℕ) → old ≤ at → new ≡ at + tick turn → new ≤ fuel → 1 ≤ r → 3 * (fuel - new) + turn_rank turn < 3 * (fuel - old) + r
falls (Turn.Cut stop cost) fuel old at new r more is most some = falls_none fuel old new r (omega arith) some
falls Turn.Memory fuel old at new r more is most some = falls_none fuel old new r (omega arith) some
falls _ fuel old at new r more is most some = falls_one fuel old new r (omega arith) most some
