-- From where a machine thread stands for a flat thread: what any number of steps of the flat thread comes to, the machine
-- comes to, or it comes to a LINK where no chunk is free.
use Rattle.segment_laws.proofs.Common.{ℕ, zero, suc, ◌+◌, ◌≤◌, ◌⊎◌, List, refl, sym, subst, arith, inl, inr, ⊎_elim, Goes, Asks, Stops, moves, FlatThread, Finished, Lost, FlatMove, flat_machine, IsWellFormed, Local, Checked, CallFacts, IsNeverLost, Comes, FindsNone, ReachesAlike, RunsAlike}
use Rattle.segment_laws.proofs.Facts.{CodeFacts}
use Rattle.segment_laws.proofs.Simulation.{Simulates}
use Rattle.segment_laws.proofs.Ways.{HasForm, Leads}
use Rattle.segment_laws.proofs.Along.{flat_later, never_later, flat_over, flat_asks, flat_stops, along_behind, along}
use Rattle.segment_laws.proofs.Moves.{Comes-then, Leads-comes}
use Rattle.segment_laws.proofs.Needs.{NeedsFit}
use Rattle.segment_laws.proofs.OneStep.{Outcome, Silent, Short, Asking, Stopping, Losing, outcome}

-- ---- silent steps before

none_before : (code : List ℕ) (count : ℕ) (l middle : Local) → Comes code count l middle → FindsNone code middle → FindsNone code l
none_before code count l middle first none = (count + none.0, none.1, Comes-then code count none.0 l middle none.1 first none.2, none.3)

alike_before : (c : Checked) (code : List ℕ) (count m n : ℕ) (l middle : Local) (move : FlatMove) → Comes code count l middle → n ≤ count + m → ReachesAlike c code middle m move → ReachesAlike c code l n move
alike_before c code count m n l middle (Goes next) first le is = (count + is.0, is.1, omega (arith, is.2), Comes-then code count is.0 l middle is.1 first is.3, is.4)
alike_before c code count m n l middle (Stops Lost) first le is = absurd is
alike_before c code count m n l middle _ first le is = (count + is.0, is.1, is.2, Comes-then code count is.0 l middle is.1 first is.3, is.4, is.5)

before : (c : Checked) (code : List ℕ) (count m n : ℕ) (l middle : Local) (move : FlatMove) → Comes code count l middle → n ≤ count + m → FindsNone code middle ⊎ ReachesAlike c code middle m move → FindsNone code l ⊎ ReachesAlike c code l n move
before c code count m n l middle move first le is = ⊎_elim
    (λ (none : FindsNone code middle). inl (none_before code count l middle first none))
    (λ (alike : ReachesAlike c code middle m move). inr (alike_before c code count m n l middle move first le alike))
    is

-- ---- any number of steps

module _ (c : Checked) (code : List ℕ) (facts : CodeFacts c code) (calls : CallFacts c) (needs : NeedsFit c) (formed : IsWellFormed c.flat) where
  abbrev Alike : Local → ℕ → FlatMove → Type 0
  Alike l n move = FindsNone code l ⊎ ReachesAlike c code l n move

  reach_by : (n : ℕ) (l : Local) (t : FlatThread) → ((middle : Local) (after : FlatThread) → Simulates c middle after → IsNeverLost c.flat after → Alike middle n (moves (flat_machine c.flat) n after)) → IsNeverLost c.flat t → Outcome c code l t →
      Alike l (suc n) (moves (flat_machine c.flat) (suc n) t)
  reach_by n l t later never (Silent after step reaches) =
      subst (Alike l (suc n)) (sym (flat_later c n t after step))
      (before c code (suc reaches.steps) n (suc n) l reaches.after (moves (flat_machine c.flat) n after) (Leads-comes c code (suc reaches.steps) l reaches.after reaches.leads) (omega arith)
      (later reaches.after after reaches.simulates (never_later c t after step never)))
  reach_by n l t later never (Short cut off) = inl (cut.count, cut.at, Leads-comes c code cut.count l cut.at cut.leads, cut.step)
  reach_by n l t later never (Asking asked waiting step is) =
      subst (Alike l (suc n)) (sym (flat_over c n t (Asks asked waiting) step (flat_asks asked waiting)))
      (inr (is.count, is.at, is.question, Leads-comes c code is.count l is.at is.leads, is.step, is.waits))
  reach_by n l t later never (Stopping finish step is) =
      subst (Alike l (suc n)) (sym (flat_over c n t (Stops (Finished finish)) step (flat_stops (Finished finish))))
      (inr (is.count, is.at, is.end, Leads-comes c code is.count l is.at is.leads, is.step, is.stops))
  reach_by n l t later never (Losing step) = absurd (never 1 (flat_over c 0 t (Stops Lost) step (flat_stops Lost)))

  reach : (n : ℕ) (l : Local) (t : FlatThread) → Simulates c l t → IsNeverLost c.flat t → Alike l n (moves (flat_machine c.flat) n t)
  reach zero l t simulates never = inr (0, l, omega arith, refl, simulates)
  reach (suc n) l t simulates never = reach_by n l t (λ middle after s never'. reach n middle after s never') never (outcome c code facts calls needs formed l t simulates)

  -- from a state that good steps lead to where the thread stands for the flat thread
  pub runs_alike : (n : ℕ) (l middle : Local) (t : FlatThread) → HasForm c l → Leads c code n l middle → Simulates c middle t → IsNeverLost c.flat t → RunsAlike c code l t
  runs_alike n l middle t form leads simulates never = record {
    along = λ k at comes. along_behind c code n k l middle at t form leads (λ j sum later. along c code facts calls needs formed j j middle at t (omega arith) simulates never later) comes;
    reaches = λ m. before c code n m m l middle (moves (flat_machine c.flat) m t) (Leads-comes c code n l middle leads) (omega arith) (reach m middle t simulates never);
  }
