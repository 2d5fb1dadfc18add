-- From where a machine thread stands for a flat thread: each state to which it comes in silence is good, and its next step is
-- one of the flat thread's.
use Rattle.segment_laws.proofs.Common.{◌≡◌, ℕ, zero, suc, ◌+◌, ◌-◌, ◌<◌, ◌≤◌, List, refl, sym, ap, subst, ◌∙◌, arith, ⊎_elim, cases_lt, Finish, Goes, Asks, Stops, moves, and_then, goes_on, FlatThread, Finished, Lost, FlatMove, flat_step, flat_machine, IsWellFormed, Local, LocalMove, Ended, Trapped, NoRoom, Wrong, local_step, Checked, CallFacts, IsNeverLost, StopsAlike, IsStepAlike, IsAlong, IsCutMove, first_of, Comes}
use Rattle.machine_world.specs.Local as local
use Rattle.segment_laws.proofs.Facts.{CodeFacts}
use Rattle.segment_laws.proofs.Simulation.{Simulates}
use Rattle.segment_laws.proofs.Ways.{HasForm, IsGoodState, Leads}
use Rattle.segment_laws.proofs.Firsts.{moves-first}
use Rattle.segment_laws.proofs.Moves.{Comes-rest, Comes-first, HasForm-comes, Leads-comes, Leads-within}
use Rattle.segment_laws.proofs.Needs.{NeedsFit}
use Rattle.segment_laws.proofs.OneStep.{Outcome, Silent, Short, Asking, Stopping, Losing, outcome}

-- ---- steps of the flat thread

-- moves after one silent step
pub flat_later : (c : Checked) (n : ℕ) (t after : FlatThread) → flat_step c.flat t ≡ Goes after → moves (flat_machine c.flat) (suc n) t ≡ moves (flat_machine c.flat) n after
flat_later c n t after step = ap (λ (m : FlatMove). and_then m (moves (flat_machine c.flat) n)) step

pub never_later : (c : Checked) (t after : FlatThread) → flat_step c.flat t ≡ Goes after → IsNeverLost c.flat t → IsNeverLost c.flat after
never_later c t after step never n e = never (suc n) (flat_later c n t after step ∙ e)

-- a step that asks or stops is all that more steps come to
pub flat_over : (c : Checked) (n : ℕ) (t : FlatThread) (move : FlatMove) → flat_step c.flat t ≡ move → ((next : FlatThread) → move ≡ Goes next → ⊥) → moves (flat_machine c.flat) (suc n) t ≡ move
flat_over c n t (Goes next) step over = absurd (over next refl)
flat_over c n t _ step over = ap (λ (m : FlatMove). and_then m (moves (flat_machine c.flat) n)) step

-- ---- from a later flat thread

stop_step : (c : Checked) (t : FlatThread) (at : Local) (end : local.End) (n : ℕ) (finish : Finish) → moves (flat_machine c.flat) n t ≡ Stops (Finished finish) → StopsAlike c at end finish → IsStepAlike c t at (Stops end)
stop_step c t at (Ended areas) n finish e stops = (n, finish, e, stops)
stop_step c t at (Trapped kind) n finish e stops = (n, finish, e, stops)
stop_step c t at NoRoom n finish e stops = absurd stops
stop_step c t at Wrong n finish e stops = absurd stops

stop_cut : (c : Checked) (started : ℕ) (at : Local) (end : local.End) (finish : Finish) → StopsAlike c at end finish → IsCutMove c started at (Stops end)
stop_cut c started at NoRoom finish stops = absurd stops
stop_cut c started at _ finish stops = tt

step_before : (c : Checked) (j : ℕ) (t after : FlatThread) (at : Local) (move : LocalMove) → moves (flat_machine c.flat) j t ≡ Goes after → IsStepAlike c after at move → IsStepAlike c t at move
step_before c j t after at (Goes next) first is = tt
step_before c j t after at (Asks question still) first is = (is.0, (j + is.1.0, is.1.1, is.1.2, goes_on (flat_machine c.flat) j is.1.0 t after first ∙ is.1.3, is.1.4))
step_before c j t after at (Stops NoRoom) first is = is
step_before c j t after at (Stops Wrong) first is = absurd is.3
step_before c j t after at (Stops _) first is = (j + is.0, is.1, goes_on (flat_machine c.flat) j is.0 t after first ∙ is.2, is.3)

along_before : (c : Checked) (code : List ℕ) (j : ℕ) (t after : FlatThread) (at : Local) → moves (flat_machine c.flat) j t ≡ Goes after → IsAlong c code after at → IsAlong c code t at
along_before c code j t after at first is = record {
  form = is.form;
  good = is.good;
  step = step_before c j t after at (local_step code at) first is.step;
  cut = subst (λ (f : ℕ). IsCutMove c f at (local_step code at)) (moves-first c.flat j t after first) is.cut;
}

-- ---- behind good steps

-- strictly within good steps
pub along_within : (c : Checked) (code : List ℕ) (n k : ℕ) (l after at : Local) (t : FlatThread) → HasForm c l → Leads c code n l after → k < n → Comes code k l at → IsAlong c code t at
along_within c code n k l after at t form leads lt comes =
    let within = Leads-within c code n k l after at leads lt comes in
    record {
      form = HasForm-comes c code k l at form comes;
      good = within.good;
      step = subst (IsStepAlike c t at) (sym within.step) tt;
      cut = subst (IsCutMove c (first_of t) at) (sym within.step) tt;
    }

-- behind them
pub along_behind : (c : Checked) (code : List ℕ) (n k : ℕ) (l middle at : Local) (t : FlatThread) → HasForm c l → Leads c code n l middle → ((j : ℕ) → n + j ≡ k → Comes code j middle at → IsAlong c code t at) → Comes code k l at → IsAlong c code t at
along_behind c code n k l middle at t form leads rest comes = ⊎_elim
    (λ (lt : k < n). along_within c code n k l middle at t form leads lt comes)
    (λ (le : n ≤ k).
    let sum : n + (k - n) ≡ k = omega (arith, le) in
    rest (k - n) sum (Comes-rest code n (k - n) k l middle at (Leads-comes c code n l middle leads) sum comes))
    (cases_lt k n)

-- up to a step that asks or stops
along_to : (c : Checked) (code : List ℕ) (n k : ℕ) (l last at : Local) (t : FlatThread) (move : LocalMove) → HasForm c l → Leads c code n l last → IsGoodState c code last → local_step code last ≡ move → ((next : Local) → move ≡ Goes next → ⊥) → IsStepAlike c t last move → IsCutMove c (first_of t) last move →
    Comes code k l at → IsAlong c code t at
along_to c code n k l last at t move form leads good step over is cut comes =
    along_behind c code n k l last at t form leads (λ j sum later. by j later) comes
  where
    by : (j : ℕ) → Comes code j last at → IsAlong c code t at
    by zero later =
        let same : last ≡ at = cc in
        subst (IsAlong c code t) same
        (record {
          form = HasForm-comes c code n l last form (Leads-comes c code n l last leads);
          good = good;
          step = subst (IsStepAlike c t last) (sym step) is;
          cut = subst (IsCutMove c (first_of t) last) (sym step) cut;
        })
    by (suc j) later = let first = Comes-first code j last at later in absurd (over first.next (sym step ∙ first.step))

-- ---- all states

goes_ask : (question : local.Question) (at next : Local) → (let m : LocalMove = Asks question at in m) ≡ Goes next → ⊥
goes_ask question at next e = cc

goes_stop : (end : local.End) (next : Local) → (let m : LocalMove = Stops end in m) ≡ Goes next → ⊥
goes_stop end next e = cc

pub flat_asks : (question : Rattle.cap_word.specs.Calls.Question) (waiting : Rattle.flat_code.specs.Frames.FlatWaiting) (next : FlatThread) → (let m : FlatMove = Asks question waiting in m) ≡ Goes next → ⊥
flat_asks question waiting next e = cc

pub flat_stops : (end : Rattle.flat_code.specs.Frames.End) (next : FlatThread) → (let m : FlatMove = Stops end in m) ≡ Goes next → ⊥
flat_stops end next e = cc

module _ (c : Checked) (code : List ℕ) (facts : CodeFacts c code) (calls : CallFacts c) (needs : NeedsFit c) (formed : IsWellFormed c.flat) where
  -- what holds behind fewer steps
  abbrev Later : ℕ → Local → Type 0
  Later k at = (j : ℕ) (middle : Local) (after : FlatThread) → j < k → Simulates c middle after → IsNeverLost c.flat after → Comes code j middle at → IsAlong c code after at

  along_by : (k : ℕ) (l at : Local) (t : FlatThread) → Later k at → Simulates c l t → IsNeverLost c.flat t → Comes code k l at → Outcome c code l t → IsAlong c code t at
  along_by k l at t later simulates never comes (Silent after step reaches) =
      along_behind c code (suc reaches.steps) k l reaches.after at t simulates.during.inside.form reaches.leads
      (λ j sum rest. along_before c code 1 t after at (flat_later c 0 t after step) (later j reaches.after after (omega arith) reaches.simulates (never_later c t after step never) rest)) comes
  along_by k l at t later simulates never comes (Short cut off) =
      along_to c code cut.count k l cut.at at t (Stops NoRoom) simulates.during.inside.form cut.leads cut.good cut.step (goes_stop NoRoom) cut.none off comes
  along_by k l at t later simulates never comes (Asking asked waiting step is) =
      along_to c code is.count k l is.at at t (Asks is.question is.at) simulates.during.inside.form is.leads is.good is.step (goes_ask is.question is.at)
      (refl, (1, asked, waiting, flat_over c 0 t (Asks asked waiting) step (flat_asks asked waiting), is.waits)) tt comes
  along_by k l at t later simulates never comes (Stopping finish step is) =
      along_to c code is.count k l is.at at t (Stops is.end) simulates.during.inside.form is.leads is.good is.step (goes_stop is.end)
      (stop_step c t is.at is.end 1 finish (flat_over c 0 t (Stops (Finished finish)) step (flat_stops (Finished finish))) is.stops)
      (stop_cut c (first_of t) is.at is.end finish is.stops) comes
  along_by k l at t later simulates never comes (Losing step) = absurd (never 1 (flat_over c 0 t (Stops Lost) step (flat_stops Lost)))

  pub along : (fuel k : ℕ) (l at : Local) (t : FlatThread) → k ≤ fuel → Simulates c l t → IsNeverLost c.flat t → Comes code k l at → IsAlong c code t at
  along zero k l at t le simulates never comes =
      along_by k l at t (λ j middle after lt s n rest. absurd (omega arith)) simulates never comes (outcome c code facts calls needs formed l t simulates)
  along (suc fuel) k l at t le simulates never comes =
      along_by k l at t (λ j middle after lt s n rest. along fuel j middle at after (omega arith) s n rest) simulates never comes (outcome c code facts calls needs formed l t simulates)
