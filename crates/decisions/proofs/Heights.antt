-- A program in which no function lies on a cycle of calls has a least budget.
use Rattle.decisions.proofs.Common.{◌≡◌, ℕ, zero, suc, ◌+◌, ◌<◌, ◌≤◌, ◌⊎◌, inl, inr, ⊎_elim, max, List, [], length, get_or, set, reverse, replicate, refl, sym, ap, ◌∙◌, subst, arith, length-set, cases_lt, length-replicate, reverse-reverse, FlatCode, IsWellFormed, CallGraphState, IsCallGraph, has, IsBottomUp, whole_walk, whole_walk-is, whole_walk-up, IsLeast, IsOnCycle, IsGraph, IsFromBottom, breaks, from-bottom, stands-all, Certificate, IsLeastBudget, inside}
use Rattle.call_graph.proofs.IndexLemmas.{by_eq}
use Rattle.chunk_budget.specs.declared.budgets.Budget.{Budget}
use Rattle.chunk_budget.specs.Budgets.{height_of}
use Rattle.chunk_budget.proofs.LeastBudgetLemmas.{highest_of, is-least}
use Rattle.chunk_budget.proofs.MadeLemmas.{AreCoveredBefore, AreLeast, asked_of, least-more, covered-more, covered-all}
use Rattle.decisions.proofs.Reaching.{least_or_none}

no_height : (n f : ℕ) → height_of (replicate n 0) f ≡ 0
no_height (suc n) (suc f) = no_height n f
no_height _ _ = refl

module _ (code : FlatCode) (certificate : Certificate) (formed : IsWellFormed code) where
  -- the functions before a place in an order are raised to what their operations ask
  record AreRaised (order : List ℕ) (end : ℕ) : Type 0 where
    heights : List ℕ
    each : length heights ≡ length code.functions
    covered : AreCoveredBefore code certificate order heights end
    least : AreLeast code certificate heights

  module _ (order : List ℕ) (bottom : IsFromBottom code order) where
    one_more : (i : ℕ) → i < length order → AreRaised order i → (get_or order i 0 < length code.functions) ⊎ (length code.functions ≤ get_or order i 0) → AreRaised order (i + 1)
    one_more i within b (inl below) =
        let f = get_or order i 0 in
        let value = max (height_of b.heights f) (asked_of code certificate formed b.heights f) in
        let there : get_or order i 0 < length b.heights = (let e = b.each in omega (arith, below, e)) in
        record {
          heights = set b.heights f value;
          each = length-set b.heights f value ∙ b.each;
          covered = covered-more code certificate formed order b.heights i f value within refl there refl bottom b.covered;
          least = least-more code certificate formed b.heights f value there refl b.least;
        }
    one_more i within b (inr past) = record {
      heights = b.heights;
      each = b.each;
      covered = λ j before. by_eq j i
          (λ e k op there. let lt = inside code (get_or order j 0) k op there in let same = ap (λ n. get_or order n 0) e in absurd (omega (arith, lt, same, past)))
          (λ ne. b.covered j (omega (arith, before, ne)));
      least = b.least;
    }

    raised : (i : ℕ) → i ≤ length order → AreRaised order i
    raised zero within = record {
      heights = replicate (length code.functions) 0;
      each = length-replicate (length code.functions) 0;
      covered = λ j before. absurd (omega (arith, before));
      least = λ others covered f. (let none = no_height (length code.functions) f in omega (arith, none));
    }
    raised (suc i) within =
        let next : i + 1 ≡ suc i = omega arith in
        subst (AreRaised order) next (one_more i (omega (arith, within)) (raised i (omega (arith, within))) (cases_lt (get_or order i 0) (length code.functions)))

  pub a_budget : (graph : CallGraphState) → IsCallGraph graph → IsGraph code graph → ((f : ℕ) → IsOnCycle code f → ⊥) → (budget : Budget) × IsLeastBudget code certificate budget
  a_budget graph kept is acyclic =
      let left = (whole_walk graph []).left in
      let order = reverse left in
      let whole : reverse order ≡ left = reverse-reverse left in
      let up : IsBottomUp graph [] (reverse order) = subst (IsBottomUp graph []) (sym whole) (whole_walk-up graph [] kept (breaks code graph is acyclic)) in
      let all = (whole_walk-is graph [] kept).all in
      let count = is.count in
      let r = raised order (from-bottom code graph is order up) (length order) (omega arith) in
      let covered = covered-all code certificate formed order r.heights (length order) (omega arith) (λ f lt. stands-all code graph is order f (ap (has f) whole ∙ all f (omega (arith, lt, count)))) r.covered in
      let budget : Budget = record { per_thread = highest_of code r.heights + 1; heights = r.heights } in
      (budget, is-least code certificate budget r.each covered r.least refl)

pub budget_or_cycle : (code : FlatCode) (certificate : Certificate) (graph : CallGraphState) → IsWellFormed code → IsCallGraph graph → IsGraph code graph →
    ((f : ℕ) × IsLeast (IsOnCycle code) f) ⊎ (((f : ℕ) → IsOnCycle code f → ⊥) × (budget : Budget) × IsLeastBudget code certificate budget)
budget_or_cycle code certificate graph formed kept is =
    ⊎_elim (λ cycle. inl cycle) (λ none. let b = a_budget code certificate formed graph kept is none in inr (none, b.0, b.1)) (least_or_none code)
