-- The budget that is made is the least.
use Rattle.std.specs.Ordering.{nat_cmp, ord_max}
use Rattle.chunk_budget.proofs.Common.{◌≡◌, inl, inr, ⊎_elim, ℕ, zero, suc, ◌+◌, ◌-◌, ◌<◌, ◌≤◌, max, List, [], ◌∷◌, length, drop, drop-cons, add-one, refl, sym, ap, ◌∙◌, arith, common_steps, Some, slice_index_or, Op, FlatCode, function_at, operation_at, Certificate, greatest, Budget, height_of, AreCovered, IsRoot, IsSpawned, height_spawned, greatest_below}
use Rattle.chunk_budget.specs.LeastBudgets.{IsLeastBudget}
use Rattle.chunk_budget.proofs.LeastLemmas.{inside}
use Rattle.chunk_budget.proofs.MadeLemmas.{greatest-at, greatest-within, below-at, below-within, AreLeast}

-- ---- the loops

-- the greater of two numbers, in the words of a call
pub max-is : (a b : ℕ) → ord_max nat_cmp a b ≡ max a b
max-is a b = grind (arith, common_steps)

-- one operation more
pub greatest-more : (value : Op → ℕ) (ops : List Op) (i : ℕ) (op : Op) (most next : ℕ) → i < length ops → op ≡ slice_index_or ops i op → next ≡ max most (value op) →
    max next (greatest value (drop (i + 1) ops)) ≡ max most (greatest value (drop i ops))
greatest-more value ops i op most next lt at e =
    let cons : drop i ops ≡ slice_index_or ops i op ∷ drop (suc i) ops = drop-cons ops i op lt in
    let here : drop i ops ≡ op ∷ drop (i + 1) ops = cons ∙ (ap (λ o. o ∷ drop (suc i) ops) (sym at) ∙ ap (λ (n : ℕ). op ∷ drop n ops) (sym (add-one i))) in
    let whole : greatest value (drop i ops) ≡ max (value op) (greatest value (drop (i + 1) ops)) = ap (greatest value) here in
    omega (arith, whole, e)

-- no operation is left
pub greatest-over : (value : Op → ℕ) (ops : List Op) (i most : ℕ) → length ops ≤ i → max most (greatest value (drop i ops)) ≡ most
greatest-over value [] zero most le = omega arith
greatest-over value [] (suc i) most le = omega arith
greatest-over value (op ∷ ops) zero most le = absurd (omega arith)
greatest-over value (op ∷ ops) (suc i) most le = greatest-over value ops i most (omega arith)

-- one function more
pub below-more : (value : ℕ → ℕ) (n : ℕ) → greatest_below value (n + 1) ≡ max (greatest_below value n) (value n)
below-more value n = ap (greatest_below value) (add-one n)

-- ---- the first functions of threads

module _ (code : FlatCode) (heights : List ℕ) where
  -- the greatest height of what a function's operations start threads with
  abbrev pub spawned_by : ℕ → ℕ
  spawned_by f = greatest (height_spawned heights) (function_at code f).ops

  abbrev pub highest_of : ℕ
  highest_of = max (height_of heights code.main) (greatest_below spawned_by (length code.functions))

  spawned-within : (g : ℕ) → IsSpawned code g → height_of heights g ≤ highest_of
  spawned-within g s =
      let one = greatest-at (height_spawned heights) (function_at code s.f).ops s.k (Op.Spawn s.site s.result g s.argument) s.there in
      let all = below-at spawned_by (length code.functions) s.f (inside code s.f s.k (Op.Spawn s.site s.result g s.argument) s.there) in
      omega (arith, one, all)

  root-within : (g : ℕ) → IsRoot code g → height_of heights g ≤ highest_of
  root-within g root = ⊎_elim (λ e. let same : height_of heights g ≡ height_of heights code.main = ap (height_of heights) e in omega (arith, same)) (λ s. spawned-within g s) root

  spawned-least : (most f k : ℕ) (op : Op) → ((g : ℕ) → IsRoot code g → height_of heights g ≤ most) → operation_at code f k ≡ Some op → height_spawned heights op ≤ most
  spawned-least most f k (Op.Spawn site d g s) all there = all g (inr (record { f = f; k = k; site = site; result = d; argument = s; there = there }))
  spawned-least most f k _ all there = omega arith

  highest-within : (most : ℕ) → ((g : ℕ) → IsRoot code g → height_of heights g ≤ most) → highest_of ≤ most
  highest-within most all =
      let main = all code.main (inl refl) in
      let spawned = below-within spawned_by (length code.functions) most
      (λ f lt. greatest-within (height_spawned heights) (function_at code f).ops most (λ k op there. spawned-least most f k op all there)) in
      omega (arith, main, spawned)

-- ---- the budget

pub is-least : (code : FlatCode) (certificate : Certificate) (budget : Budget) → length budget.heights ≡ length code.functions → AreCovered code certificate budget.heights → AreLeast code certificate budget.heights →
    budget.per_thread ≡ highest_of code budget.heights + 1 → IsLeastBudget code certificate budget
is-least code certificate budget each covered least is = record {
  is = record {
    heights = each;
    chunks = omega (arith, is);
    calls = covered;
    roots = λ g root. (let le = root-within code budget.heights g root in omega (arith, le, is));
  };
  chunks = λ other b.
      (let some = b.chunks in
      let le = highest-within code budget.heights (other.per_thread - 1) (λ g root. (let lower = least other.heights b.calls g in let root_low = b.roots g root in omega (arith, lower, root_low))) in
      omega (arith, le, some, is));
  heights = λ other b f. least other.heights b.calls f;
}
