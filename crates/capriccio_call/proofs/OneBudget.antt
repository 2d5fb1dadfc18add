-- A program with its certificate has one least budget.
use Rattle.capriccio_call.proofs.Common.{◌≡◌, ℕ, zero, suc, ◌≤◌, List, [], ◌∷◌, length, refl, sym, ◌∙◌, arith, slice_index, FlatCode, Certificate, IsLeast}
use Rattle.chunk_budget.specs.declared.budgets.Budget.{Budget}
use Rattle.chunk_budget.specs.LeastBudgets.{IsLeastBudget}

-- lists of one length, none of whose numbers is below that of the other
same-list : (xs ys : List ℕ) → length xs ≡ length ys → ((n : ℕ) → slice_index xs n ≤ slice_index ys n) → ((n : ℕ) → slice_index ys n ≤ slice_index xs n) → xs ≡ ys
same-list [] [] long le ge = refl
same-list [] (y ∷ ys) long le ge = absurd (omega arith)
same-list (x ∷ xs) [] long le ge = absurd (omega arith)
same-list (x ∷ xs) (y ∷ ys) long le ge =
    let first : x ≡ y = omega (arith, le zero, ge zero) in
    let rest : xs ≡ ys = same-list xs ys (omega arith) (λ n. le (suc n)) (λ n. ge (suc n)) in
    cc

pub one-budget : (code : FlatCode) (certificate : Certificate) (a b : Budget) → IsLeastBudget code certificate a → IsLeastBudget code certificate b → a ≡ b
one-budget code certificate a b least other =
    let le = least.chunks b other.is in
    let ge = other.chunks a least.is in
    let chunks : a.per_thread ≡ b.per_thread = omega (arith, le, ge) in
    let heights : a.heights ≡ b.heights = same-list a.heights b.heights (least.is.heights ∙ sym other.is.heights) (λ n. least.heights b other.is n) (λ n. other.heights a least.is n) in
    λ i. record { per_thread = chunks i; heights = heights i }

pub one-least : (P : ℕ → Type 0) (m n : ℕ) → IsLeast P m → IsLeast P n → m ≡ n
one-least P m n a b = let le = a.least n b.holds in let ge = b.least m a.holds in omega (arith, le, ge)
