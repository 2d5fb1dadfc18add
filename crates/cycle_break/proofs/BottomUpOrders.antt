-- What an order from the bottom up says of each of its functions.
use Rattle.cycle_break.proofs.Common.{◌≡◌, ℕ, ◌+◌, ◌<◌, true, false, List, [], ◌∷◌, ◌++◌, length, take, drop, get_or, reverse, refl, sym, ap, ◌∙◌, subst, reverse-append, AllByRecursion, callees, CallGraphState, sites_of, has, All-weaker}
use Rattle.std.proofs.lemmas.List.{take-append-drop, take_more}
use Rattle.cycle_break.proofs.NumberLemmas.{has-cases, has-tail, true_false}
use Rattle.cycle_break.specs.BottomUp.{CallsOnly, IsBottomUp}

up-suffix : (graph : CallGraphState) (back xs ys : List ℕ) → IsBottomUp graph back (xs ++ ys) → IsBottomUp graph back ys
up-suffix graph back [] ys up = up
up-suffix graph back (x ∷ xs) ys up = up-suffix graph back xs ys up.1

weaker : (graph : CallGraphState) (back xs ys : List ℕ) (f : ℕ) → ((c : ℕ) → has c xs ≡ true → has c ys ≡ true) → CallsOnly graph back xs f → CallsOnly graph back ys f
weaker graph back xs ys f sub calls =
    All-weaker (λ s. AllByRecursion (λ c. has c xs ≡ true) (callees graph.tables s.target)) (λ s. AllByRecursion (λ c. has c ys ≡ true) (callees graph.tables s.target))
    (λ s all. All-weaker (λ c. has c xs ≡ true) (λ c. has c ys ≡ true) sub (callees graph.tables s.target) all) (sites_of graph.sites back f) calls

pub calls-within : (graph : CallGraphState) (back xs : List ℕ) (f : ℕ) → IsBottomUp graph back xs → has f xs ≡ true → CallsOnly graph back xs f
calls-within graph back [] f up h = true_false false h refl
calls-within graph back (x ∷ xs) f up h =
    weaker graph back xs (x ∷ xs) f (λ c. has-tail c x xs)
    (has-cases f x xs h (λ e. subst (CallsOnly graph back xs) e up.0) (λ rest. calls-within graph back xs f up.1 rest))

pub reverse-more : (order : List ℕ) (i : ℕ) → i < length order → reverse (take (i + 1) order) ≡ get_or order i 0 ∷ reverse (take i order)
reverse-more order i within = ap reverse (take_more order i 0 within) ∙ reverse-append (take i order) (get_or order i 0 ∷ [])

pub up-front : (graph : CallGraphState) (back order : List ℕ) (i : ℕ) → IsBottomUp graph back (reverse order) → IsBottomUp graph back (reverse (take i order))
up-front graph back order i up =
    up-suffix graph back (reverse (drop i order)) (reverse (take i order))
    (subst (IsBottomUp graph back) (ap reverse (sym (take-append-drop i order)) ∙ reverse-append (take i order) (drop i order)) up)

-- the next function of an order calls only functions before it
pub next-calls : (graph : CallGraphState) (back order : List ℕ) (i : ℕ) → i < length order → IsBottomUp graph back (reverse order) → CallsOnly graph back (reverse (take i order)) (get_or order i 0)
next-calls graph back order i within up =
    let more : IsBottomUp graph back (get_or order i 0 ∷ reverse (take i order)) = subst (IsBottomUp graph back) (reverse-more order i within) (up-front graph back order (i + 1) up) in
    more.0
