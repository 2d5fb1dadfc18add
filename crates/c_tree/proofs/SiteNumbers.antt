-- Numbers that rise by one from 0 are numbers of sites.
use Rattle.std.specs.List.{AllByRecursion, IsDistinct}
use Rattle.std.proofs.lemmas.Grind.{common_steps}
use Rattle.c_tree.proofs.Common.{◌≡◌, ◌+◌, ◌<◌, ◌≤◌, ℕ, false, eqb, List, [], ◌∷◌, ◌++◌, length, suc, subst, add-zero, arith, counting, AreSiteNumbers}

apart : (m n : ℕ) → m < n → eqb m n ≡ false
apart m n h = grind (arith, common_steps)

counting_apart : (m k : ℕ) (ns : List ℕ) → m < k → counting k ns → AllByRecursion (λ n. eqb m n ≡ false) ns
counting_apart m k [] h c = tt
counting_apart m k (n ∷ ns) h c = (apart m n (omega arith), counting_apart m (1 + k) ns (omega arith) c.1)

counting_distinct : (k : ℕ) (ns : List ℕ) → counting k ns → IsDistinct eqb ns
unfolding IsDistinct
counting_distinct k [] c = tt
counting_distinct k (n ∷ ns) c = (counting_apart n (1 + k) ns (omega arith) c.1, counting_distinct (1 + k) ns c.1)

counting_below : (k m : ℕ) (ns : List ℕ) → k + length ns ≤ m → counting k ns → AllByRecursion (λ n. n < m) ns
counting_below k m [] h c = tt
counting_below k m (n ∷ ns) h c = (omega arith, counting_below (1 + k) m ns (omega arith) c.1)

-- each is its own, and below their count
pub counting_site_numbers : (ns : List ℕ) → counting 0 ns → AreSiteNumbers ns
counting_site_numbers ns c = (counting_distinct 0 ns c, counting_below 0 (length ns) ns (omega arith) c)

carried : (k n : ℕ) → k + suc n ≡ 1 + k + n
carried k n = omega arith

-- numbers that rise on from where others end
pub counting-append : (k : ℕ) (xs ys : List ℕ) → counting k xs → counting (k + length xs) ys → counting k (xs ++ ys)
counting-append k [] ys c d = rw add-zero at d
counting-append k (x ∷ xs) ys c d = (c.0, counting-append (1 + k) xs ys c.1 (subst (λ n. counting n ys) (carried k (length xs)) d))
