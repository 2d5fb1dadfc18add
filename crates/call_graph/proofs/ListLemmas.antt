-- Whether a number stands in a list.
use Rattle.call_graph.proofs.Common.{◌≡◌, ◌≢◌, ℕ, zero, suc, ◌<◌, ◌≤◌, Bool, true, false, Result, Ok, Err, List, [], ◌∷◌, length, get_or, refl, arith, nat_tests, searched, AllPairs-from_increasing, IsStrictlyIncreasing, IsBinarySearchResult, AllByRecursion, is_ok, has}
use Rattle.std.specs.Ordering.{nat_cmp}

-- a test is true or false
pub by_test : {P : Type 0} (b : Bool) → (b ≡ true → P) → (b ≡ false → P) → P
by_test true first second = first refl
by_test false first second = second refl

-- what holds of each element holds of the one at a place
pub all-at : {X : Type 0} (P : X → Type 0) (xs : List X) (i : ℕ) (d : X) → AllByRecursion P xs → i < length xs → P (get_or xs i d)
all-at P [] i d all h = absurd (omega arith)
all-at P (x ∷ xs) zero d all h = all.0
all-at P (x ∷ xs) (suc i) d all h = all-at P xs i d all.1 (omega arith)

pub has-at : (xs : List ℕ) (k n : ℕ) → k < length xs → get_or xs k 0 ≡ n → has n xs ≡ true
has-at [] k n within e = absurd (omega arith)
has-at (x ∷ xs) zero n within e = grind (arith, nat_tests)
has-at (x ∷ xs) (suc k) n within e = let rest : has n xs ≡ true = has-at xs k n (omega arith) e in grind (arith, nat_tests)

pub has-none : (xs : List ℕ) (n : ℕ) → ((k : ℕ) → k < length xs → get_or xs k 0 ≢ n) → has n xs ≡ false
has-none [] n none = refl
has-none (x ∷ xs) n none =
    let other : x ≢ n = none 0 (omega arith) in
    let rest : has n xs ≡ false = has-none xs n (λ k h. none (suc k) (omega arith)) in
    grind (arith, nat_tests)

-- what a search of numbers that rise tells
found : (xs : List ℕ) (n : ℕ) (r : Result ℕ ℕ) → IsBinarySearchResult (λ y. nat_cmp y n) xs r → ((i j : ℕ) → i ≤ j → j < length xs → get_or xs i 0 ≤ get_or xs j 0) → is_ok r ≡ has n xs
found xs n (Ok i) h up = let at = searched xs n (Ok i) h up in rw (has-at xs i n at.0 at.1) refl
found xs n (Err i) h up =
    let apart = searched xs n (Err i) h up in
    let none : has n xs ≡ false = has-none xs n (λ k within e. grind (arith, apart.1 k, apart.2 k)) in
    rw none refl

up_from_rising : (xs : List ℕ) → IsStrictlyIncreasing xs → (i j : ℕ) → i ≤ j → j < length xs → get_or xs i 0 ≤ get_or xs j 0
up_from_rising xs rising i j le within = grind (arith, AllPairs-from_increasing xs rising i j 0)

pub is_ok-search : (xs : List ℕ) (n : ℕ) (r : Result ℕ ℕ) → IsStrictlyIncreasing xs → IsBinarySearchResult (λ y. nat_cmp y n) xs r → is_ok r ≡ has n xs
is_ok-search xs n r rising h = found xs n r h (up_from_rising xs rising)
