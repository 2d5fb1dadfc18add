-- Lists of numbers in which none stands twice.
use Rattle.cycle_break.proofs.Common.{◌≡◌, ◌≢◌, ℕ, zero, suc, ◌<◌, ◌≤◌, ◌==◌, Bool, true, false, not, List, [], ◌∷◌, length, filter, refl, sym, ap, ◌∙◌, subst, arith, nat_tests, AllByRecursion, has, IsOnce, by_test}

-- ---- `all`

pub all-filter : {X : Type 0} (P : X → Type 0) (p : X → Bool) (xs : List X) → AllByRecursion P xs → AllByRecursion (λ x. P x × (p x ≡ true)) (filter p xs)
all-filter P p [] all = tt
all-filter P p (x ∷ xs) all =
    by_test (p x) (λ yes. rw yes ((all.0, yes), all-filter P p xs all.1)) (λ no. rw no (all-filter P p xs all.1))

-- ---- `has`

pub has-head : (x : ℕ) (xs : List ℕ) → has x (x ∷ xs) ≡ true
has-head x xs = grind (arith, nat_tests)

pub has-tail : (n x : ℕ) (xs : List ℕ) → has n xs ≡ true → has n (x ∷ xs) ≡ true
has-tail n x xs h = grind (arith, nat_tests)

-- a number of a longer list is the first or one of the others
pub has-cases : {P : Type 0} (n x : ℕ) (xs : List ℕ) → has n (x ∷ xs) ≡ true → (x ≡ n → P) → (has n xs ≡ true → P) → P
has-cases {P} n x xs h first others =
    by_test (x == n) (λ e. first (grind (arith, nat_tests))) (λ e. others (rw e at h))

pub not_has : (n x : ℕ) (xs : List ℕ) → has n (x ∷ xs) ≡ false → (x ≢ n) × (has n xs ≡ false)
not_has n x xs h = (grind (arith, nat_tests), by_test (x == n) (λ e. absurd (let z : true ≡ false = rw e at h in cc)) (λ e. rw e at h))

pub not_has-cons : (n x : ℕ) (xs : List ℕ) → x ≢ n → has n xs ≡ false → has n (x ∷ xs) ≡ false
not_has-cons n x xs ne h = grind (arith, nat_tests)

pub true_false : {P : Type 0} (b : Bool) → b ≡ true → b ≡ false → P
true_false b t f = absurd (let z : true ≡ false = sym t ∙ f in cc)

-- what holds of each number holds of one in the list
pub all-has : (P : ℕ → Type 0) (xs : List ℕ) (n : ℕ) → AllByRecursion P xs → has n xs ≡ true → P n
all-has P [] n all h = true_false false h refl
all-has P (x ∷ xs) n all h = has-cases n x xs h (λ e. let Q : ℕ → Type 0 = P in subst Q e all.0) (λ rest. all-has P xs n all.1 rest)

-- ---- at most as many numbers as there are below a bound

abbrev others : ℕ → List ℕ → List ℕ
others m xs = filter (λ x. not (x == m)) xs

others-same : (m : ℕ) (xs : List ℕ) → has m xs ≡ false → others m xs ≡ xs
others-same m [] h = refl
others-same m (x ∷ xs) h =
    let apart = not_has m x xs h in
    let no : (x == m) ≡ false = grind (arith, nat_tests, apart.0) in
    rw no (ap (λ (ys : List ℕ). x ∷ ys) (others-same m xs apart.1))

has-others : (m n : ℕ) (xs : List ℕ) → has n xs ≡ false → has n (others m xs) ≡ false
has-others m n [] h = refl
has-others m n (x ∷ xs) h =
    let apart = not_has n x xs h in
    by_test (x == m) (λ e. rw e (has-others m n xs apart.1)) (λ e. rw e (not_has-cons n x (others m xs) apart.0 (has-others m n xs apart.1)))

once-others : (m : ℕ) (xs : List ℕ) → IsOnce xs → IsOnce (others m xs)
once-others m [] once = tt
once-others m (x ∷ xs) once =
    by_test (x == m) (λ e. rw e (once-others m xs once.1)) (λ e. rw e (has-others m x xs once.0, once-others m xs once.1))

length-others : (m : ℕ) (xs : List ℕ) → IsOnce xs → length xs ≤ suc (length (others m xs))
length-others m [] once = omega arith
length-others m (x ∷ xs) once =
    by_test (x == m)
    (λ e. let same : x ≡ m = grind (arith, nat_tests) in
    let none : has m xs ≡ false = rw same at once.0 in
    rw (e, others-same m xs none) (omega arith))
    (λ e. rw e (omega (arith, length-others m xs once.1)))

below-others : (m : ℕ) (xs : List ℕ) → AllByRecursion (λ x. x < suc m) xs → AllByRecursion (λ x. x < m) (others m xs)
below-others m [] all = tt
below-others m (x ∷ xs) all =
    by_test (x == m) (λ e. rw e (below-others m xs all.1))
    (λ e. let ne : x ≢ m = grind (arith, nat_tests) in rw e (omega (arith, all.0), below-others m xs all.1))

pub once-length : (n : ℕ) (xs : List ℕ) → IsOnce xs → AllByRecursion (λ x. x < n) xs → length xs ≤ n
once-length zero [] once below = omega arith
once-length zero (x ∷ xs) once below = absurd (omega (arith, below.0))
once-length (suc m) xs once below =
    omega (arith, length-others m xs once, once-length m (others m xs) (once-others m xs once) (below-others m xs below))
