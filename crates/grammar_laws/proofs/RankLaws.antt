-- The ranks of places are numbers of calls: each its own, and below their count. Of rising places they rise by one from 0.
use Rattle.grammar_laws.proofs.Common.{ℕ, zero, suc, ◌+◌, ◌<◌, ◌≤◌, ◌≡◌, refl, ap, subst, ⊎_elim, false, eqb, List, [], ◌∷◌, ◌++◌, length, arith, if◌then◌else◌, nat_lt, nat_le, slice_index_or, cases_lt, RiseWithin}
use Rattle.std.specs.List.{AllByRecursion, IsDistinct}
use Rattle.std.proofs.lemmas.Bool.Decides.{nat_tests}
use Rattle.std.proofs.lemmas.Grind.{common_steps}
use Rattle.c_tree.specs.TextOrder.{counting}
use Rattle.c_tree.specs.WellScoped.{AreSiteNumbers}
use Rattle.grammar_laws.specs.Ranks.{lesser, no_greater, ranks_after, ranks}

-- ---- counts of one place

le_le : (x p q : ℕ) → p ≤ q → (if nat_le x p then 1 else 0) ≤ (if nat_le x q then 1 else 0)
le_le x p q h = grind (arith, nat_tests)

lt_lt : (x p q : ℕ) → p ≤ q → (if nat_lt x p then 1 else 0) ≤ (if nat_lt x q then 1 else 0)
lt_lt x p q h = grind (arith, nat_tests)

lt_le : (x p q : ℕ) → p ≤ q → (if nat_lt x p then 1 else 0) ≤ (if nat_le x q then 1 else 0)
lt_le x p q h = grind (arith, nat_tests)

le_lt : (x p q : ℕ) → q < p → (if nat_le x q then 1 else 0) ≤ (if nat_lt x p then 1 else 0)
le_lt x p q h = grind (arith, nat_tests)

pub lt_one : (x p : ℕ) → (if nat_lt x p then 1 else 0) ≤ 1
lt_one x p = grind (arith, nat_tests)

pub le_one : (x p : ℕ) → (if nat_le x p then 1 else 0) ≤ 1
le_one x p = grind (arith, nat_tests)

lt_is : (x p : ℕ) → x < p → ◌≡◌ {A = ℕ} (if nat_lt x p then 1 else 0) 1
lt_is x p h = grind (arith, nat_tests)

lt_not : (x p : ℕ) → p ≤ x → ◌≡◌ {A = ℕ} (if nat_lt x p then 1 else 0) 0
lt_not x p h = grind (arith, nat_tests)

le_is : (x p : ℕ) → x ≤ p → ◌≡◌ {A = ℕ} (if nat_le x p then 1 else 0) 1
le_is x p h = grind (arith, nat_tests)

le_not : (x p : ℕ) → p < x → ◌≡◌ {A = ℕ} (if nat_le x p then 1 else 0) 0
le_not x p h = grind (arith, nat_tests)

-- ---- counts of several

no_greater_more : (p q : ℕ) (xs : List ℕ) → p ≤ q → no_greater p xs ≤ no_greater q xs
no_greater_more p q [] h = omega arith
no_greater_more p q (x ∷ xs) h = let one = le_le x p q h in let rest = no_greater_more p q xs h in omega (arith, one, rest)

lesser_more : (p q : ℕ) (xs : List ℕ) → p ≤ q → lesser p xs ≤ lesser q xs
lesser_more p q [] h = omega arith
lesser_more p q (x ∷ xs) h = let one = lt_lt x p q h in let rest = lesser_more p q xs h in omega (arith, one, rest)

lesser_no_greater : (p q : ℕ) (xs : List ℕ) → p ≤ q → lesser p xs ≤ no_greater q xs
lesser_no_greater p q [] h = omega arith
lesser_no_greater p q (x ∷ xs) h = let one = lt_le x p q h in let rest = lesser_no_greater p q xs h in omega (arith, one, rest)

no_greater_lesser : (p q : ℕ) (xs : List ℕ) → q < p → no_greater q xs ≤ lesser p xs
no_greater_lesser p q [] h = omega arith
no_greater_lesser p q (x ∷ xs) h = let one = le_lt x p q h in let rest = no_greater_lesser p q xs h in omega (arith, one, rest)

pub lesser_few : (p : ℕ) (xs : List ℕ) → lesser p xs ≤ length xs
lesser_few p [] = omega arith
lesser_few p (x ∷ xs) = let one = lt_one x p in let rest = lesser_few p xs in omega (arith, one, rest)

pub no_greater_few : (p : ℕ) (xs : List ℕ) → no_greater p xs ≤ length xs
no_greater_few p [] = omega arith
no_greater_few p (x ∷ xs) = let one = le_one x p in let rest = no_greater_few p xs in omega (arith, one, rest)

pub no_greater_both : (q : ℕ) (xs ys : List ℕ) → no_greater q (xs ++ ys) ≡ no_greater q xs + no_greater q ys
no_greater_both q [] ys = omega arith
no_greater_both q (x ∷ xs) ys = let rest = no_greater_both q xs ys in omega (arith, rest)

-- ---- ranks are apart

other : (m n : ℕ) → m < n → eqb m n ≡ false
other m n h = grind (arith, common_steps)

other_back : (m n : ℕ) → n < m → eqb m n ≡ false
other_back m n h = grind (arith, common_steps)

-- the rank of p, with `earlier` before it, `between` and then q after it, and `rest` after q; and the rank of q
two_apart : (p q r : ℕ) (earlier between rest : List ℕ) → r ≡ no_greater p earlier + lesser p between + lesser p (q ∷ rest) → eqb r (no_greater q (between ++ p ∷ earlier) + lesser q rest) ≡ false
two_apart p q r earlier between rest e =
    let split = no_greater_both q between (p ∷ earlier) in
    ⊎_elim
    (λ (lt : q < p).
    let a = no_greater_lesser p q between lt in
    let b = no_greater_more q p earlier (omega (arith, lt)) in
    let d = lesser_more q p rest (omega (arith, lt)) in
    let one = lt_is q p lt in
    let none = le_not p q lt in
    other_back r (no_greater q (between ++ p ∷ earlier) + lesser q rest) (omega (arith, e, split, a, b, d, one, none)))
    (λ (ge : p ≤ q).
    let a = lesser_no_greater p q between ge in
    let b = no_greater_more p q earlier ge in
    let d = lesser_more p q rest ge in
    let none = lt_not q p ge in
    let one = le_is p q ge in
    other r (no_greater q (between ++ p ∷ earlier) + lesser q rest) (omega (arith, e, split, a, b, d, one, none)))
    (cases_lt q p)

apart : (p r : ℕ) (earlier between rest : List ℕ) → r ≡ no_greater p earlier + lesser p between + lesser p rest → AllByRecursion (λ n. eqb r n ≡ false) (ranks_after (between ++ p ∷ earlier) rest)
apart p r earlier between [] e = tt
apart p r earlier between (q ∷ rest) e = (two_apart p q r earlier between rest e, apart p r earlier (q ∷ between) rest (omega (arith, e)))

distinct : (earlier places : List ℕ) → IsDistinct eqb (ranks_after earlier places)
unfolding IsDistinct
distinct earlier [] = tt
distinct earlier (p ∷ places) = (apart p (no_greater p earlier + lesser p places) earlier [] places (omega arith), distinct (p ∷ earlier) places)

below : (m : ℕ) (earlier places : List ℕ) → length earlier + length places ≤ m → AllByRecursion (λ n. n < m) (ranks_after earlier places)
below m earlier [] h = tt
below m earlier (p ∷ places) h =
    let a = no_greater_few p earlier in
    let b = lesser_few p places in
    (omega (arith, a, b, h), below m (p ∷ earlier) places (omega (arith, h)))

pub ranks_length : (earlier places : List ℕ) → length (ranks_after earlier places) ≡ length places
ranks_length earlier [] = refl
ranks_length earlier (p ∷ places) = ap suc (ranks_length (p ∷ earlier) places)

pub ranks_are_numbers : (places : List ℕ) → AreSiteNumbers (ranks places)
ranks_are_numbers places = let many = ranks_length [] places in (distinct [] places, below (length (ranks places)) [] places (omega (arith, many)))

-- ---- of rising places

none_lesser : (p low high : ℕ) (places : List ℕ) → p ≤ low → RiseWithin low places high → lesser p places ≡ 0
none_lesser p low high [] h r = refl
none_lesser p low high (q ∷ places) h r =
    let none = lt_not q p (omega (arith, h, r.0)) in
    let rest = none_lesser p (q + 1) high places (omega (arith, h, r.0)) r.1 in
    omega (arith, none, rest)

none_no_greater : (p low high : ℕ) (places : List ℕ) → p < low → RiseWithin low places high → no_greater p places ≡ 0
none_no_greater p low high [] h r = refl
none_no_greater p low high (q ∷ places) h r =
    let none = le_not q p (omega (arith, h, r.0)) in
    let rest = none_no_greater p (q + 1) high places (omega (arith, h, r.0)) r.1 in
    omega (arith, none, rest)

at_least : (low high k d : ℕ) (places : List ℕ) → RiseWithin low places high → k < length places → low ≤ slice_index_or places k d
at_least low high k d [] r h = absurd (omega (arith, h))
at_least low high zero d (q ∷ places) r h = r.0
at_least low high (suc k) d (q ∷ places) r h = let rest = at_least (q + 1) high k d places r.1 (omega (arith, h)) in omega (arith, rest, r.0)

-- as many are less than the k-th as come before it, and one more is no greater
lesser_rising : (low high k d : ℕ) (places : List ℕ) → RiseWithin low places high → k < length places → lesser (slice_index_or places k d) places ≡ k
lesser_rising low high k d [] r h = absurd (omega (arith, h))
lesser_rising low high zero d (q ∷ places) r h =
    let none = lt_not q q (omega arith) in
    let rest = none_lesser q (q + 1) high places (omega arith) r.1 in
    omega (arith, none, rest)
lesser_rising low high (suc k) d (q ∷ places) r h =
    let least = at_least (q + 1) high k d places r.1 (omega (arith, h)) in
    let one = lt_is q (slice_index_or places k d) (omega (arith, least)) in
    let rest = lesser_rising (q + 1) high k d places r.1 (omega (arith, h)) in
    omega (arith, one, rest)

no_greater_rising : (low high k d : ℕ) (places : List ℕ) → RiseWithin low places high → k < length places → no_greater (slice_index_or places k d) places ≡ k + 1
no_greater_rising low high k d [] r h = absurd (omega (arith, h))
no_greater_rising low high zero d (q ∷ places) r h =
    let one = le_is q q (omega arith) in
    let rest = none_no_greater q (q + 1) high places (omega arith) r.1 in
    omega (arith, one, rest)
no_greater_rising low high (suc k) d (q ∷ places) r h =
    let least = at_least (q + 1) high k d places r.1 (omega (arith, h)) in
    let one = le_is q (slice_index_or places k d) (omega (arith, least)) in
    let rest = no_greater_rising (q + 1) high k d places r.1 (omega (arith, h)) in
    omega (arith, one, rest)

-- a rank lies between the count of lesser places and that of places that are no greater
rank_low : (earlier places : List ℕ) (j d p : ℕ) → j < length places → slice_index_or places j p ≡ p → lesser p earlier + lesser p places ≤ slice_index_or (ranks_after earlier places) j d
rank_low earlier [] j d p h e = absurd (omega (arith, h))
rank_low earlier (q ∷ places) zero d p h e =
    let none = lt_not q p (omega (arith, e)) in
    let before = lesser_no_greater p q earlier (omega (arith, e)) in
    let after = lesser_more p q places (omega (arith, e)) in
    omega (arith, none, before, after)
rank_low earlier (q ∷ places) (suc j) d p h e = let rest = rank_low (q ∷ earlier) places j d p (omega (arith, h)) e in omega (arith, rest)

rank_high : (earlier places : List ℕ) (j d p : ℕ) → j < length places → slice_index_or places j p ≡ p → slice_index_or (ranks_after earlier places) j d + 1 ≤ no_greater p earlier + no_greater p places
rank_high earlier [] j d p h e = absurd (omega (arith, h))
rank_high earlier (q ∷ places) zero d p h e =
    let one = le_is q p (omega (arith, e)) in
    let before = no_greater_more q p earlier (omega (arith, e)) in
    let after = lesser_no_greater q p places (omega (arith, e)) in
    omega (arith, one, before, after)
rank_high earlier (q ∷ places) (suc j) d p h e = let rest = rank_high (q ∷ earlier) places j d p (omega (arith, h)) e in omega (arith, rest)

-- Where the places of a tree are those of a text in another order, told by their counts, and the text's rise, the rank of the tree's
-- j-th is its place among the text's.
pub rank_is : (text tree : List ℕ) (high j k d p : ℕ) → RiseWithin 0 text high → ((at : ℕ) → lesser at tree ≡ lesser at text) → ((at : ℕ) → no_greater at tree ≡ no_greater at text) →
    j < length tree → slice_index_or tree j p ≡ p → k < length text → slice_index_or text k p ≡ p → slice_index_or (ranks tree) j d ≡ k
rank_is text tree high j k d p rise fewer no_more there is here at =
    let low = rank_low [] tree j d p there is in
    let top = rank_high [] tree j d p there is in
    let less : lesser p text ≡ k = subst (λ x. lesser x text ≡ k) at (lesser_rising 0 high k p text rise here) in
    let more : no_greater p text ≡ k + 1 = subst (λ x. no_greater x text ≡ k + 1) at (no_greater_rising 0 high k p text rise here) in
    let l = fewer p in
    let m = no_more p in
    omega (arith, low, top, less, more, l, m)

all_no_greater : (p : ℕ) (earlier : List ℕ) → AllByRecursion (λ q. q ≤ p) earlier → no_greater p earlier ≡ length earlier
all_no_greater p [] h = refl
all_no_greater p (q ∷ earlier) h = let one = le_is q p h.0 in let rest = all_no_greater p earlier h.1 in omega (arith, one, rest)

still : (p q : ℕ) (earlier : List ℕ) → p ≤ q → AllByRecursion (λ x. x ≤ p) earlier → AllByRecursion (λ x. x ≤ q) earlier
still p q [] h a = tt
still p q (x ∷ earlier) h a = (omega (arith, h, a.0), still p q earlier h a.1)

-- `last` is the greatest place so far
rising_after : (last low high : ℕ) (earlier places : List ℕ) → last ≤ low → AllByRecursion (λ q. q ≤ last) earlier → RiseWithin low places high → counting (length earlier) (ranks_after earlier places)
rising_after last low high earlier [] h a r = tt
rising_after last low high earlier (p ∷ places) h a r =
    let before = still last p earlier (omega (arith, h, r.0)) a in
    let first = all_no_greater p earlier before in
    let none = none_lesser p (p + 1) high places (omega arith) r.1 in
    let longer : length (p ∷ earlier) ≡ 1 + length earlier = omega arith in
    (omega (arith, first, none), subst (λ n. counting n (ranks_after (p ∷ earlier) places)) longer (rising_after p (p + 1) high (p ∷ earlier) places (omega arith) (omega arith, before) r.1))

-- ranks of rising places rise by one: a source in which each call is whole keeps the numbers of the tree's order
pub rising_ranks : (places : List ℕ) (high : ℕ) → RiseWithin 0 places high → counting 0 (ranks places)
rising_ranks places high r = rising_after 0 0 high [] places (omega arith) tt r
