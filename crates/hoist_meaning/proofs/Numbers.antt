-- The calls of a rewritten source and those of the text at each place, in all, and by their numbers.
use Rattle.hoist_meaning.proofs.Common.{ℕ, zero, suc, ◌+◌, ◌<◌, ◌≡◌, refl, List, [], ◌∷◌, ◌++◌, length, arith, slice_index_or, RawItemTree, is_call, items_places, lesser, no_greater, ranks, site_numbers, RiseWithin, ranks_length, rank_is, items_hoisted, times, StandsAt, AreItemsPlain, no_greater_both}
use Rattle.hoist_meaning.proofs.StmtCounts.{items_count}

-- ---- counts that add up over lists

times_both : (at : ℕ) (xs ys : List ℕ) → times at (xs ++ ys) ≡ times at xs + times at ys
times_both at [] ys = omega arith
times_both at (x ∷ xs) ys = let rest = times_both at xs ys in omega (arith, rest)

length_both : (xs ys : List ℕ) → length (xs ++ ys) ≡ length xs + length ys
length_both [] ys = omega arith
length_both (x ∷ xs) ys = let rest = length_both xs ys in omega (arith, rest)

lesser_both : (at : ℕ) (xs ys : List ℕ) → lesser at (xs ++ ys) ≡ lesser at xs + lesser at ys
lesser_both at [] ys = omega arith
lesser_both at (x ∷ xs) ys = let rest = lesser_both at xs ys in omega (arith, rest)

pub each_stays : (items : List RawItemTree) (at : ℕ) → AreItemsPlain items → times at (items_places is_call (items_hoisted items)) ≡ times at (items_places is_call items)
each_stays items at h = items_count (times at) refl (times_both at) items h

pub many_stay : (items : List RawItemTree) → AreItemsPlain items → length (items_places is_call (items_hoisted items)) ≡ length (items_places is_call items)
many_stay items h = items_count length refl length_both items h

-- ---- by number

stands_below : (xs : List ℕ) (j at : ℕ) → StandsAt xs j at → j < length xs
stands_below [] j at h = absurd h
stands_below (x ∷ xs) zero at h = omega arith
stands_below (x ∷ xs) (suc j) at h = let rest = stands_below xs j at h in omega (arith, rest)

stands_is : (xs : List ℕ) (j at d : ℕ) → StandsAt xs j at → slice_index_or xs j d ≡ at
stands_is [] j at d h = absurd h
stands_is (x ∷ xs) zero at d h = h
stands_is (x ∷ xs) (suc j) at d h = stands_is xs j at d h

is_stands : (xs : List ℕ) (j at : ℕ) → j < length xs → slice_index_or xs j at ≡ at → StandsAt xs j at
is_stands [] j at h e = absurd (omega (arith, h))
is_stands (x ∷ xs) zero at h e = e
is_stands (x ∷ xs) (suc j) at h e = is_stands xs j at (omega (arith, h)) e

pub numbers_kept : (items : List RawItemTree) (end at j k : ℕ) → AreItemsPlain items → RiseWithin 0 (items_places is_call items) end →
    StandsAt (items_places is_call (items_hoisted items)) j at → StandsAt (items_places is_call items) k at → StandsAt (site_numbers (items_hoisted items)) j k
numbers_kept items end at j k h rise one two =
    let tree = items_places is_call (items_hoisted items) in
    let text = items_places is_call items in
    let there = stands_below tree j at one in
    let many = ranks_length [] tree in
    is_stands (ranks tree) j k (omega (arith, there, many))
    (rank_is text tree end j k k at rise (λ p. items_count (lesser p) refl (lesser_both p) items h) (λ p. items_count (no_greater p) refl (no_greater_both p) items h) there (stands_is tree j at at one)
    (stands_below text k at two) (stands_is text k at at two))
