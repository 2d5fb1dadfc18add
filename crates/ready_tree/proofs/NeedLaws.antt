-- A join's needs are met where those of one of the two are.
use Rattle.ready_tree.proofs.Common.{◌≡◌, ◌≢◌, ℕ, zero, suc, ◌<◌, Bool, true, false, ◌||◌, ◌&&◌, ◌==◌, not, nat_le, nat_lt, min, max, List, refl, ◌∙◌, sym, ap, subst, ◌⊎◌, inl, inr, arith, ◌+◌, slice_index, bit_and, bit_or, nat_tests, Bounds, Needs, is_shared, is_same_need, fits_first, is_some_met, IsJoin, or_left, and_parts, or_right}
use Rattle.std.proofs.lemmas.Nat.Bits.{bit_at_and, bit_at_or, same_from_bits, bit_at-zero}
use Rattle.std.specs.Int.{bit_at}
use Rattle.ready_tree.specs.declared.needs.Need.{Need}

-- ---- tests

pub or_swap : (a b c d : Bool) → ((a || b) || (c || d)) ≡ ((a || c) || (b || d))
or_swap true b c d = refl
or_swap false true true d = refl
or_swap false true false d = refl
or_swap false false c d = refl

-- one more part of a join
pub or_part : (a b c d e : Bool) → e ≡ (c || d) → ((a || b) || e) ≡ ((a || c) || (b || d))
or_part a b c d e same = rw same (or_swap a b c d)

pub and_part : (a b c : Bool) → (a && (b || c)) ≡ ((a && b) || (a && c))
and_part true b c = refl
and_part false b c = refl

pub le_part : (a b c : ℕ) → nat_le (min a b) c ≡ (nat_le a c || nat_le b c)
le_part a b c = grind (arith, nat_tests)

-- ---- channels

min_over : (a b c : ℕ) → min a (max b c) ≡ max (min a b) (min a c)
min_over a b c = omega arith

or_over : (a b c : ℕ) → bit_and a (bit_or b c) ≡ bit_or (bit_and a b) (bit_and a c)
or_over a b c = same_from_bits (bit_and a (bit_or b c)) (bit_or (bit_and a b) (bit_and a c)) (λ i.
    bit_at_and a (bit_or b c) i ∙ ap (λ n. min (bit_at a i) n) (bit_at_or b c i) ∙ min_over (bit_at a i) (bit_at b i) (bit_at c i)
    ∙ sym (bit_at_or (bit_and a b) (bit_and a c) i ∙ ap (λ n. max n (bit_at (bit_and a c) i)) (bit_at_and a b i) ∙ ap (λ n. max (min (bit_at a i) (bit_at b i)) n) (bit_at_and a c i)))

none_of_max : (a b : ℕ) → max a b ≡ 0 → a ≡ 0
none_of_max a b e = omega arith

none_left : (a b : ℕ) → bit_or a b ≡ 0 → a ≡ 0
none_left a b e = same_from_bits a 0 (λ i.
    none_of_max (bit_at a i) (bit_at b i) (sym (bit_at_or a b i) ∙ ap (λ n. bit_at n i) e ∙ bit_at-zero i) ∙ sym (bit_at-zero i))

not_zero : (a : ℕ) → a ≢ 0 → not (a == 0) ≡ true
not_zero a some = grind (arith, nat_tests)

some_of_or : (a b : ℕ) → not (bit_or a b == 0) ≡ (not (a == 0) || not (b == 0))
some_of_or zero b = refl
some_of_or (suc a) b =
    not_zero (bit_or (suc a) b) (λ e. let f : suc a ≡ 0 = none_left (suc a) b e in absurd (omega arith))
    ∙ sym (or_left (not (suc a == 0)) (not (b == 0)) (not_zero (suc a) (λ e. absurd (omega arith))))

pub shared_part : (a b c : ℕ) → is_shared a (bit_or b c) ≡ (is_shared a b || is_shared a c)
shared_part a b c = ap (λ n. not (n == 0)) (or_over a b c) ∙ some_of_or (bit_and a b) (bit_and a c)

-- ---- amounts

pub fits_part : (least amounts others unused : List ℕ) (count : ℕ) →
    ((r : ℕ) → r < count → slice_index least r ≡ min (slice_index amounts r) (slice_index others r)) →
    fits_first least unused count ≡ (fits_first amounts unused count || fits_first others unused count)
unfolding fits_first
fits_part least amounts others unused zero lesser = refl
fits_part least amounts others unused (suc r) lesser =
    ap (λ b. b || nat_le (slice_index least r) (slice_index unused r)) (fits_part least amounts others unused r (λ k h. lesser k (omega arith)))
    ∙ or_part (fits_first amounts unused r) (fits_first others unused r) (nat_le (slice_index amounts r) (slice_index unused r)) (nat_le (slice_index others r) (slice_index unused r))
    (nat_le (slice_index least r) (slice_index unused r)) (ap (λ n. nat_le n (slice_index unused r)) (lesser r (omega arith)) ∙ le_part (slice_index amounts r) (slice_index others r) (slice_index unused r))

last_or_before : (r count : ℕ) → r < suc count → (r ≡ count) ⊎ (r < count)
last_or_before r count below = grind arith

one_of_last : (amounts unused : List ℕ) (count r : ℕ) → (r ≡ count) ⊎ (r < count) → nat_le (slice_index amounts r) (slice_index unused r) ≡ true →
    (r < count → fits_first amounts unused count ≡ true) → (fits_first amounts unused count || nat_le (slice_index amounts count) (slice_index unused count)) ≡ true
one_of_last amounts unused count r (inl last) fits before =
    or_right (fits_first amounts unused count) (nat_le (slice_index amounts count) (slice_index unused count)) (subst (λ (k : ℕ). nat_le (slice_index amounts k) (slice_index unused k) ≡ true) last fits)
one_of_last amounts unused count r (inr more) fits before =
    or_left (fits_first amounts unused count) (nat_le (slice_index amounts count) (slice_index unused count)) (before more)

-- where one amount is unused, some is
pub one_fits : (amounts unused : List ℕ) (count r : ℕ) → r < count → nat_le (slice_index amounts r) (slice_index unused r) ≡ true → fits_first amounts unused count ≡ true
unfolding fits_first
one_fits amounts unused zero r below fits = absurd (omega arith)
one_fits amounts unused (suc count) r below fits =
    one_of_last amounts unused count r (last_or_before r count below) fits (λ more. one_fits amounts unused count r more fits)

-- ---- the same need

pub eq_true : (a b : ℕ) → (a == b) ≡ true → a ≡ b
eq_true a b e = grind (arith, nat_tests)

pub same_need : (one other : Need) → is_same_need one other ≡ true → one ≡ other
same_need Need.Nothing Need.Arrival e = absurd (let f : false ≡ true = e in cc)
same_need Need.Nothing (Need.Event c f) e = absurd (let f : false ≡ true = e in cc)
same_need Need.Nothing (Need.Amount r a) e = absurd (let f : false ≡ true = e in cc)
same_need Need.Arrival Need.Nothing e = absurd (let f : false ≡ true = e in cc)
same_need Need.Arrival (Need.Event c f) e = absurd (let f : false ≡ true = e in cc)
same_need Need.Arrival (Need.Amount r a) e = absurd (let f : false ≡ true = e in cc)
same_need (Need.Event c f) Need.Nothing e = absurd (let f : false ≡ true = e in cc)
same_need (Need.Event c f) Need.Arrival e = absurd (let f : false ≡ true = e in cc)
same_need (Need.Event c f) (Need.Event d g) e =
    let both = and_parts (c == d) (f == g) e in
    ap (λ (n : ℕ). Need.Event n f) (eq_true c d both.0) ∙ ap (λ (n : ℕ). Need.Event d n) (eq_true f g both.1)
same_need (Need.Event c f) (Need.Amount r a) e = absurd (let f : false ≡ true = e in cc)
same_need (Need.Amount r a) Need.Nothing e = absurd (let f : false ≡ true = e in cc)
same_need (Need.Amount r a) Need.Arrival e = absurd (let f : false ≡ true = e in cc)
same_need (Need.Amount r a) (Need.Event c f) e = absurd (let f : false ≡ true = e in cc)
same_need (Need.Amount r a) (Need.Amount s b) e =
    let both = and_parts (r == s) (a == b) e in
    ap (λ (n : ℕ). Need.Amount n a) (eq_true r s both.0) ∙ ap (λ (n : ℕ). Need.Amount s n) (eq_true a b both.1)
same_need _ _ e = refl

eq_self : (a b : ℕ) → (a == a && b == b) ≡ true
eq_self a b = grind (arith, nat_tests)

pub need_self : (need : Need) → is_same_need need need ≡ true
need_self (Need.Event c f) = eq_self c f
need_self (Need.Amount r a) = eq_self r a
need_self _ = refl

-- ---- what code adds up

pub fits_none : (amounts unused : List ℕ) → false ≡ fits_first amounts unused 0
unfolding fits_first
fits_none amounts unused = refl

fits_more : (amounts unused : List ℕ) (r : ℕ) → fits_first amounts unused (r + 1) ≡ (fits_first amounts unused r || nat_le (slice_index amounts r) (slice_index unused r))
unfolding fits_first
fits_more amounts unused r = let e : r + 1 ≡ suc r = omega arith in ap (fits_first amounts unused) e

pub fits_then : (amounts unused : List ℕ) (r : ℕ) (so_far : Bool) → so_far ≡ fits_first amounts unused r → so_far ≡ true → true ≡ fits_first amounts unused (r + 1)
fits_then amounts unused r so_far is met =
    sym (fits_more amounts unused r ∙ or_left (fits_first amounts unused r) (nat_le (slice_index amounts r) (slice_index unused r)) (sym is ∙ met))

no_left : (a b : Bool) → a ≡ false → (a || b) ≡ b
no_left true b e = absurd (cc)
no_left false b e = refl

pub fits_else : (amounts unused : List ℕ) (r : ℕ) (so_far : Bool) → so_far ≡ fits_first amounts unused r → so_far ≡ false → nat_le (slice_index amounts r) (slice_index unused r) ≡ fits_first amounts unused (r + 1)
fits_else amounts unused r so_far is none =
    sym (fits_more amounts unused r ∙ no_left (fits_first amounts unused r) (nat_le (slice_index amounts r) (slice_index unused r)) (sym is ∙ none))

-- ---- joins

pub join_is : (joined left right : Needs) → joined.nothing ≡ (left.nothing || right.nothing) → joined.arrival ≡ (left.arrival || right.arrival) → joined.channels ≡ bit_or left.channels right.channels →
    joined.from ≡ min left.from right.from → ((r : ℕ) → r < 8 → slice_index joined.amounts r ≡ min (slice_index left.amounts r) (slice_index right.amounts r)) → IsJoin joined left right
unfolding is_some_met
join_is joined left right nothing arrival channels from amounts = record {
  met = λ bounds.
      rw (nothing, arrival, channels, from, and_part bounds.arrival left.arrival right.arrival, shared_part bounds.channels left.channels right.channels, le_part left.from right.from bounds.clock)
      (or_part left.nothing right.nothing _ _ _
      (or_part (bounds.arrival && left.arrival) (bounds.arrival && right.arrival) _ _ _
      (or_part (is_shared bounds.channels left.channels) (is_shared bounds.channels right.channels) _ _ _
      (or_part (nat_le left.from bounds.clock) (nat_le right.from bounds.clock) _ _ _
      (fits_part joined.amounts left.amounts right.amounts bounds.unused 8 amounts)))));
}

-- ---- the needs of one thread

pub of_nothing : (bounds : Bounds) (needs : Needs) → needs.nothing ≡ true → is_some_met bounds needs ≡ true
unfolding is_some_met
of_nothing bounds needs e = or_left needs.nothing _ e

pub of_arrival : (bounds : Bounds) (needs : Needs) → bounds.arrival ≡ true → needs.arrival ≡ true → is_some_met bounds needs ≡ true
unfolding is_some_met
of_arrival bounds needs waits e = or_right needs.nothing _ (or_left (bounds.arrival && needs.arrival) _ (rw (waits, e) refl))

or_both : (a b c : Bool) → (a || b) ≡ true → (a || (b || c)) ≡ true
or_both true b c e = refl
or_both false b c e = or_left b c e

pub of_event : (bounds : Bounds) (needs : Needs) → (is_shared bounds.channels needs.channels || nat_le needs.from bounds.clock) ≡ true → is_some_met bounds needs ≡ true
unfolding is_some_met
of_event bounds needs e = or_right needs.nothing _ (or_right (bounds.arrival && needs.arrival) _ (or_both (is_shared bounds.channels needs.channels) (nat_le needs.from bounds.clock) _ e))

below_by : (r : ℕ) → nat_lt r 8 ≡ true → r < 8
below_by r e = grind (arith, nat_tests)

pub of_amount : (bounds : Bounds) (needs : Needs) (r amount : ℕ) → (r < 8 → slice_index needs.amounts r ≡ amount) → (nat_lt r 8 && nat_le amount (slice_index bounds.unused r)) ≡ true → is_some_met bounds needs ≡ true
unfolding is_some_met
of_amount bounds needs r amount only met =
    let both = and_parts (nat_lt r 8) (nat_le amount (slice_index bounds.unused r)) met in
    let below : r < 8 = below_by r both.0 in
    or_right needs.nothing _ (or_right (bounds.arrival && needs.arrival) _ (or_right (is_shared bounds.channels needs.channels) _ (or_right (nat_le needs.from bounds.clock) _
    (one_fits needs.amounts bounds.unused 8 r below (rw (only below) both.1)))))
