-- Counts of places, as they grow place by place.
use Rattle.std.proofs.Common.{ℕ, suc, ◌+◌, ◌<◌, ◌≤◌, ◌≡◌, ◌≢◌, refl, sym, ap, subst, ◌∙◌, ⊎_elim, List, [], ◌∷◌, ◌++◌, length, get_or, drop, drop-cons, add-one, append_assoc, arith, if◌then◌else◌}
use Rattle.std.specs.Prelude.{nat_eq, nat_lt, nat_le}
use Rattle.std.proofs.Math.ListN.{set, drop_of_length-le}
use Rattle.std.proofs.lemmas.Bool.{cases_lt}
use Rattle.std.proofs.lemmas.Bool.Decides.{nat_tests}
use Rattle.std.proofs.lemmas.List.{get_or-set_other, get_or-set_same, length-set, length-drop}
use Rattle.grammar_laws.proofs.RankLaws.{lesser_few, no_greater_few}
use Rattle.grammar_laws.specs.Ranks.{lesser, no_greater, ranks_after}

-- how many of these places are this one
abbrev pub equal : ℕ → List ℕ → ℕ
equal at [] = 0
equal at (p ∷ ps) = (if nat_eq p at then 1 else 0) + equal at ps

-- ---- one place

eq_same : (p : ℕ) → ◌≡◌ {A = ℕ} (if nat_eq p p then 1 else 0) 1
eq_same p = grind (arith, nat_tests)

lt_same : (p : ℕ) → ◌≡◌ {A = ℕ} (if nat_lt p p then 1 else 0) 0
lt_same p = grind (arith, nat_tests)

le_same : (p : ℕ) → ◌≡◌ {A = ℕ} (if nat_le p p then 1 else 0) 1
le_same p = grind (arith, nat_tests)

le_lt : (p k : ℕ) → k ≢ p → ◌≡◌ {A = ℕ} (if nat_le p k then 1 else 0) (if nat_lt p k then 1 else 0)
le_lt p k h = grind (arith, nat_tests)

lt_next : (p at : ℕ) → ◌≡◌ {A = ℕ} (if nat_lt p (at + 1) then 1 else 0) ((if nat_lt p at then 1 else 0) + (if nat_eq p at then 1 else 0))
lt_next p at = grind (arith, nat_tests)

eq_one : (p q : ℕ) → (if nat_eq p q then 1 else 0) ≤ 1
eq_one p q = grind (arith, nat_tests)

lt_zero : (p : ℕ) → ◌≡◌ {A = ℕ} (if nat_lt p 0 then 1 else 0) 0
lt_zero p = grind (arith, nat_tests)

-- ---- several

pub lesser_next : (at : ℕ) (ps : List ℕ) → lesser (at + 1) ps ≡ lesser at ps + equal at ps
lesser_next at [] = refl
lesser_next at (p ∷ ps) = let one = lt_next p at in let rest = lesser_next at ps in omega (arith, one, rest)

pub lesser_none : (ps : List ℕ) → lesser 0 ps ≡ 0
lesser_none [] = refl
lesser_none (p ∷ ps) = let one = lt_zero p in let rest = lesser_none ps in omega (arith, one, rest)

equal_few : (at : ℕ) (ps : List ℕ) → equal at ps ≤ length ps
equal_few at [] = omega arith
equal_few at (p ∷ ps) = let one = eq_one p at in let rest = equal_few at ps in omega (arith, one, rest)

-- ---- at the i-th place p

cut : (ps : List ℕ) (i p : ℕ) → i < length ps → p ≡ get_or ps i 0 → drop i ps ≡ p ∷ drop (i + 1) ps
cut ps i p h e = drop-cons ps i 0 h ∙ rw add-one (ap (λ y. y ∷ drop (suc i) ps) (sym e))

-- its count has room for one more
pub count_room : (ps : List ℕ) (i p n : ℕ) → i < length ps → p ≡ get_or ps i 0 → n + equal p (drop i ps) ≡ equal p ps → n + 1 ≤ length ps
count_room ps i p n h e counted =
    let here = ap (equal p) (cut ps i p h e) in
    let one = eq_same p in
    let few = equal_few p ps in
    omega (arith, here, one, few, counted)

-- at the end all are counted
pub all_counted : (ps : List ℕ) (i k n : ℕ) → length ps ≤ i → n + equal k (drop i ps) ≡ equal k ps → n ≡ equal k ps
all_counted ps i k n h counted = let none = ap (equal k) (drop_of_length-le ps {i = i} h) in omega (arith, none, counted)

-- its rank is below the number of places
pub rank_room : (ps earlier : List ℕ) (i p n : ℕ) → i < length ps → p ≡ get_or ps i 0 → length earlier ≡ i → n ≡ no_greater p earlier + lesser p (drop i ps) → n + 1 ≤ length ps
rank_room ps earlier i p n h e many is =
    let here = ap (lesser p) (cut ps i p h e) in
    let same = lt_same p in
    let few = no_greater_few p earlier in
    let less = lesser_few p (drop (i + 1) ps) in
    let rest = length-drop (i + 1) ps in
    omega (arith, here, same, few, less, rest, many, is)

-- what stands at each place once p is among the earlier
step_apart : (starts ps earlier : List ℕ) (i p n k : ℕ) → i < length ps → p ≡ get_or ps i 0 → k ≢ p → get_or starts k 0 ≡ no_greater k earlier + lesser k (drop i ps)
    → get_or (set starts p (n + 1)) k 0 ≡ no_greater k (p ∷ earlier) + lesser k (drop (i + 1) ps)
step_apart starts ps earlier i p n k h e other old =
    let new = get_or-set_other starts p k (n + 1) 0 other in
    let same = le_lt p k other in
    let here = ap (lesser k) (cut ps i p h e) in
    omega (arith, new, old, here, same)

step_same : (starts ps earlier : List ℕ) (i p n : ℕ) → i < length ps → p ≡ get_or ps i 0 → p < length starts → n ≡ get_or starts p 0 → get_or starts p 0 ≡ no_greater p earlier + lesser p (drop i ps)
    → get_or (set starts p (n + 1)) p 0 ≡ no_greater p (p ∷ earlier) + lesser p (drop (i + 1) ps)
step_same starts ps earlier i p n h e within is old =
    let new = get_or-set_same starts p (n + 1) 0 within in
    let here = ap (lesser p) (cut ps i p h e) in
    let same = lt_same p in
    let top = le_same p in
    omega (arith, new, is, old, here, same, top)

pub starts_step : (starts ps earlier : List ℕ) (i p n : ℕ) → i < length ps → p ≡ get_or ps i 0 → p < length starts → n ≡ get_or starts p 0
    → ((k : ℕ) → k < length starts → get_or starts k 0 ≡ no_greater k earlier + lesser k (drop i ps)) → (k : ℕ) → k < length (set starts p (n + 1)) → get_or (set starts p (n + 1)) k 0 ≡ no_greater k (p ∷ earlier) + lesser k (drop (i + 1) ps)
starts_step starts ps earlier i p n h e within is each k few =
    let long = length-set starts p (n + 1) in
    let less : k < length starts = omega (arith, few, long) in
    ⊎_elim
    (λ (lt : k < p). let other : k ≢ p = omega (arith, lt) in step_apart starts ps earlier i p n k h e other (each k less))
    (λ (ge : p ≤ k). ⊎_elim
    (λ (gt : p < k). let other : k ≢ p = omega (arith, gt) in step_apart starts ps earlier i p n k h e other (each k less))
    (λ (le : k ≤ p).
    let one : k ≡ p = omega (arith, ge, le) in
    let P : ℕ → Type 0 = λ x. get_or (set starts p (n + 1)) x 0 ≡ no_greater x (p ∷ earlier) + lesser x (drop (i + 1) ps) in
    subst P (sym one) (step_same starts ps earlier i p n h e within is (each p within)))
    (cases_lt p k))
    (cases_lt k p)

-- the ranks that are told, with one more
pub numbers_step : (numbers ps earlier all : List ℕ) (i p n : ℕ) → i < length ps → p ≡ get_or ps i 0 → n ≡ no_greater p earlier + lesser p (drop i ps) → numbers ++ ranks_after earlier (drop i ps) ≡ all
    → (numbers ++ n ∷ []) ++ ranks_after (p ∷ earlier) (drop (i + 1) ps) ≡ all
numbers_step numbers ps earlier all i p n h e is told =
    let here = ap (lesser p) (cut ps i p h e) in
    let same = lt_same p in
    let rank : n ≡ no_greater p earlier + lesser p (drop (i + 1) ps) = omega (arith, is, here, same) in
    append_assoc numbers (n ∷ []) (ranks_after (p ∷ earlier) (drop (i + 1) ps))
    ∙ (ap (λ x. numbers ++ x ∷ ranks_after (p ∷ earlier) (drop (i + 1) ps)) rank
    ∙ (sym (ap (λ x. numbers ++ ranks_after earlier x) (cut ps i p h e)) ∙ told))
