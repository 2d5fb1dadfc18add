-- The circles that are told are all circles, and nothing else.
use Rattle.std.proofs.Common.{◌≡◌, ◌∙◌, ℕ, zero, suc, ◌+◌, ◌-◌, ◌<◌, ◌≤◌, ◌⊎◌, inl, inr, Bool, true, false, List, [], ◌∷◌, ◌++◌, length, refl, sym, ap, subst, arith, append_assoc, nat_lt, All, Contains}
use Rattle.std.specs.Prelude.{◌&&◌, if◌then◌else◌}
use Rattle.std.proofs.lemmas.List.{append-nil}
use Rattle.std.proofs.lemmas.List.Elements.{Contains-append_left, Contains-append_right, Contains-append_cases, Contains-push_cases, Contains-push, Contains-get_or}
use Rattle.std.proofs.lemmas.Bool.{ltb-true, lt-ltb, and_parts, and_from}
use Rattle.wait_circles.specs.declared.steps.Step.{Step}
use Rattle.wait_circles.specs.Circles.{IsCircle, leads, leads_back, may_go}
use Rattle.wait_circles.specs.Ways.{closing, each_below, ways, ways_by}

-- ---- what a test lets through

kept-to : (b : Bool) (xs : List (List ℕ)) (c : List ℕ) → Contains (if b then xs else []) c → (b ≡ true) × Contains xs c
kept-to true xs c h = (refl, h)
kept-to false xs c h = absurd (omega (arith, h.1))

kept-from : (b : Bool) (xs : List (List ℕ)) (c : List ℕ) → b ≡ true → Contains xs c → Contains (if b then xs else []) c
kept-from true xs c e h = h
kept-from false xs c e h = absurd cc

-- ---- what is told of each number below some

below-to : (f : ℕ → List (List ℕ)) (n : ℕ) (c : List ℕ) → Contains (each_below f n) c → (k : ℕ) × (k < n) × Contains (f k) c
below-to f zero c h = absurd (omega (arith, h.1))
below-to f (suc n) c h = elim (Contains-append_cases (each_below f n) (f n) c h) [
  | inl before ↦ let found = below-to f n c before in (found.0, omega (arith, found.1), found.2)
  | inr here ↦ (n, omega arith, here)
]

last-or-before : (k n : ℕ) → k < suc n → (k < n) ⊎ (k ≡ n)
last-or-before zero zero h = inr refl
last-or-before zero (suc n) h = inl (omega arith)
last-or-before (suc k) zero h = absurd (omega (arith, h))
last-or-before (suc k) (suc n) h = elim (last-or-before k n (omega (arith, h))) [ inl below ↦ inl (omega (arith, below)) | inr same ↦ inr (ap suc same) ]

below-from : (f : ℕ → List (List ℕ)) (n : ℕ) (c : List ℕ) (k : ℕ) → k < n → Contains (f k) c → Contains (each_below f n) c
below-from f zero c k lt h = absurd (omega (arith, lt))
below-from f (suc n) c k lt h = elim (last-or-before k n lt) [
  | inl below ↦ Contains-append_left (each_below f n) (f n) c (below-from f n c k below h)
  | inr same ↦ Contains-append_right (each_below f n) (f n) c (subst (λ m. Contains (f m) c) same h)
]

-- ---- a path that closes

single-to : (path c : List ℕ) → Contains (path ∷ []) c → path ≡ c
single-to path c h = elim (Contains-push_cases [] path c h) [ inl none ↦ absurd (omega (arith, none.1)) | inr same ↦ same ]

closing-to : (steps : List Step) (first last : ℕ) (path c : List ℕ) → Contains (closing steps first last path) c → (c ≡ path ++ []) × (leads steps last first ≡ true)
closing-to steps first last path c h =
    let kept = kept-to (leads steps last first) (path ∷ []) c h in
    (sym (single-to path c kept.1) ∙ sym (append-nil path), kept.0)

closing-from : (steps : List Step) (first last : ℕ) (path : List ℕ) → leads steps last first ≡ true → Contains (closing steps first last path) (path ++ [])
closing-from steps first last path h =
    subst (λ c. Contains (closing steps first last path) c) (sym (append-nil path)) (kept-from (leads steps last first) (path ∷ []) path h (Contains-push [] path))

-- ---- all that goes on from a path

pub ways-to : (left : ℕ) (steps : List Step) (first last : ℕ) (path c : List ℕ) → Contains (ways left steps first last path) c → (rest : List ℕ) × (c ≡ path ++ rest) × (length rest ≤ left) × (leads_back steps first last path rest ≡ true)
ways-to zero steps first last path c h =
    let closed = closing-to steps first last path c h in ([], closed.0, omega arith, closed.1)
ways-to (suc left) steps first last path c h = elim (Contains-append_cases (closing steps first last path) (each_below (ways_by left steps first last path) 8) c h) [
  | inl here ↦ let closed = closing-to steps first last path c here in ([], closed.0, omega arith, closed.1)
  | inr far ↦
      let found = below-to (ways_by left steps first last path) 8 c far in
      let goes = kept-to (may_go steps first last path found.0) (ways left steps first found.0 (path ++ found.0 ∷ [])) c found.2 in
      let on = ways-to left steps first found.0 (path ++ found.0 ∷ []) c goes.1 in (
        found.0 ∷ on.0,
        on.1 ∙ append_assoc path (found.0 ∷ []) on.0,
        (let short : length on.0 ≤ left = on.2 in omega (arith, short)),
        and_from (nat_lt found.0 8 && may_go steps first last path found.0) (leads_back steps first found.0 (path ++ found.0 ∷ []) on.0)
            (and_from (nat_lt found.0 8) (may_go steps first last path found.0) (lt-ltb found.0 8 found.1) goes.0) on.3,
      )
]

pub ways-from : (left : ℕ) (steps : List Step) (first last : ℕ) (path rest : List ℕ) → length rest ≤ left → leads_back steps first last path rest ≡ true → Contains (ways left steps first last path) (path ++ rest)
ways-from zero steps first last path [] short h = closing-from steps first last path h
ways-from zero steps first last path (next ∷ rest) short h = absurd (omega (arith, short))
ways-from (suc left) steps first last path [] short h =
    Contains-append_left (closing steps first last path) (each_below (ways_by left steps first last path) 8) (path ++ []) (closing-from steps first last path h)
ways-from (suc left) steps first last path (next ∷ rest) short h =
    let outer = and_parts (nat_lt next 8 && may_go steps first last path next) (leads_back steps first next (path ++ next ∷ []) rest) h in
    let inner = and_parts (nat_lt next 8) (may_go steps first last path next) outer.0 in
    let far = ways-from left steps first next (path ++ next ∷ []) rest (omega (arith, short)) outer.1 in
    let moved = subst (λ c. Contains (ways left steps first next (path ++ next ∷ [])) c) (append_assoc path (next ∷ []) rest) far in
    Contains-append_right (closing steps first last path) (each_below (ways_by left steps first last path) 8) (path ++ next ∷ rest)
    (below-from (ways_by left steps first last path) 8 (path ++ next ∷ rest) next (ltb-true next 8 inner.0)
    (kept-from (may_go steps first last path next) (ways left steps first next (path ++ next ∷ [])) (path ++ next ∷ rest) inner.1 moved))

-- ---- all circles

-- the circles whose least resource this is
abbrev pub begins : List Step → ℕ → List (List ℕ)
begins steps first = ways 7 steps first first (first ∷ [])

circle-to : (steps : List Step) (first : ℕ) (c : List ℕ) → first < 8 → Contains (begins steps first) c → IsCircle steps c
circle-to steps first c low h =
    let found = ways-to 7 steps first first (first ∷ []) c h in
    subst (λ l. IsCircle steps l) (sym found.1) (low, found.2, found.3)

pub told-is : (steps : List Step) (c : List ℕ) → Contains (each_below (begins steps) 8) c → IsCircle steps c
told-is steps c h = let found = below-to (begins steps) 8 c h in circle-to steps found.0 c found.1 found.2

pub each-told : (steps : List Step) (c : List ℕ) → IsCircle steps c → Contains (each_below (begins steps) 8) c
each-told steps [] h = absurd h
each-told steps (first ∷ rest) h =
    below-from (begins steps) 8 (first ∷ rest) first h.0 (ways-from 7 steps first first (first ∷ []) rest h.1 h.2)

pub all-told : (steps : List Step) → All (IsCircle steps) (each_below (begins steps) 8)
all-told steps = λ k d below. told-is steps _ (Contains-get_or (each_below (begins steps) 8) k d below)

-- one step of the loops
pub below-more : (f : ℕ → List (List ℕ)) (n : ℕ) → each_below f (n + 1) ≡ each_below f n ++ f n
below-more f n = let same : n + 1 ≡ suc n = omega arith in ap (each_below f) same

pub ways-more : (left : ℕ) (steps : List Step) (first last : ℕ) (path : List ℕ) → 1 ≤ left →
    ways left steps first last path ≡ closing steps first last path ++ each_below (ways_by (left - 1) steps first last path) 8
ways-more zero steps first last path h = absurd (omega (arith, h))
ways-more (suc left) steps first last path h =
    let same : left ≡ suc left - 1 = omega arith in ap (λ n. closing steps first last path ++ each_below (ways_by n steps first last path) 8) same

-- what `follow` appends in all
pub follow_is : (left : ℕ) (steps : List Step) (first last : ℕ) (path : List ℕ) (old closed now : List (List ℕ)) (n : ℕ) → 1 ≤ left → n ≡ 8 →
    closed ≡ old ++ closing steps first last path → now ≡ closed ++ each_below (ways_by (left - 1) steps first last path) n →
    now ≡ old ++ ways left steps first last path
follow_is left steps first last path old closed now n some all was is =
    is ∙ (ap (λ k. closed ++ each_below (ways_by (left - 1) steps first last path) k) all
    ∙ (ap (λ l. l ++ each_below (ways_by (left - 1) steps first last path) 8) was
    ∙ (append_assoc old (closing steps first last path) (each_below (ways_by (left - 1) steps first last path) 8)
    ∙ ap (λ l. old ++ l) (sym (ways-more left steps first last path some)))))

-- what `circles_of` tells in all
pub told_all : (steps : List Step) (found : List (List ℕ)) (n : ℕ) → n ≡ 8 → found ≡ each_below (begins steps) n → All (IsCircle steps) found
told_all steps found n all is = subst (λ l. All (IsCircle steps) l) (sym (is ∙ ap (each_below (begins steps)) all)) (all-told steps)

pub told_each : (steps : List Step) (found : List (List ℕ)) (n : ℕ) (c : List ℕ) → n ≡ 8 → found ≡ each_below (begins steps) n → IsCircle steps c → Contains found c
told_each steps found n c all is h = subst (λ l. Contains l c) (sym (is ∙ ap (each_below (begins steps)) all)) (each-told steps c h)
