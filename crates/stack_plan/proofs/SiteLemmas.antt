-- Call sites of operations, and the greatest value of some of them.
use Rattle.stack_plan.proofs.Common.{◌≡◌, inl, inr, ℕ, zero, suc, ◌+◌, ◌<◌, ◌≤◌, nat_le, true, false, List, [], ◌∷◌, ◌++◌, length, map, filter, refl, sym, ap, subst, ◌∙◌, arith, Option, Some, None, slice_get, slice_index_or, filter_map, cons_option, nat_tests, FlatFunction, GraphSite, greatest, call_site, call_sites_from, IsRising, has, IsAmong, by_test, has-head, has-tail}
use Rattle.std.specs.List.Sorted.{IsStrictlyIncreasing}
use Rattle.flat_code.specs.declared.operations.Op.{Op}

pub has-number : (ss : List GraphSite) (s : GraphSite) → IsAmong ss s → has s.number (map (λ (x : GraphSite). x.number) ss) ≡ true
has-number [] s among = absurd among
has-number (t ∷ ss) s among = elim among [
  | inl e ↦ subst (λ (x : GraphSite). has x.number (map (λ (y : GraphSite). y.number) (t ∷ ss)) ≡ true) e (has-head t.number (map (λ (x : GraphSite). x.number) ss))
  | inr rest ↦ has-tail s.number t.number (map (λ (x : GraphSite). x.number) ss) (has-number ss s rest)
]

pub numbers-rise : (ss : List GraphSite) → IsRising ss → IsStrictlyIncreasing (map (λ (x : GraphSite). x.number) ss)
numbers-rise (s ∷ t ∷ ss) up zero h = up.0.0
numbers-rise (s ∷ t ∷ ss) up (suc k) h =
    let one : suc k + 1 ≡ suc (k + 1) = omega arith in
    rw one (numbers-rise (t ∷ ss) up.1 k (let z : suc (k + 1) < suc (length (map (λ (x : GraphSite). x.number) (t ∷ ss))) = rw one at h in omega (arith, z)))
numbers-rise _ up k h = absurd (omega arith)

-- what is within a limit by itself has a greatest value within it
pub greatest-within : (v : GraphSite → ℕ) (weight limit : ℕ) (ss : List GraphSite) → weight ≤ limit → weight + greatest v (filter (λ s. nat_le (weight + v s) limit) ss) ≤ limit
greatest-within v weight limit [] h = omega arith
greatest-within v weight limit (s ∷ ss) h =
    let rest = greatest-within v weight limit ss h in
    by_test (nat_le (weight + v s) limit)
    (λ t. let here : weight + v s ≤ limit = grind (arith, nat_tests) in rw t (omega (arith, here, rest)))
    (λ f. rw f rest)

-- ---- the sites of operations

among-left : (xs ys : List GraphSite) (s : GraphSite) → IsAmong xs s → IsAmong (xs ++ ys) s
among-left [] ys s h = absurd h
among-left (x ∷ xs) ys s h = elim h [ inl e ↦ inl e | inr rest ↦ inr (among-left xs ys s rest) ]

among-right : (xs ys : List GraphSite) (s : GraphSite) → IsAmong ys s → IsAmong (xs ++ ys) s
among-right [] ys s h = h
among-right (x ∷ xs) ys s h = inr (among-right xs ys s h)

among-cons : (o : Option GraphSite) (xs : List GraphSite) (s : GraphSite) → IsAmong xs s → IsAmong (cons_option o xs) s
among-cons None xs s h = h
among-cons (Some x) xs s h = inr h

operation-among : (f : ℕ) (ops : List Op) (i : ℕ) (op : Op) (s : GraphSite) → slice_get ops i ≡ Some op → call_site f op ≡ Some s → IsAmong (filter_map (call_site f) ops) s
operation-among f [] i op s here call = cc
operation-among f (o ∷ ops) zero op s here call =
    let same : o ≡ op = cc in
    let first : call_site f o ≡ Some s = ap (call_site f) same ∙ call in
    subst (λ c. IsAmong (cons_option c (filter_map (call_site f) ops)) s) (sym first) (inl refl)
operation-among f (o ∷ ops) (suc i) op s here call = among-cons (call_site f o) (filter_map (call_site f) ops) s (operation-among f ops i op s here call)

-- the site of an operation of function f is among the sites of the functions
pub site-among : (base : ℕ) (fs : List FlatFunction) (f i : ℕ) (op : Op) (s : GraphSite) → slice_get (slice_index_or fs f (record { params = 0; gives = false; sizes = []; ops = [] })).ops i ≡ Some op → call_site (base + f) op ≡ Some s → IsAmong (call_sites_from base fs) s
site-among base [] f i op s here call = cc
site-among base (g ∷ gs) zero i op s here call =
    let same : base + 0 ≡ base = omega arith in
    among-left (filter_map (call_site base) g.ops) (call_sites_from (base + 1) gs) s (operation-among base g.ops i op s here (ap (λ n. call_site n op) (sym same) ∙ call))
site-among base (g ∷ gs) (suc f) i op s here call =
    let same : base + 1 + f ≡ base + suc f = omega arith in
    among-right (filter_map (call_site base) g.ops) (call_sites_from (base + 1) gs) s (site-among (base + 1) gs f i op s here (ap (λ n. call_site n op) same ∙ call))

-- a function that has the operation is there
pub function-there : (fs : List FlatFunction) (f i : ℕ) (op : Op) → slice_get (slice_index_or fs f (record { params = 0; gives = false; sizes = []; ops = [] })).ops i ≡ Some op → f < length fs
function-there [] f i op here = cc
function-there (g ∷ gs) zero i op here = omega arith
function-there (g ∷ gs) (suc f) i op here = omega (arith, function-there gs f i op here)

-- the caller of a site is the function
caller-of : (f : ℕ) (a s : GraphSite) → a.caller ≡ f → Some a ≡ Some s → s.caller ≡ f
caller-of f a s c e = let same : a ≡ s = cc in ap (λ (x : GraphSite). x.caller) (sym same) ∙ c

pub site-caller : (f : ℕ) (op : Op) (s : GraphSite) → call_site f op ≡ Some s → s.caller ≡ f
site-caller f (Op.Call site d g args) s e = caller-of f _ s refl e
site-caller f (Op.CallTable site d t i x) s e = caller-of f _ s refl e
site-caller f op s e = cc
