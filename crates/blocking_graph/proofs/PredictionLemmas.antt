-- Sums of weighted averages, and their quotients.
use Rattle.blocking_graph.proofs.Common.{to_z, of_z, FitsSigned, ◌≢◌, ◌≡◌, ℕ, ◌+◌, ◌*◌, ◌^◌, ◌≤◌, ◌<◌, Bool, true, false, cond, ◌==◌, ℤ, pos, negsuc, ◌+ℤ◌, ◌*ℤ◌, unsigned_abs, List, [], ◌∷◌, refl, arith, rules, div-le_of_le-mul, ints, unsigned_abs-mul, fits_signed_mul, to_z-of_z, w128, nat_tests, EdgeLine, floor_div, edges_from, count_of}
use Rattle.std.proofs.lemmas.List.Sums.{sum_by-cons}
use Rattle.std.proofs.lemmas.Nat.{div_below, mul-le}
use Rattle.blocking_graph.proofs.AverageLemmas.{floor_div_is}

-- a quotient of a sum of `count` numbers of that size is of that size
pub floor_div-le : (z : ℤ) (count size : ℕ) → 0 < count → unsigned_abs z ≤ count * size → unsigned_abs (floor_div z count) ≤ size
floor_div-le (pos n) count size some h = div-le_of_le-mul count h
floor_div-le (negsuc n) count size some h = div_below n count size some (grind arith)

pub ruleset quotients = (floor_div_is, floor_div-le)

pub sum-le : (a b : ℤ) (m n : ℕ) → unsigned_abs a ≤ m → unsigned_abs b ≤ n → unsigned_abs (a +ℤ b) ≤ m + n
sum-le a b m n p q = omega (arith, ints)

-- what stands past the end of the edges
abbrev pub no_edge : EdgeLine
no_edge = record { from = 0; to = 0; count = 0; cost = pos 0; change = [] }

pub weight-le : (count : ℕ) (average : ℤ) (size : ℕ) → unsigned_abs average ≤ size → unsigned_abs (pos count *ℤ average) ≤ count * size
weight-le count average size h = rw (unsigned_abs-mul (pos count) average) (mul-le count (unsigned_abs average) count size (omega arith) h)

-- the product of the code, which fits 128 bits
pub computed_weight : (count : ℕ) (average : ℤ) → count ≤ 2 ^ 40 → unsigned_abs average ≤ 2 ^ 39 →
    to_z w128 (of_z w128 (to_z w128 (of_z w128 (pos count)) *ℤ to_z w128 (of_z w128 average))) ≡ pos count *ℤ average
computed_weight count average p q =
    let n : FitsSigned w128 (pos count) = search rules in
    let a : FitsSigned w128 average = search rules in
    let m : FitsSigned w128 (pos count *ℤ average) = fits_signed_mul w128 (pos count) average (2 ^ 40) (2 ^ 39) p q (omega arith) in
    rw (to_z-of_z w128 (pos count) n, to_z-of_z w128 average a, to_z-of_z w128 (pos count *ℤ average) m)

-- one more edge, from the node or from another
pub edges_from-yes : (edge : EdgeLine) (edges : List EdgeLine) (node : ℕ) → edge.from ≡ node → edges_from (edge ∷ edges) node ≡ edge ∷ edges_from edges node
edges_from-yes edge edges node e = let same : (edge.from == node) ≡ true = grind (arith, nat_tests) in rw same refl

pub edges_from-no : (edge : EdgeLine) (edges : List EdgeLine) (node : ℕ) → edge.from ≢ node → edges_from (edge ∷ edges) node ≡ edges_from edges node
edges_from-no edge edges node e = let other : (edge.from == node) ≡ false = grind (arith, nat_tests) in rw other refl

pub count_of-cons : (edge : EdgeLine) (edges : List EdgeLine) → count_of (edge ∷ edges) ≡ edge.count + count_of edges
count_of-cons edge edges = sum_by-cons (λ e. e.count) edge edges

-- the edges from a node have no more records than all edges
within_more : (b : Bool) (edge : EdgeLine) (some all : List EdgeLine) → count_of some ≤ count_of all → count_of (cond b (edge ∷ some) some) ≤ count_of (edge ∷ all)
within_more true edge some all h = omega (arith, h, count_of-cons edge some, count_of-cons edge all)
within_more false edge some all h = omega (arith, h, count_of-cons edge all)

pub count_of-edges_from : (edges : List EdgeLine) (node : ℕ) → count_of (edges_from edges node) ≤ count_of edges
count_of-edges_from [] node = omega arith
count_of-edges_from (edge ∷ edges) node = within_more (edge.from == node) edge (edges_from edges node) edges (count_of-edges_from edges node)
