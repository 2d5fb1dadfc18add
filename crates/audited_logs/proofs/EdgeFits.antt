-- The lines of the edges fit the format, where the records of the segments do.
use Rattle.audited_logs.proofs.Common.{◌≡◌, ℕ, suc, ◌+◌, ◌^◌, ◌<◌, ◌≤◌, ℤ, unsigned_abs, cond, nat_eq, List, [], ◌∷◌, ◌++◌, length, map, fold, drop, arith, FitsSigned, w128, AllByRecursion, cond_both, fits_signed_from_abs, recursion_from_All, is_before, is_of, first_edge, next_edge, edges_with, edges_of, count_of, EdgeLine, SegmentRecord, given, shown, edge_entry, FitsEntry, FitsAverages, Entry}
use Rattle.blocking_graph.specs.Graph.{IsEdge, IsSegment}
use Rattle.blocking_graph.proofs.GraphLemmas.{IsEdge-first, IsEdge-next, count_of-edges_with}
use Rattle.blocking_graph.proofs.PredictionLemmas.{count_of-cons}

-- ---- records and edges in range

-- a record between nodes of 32 bits, of a cost below 2^40, with the changes of eight resources, of 31 bits each
pub record FitsRecord (segment : SegmentRecord) : Type 0 where
  pub from : segment.from < 2 ^ 32
  pub to : segment.to < 2 ^ 32
  pub range : IsSegment segment
  pub eight : length segment.change ≡ 8

record FitsEdge (edge : EdgeLine) : Type 0 where
  from : edge.from < 2 ^ 32
  to : edge.to < 2 ^ 32
  is : IsEdge edge

first_fits : (segment : SegmentRecord) → FitsRecord segment → FitsEdge (first_edge segment)
first_fits segment fits = record { from = fits.from; to = fits.to; is = IsEdge-first segment fits.range fits.eight }

next_fits : (edge : EdgeLine) (segment : SegmentRecord) → FitsEdge edge → FitsRecord segment → FitsEdge (next_edge edge segment)
next_fits edge segment is fits = record { from = is.from; to = is.to; is = IsEdge-next edge segment is.is fits.range fits.eight }

all_with : (edges : List EdgeLine) (segment : SegmentRecord) → AllByRecursion FitsEdge edges → FitsRecord segment → AllByRecursion FitsEdge (edges_with edges segment)
all_with [] segment all fits = (first_fits segment fits, tt)
all_with (e ∷ edges) segment all fits =
    let rest = all_with edges segment all.1 fits in
    cond_both (is_before e segment) (e ∷ edges_with edges segment) (cond (is_of e segment) (next_edge e segment ∷ edges) (first_edge segment ∷ e ∷ edges)) (AllByRecursion FitsEdge)
    (λ _. (all.0, rest))
    (λ _. cond_both (is_of e segment) (next_edge e segment ∷ edges) (first_edge segment ∷ e ∷ edges) (AllByRecursion FitsEdge)
    (λ _. (next_fits e segment all.0 fits, all.1))
    (λ _. (first_fits segment fits, all)))

all_from : (edges : List EdgeLine) (records : List SegmentRecord) → AllByRecursion FitsEdge edges → AllByRecursion FitsRecord records → AllByRecursion FitsEdge (fold edges_with edges records)
all_from edges [] all fits = all
all_from edges (r ∷ records) all fits = all_from (edges_with edges r) records (all_with edges r all fits.0) fits.1

count_from : (edges : List EdgeLine) (records : List SegmentRecord) → count_of (fold edges_with edges records) ≡ count_of edges + length records
count_from edges [] = omega arith
count_from edges (r ∷ records) = let rest = count_from (edges_with edges r) records in let one = count_of-edges_with edges r in omega (arith, rest, one)

-- ---- the lines

average_fits : (average : ℤ) → unsigned_abs average ≤ 2 ^ 48 → FitsSigned w128 average
average_fits average h = fits_signed_from_abs w128 average (omega (arith, h))

small_fit : (averages : List ℤ) → AllByRecursion (λ average. unsigned_abs average ≤ 2 ^ 39) averages → AllByRecursion (FitsSigned w128) averages
small_fit [] all = tt
small_fit (a ∷ averages) all = (let small = all.0 in average_fits a (omega (arith, small)), small_fit averages all.1)

given_fits : (P : ℤ → Type 0) (caps : List ℕ) (averages : List ℤ) → AllByRecursion P averages → AllByRecursion P (given caps averages) × (length (given caps averages) ≤ length averages)
given_fits P (cap ∷ caps) (a ∷ averages) all =
    let rest = given_fits P caps averages all.1 in
    let short = rest.1 in
    cond_both (nat_eq cap 0) (given caps averages) (a ∷ given caps averages) (λ (xs : List ℤ). AllByRecursion P xs × (length xs ≤ suc (length averages)))
    (λ _. (rest.0, omega (arith, short)))
    (λ _. ((all.0, rest.0), omega (arith, short)))
given_fits P _ _ all = (tt, omega arith)

shown_fits : (caps : List ℕ) (change : List ℤ) → length change ≡ 8 → AllByRecursion (FitsSigned w128) change → FitsAverages (shown caps change)
shown_fits caps [] eight all = absurd (omega (arith, eight))
shown_fits caps (a ∷ averages) eight all =
    let rest = given_fits (FitsSigned w128) (drop 1 caps) averages all.1 in
    let short = rest.1 in
    (omega arith, omega (arith, short, eight), (all.0, rest.0))

line_fits : (caps : List ℕ) (edge : EdgeLine) → FitsEdge edge → edge.count < 2 ^ 64 → FitsEntry (edge_entry caps edge)
line_fits caps edge is few =
    (is.from, is.to, few, average_fits edge.cost is.is.cost, shown_fits caps edge.change is.is.eight (small_fit edge.change (recursion_from_All (λ average. unsigned_abs average ≤ 2 ^ 39) edge.change is.is.changes)))

lines_fit : (caps : List ℕ) (edges : List EdgeLine) → AllByRecursion FitsEdge edges → count_of edges < 2 ^ 64 → (more : List Entry) → AllByRecursion FitsEntry more → AllByRecursion FitsEntry (map (edge_entry caps) edges ++ more)
lines_fit caps [] all few more rest = rest
lines_fit caps (e ∷ edges) all few more rest =
    let sum = count_of-cons e edges in
    (line_fits caps e all.0 (omega (arith, sum, few)), lines_fit caps edges all.1 (omega (arith, sum, few)) more rest)

-- the lines of the edges of records in range, and of no more than a cost can make
pub edges_fit : (caps : List ℕ) (records : List SegmentRecord) → AllByRecursion FitsRecord records → length records < 2 ^ 64 → (more : List Entry) → AllByRecursion FitsEntry more → AllByRecursion FitsEntry (map (edge_entry caps) (edges_of records) ++ more)
edges_fit caps records all few more rest =
    let count : count_of (edges_of records) ≡ 0 + length records = count_from [] records in
    lines_fit caps (edges_of records) (all_from [] records tt all) (omega (arith, count, few)) more rest
