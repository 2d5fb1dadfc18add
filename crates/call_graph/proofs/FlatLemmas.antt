-- The call graph of a flat program keeps what a graph keeps.
use Rattle.call_graph.proofs.Common.{◌≡◌, ℕ, suc, ◌+◌, ◌<◌, ◌≤◌, ◌^◌, false, List, [], ◌∷◌, ◌++◌, length, map, get_or, refl, sym, ap, subst, arith, nat_tests, length-map, get_or-map, All-from_recursion, recursion_from_All, AllPairs-from_increasing, All-permutation, IsPermutation-map, AllByRecursion, IsDistinct, filter_map, cons_option, flat_map, IsPermutation, IsNonDecreasingBy, IsNonDecreasing, eqb, GraphSite, Function, Table, call_site, call_sites_from, All-weaker, All-append}
use Rattle.std.proofs.lemmas.Map.Keys.{IsDistinct-head, IsDistinct-tail, IsDistinct-cons, IsDistinct-IsPermutation, IsStrictlyIncreasing-from_distinct}
use Rattle.flat_code.specs.declared.operations.Op.{Op}
use Rattle.flat_code.specs.declared.functions.FlatFunction.{FlatFunction}
use Rattle.flat_code.specs.Codes.{FlatCode, site_of}
use Rattle.flat_code.specs.WellFormed.{context_of, signature_of, IsOperation, IsFunction, IsWellFormed, site_numbers}
use Rattle.cap_word.specs.Signatures.{IsMember, IsTable}
use Rattle.call_graph.specs.Graph.{IsTargetOf, IsSiteOf, IsRising, IsCallGraph, IsUnsortedGraph}
use Rattle.call_graph.proofs.ListLemmas.{all-at}

-- ---- numbers that are some of others, in their order

pub data IsPart : List ℕ → List ℕ → Type 0 where
  none : IsPart [] []
  keep : {x : ℕ} {xs ys : List ℕ} → IsPart xs ys → IsPart (x ∷ xs) (x ∷ ys)
  skip : {y : ℕ} {xs ys : List ℕ} → IsPart xs ys → IsPart xs (y ∷ ys)

part-all : (P : ℕ → Type 0) (xs ys : List ℕ) → IsPart xs ys → AllByRecursion P ys → AllByRecursion P xs
part-all P [] [] none all = tt
part-all P (x ∷ xs) (x' ∷ ys) (keep part) all = (all.0, part-all P xs ys part all.1)
part-all P xs (y ∷ ys) (skip part) all = part-all P xs ys part all.1
part-all P (x ∷ xs) [] part all = elim part [ ]

pub part-distinct : (xs ys : List ℕ) → IsPart xs ys → IsDistinct eqb ys → IsDistinct eqb xs
part-distinct [] [] none distinct = distinct
part-distinct (x ∷ xs) (x' ∷ ys) (keep part) distinct =
    IsDistinct-cons eqb x xs (part-all (λ y. eqb x y ≡ false) xs ys part (IsDistinct-head eqb x ys distinct)) (part-distinct xs ys part (IsDistinct-tail eqb x ys distinct))
part-distinct xs (y ∷ ys) (skip part) distinct = part-distinct xs ys part (IsDistinct-tail eqb y ys distinct)
part-distinct (x ∷ xs) [] part distinct = elim part [ ]

part-append : (xs ys us vs : List ℕ) → IsPart xs ys → IsPart us vs → IsPart (xs ++ us) (ys ++ vs)
part-append [] [] us vs none more = more
part-append (x ∷ xs) (x' ∷ ys) us vs (keep part) more = keep (part-append xs ys us vs part more)
part-append xs (y ∷ ys) us vs (skip part) more = skip (part-append xs ys us vs part more)
part-append (x ∷ xs) [] us vs part more = elim part [ ]

abbrev pub numbers : List GraphSite → List ℕ
numbers ss = map (λ s. s.number) ss

pub numbers-append : (xs ys : List GraphSite) → numbers (xs ++ ys) ≡ numbers xs ++ numbers ys
numbers-append [] ys = refl
numbers-append (x ∷ xs) ys = ap (λ (ns : List ℕ). x.number ∷ ns) (numbers-append xs ys)

-- the numbers of a caller's call sites are some of those of its sites
pub part-op : (caller : ℕ) (op : Op) (ss : List GraphSite) (ns : List ℕ) → IsPart (numbers ss) ns → IsPart (numbers (cons_option (call_site caller op) ss)) (cons_option (site_of op) ns)
part-op caller (Op.Call site d f args) ss ns part = keep part
part-op caller (Op.CallTable site d t i s) ss ns part = keep part
part-op caller (Op.Model site d n args) ss ns part = skip part
part-op caller (Op.Spawn site d f s) ss ns part = skip part
part-op caller _ ss ns part = part

pub part-ops : (caller : ℕ) (ops : List Op) → IsPart (numbers (filter_map (call_site caller) ops)) (filter_map site_of ops)
part-ops caller [] = none
part-ops caller (op ∷ ops) = part-op caller op (filter_map (call_site caller) ops) (filter_map site_of ops) (part-ops caller ops)

pub part-functions : (caller : ℕ) (fs : List FlatFunction) → IsPart (numbers (call_sites_from caller fs)) (flat_map (λ f. filter_map site_of f.ops) fs)
part-functions caller [] = none
part-functions caller (f ∷ fs) =
    rw (numbers-append (filter_map (call_site caller) f.ops) (call_sites_from (caller + 1) fs))
    (part-append (numbers (filter_map (call_site caller) f.ops)) (filter_map site_of f.ops) (numbers (call_sites_from (caller + 1) fs)) (flat_map (λ g. filter_map site_of g.ops) fs)
    (part-ops caller f.ops) (part-functions (caller + 1) fs))

-- ---- sites of a well formed program

module _ (code : FlatCode) (formed : IsWellFormed code) where
  abbrev count : ℕ
  count = length code.functions

  signatures-count : length (map signature_of code.functions) ≡ count
  signatures-count = length-map code.functions signature_of

  members-below : (row : List ℕ) → AllByRecursion (IsMember (map signature_of code.functions)) row → AllByRecursion (λ f. f < count) row
  members-below row all = All-weaker (IsMember (map signature_of code.functions)) (λ f. f < count) (λ f member. omega (arith, member.0, signatures-count)) row all

  tables-below : (tables : List (List ℕ)) → AllByRecursion (IsTable (map signature_of code.functions)) tables → AllByRecursion (λ row. AllByRecursion (λ f. f < count) row) tables
  tables-below tables all = All-weaker (IsTable (map signature_of code.functions)) (λ row. AllByRecursion (λ f. f < count) row) (λ row table. members-below row table.1) tables all

  table-target : (t : ℕ) → t < length code.tables → IsTargetOf count code.tables (Table t)
  table-target t lt =
      let table = all-at (IsTable (map signature_of code.functions)) code.tables t [] formed.tables lt in
      record { some = omega (arith, table.0); all = members-below (get_or code.tables t []) table.1 }

  op-site : (function : FlatFunction) (caller : ℕ) (op : Op) (ss : List GraphSite) → caller < count → IsOperation (context_of code function) op →
      AllByRecursion (IsSiteOf count code.tables) ss → AllByRecursion (IsSiteOf count code.tables) (cons_option (call_site caller op) ss)
  op-site function caller (Op.Call site d f args) ss lt is all =
      (record { caller = lt; target = record { some = omega arith; all = (omega (arith, is.0, signatures-count), tt) } }, all)
  op-site function caller (Op.CallTable site d t i s) ss lt is all = (record { caller = lt; target = table-target t is.0 }, all)
  op-site function caller _ ss lt is all = all

  ops-sites : (function : FlatFunction) (caller : ℕ) (ops : List Op) → caller < count → AllByRecursion (IsOperation (context_of code function)) ops →
      AllByRecursion (IsSiteOf count code.tables) (filter_map (call_site caller) ops)
  ops-sites function caller [] lt all = tt
  ops-sites function caller (op ∷ ops) lt all = op-site function caller op (filter_map (call_site caller) ops) lt all.0 (ops-sites function caller ops lt all.1)

  functions-sites : (caller : ℕ) (fs : List FlatFunction) → caller + length fs ≡ count → AllByRecursion (IsFunction code) fs → AllByRecursion (IsSiteOf count code.tables) (call_sites_from caller fs)
  functions-sites caller [] e all = tt
  functions-sites caller (f ∷ fs) e all =
      All-append (IsSiteOf count code.tables) (filter_map (call_site caller) f.ops) (call_sites_from (caller + 1) fs)
      (ops-sites f caller f.ops (omega arith) all.0.ops) (functions-sites (caller + 1) fs (omega arith) all.1)

-- ---- numbers that rise

later-all : (n : ℕ) (ss : List GraphSite) → ((k : ℕ) → k < length ss → n < get_or (numbers ss) k 0) → AllByRecursion (λ (s : GraphSite). n < s.number) ss
later-all n [] above = tt
later-all n (s ∷ ss) above = (above 0 (omega arith), later-all n ss (λ k h. above (suc k) (omega arith)))

abbrev Apart : List ℕ → Type 0
Apart xs = (i j : ℕ) → i < j → j < length xs → get_or xs i 0 < get_or xs j 0

rising-from : (ss : List GraphSite) → Apart (numbers ss) → IsRising ss
rising-from [] apart = tt
rising-from (s ∷ ss) apart = (
  later-all s.number ss (λ k h. apart 0 (suc k) (omega arith) (let e = length-map ss (λ (x : GraphSite). x.number) in omega (arith, e))),
  rising-from ss (λ i j lt within. apart (suc i) (suc j) (omega arith) (omega arith)),
)

pub eqb-flips : (x y : ℕ) → eqb x y ≡ eqb y x
eqb-flips x y = grind (arith, nat_tests)

numbers-rise : (xs ss : List GraphSite) → IsDistinct eqb (numbers xs) → IsPermutation xs ss → IsNonDecreasingBy (λ s. s.number) ss → IsRising ss
numbers-rise xs ss distinct permutation up =
    let distinct' : IsDistinct eqb (numbers ss) = IsDistinct-IsPermutation eqb eqb-flips (numbers xs) (numbers ss) (IsPermutation-map (λ (s : GraphSite). s.number) xs ss permutation) distinct in
    let up' : IsNonDecreasing (numbers ss) = λ i j d le within.
    let lt : j < length ss = omega (arith, within, length-map ss (λ (x : GraphSite). x.number)) in
    let lt' : i < length ss = omega (arith, lt, le) in
    let none : GraphSite = record { number = 0; caller = 0; target = Function 0 } in
    rw (get_or-map (λ (s : GraphSite). s.number) ss i none d lt', get_or-map (λ (s : GraphSite). s.number) ss j none d lt) (up i j none le lt) in
    rising-from ss (λ i j lt within. AllPairs-from_increasing (numbers ss) (IsStrictlyIncreasing-from_distinct (numbers ss) up' distinct') i j 0 lt within)

-- what keeps its sites in the order of their numbers is a graph
pub sorted-graph : (weights : List ℕ) (tables : List (List ℕ)) (main : ℕ) (sites sorted : List GraphSite) → IsUnsortedGraph (record { weights = weights; tables = tables; sites = sites; main = main }) →
    IsPermutation sites sorted → IsNonDecreasingBy (λ s. s.number) sorted → IsCallGraph (record { weights = weights; tables = tables; sites = sorted; main = main })
sorted-graph weights tables main sites sorted unsorted permutation up = record {
  few = unsorted.few;
  main = unsorted.main;
  tables = unsorted.tables;
  sites = recursion_from_All (IsSiteOf (length weights) tables) sorted
      (All-permutation (IsSiteOf (length weights) tables) sites sorted permutation
      (All-from_recursion (IsSiteOf (length weights) tables) sites unsorted.sites));
  rising = numbers-rise sites sorted unsorted.once permutation up;
}

-- the call sites of a well formed program
pub flat-graph : (code : FlatCode) (weights : List ℕ) → IsWellFormed code → length weights ≡ length code.functions → length weights ≤ 2 ^ 32 →
    IsUnsortedGraph (record { weights = weights; tables = code.tables; sites = call_sites_from 0 code.functions; main = code.main })
flat-graph code weights formed same few = record {
  few = few;
  main = omega (arith, formed.main_defined, same);
  tables = subst (λ n. AllByRecursion (λ row. AllByRecursion (λ f. f < n) row) code.tables) (sym same) (tables-below code formed code.tables formed.tables);
  sites = subst (λ n. AllByRecursion (IsSiteOf n code.tables) (call_sites_from 0 code.functions)) (sym same) (functions-sites code formed 0 code.functions (omega arith) formed.functions);
  once = part-distinct (numbers (call_sites_from 0 code.functions)) (site_numbers code) (part-functions 0 code.functions) formed.sites;
}
