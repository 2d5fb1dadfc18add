-- The call graph of a well scoped program's code keeps what a graph keeps, however many operations there are.
use Rattle.one_plan.proofs.Common.{◌≡◌, ℕ, zero, suc, ◌+◌, ◌<◌, Bool, true, false, List, [], ◌∷◌, ◌++◌, length, length-append, map, get_or, refl, sym, ap, subst, ◌∙◌, arith, AllByRecursion, filter_map, cons_option, length-map, All-from_recursion, recursion_from_All, All-permutation, scalars, below, function_temporaries, FunctionTree, ProgramTree, IsFunctionScoped, AreFunctionsScoped, IsWellScoped, Op, FlatFunction, weight_of, IsOperation, closing_code, first_temporary, lowered_function, lowered, GraphSite, call_site, call_sites_from, CallGraphState, function_count, IsTargetOf, IsSiteOf, IsCallGraph, all-at, IsGraphOf, All-weaker, All-append, temporary_word}
use Rattle.std.proofs.Math.ListN.{get_or-append}
use Rattle.std.proofs.lemmas.Bool.{false≢true}
use Rattle.cap_word.specs.Signatures.{IsMember, IsTable}
use Rattle.c_tree.specs.WellScoped as tree
use Rattle.flat_code.specs.WellFormed as flat
use Rattle.c_lower.specs.StmtCode.{stmts_size, stmts_code}
use Rattle.c_lower.proofs.Formed.{stmts_formed}
use Rattle.c_lower.proofs.Suits.{Suits}
use Rattle.call_graph.specs.declared.sites.Target.TheVariants.{Table}

-- ---- what a body's operations may name

abbrev body_context : ProgramTree → FunctionTree → flat.Context
body_context p f = record {
  signatures = map tree.signature_of p.functions;
  globals = map (λ g. g.words) p.globals;
  tables = length p.tables;
  sizes = f.sizes ++ scalars (function_temporaries f);
  gives = f.gives;
  ops = stmts_size f.body + 1;
}

pub scalars-length : (n : ℕ) → length (scalars n) ≡ n
scalars-length zero = refl
scalars-length (suc n) = omega (arith, scalars-length n)

body-suits : (p : ProgramTree) (f : FunctionTree) → Suits (tree.context_of p f) (body_context p f) (first_temporary f) (function_temporaries f)
body-suits p f =
    let n = function_temporaries f in
    let count = length-append f.sizes (scalars n) in
    record {
      local = λ x h. omega (arith, count);
      words = λ x w h e. get_or-append f.sizes (scalars n) 0 x h ∙ e;
      temporary = λ k low high. (omega (arith, count, scalars-length n), temporary_word f.sizes n k low high);
      globals = refl;
      signatures = refl;
      tables = refl;
      gives = refl;
    }

body-formed : (p : ProgramTree) (f : FunctionTree) → IsFunctionScoped p f → AllByRecursion (IsOperation (body_context p f)) (stmts_code f.body 0 (first_temporary f) 0 0)
body-formed p f h =
    stmts_formed (tree.context_of p f) (body_context p f) (first_temporary f) (function_temporaries f) (body-suits p f) false (below f.params) f.body 0 0 0 h.body (omega arith) (omega arith)
    (λ y. absurd (false≢true y))

-- ---- sites

module _ (p : ProgramTree) (scoped : IsWellScoped p) where
  abbrev IsSite : GraphSite → Type 0
  IsSite = IsSiteOf (length p.functions) p.tables

  members-there : (row : List ℕ) → AllByRecursion (IsMember (map tree.signature_of p.functions)) row → AllByRecursion (λ f. f < length p.functions) row
  members-there row all =
      All-weaker (IsMember (map tree.signature_of p.functions)) (λ f. f < length p.functions)
      (λ f member. let lt = member.0 in omega (arith, lt, length-map p.functions tree.signature_of)) row all

  table-target : (t : ℕ) → t < length p.tables → IsTargetOf (length p.functions) p.tables (Table t)
  table-target t lt =
      let table = all-at (IsTable (map tree.signature_of p.functions)) p.tables t [] scoped.tables lt in
      record { some = omega (arith, table.0); all = members-there (get_or p.tables t []) table.1 }

  op-site : (f : FunctionTree) (caller : ℕ) (op : Op) (ss : List GraphSite) → caller < length p.functions → IsOperation (body_context p f) op →
      AllByRecursion IsSite ss → AllByRecursion IsSite (cons_option (call_site caller op) ss)
  op-site f caller (Op.Call site d g args) ss lt is all =
      (record { caller = lt; target = record { some = omega arith; all = (omega (arith, is.0, length-map p.functions tree.signature_of), tt) } }, all)
  op-site f caller (Op.CallTable site d t i s) ss lt is all = (record { caller = lt; target = table-target t is.0 }, all)
  op-site f caller _ ss lt is all = all

  ops-sites : (f : FunctionTree) (caller : ℕ) (ops rest : List Op) → caller < length p.functions → AllByRecursion (IsOperation (body_context p f)) ops →
      AllByRecursion IsSite (filter_map (call_site caller) rest) → AllByRecursion IsSite (filter_map (call_site caller) (ops ++ rest))
  ops-sites f caller [] rest lt all more = more
  ops-sites f caller (op ∷ ops) rest lt all more = op-site f caller op (filter_map (call_site caller) (ops ++ rest)) lt all.0 (ops-sites f caller ops rest lt all.1 more)

  closing-sites : (caller : ℕ) (gives : Bool) (t : ℕ) → AllByRecursion IsSite (filter_map (call_site caller) (closing_code gives t))
  closing-sites caller true t = tt
  closing-sites caller false t = tt

  functions-sites : (caller : ℕ) (fs : List FunctionTree) → caller + length fs ≡ length p.functions → AreFunctionsScoped p fs → AllByRecursion IsSite (call_sites_from caller (map lowered_function fs))
  functions-sites caller [] e all = tt
  functions-sites caller (f ∷ fs) e all =
      All-append IsSite (filter_map (call_site caller) (lowered_function f).ops) (call_sites_from (caller + 1) (map lowered_function fs))
      (ops-sites f caller (stmts_code f.body 0 (first_temporary f) 0 0) (closing_code f.gives (first_temporary f)) (omega arith) (body-formed p f all.0) (closing-sites caller f.gives (first_temporary f)))
      (functions-sites (caller + 1) fs (omega arith) all.1)

  -- the call graph of the program's code
  pub lowered-graph : (graph : CallGraphState) → IsGraphOf (lowered p) graph → IsCallGraph graph
  lowered-graph graph is =
      let count : function_count graph ≡ length p.functions =
      ap length is.weights ∙ (length-map (map lowered_function p.functions) (λ (g : FlatFunction). weight_of g.sizes) ∙ length-map p.functions lowered_function) in
      let rows : AllByRecursion (λ row. AllByRecursion (λ f. f < length p.functions) row) p.tables =
      All-weaker (IsTable (map tree.signature_of p.functions)) (λ row. AllByRecursion (λ f. f < length p.functions) row) (λ row table. members-there row table.1) p.tables scoped.tables in
      let sites : AllByRecursion IsSite graph.sites =
      recursion_from_All IsSite graph.sites
      (All-permutation IsSite (call_sites_from 0 (lowered p).functions) graph.sites is.sites
      (All-from_recursion IsSite (call_sites_from 0 (lowered p).functions) (functions-sites 0 p.functions (omega arith) scoped.bodies))) in
      let main : graph.main ≡ p.main = is.main in
      let same : graph.tables ≡ p.tables = is.tables in
      let there : AllByRecursion (λ row. AllByRecursion (λ f. f < function_count graph) row) p.tables =
      subst (λ n. AllByRecursion (λ row. AllByRecursion (λ f. f < n) row) p.tables) (sym count) rows in
      let calls : AllByRecursion (IsSiteOf (function_count graph) p.tables) graph.sites = subst (λ n. AllByRecursion (IsSiteOf n p.tables) graph.sites) (sym count) sites in
      record {
        few = omega (arith, count, scoped.functions);
        main = omega (arith, count, scoped.main_defined, main);
        tables = subst (λ (ts : List (List ℕ)). AllByRecursion (λ row. AllByRecursion (λ f. f < function_count graph) row) ts) (sym same) there;
        sites = subst (λ (ts : List (List ℕ)). AllByRecursion (IsSiteOf (function_count graph) ts) graph.sites) (sym same) calls;
        rising = is.rising;
      }
