-- The tree of the workload's source breaks no rule of scope, defines main and exceeds no limit.
use Rattle.workload.proofs.Common.{ℕ, zero, suc, ◌≡◌, ◌≤◌, ◌+◌, ◌*◌, ◌%◌, ◌^◌, true, false, List, [], ◌∷◌, ◌++◌, length, None, refl, ap, ◌∙◌, arith, lit≤, codes, sum, nat_lt, not, length-append, nat_tests, RawItemTree, FunctionTree, ProgramTree, Binding, find, function_of, next, Sofar, at_start, with_definition, with_definitions, definitions, item_faults, item_after, items_faults, items_after, program_of, has_main, is_missing}
use Rattle.c_tree.specs.Sizes.{declared_words}
use Rattle.c_tree.specs.TextOrder.{stmts_sites, functions_sites}
use Rattle.scope_rules.specs.Limits.{most_locals, most_params, first_exceeded, exceeded}
use Rattle.scope_rules.specs.Outcomes.{IsResolved}
use Rattle.workload.proofs.Pieces.{chain_name}
use Rattle.workload.proofs.Items.{first_item, first_places, link_item, link_places, worker_item, worker_places, main_item, main_places, chain_items, program_items}
use Rattle.workload.proofs.Scopes.{chain_names, worker_names, main_names, sofar, first_tree, link_tree, worker_tree, main_tree, chain_differs, find_later, find_latest, has_names, link_fine, link_after, worker_fine, worker_after, main_fine, main_after, no_local}

-- the number of the site behind function m of the chain, and the functions up to it
abbrev pub chain_site : ℕ → ℕ
chain_site zero = 0
chain_site (suc m) = next (chain_site m)

abbrev pub chain_trees : List Binding → ℕ → List FunctionTree
chain_trees defs zero = first_tree ∷ []
chain_trees defs (suc m) = chain_trees defs m ++ link_tree (suc m) (chain_site m) (function_of (find (chain_name m) defs)) ∷ []

abbrev pub chain_sofar : List Binding → ℕ → Sofar
chain_sofar defs m = sofar (chain_names defs m) (chain_site m) (chain_trees defs m)

-- the number of the site behind the worker, and what there is with the worker, and with main
abbrev pub worker_site : ℕ → ℕ
worker_site n = next (next (next (next (chain_site n))))

abbrev pub worker_trees : List Binding → ℕ → List FunctionTree
worker_trees defs n = chain_trees defs n ++ worker_tree (chain_site n) (function_of (find (chain_name n) defs)) ∷ []

abbrev pub worker_sofar : List Binding → ℕ → Sofar
worker_sofar defs n = sofar (worker_names defs n) (worker_site n) (worker_trees defs n)

abbrev pub main_trees : List Binding → ℕ → List FunctionTree
main_trees defs n = worker_trees defs n ++ main_tree (n % 2 ^ 32) (worker_site n) (function_of (find (codes "w") defs)) ∷ []

abbrev pub main_sofar : List Binding → ℕ → Sofar
main_sofar defs n = sofar (main_names defs n) (next (worker_site n)) (main_trees defs n)

-- an item that breaks no rule
faults_step : (defs : List Binding) (w v : Sofar) (item : RawItemTree) (items : List RawItemTree) → item_faults defs w item ≡ [] → item_after defs w item ≡ v → items_faults defs w (item ∷ items) ≡ items_faults defs v items
faults_step defs w v item items fine after = λ i. fine i ++ items_faults defs (after i) items

after_step : (defs : List Binding) (w v : Sofar) (item : RawItemTree) (items : List RawItemTree) → item_after defs w item ≡ v → items_after defs w (item ∷ items) ≡ items_after defs v items
after_step defs w v item items after = ap (λ u. items_after defs u items) after

next_fine : (defs : List Binding) (m : ℕ) (p : ℕ → ℕ) → item_faults defs (chain_sofar defs m) (link_item p (suc m) m) ≡ []
next_fine defs m p =
    let latest = find_latest defs m in
    link_fine defs (chain_names defs m) (chain_site m) (chain_trees defs m) p (suc m) m latest.0 (find_later (suc m) defs m (omega arith)) (no_local (codes "x") defs m (λ i. refl) refl) (no_local (codes "r") defs m (λ i. refl) refl)
    (chain_differs (suc m) m (λ e. omega arith)) latest.1

next_after : (defs : List Binding) (m : ℕ) (p : ℕ → ℕ) → item_after defs (chain_sofar defs m) (link_item p (suc m) m) ≡ chain_sofar defs (suc m)
next_after defs m p =
    let latest = find_latest defs m in
    link_after defs (chain_names defs m) (chain_site m) (chain_trees defs m) p (suc m) m latest.0 (find_later (suc m) defs m (omega arith)) (no_local (codes "x") defs m (λ i. refl) refl) (no_local (codes "r") defs m (λ i. refl) refl)
    (chain_differs (suc m) m (λ e. omega arith)) latest.1

chain_faults : (defs : List Binding) (m : ℕ) (items : List RawItemTree) → items_faults defs at_start (chain_items m items) ≡ items_faults defs (chain_sofar defs m) items
chain_faults defs zero items = refl
chain_faults defs (suc m) items =
    chain_faults defs m (link_item (link_places m) (suc m) m ∷ items)
    ∙ faults_step defs (chain_sofar defs m) (chain_sofar defs (suc m)) (link_item (link_places m) (suc m) m) items (next_fine defs m (link_places m)) (next_after defs m (link_places m))

chain_after : (defs : List Binding) (m : ℕ) (items : List RawItemTree) → items_after defs at_start (chain_items m items) ≡ items_after defs (chain_sofar defs m) items
chain_after defs zero items = refl
chain_after defs (suc m) items =
    chain_after defs m (link_item (link_places m) (suc m) m ∷ items)
    ∙ after_step defs (chain_sofar defs m) (chain_sofar defs (suc m)) (link_item (link_places m) (suc m) m) items (next_after defs m (link_places m))

-- the source breaks no rule
program_faults : (defs : List Binding) (n : ℕ) → items_faults defs at_start (program_items n) ≡ []
program_faults defs n =
    chain_faults defs n (worker_item (worker_places n) n ∷ main_item (main_places n) n ∷ [])
    ∙ faults_step defs (chain_sofar defs n) (worker_sofar defs n) (worker_item (worker_places n) n) (main_item (main_places n) n ∷ [])
    (worker_fine defs (chain_names defs n) (chain_site n) (chain_trees defs n) (worker_places n) n (has_names defs n))
    (worker_after defs (chain_names defs n) (chain_site n) (chain_trees defs n) (worker_places n) n (has_names defs n))
    ∙ faults_step defs (worker_sofar defs n) (main_sofar defs n) (main_item (main_places n) n) []
    (main_fine defs (chain_names defs n) (worker_site n) (worker_trees defs n) (main_places n) n (has_names defs n))
    (main_after defs (chain_names defs n) (worker_site n) (worker_trees defs n) (main_places n) n (has_names defs n))

-- and these functions are made of it
program_after : (defs : List Binding) (n : ℕ) → items_after defs at_start (program_items n) ≡ main_sofar defs n
program_after defs n =
    chain_after defs n (worker_item (worker_places n) n ∷ main_item (main_places n) n ∷ [])
    ∙ after_step defs (chain_sofar defs n) (worker_sofar defs n) (worker_item (worker_places n) n) (main_item (main_places n) n ∷ [])
    (worker_after defs (chain_names defs n) (chain_site n) (chain_trees defs n) (worker_places n) n (has_names defs n))
    ∙ main_after defs (chain_names defs n) (worker_site n) (worker_trees defs n) (main_places n) n (has_names defs n)

-- its definitions, the latest first
abbrev chain_definitions : ℕ → List Binding
chain_definitions zero = with_definition [] (first_item first_places)
chain_definitions (suc m) = with_definition (chain_definitions m) (link_item (link_places m) (suc m) m)

definitions_are : (m : ℕ) (items : List RawItemTree) → definitions (chain_items m items) ≡ with_definitions (chain_definitions m) items
definitions_are zero items = refl
definitions_are (suc m) items = definitions_are m (link_item (link_places m) (suc m) m ∷ items)

defines_main : (n : ℕ) → has_main (program_items n) ≡ true
defines_main n = ap (λ defs. not (is_missing (find (codes "main") defs))) (definitions_are n (worker_item (worker_places n) n ∷ main_item (main_places n) n ∷ []))

-- a function with few calls, declared words and parameters
pub record IsSmall (f : FunctionTree) : Type 0 where
  pub sites : length (stmts_sites f.body) ≤ 4
  pub locals : sum (declared_words f) ≤ 2
  pub params : f.params ≤ 1

abbrev AreSmall : List FunctionTree → Type 0
AreSmall [] = Unit {0}
AreSmall (f ∷ fs) = IsSmall f × AreSmall fs

small_push : (fs : List FunctionTree) (f : FunctionTree) → AreSmall fs → IsSmall f → AreSmall (fs ++ f ∷ [])
small_push [] f are is = (is, tt)
small_push (g ∷ fs) f are is = (are.0, small_push fs f are.1 is)

small_sites : (fs : List FunctionTree) → AreSmall fs → length (functions_sites fs) ≤ 4 * length fs
small_sites [] are = lit≤ tt
small_sites (f ∷ fs) are = let few = are.0.sites in omega (arith, length-append (stmts_sites f.body) (functions_sites fs), small_sites fs are.1)

small_locals : (fs : List FunctionTree) → AreSmall fs → most_locals fs ≤ 2
small_locals [] are = lit≤ tt
small_locals (f ∷ fs) are = let few = are.0.locals in omega (arith, small_locals fs are.1)

small_params : (fs : List FunctionTree) → AreSmall fs → most_params fs ≤ 1
small_params [] are = lit≤ tt
small_params (f ∷ fs) are = let few = are.0.params in omega (arith, small_params fs are.1)

within_limits : (fs : List FunctionTree) (start : ℕ) → AreSmall fs → length fs ≤ 4096 → exceeded (record { functions = fs; globals = []; tables = []; main = start }) ≡ None
within_limits fs start are few =
    let functions : nat_lt 4096 (length fs) ≡ false = not_less 4096 (length fs) few in
    let sites : nat_lt 65535 (length (functions_sites fs)) ≡ false = not_less 65535 (length (functions_sites fs)) (omega (arith, small_sites fs are)) in
    let locals : nat_lt 4096 (most_locals fs) ≡ false = not_less 4096 (most_locals fs) (omega (arith, small_locals fs are)) in
    let params : nat_lt 6 (most_params fs) ≡ false = not_less 6 (most_params fs) (omega (arith, small_params fs are)) in
    λ i. first_exceeded (functions i) (sites i) false false (locals i) (params i)
  where
    not_less : (limit k : ℕ) → k ≤ limit → nat_lt limit k ≡ false
    not_less limit k within = grind (arith, nat_tests)

first_small : IsSmall first_tree
first_small = record { sites = lit≤ tt; locals = lit≤ tt; params = lit≤ tt }

link_small : (i k f : ℕ) → IsSmall (link_tree i k f)
link_small i k f = record { sites = lit≤ tt; locals = lit≤ tt; params = lit≤ tt }

worker_small : (k f : ℕ) → IsSmall (worker_tree k f)
worker_small k f = record { sites = lit≤ tt; locals = lit≤ tt; params = lit≤ tt }

main_small : (n k f : ℕ) → IsSmall (main_tree n k f)
main_small n k f = record { sites = lit≤ tt; locals = lit≤ tt; params = lit≤ tt }

chain_small : (defs : List Binding) (m : ℕ) → AreSmall (chain_trees defs m)
chain_small defs zero = (first_small, tt)
chain_small defs (suc m) = small_push (chain_trees defs m) (link_tree (suc m) (chain_site m) (function_of (find (chain_name m) defs))) (chain_small defs m) (link_small (suc m) (chain_site m) (function_of (find (chain_name m) defs)))

main_trees_small : (defs : List Binding) (n : ℕ) → AreSmall (main_trees defs n)
main_trees_small defs n =
    small_push (worker_trees defs n) (main_tree (n % 2 ^ 32) (worker_site n) (function_of (find (codes "w") defs)))
    (small_push (chain_trees defs n) (worker_tree (chain_site n) (function_of (find (chain_name n) defs))) (chain_small defs n) (worker_small (chain_site n) (function_of (find (chain_name n) defs))))
    (main_small (n % 2 ^ 32) (worker_site n) (function_of (find (codes "w") defs)))

chain_length : (defs : List Binding) (m : ℕ) → length (chain_trees defs m) ≡ m + 1
chain_length defs zero = refl
chain_length defs (suc m) = omega (arith, chain_length defs m, length-append (chain_trees defs m) (link_tree (suc m) (chain_site m) (function_of (find (chain_name m) defs)) ∷ []))

pub main_length : (defs : List Binding) (n : ℕ) → length (main_trees defs n) ≡ n + 3
main_length defs n =
    omega (
      arith,
      chain_length defs n,
      length-append (chain_trees defs n) (worker_tree (chain_site n) (function_of (find (chain_name n) defs)) ∷ []),
      length-append (worker_trees defs n) (main_tree (n % 2 ^ 32) (worker_site n) (function_of (find (codes "w") defs)) ∷ []),
    )

-- the program that what the items make is
abbrev program_by : List Binding → Sofar → ProgramTree
program_by defs w = record { functions = w.functions; globals = w.globals; tables = w.tables; main = function_of (find (codes "main") defs) }

program_limits : (n : ℕ) → n ≤ 1000 → exceeded (program_of (program_items n)) ≡ None
program_limits n high =
    let defs : List Binding = definitions (program_items n) in
    ap (λ w. exceeded (program_by defs w)) (program_after defs n)
    ∙ within_limits (main_trees defs n) (function_of (find (codes "main") defs)) (main_trees_small defs n) (omega (arith, main_length defs n))

pub program_resolved : (n : ℕ) → n ≤ 1000 → IsResolved (program_items n) (program_of (program_items n))
program_resolved n high = record {
  rules = program_faults (definitions (program_items n)) n;
  main = defines_main n;
  limits = program_limits n high;
  tree = refl;
}

-- the functions of the program
pub program_functions : (n : ℕ) → (program_of (program_items n)).functions ≡ main_trees (definitions (program_items n)) n
program_functions n = ap (λ w. w.functions) (program_after (definitions (program_items n)) n)
