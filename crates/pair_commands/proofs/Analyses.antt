-- What an analysis says of its program.
use Rattle.pair_commands.proofs.Common.{◌≡◌, ℕ, zero, suc, ◌+◌, ◌<◌, List, [], ◌∷◌, ◌++◌, length, map, filter, refl, sym, ap, ◌∙◌, arith, Option, Some, None, option_map, slice_index_or, AllByRecursion, filter_map, cons_option, IsStrictlyIncreasing, length-map, ProgramTree, FunctionTree, lowered, lowered_function, FlatCode, GraphSite, CallGraphState, back_edges, frame_refusal, FrameTooLarge, CodeTooLarge, name_at, names_of, weights-count}
use Rattle.std.proofs.lemmas.List.Elements.{All-from_recursion, recursion_from_All}
use Rattle.std.proofs.lemmas.List.Sorted.{All-permutation}
use Rattle.c_tree.specs.declared.facts.Function.{Function}
use Rattle.c_tree.specs.Views.{function_tree}
use Rattle.flat_code.specs.declared.operations.Op.{Op}
use Rattle.flat_code.specs.declared.functions.FlatFunction.{FlatFunction}
use Rattle.call_graph.specs.FlatCalls.{call_site, call_sites_from}
use Rattle.call_graph.specs.Lists.{has}
use Rattle.call_graph.proofs.ListLemmas.{by_test}
use Rattle.cycle_break.specs.Walk.{whole_walk}
use Rattle.cycle_break.proofs.SiteLemmas.{rising-filter}
use Rattle.checkpoint_place.specs.Refusal.{is_too_large, refusal_from}
use Rattle.stack_plan.specs.Plans.{IsGraphOf, weights_of}
use Rattle.stack_build.specs.Refusals.{of_place}
use Rattle.stack_plan.proofs.SiteLemmas.{numbers-rise, site-caller}

-- Callers.

abbrev IsBelow : ℕ → GraphSite → Type 0
IsBelow n site = site.caller < n

both-below : (n : ℕ) (xs ys : List GraphSite) → AllByRecursion (IsBelow n) xs → AllByRecursion (IsBelow n) ys → AllByRecursion (IsBelow n) (xs ++ ys)
both-below n [] ys h k = k
both-below n (x ∷ xs) ys h k = (h.0, both-below n xs ys h.1 k)

with-site : (n : ℕ) (site : Option GraphSite) (sites : List GraphSite) → ((s : GraphSite) → site ≡ Some s → s.caller < n) → AllByRecursion (IsBelow n) sites → AllByRecursion (IsBelow n) (cons_option site sites)
with-site n None sites here rest = rest
with-site n (Some s) sites here rest = (here s refl, rest)

sites-below : (n f : ℕ) (ops : List Op) → f < n → AllByRecursion (IsBelow n) (filter_map (call_site f) ops)
sites-below n f [] lt = tt
sites-below n f (op ∷ ops) lt =
    with-site n (call_site f op) (filter_map (call_site f) ops) (λ s e. let is = site-caller f op s e in omega arith) (sites-below n f ops lt)

callers-from : (n f : ℕ) (functions : List FlatFunction) → f + length functions ≡ n → AllByRecursion (IsBelow n) (call_sites_from f functions)
callers-from n f [] e = tt
callers-from n f (function ∷ functions) e =
    both-below n (filter_map (call_site f) function.ops) (call_sites_from (f + 1) functions) (sites-below n f function.ops (omega arith)) (callers-from n (f + 1) functions (omega arith))

-- each caller is a function
pub callers-there : (code : FlatCode) (graph : CallGraphState) → IsGraphOf code graph → AllByRecursion (λ (site : GraphSite). site.caller < length code.functions) graph.sites
callers-there code graph is =
    recursion_from_All (IsBelow (length code.functions)) graph.sites
    (All-permutation (IsBelow (length code.functions)) (call_sites_from 0 code.functions) graph.sites is.sites
    (All-from_recursion (IsBelow (length code.functions)) (call_sites_from 0 code.functions) (callers-from (length code.functions) 0 code.functions (omega arith))))

-- the numbers of the back edges rise
pub back-rises : (code : FlatCode) (graph : CallGraphState) → IsGraphOf code graph → IsStrictlyIncreasing (back_edges graph)
back-rises code graph is =
    numbers-rise (filter (λ x. has x.number (whole_walk graph []).back) graph.sites) (rising-filter (λ x. has x.number (whole_walk graph []).back) graph.sites is.rising)

-- Frames.

-- a frame that is refused is that of a function
refused-there : (max_path base : ℕ) (ws : List ℕ) (f bytes : ℕ) → option_map of_place (refusal_from max_path base ws) ≡ Some (FrameTooLarge f bytes) → f < base + length ws
refused-there max_path base [] f bytes h = cc
refused-there max_path base (w ∷ ws) f bytes h =
    by_test (is_too_large max_path w)
    (λ t. let e = rw t at h in let same : base ≡ f = cc in omega arith)
    (λ n. let e = rw n at h in omega (arith, refused-there max_path (base + 1) ws f bytes e))

pub frame-there : (code : FlatCode) (max_path f bytes : ℕ) → frame_refusal code max_path ≡ Some (FrameTooLarge f bytes) → f < length code.functions
frame-there code max_path f bytes h =
    omega (arith, refused-there max_path 0 (weights_of code) f bytes h, weights-count code.functions)

-- no refusal of a frame is one of the code
not-code : (max_path base : ℕ) (ws : List ℕ) (words : ℕ) → option_map of_place (refusal_from max_path base ws) ≡ Some (CodeTooLarge words) → ⊥
not-code max_path base [] words h = cc
not-code max_path base (w ∷ ws) words h =
    by_test (is_too_large max_path w) (λ t. let e = rw t at h in cc) (λ n. let e = rw n at h in not-code max_path (base + 1) ws words e)

pub frame-not-code : (code : FlatCode) (max_path words : ℕ) → frame_refusal code max_path ≡ Some (CodeTooLarge words) → ⊥
frame-not-code code max_path words h = not-code max_path 0 (weights_of code) words h

-- Names.

pub lowered-count : (p : ProgramTree) → length (lowered p).functions ≡ length p.functions
lowered-count p = length-map p.functions lowered_function

tree-count : (functions : List Function) → length (map function_tree functions) ≡ length functions
tree-count functions = length-map functions function_tree

pub functions-count : (functions : List Function) (p : ProgramTree) → map function_tree functions ≡ p.functions → length functions ≡ length (lowered p).functions
functions-count functions p e = sym (tree-count functions) ∙ (ap length e ∙ sym (lowered-count p))

tree-names : (functions : List Function) → map (λ (f : Function). f.name.items) functions ≡ map (λ (f : FunctionTree). f.name) (map function_tree functions)
tree-names [] = refl
tree-names (f ∷ functions) = ap (λ (ns : List (List ℕ)). f.name.items ∷ ns) (tree-names functions)

pub same-names : (functions : List Function) (p : ProgramTree) → map function_tree functions ≡ p.functions → map (λ (f : Function). f.name.items) functions ≡ names_of p
same-names functions p e = tree-names functions ∙ ap (map (λ (f : FunctionTree). f.name)) e

name-there : (functions : List Function) (d : Function) (k : ℕ) → k < length functions → slice_index_or (map (λ (f : Function). f.name.items) functions) k [] ≡ (slice_index_or functions k d).name.items
name-there [] d k h = absurd (omega arith)
name-there (f ∷ functions) d zero h = refl
name-there (f ∷ functions) d (suc k) h = name-there functions d k (omega arith)

pub name-of : (functions : List Function) (p : ProgramTree) (d : Function) (k : ℕ) → map function_tree functions ≡ p.functions → k < length functions → name_at (names_of p) k ≡ (slice_index_or functions k d).name.items
name-of functions p d k e h = ap (λ (ns : List (List ℕ)). name_at ns k) (sym (same-names functions p e)) ∙ name-there functions d k h
