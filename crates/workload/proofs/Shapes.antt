-- The frames and the code of the four shapes of function that the source of the workload has.
use Rattle.workload.proofs.Common.{ℕ, zero, suc, ◌≡◌, ◌≤◌, ◌+◌, ◌*◌, ◌%◌, ◌^◌, false, List, [], ◌∷◌, ◌++◌, length, map, Some, None, refl, ap, ◌∙◌, arith, lit≤, codes, sum_by, if◌then◌else◌, sum_by-cons, FunctionTree, function_sizes, lowered_function, function_words, Binding, find, function_of, next}
use Rattle.flat_code.specs.declared.operations.Op.{Op}
use Rattle.flat_code.specs.Codes.{FlatCode}
use Rattle.flat_code.specs.Weight.{weight_of}
use Rattle.checkpoint_place.specs.declared.plans.Plan.{Plan}
use Rattle.checkpoint_place.specs.declared.refusals.PlaceError.TheVariants.{FrameTooLarge}
use Rattle.checkpoint_place.specs.Refusal.{is_too_large, refusal_from}
use Rattle.stack_certificate.specs.declared.sites.LinkKind.{LinkKind}
use Rattle.stack_certificate.specs.Templates.{transfer_size}
use Rattle.codegen_link.specs.Links.{link}
use Rattle.workload.proofs.Pieces.{chain_name}
use Rattle.workload.proofs.Scopes.{first_tree, link_tree, worker_tree, main_tree}
use Rattle.workload.proofs.Resolved.{chain_site, worker_site, chain_trees, worker_trees, main_trees}

-- a call's transfer has at most eleven words, however it links
transfer_few : (kind : LinkKind) → transfer_size kind ≤ 11
transfer_few LinkKind.Plain = lit≤ tt
transfer_few _ = lit≤ tt

-- a function whose frame isn't too large and whose code has few words, whatever the plan
pub record IsLight (f : FunctionTree) : Type 0 where
  pub frame : is_too_large 2032 (weight_of (function_sizes f)) ≡ false
  pub words : (code : FlatCode) (plan : Plan) → function_words code plan (lowered_function f) ≤ 60

first_light : IsLight first_tree
first_light = record { frame = refl; words = λ code plan. lit≤ tt }

link_light : (i k f : ℕ) → IsLight (link_tree i k f)
link_light i k f = record { frame = refl; words = λ code plan. let few = transfer_few (link code plan (Op.Call k (Some 1) f (2 ∷ []))) in omega arith }

worker_light : (k f : ℕ) → IsLight (worker_tree k f)
worker_light k f = record { frame = refl; words = λ code plan. let few = transfer_few (link code plan (Op.Call (next (next k)) (Some 2) f (3 ∷ []))) in omega arith }

main_light : (n k f : ℕ) → IsLight (main_tree n k f)
main_light n k f = record { frame = refl; words = λ code plan. lit≤ tt }

-- all functions of the workload are such
abbrev pub AreLight : List FunctionTree → Type 0
AreLight [] = Unit {0}
AreLight (f ∷ fs) = IsLight f × AreLight fs

light_push : (fs : List FunctionTree) (f : FunctionTree) → AreLight fs → IsLight f → AreLight (fs ++ f ∷ [])
light_push [] f are is = (is, tt)
light_push (g ∷ fs) f are is = (are.0, light_push fs f are.1 is)

chain_light : (defs : List Binding) (m : ℕ) → AreLight (chain_trees defs m)
chain_light defs zero = (first_light, tt)
chain_light defs (suc m) = light_push (chain_trees defs m) (link_tree (suc m) (chain_site m) (function_of (find (chain_name m) defs))) (chain_light defs m) (link_light (suc m) (chain_site m) (function_of (find (chain_name m) defs)))

pub main_trees_light : (defs : List Binding) (n : ℕ) → AreLight (main_trees defs n)
main_trees_light defs n =
    light_push (worker_trees defs n) (main_tree (n % 2 ^ 32) (worker_site n) (function_of (find (codes "w") defs)))
    (light_push (chain_trees defs n) (worker_tree (chain_site n) (function_of (find (chain_name n) defs))) (chain_light defs n) (worker_light (chain_site n) (function_of (find (chain_name n) defs))))
    (main_light (n % 2 ^ 32) (worker_site n) (function_of (find (codes "w") defs)))

-- no frame among such functions is refused, and they have few words
pub none_large : (k : ℕ) (fs : List FunctionTree) → AreLight fs → refusal_from 2032 k (map (λ f. weight_of f.sizes) (map lowered_function fs)) ≡ None
none_large k [] are = refl
none_large k (f ∷ fs) are =
    ap (λ test. if test then Some (FrameTooLarge k (weight_of (function_sizes f))) else refusal_from 2032 (k + 1) (map (λ g. weight_of g.sizes) (map lowered_function fs))) are.0.frame
    ∙ none_large (k + 1) fs are.1

pub few_words : (code : FlatCode) (plan : Plan) (fs : List FunctionTree) → AreLight fs → sum_by (function_words code plan) (map lowered_function fs) ≤ 60 * length fs
few_words code plan [] are = lit≤ tt
few_words code plan (f ∷ fs) are =
    let words = function_words code plan in
    let first : words (lowered_function f) ≤ 60 = are.0.words code plan in
    omega (arith, first, sum_by-cons words (lowered_function f) (map lowered_function fs), few_words code plan fs are.1)
