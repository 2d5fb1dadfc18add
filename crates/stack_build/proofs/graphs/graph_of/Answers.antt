use Rattle.stack_build.proofs.Common.{◌≤◌, ◌^◌, ◌∙◌, List, length, map, ap, subst, arith, AllByRecursion, program_tree, function_tree, lowered_function, lowered, FlatFunction, weight_of, GraphSite, call_sites_from, IsUnsortedGraph, weights_of}
use Rattle.std.specs.List.Sorted.{IsPermutation}
use Rattle.std.proofs.lemmas.List.{length-map}
use Rattle.c_tree.specs.Trees.{ProgramTree}
use Rattle.c_tree.specs.WellScoped.{IsWellScoped}
use Rattle.c_lower.proofs.FormedPrograms.{program_formed, all_small, all_few, all_words}
use Rattle.call_graph.proofs.FlatLemmas.{flat-graph}
use Rattle.stack_build.proofs.graphs.graph_of.Goals as goal

-- the lowered program's functions have a graph, once each has at most 2^32 operations
has-graph : (p : ProgramTree) → IsWellScoped p → AllByRecursion (λ f. length f.ops ≤ 2 ^ 32) (map lowered_function p.functions) →
    IsUnsortedGraph (record { weights = weights_of (lowered p); tables = p.tables; sites = call_sites_from 0 (lowered p).functions; main = p.main })
has-graph p scoped numbered =
    let count = length-map (lowered p).functions (λ (f : FlatFunction). weight_of f.sizes) in
    flat-graph (lowered p) (weights_of (lowered p)) (program_formed p scoped numbered) count (omega (arith, count, length-map p.functions lowered_function, scoped.functions))

pub weigh-requires-clause-small : goal.weigh-requires-clause-small
weigh-requires-clause-small c = rw c.functions.ensures (all_small (program_tree c.args.program.now) (program_tree c.args.program.now).functions c.args.program.now.well_scoped.bodies)

pub weigh-requires-clause-few : goal.weigh-requires-clause-few
weigh-requires-clause-few c = rw c.functions.ensures (all_few (program_tree c.args.program.now) (program_tree c.args.program.now).functions c.args.program.now.well_scoped.bodies)

pub weigh-requires-clause-words : goal.weigh-requires-clause-words
weigh-requires-clause-words c = rw c.functions.ensures (all_words (program_tree c.args.program.now) (program_tree c.args.program.now).functions c.args.program.now.well_scoped.bodies)

pub weigh-requires-clause-count : goal.weigh-requires-clause-count
weigh-requires-clause-count c =
    let count = ap length c.functions.ensures in
    omega (arith, count, length-map c.functions.result.now function_tree, c.args.program.now.well_scoped.functions)

pub sorted_graph-requires : goal.sorted_graph-requires
sorted_graph-requires c =
    let p = program_tree c.args.program.now in
    let functions = ap (map lowered_function) c.functions.ensures in
    let numbered = subst (λ (fs : List FlatFunction). AllByRecursion (λ f. length f.ops ≤ 2 ^ 32) fs) functions c.in_ok-weighed.ensures.numbered in
    let weights = c.in_ok-weighed.ensures.weights ∙ ap (map (λ (f : FlatFunction). weight_of f.sizes)) functions in
    let sites = c.in_ok-weighed.ensures.sites ∙ ap (call_sites_from 0) functions in
    rw (weights, c.in_ok-tables.ensures, c.tables.ensures, sites, c.main_number.ensures) (has-graph p c.args.program.now.well_scoped numbered)

pub returns : goal.returns
returns c =
    let functions = ap (map lowered_function) c.functions.ensures in
    let sites = c.in_ok-weighed.ensures.sites ∙ ap (call_sites_from 0) functions in
    record {
      weights = c.in_ok-graph.ensures.weights ∙ (c.in_ok-weighed.ensures.weights ∙ ap (map (λ (f : FlatFunction). weight_of f.sizes)) functions);
      tables = c.in_ok-graph.ensures.tables ∙ (c.in_ok-tables.ensures ∙ c.tables.ensures);
      main = c.in_ok-graph.ensures.main ∙ c.main_number.ensures;
      sites = subst (λ (ss : List GraphSite). IsPermutation ss c.in_ok-graph.graph.sites) sites c.in_ok-graph.ensures.sites;
      rising = c.in_ok-graph.ensures.rising;
    }
