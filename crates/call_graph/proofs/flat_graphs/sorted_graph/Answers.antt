use Rattle.call_graph.proofs.Common.{rules, IsNonDecreasingBy-from_sort_by_key, IsNonDecreasingBy, GraphSite}
use Rattle.call_graph.proofs.FlatLemmas.{sorted-graph}
use Rattle.call_graph.proofs.flat_graphs.sorted_graph.Goals as goal

pub new-requires : goal.new-requires
new-requires c =
    let up : IsNonDecreasingBy (λ (s : GraphSite). s.number) c.sort_by_key.new.self.items =
    IsNonDecreasingBy-from_sort_by_key (λ (s : GraphSite). s.number) _ c.in_ok-sort_by_key.ensures.sorted (λ a r q k. search rules) in
    sorted-graph c.args.weights.items c.args.tables.items c.args.main c.args.sites.items c.sort_by_key.new.self.items c.requires c.sort_by_key.ensures.permutation up
