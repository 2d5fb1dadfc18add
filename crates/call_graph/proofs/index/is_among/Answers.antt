use Rattle.std.proofs.Common.{rules}
use Rattle.call_graph.proofs.ListLemmas.{is_ok-search}
use Rattle.call_graph.proofs.index.is_among.Goals as goal

pub returns : goal.returns
returns c = search (rules, is_ok-search c.args.numbers.now c.args.number c.binary_search.result c.requires c.binary_search.ensures.position)
