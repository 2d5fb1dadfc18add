use Rattle.call_graph.proofs.IndexLemmas.{IsIndexFrom}
use Rattle.call_graph.proofs.index.CallerIndex.new.Given as goal

abbrev pub invariant-loop-place : goal.invariant-loop-place
invariant-loop-place l = IsIndexFrom l.sites l.without l.functions l.place l.first.items l.next.items

abbrev pub decreases-loop-place : goal.decreases-loop-place
decreases-loop-place l = l.place
