use Rattle.std.proofs.Common.{sym, ◌∙◌}
use Rattle.blocking_graph.proofs.PlaceLemmas.{edge_between-there, edge_between-other, edge_between-last}
use Rattle.blocking_graph.proofs.PredictionLemmas.{no_edge}
use Rattle.blocking_graph.proofs.adding.edge_of.Goals as goal
use Rattle.blocking_graph.proofs.adding.edge_of.Goals.{else-place-edges-via-then-place-edges+else-is_of, else-place-edges-via-else-place-edges}

pub returns-then-is_of : goal.returns-then-is_of
returns-then-is_of c =
    sym (edge_between-there c.args.edges.now c.args.segment.now c.place_of-place.result no_edge (sym c.place_of-place.ensures.place)
    c.if-place-edges.true (sym c.is_of.ensures ∙ c.if-is_of.true))

pub returns-else-place-edges : goal.returns-else-place-edges
returns-else-place-edges c =
    elim c.else-place-edges.branch [
      | else-place-edges-via-then-place-edges+else-is_of w ↦
          sym (edge_between-other c.args.edges.now c.args.segment.now c.place_of-place.result no_edge c.requires (sym c.place_of-place.ensures.place)
          w.if-place-edges.true (sym w.is_of.ensures ∙ w.if-is_of.false))
      | else-place-edges-via-else-place-edges w ↦
          sym (edge_between-last c.args.edges.now c.args.segment.now c.place_of-place.result (sym c.place_of-place.ensures.place) w.if-place-edges.false)
    ]
