use Rattle.blocking_graph.proofs.Common.{◌<◌, ◌^◌, arith, count_of}
use Rattle.blocking_graph.proofs.NoteLemmas.{note_kept}
use Rattle.blocking_graph.proofs.graph.Graph.note.Goals as goal

pub invariant_of-self-2 : goal.invariant_of-self-2
invariant_of-self-2 c =
    let room : count_of c.self.inside.edges.items < 2 ^ 40 = rw (← c.self.view_is) at c.requires.room in
    note_kept c.add.result (record { keys = c.self.inside.keys.keys; edges = c.self.inside.edges.items }) c.args.segment
    c.reserve.new.self.items c.as_slice.result.now c.add.new.edges.items c.self.inside.sums c.insert.new.self c.sums_with-sums.result
    c.reserve.ensures.items c.as_slice.ensures.value (c.add.ensures.succeeds (omega (arith, c.in_ok-reserve.ensures.ok))) c.add.ensures.ok
    c.self.invariant.0 c.requires.range c.add.ensures.eight room c.self.invariant.1 c.in_ok-insert.ensures.updates c.sums_with-sums.ensures
