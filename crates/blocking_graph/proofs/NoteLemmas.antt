-- What a graph keeps, after a record went into its sums and its edges.
use Rattle.blocking_graph.proofs.Common.{Result, Ok, Err, OnOk, IsOk, Some, ◌≡◌, ℕ, ◌^◌, ◌<◌, List, length, sym, ap, ◌∙◌, subst, rules, BTreeMap, Updates, nat_cmp, EdgeLine, SegmentRecord, NodeSums, edges_with, edges_from, count_of, GraphState, IsGraph, IsSegment, IsSumOf, AreSumsOf}
use Rattle.std.specs.declared.alloc.AllocError.{AllocError}
use Rattle.blocking_graph.proofs.GraphLemmas.{IsGraph-note}
use Rattle.blocking_graph.proofs.SumLemmas.{sums_noted}

where_ok : (result : Result Unit AllocError) (P : Type 0) → IsOk result → OnOk result P → P
where_ok (Ok done) P ok p = p
where_ok (Err e) P ok p = absurd (search rules)

pub note_kept : (result : Result Unit AllocError) (graph : GraphState) (segment : SegmentRecord) (held seen edges : List EdgeLine) (old new : BTreeMap ℕ NodeSums)
    (sums : NodeSums) → held ≡ graph.edges → seen ≡ held → IsOk result → OnOk result (edges ≡ edges_with held segment) → IsGraph graph → IsSegment segment →
    length segment.change ≡ 8 → count_of graph.edges < 2 ^ 40 → AreSumsOf graph.edges old → Updates nat_cmp old new segment.from (Some sums) →
    IsSumOf (edges_from (edges_with seen segment) segment.from) sums → IsGraph (record graph { edges = edges }) × AreSumsOf edges new
note_kept result graph segment held seen edges old new sums same looked ok added kept range eight room summed updates told =
    let after : edges ≡ edges_with graph.edges segment =
    where_ok result (edges ≡ edges_with held segment) ok added ∙ ap (λ (es : List EdgeLine). edges_with es segment) same in
    let own : IsSumOf (edges_from (edges_with graph.edges segment) segment.from) sums =
    subst (λ (es : List EdgeLine). IsSumOf (edges_from (edges_with es segment) segment.from) sums) (looked ∙ same) told in (
      subst (λ (es : List EdgeLine). IsGraph (record graph { edges = es })) (sym after) (IsGraph-note graph segment kept range eight room),
      subst (λ (es : List EdgeLine). AreSumsOf es new) (sym after) (sums_noted graph.edges segment old new sums summed updates own),
    )
