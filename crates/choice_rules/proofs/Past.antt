-- The gate and the edges after one segment more.
use Rattle.std.proofs.lemmas.List.Sums.{fold-append}
use Rattle.choice_rules.proofs.Common.{◌≡◌, ℕ, List, [], ◌∷◌, ◌++◌, edges_of, edges_with, is_open, Policy, all_caps, Past}
use Rattle.blocking_graph.specs.declared.segments.SegmentRecord.{SegmentRecord}
use Rattle.resource_monitor.specs.Gate.{gate, gate_after}
use Rattle.resource_monitor.specs.Pressure.{pressures}

pub gate_more : (policy : Policy) (past : Past) (uses : List ℕ) →
    gate policy.high policy.low policy.curves (all_caps policy) (past.uses ++ uses ∷ []) ≡
    gate_after policy.high policy.low (is_open policy past) (pressures policy.curves uses (all_caps policy))
gate_more policy past uses = fold-append (λ was_open u. gate_after policy.high policy.low was_open (pressures policy.curves u (all_caps policy))) _ past.uses
    (uses ∷ [])

pub edges_more : (records : List SegmentRecord) (r : SegmentRecord) → edges_of (records ++ r ∷ []) ≡ edges_with (edges_of records) r
edges_more records r = fold-append edges_with [] records (r ∷ [])
