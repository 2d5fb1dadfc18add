-- A program whose sites differ has a call graph.
use Rattle.decisions.proofs.Common.{List, [], ◌∷◌, eqb, refl, IsDistinct, FlatCode, site_numbers, GraphSite, call_sites_from, CallGraphState, IsRising, weights_of, IsGraphOf}
use Rattle.decisions.proofs.Sorting.{Rises, in_order}
use Rattle.decisions.proofs.Parts.{calls_distinct}

rising_of : (ss : List GraphSite) → Rises (λ (s : GraphSite). s.number) ss → IsRising ss
rising_of [] rises = tt
rising_of (s ∷ ss) rises = (rises.0, rising_of ss rises.1)

pub record AGraph (code : FlatCode) : Type 0 where
  pub graph : CallGraphState
  pub is : IsGraphOf code graph

pub a_graph : (code : FlatCode) → IsDistinct eqb (site_numbers code) → AGraph code
a_graph code distinct =
    let o = in_order (λ (s : GraphSite). s.number) (call_sites_from 0 code.functions) (calls_distinct code distinct) in
    record {
      graph = record { weights = weights_of code; tables = code.tables; sites = o.items; main = code.main };
      is = record { weights = refl; tables = refl; main = refl; sites = o.same; rising = rising_of o.items o.rises };
    }
