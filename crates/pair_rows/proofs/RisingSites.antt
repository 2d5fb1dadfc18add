-- Sites that are added one by one, with rising numbers.
use Rattle.std.proofs.Common.{ℕ, ◌+◌, ◌<◌, List, [], ◌∷◌, ◌++◌, arith}
use Rattle.std.specs.List.{AllByRecursion}
use Rattle.std.proofs.ByRecursion.{All-push}
use Rattle.call_graph.specs.declared.sites.GraphSite.{GraphSite}
use Rattle.call_graph.specs.Graph.{IsRising}

abbrev pub NumbersBelow : ℕ → List GraphSite → Type 0
NumbersBelow n sites = AllByRecursion (λ (s : GraphSite). s.number < n) sites

pub below-more : (n : ℕ) (sites : List GraphSite) → NumbersBelow n sites → NumbersBelow (n + 1) sites
below-more n [] all = tt
below-more n (s ∷ ss) all = (omega (arith, all.0), below-more n ss all.1)

pub rising-added : (sites : List GraphSite) (site : GraphSite) → NumbersBelow site.number sites → IsRising sites → IsRising (sites ++ site ∷ [])
rising-added [] site below rising = (tt, tt)
rising-added (s ∷ ss) site below rising =
    (All-push (λ (other : GraphSite). s.number < other.number) ss site rising.0 below.0, rising-added ss site below.1 rising.1)
