-- What the steps of a build say together.
use Rattle.stack_build.proofs.Common.{◌≡◌, ◌-◌, ℕ, List, ap, ◌∙◌, CallGraphState, GraphSite}

-- a graph is its parts
pub same-graph : (g : CallGraphState) (ws : List ℕ) (ts : List (List ℕ)) (ss : List GraphSite) (m : ℕ) → ws ≡ g.weights → ts ≡ g.tables → ss ≡ g.sites → m ≡ g.main → record { weights = ws; tables = ts; sites = ss; main = m } ≡ g
same-graph g ws ts ss m a b c d =
    let one : record { weights = ws; tables = ts; sites = ss; main = m } ≡ record { weights = g.weights; tables = ts; sites = ss; main = m } = ap (λ (x : List ℕ). let r : CallGraphState = record { weights = x; tables = ts; sites = ss; main = m } in r) a in
    let two : record { weights = g.weights; tables = ts; sites = ss; main = m } ≡ record { weights = g.weights; tables = g.tables; sites = ss; main = m } = ap (λ (x : List (List ℕ)). let r : CallGraphState = record { weights = g.weights; tables = x; sites = ss; main = m } in r) b in
    let three : record { weights = g.weights; tables = g.tables; sites = ss; main = m } ≡ record { weights = g.weights; tables = g.tables; sites = g.sites; main = m } = ap (λ (x : List GraphSite). let r : CallGraphState = record { weights = g.weights; tables = g.tables; sites = x; main = m } in r) c in
    let four : record { weights = g.weights; tables = g.tables; sites = g.sites; main = m } ≡ g = ap (λ (x : ℕ). let r : CallGraphState = record { weights = g.weights; tables = g.tables; sites = g.sites; main = x } in r) d in
    one ∙ (two ∙ (three ∙ four))
