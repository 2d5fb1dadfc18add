-- One site more, with the next number.
use Rattle.call_cycles.proofs.Common.{◌≡◌, ℕ, ◌+◌, ◌<◌, List, [], ◌∷◌, ◌++◌, length, length-append, arith, AllByRecursion, GraphSite, Function, IsSiteOf, IsRising, AreNumbered, All-push, All-weaker}

rising-last : (sites : List GraphSite) (s : GraphSite) → IsRising sites → AllByRecursion (λ (site : GraphSite). site.number < s.number) sites → IsRising (sites ++ s ∷ [])
rising-last [] s rising below = (tt, tt)
rising-last (x ∷ sites) s rising below = (All-push (λ (other : GraphSite). x.number < other.number) sites s rising.0 below.0, rising-last sites s rising.1 below.1)

pub numbered-more : (nodes : ℕ) (sites : List GraphSite) (caller callee : ℕ) → caller < nodes → callee < nodes → AreNumbered nodes sites →
    AreNumbered nodes (sites ++ record { number = length sites; caller = caller; target = Function callee } ∷ [])
numbered-more nodes sites caller callee by to was =
    let s : GraphSite = record { number = length sites; caller = caller; target = Function callee } in
    let longer : length (sites ++ s ∷ []) ≡ length sites + 1 = length-append sites (s ∷ []) in
    record {
      all = All-push (IsSiteOf nodes []) sites s was.all (record { caller = by; target = record { some = omega arith; all = (to, tt) } });
      rising = rising-last sites s was.rising was.below;
      below = All-push (λ (site : GraphSite). site.number < length (sites ++ s ∷ [])) sites s
          (All-weaker (λ (site : GraphSite). site.number < length sites) (λ (site : GraphSite). site.number < length (sites ++ s ∷ [])) (λ site lt. omega (arith, lt, longer)) sites was.below)
          (omega (arith, longer));
    }

-- a function of a graph is a node, and the tables come behind
pub below-nodes : (f functions tables : ℕ) → f < functions → f < functions + tables
below-nodes f functions tables lt = omega (arith, lt)
