-- Every lawful log of a valid pair is good.
use Rattle.log_laws.proofs.Common.{ℕ, ◌≤◌, List, lowered, IsWellScoped, IsValid, IsGoodLog, checked_of, IsLawfulLog, Setup, start_areas, World, AreWellFormed, most_fuel, Entry, StopLine}
use Rattle.log_laws.proofs.Going.{log_is_good}
use Rattle.log_laws.proofs.Kept.{Rests, Runs, kept, starts}

pub good : (g : Setup) (trace : List ℕ) (entries : List Entry) (stop : StopLine) (end : World) → IsWellScoped g.program → IsValid (lowered g.program) g.image g.certificate →
    AreWellFormed (checked_of g) (start_areas g) → g.policy.fuel ≤ most_fuel →
    IsLawfulLog g trace entries stop end → IsGoodLog g entries
good g trace entries stop end scoped valid areas fuel log =
    log_is_good g (Rests g scoped valid) (Runs g scoped valid) (kept g scoped valid) trace entries stop end (λ start e. starts g scoped valid start areas fuel e) log
