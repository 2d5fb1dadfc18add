-- The lawful log of a valid pair is the log of the text that its program is read from.
use Rattle.audited_logs.proofs.Positions.{live_at_stop}
use Rattle.audited_logs.proofs.Common.{ℕ, ◌≤◌, List, ReadsNested, lowered, IsWellScoped, IsValid, deep_program, checked_of, IsLawfulLog, Setup, start_areas, World, AreWellFormed, most_fuel, Entry, StopLine, IsTextLog, program_means}
use Rattle.audited_logs.proofs.Lines.{log_of_same}

pub log_of_text : (source : List ℕ) (g : Setup) (trace : List ℕ) (entries : List Entry) (stop : StopLine) (end : World) (read : ReadsNested source g.program) → IsWellScoped g.program →
    IsValid (lowered g.program) g.image g.certificate → AreWellFormed (checked_of g) (start_areas g) → g.policy.fuel ≤ most_fuel →
    IsLawfulLog g trace entries stop end → IsTextLog (deep_program read.tree) g.policy.caps entries
log_of_text source g trace entries stop end read scoped valid areas fuel log =
    log_of_same g (deep_program read.tree) (program_means source g.program scoped read) trace entries stop end log (live_at_stop g scoped valid areas fuel 0 trace entries stop end log)
