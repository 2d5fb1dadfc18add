use Rattle.pair_commands.proofs.Common.{refl, sym, subst, CheckError, Refused, IsUnaccepted}
use Rattle.command_outcomes.specs.declared.stops.Cause.TheVariants as cause
use Rattle.pair_commands.proofs.run_command.stop_of.Goals as goal

pub returns-in-Rejected : goal.returns-in-Rejected
returns-in-Rejected c =
    let P : CheckError → Type 0 = λ e. IsUnaccepted e (Refused (cause.Rejected c.in-Rejected.rule c.in-Rejected.function c.in-Rejected.index)) in
    subst P (sym c.in-Rejected.is) refl
