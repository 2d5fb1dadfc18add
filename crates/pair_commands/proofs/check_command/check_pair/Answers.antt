use Rattle.std.proofs.Common.{refl}
use Rattle.pair_commands.specs.declared.check_command.Verdict.TheVariants.{Rejected}
use Rattle.pair_commands.proofs.check_command.check_pair.Goals as goal

pub returns-in-Err-Rejected : goal.returns-in-Err-Rejected
returns-in-Err-Rejected c =
    let refusal = rw c.in-Err-Rejected.field-0-is at c.in-Err-Rejected.ensures.refused in
    (Rejected c.in-Err-Rejected.rule c.in-Err-Rejected.function c.in-Err-Rejected.index, refusal.1, refl)
