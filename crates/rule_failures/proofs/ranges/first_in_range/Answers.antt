use Rattle.std.proofs.Common.{refl, arith}
use Rattle.rule_failures.proofs.ranges.first_in_range.Goals as goal

pub mark_run-requires : goal.mark_run-requires
mark_run-requires c =
    let inside = c.if-not-lies_in_code.ensures.0 refl in
    omega (arith, inside.0, inside.1, inside.2, c.len.ensures, c.requires.count)
