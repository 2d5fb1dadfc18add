use Rattle.grammar_reader.proofs.Paths.{exit}
use Rattle.grammar_reader.proofs.LoopRules.{parts_not_opened, parts_init_refused, parts_condition_refused, parts_step_refused, parts_read}
use Rattle.grammar_reader.proofs.loops.for_parts.Goals as goal

pub returns-in_err-inside-clause-refused : goal.returns-in_err-inside-clause-refused
returns-in_err-inside-clause-refused c = exit _ _ c.from_residual.ensures.1 (parts_not_opened _ _ _ _ c.in_err-inside.ensures.refused)

pub returns-in_err-init-clause-refused : goal.returns-in_err-init-clause-refused
returns-in_err-init-clause-refused c = exit _ _ c.from_residual-in_err-init.ensures.1 (parts_init_refused _ _ _ _ _ _ c.in_ok-inside.ensures.opened c.in_ok-inside.ensures.fits c.in_err-init.ensures.refused)

pub returns-in_err-condition-clause-refused : goal.returns-in_err-condition-clause-refused
returns-in_err-condition-clause-refused c =
    exit _ _ c.from_residual-in_err-condition.ensures.1 (parts_condition_refused _ _ _ _ _ _ _ _ _ c.in_ok-inside.ensures.opened c.in_ok-inside.ensures.fits c.in_ok-init.ensures.read c.in_err-condition.ensures.refused)

pub returns-in_err-step-clause-refused : goal.returns-in_err-step-clause-refused
returns-in_err-step-clause-refused c =
    exit _ _ c.from_residual-in_err-step.ensures.1 (parts_step_refused _ _ _ _ _ _ _ _ _ _ _ c.in_ok-inside.ensures.opened c.in_ok-inside.ensures.fits c.in_ok-init.ensures.read c.in_ok-condition.ensures.read c.in_err-step.ensures.refused)

pub returns-clause-read : goal.returns-clause-read
returns-clause-read c = parts_read _ _ _ _ _ _ _ _ _ _ _ _ c.in_ok-inside.ensures.opened c.in_ok-inside.ensures.fits c.in_ok-init.ensures.read c.in_ok-condition.ensures.read c.in_ok-step.ensures.read
