use Rattle.grammar_reader.proofs.Paths.{exit, sign_is, sign_other}
use Rattle.grammar_reader.proofs.LoopRules.{step_none, step_refused, step_open_end, step_read}
use Rattle.grammar_reader.proofs.loops.for_step.Goals as goal

pub returns-then-eq-clause-read : goal.returns-then-eq-clause-read
returns-then-eq-clause-read c = step_none _ _ _ _ _ c.requires (sign_is c.sign.ensures c.if-eq.ensures) c.pass.ensures

pub returns-in_err-step-clause-refused : goal.returns-in_err-step-clause-refused
returns-in_err-step-clause-refused c = exit _ _ c.from_residual.ensures.1 (step_refused _ _ _ _ c.requires (sign_other c.sign.ensures c.if-eq.ensures) c.in_err-step.ensures.refused)

pub returns-in_err-step-2-clause-refused : goal.returns-in_err-step-2-clause-refused
returns-in_err-step-2-clause-refused c = exit _ _ c.from_residual-in_err-step-2.ensures.1 (step_open_end _ _ _ _ _ _ _ c.requires c.in_ok-step.ensures.read c.in_err-step-2.ensures.place c.in_err-step-2.ensures.other)

pub returns-clause-read : goal.returns-clause-read
returns-clause-read c = rw c.in_ok-step-2.ensures.held (step_read _ _ _ _ _ _ _ c.requires c.in_ok-step.ensures.read c.in_ok-step-2.ensures.taken)
