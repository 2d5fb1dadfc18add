use Rattle.command_words.proofs.Chosen.{if_none}
use Rattle.command_words.proofs.option_values.audit_given.Goals as goal

pub returns-in_err-policy-clause-none : goal.returns-in_err-policy-clause-none
returns-in_err-policy-clause-none c = if_none c.from_residual.result (λ audit is. c.in_err-policy.ensures.none audit.policy is.policy)

pub returns-in_err-steps-clause-none : goal.returns-in_err-steps-clause-none
returns-in_err-steps-clause-none c = if_none c.from_residual-in_err-steps.result (λ audit is. c.in_err-steps.ensures.none audit.steps is.steps)

pub returns-clause-found : goal.returns-clause-found
returns-clause-found c = record { policy = c.in_ok-policy.ensures.found; steps = c.in_ok-steps.ensures.found }
