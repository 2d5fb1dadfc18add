use Rattle.machine_world.proofs.ActionLaws.{after_steps-add, after_actions-append}
use Rattle.machine_world.proofs.world_laws.run_laws.Goals as goal

pub returns-clause-steps_add : goal.returns-clause-steps_add
returns-clause-steps_add c = after_steps-add

pub returns-clause-actions_join : goal.returns-clause-actions_join
returns-clause-actions_join c = after_actions-append
