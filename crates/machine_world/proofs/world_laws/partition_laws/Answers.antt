use Rattle.machine_world.proofs.CountedLaws.{counted_start, all_free-new, counted_step, counted_actions}
use Rattle.machine_world.proofs.world_laws.partition_laws.Goals as goal

pub returns-clause-start : goal.returns-clause-start
returns-clause-start c = counted_start

pub returns-clause-step : goal.returns-clause-step
returns-clause-step c = counted_step

pub returns-clause-actions : goal.returns-clause-actions
returns-clause-actions c = counted_actions

pub returns-clause-new_pool : goal.returns-clause-new_pool
returns-clause-new_pool c = all_free-new
