use Rattle.machine_world.proofs.FormWorlds.{IsWellFormedIf-start, KeepsWellFormed-step, IsWellFormedIf-action}
use Rattle.machine_world.proofs.forms.form_laws.Goals as goal

pub returns-clause-start : goal.returns-clause-start
returns-clause-start c = IsWellFormedIf-start

pub returns-clause-step : goal.returns-clause-step
returns-clause-step c = KeepsWellFormed-step

pub returns-clause-action : goal.returns-clause-action
returns-clause-action c = IsWellFormedIf-action
