use Rattle.machine_world.proofs.StretchLaws.{IsGoodStretch-add, IsGoodRun-done}
use Rattle.machine_world.proofs.stretches.stretch_laws.Goals as goal

pub returns-clause-joined : goal.returns-clause-joined
returns-clause-joined c = IsGoodStretch-add

pub returns-clause-done : goal.returns-clause-done
returns-clause-done c = IsGoodRun-done
