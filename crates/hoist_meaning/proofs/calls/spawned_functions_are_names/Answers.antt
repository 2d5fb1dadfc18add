use Rattle.hoist_meaning.proofs.SpawnedSources.{scoped_plain}
use Rattle.hoist_meaning.proofs.calls.spawned_functions_are_names.Goals as goal

pub returns : goal.returns
returns c = scoped_plain
