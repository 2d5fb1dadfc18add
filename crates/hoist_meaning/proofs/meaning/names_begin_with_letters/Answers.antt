use Rattle.hoist_meaning.proofs.ReadNames.{read_named}
use Rattle.hoist_meaning.proofs.meaning.names_begin_with_letters.Goals as goal

pub returns : goal.returns
returns c = read_named
