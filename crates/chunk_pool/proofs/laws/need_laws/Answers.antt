use Rattle.chunk_pool.proofs.NeedLaws.{taken_for-none, taken_for-fits, taken_for-smallest, taken_for-leaves, taken_for-keeps, taken_for-sound}
use Rattle.chunk_pool.proofs.laws.need_laws.Goals as goal

pub returns-clause-none : goal.returns-clause-none
returns-clause-none c = taken_for-none

pub returns-clause-fits : goal.returns-clause-fits
returns-clause-fits c = taken_for-fits

pub returns-clause-smallest : goal.returns-clause-smallest
returns-clause-smallest c = taken_for-smallest

pub returns-clause-leaves : goal.returns-clause-leaves
returns-clause-leaves c = taken_for-leaves

pub returns-clause-keeps : goal.returns-clause-keeps
returns-clause-keeps c = taken_for-keeps

pub returns-clause-sound : goal.returns-clause-sound
returns-clause-sound c = taken_for-sound
