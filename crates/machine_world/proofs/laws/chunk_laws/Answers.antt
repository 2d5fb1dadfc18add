use Rattle.machine_world.proofs.HeldLaws.{KeepsCopies-step, KeepsShape-step}
use Rattle.machine_world.proofs.LinkLaws.{unlinked-undoes}
use Rattle.machine_world.proofs.laws.chunk_laws.Goals as goal

pub returns-clause-kept : goal.returns-clause-kept
returns-clause-kept c = KeepsCopies-step

pub returns-clause-shape : goal.returns-clause-shape
returns-clause-shape c = KeepsShape-step

pub returns-clause-undone : goal.returns-clause-undone
returns-clause-undone c = unlinked-undoes
