use Rattle.std.proofs.Common.{arith}
use Rattle.std.proofs.lemmas.Grind.{common_steps}
use Rattle.cap_io.proofs.Fronts.{read_front}
use Rattle.cap_io.proofs.memory_source.MemSourceSource.read.Goals as goal

pub returns-clause-bytes : goal.returns-clause-bytes
returns-clause-bytes c = rw (← c.self.view_is) (read_front c.self.inside.bytes.items c.copy_front-count.new.to c.self.inside.at c.copy_front-count.result (grind (arith, common_steps)) (λ none room. omega arith))
