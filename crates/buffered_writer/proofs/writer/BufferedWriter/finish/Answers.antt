use Rattle.buffered_writer.proofs.Written.{prefix_none}
use Rattle.buffered_writer.proofs.writer.BufferedWriter.finish.Goals as goal

pub returns-in-Some-clause-bytes : goal.returns-in-Some-clause-bytes
returns-in-Some-clause-bytes g c = prefix_none _ _
