use Rattle.segment_run.proofs.RegisterFiles.{restored, zero_at_first}
use Rattle.segment_run.proofs.register_file.RegisterFile.new.Goals as goal

pub returns : goal.returns
returns c = restored c.args.values

pub invariant_of-result : goal.invariant_of-result
invariant_of-result c = zero_at_first c.args.values
