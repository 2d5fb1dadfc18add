use Rattle.c_hoist.proofs.WholeReads.{reads_nested}
use Rattle.c_hoist.proofs.laws.whole_sources_read_alike.Goals as goal

pub returns : goal.returns
returns c = reads_nested
