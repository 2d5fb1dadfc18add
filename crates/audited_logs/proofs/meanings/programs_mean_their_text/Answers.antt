use Rattle.audited_logs.proofs.Common.{program_means}
use Rattle.audited_logs.proofs.meanings.programs_mean_their_text.Goals as goal

pub returns : goal.returns
returns c = program_means
