use Rattle.chunk_budget.proofs.Common.{program_code}
use Rattle.chunk_budget.proofs.CoverLemmas.{low_least}
use Rattle.chunk_budget.proofs.sites.least_low_site.Goals as goal

pub returns : goal.returns
returns c = low_least (program_code c.args.flat.now) c.args.certificate.now c.args.heights.now c.args.flat.now.well_formed c.least_of_sites.result c.least_of_sites.ensures
