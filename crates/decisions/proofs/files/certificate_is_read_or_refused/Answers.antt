use Rattle.decisions.proofs.Certificates.{certificate_decided}
use Rattle.decisions.proofs.files.certificate_is_read_or_refused.Goals as goal

pub returns : goal.returns
returns c = certificate_decided
