use Rattle.decisions.proofs.Images.{image_decided}
use Rattle.decisions.proofs.files.image_is_read_or_refused.Goals as goal

pub returns : goal.returns
returns c = image_decided
