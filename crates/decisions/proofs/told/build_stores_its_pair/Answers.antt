use Rattle.decisions.proofs.BytesAreTexts.{build_stores_its_pair}
use Rattle.decisions.proofs.told.build_stores_its_pair.Goals as goal

pub returns : goal.returns
returns c = build_stores_its_pair
