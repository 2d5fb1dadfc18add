use Rattle.promises.proofs.Stopping.{stops-kept}
use Rattle.promises.proofs.parts.stops.Goals as goal

pub returns : goal.returns
returns c = λ words before after err err' faults faults' last status answer. stops-kept words before after err err' faults faults' last status answer
