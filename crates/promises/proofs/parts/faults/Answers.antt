use Rattle.promises.proofs.Failed.{faults-kept}
use Rattle.promises.proofs.parts.faults.Goals as goal

pub returns : goal.returns
returns c = λ words before after err err' faults faults' last status answer. faults-kept words before after err err' faults faults' last status answer
