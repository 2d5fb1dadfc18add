use Rattle.promises.proofs.Printed.{outputs-kept}
use Rattle.promises.proofs.parts.outputs.Goals as goal

pub returns : goal.returns
returns c = λ words before after err err' faults faults' last status answer. outputs-kept words before after err err' faults faults' last status answer
