use Rattle.promises.proofs.Frames.{memory-kept}
use Rattle.promises.proofs.parts.memory.Goals as goal

pub returns : goal.returns
returns c = λ words before after err err' faults faults' last status answer. memory-kept words before after err err' faults faults' last status answer
