use Rattle.promises.proofs.Chosen.{choices-kept}
use Rattle.promises.proofs.parts.choices.Goals as goal

pub returns : goal.returns
returns c = λ words before after err err' faults faults' last status answer. choices-kept words before after err err' faults faults' last status answer
