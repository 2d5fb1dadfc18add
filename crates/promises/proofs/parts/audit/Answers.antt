use Rattle.promises.proofs.Judged.{audit-kept}
use Rattle.promises.proofs.parts.audit.Goals as goal

pub returns : goal.returns
returns c = λ words before after err err' faults faults' last status answer. audit-kept words before after err err' faults faults' last status answer
