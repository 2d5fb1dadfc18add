use Rattle.promises.proofs.Sized.{pool-kept}
use Rattle.promises.proofs.parts.pool.Goals as goal

pub returns : goal.returns
returns c = λ words before after err err' faults faults' last status answer. pool-kept words before after err err' faults faults' last status answer
