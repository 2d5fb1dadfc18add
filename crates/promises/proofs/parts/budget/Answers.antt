use Rattle.promises.proofs.parts.budget.Goals as goal

pub returns : goal.returns
returns c = λ words before last status enough world budget threads is accepted few room. enough.ran world budget threads is accepted room few
