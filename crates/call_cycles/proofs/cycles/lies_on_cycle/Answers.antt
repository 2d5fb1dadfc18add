use Rattle.call_cycles.proofs.cycles.lies_on_cycle.Goals as goal

pub returns-then-off-function-clause-none : goal.returns-then-off-function-clause-none
returns-then-off-function-clause-none c = λ none cycle. c.requires.off c.args.function c.if-off-function.true cycle
