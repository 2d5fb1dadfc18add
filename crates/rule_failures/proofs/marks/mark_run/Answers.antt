use Rattle.std.proofs.Common.{refl, arith}
use Rattle.rule_failures.proofs.MarkLemmas.{marks_apart}
use Rattle.rule_failures.proofs.marks.mark_run.Goals as goal

pub returns-clause-apart : goal.returns-clause-apart
returns-clause-apart c = λ base n starts runs whole h e f. (
  λ _. marks_apart base n c.args.start c.args.words starts runs c.args.marks.now whole h e f (λ v low high. c.loop-word.invariant.unmarked v low (omega arith)),
  λ _. refl,
)
