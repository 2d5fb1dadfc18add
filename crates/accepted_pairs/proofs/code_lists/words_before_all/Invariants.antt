use Rattle.accepted_pairs.proofs.Common.{program_code, AreBefore}
use Rattle.accepted_pairs.proofs.code_lists.words_before_all.Given as goal

abbrev pub invariant-loop-f : goal.invariant-loop-f
invariant-loop-f l = AreBefore (program_code l.flat) l.certificate l.f l.lists.items
