use Rattle.c_lex.specs.declared.marks.Mark.TheVariants as marks
use Rattle.c_lex.proofs.Common.{ℕ, ◌<◌, get_or, mark_text, BeginsWith}
use Rattle.c_lex.proofs.marks.mark_at.Given as goal

-- none so far
abbrev pub invariant-loop-mark : goal.invariant-loop-mark
invariant-loop-mark l = (k : ℕ) → k < l.mark-index → ¬ BeginsWith l.text (mark_text (get_or l.mark-items k marks.ShiftLeftAssign))
