use Rattle.std.proofs.Common.{ℕ, ◌≢◌, ◌<◌, slice_index}
use Rattle.c_lex.proofs.comments.line_length.Given as goal

-- no LF so far
abbrev pub invariant-loop-place : goal.invariant-loop-place
invariant-loop-place l = (k : ℕ) → k < l.place → slice_index l.text k ≢ 10
