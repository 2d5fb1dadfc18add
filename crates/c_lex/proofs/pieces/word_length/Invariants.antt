use Rattle.c_lex.proofs.Common.{ℕ, ◌<◌, slice_index, IsTrue, is_word_byte}
use Rattle.c_lex.proofs.pieces.word_length.Given as goal

-- a word so far
abbrev pub invariant-loop-place : goal.invariant-loop-place
invariant-loop-place l = (k : ℕ) → k < l.place → IsTrue (is_word_byte (slice_index l.text k))
