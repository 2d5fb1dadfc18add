use Rattle.accepted_pairs.proofs.Common.{◌≡◌, ℕ, ◌+◌, ◌*◌, ◌^◌, ◌<◌, ◌≤◌, length, slice_index, program_code, words_before}
use Rattle.accepted_pairs.proofs.words_before.words_before_each.Given as goal

abbrev pub invariant-loop-op : goal.invariant-loop-op
invariant-loop-op l = record {
  count : length l.before.items ≡ l.op + 1;
  words : l.words ≡ words_before (program_code l.flat) l.certificate l.function l.op;
  few : l.words ≤ 8 + l.op * 2 ^ 21;
  each : (i : ℕ) → i ≤ l.op → slice_index l.before.items i ≡ words_before (program_code l.flat) l.certificate l.function i;
  range : (i : ℕ) → slice_index l.before.items i < 2 ^ 54;
}
