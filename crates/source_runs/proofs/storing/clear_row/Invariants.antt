use Rattle.source_runs.proofs.Common.{◌≡◌, ◌<◌, ℕ, List, length, take, sum, slice_index, rows_of}
use Rattle.source_runs.proofs.Words.{filled}
use Rattle.source_runs.proofs.storing.clear_row.Given as goal

abbrev pub invariant-loop-i : goal.invariant-loop-i
invariant-loop-i l = record {
  count : length l.words ≡ length l.initial.words;
  rows : (ns : List ℕ) (x : ℕ) → x < length ns → l.start ≡ sum (take x ns) → l.width ≡ slice_index ns x → length l.initial.words ≡ sum ns → rows_of ns l.words ≡ filled (rows_of ns l.initial.words) x l.i;
}
