use Rattle.source_runs.proofs.Common.{◌≡◌, ◌<◌, ℕ, length, take, sum, slice_index}
use Rattle.source_runs.proofs.layout.layout_of.Given as goal

abbrev pub invariant-loop-width : goal.invariant-loop-width
invariant-loop-width l = record {
  words : l.words ≡ sum (take l.width-index l.widths);
  count : length l.starts.items ≡ l.width-index;
  each : (x : ℕ) → x < l.width-index → slice_index l.starts.items x ≡ sum (take x l.widths);
}
