use Rattle.accepted_pairs.proofs.Common.{◌≡◌, ℕ, ◌<◌, ◌≤◌, slice_index}
use Rattle.accepted_pairs.proofs.code_lists.name_run.Given as goal

abbrev pub invariant-loop-word : goal.invariant-loop-word
invariant-loop-word l = record {
  run : (v : ℕ) → l.start ≤ v → v < l.word → slice_index l.functions v ≡ l.function;
  before : (v : ℕ) → v < l.start → slice_index l.functions v ≡ slice_index l.initial.functions v;
  behind : (v : ℕ) → l.word ≤ v → slice_index l.functions v ≡ slice_index l.initial.functions v;
}
