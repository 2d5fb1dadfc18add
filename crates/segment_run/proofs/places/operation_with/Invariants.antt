use Rattle.segment_run.proofs.Common.{◌-◌, ◌^◌, ◌<◌, ◌≤◌, length, function_at, checked_of, words_before}
use Rattle.segment_run.proofs.places.operation_with.Given as goal

-- the word is not before the lower operation, and before the upper one
abbrev pub invariant-halving : goal.invariant-halving
invariant-halving l = record {
  apart : l.low < l.high;
  inside : l.high ≤ length (function_at (checked_of l.accepted).flat l.function).ops;
  few : l.high ≤ 2 ^ 32;
  below : words_before (checked_of l.accepted).flat (checked_of l.accepted).certificate l.function l.low ≤ l.word;
  above : l.word < words_before (checked_of l.accepted).flat (checked_of l.accepted).certificate l.function l.high;
}

abbrev pub decreases-halving : goal.decreases-halving
decreases-halving l = l.high - l.low
