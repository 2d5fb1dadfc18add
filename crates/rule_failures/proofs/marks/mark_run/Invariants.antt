use Rattle.rule_failures.proofs.Common.{◌≡◌, ℕ, ◌<◌, ◌≤◌, true, false, is_marked}
use Rattle.rule_failures.proofs.marks.mark_run.Given as goal

abbrev pub invariant-loop-word : goal.invariant-loop-word
invariant-loop-word l = record {
  unmarked : (v : ℕ) → l.start ≤ v → v < l.word → is_marked l.initial.marks v ≡ false;
  marked : (v : ℕ) → l.start ≤ v → v < l.word → is_marked l.marks v ≡ true;
  before : (v : ℕ) → v < l.start → is_marked l.marks v ≡ is_marked l.initial.marks v;
  behind : (v : ℕ) → l.word ≤ v → is_marked l.marks v ≡ is_marked l.initial.marks v;
}
