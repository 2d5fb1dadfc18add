use Rattle.ready_tree.proofs.Common.{◌≡◌, ℕ, ◌<◌, length, AreJoined, needs_of}
use Rattle.ready_tree.proofs.need_tree.copy_leaves.Given as goal

abbrev pub invariant-loop-queue : goal.invariant-loop-queue
invariant-loop-queue l = record {
  long : length l.larger ≡ length l.initial.larger;
  joined : AreJoined l.larger;
  same : (queue : ℕ) → queue < l.queue → needs_of l.larger queue ≡ needs_of l.nodes queue;
}
