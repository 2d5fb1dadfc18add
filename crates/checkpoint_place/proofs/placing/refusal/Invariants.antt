use Rattle.checkpoint_place.proofs.Common.{◌≡◌, drop, refusal_from}
use Rattle.checkpoint_place.proofs.placing.refusal.Given as goal

abbrev pub invariant-loop-function : goal.invariant-loop-function
invariant-loop-function l = refusal_from l.max_path l.function (drop l.function l.weights) ≡ refusal_from l.max_path 0 l.weights
