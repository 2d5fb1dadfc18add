use Rattle.thread_core.proofs.Joining.{IsGoing}
use Rattle.thread_core.proofs.state.State.run.Given as goal

abbrev pub invariant-loop-turn : goal.invariant-loop-turn
invariant-loop-turn l = IsGoing l.accepted l.most l.thread l.initial.self l.self

abbrev pub decreases-loop-turn : goal.decreases-loop-turn
decreases-loop-turn l = l.self.fuel.left
