-- A clock that didn't move.
use Rattle.run_course.proofs.Common.{◌≡◌, ℕ, ap, ◌∙◌, State, advanced, World}

pub clock_same : (state : State) (machine : World) → machine ≡ advanced state.machine machine.clock → machine.clock ≡ state.machine.clock → machine ≡ state.machine
clock_same state machine is same = is ∙ ap (λ (n : ℕ). advanced state.machine n) same
