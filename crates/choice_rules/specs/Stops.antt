-- The stops of a run at a choice point.
use Rattle.std.specs.Prelude.{◌≡◌, ◌≢◌, ℕ, false, [], None}
use Rattle.choice_rules.specs.Policy.{Policy}
use Rattle.choice_rules.specs.Trace.{IsNext, IsRefused}
use Rattle.choice_rules.specs.Seen.{Seen}
use Rattle.choice_rules.specs.Readiness.{any_ready, waking_times}

-- every thread has ended
pub record IsDone (seen : Seen) : Type 0 where
  pub between : seen.under_way ≡ false
  pub nobody : seen.live ≡ 0

-- some thread is live, and the next line of the trace is refused
pub record IsBadTrace (seen : Seen) (line : ℕ) : Type 0 where
  pub between : seen.under_way ≡ false
  pub live : seen.live ≢ 0
  pub refused : IsRefused seen.trace line

-- some thread is live, the trace has ended, no thread is ready and none sleeps
pub record IsIdle (policy : Policy) (seen : Seen) : Type 0 where
  pub between : seen.under_way ≡ false
  pub live : seen.live ≢ 0
  pub over : IsNext seen.trace None
  pub none_ready : any_ready policy seen seen.clock ≡ false
  pub none_sleeps : waking_times seen ≡ []
