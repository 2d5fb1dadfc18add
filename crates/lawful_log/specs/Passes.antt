-- The passes of a stride rule after the choices so far.
use Rattle.std.specs.Prelude.{ℕ, ◌≡◌, ◌≤◌, ⊤, List, [], ◌∷◌}
use Rattle.std.specs.List.{AllByRecursion}
use Rattle.choice_rules.specs.Seen.{PastChoice}
use Rattle.choice_rules.specs.Strides.{pass_of, latest_pass}
use Rattle.stride_rule.specs.declared.clients.Client.{Client}
use Rattle.stride_rule.specs.State.{StrideState}
use Rattle.stride_rule.specs.Tickets.{stride_of}

-- the pass of a client is that of its thread after these choices, and its stride is that of its tickets
pub record IsAtPass (tickets : List (ℕ × ℕ)) (taken : List PastChoice) (client : Client) : Type 0 where
  pub pass : client.pass ≡ pass_of tickets taken client.thread.number
  pub stride : client.stride ≡ stride_of tickets client.thread.number

pub record HasPasses (tickets : List (ℕ × ℕ)) (rule : StrideState) (taken : List PastChoice) : Type 0 where
  pub tickets_are : rule.tickets ≡ tickets
  pub latest : rule.latest ≡ latest_pass tickets taken
  pub each : AllByRecursion (IsAtPass tickets taken) rule.clients

-- at most this many threads had been started by the latest choice
abbrev pub StartedBy : List PastChoice → ℕ → Type 0
StartedBy [] started = ⊤
StartedBy (latest ∷ earlier) started = latest.started ≤ started
