-- The clients of a stride rule, compared with the waiting threads of a log.
use Rattle.std.specs.Prelude.{ℕ, ◌≡◌, ⊤, List, Option, Some, None, find, nat_eq, slice_index}
use Rattle.cap_word.specs.declared.threads.ThreadId.{ThreadId}
use Rattle.choice_rules.specs.Seen.{Waiter}
use Rattle.choice_rules.specs.Waiting.{IsPlaced}
use Rattle.rule_state.specs.Rules.{IsRunning}
use Rattle.rule_state.specs.Strides.{StridesState}
use Rattle.stride_rule.specs.declared.clients.Client.{Client}
use Rattle.stride_rule.specs.Clients.{client_of}
use Rattle.stride_rule.specs.State.{AreOnce, waiting_of}

-- the waiting thread of a number, if there is one
abbrev pub waiter_of : ℕ → List Waiter → Option Waiter
waiter_of number waiting = find (λ w. nat_eq w.thread number) waiting

-- the client's record is at its place, and its node is the one at which the thread waits
pub record IsClientOf (places : List (Option ℕ)) (nodes : List ℕ) (client : Client) (waiter : Waiter) : Type 0 where
  pub placed : IsPlaced places client.thread
  pub node : slice_index nodes client.thread.slot ≡ waiter.node

-- a client exactly for each waiting thread
abbrev pub AreBoth : List (Option ℕ) → List ℕ → Option Client → Option Waiter → Type 0
AreBoth places nodes None None = ⊤
AreBoth places nodes (Some client) (Some waiter) = IsClientOf places nodes client waiter
AreBoth places nodes _ _ = ⊥

-- the clients that wait are those of the waiting threads, and each client occurs once
pub record AreClients (places : List (Option ℕ)) (strides : StridesState) (waiting : List Waiter) : Type 0 where
  pub each : (number : ℕ) → AreBoth places strides.nodes (client_of number (waiting_of strides.rule)) (waiter_of number waiting)
  pub once : AreOnce strides.rule.clients

-- the segment of a thread is in progress, and the thread has its client
pub record HasRunner (strides : StridesState) (thread : ThreadId) : Type 0 where
  pub running : IsRunning strides thread
  pub client : Client
  pub there : client_of thread.number strides.rule.clients ≡ Some client
  pub thread_is : client.thread ≡ thread
