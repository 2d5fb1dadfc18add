-- The threads that wait, beside the machine world.
use Rattle.std.specs.Prelude.{◌≡◌, ◌≢◌, ℕ, true, false, IsSome, List, Option, Some, None}
use Rattle.std.specs.List.{AllByRecursion}
use Rattle.choice_rules.specs.Seen.{Waiter}
use Rattle.choice_rules.specs.Waiting.{IsOnce, waits}
use Rattle.machine_world.specs.Threads.{Blocked, Thread, World, thread_of}

-- if the thread is blocked, it is so since that clock
abbrev pub SinceIs : Option Blocked → ℕ → Type 0
SinceIs None since = Unit {0}
SinceIs (Some blocked) since = blocked.since ≡ since

-- the waiting thread is live
pub record IsWaiting (w : World) (waiter : Waiter) : Type 0 where
  pub thread : Thread
  pub live : thread_of w waiter.thread ≡ Some thread
  pub since : SinceIs thread.blocked waiter.since

-- those that wait are the live threads but the running one, each once
pub record AreWaiting (w : World) (waiting : List Waiter) : Type 0 where
  pub each : AllByRecursion (IsWaiting w) waiting
  pub once : IsOnce waiting
  pub running : (number : ℕ) → w.running ≡ Some number → waits waiting number ≡ false
  pub all : (number : ℕ) → w.running ≢ Some number → IsSome (thread_of w number) → waits waiting number ≡ true
