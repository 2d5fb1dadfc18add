-- The choice of a thread in a log.
use Rattle.std.specs.Prelude.{◌≡◌, ℕ, [], ◌∷◌, length, Some}
use Rattle.choice_rules.specs.Choice.{IsChoice}
use Rattle.choice_rules.specs.Seen.{Waiter, others_waiting, with_choice, uses_of}
use Rattle.machine_world.specs.Runs.{Advance, Pick, after_actions}
use Rattle.machine_world.specs.Threads.{World}
use Rattle.lawful_log.specs.Setup.{Setup, setting_of}
use Rattle.lawful_log.specs.State.{State, seen_of}

-- the state after a choice: the thread no longer waits, and its segment begins in this machine world
abbrev pub chosen_from : State → Waiter → World → State
chosen_from state chosen machine = record state {
  machine = machine;
  waiting = others_waiting state.waiting chosen;
  segment = Some (record { thread = chosen.thread; node = chosen.node; uses = uses_of (seen_of state); cost = 0; puts = [] });
  past = with_choice state.past chosen (length state.source.threads);
}

-- `run`: no event is due, and the thread is the lawful choice
pub record IsRun (g : Setup) (before : State) (clock thread node : ℕ) (after : State) : Type 0 where
  pub chosen : Waiter
  pub choice : IsChoice g.policy (seen_of before) clock chosen
  pub thread_is : thread ≡ chosen.thread
  pub node_is : node ≡ chosen.node
  pub machine : World
  pub begins : after_actions (setting_of g) (Advance clock ∷ Pick thread ∷ []) before.machine ≡ Some machine
  pub after_is : after ≡ chosen_from before chosen machine
