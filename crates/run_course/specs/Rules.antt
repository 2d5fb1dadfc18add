-- The state of the rule, compared with the state of a log.
use Rattle.std.specs.Prelude.{ℕ, ◌≡◌, List, [], Option, None}
use Rattle.cap_word.specs.declared.threads.ThreadId.{ThreadId}
use Rattle.choice_rules.specs.Policy.{Rule, by_graph, by_stride}
use Rattle.choice_rules.specs.Seen.{Waiter, Past}
use Rattle.choice_rules.specs.Waiting.{AreQueued}
use Rattle.lawful_log.specs.Beside.{HasLasts}
use Rattle.machine_world.specs.Threads.{World}
use Rattle.rule_state.specs.declared.rules.RuleState.{RuleState}
use Rattle.rule_state.specs.declared.rules.RuleState.TheVariants.{Graph, Stride}
use Rattle.scheduler.specs.State.{started}
use Rattle.stride_rule.specs.State.{new_rule}
use Rattle.lawful_log.specs.Clients.{AreClients, HasRunner}
use Rattle.lawful_log.specs.Passes.{HasPasses}
use Rattle.run_course.specs.Needs.{AreNeeded, AreNeededByStrides}

-- the rule of a policy whose state this is
abbrev pub rule_of : RuleState → Rule
rule_of (Graph scheduler) = by_graph
rule_of (Stride strides) = by_stride strides.rule.tickets

-- no thread has been started
abbrev pub HasNothing : RuleState → Type 0
HasNothing (Graph scheduler) = scheduler ≡ started
HasNothing (Stride strides) = strides ≡ record { rule = new_rule strides.rule.tickets; nodes = [] }

-- between segments the rule has the waiting threads, and no thread runs
abbrev pub AreKept : List (Option ℕ) → RuleState → List Waiter → Type 0
AreKept places (Graph scheduler) waiting = AreQueued places scheduler waiting
AreKept places (Stride strides) waiting = AreClients places strides waiting × (strides.rule.running ≡ None)

-- within the segment of a thread the rule has the waiting threads, and that thread runs
abbrev pub AreKeptBeside : List (Option ℕ) → RuleState → List Waiter → ThreadId → Type 0
AreKeptBeside places (Graph scheduler) waiting thread = AreQueued places scheduler waiting
AreKeptBeside places (Stride strides) waiting thread = AreClients places strides waiting × HasRunner strides thread

-- the recorded needs are those of the threads
abbrev pub AreTold : World → RuleState → Type 0
AreTold w (Graph scheduler) = AreNeeded w scheduler
AreTold w (Stride strides) = AreNeededByStrides w strides.rule

-- the data on which the rule's choices depend is that of the past
abbrev pub HasAccounts : Rule → RuleState → Past → Type 0
HasAccounts by_graph (Graph scheduler) past = HasLasts scheduler past
HasAccounts (by_stride tickets) (Stride strides) past = HasPasses tickets strides.rule past.taken
HasAccounts _ _ past = ⊥
