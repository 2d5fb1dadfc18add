-- The state of a rule, by the rule.
use Rattle.std.specs.Prelude.{ℕ, ℤ, ◌≡◌, ◌<◌, ⊤, Bool, Option, Some, None, length}
use Rattle.cap_word.specs.declared.threads.ThreadId.{ThreadId}
use Rattle.ready_tree.specs.declared.needs.Need.{Need}
use Rattle.scheduler.specs.declared.choices.Choice.{Choice}
use Rattle.scheduler.specs.LawfulChoice.{IsLawfulChoice}
use Rattle.scheduler.specs.State as graph
use Rattle.scheduler.specs.State.{SchedulerState, queue_of, last_of, AreKnown}
use Rattle.stride_rule.specs.Clients.{IsAbsent}
use Rattle.stride_rule.specs.State as known
use Rattle.rule_state.specs.Strides as strides
use Rattle.rule_state.specs.Strides.{StridesState, IsChoiceByStrides, IsNotedByStrides}
use Rattle.rule_state.specs.declared.rules.RuleState.{RuleState}
use Rattle.rule_state.specs.declared.rules.RuleState.TheVariants.{Graph, Stride}

-- ---- what a call requires

-- a thread may be started: the stride rule has none with its number
abbrev pub MayStart : RuleState → ThreadId → Type 0
MayStart (Graph scheduler) thread = ⊤
MayStart (Stride strides) thread = IsAbsent thread.number strides.rule.clients

-- the world guarantees the needs
abbrev pub AreKnownTo : (ThreadId → Need → Type 0) → RuleState → Type 0
AreKnownTo vouches (Graph scheduler) = AreKnown vouches scheduler
AreKnownTo vouches (Stride strides) = known.AreKnown vouches strides.rule

-- no segment is in progress, as far as the rule records that
abbrev pub HasNone : RuleState → Type 0
HasNone (Graph scheduler) = ⊤
HasNone (Stride strides) = strides.rule.running ≡ None

-- a thread's segment is in progress, as far as the rule records that
pub record IsRunning (strides : StridesState) (thread : ThreadId) : Type 0 where
  pub running : strides.rule.running ≡ Some thread.number
  pub place : thread.slot < length strides.nodes

abbrev pub IsUnderWay : RuleState → ThreadId → Type 0
IsUnderWay (Graph scheduler) thread = ⊤
IsUnderWay (Stride strides) thread = IsRunning strides thread

-- the number of choices so far
abbrev pub noted_of : RuleState → ℕ
noted_of (Graph scheduler) = scheduler.noted
noted_of (Stride strides) = strides.rule.noted

-- ---- the choice

abbrev pub IsLawfulOf : RuleState → (ThreadId → Bool) → (ℕ → ℤ) → Option Choice → Type 0
IsLawfulOf (Graph scheduler) eligible score choice = IsLawfulChoice (queue_of scheduler) eligible score (last_of scheduler) choice
IsLawfulOf (Stride strides) eligible score choice = IsChoiceByStrides strides eligible choice

-- ---- the effects of the calls

-- a thread joined the end of a node's queue with its need, and nothing else changed
pub record IsQueued (old new : SchedulerState) (thread : ThreadId) (node : ℕ) (need : Need) : Type 0 where
  pub joined : graph.IsJoined old new node thread
  pub told : graph.IsTold old new node (record { thread = thread; need = need })

-- the choice's thread left its queue with its need, and the choice was noted
pub record IsUnqueued (old new : SchedulerState) (choice : Choice) : Type 0 where
  pub noted : graph.IsNoted old new choice
  pub taken : graph.IsTaken old new choice

-- a thread was started
abbrev pub HasStarted : RuleState → RuleState → ThreadId → Type 0
HasStarted (Graph old) (Graph new) thread = IsQueued old new thread 0 Need.Nothing
HasStarted (Stride old) (Stride new) thread = strides.IsStarted old new thread
HasStarted _ _ thread = ⊥

-- a choice was made and noted
abbrev pub HasTaken : RuleState → RuleState → (ThreadId → Bool) → Choice → Type 0
HasTaken (Graph old) (Graph new) eligible choice = IsUnqueued old new choice
HasTaken (Stride old) (Stride new) eligible choice = IsNotedByStrides old new eligible choice
HasTaken _ _ eligible choice = ⊥

-- the thread whose segment was in progress waits at a node, with its need
abbrev pub HasRejoined : RuleState → RuleState → ThreadId → ℕ → Need → Type 0
HasRejoined (Graph old) (Graph new) thread node need = IsQueued old new thread node need
HasRejoined (Stride old) (Stride new) thread node need = strides.IsRejoined old new thread node need
HasRejoined _ _ thread node need = ⊥

-- the thread whose segment was in progress has left
abbrev pub HasLeft : RuleState → RuleState → ThreadId → Type 0
HasLeft (Graph old) (Graph new) thread = new ≡ old
HasLeft (Stride old) (Stride new) thread = strides.IsLeft old new thread
HasLeft _ _ thread = ⊥
