-- Threads that are chosen by strides, with the nodes at which they wait.
use Rattle.std.specs.Prelude.{ℕ, ◌≡◌, ◌<◌, Bool, false, Option, Some, None, List, length, slice_index}
use Rattle.std.specs.List.{AllByRecursion}
use Rattle.cap_word.specs.declared.threads.ThreadId.{ThreadId}
use Rattle.ready_tree.specs.declared.needs.Need.{Need}
use Rattle.scheduler.specs.declared.choices.Choice.{Choice}
use Rattle.stride_rule.specs.declared.choices.StrideChoice.{StrideChoice}
use Rattle.stride_rule.specs.declared.clients.Client.{Client}
use Rattle.stride_rule.specs.Choices.{IsFirstEligible, choice_among}
use Rattle.stride_rule.specs.State.{StrideState, waiting_of, with_client, after_choice, after_segment_for, after_leaving}
use Rattle.rule_state.specs.Nodes.{IsPut}

-- the stride rule, and the node of each thread, by the slot of its record
pub record StridesState : Type 0 where
  pub rule : StrideState
  pub nodes : List ℕ

-- the node at which a thread waits
abbrev pub node_of : StridesState → ThreadId → ℕ
node_of strides thread = slice_index strides.nodes thread.slot

-- each thread has a place for its node
abbrev pub HaveNodes : List ℕ → List Client → Type 0
HaveNodes nodes clients = AllByRecursion (λ client. client.thread.slot < length nodes) clients

-- the choice of a thread by strides, which says whether all waiting threads are eligible
abbrev pub stride_choice : StrideState → (ThreadId → Bool) → ThreadId → StrideChoice
stride_choice rule eligible thread = choice_among (waiting_of rule) eligible thread

-- ---- the choice

-- the thread is the lawful choice by strides, and the node is that at which it waits
pub record IsFirstAtNode (strides : StridesState) (eligible : ThreadId → Bool) (choice : Choice) : Type 0 where
  pub first : IsFirstEligible (waiting_of strides.rule) eligible (stride_choice strides.rule eligible choice.thread)
  pub node : choice.node ≡ node_of strides choice.thread

-- and there is none exactly if no waiting thread is eligible
abbrev pub IsChoiceByStrides : StridesState → (ThreadId → Bool) → Option Choice → Type 0
IsChoiceByStrides strides eligible None = AllByRecursion (λ client. eligible client.thread ≡ false) (waiting_of strides.rule)
IsChoiceByStrides strides eligible (Some choice) = IsFirstAtNode strides eligible choice

-- ---- the effects of the calls

-- a thread was started, at a node
pub record IsStartedAt (old new : StridesState) (thread : ThreadId) (node : ℕ) : Type 0 where
  pub rule : new.rule ≡ with_client old.rule thread
  pub nodes : IsPut old.nodes new.nodes thread.slot node

abbrev pub IsStarted : StridesState → StridesState → ThreadId → Type 0
IsStarted old new thread = IsStartedAt old new thread 0

-- a choice was noted
abbrev pub IsNotedByStrides : StridesState → StridesState → (ThreadId → Bool) → Choice → Type 0
IsNotedByStrides old new eligible choice = new ≡ record { rule = after_choice old.rule (stride_choice old.rule eligible choice.thread); nodes = old.nodes }

-- the segment in progress has ended, and its thread waits at a node, with this need
pub record IsRejoined (old new : StridesState) (thread : ThreadId) (node : ℕ) (need : Need) : Type 0 where
  pub rule : new.rule ≡ after_segment_for old.rule thread.number need
  pub nodes : IsPut old.nodes new.nodes thread.slot node

-- the segment in progress has ended, and its thread has left
abbrev pub IsLeft : StridesState → StridesState → ThreadId → Type 0
IsLeft old new thread = new ≡ record { rule = after_leaving old.rule thread.number; nodes = old.nodes }
