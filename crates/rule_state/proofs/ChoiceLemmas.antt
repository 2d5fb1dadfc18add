-- A choice by strides: its thread has a place for its node.
use Rattle.std.proofs.Common.{◌≡◌, ℕ, ◌<◌, Bool, Option, None, List, length, sym, ap, ◌∙◌, subst}
use Rattle.cap_word.specs.declared.threads.ThreadId.{ThreadId}
use Rattle.stride_rule.specs.declared.choices.StrideChoice.{StrideChoice}
use Rattle.stride_rule.specs.declared.clients.Client.{Client}
use Rattle.stride_rule.specs.Choices.{IsFirstEligible}
use Rattle.stride_rule.specs.Clients.{grown, without}
use Rattle.stride_rule.specs.State.{StrideState, waiting_in, waiting_of}
use Rattle.stride_rule.proofs.ClientLemmas.{all-client, all-grown, all-without}
use Rattle.stride_rule.proofs.NotingLemmas.{waiting-none}
use Rattle.rule_state.specs.Strides.{HaveNodes}

module _ (rule : StrideState) (eligible : ThreadId → Bool) (choice : StrideChoice) (is : IsFirstEligible (waiting_of rule) eligible choice) where
  pub slot_within : (nodes : List ℕ) → rule.running ≡ None → HaveNodes nodes rule.clients → choice.thread.slot < length nodes
  slot_within nodes none all =
      let waiting : waiting_of rule ≡ rule.clients = ap (λ (r : Option ℕ). waiting_in r rule.clients) none ∙ waiting-none rule.clients in
      let among : HaveNodes nodes (waiting_of rule) = subst (λ (cs : List Client). HaveNodes nodes cs) (sym waiting) all in
      let at : is.client.thread.slot < length nodes = all-client choice.thread.number (λ c. c.thread.slot < length nodes) (waiting_of rule) is.client among is.waits in
      subst (λ (t : ThreadId). t.slot < length nodes) is.thread_is at

-- growth and leaving take no place away
pub nodes-grown : (number : ℕ) (nodes : List ℕ) (clients : List Client) → HaveNodes nodes clients → HaveNodes nodes (grown number clients)
nodes-grown number nodes clients all = all-grown number (λ c. c.thread.slot < length nodes) (λ c at. at) clients all

pub nodes-without : (number : ℕ) (nodes : List ℕ) (clients : List Client) → HaveNodes nodes clients → HaveNodes nodes (without number clients)
nodes-without number nodes clients all = all-without number (λ c. c.thread.slot < length nodes) clients all
