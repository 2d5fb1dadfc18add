-- The definition of a choice by strides.
use Rattle.std.specs.Prelude.{◌≡◌, false, Bool, IsTrue, Option, Some, None, List}
use Rattle.std.specs.List.{AllByRecursion, list_all}
use Rattle.cap_word.specs.declared.threads.ThreadId.{ThreadId}
use Rattle.stride_rule.specs.declared.choices.StrideChoice.{StrideChoice}
use Rattle.stride_rule.specs.declared.clients.Client.{Client}
use Rattle.stride_rule.specs.Clients.{client_of, is_before}

-- no client comes before this one
abbrev pub IsFirst : List Client → Client → Type 0
IsFirst clients first = AllByRecursion (λ client. is_before client first ≡ false) clients

-- the choice is of a waiting, eligible client; no waiting, eligible client comes before it; and it says whether all
-- waiting clients are eligible
pub record IsFirstEligible (waiting : List Client) (eligible : ThreadId → Bool) (choice : StrideChoice) : Type 0 where
  pub client : Client
  pub waits : client_of choice.thread.number waiting ≡ Some client
  pub thread_is : client.thread ≡ choice.thread
  pub passes : IsTrue (eligible choice.thread)
  pub first : AllByRecursion (λ other. IsTrue (eligible other.thread) → is_before other client ≡ false) waiting
  pub all_is : choice.all ≡ list_all (λ other. eligible other.thread) waiting

-- the lawful choice, and none exactly if no waiting client is eligible
abbrev pub IsLawfulStrideChoice : List Client → (ThreadId → Bool) → Option StrideChoice → Type 0
IsLawfulStrideChoice waiting eligible None = AllByRecursion (λ client. eligible client.thread ≡ false) waiting
IsLawfulStrideChoice waiting eligible (Some choice) = IsFirstEligible waiting eligible choice

-- the choice of a thread, which says whether all waiting clients are eligible
abbrev pub choice_among : List Client → (ThreadId → Bool) → ThreadId → StrideChoice
choice_among waiting eligible thread = record { thread = thread; all = list_all (λ other. eligible other.thread) waiting }

-- the thread of the lawful choice, and none exactly if no waiting client is eligible
abbrev pub IsLawfulStrideThread : List Client → (ThreadId → Bool) → Option ThreadId → Type 0
IsLawfulStrideThread waiting eligible None = AllByRecursion (λ client. eligible client.thread ≡ false) waiting
IsLawfulStrideThread waiting eligible (Some thread) = IsFirstEligible waiting eligible (choice_among waiting eligible thread)
