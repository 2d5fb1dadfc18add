-- The state of a stride rule, and the effects of its calls.
use Rattle.std.specs.Prelude.{ℕ, ◌≡◌, ⊤, ◌+◌, ◌*◌, ◌^◌, ◌≤◌, max, Bool, true, false, not, ◌||◌, IsTrue, IsSome, Option, Some, None, List, [], ◌∷◌, ◌++◌, filter}
use Rattle.std.specs.List.{AllByRecursion, list_all}
use Rattle.cap_word.specs.declared.threads.ThreadId.{ThreadId}
use Rattle.ready_tree.specs.declared.bounds.Bounds.{Bounds}
use Rattle.ready_tree.specs.declared.needs.Need.{Need}
use Rattle.ready_tree.specs.Needs.{is_met}
use Rattle.stride_rule.specs.declared.choices.StrideChoice.{StrideChoice}
use Rattle.stride_rule.specs.declared.clients.Client.{Client}
use Rattle.stride_rule.specs.Choices.{IsFirstEligible, choice_among}
use Rattle.stride_rule.specs.Clients.{IsAbsent, client_of, is_running, pass_in, grown, without}
use Rattle.stride_rule.specs.Told.{need_of, with_need, without_need}
use Rattle.stride_rule.specs.Tickets.{AreTickets, stride_of}

-- the given tickets; the threads that haven't left, with their strides and passes; the number of the thread whose
-- segment is in progress; the pass, before its growth, of the thread chosen last, or 0 at first; the number of choices
-- noted; whether at one of them some waiting thread wasn't eligible; the greatest stride of the threads started so far,
-- or 0 before the first; and the need of each thread
pub record StrideState : Type 0 where
  pub tickets : List (ℕ × ℕ)
  pub clients : List Client
  pub running : Option ℕ
  pub latest : ℕ
  pub noted : ℕ
  pub held_back : Bool
  pub greatest : ℕ
  pub needs : List (ℕ × Need)

-- the waiting threads
abbrev pub waiting_in : Option ℕ → List Client → List Client
waiting_in running clients = filter (λ client. not (is_running running client)) clients

abbrev pub waiting_of : StrideState → List Client
waiting_of rule = waiting_in rule.running rule.clients

-- no thread has been started
abbrev pub new_rule : List (ℕ × ℕ) → StrideState
new_rule tickets = record { tickets = tickets; clients = []; running = None; latest = 0; noted = 0; held_back = false; greatest = 0; needs = [] }

-- a thread was started, at the pass of the thread chosen last; it has no need
abbrev pub with_client : StrideState → ThreadId → StrideState
with_client rule thread = record rule {
  clients = rule.clients ++ record { thread = thread; stride = stride_of rule.tickets thread.number; pass = rule.latest } ∷ [];
  greatest = max rule.greatest (stride_of rule.tickets thread.number);
  needs = with_need thread.number Need.Nothing rule.needs;
}

-- a choice was noted: its segment is in progress, and its thread's pass has grown by its stride
abbrev pub after_choice : StrideState → StrideChoice → StrideState
after_choice rule choice = record rule {
  clients = grown choice.thread.number rule.clients;
  running = Some choice.thread.number;
  latest = pass_in choice.thread.number rule.clients;
  noted = rule.noted + 1;
  held_back = rule.held_back || not choice.all;
}

-- the segment in progress has ended, and its thread waits again
abbrev pub after_segment : StrideState → StrideState
after_segment rule = record rule { running = None }

-- the segment in progress has ended, and its thread waits with this need
abbrev pub after_segment_for : StrideState → ℕ → Need → StrideState
after_segment_for rule number need = record rule { running = None; needs = with_need number need rule.needs }

-- the segment in progress has ended, and its thread has left
abbrev pub after_leaving : StrideState → ℕ → StrideState
after_leaving rule number = record rule { clients = without number rule.clients; running = None; needs = without_need number rule.needs }

-- ---- which threads are eligible

-- a world guarantees the needs of the waiting threads
abbrev pub AreKnown : (ThreadId → Need → Type 0) → StrideState → Type 0
AreKnown vouches rule = AllByRecursion (λ client. vouches client.thread (need_of client.thread.number rule.needs)) (waiting_of rule)

-- the needs determine which threads pass the test
abbrev pub AreExact : Bounds → (ThreadId → Bool) → StrideState → Type 0
AreExact bounds test rule = AllByRecursion (λ client. is_met bounds (need_of client.thread.number rule.needs) ≡ test client.thread) (waiting_of rule)

-- the choice as it is noted: its thread is the one that runs next; whether all waiting threads are eligible is
-- determined only if no earlier choice found one that isn't, and otherwise has no effect on the rule
pub record IsNotedAs (rule : StrideState) (eligible : ThreadId → Bool) (choice : StrideChoice) : Type 0 where
  pub first : IsFirstEligible (waiting_of rule) eligible (choice_among (waiting_of rule) eligible choice.thread)
  pub all : IsTrue choice.all → list_all (λ other. eligible other.thread) (waiting_of rule) ≡ true
  pub held_back : (rule.held_back || not choice.all) ≡ (rule.held_back || not (list_all (λ other. eligible other.thread) (waiting_of rule)))

-- and there is none exactly if no waiting thread is eligible
abbrev pub IsNotedAsIf : StrideState → (ThreadId → Bool) → Option StrideChoice → Type 0
IsNotedAsIf rule eligible None = AllByRecursion (λ client. eligible client.thread ≡ false) (waiting_of rule)
IsNotedAsIf rule eligible (Some choice) = IsNotedAs rule eligible choice

-- ---- the invariant of a rule

-- the stride of each client is that of its tickets, and at most the greatest so far; and its pass is at most 1,048,576
-- times the number of choices
pub record IsClient (rule : StrideState) (client : Client) : Type 0 where
  pub stride_is : client.stride ≡ stride_of rule.tickets client.thread.number
  pub greatest : client.stride ≤ rule.greatest
  pub bound : client.pass ≤ 1048576 * rule.noted

-- each thread is there once
abbrev pub AreOnce : List Client → Type 0
AreOnce [] = ⊤
AreOnce (client ∷ clients) = IsAbsent client.thread.number clients × AreOnce clients

-- a pass is at least that of the thread chosen last, and exceeds it by at most the greatest stride
pub record IsNear (latest greatest : ℕ) (client : Client) : Type 0 where
  pub least : latest ≤ client.pass
  pub most : client.pass ≤ latest + greatest

pub record IsKept (rule : StrideState) : Type 0 where
  pub tickets : AreTickets rule.tickets
  pub counted : rule.noted ≤ 2 ^ 40
  pub latest : rule.latest ≤ 1048576 * rule.noted
  pub greatest : rule.greatest ≤ 1048576
  pub clients : AllByRecursion (IsClient rule) rule.clients
  pub once : AreOnce rule.clients
  pub near : rule.held_back ≡ false → AllByRecursion (IsNear rule.latest rule.greatest) rule.clients
  pub there : (number : ℕ) → rule.running ≡ Some number → IsSome (client_of number rule.clients)
