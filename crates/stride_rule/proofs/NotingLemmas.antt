-- A choice that `choose` or `first` gave may be noted, where no choice is under way.
use Rattle.stride_rule.proofs.Common.{◌≡◌, ℕ, ◌||◌, not, Bool, true, false, IsTrue, Option, Some, None, List, [], ◌∷◌, refl, sym, ap, ◌∙◌, subst, IsSome, IfSome, AllByRecursion, list_all, ThreadId, Bounds, Need, is_met, StrideChoice, Client, IsFirst, IsFirstEligible, IsLawfulStrideChoice, IsLawfulStrideThread, choice_among, client_of, is_before, need_of, StrideState, AreExact, AreKnown, IsNotedAs, IsNotedAsIf, after_choice, waiting_in, waiting_of, and_parts}
use Rattle.stride_rule.proofs.ClientLemmas.{all_to}

-- all clients wait
pub waiting-none : (cs : List Client) → waiting_in None cs ≡ cs
waiting-none [] = refl
waiting-none (c ∷ cs) = ap (λ (v : List Client). c ∷ v) (waiting-none cs)

pub all_wait : (running : Option ℕ) (cs : List Client) → running ≡ None → waiting_in running cs ≡ cs
all_wait running cs none = ap (λ (r : Option ℕ). waiting_in r cs) none ∙ waiting-none cs

first-of_all : (eligible : ThreadId → Bool) (first : Client) (cs : List Client) → list_all (λ c. eligible c.thread) cs ≡ true →
    AllByRecursion (λ c. IsTrue (eligible c.thread) → is_before c first ≡ false) cs → IsFirst cs first
first-of_all eligible first [] e all = tt
first-of_all eligible first (c ∷ cs) e all =
    let parts = and_parts (eligible c.thread) (list_all (λ c. eligible c.thread) cs) e in
    (all.0 parts.0, first-of_all eligible first cs parts.1 all.1)

pub record MayBeNoted (rule : StrideState) (choice : StrideChoice) : Type 0 where
  pub waits : IsSome (client_of choice.thread.number rule.clients)
  pub first : IsTrue choice.all → IfSome (client_of choice.thread.number rule.clients) (IsFirst rule.clients)

noted_by : (rule : StrideState) (eligible : ThreadId → Bool) (choice : StrideChoice) → IsFirstEligible rule.clients eligible choice → MayBeNoted rule choice
noted_by rule eligible choice is = record {
  waits = subst (λ (o : Option Client). IsSome o) (sym is.waits) refl;
  first = λ all. subst (λ (o : Option Client). IfSome o (IsFirst rule.clients)) (sym is.waits)
      (first-of_all eligible is.client rule.clients (sym is.all_is ∙ all) is.first);
}

pub may_be_noted : (rule : StrideState) (eligible : ThreadId → Bool) (choice : StrideChoice) → rule.running ≡ None →
    IsFirstEligible (waiting_of rule) eligible choice → MayBeNoted rule choice
may_be_noted rule eligible choice none is =
    let all : waiting_of rule ≡ rule.clients = all_wait rule.running rule.clients none in
    noted_by rule eligible choice (subst (λ (cs : List Client). IsFirstEligible cs eligible choice) all is)

-- ---- what is noted

pub noted_as_made : (rule : StrideState) (eligible : ThreadId → Bool) (choice : StrideChoice) → IsFirstEligible (waiting_of rule) eligible choice → IsNotedAs rule eligible choice
noted_as_made rule eligible choice is = record {
  first = record { client = is.client; waits = is.waits; thread_is = is.thread_is; passes = is.passes; first = is.first; all_is = refl };
  all = λ all. sym is.all_is ∙ all;
  held_back = ap (λ (b : Bool). rule.held_back || not b) is.all_is;
}

pub noted_as_made_if : (rule : StrideState) (eligible : ThreadId → Bool) (choice : Option StrideChoice) → IsLawfulStrideChoice (waiting_of rule) eligible choice → IsNotedAsIf rule eligible choice
noted_as_made_if rule eligible None nobody = nobody
noted_as_made_if rule eligible (Some choice) is = noted_as_made rule eligible choice is

pub noted_as_held : (rule : StrideState) (eligible : ThreadId → Bool) (thread : ThreadId) → rule.held_back ≡ true → IsLawfulStrideThread (waiting_of rule) eligible (Some thread) →
    IsNotedAs rule eligible (record { thread = thread; all = false })
noted_as_held rule eligible thread held lawful = record {
  first = lawful;
  all = λ no. absurd (let e : false ≡ true = no in cc);
  held_back = rw held refl;
}

module _ (rule : StrideState) (eligible : ThreadId → Bool) (choice : StrideChoice) (is : IsNotedAs rule eligible choice) where
  pub noted_may_be : rule.running ≡ None → MayBeNoted rule choice
  noted_may_be none =
      let made = may_be_noted rule eligible (choice_among (waiting_of rule) eligible choice.thread) none is.first in
      record { waits = made.waits; first = λ all. made.first (is.all all) }

  pub noted_same : after_choice rule choice ≡ after_choice rule (choice_among (waiting_of rule) eligible choice.thread)
  noted_same = ap (λ (b : Bool). record (after_choice rule choice) { held_back = b }) is.held_back

-- ---- by the needs

-- where each need that a world vouches for is met exactly where its thread passes, the needs of all that wait are
pub exact_if_known : (bounds : Bounds) (test : ThreadId → Bool) (vouches : ThreadId → Need → Type 0) (rule : StrideState) →
    ((thread : ThreadId) → (need : Need) → vouches thread need → is_met bounds need ≡ test thread) → AreKnown vouches rule → AreExact bounds test rule
exact_if_known bounds test vouches rule says known =
    all_to (λ c. vouches c.thread (need_of c.thread.number rule.needs)) (λ c. is_met bounds (need_of c.thread.number rule.needs) ≡ test c.thread)
    (λ c h. says c.thread (need_of c.thread.number rule.needs) h) (waiting_of rule) known
