-- The scheduler's choice is the lawful one by the graph.
use Rattle.choice_rules.proofs.Common.{◌≡◌, ℕ, ◌&&◌, ◌||◌, Bool, true, false, nat_eq, not, List, [], ◌∷◌, Option, Some, None, find, refl, sym, ap, ◌∙◌, subst, cond, IsSome, IsTrue, ℤ, AllByRecursion, list_any, cond-true, cond-false, eq-eqb, eqb-true, edges_of, ThreadId, IsGraphChoice, monitor_of, score_of, queue_at, Policy, is_ready, at_accept, any_ready, any_elsewhere, Seen, Waiter, last_choice, at_node, IsPlaced, AreQueued, Choice, score, comes_before, ranks_below, SchedulerState, queue_of, last_of, or_right, or_left}
use Rattle.blocking_graph.specs.declared.edges.EdgeLine.{EdgeLine}
use Rattle.choice_rules.specs.Choice as rules
use Rattle.choice_rules.proofs.Queues.{find_same, some_eligible, all_at_node}
use Rattle.choice_rules.proofs.Strides.{all_found}
use Rattle.choice_rules.proofs.Tests.{either}
use Rattle.resource_monitor.specs.Monitor.{MonitorState}
use Rattle.scheduler.specs.LawfulChoice.{is_eligible, IsLeast, IsLawfulChoice}

-- ---- a waiter of a queue

node_by : (t u : Bool) (x y : Waiter) (node : ℕ) (rest : List Waiter) (test : Waiter → Bool) → nat_eq x.node node ≡ t → test x ≡ u → find test (cond t (x ∷ rest) rest) ≡ Some y → (find test rest ≡ Some y → y.node ≡ node) → y.node ≡ node
node_by true true x y node rest test et eu e later =
    let here : Some x ≡ Some y = sym (cond-true (test x) (Some x) (find test rest) eu) ∙ e in
    let is : x ≡ y = cc in
    ap (λ (w : Waiter). w.node) (sym is) ∙ eqb-true x.node node et
node_by true false x y node rest test et eu e later = later (sym (cond-false (test x) (Some x) (find test rest) eu) ∙ e)
node_by false u x y node rest test et eu e later = later e

pub node_of_found : (xs : List Waiter) (node : ℕ) (test : Waiter → Bool) (y : Waiter) → find test (at_node xs node) ≡ Some y → y.node ≡ node
node_of_found [] node test y e = absurd (cc)
node_of_found (x ∷ xs) node test y e = node_by (nat_eq x.node node) (test x) x y node (at_node xs node) test refl refl e (λ e'. node_of_found xs node test y e')

-- where some waiter passes a test, one passes it at its node
pub record PassesAt (waiting : List Waiter) (test : Waiter → Bool) : Type 0 where
  pub node : ℕ
  pub some : IsSome (find test (at_node waiting node))

pub some_here : (x : Waiter) (xs : List Waiter) (test : Waiter → Bool) → test x ≡ true → IsSome (find test (at_node (x ∷ xs) x.node))
some_here x xs test e =
    subst (λ (o : Option Waiter). IsSome o)
    (sym (ap (λ (b : Bool). find test (cond b (x ∷ at_node xs x.node) (at_node xs x.node))) (eq-eqb x.node x.node refl) ∙ cond-true (test x) (Some x) (find test (at_node xs x.node)) e)) refl

pub some_later : (x : Waiter) (xs : List Waiter) (node : ℕ) (test : Waiter → Bool) → IsSome (find test (at_node xs node)) → IsSome (find test (at_node (x ∷ xs) node))
some_later x xs node test e = on_node (nat_eq x.node node) (test x) where
  on_test : (u : Bool) → IsSome (cond u (Some x) (find test (at_node xs node)))
  on_test true = refl
  on_test false = e

  on_node : (t u : Bool) → IsSome (find test (cond t (x ∷ at_node xs node) (at_node xs node)))
  on_node true u = on_test (test x)
  on_node false u = e

pub passes_at : (waiting : List Waiter) (test : Waiter → Bool) → list_any test waiting ≡ true → PassesAt waiting test
passes_at [] test e = absurd (cc)
passes_at (x ∷ xs) test e = either (test x) (list_any test xs) e _
    (λ here. record { node = x.node; some = some_here x xs test here })
    (λ later. let rest = passes_at xs test later in record { node = rest.node; some = some_later x xs rest.node test rest.some })

weaker : (xs : List Waiter) (test other : Waiter → Bool) → ((x : Waiter) → test x ≡ true → other x ≡ true) → list_any test xs ≡ true → list_any other xs ≡ true
weaker [] test other implies e = e
weaker (x ∷ xs) test other implies e = either (test x) (list_any test xs) e _
    (λ here. or_left (other x) (list_any other xs) (implies x here))
    (λ later. or_right (other x) (list_any other xs) (weaker xs test other implies later))

-- ---- eligible

eligible_elsewhere : (ready accept gate elsewhere : Bool) → (ready && not accept) ≡ true → (ready && (not accept || (gate || not elsewhere))) ≡ true
eligible_elsewhere true false gate elsewhere e = refl
eligible_elsewhere _ _ gate elsewhere e = absurd (cc)

eligible_alone : (ready accept gate elsewhere : Bool) → elsewhere ≡ false → ready ≡ true → (ready && (not accept || (gate || not elsewhere))) ≡ true
eligible_alone true true true elsewhere none e = refl
eligible_alone true true false true none e = absurd (cc)
eligible_alone true true false false none e = refl
eligible_alone true false gate elsewhere none e = refl
eligible_alone false accept gate elsewhere none e = absurd (cc)

-- where a thread is ready, one is eligible
pub any_eligible : (policy : Policy) (seen : Seen) (clock : ℕ) → any_ready policy seen clock ≡ true → list_any (rules.is_eligible policy seen clock) seen.waiting ≡ true
any_eligible policy seen clock e = by (any_elsewhere policy seen clock) refl where
  by : (b : Bool) → any_elsewhere policy seen clock ≡ b → list_any (rules.is_eligible policy seen clock) seen.waiting ≡ true
  by true is = weaker seen.waiting _ _ (λ x h. eligible_elsewhere (is_ready policy seen clock x) (at_accept seen x) (rules.is_open policy seen.past) (any_elsewhere policy seen clock) h) is
  by false is = weaker seen.waiting _ _ (λ x h. eligible_alone (is_ready policy seen clock x) (at_accept seen x) (rules.is_open policy seen.past) (any_elsewhere policy seen clock) is h) e

-- ---- the choice

module _ (policy : Policy) (seen : Seen) (clock : ℕ) (places : List (Option ℕ)) (scheduler : SchedulerState) (P : Waiter → Type 0) (all : AllByRecursion P seen.waiting)
    (queued : AreQueued places scheduler seen.waiting) (ready accept : ThreadId → Bool) (elsewhere : Bool) (monitor : MonitorState) (edges : List EdgeLine)
    (ready_is : (t : ThreadId) (x : Waiter) → t.number ≡ x.thread → IsPlaced places t → P x → ready t ≡ is_ready policy seen clock x)
    (accept_is : (t : ThreadId) (x : Waiter) → t.number ≡ x.thread → IsPlaced places t → P x → accept t ≡ at_accept seen x)
    (elsewhere_is : elsewhere ≡ any_elsewhere policy seen clock) (monitor_is : monitor ≡ monitor_of policy seen) (edges_is : edges ≡ edges_of seen.past.records) (lasts : (node : ℕ) → last_of scheduler node ≡ last_choice seen.past.taken node) where
  abbrev tests : ThreadId → Bool
  tests = is_eligible ready accept elsewhere monitor.is_open

  eligible_is : (t : ThreadId) (x : Waiter) → t.number ≡ x.thread → IsPlaced places t → P x → tests t ≡ rules.is_eligible policy seen clock x
  eligible_is t x n placed p =
      ap (λ (b : Bool). b && (not (accept t) || (monitor.is_open || not elsewhere))) (ready_is t x n placed p)
      ∙ ap (λ (b : Bool). is_ready policy seen clock x && (not b || (monitor.is_open || not elsewhere))) (accept_is t x n placed p)
      ∙ ap (λ (m : MonitorState). is_ready policy seen clock x && (not (at_accept seen x) || (m.is_open || not elsewhere))) monitor_is
      ∙ ap (λ (b : Bool). is_ready policy seen clock x && (not (at_accept seen x) || (rules.is_open policy seen.past || not b))) elsewhere_is

  -- there is a choice where a thread is ready
  pub some_choice : any_ready policy seen clock ≡ true → IsLawfulChoice (queue_of scheduler) tests (score monitor edges) (last_of scheduler) None → ⊥
  some_choice e none =
      let at = passes_at seen.waiting (rules.is_eligible policy seen clock) (any_eligible policy seen clock e) in
      let some = some_eligible places (queue_of scheduler at.node) (at_node seen.waiting at.node) P tests (rules.is_eligible policy seen clock) eligible_is
      (all_at_node P seen.waiting at.node all) (queued.queue at.node) at.some in
      none_some (find tests (queue_of scheduler at.node)) (none at.node) some where
        none_some : (o : Option ThreadId) → o ≡ None → IsSome o → ⊥
        none_some None e s = let no : false ≡ true = s in absurd (cc)
        none_some (Some t) e s = absurd (cc)

  score_is : (node : ℕ) → score monitor edges node ≡ score_of policy seen node
  score_is node = ap (λ (m : MonitorState). score m edges node) monitor_is ∙ ap (λ (es : List EdgeLine). score (monitor_of policy seen) es node) edges_is

  before_is : (node other : ℕ) → comes_before (score monitor edges) (last_of scheduler) node other ≡ comes_before (score_of policy seen) (last_choice seen.past.taken) node other
  before_is node other =
      ap (λ (v : ℤ). ranks_below v (last_of scheduler node) node (score monitor edges other) (last_of scheduler other) other) (score_is node)
      ∙ ap (λ (v : ℤ). ranks_below (score_of policy seen node) (last_of scheduler node) node v (last_of scheduler other) other) (score_is other)
      ∙ ap (λ (v : ℕ). ranks_below (score_of policy seen node) v node (score_of policy seen other) (last_of scheduler other) other) (lasts node)
      ∙ ap (λ (v : ℕ). ranks_below (score_of policy seen node) (last_choice seen.past.taken node) node (score_of policy seen other) v other) (lasts other)

  -- the waiter that is chosen
  pub record Chosen (choice : Choice) : Type 0 where
    pub waiter : Waiter
    pub lawful : IsGraphChoice policy seen clock waiter
    pub thread_is : choice.thread.number ≡ waiter.thread
    pub node_is : choice.node ≡ waiter.node
    pub holds : P waiter
    pub placed : IsPlaced places choice.thread

  pub lawful_choice : (choice : Choice) → IsLeast (queue_of scheduler) tests (score monitor edges) (last_of scheduler) choice → Chosen choice
  lawful_choice choice least =
      let f = find_same places (queue_of scheduler choice.node) (at_node seen.waiting choice.node) P tests (rules.is_eligible policy seen clock) eligible_is
      (all_at_node P seen.waiting choice.node all) (queued.queue choice.node) choice.thread least.first in
      let node : f.waiter.node ≡ choice.node = node_of_found seen.waiting choice.node (rules.is_eligible policy seen clock) f.waiter f.found in
      record {
        waiter = f.waiter;
        lawful = record {
          first = subst (λ (n : ℕ). find (rules.is_eligible policy seen clock) (queue_at seen n) ≡ Some f.waiter) (sym node) f.found;
          least = λ other apart some.
              subst (λ (n : ℕ). IsTrue (comes_before (score_of policy seen) (last_choice seen.past.taken) n other)) (sym node)
              (sym (before_is choice.node other) ∙ least.least other (λ e. apart (e ∙ sym node))
              (some_eligible places (queue_of scheduler other) (at_node seen.waiting other) P tests (rules.is_eligible policy seen clock) eligible_is
              (all_at_node P seen.waiting other all) (queued.queue other) some));
        };
        thread_is = f.same;
        node_is = sym node;
        holds = all_found P (rules.is_eligible policy seen clock) (at_node seen.waiting choice.node) f.waiter (all_at_node P seen.waiting choice.node all) f.found;
        placed = f.placed;
      }
