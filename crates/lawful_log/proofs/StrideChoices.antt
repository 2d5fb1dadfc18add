-- The choice of a stride rule is the lawful one, and there is one where a thread is ready.
use Rattle.lawful_log.proofs.Common.{◌≡◌, ◌≢◌, ℕ, ◌&&◌, ◌||◌, Bool, true, false, nat_eq, not, List, Option, Some, None, find, refl, sym, ap, ◌∙◌, subst, IsTrue, slice_index, AllByRecursion, list_any, ThreadId, is_open, by_stride, is_ready, at_accept, any_ready, any_elsewhere, Waiter, pass_of, IsPlaced, any_eligible, lawful_by_stride, checked_of, Setup, setting_of, State, seen_of, IsChosenAs, IsChosen, IsWaiting, AreWaiting, advanced, may_run, is_blocked_at_accept, StandsForWorld, StridesState, IsFirstAtNode, IsChoiceByStrides, Choice, is_eligible, Client, client_of, goes_before, waiting_in, waiting_of, waiting-none, waiter_of, IsClientOf, AreBoth, AreClients, IsAtPass, HasPasses}
use Rattle.choice_rules.specs.Choice as rules
use Rattle.lawful_log.proofs.Told.{ready_same, accept_same}
use Rattle.stride_rule.proofs.OrderLemmas.{goes_before-total}
use Rattle.lawful_log.proofs.Finding.{all_both, all_at, key_is, own, none_passes, found_passing}

-- ---- a client and what waits

module _ (places : List (Option ℕ)) (strides : StridesState) (waiting : List Waiter) (clients : AreClients places strides waiting) where
  pub record ClientFor (number : ℕ) (waiter : Waiter) : Type 0 where
    pub client : Client
    pub there : client_of number (waiting_of strides.rule) ≡ Some client
    pub of : IsClientOf places strides.nodes client waiter

  client_by : (number : ℕ) (c : Option Client) (w : Waiter) → client_of number (waiting_of strides.rule) ≡ c → AreBoth places strides.nodes c (Some w) → ClientFor number w
  client_by number None w e both = absurd both
  client_by number (Some c) w e both = record { client = c; there = e; of = both }

  pub client_for : (number : ℕ) (w : Waiter) → waiter_of number waiting ≡ Some w → ClientFor number w
  client_for number w e = client_by number (client_of number (waiting_of strides.rule)) w refl
      (subst (λ (o : Option Waiter). AreBoth places strides.nodes (client_of number (waiting_of strides.rule)) o) e (clients.each number))

  pub record WaiterFor (number : ℕ) (client : Client) : Type 0 where
    pub waiter : Waiter
    pub there : waiter_of number waiting ≡ Some waiter
    pub of : IsClientOf places strides.nodes client waiter

  waiter_by : (number : ℕ) (c : Client) (w : Option Waiter) → waiter_of number waiting ≡ w → AreBoth places strides.nodes (Some c) w → WaiterFor number c
  waiter_by number c None e both = absurd both
  waiter_by number c (Some w) e both = record { waiter = w; there = e; of = both }

  pub waiter_for : (number : ℕ) (c : Client) → client_of number (waiting_of strides.rule) ≡ Some c → WaiterFor number c
  waiter_for number c e = waiter_by number c (waiter_of number waiting) refl
      (subst (λ (o : Option Client). AreBoth places strides.nodes o (waiter_of number waiting)) e (clients.each number))

-- ---- the choice

module _ (g : Setup) (state : State) (clock : ℕ) (places : List (Option ℕ)) (strides : StridesState) (tickets : List (ℕ × ℕ)) (rule_is : g.policy.rule ≡ by_stride tickets)
    (are : AreWaiting state.machine state.waiting) (clients : AreClients places strides state.waiting) (passes : HasPasses tickets strides.rule state.past.taken) (none : strides.rule.running ≡ None)
    (eligible : ThreadId → Bool) (eligible_is : (t : ThreadId) (x : Waiter) → t.number ≡ x.thread → IsPlaced places t → IsWaiting state.machine x → eligible t ≡ rules.is_eligible g.policy (seen_of state) clock x) where
  abbrev test : Waiter → Bool
  test = rules.is_eligible g.policy (seen_of state) clock

  abbrev number_of : Client → ℕ
  number_of = λ client. client.thread.number

  same_test : (number : ℕ) (c : Client) (w : Waiter) → client_of number (waiting_of strides.rule) ≡ Some c → waiter_of number state.waiting ≡ Some w → IsClientOf places strides.nodes c w → eligible c.thread ≡ test w
  same_test number c w there waits of =
      eligible_is c.thread w (key_is number_of number (waiting_of strides.rule) c there ∙ sym (key_is (λ (x : Waiter). x.thread) number state.waiting w waits)) of.placed
      (all_at (λ (x : Waiter). x.thread) (IsWaiting state.machine) number state.waiting w are.each waits)

  no_choice : any_ready g.policy (seen_of state) clock ≡ true → AllByRecursion (λ client. eligible client.thread ≡ false) (waiting_of strides.rule) → ⊥
  no_choice ready nobody =
      let each : AllByRecursion (λ w. test w ≡ false) state.waiting =
      all_both (λ w. waiter_of w.thread state.waiting ≡ Some w) (IsWaiting state.machine) (λ w. test w ≡ false)
      (λ w found waits.
      let c = client_for places strides state.waiting clients w.thread w found in
      sym (same_test w.thread c.client w c.there found c.of) ∙ all_at number_of (λ client. eligible client.thread ≡ false) w.thread (waiting_of strides.rule) c.client nobody c.there)
      state.waiting (own state.waiting are.once) are.each in
      let no : list_any test state.waiting ≡ false = none_passes test state.waiting each in
      let some : list_any test state.waiting ≡ true = any_eligible g.policy (seen_of state) clock ready in
      absurd (let both : true ≡ false = sym some ∙ no in cc)

  at_passes : AllByRecursion (IsAtPass tickets state.past.taken) (waiting_of strides.rule)
  at_passes =
      let all : waiting_of strides.rule ≡ strides.rule.clients = ap (λ (r : Option ℕ). waiting_in r strides.rule.clients) none ∙ waiting-none strides.rule.clients in
      subst (λ (cs : List Client). AllByRecursion (IsAtPass tickets state.past.taken) cs) (sym all) passes.each

  abbrev goes_at : ℕ → ℕ → Bool
  goes_at thread other = goes_before (pass_of tickets state.past.taken thread) thread (pass_of tickets state.past.taken other) other

  goes_is : (a b : Client) (m n : ℕ) → a.pass ≡ pass_of tickets state.past.taken a.thread.number → b.pass ≡ pass_of tickets state.past.taken b.thread.number → a.thread.number ≡ m → b.thread.number ≡ n →
      goes_before a.pass a.thread.number b.pass b.thread.number ≡ goes_at m n
  goes_is a b m n p q e f =
      ap (λ (x : ℕ). goes_before x a.thread.number b.pass b.thread.number) p ∙ ap (λ (x : ℕ). goes_before (pass_of tickets state.past.taken a.thread.number) a.thread.number x b.thread.number) q
      ∙ ap (λ (x : ℕ). goes_at x b.thread.number) e ∙ ap (λ (x : ℕ). goes_at m x) f

  module _ (choice : Choice) (is : IsFirstAtNode strides eligible choice) where
    pub its : WaiterFor places strides state.waiting clients choice.thread.number is.first.client
    its = waiter_for places strides state.waiting clients choice.thread.number is.first.client is.first.waits

    number_is : its.waiter.thread ≡ choice.thread.number
    number_is = key_is (λ (x : Waiter). x.thread) choice.thread.number state.waiting its.waiter its.there

    passing : test its.waiter ≡ true
    passing = sym (same_test choice.thread.number is.first.client its.waiter is.first.waits its.there its.of) ∙ ap eligible is.first.thread_is ∙ is.first.passes

    first : find (λ w. test w && nat_eq w.thread its.waiter.thread) state.waiting ≡ Some its.waiter
    first = found_passing test its.waiter.thread state.waiting its.waiter (subst (λ (n : ℕ). waiter_of n state.waiting ≡ Some its.waiter) (sym number_is) its.there) passing

    behind : (w : Waiter) → waiter_of w.thread state.waiting ≡ Some w → IsTrue (test w) → w.thread ≢ its.waiter.thread → IsTrue (goes_at its.waiter.thread w.thread)
    behind w found also apart =
        let c = client_for places strides state.waiting clients w.thread w found in
        let first_number : is.first.client.thread.number ≡ its.waiter.thread = key_is number_of choice.thread.number (waiting_of strides.rule) is.first.client is.first.waits ∙ sym number_is in
        let its_number : c.client.thread.number ≡ w.thread = key_is number_of w.thread (waiting_of strides.rule) c.client c.there in
        let passes_too : eligible c.client.thread ≡ true = same_test w.thread c.client w c.there found c.of ∙ also in
        let not_before = all_at number_of (λ other. IsTrue (eligible other.thread) → goes_before other.pass other.thread.number is.first.client.pass is.first.client.thread.number ≡ false) w.thread (waiting_of strides.rule) c.client is.first.first c.there passes_too in
        let goes : goes_before is.first.client.pass is.first.client.thread.number c.client.pass c.client.thread.number ≡ true =
        goes_before-total c.client.pass c.client.thread.number is.first.client.pass is.first.client.thread.number (λ e. apart (sym its_number ∙ e ∙ first_number)) not_before in
        sym (goes_is is.first.client c.client its.waiter.thread w.thread
        (all_at number_of (IsAtPass tickets state.past.taken) choice.thread.number (waiting_of strides.rule) is.first.client at_passes is.first.waits).pass
        (all_at number_of (IsAtPass tickets state.past.taken) w.thread (waiting_of strides.rule) c.client at_passes c.there).pass first_number its_number) ∙ goes

    pub chosen_by_strides : IsChosenAs g state clock places choice
    chosen_by_strides = record {
      waiter = its.waiter;
      lawful = lawful_by_stride tickets g.policy (seen_of state) clock its.waiter rule_is (record {
        first = first;
        least = all_both (λ w. waiter_of w.thread state.waiting ≡ Some w) (IsWaiting state.machine) (λ w. IsTrue (test w) → w.thread ≢ its.waiter.thread → IsTrue (goes_at its.waiter.thread w.thread))
            (λ w found waits. behind w found) state.waiting (own state.waiting are.once) are.each;
      });
      thread_is = sym number_is;
      node_is = is.node ∙ ap (λ (t : ThreadId). slice_index strides.nodes t.slot) (sym is.first.thread_is) ∙ its.of.node;
      waiting = all_at (λ (x : Waiter). x.thread) (IsWaiting state.machine) choice.thread.number state.waiting its.waiter are.each its.there;
      placed = subst (λ (t : ThreadId). IsPlaced places t) is.first.thread_is its.of.placed;
    }

  pub choice_by_strides : any_ready g.policy (seen_of state) clock ≡ true → (choice : Option Choice) → IsChoiceByStrides strides eligible choice → IsChosen g state clock places choice
  choice_by_strides ready None is = no_choice ready is
  choice_by_strides ready (Some choice) is = chosen_by_strides choice is

-- ---- what a world tells is what the state of the log says

eligible_same : (g : Setup) (state : State) (clock : ℕ) → StandsForWorld (checked_of g) g.program state.machine state.source → (places : List (Option ℕ)) (ready accept : ThreadId → Bool) (open_ : Bool) → open_ ≡ is_open g.policy state.past →
    ((t : ThreadId) (x : Waiter) → t.number ≡ x.thread → IsPlaced places t → (v : IsWaiting state.machine x) → ready t ≡ may_run (setting_of g) (advanced state.machine clock) v.thread.blocked) →
    ((t : ThreadId) (x : Waiter) → t.number ≡ x.thread → IsPlaced places t → (v : IsWaiting state.machine x) → accept t ≡ is_blocked_at_accept v.thread.blocked) →
    (t : ThreadId) (x : Waiter) → t.number ≡ x.thread → IsPlaced places t → IsWaiting state.machine x → is_eligible ready accept (any_elsewhere g.policy (seen_of state) clock) open_ t ≡ rules.is_eligible g.policy (seen_of state) clock x
eligible_same g state clock stands places ready accept open_ open_is ready_is accept_is t x n placed v =
    ap (λ (b : Bool). b && (not (accept t) || (open_ || not (any_elsewhere g.policy (seen_of state) clock))))
    (ready_is t x n placed v ∙ ready_same g state clock stands x v)
    ∙ ap (λ (b : Bool). is_ready g.policy (seen_of state) clock x && (not b || (open_ || not (any_elsewhere g.policy (seen_of state) clock)))) (accept_is t x n placed v ∙ accept_same g state clock stands x v)
    ∙ ap (λ (b : Bool). is_ready g.policy (seen_of state) clock x &&
    (not (at_accept (seen_of state) x) || (b || not (any_elsewhere g.policy (seen_of state) clock)))) open_is

pub stride_choice_told : (g : Setup) (state : State) (clock : ℕ) (places : List (Option ℕ)) (strides : StridesState) (tickets : List (ℕ × ℕ)) (ready accept : ThreadId → Bool) (gate : Bool) →
    g.policy.rule ≡ by_stride tickets → StandsForWorld (checked_of g) g.program state.machine state.source → AreWaiting state.machine state.waiting → AreClients places strides state.waiting → HasPasses tickets strides.rule state.past.taken →
    strides.rule.running ≡ None →
    ((t : ThreadId) (x : Waiter) → t.number ≡ x.thread → IsPlaced places t → (v : IsWaiting state.machine x) → ready t ≡ may_run (setting_of g) (advanced state.machine clock) v.thread.blocked) →
    ((t : ThreadId) (x : Waiter) → t.number ≡ x.thread → IsPlaced places t → (v : IsWaiting state.machine x) → accept t ≡ is_blocked_at_accept v.thread.blocked) →
    gate ≡ is_open g.policy state.past → any_ready g.policy (seen_of state) clock ≡ true → (choice : Option Choice) →
    IsChoiceByStrides strides (is_eligible ready accept (any_elsewhere g.policy (seen_of state) clock) gate) choice → IsChosen g state clock places choice
stride_choice_told g state clock places strides tickets ready accept gate rule_is stands are clients passes none ready_is accept_is gate_is some choice is =
    choice_by_strides g state clock places strides tickets rule_is are clients passes none
    (is_eligible ready accept (any_elsewhere g.policy (seen_of state) clock) gate)
    (eligible_same g state clock stands places ready accept gate gate_is ready_is accept_is) some choice is
