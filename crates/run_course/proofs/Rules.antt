-- The state of the rule beside the state of a log, from call to call, by the rule.
use Rattle.run_course.proofs.Common.{◌≡◌, ◌≢◌, ℕ, suc, ◌+◌, ◌<◌, ◌≤◌, Bool, true, false, nat_eq, cond, List, [], ◌∷◌, ◌++◌, length, Option, Some, None, find, refl, sym, ap, ◌∙◌, subst, arith, ⊎_elim, ℤ, AllByRecursion, cases_eq, cond-true, cond-false, eq-eqb, ne_eqb, edges_of, ThreadId, Rule, by_graph, by_stride, any_ready, any_elsewhere, Waiter, PastChoice, Past, last_choice, no_past, with_choice, others_waiting, IsPlaced, AreQueued, checked_of, Setup, setting_of, Segment, State, seen_of, IsChosenAs, IsChosen, IsWaiting, AreWaiting, IsWithin, found_below, choice_told, advanced, may_run, is_blocked_at_accept, StandsForWorld, World, thread_of, Need, MonitorState, AreKnownTo, HasNone, HasStarted, HasTaken, HasRejoined, HasLeft, IsLawfulOf, IsUnderWay, MayStart, noted_of, StridesState, stride_choice, RuleState, is_eligible, score, SchedulerState, last_of, queue_of, started, Choice, waiter_of, AreClients, none_at, chosen_client, clients_below, clients_first, clients_left, clients_placed, clients_rejoined, clients_started, clients_taken, may_start, others, runner_started, runner_taken, Vouches, Held, KeepsPlaces, GoesOn, IsNeeded, AreNeeded, AreNeededByStrides, AreKept, AreKeptBeside, AreTold, HasAccounts, HasNothing, rule_of}
use Rattle.choice_rules.specs.Choice.{is_eligible as eligible_waiter, monitor_of, queue_at}
use Rattle.choice_rules.proofs.Joining.{queued_more}
use Rattle.choice_rules.proofs.Leaving.{queued_left}
use Rattle.choice_rules.proofs.Rules.{graph_choice_of}
use Rattle.machine_world.specs.Numbered.{IsNumbered}
use Rattle.rule_state.specs.declared.rules.RuleState.TheVariants.{Graph, Stride}
use Rattle.stride_rule.specs.State.{StrideState, after_choice, new_rule}
use Rattle.lawful_log.specs.Passes.{HasPasses, StartedBy}
use Rattle.lawful_log.proofs.StrideChoices.{stride_choice_told}
use Rattle.lawful_log.proofs.Passing.{passes_first, passes_left, passes_rejoined, passes_started, passes_taken}
use Rattle.run_course.proofs.StrideNeeds.{strides_same, strides_step, strides_along, strides_picked, strides_taken, strides_started, strides_rejoined, strides_left, strides_known}
use Rattle.run_course.proofs.Going.{live_kept, queues_kept}
use Rattle.run_course.proofs.Needs.{all_known, needed_same, needed_taken, needed_told}
use Rattle.run_course.proofs.NeedsGoing.{needed_along, needed_picked, needed_step}

-- ---- what a choice says of its thread

passes_by : {X : Type 0} (test : X → Bool) (x : X) (xs : List X) (y : X) → (find test xs ≡ Some y → test y ≡ true) → (b : Bool) → test x ≡ b → cond b (Some x) (find test xs) ≡ Some y → test y ≡ true
passes_by test x xs y later true t f = let same : x ≡ y = cc in ap test (sym same) ∙ t
passes_by test x xs y later false t f = later f

found_passes : {X : Type 0} (test : X → Bool) (xs : List X) (y : X) → find test xs ≡ Some y → test y ≡ true
found_passes test [] y e = absurd (cc)
found_passes test (x ∷ xs) y e = passes_by test x xs y (λ f. found_passes test xs y f) (test x) refl e

pub chosen_passes : (rule : RuleState) (eligible : ThreadId → Bool) (score_of : ℕ → ℤ) (choice : Choice) → IsLawfulOf rule eligible score_of (Some choice) → eligible choice.thread ≡ true
chosen_passes (Graph s) eligible score_of choice lawful = found_passes eligible (queue_of s choice.node) choice.thread lawful.first
chosen_passes (Stride st) eligible score_of choice lawful = lawful.first.passes

-- ---- where the places of those that wait stay

pub kept_beside : (old new : Held) (rule : RuleState) (waiting : List Waiter) (thread : ThreadId) → KeepsPlaces old new → AllByRecursion (IsWaiting new.machine) waiting → AreKeptBeside old.places rule waiting thread →
    AreKeptBeside new.places rule waiting thread
kept_beside old new (Graph s) waiting thread keeps live kept = queues_kept old new s waiting keeps live kept
kept_beside old new (Stride st) waiting thread keeps live kept =
    (clients_placed old.places new.places st waiting (IsWaiting new.machine) (λ t x same is placed. live_kept old new keeps t x same is placed) live kept.0, kept.1)

-- ---- the needs that were told

pub told_same : (old new : World) (rule : RuleState) → ((number : ℕ) → thread_of new number ≡ thread_of old number) → AreTold old rule → AreTold new rule
told_same old new (Graph s) same told = needed_same old new s same told
told_same old new (Stride st) same told = strides_same old new st.rule same told

pub told_step : (g : Setup) (state : State) (segment : Segment) (begun : ℕ) (here : World) (waiting : List Waiter) → IsWithin g state segment begun here waiting → (places : List (Option ℕ)) (rule : RuleState) (thread : ThreadId) →
    AreKeptBeside places rule waiting thread → AreTold here rule → (after : World) → ((number : ℕ) → here.running ≢ Some number → number ≢ here.next → thread_of after number ≡ thread_of here number) → AreTold after rule
told_step g state segment begun here waiting is places (Graph s) thread kept told after keeps = needed_step g state segment begun here waiting is places s kept told after keeps
told_step g state segment begun here waiting is places (Stride st) thread kept told after keeps = strides_step g state segment begun here waiting is places st kept.0 told after keeps

pub told_along : (g : Setup) (state : State) (segment : Segment) (begun : ℕ) (waiting : List Waiter) (places : List (Option ℕ)) (rule : RuleState) (thread : ThreadId) → AreKeptBeside places rule waiting thread →
    (n : ℕ) (w at : World) → GoesOn (setting_of g) n w at → IsWithin g state segment begun w waiting → AreTold w rule → AreTold at rule
told_along g state segment begun waiting places (Graph s) thread kept n w at goes is told = needed_along g state segment begun waiting places s kept n w at goes is told
told_along g state segment begun waiting places (Stride st) thread kept n w at goes is told = strides_along g state segment begun waiting places st kept.0 n w at goes is told

pub told_picked : (g : Setup) (state : State) (segment : Segment) (begun : ℕ) (picked : World) (waiting : List Waiter) → IsWithin g state segment begun picked waiting → (places : List (Option ℕ)) (rule : RuleState) (thread : ThreadId) →
    AreKeptBeside places rule waiting thread → (old : World) → ((n : ℕ) → n ≢ segment.thread → thread_of picked n ≡ thread_of old n) → AreTold old rule → AreTold picked rule
told_picked g state segment begun picked waiting is places (Graph s) thread kept old others told = needed_picked g state segment begun picked waiting is places s kept old others told
told_picked g state segment begun picked waiting is places (Stride st) thread kept old others told = strides_picked g state segment begun picked waiting is places st kept.0 old others told

pub told_taken : (w : World) (places : List (Option ℕ)) (waiting : List Waiter) (rule new : RuleState) (eligible : ThreadId → Bool) (choice : Choice) → HasTaken rule new eligible choice → AreKept places rule waiting → AreTold w rule → AreTold w new
told_taken w places waiting (Graph s) (Graph t) eligible choice taken kept told = needed_taken w s t choice taken.taken told
told_taken w places waiting (Stride s) (Stride t) eligible choice taken kept told =
    subst (λ (st : StridesState). AreNeededByStrides w st.rule) (sym taken) (strides_taken w s.rule (stride_choice s.rule eligible choice.thread) kept.1 told)
told_taken w places waiting _ _ eligible choice taken kept told = absurd taken

pub told_started : (w : World) (rule new : RuleState) (thread : ThreadId) → HasStarted rule new thread → MayStart rule thread → IsNeeded w (record { thread = thread; need = Need.Nothing }) → AreTold w rule → AreTold w new
told_started w (Graph s) (Graph t) thread starts may own told = needed_told w s t 0 (record { thread = thread; need = Need.Nothing }) starts.told own told
told_started w (Stride s) (Stride t) thread starts may own told = subst (λ (r : StrideState). AreNeededByStrides w r) (sym starts.rule) (strides_started w s.rule thread may own told)
told_started w _ _ thread starts may own told = absurd starts

pub told_rejoined : (w : World) (places : List (Option ℕ)) (waiting : List Waiter) (rule new : RuleState) (thread : ThreadId) (node : ℕ) (need : Need) → HasRejoined rule new thread node need → AreKeptBeside places rule waiting thread → IsNeeded w (record { thread = thread; need = need }) → AreTold w rule → AreTold w new
told_rejoined w places waiting (Graph s) (Graph t) thread node need joins kept own told = needed_told w s t node (record { thread = thread; need = need }) joins.told own told
told_rejoined w places waiting (Stride s) (Stride t) thread node need joins kept own told =
    subst (λ (r : StrideState). AreNeededByStrides w r) (sym joins.rule) (strides_rejoined w s.rule thread need kept.1.running.running own told)
told_rejoined w places waiting _ _ thread node need joins kept own told = absurd joins

pub told_left : (w : World) (places : List (Option ℕ)) (waiting : List Waiter) (rule new : RuleState) (thread : ThreadId) → HasLeft rule new thread → AreKeptBeside places rule waiting thread → AreTold w rule → AreTold w new
told_left w places waiting (Graph s) (Graph t) thread leaves kept told = subst (λ (v : SchedulerState). AreNeeded w v) (sym leaves) told
told_left w places waiting (Stride s) (Stride t) thread leaves kept told =
    subst (λ (st : StridesState). AreNeededByStrides w st.rule) (sym leaves) (strides_left w s.rule thread.number kept.1.running.running kept.0.once told)
told_left w places waiting _ _ thread leaves kept told = absurd leaves

pub all_told : (held : Held) (rule : RuleState) (waiting : List Waiter) → held.machine.running ≡ None → AreKept held.places rule waiting → AreTold held.machine rule → AreKnownTo (Vouches held) rule
all_told held (Graph s) waiting rests kept told = all_known held s waiting rests kept told
all_told held (Stride st) waiting rests kept told = strides_known held st waiting rests kept.0 told

-- ---- the number of choices

pub noted_taken : (rule new : RuleState) (eligible : ThreadId → Bool) (choice : Choice) → HasTaken rule new eligible choice → noted_of new ≡ noted_of rule + 1
noted_taken (Graph s) (Graph t) eligible choice taken = taken.noted.noted
noted_taken (Stride s) (Stride t) eligible choice taken = ap (λ (st : StridesState). st.rule.noted) taken
noted_taken _ _ eligible choice taken = absurd taken

pub noted_started : (rule new : RuleState) (thread : ThreadId) → HasStarted rule new thread → noted_of new ≡ noted_of rule
noted_started (Graph s) (Graph t) thread starts = starts.joined.noted
noted_started (Stride s) (Stride t) thread starts = ap (λ (r : StrideState). r.noted) starts.rule
noted_started _ _ thread starts = absurd starts

pub noted_rejoined : (rule new : RuleState) (thread : ThreadId) (node : ℕ) (need : Need) → HasRejoined rule new thread node need → noted_of new ≡ noted_of rule
noted_rejoined (Graph s) (Graph t) thread node need joins = joins.joined.noted
noted_rejoined (Stride s) (Stride t) thread node need joins = ap (λ (r : StrideState). r.noted) joins.rule
noted_rejoined _ _ thread node need joins = absurd joins

pub noted_left : (rule new : RuleState) (thread : ThreadId) → HasLeft rule new thread → noted_of new ≡ noted_of rule
noted_left (Graph s) (Graph t) thread leaves = ap (λ (v : SchedulerState). v.noted) leaves
noted_left (Stride s) (Stride t) thread leaves = ap (λ (st : StridesState). st.rule.noted) leaves
noted_left _ _ thread leaves = absurd leaves

-- ---- the choice

module _ (g : Setup) (state : State) (clock : ℕ) (places : List (Option ℕ)) (numbered : IsNumbered state.machine) (stands : StandsForWorld (checked_of g) g.program state.machine state.source)
    (are : AreWaiting state.machine state.waiting) where
  told_by : (r : Rule) → g.policy.rule ≡ r → (rule : RuleState) (ready accept : ThreadId → Bool) (monitor : MonitorState) → HasAccounts r rule state.past → AreKept places rule state.waiting →
      ((t : ThreadId) (x : Waiter) → t.number ≡ x.thread → IsPlaced places t → (v : IsWaiting state.machine x) → ready t ≡ may_run (setting_of g) (advanced state.machine clock) v.thread.blocked) →
      ((t : ThreadId) (x : Waiter) → t.number ≡ x.thread → IsPlaced places t → (v : IsWaiting state.machine x) → accept t ≡ is_blocked_at_accept v.thread.blocked) →
      monitor ≡ monitor_of g.policy (seen_of state) → any_ready g.policy (seen_of state) clock ≡ true → (choice : Option Choice) →
      IsLawfulOf rule (is_eligible ready accept (any_elsewhere g.policy (seen_of state) clock) monitor.is_open) (score monitor (edges_of state.past.records)) choice → IsChosen g state clock places choice
  told_by by_graph e (Graph s) ready accept monitor accounts kept ready_is accept_is monitor_is some choice is =
      choice_told g state clock places s ready accept monitor e numbered stands are kept accounts ready_is accept_is monitor_is some choice is
  told_by (by_stride tickets) e (Stride st) ready accept monitor accounts kept ready_is accept_is monitor_is some choice is =
      stride_choice_told g state clock places st tickets ready accept monitor.is_open e stands are kept.0 accounts kept.1 ready_is accept_is (ap (λ (m : MonitorState). m.is_open) monitor_is) some choice is
  told_by _ e _ ready accept monitor accounts kept ready_is accept_is monitor_is some choice is = absurd accounts

  -- the choice of the rule is the lawful one, and there is one where a thread is ready
  pub rule_choice_told : (rule : RuleState) (ready accept : ThreadId → Bool) (monitor : MonitorState) → HasAccounts g.policy.rule rule state.past → AreKept places rule state.waiting →
      ((t : ThreadId) (x : Waiter) → t.number ≡ x.thread → IsPlaced places t → (v : IsWaiting state.machine x) → ready t ≡ may_run (setting_of g) (advanced state.machine clock) v.thread.blocked) →
      ((t : ThreadId) (x : Waiter) → t.number ≡ x.thread → IsPlaced places t → (v : IsWaiting state.machine x) → accept t ≡ is_blocked_at_accept v.thread.blocked) →
      monitor ≡ monitor_of g.policy (seen_of state) → any_ready g.policy (seen_of state) clock ≡ true → (choice : Option Choice) →
      IsLawfulOf rule (is_eligible ready accept (any_elsewhere g.policy (seen_of state) clock) monitor.is_open) (score monitor (edges_of state.past.records)) choice → IsChosen g state clock places choice
  rule_choice_told rule ready accept monitor accounts kept ready_is accept_is monitor_is some choice is =
      told_by g.policy.rule refl rule ready accept monitor accounts kept ready_is accept_is monitor_is some choice is

  -- ---- after it

  module _ (eligible : ThreadId → Bool) (score_of : ℕ → ℤ) (choice : Choice) (chosen : IsChosenAs g state clock places choice) where
    kept_by : (r : Rule) → g.policy.rule ≡ r → (rule new : RuleState) → HasAccounts r rule state.past → AreKept places rule state.waiting → IsLawfulOf rule eligible score_of (Some choice) → HasTaken rule new eligible choice →
        IsUnderWay new choice.thread → AreKeptBeside places new (others_waiting state.waiting chosen.waiter) choice.thread
    kept_by by_graph e (Graph s) (Graph t) accounts kept lawful taken under =
        queued_left places s t choice state.waiting eligible (eligible_waiter g.policy (seen_of state) clock) chosen.waiter are.once kept taken.noted lawful.first
        (subst (λ (n : ℕ). find (eligible_waiter g.policy (seen_of state) clock) (queue_at (seen_of state) n) ≡ Some chosen.waiter) (sym chosen.node_is) (graph_choice_of g.policy (seen_of state) clock chosen.waiter e chosen.lawful).first) chosen.thread_is
    kept_by (by_stride tickets) e (Stride s) (Stride t) accounts kept lawful taken under =
        let now : StridesState = record { rule = after_choice s.rule (stride_choice s.rule eligible choice.thread); nodes = s.nodes } in
        subst (λ (st : StridesState). AreKeptBeside places (Stride st) (others_waiting state.waiting chosen.waiter) choice.thread) (sym taken) (
          subst (λ (n : ℕ). AreClients places now (others n state.waiting)) chosen.thread_is
              (clients_taken places s state.waiting (stride_choice s.rule eligible choice.thread) kept.1 kept.0),
          runner_taken s eligible choice kept.1 lawful (subst (λ (st : StridesState). choice.thread.slot < length st.nodes) taken under.place),
        )
    kept_by by_graph e (Stride s) new accounts kept lawful taken under = absurd accounts
    kept_by (by_stride tickets) e (Graph s) new accounts kept lawful taken under = absurd accounts
    kept_by _ e _ _ accounts kept lawful taken under = absurd taken

    pub kept_taken : (rule new : RuleState) → HasAccounts g.policy.rule rule state.past → AreKept places rule state.waiting → IsLawfulOf rule eligible score_of (Some choice) → HasTaken rule new eligible choice →
        IsUnderWay new choice.thread → AreKeptBeside places new (others_waiting state.waiting chosen.waiter) choice.thread
    kept_taken rule new accounts kept lawful taken under = kept_by g.policy.rule refl rule new accounts kept lawful taken under

    waits_below : (w : Waiter) → IsWaiting state.machine w → w.thread < length state.source.threads
    waits_below w is = subst (λ (n : ℕ). w.thread < n) stands.next (found_below w.thread 0 state.machine.next state.machine.threads is.thread numbered is.live)

    accounts_by : (r : Rule) → (rule new : RuleState) → noted_of rule ≡ length state.past.taken → HasAccounts r rule state.past → AreKept places rule state.waiting → IsLawfulOf rule eligible score_of (Some choice) →
        HasTaken rule new eligible choice → HasAccounts r new (with_choice state.past chosen.waiter (length state.source.threads))
    accounts_by by_graph (Graph s) (Graph t) count accounts kept lawful taken = λ node. ⊎_elim
        (λ (same : choice.node ≡ node).
        ap (λ (n : ℕ). last_of t n) (sym same) ∙ taken.noted.last ∙ ap (λ (n : ℕ). n + 1) count ∙ (let e : length state.past.taken + 1 ≡ suc (length state.past.taken) = omega arith in e)
        ∙ sym (cond-true (nat_eq chosen.waiter.node node) (suc (length state.past.taken)) (last_choice state.past.taken node) (eq-eqb chosen.waiter.node node (sym chosen.node_is ∙ same))))
        (λ apart.
        taken.noted.other_lasts node (λ e. apart (sym e)) ∙ accounts node
        ∙ sym (cond-false (nat_eq chosen.waiter.node node) (suc (length state.past.taken)) (last_choice state.past.taken node) (ne_eqb chosen.waiter.node node (λ e. apart (chosen.node_is ∙ e)))))
        (cases_eq choice.node node)
    accounts_by (by_stride tickets) (Stride s) (Stride t) count accounts kept lawful taken =
        let begun : ℕ = length state.source.threads in
        let made : ℕ → PastChoice = λ n. record { thread = n; node = chosen.waiter.node; started = begun } in
        subst (λ (st : StridesState). HasPasses tickets st.rule (made chosen.waiter.thread ∷ state.past.taken)) (sym taken)
        (subst (λ (n : ℕ). HasPasses tickets (after_choice s.rule (stride_choice s.rule eligible choice.thread)) (made n ∷ state.past.taken)) chosen.thread_is
        (passes_taken tickets s.rule state.past.taken (stride_choice s.rule eligible choice.thread) chosen.waiter.node begun lawful.first.client (chosen_client s eligible choice kept.1 lawful) kept.0.once
        (clients_below places s state.waiting (IsWaiting state.machine) begun kept.1 waits_below are.each kept.0) accounts))
    accounts_by by_graph (Stride s) new count accounts kept lawful taken = absurd accounts
    accounts_by (by_stride tickets) (Graph s) new count accounts kept lawful taken = absurd accounts
    accounts_by _ _ _ count accounts kept lawful taken = absurd taken

    pub accounts_taken : (rule new : RuleState) → noted_of rule ≡ length state.past.taken → HasAccounts g.policy.rule rule state.past → AreKept places rule state.waiting → IsLawfulOf rule eligible score_of (Some choice) →
        HasTaken rule new eligible choice → HasAccounts g.policy.rule new (with_choice state.past chosen.waiter (length state.source.threads))
    accounts_taken rule new count accounts kept lawful taken = accounts_by g.policy.rule rule new count accounts kept lawful taken

-- no choice is under way between segments
pub none_under_way : (places : List (Option ℕ)) (rule : RuleState) (waiting : List Waiter) → AreKept places rule waiting → HasNone rule
none_under_way places (Graph s) waiting kept = tt
none_under_way places (Stride st) waiting kept = kept.1

-- one is within them
pub under_way : (places : List (Option ℕ)) (rule : RuleState) (waiting : List Waiter) (thread : ThreadId) → AreKeptBeside places rule waiting thread → IsUnderWay rule thread
under_way places (Graph s) waiting thread kept = tt
under_way places (Stride st) waiting thread kept = kept.1.running

-- ---- a thread that starts in a segment

-- nothing waits of the thread that is the next to start
pub next_waits : (w : World) (waiting : List Waiter) → IsNumbered w → AllByRecursion (IsWaiting w) waiting → waiter_of w.next waiting ≡ None
next_waits w waiting numbered all = none_at (λ (x : Waiter). x.thread) w.next waiting (apart waiting all) where
  apart : (waiting : List Waiter) → AllByRecursion (IsWaiting w) waiting → AllByRecursion (λ x. x.thread ≢ w.next) waiting
  apart [] all = tt
  apart (x ∷ xs) all =
      ((λ e. let below = found_below x.thread 0 w.next w.threads all.0.thread numbered all.0.live in absurd (omega (arith, below, e))), apart xs all.1)

pub may_start_within : (places : List (Option ℕ)) (rule : RuleState) (waiting : List Waiter) (thread new : ThreadId) → AreKeptBeside places rule waiting thread → new.number ≢ thread.number → waiter_of new.number waiting ≡ None →
    MayStart rule new
may_start_within places (Graph s) waiting thread new kept apart none = tt
may_start_within places (Stride st) waiting thread new kept apart none =
    may_start places st waiting new.number (λ e. let both : Some thread.number ≡ Some new.number = sym kept.1.running.running ∙ e in let same : thread.number ≡ new.number = cc in apart (sym same)) none kept.0

pub kept_started : (places : List (Option ℕ)) (rule new : RuleState) (waiting : List Waiter) (thread fresh : ThreadId) → AreKeptBeside places rule waiting thread → HasStarted rule new fresh → IsPlaced places fresh →
    fresh.number ≢ thread.number → waiter_of fresh.number waiting ≡ None → AreKeptBeside places new (waiting ++ record { thread = fresh.number; node = 0; since = 0 } ∷ []) thread
kept_started places (Graph s) (Graph t) waiting thread fresh kept starts placed apart none = queued_more places s t 0 fresh waiting 0 placed starts.joined kept
kept_started places (Stride s) (Stride t) waiting thread fresh kept starts placed apart none = (
  clients_started places s t waiting fresh (λ e. let both : Some thread.number ≡ Some fresh.number = sym kept.1.running.running ∙ e in let same : thread.number ≡ fresh.number = cc in apart (sym same)) none placed starts kept.0,
  runner_started s t thread fresh starts kept.1,
)
kept_started places _ _ waiting thread fresh kept starts placed apart none = absurd starts

pub accounts_started : (r : Rule) (rule new : RuleState) (past : Past) (fresh : ThreadId) (begun : ℕ) → HasAccounts r rule past → HasStarted rule new fresh → StartedBy past.taken begun → begun ≤ fresh.number → HasAccounts r new past
accounts_started by_graph (Graph s) (Graph t) past fresh begun accounts starts by later = λ node. starts.joined.lasts node ∙ accounts node
accounts_started by_graph (Stride s) new past fresh begun accounts starts by later = absurd accounts
accounts_started (by_stride tickets) (Graph s) new past fresh begun accounts starts by later = absurd accounts
accounts_started (by_stride tickets) (Stride s) (Stride t) past fresh begun accounts starts by later =
    subst (λ (x : StrideState). HasPasses tickets x past.taken) (sym starts.rule) (passes_started tickets s.rule past.taken fresh begun by later accounts)
accounts_started _ _ _ past fresh begun accounts starts by later = absurd starts

-- ---- the end of a segment

pub kept_rejoined : (places : List (Option ℕ)) (rule new : RuleState) (waiting : List Waiter) (thread : ThreadId) (node since : ℕ) (need : Need) → AreKeptBeside places rule waiting thread → HasRejoined rule new thread node need →
    IsPlaced places thread → waiter_of thread.number waiting ≡ None → AreKept places new (waiting ++ record { thread = thread.number; node = node; since = since } ∷ [])
kept_rejoined places (Graph s) (Graph t) waiting thread node since need kept joins placed none = queued_more places s t node thread waiting since placed joins.joined kept
kept_rejoined places (Stride s) (Stride t) waiting thread node since need kept joins placed none =
    (clients_rejoined places s t waiting thread node since need kept.1 none placed joins kept.0, ap (λ (x : StrideState). x.running) joins.rule)
kept_rejoined places _ _ waiting thread node since need kept joins placed none = absurd joins

pub accounts_rejoined : (r : Rule) (rule new : RuleState) (past after : Past) (thread : ThreadId) (node : ℕ) (need : Need) → after.taken ≡ past.taken → HasAccounts r rule past → HasRejoined rule new thread node need → HasAccounts r new after
accounts_rejoined by_graph (Graph s) (Graph t) past after thread node need same accounts joins = λ n. joins.joined.lasts n ∙ accounts n ∙ ap (λ (l : List PastChoice). last_choice l n) (sym same)
accounts_rejoined by_graph (Stride s) new past after thread node need same accounts joins = absurd accounts
accounts_rejoined (by_stride tickets) (Graph s) new past after thread node need same accounts joins = absurd accounts
accounts_rejoined (by_stride tickets) (Stride s) (Stride t) past after thread node need same accounts joins =
    subst (λ (x : StrideState). HasPasses tickets x after.taken) (sym joins.rule)
    (passes_rejoined tickets s.rule after.taken thread.number need (subst (λ (l : List PastChoice). HasPasses tickets s.rule l) (sym same) accounts))
accounts_rejoined _ _ _ past after thread node need same accounts joins = absurd joins

pub kept_left : (places : List (Option ℕ)) (rule new : RuleState) (waiting : List Waiter) (thread : ThreadId) → AreKeptBeside places rule waiting thread → HasLeft rule new thread → waiter_of thread.number waiting ≡ None →
    AreKept places new waiting
kept_left places (Graph s) (Graph t) waiting thread kept leaves none = subst (λ (v : SchedulerState). AreQueued places v waiting) (sym leaves) kept
kept_left places (Stride s) (Stride t) waiting thread kept leaves none =
    subst (λ (st : StridesState). AreKept places (Stride st) waiting) (sym leaves) (clients_left places s waiting thread kept.1 none kept.0, refl)
kept_left places _ _ waiting thread kept leaves none = absurd leaves

pub accounts_left : (r : Rule) (rule new : RuleState) (past after : Past) (thread : ThreadId) → after.taken ≡ past.taken → HasAccounts r rule past → HasLeft rule new thread → HasAccounts r new after
accounts_left by_graph (Graph s) (Graph t) past after thread same accounts leaves = λ n. ap (λ (v : SchedulerState). last_of v n) leaves ∙ accounts n ∙ ap (λ (l : List PastChoice). last_choice l n) (sym same)
accounts_left by_graph (Stride s) new past after thread same accounts leaves = absurd accounts
accounts_left (by_stride tickets) (Graph s) new past after thread same accounts leaves = absurd accounts
accounts_left (by_stride tickets) (Stride s) (Stride t) past after thread same accounts leaves =
    subst (λ (st : StridesState). HasPasses tickets st.rule after.taken) (sym leaves)
    (passes_left tickets s.rule after.taken thread.number (subst (λ (l : List PastChoice). HasPasses tickets s.rule l) (sym same) accounts))
accounts_left _ _ _ past after thread same accounts leaves = absurd leaves

-- ---- the start of a run

pub may_start_first : (rule : RuleState) (thread : ThreadId) → HasNothing rule → MayStart rule thread
may_start_first (Graph s) thread nothing = tt
may_start_first (Stride st) thread nothing = subst (λ (v : StridesState). MayStart (Stride v) thread) (sym nothing) tt

none_queued : (places : List (Option ℕ)) → AreQueued places started []
none_queued places = record { queue = λ node. tt }

pub kept_first : (places : List (Option ℕ)) (rule new : RuleState) (thread : ThreadId) → HasNothing rule → HasStarted rule new thread → IsPlaced places thread → AreKept places new (record { thread = thread.number; node = 0; since = 0 } ∷ [])
kept_first places (Graph s) (Graph t) thread nothing starts placed =
    queued_more places s t 0 thread [] 0 placed starts.joined (subst (λ (v : SchedulerState). AreQueued places v []) (sym nothing) (none_queued places))
kept_first places (Stride s) (Stride t) thread nothing starts placed =
    let rests : s.rule.running ≡ None = ap (λ (v : StridesState). v.rule.running) nothing in (
      clients_started places s t [] thread (λ e. let no : None ≡ Some thread.number = sym rests ∙ e in absurd (cc)) refl placed starts
          (subst (λ (v : StridesState). AreClients places v []) (sym nothing) (clients_first places s.rule.tickets)),
      ap (λ (x : StrideState). x.running) starts.rule ∙ rests,
    )
kept_first places _ _ thread nothing starts placed = absurd starts

pub accounts_first : (rule new : RuleState) (thread : ThreadId) (uses : List ℕ) → HasNothing rule → HasStarted rule new thread → HasAccounts (rule_of rule) new (no_past uses)
accounts_first (Graph s) (Graph t) thread uses nothing starts = λ node. starts.joined.lasts node ∙ ap (λ (v : SchedulerState). last_of v node) nothing
accounts_first (Stride s) (Stride t) thread uses nothing starts =
    let rule_is : s.rule ≡ new_rule s.rule.tickets = ap (λ (v : StridesState). v.rule) nothing in
    subst (λ (x : StrideState). HasPasses s.rule.tickets x []) (sym starts.rule)
    (passes_started s.rule.tickets s.rule [] thread 0 tt (omega arith) (subst (λ (x : StrideState). HasPasses s.rule.tickets x []) (sym rule_is) (passes_first s.rule.tickets)))
accounts_first _ _ thread uses nothing starts = absurd starts

pub told_first : (w : World) (rule new : RuleState) (thread : ThreadId) → HasNothing rule → HasStarted rule new thread → IsNeeded w (record { thread = thread; need = Need.Nothing }) → AreTold w new
told_first w (Graph s) (Graph t) thread nothing starts own =
    needed_told w s t 0 (record { thread = thread; need = Need.Nothing }) starts.told own (subst (λ (v : SchedulerState). AreNeeded w v) (sym nothing) (record { each = λ node. tt }))
told_first w (Stride s) (Stride t) thread nothing starts own =
    subst (λ (r : StrideState). AreNeededByStrides w r) (sym starts.rule)
    (strides_started w s.rule thread (may_start_first (Stride s) thread nothing) own (subst (λ (v : StridesState). AreNeededByStrides w v.rule) (sym nothing) tt))
told_first w _ _ thread nothing starts own = absurd starts

pub noted_first : (rule new : RuleState) (thread : ThreadId) → HasNothing rule → HasStarted rule new thread → noted_of new ≡ 0
noted_first (Graph s) (Graph t) thread nothing starts = starts.joined.noted ∙ ap (λ (v : SchedulerState). v.noted) nothing
noted_first (Stride s) (Stride t) thread nothing starts = ap (λ (r : StrideState). r.noted) starts.rule ∙ ap (λ (v : StridesState). v.rule.noted) nothing
noted_first _ _ thread nothing starts = absurd starts
