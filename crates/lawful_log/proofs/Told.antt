-- What the machine world tells, at a choice.
use Rattle.lawful_log.proofs.Common.{◌≡◌, ℕ, ◌&&◌, Bool, true, not, List, Option, Some, None, refl, ap, ◌∙◌, subst, list_any, ThreadId, Exchange, monitor_of, by_graph, Waiter, is_ready_at, is_ready, at_accept, any_ready, any_elsewhere, rest_of, IsPlaced, AreQueued, some_choice, lawful_choice, lawful_by_graph, checked_of, Setup, setting_of, State, seen_of, IsNumbered, advanced, may_run, is_blocked_at_accept, StandsForWorld, StandsForRest, Thread, is_eligible, IsLawfulChoice, Choice, HasLasts, IsChosen, IsWaiting, AreWaiting}
use Rattle.blocking_graph.specs.Edges.{edges_of}
use Rattle.resource_monitor.specs.Monitor.{MonitorState}
use Rattle.scheduler.specs.Scores.{score}
use Rattle.scheduler.specs.State.{SchedulerState, queue_of, last_of}
use Rattle.lawful_log.proofs.Any.{any_same}
use Rattle.lawful_log.proofs.Same.{RestsAlike, alike_rest, ready_alike, accept_alike}

module _ (g : Setup) (state : State) (clock : ℕ) (stands : StandsForWorld (checked_of g) g.program state.machine state.source) where
  alike : (x : Waiter) (v : IsWaiting state.machine x) → RestsAlike v.thread.blocked x.since (rest_of (seen_of state) x.thread)
  alike x v = alike_rest (checked_of g) g.program state.machine.areas.pool v.thread x.since (rest_of (seen_of state) x.thread)
      (subst (λ (o : Option Thread). StandsForRest (checked_of g) g.program state.machine.areas.pool o (rest_of (seen_of state) x.thread)) v.live (stands.threads x.thread)) v.since

  pub ready_same : (x : Waiter) (v : IsWaiting state.machine x) → may_run (setting_of g) (advanced state.machine clock) v.thread.blocked ≡ is_ready g.policy (seen_of state) clock x
  ready_same x v = ready_alike (setting_of g) (advanced state.machine clock) v.thread.blocked x.since (rest_of (seen_of state) x.thread) (alike x v)
      ∙ ap (λ (e : Exchange). is_ready_at g.policy.caps e clock x.since (rest_of (seen_of state) x.thread)) stands.exchange

  pub accept_same : (x : Waiter) (v : IsWaiting state.machine x) → is_blocked_at_accept v.thread.blocked ≡ at_accept (seen_of state) x
  accept_same x v = accept_alike v.thread.blocked x.since (rest_of (seen_of state) x.thread) (alike x v)

  module _ (numbered : IsNumbered state.machine) (are : AreWaiting state.machine state.waiting) where
    pub any_told : list_any (λ thread. may_run (setting_of g) (advanced state.machine clock) thread.blocked) state.machine.threads ≡
        any_ready g.policy (seen_of state) clock
    any_told = any_same state.machine state.waiting numbered stands.between are (λ thread. may_run (setting_of g) (advanced state.machine clock) thread.blocked) (is_ready g.policy (seen_of state) clock) ready_same

    pub elsewhere_told : list_any (λ thread. may_run (setting_of g) (advanced state.machine clock) thread.blocked && not (is_blocked_at_accept thread.blocked)) state.machine.threads ≡ any_elsewhere g.policy (seen_of state) clock
    elsewhere_told = any_same state.machine state.waiting numbered stands.between are
        (λ thread. may_run (setting_of g) (advanced state.machine clock) thread.blocked && not (is_blocked_at_accept thread.blocked)) (λ w. is_ready g.policy (seen_of state) clock w && not (at_accept (seen_of state) w))
        (λ x v. ap (λ (b : Bool). b && not (is_blocked_at_accept v.thread.blocked)) (ready_same x v) ∙ ap (λ (b : Bool). is_ready g.policy (seen_of state) clock x && not b) (accept_same x v))

pub choice_told : (g : Setup) (state : State) (clock : ℕ) (places : List (Option ℕ)) (scheduler : SchedulerState) (ready accept : ThreadId → Bool) (monitor : MonitorState) →
    g.policy.rule ≡ by_graph → IsNumbered state.machine → StandsForWorld (checked_of g) g.program state.machine state.source → AreWaiting state.machine state.waiting → AreQueued places scheduler state.waiting → HasLasts scheduler state.past →
    ((t : ThreadId) (x : Waiter) → t.number ≡ x.thread → IsPlaced places t → (v : IsWaiting state.machine x) → ready t ≡ may_run (setting_of g) (advanced state.machine clock) v.thread.blocked) →
    ((t : ThreadId) (x : Waiter) → t.number ≡ x.thread → IsPlaced places t → (v : IsWaiting state.machine x) → accept t ≡ is_blocked_at_accept v.thread.blocked) →
    monitor ≡ monitor_of g.policy (seen_of state) → any_ready g.policy (seen_of state) clock ≡ true → (choice : Option Choice) →
    IsLawfulChoice (queue_of scheduler) (is_eligible ready accept (any_elsewhere g.policy (seen_of state) clock) monitor.is_open) (score monitor (edges_of state.past.records)) (last_of scheduler) choice →
    IsChosen g state clock places choice
choice_told g state clock places scheduler ready accept monitor rule_is numbered stands are queued lasts ready_is accept_is monitor_is some None is =
    some_choice g.policy (seen_of state) clock places scheduler (IsWaiting state.machine) are.each queued ready accept (any_elsewhere g.policy (seen_of state) clock) monitor (edges_of state.past.records)
    (λ t x n placed v. ready_is t x n placed v ∙ ready_same g state clock stands x v) (λ t x n placed v. accept_is t x n placed v ∙ accept_same g state clock stands x v) refl monitor_is refl lasts some is
choice_told g state clock places scheduler ready accept monitor rule_is numbered stands are queued lasts ready_is accept_is monitor_is some (Some choice) is =
    let chosen = lawful_choice g.policy (seen_of state) clock places scheduler (IsWaiting state.machine) are.each queued ready accept (any_elsewhere g.policy (seen_of state) clock) monitor (edges_of state.past.records)
    (λ t x n placed v. ready_is t x n placed v ∙ ready_same g state clock stands x v) (λ t x n placed v. accept_is t x n placed v ∙ accept_same g state clock stands x v) refl monitor_is refl lasts choice is in
    record { waiter = chosen.waiter; lawful = lawful_by_graph g.policy (seen_of state) clock chosen.waiter rule_is chosen.lawful; thread_is = chosen.thread_is; node_is = chosen.node_is; waiting = chosen.holds; placed = chosen.placed }
