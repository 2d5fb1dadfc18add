-- A thread joins the queue of a node.
use Rattle.choice_rules.proofs.Common.{◌≡◌, ◌≢◌, ℕ, List, [], ◌∷◌, ◌++◌, Option, Bool, cond, ⊎_elim, refl, sym, ap, ◌∙◌, subst, append-nil, cases_eq, eq-eqb, ne_eqb, ThreadId, Waiter, IsPlaced, IsQueue, AreQueued, at_node, SchedulerState, queue_of, IsJoined}
use Rattle.choice_rules.proofs.Queues.{at_node-append, queue_append}

at_own : (x : Waiter) (node : ℕ) → x.node ≡ node → at_node (x ∷ []) node ≡ x ∷ []
at_own x node e = ap (λ (b : Bool). cond b (x ∷ []) []) (eq-eqb x.node node e)

at_other : (x : Waiter) (node : ℕ) → x.node ≢ node → at_node (x ∷ []) node ≡ []
at_other x node apart = ap (λ (b : Bool). cond b (x ∷ []) []) (ne_eqb x.node node apart)

pub queued_more : (places : List (Option ℕ)) (old new : SchedulerState) (node : ℕ) (thread : ThreadId) (waiting : List Waiter) (since : ℕ) → IsPlaced places thread → IsJoined old new node thread → AreQueued places old waiting →
    AreQueued places new (waiting ++ record { thread = thread.number; node = node; since = since } ∷ [])
queued_more places old new node thread waiting since placed joined queued = record {
  queue = λ other.
      let x : Waiter = record { thread = thread.number; node = node; since = since } in
      ⊎_elim
      (λ (same : node ≡ other).
      let one : IsQueue places (queue_of old node ++ thread ∷ []) (at_node waiting node ++ x ∷ []) =
      queue_append places (queue_of old node) (thread ∷ []) (at_node waiting node) (x ∷ []) (queued.queue node) (refl, (placed, tt)) in
      let here : IsQueue places (queue_of new node) (at_node (waiting ++ x ∷ []) node) =
      subst (λ (l : List Waiter). IsQueue places (queue_of new node) l)
      (sym (at_node-append waiting (x ∷ []) node ∙ ap (λ (l : List Waiter). at_node waiting node ++ l) (at_own x node refl)))
      (subst (λ (l : List ThreadId). IsQueue places l (at_node waiting node ++ x ∷ [])) (sym joined.queue) one) in
      subst (λ (n : ℕ). IsQueue places (queue_of new n) (at_node (waiting ++ x ∷ []) n)) same here)
      (λ apart.
      subst (λ (l : List Waiter). IsQueue places (queue_of new other) l)
      (sym (at_node-append waiting (x ∷ []) other ∙ ap (λ (l : List Waiter). at_node waiting other ++ l) (at_other x other apart) ∙ append-nil (at_node waiting other)))
      (subst (λ (l : List ThreadId). IsQueue places l (at_node waiting other)) (sym (joined.others other (λ e. apart (sym e)))) (queued.queue other)))
      (cases_eq node other);
}
