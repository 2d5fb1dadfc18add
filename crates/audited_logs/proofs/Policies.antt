-- A choice point rests on how many chunks there are in all, and not on how many there are of each size.
use Rattle.audited_logs.proofs.Common.{◌≡◌, ◌≢◌, ℕ, ◌+◌, ◌&&◌, ◌||◌, Bool, not, nat_eq, List, ◌∷◌, drop, Some, find, subst, arith, IsSome, IsTrue, AllByRecursion, edges_of, queue_at, goes_before_at, IsLawfulBy, IsChoice, IsChoicePoint, IsDelivery, Policy, Rule, by_graph, by_stride, is_ready, at_accept, any_elsewhere, Waiter, Seen, uses_of, last_choice, IsIdle, Event, Item, Option, read_policy}
use Rattle.resource_monitor.specs.Gate.{gate}
use Rattle.scheduler.specs.Scores as scores
use Rattle.scheduler.specs.Scores.{comes_before}

module _ (policy : Policy) (seen : Seen) where
  abbrev read : Policy
  read = read_policy policy

  same_count : policy.chunks + policy.extra ≡ read.chunks + read.extra
  same_count = omega arith

  point_read : (next : Option Event) (clock : ℕ) → IsChoicePoint policy seen next clock → IsChoicePoint read seen next clock
  point_read next clock is = record { between = is.between; live = is.live; next_is = is.next_is; clock_is = is.clock_is }

  pub delivery_read : (clock : ℕ) (event : Event) (item : Item) (drops : Bool) → IsDelivery policy seen clock event item drops → IsDelivery read seen clock event item drops
  delivery_read clock event item drops is = record { point = point_read (Some event) clock is.point; due = is.due; item_is = is.item_is; drops_is = is.drops_is }

  pub idle_read : IsIdle policy seen → IsIdle read seen
  idle_read is = record { between = is.between; live = is.live; over = is.over; none_ready = is.none_ready; none_sleeps = is.none_sleeps }

  -- ---- the choice, where there are so many chunks

  abbrev open_with : ℕ → Bool
  open_with count = gate policy.high policy.low policy.curves (count ∷ drop 1 policy.caps) seen.past.uses

  abbrev eligible_with : ℕ → ℕ → Waiter → Bool
  eligible_with count clock w = is_ready policy seen clock w && (not (at_accept seen w) || (open_with count || not (any_elsewhere policy seen clock)))

  abbrev before_with : ℕ → ℕ → ℕ → Bool
  before_with count node other =
      comes_before (λ (n : ℕ). scores.score (record { curves = policy.curves; caps = count ∷ drop 1 policy.caps; high = policy.high; low = policy.low; uses = uses_of seen; is_open = open_with count }) (edges_of seen.past.records) n)
      (last_choice seen.past.taken) node other

  abbrev LeastWith : ℕ → ℕ → ℕ → Type 0
  LeastWith clock node count = (other : ℕ) → other ≢ node → IsSome (find (eligible_with count clock) (queue_at seen other)) → IsTrue (before_with count node other)

  abbrev FirstWith : List (ℕ × ℕ) → ℕ → ℕ → ℕ → Type 0
  FirstWith tickets clock thread count =
      AllByRecursion (λ (other : Waiter). IsTrue (eligible_with count clock other) → other.thread ≢ thread → IsTrue (goes_before_at tickets seen thread other.thread)) seen.waiting

  lawful_read : (rule : Rule) (clock : ℕ) (chosen : Waiter) → IsLawfulBy rule policy seen clock chosen → IsLawfulBy rule read seen clock chosen
  lawful_read by_graph clock chosen is = record {
    first = subst (λ (count : ℕ). find (eligible_with count clock) (queue_at seen chosen.node) ≡ Some chosen) same_count is.first;
    least = subst (LeastWith clock chosen.node) same_count is.least;
  }
  lawful_read (by_stride tickets) clock chosen is = record {
    first = subst (λ (count : ℕ). find (λ (w : Waiter). eligible_with count clock w && nat_eq w.thread chosen.thread) seen.waiting ≡ Some chosen) same_count is.first;
    least = subst (FirstWith tickets clock chosen.thread) same_count is.least;
  }

  pub choice_read : (clock : ℕ) (chosen : Waiter) → IsChoice policy seen clock chosen → IsChoice read seen clock chosen
  choice_read clock chosen is = record { next = is.next; point = point_read is.next clock is.point; not_due = is.not_due; lawful = lawful_read policy.rule clock chosen is.lawful }
