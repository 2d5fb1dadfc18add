-- A search through the queues finds the lawful choice.
use Rattle.scheduler.proofs.Common.{◌≡◌, ◌≢◌, ℕ, suc, Bool, true, false, IsSome, ℤ, Option, Some, None, find, Contains, IfSome, position, List, [], ◌∷◌, refl, sym, ap, ◌∙◌, subst, arith, rules, ⊎_elim, BTreeMap, is_at, nat_cmp, cases_eq, ThreadId, Entry, Choice, IsLawfulChoice, queue_in, places_in, passes_at, MonitorState, comes_before, score, score_by, IsBestOf, IsFound, IsPassed, IsNoBetter, IsRankOf, is_rank_below, is_rank_below_best, choice_of, by_test, not_at}
use Rattle.std.specs.Map.{lookup}
use Rattle.scheduler.specs.declared.choosing.Candidate.{Candidate}
use Rattle.scheduler.specs.declared.finding.Found.{Found}
use Rattle.scheduler.specs.declared.scores.Rank.{Rank}
use Rattle.blocking_graph.specs.declared.edges.EdgeLine.{EdgeLine}
use Rattle.scheduler.proofs.OrderLemmas.{comes_before-self, comes_before-asym, comes_before-total, comes_before-cotrans}

none_if : {X : Type 0} (o : Option X) → (IsSome o → ⊥) → o ≡ None
none_if None h = refl
none_if (Some x) h = absurd (h (search rules))

pub not_none : {X : Type 0} (o : Option X) → o ≡ None → IsSome o → ⊥
not_none None e some = search rules
not_none (Some x) e some = cc

not_there : (node : ℕ) (queue : List (Option Entry)) (rest : List (ℕ × List (Option Entry))) (other : ℕ) → node ≢ other →
    lookup (is_at (nat_cmp other)) rest ≡ None → lookup (is_at (nat_cmp other)) ((node, queue) ∷ rest) ≡ None
not_there node queue rest other ne none = rw (not_at other node (λ e. ne (sym e))) none

-- one queue more was looked at
pub passed_before : (node : ℕ) (queue : List (Option Entry)) (left rest : List (ℕ × List (Option Entry))) → left ≡ (node, queue) ∷ rest → (other : ℕ) → IsPassed rest other → node ≢ other → IsPassed left other
passed_before node queue left rest next other none ne = subst (λ es. lookup (is_at (nat_cmp other)) es ≡ None) (sym next) (not_there node queue rest other ne none)

module _ (score : ℕ → ℤ) (last : ℕ → ℕ) where
  -- ---- one node more

  below_by_rank : (a b : Rank) → IsRankOf score last a → IsRankOf score last b → is_rank_below a b ≡ comes_before score last a.node b.node
  below_by_rank a b p q = rw (p.score, p.last, q.score, q.last) refl

  no_better_new : (best : Option Candidate) (rank : Rank) (node : ℕ) → IfSome best (λ candidate. IsRankOf score last candidate.rank) → IsRankOf score last rank →
      is_rank_below_best rank best ≡ true → IsNoBetter score last best node → comes_before score last node rank.node ≡ false
  no_better_new None rank node ranked own below late = absurd late
  no_better_new (Some b) rank node ranked own below late =
      let before : comes_before score last rank.node b.rank.node ≡ true = sym (below_by_rank rank b.rank own ranked) ∙ below in
      comes_before-cotrans score last node b.rank.node rank.node late (comes_before-asym score last rank.node b.rank.node before)

  no_better_passed : (best : Option Candidate) (rank : Rank) → IfSome best (λ candidate. IsRankOf score last candidate.rank) → IsRankOf score last rank →
      is_rank_below_best rank best ≡ false → IsNoBetter score last best rank.node
  no_better_passed None rank ranked own below = absurd (let e : true ≡ false = below in cc)
  no_better_passed (Some b) rank ranked own below = sym (below_by_rank rank b.rank own ranked) ∙ below

-- a node after those seen so far; `more` are these and this one
pub record IsNext (eligible : ThreadId → Bool) (score : ℕ → ℤ) (last : ℕ → ℕ) (queues : BTreeMap ℕ (List (Option Entry))) (node : ℕ) (seen more : ℕ → Type 0)
    (best : Option Candidate) : Type 0 where
  pub at : IsBestOf eligible score last queues seen best
  pub before : (other : ℕ) → IsSome (find eligible (queue_in queues other)) → more other → node ≢ other → seen other

module _ {eligible : ThreadId → Bool} {score : ℕ → ℤ} {last : ℕ → ℕ} {queues : BTreeMap ℕ (List (Option Entry))} {node : ℕ} {seen more : ℕ → Type 0}
    {best : Option Candidate} (next : IsNext eligible score last queues node seen more best) where
  pub IsBestOf-taken : {rank : Rank} (found : Found) → IsRankOf score last rank → rank.node ≡ node → is_rank_below_best rank best ≡ true →
      IsFound eligible (places_in queues node) found →
      IsBestOf eligible score last queues more (Some (record { rank = rank; place = found.place; thread = found.thread }))
  IsBestOf-taken {rank} found own of_node below is = record {
    ranked = own;
    first = ap (λ (n : ℕ). find eligible (queue_in queues n)) of_node ∙ is.thread;
    place = ap (λ (n : ℕ). position (passes_at eligible) (places_in queues n)) of_node ∙ is.place;
    least = λ other some now.
        ⊎_elim
        (λ same. subst (λ n. comes_before score last n rank.node ≡ false) (of_node ∙ same) (comes_before-self score last rank.node))
        (λ ne. no_better_new score last best rank other next.at.ranked own below (next.at.least other some (next.before other some now ne)))
        (cases_eq node other);
  }

  -- this node is no better
  kept : ((other : ℕ) → node ≡ other → IsSome (find eligible (queue_in queues other)) → IsNoBetter score last best other) →
      IsBestOf eligible score last queues more best
  kept no_better = record {
    ranked = next.at.ranked;
    first = next.at.first;
    place = next.at.place;
    least = λ other some now.
        ⊎_elim (λ same. no_better other same some) (λ ne. next.at.least other some (next.before other some now ne)) (cases_eq node other);
  }

  pub IsBestOf-passed : {rank : Rank} → IsRankOf score last rank → rank.node ≡ node → is_rank_below_best rank best ≡ false →
      IsBestOf eligible score last queues more best
  IsBestOf-passed {rank} own of_node below =
      kept (λ other same some. subst (λ n. IsNoBetter score last best n) (of_node ∙ same) (no_better_passed score last best rank next.at.ranked own below))

  pub IsBestOf-ineligible : find eligible (queue_in queues node) ≡ None → IsBestOf eligible score last queues more best
  IsBestOf-ineligible nobody =
      kept (λ other same some. absurd (not_none _ (ap (λ (n : ℕ). find eligible (queue_in queues n)) (sym same) ∙ nobody) some))

-- ---- when each node with an eligible thread was seen

pub IsLawfulChoice-best : {eligible : ThreadId → Bool} {score : ℕ → ℤ} {last : ℕ → ℕ} {queues : BTreeMap ℕ (List (Option Entry))} {seen : ℕ → Type 0}
    (best : Option Candidate) → ((node : ℕ) → IsSome (find eligible (queue_in queues node)) → seen node) → IsBestOf eligible score last queues seen best →
    IsLawfulChoice (queue_in queues) eligible score last (choice_of best)
IsLawfulChoice-best None all at = λ node. none_if _ (λ some. at.least node some (all node some))
IsLawfulChoice-best {score = score} {last = last} (Some b) all at = record {
  first = at.first;
  least = λ other ne some. comes_before-total score last other b.rank.node ne (at.least other some (all other some));
}

-- what `find` gives is an element
pub Contains-find : {X : Type 0} (p : X → Bool) (xs : List X) (x : X) → find p xs ≡ Some x → Contains xs x
Contains-find p [] x h = absurd cc
Contains-find p (y ∷ xs) x h =
    by_test (p y) (Contains (y ∷ xs) x)
    (λ yes. let first : Some y ≡ Some x = rw yes at h in (0, (omega arith), cc))
    (λ no. let rest : find p xs ≡ Some x = rw no at h in
    let there = Contains-find p xs x rest in
    (suc there.0, (omega (arith, there.1)), there.2))

-- the thread of a lawful choice waits at its node
pub lawful-queued : (queue : ℕ → List ThreadId) (eligible : ThreadId → Bool) (score : ℕ → ℤ) (last : ℕ → ℕ) (choice : Option Choice) →
    IsLawfulChoice queue eligible score last choice → IfSome choice (λ made. Contains (queue made.node) made.thread)
lawful-queued queue eligible score last None lawful = tt
lawful-queued queue eligible score last (Some choice) lawful = Contains-find eligible (queue choice.node) choice.thread lawful.first

-- a rank by the eight pressures is one by the monitor
pub ranked : {last : ℕ → ℕ} {rank : Rank} (monitor : MonitorState) (edges : List EdgeLine) (pressures : List ℕ) →
    ((node : ℕ) → score_by pressures edges node ≡ score monitor edges node) → IsRankOf (score_by pressures edges) last rank →
    IsRankOf (score monitor edges) last rank
ranked {rank = rank} monitor edges pressures same is = record { score = is.score ∙ same rank.node; last = is.last }
