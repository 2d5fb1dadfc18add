-- The best node so far, in a search through the queues.
use Rattle.std.specs.Prelude.{ℕ, ◌≡◌, Bool, true, false, IsSome, IfSome, ℤ, Option, Some, None, find, position, List}
use Rattle.std.specs.BTreeMap.{BTreeMap, is_at}
use Rattle.std.specs.Map.{lookup}
use Rattle.std.specs.Ordering.{nat_cmp}
use Rattle.cap_word.specs.declared.threads.ThreadId.{ThreadId}
use Rattle.ready_tree.specs.declared.entries.Entry.{Entry}
use Rattle.ready_tree.specs.Entries.{entries_of}
use Rattle.scheduler.specs.declared.choices.Choice.{Choice}
use Rattle.scheduler.specs.declared.scores.Rank.{Rank}
use Rattle.scheduler.specs.declared.choosing.Candidate.{Candidate}
use Rattle.scheduler.specs.declared.finding.Found.{Found}
use Rattle.scheduler.specs.Queues.{threads_of, places_in, queue_in, passes_at}
use Rattle.scheduler.specs.Scores.{ranks_below, comes_before}

-- a rank has its node's score and last choice
pub record IsRankOf (score_of : ℕ → ℤ) (last_of : ℕ → ℕ) (rank : Rank) : Type 0 where
  pub score : rank.score ≡ score_of rank.node
  pub last : rank.last ≡ last_of rank.node

-- the first eligible thread of these, and its place
pub record IsFound (eligible : ThreadId → Bool) (places : List (Option Entry)) (found : Found) : Type 0 where
  pub thread : find eligible (threads_of (entries_of places)) ≡ Some found.thread
  pub place : position (passes_at eligible) places ≡ Some found.place

-- the first eligible thread, and none if there is none
abbrev pub IsFoundIf : (ThreadId → Bool) → List (Option Entry) → Option Found → Type 0
IsFoundIf eligible places None = find eligible (threads_of (entries_of places)) ≡ None
IsFoundIf eligible places (Some found) = IsFound eligible places found

-- whether one rank is below another
abbrev pub is_rank_below : Rank → Rank → Bool
is_rank_below rank other = ranks_below rank.score rank.last rank.node other.score other.last other.node

-- whether a rank is below that of the best so far, or there is none
abbrev pub is_rank_below_best : Rank → Option Candidate → Bool
is_rank_below_best rank None = true
is_rank_below_best rank (Some best) = is_rank_below rank best.rank

-- a node doesn't come before the best so far, which exists
abbrev pub IsNoBetter : (ℕ → ℤ) → (ℕ → ℕ) → Option Candidate → ℕ → Type 0
IsNoBetter score last None node = ⊥
IsNoBetter score last (Some best) node = comes_before score last node best.rank.node ≡ false

-- the best of the nodes seen so far: its thread is the first eligible one of its queue, and no such node with an
-- eligible thread comes before it
pub record IsBestOf (eligible : ThreadId → Bool) (score : ℕ → ℤ) (last : ℕ → ℕ) (queues : BTreeMap ℕ (List (Option Entry)))
    (seen : ℕ → Type 0) (best : Option Candidate) : Type 0 where
  pub ranked : IfSome best (λ candidate. IsRankOf score last candidate.rank)
  pub first : IfSome best (λ candidate. find eligible (queue_in queues candidate.rank.node) ≡ Some candidate.thread)
  pub place : IfSome best (λ candidate. position (passes_at eligible) (places_in queues candidate.rank.node) ≡ Some candidate.place)
  pub least : (node : ℕ) → IsSome (find eligible (queue_in queues node)) → seen node → IsNoBetter score last best node

-- a node isn't among the remaining queues
abbrev pub IsPassed : List (ℕ × List (Option Entry)) → ℕ → Type 0
IsPassed left node = lookup (is_at (nat_cmp node)) left ≡ None

-- the choice of a candidate, if there is one
abbrev pub choice_of : Option Candidate → Option Choice
choice_of None = None
choice_of (Some candidate) = Some (record { thread = candidate.thread; node = candidate.rank.node })
