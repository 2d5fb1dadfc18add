use Rattle.run_history.proofs.Common.{◌≡◌, ℕ, length, get, nat_cmp, inherits, left_after}
use Rattle.run_history.proofs.followed.Followed.start_all.Given as goal

-- what is still to be done of the threads that are left leads to what all of them make
abbrev pub invariant-loop-one : goal.invariant-loop-one
invariant-loop-one l =
    ((thread : ℕ) → inherits l.self.segments l.initial.request thread l.self.left.now (get nat_cmp l.self.started thread)
    ≡ inherits l.initial.self.segments l.initial.request thread l.initial.self.left.now (get nat_cmp l.initial.self.started thread))
    × (left_after l.self.segments l.self.left.now ≡ left_after l.initial.self.segments l.initial.self.left.now)
    × (l.self.segments ≡ l.initial.self.segments)
    × (l.self.answers ≡ l.initial.self.answers)
    × (l.request ≡ l.initial.request)

abbrev pub decreases-loop-one : goal.decreases-loop-one
decreases-loop-one l = length l.self.left.now
