use Rattle.run_course.proofs.Common.{◌≡◌, ℕ, ◌<◌, ◌≤◌, get_or, length, cap_in, used_in}
use Rattle.run_course.proofs.uses.uses_of.Given as goal

abbrev pub invariant-loop-resource : goal.invariant-loop-resource
invariant-loop-resource l =
    ((r : ℕ) → r < l.resource → get_or l.uses r 0 ≡ used_in l.world.machine r) × ((r : ℕ) → r < l.resource → get_or l.uses r 0 ≤ cap_in l.world r) × (length l.uses ≡ 8)
