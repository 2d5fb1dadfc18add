-- The first function of a thread.
use Rattle.std.specs.Prelude.{ℕ, ⊤, List, [], ◌∷◌}
use Rattle.chunk_budget.specs.Budgets.{IsRoot}
use Rattle.machine_world.specs.InPlace.{Frame}
use Rattle.machine_world.specs.Places.{Checked}

-- the function of a thread's last frame, with which the thread began
abbrev pub root_of : Frame → List Frame → ℕ
root_of frame [] = frame.function
root_of frame (below ∷ frames) = root_of below frames

-- the thread of these frames began with main or with a function with which some site starts a thread; without frames,
-- it is at its end
abbrev pub StartsAtRoot : Checked → List Frame → Type 0
StartsAtRoot c [] = ⊤
StartsAtRoot c (frame ∷ below) = IsRoot c.flat (root_of frame below)
