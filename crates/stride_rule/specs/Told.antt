-- The needs of threads, by their numbers.
use Rattle.std.specs.Prelude.{ℕ, ◌==◌, if◌then◌else◌, List, [], ◌∷◌}
use Rattle.ready_tree.specs.declared.needs.Need.{Need}

-- the need of a thread: nothing if there is no such thread
abbrev pub need_of : ℕ → List (ℕ × Need) → Need
need_of sought [] = Need.Nothing
need_of sought ((number, need) ∷ needs) = if number == sought then need else need_of sought needs

-- a thread has this need; a new one is at the end
abbrev pub with_need : ℕ → Need → List (ℕ × Need) → List (ℕ × Need)
with_need sought told [] = (sought, told) ∷ []
with_need sought told ((number, need) ∷ needs) = if number == sought then (number, told) ∷ needs else (number, need) ∷ with_need sought told needs

abbrev pub without_need : ℕ → List (ℕ × Need) → List (ℕ × Need)
without_need sought [] = []
without_need sought ((number, need) ∷ needs) = if number == sought then needs else (number, need) ∷ without_need sought needs
