-- Circles of threads that wait for one another's resources.
use Rattle.std.specs.Prelude.{◌≡◌, ℕ, ◌<◌, ◌≤◌, Bool, true, false, not, ◌&&◌, ◌||◌, List, [], ◌∷◌, ◌++◌, fold, length, nat_eq, nat_lt}
use Rattle.wait_circles.specs.declared.steps.Step.{Step}

-- a thread holds units of the one resource and waits for the other
abbrev pub is_step : ℕ → ℕ → Step → Bool
is_step held wanted step = nat_eq step.held held && nat_eq step.wanted wanted

abbrev pub leads : List Step → ℕ → ℕ → Bool
leads steps held wanted = fold (λ found step. found || is_step held wanted step) false steps

-- a resource is on a path
abbrev pub is_among : List ℕ → ℕ → Bool
is_among path resource = fold (λ found one. found || nat_eq one resource) false path

-- a path may continue with a resource: its first one is the least of all, and no other occurs twice
abbrev pub may_go : List Step → ℕ → ℕ → List ℕ → ℕ → Bool
may_go steps first last path next = nat_lt first next && not (is_among path next) && leads steps last next

-- these resources lead from the end of a path back to its first one
abbrev pub leads_back : List Step → ℕ → ℕ → List ℕ → List ℕ → Bool
leads_back steps first last path [] = leads steps last first
leads_back steps first last path (next ∷ rest) =
    nat_lt next 8 && may_go steps first last path next && leads_back steps first next (path ++ next ∷ []) rest

-- the resources of a circle, from the least one on: for each, some thread holds units of it and waits for the next one;
-- for the last, the next one is the first; resources are 0 to 7, so it has at most 8
abbrev pub IsCircle : List Step → List ℕ → Type 0
IsCircle steps [] = ⊥
IsCircle steps (first ∷ rest) = (first < 8) × (length rest ≤ 7) × (leads_back steps first first (first ∷ []) rest ≡ true)
