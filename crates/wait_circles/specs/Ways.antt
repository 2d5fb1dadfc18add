-- All circles, one after another.
use Rattle.std.specs.Prelude.{ℕ, zero, suc, List, [], ◌∷◌, ◌++◌, if◌then◌else◌}
use Rattle.wait_circles.specs.declared.steps.Step.{Step}
use Rattle.wait_circles.specs.Circles.{leads, may_go}

-- the lists for each number below a bound, one after another
abbrev pub each_below : (ℕ → List (List ℕ)) → ℕ → List (List ℕ)
each_below f zero = []
each_below f (suc n) = each_below f n ++ f n

-- a path, if it is a circle
abbrev pub closing : List Step → ℕ → ℕ → List ℕ → List (List ℕ)
closing steps first last path = if leads steps last first then path ∷ [] else []

-- the circles that extend a path by at most this many further resources
abbrev pub ways : ℕ → List Step → ℕ → ℕ → List ℕ → List (List ℕ)
ways zero steps first last path = closing steps first last path
ways (suc left) steps first last path =
    closing steps first last path ++ each_below (λ next. if may_go steps first last path next then ways left steps first next (path ++ next ∷ []) else []) 8

-- those that continue with a resource, if the path may continue with it
abbrev pub ways_by : ℕ → List Step → ℕ → ℕ → List ℕ → ℕ → List (List ℕ)
ways_by left steps first last path next = if may_go steps first last path next then ways left steps first next (path ++ next ∷ []) else []
