-- Steps at the eighths of a cap.
use Rattle.std.specs.Prelude.{ℕ, List, [], ◌∷◌}

abbrev pub eighths : List ℕ
eighths = 125 ∷ 250 ∷ 375 ∷ 500 ∷ 625 ∷ 750 ∷ 875 ∷ 1000 ∷ []
