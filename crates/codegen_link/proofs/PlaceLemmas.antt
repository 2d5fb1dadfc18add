-- The places of a frame that is laid out follow one another, and the return address lies behind them.
use Rattle.codegen_link.proofs.Common.{◌≡◌, ℕ, zero, suc, ◌+◌, ◌*◌, ◌%◌, ◌<◌, ◌≤◌, List, [], ◌∷◌, ◌++◌, length, arith, slice_index, sum, sum_by-cons, AreApart, places_from}

-- the places and words of variables from a place on, and behind them of the return address
abbrev pub all-places : ℕ → List ℕ → ℕ → List ℕ
all-places place sizes ra = places_from place sizes ++ ra ∷ []

abbrev pub all-words : List ℕ → List ℕ
all-words sizes = sizes ++ 1 ∷ []

at-least : (place : ℕ) (sizes : List ℕ) (ra x : ℕ) → place + 4 * sum sizes ≤ ra → x ≤ length sizes → place ≤ slice_index (all-places place sizes ra) x
at-least place [] ra zero room le = omega (arith, room)
at-least place [] ra (suc x) room le = absurd (omega arith)
at-least place (n ∷ sizes) ra zero room le = omega arith
at-least place (n ∷ sizes) ra (suc x) room le =
    let rest : place + 4 * n + 4 * sum sizes ≤ ra = omega (arith, room, sum_by-cons (λ (y : ℕ). y) n sizes) in
    omega (arith, at-least (place + 4 * n) sizes ra x rest (omega (arith, le)))

pub aligned : (place : ℕ) (sizes : List ℕ) (ra x : ℕ) → place % 4 ≡ 0 → ra % 4 ≡ 0 → x ≤ length sizes → slice_index (all-places place sizes ra) x % 4 ≡ 0
aligned place [] ra zero a b le = b
aligned place [] ra (suc x) a b le = absurd (omega arith)
aligned place (n ∷ sizes) ra zero a b le = a
aligned place (n ∷ sizes) ra (suc x) a b le = aligned (place + 4 * n) sizes ra x (omega (arith, a)) b (omega (arith, le))

pub inside : (place : ℕ) (sizes : List ℕ) (ra frame x : ℕ) → place + 4 * sum sizes ≤ ra → ra + 4 ≤ frame → x ≤ length sizes →
    slice_index (all-places place sizes ra) x + 4 * slice_index (all-words sizes) x ≤ frame
inside place [] ra frame zero room fits le = omega (arith, fits)
inside place [] ra frame (suc x) room fits le = absurd (omega arith)
inside place (n ∷ sizes) ra frame zero room fits le = omega (arith, room, fits, sum_by-cons (λ (y : ℕ). y) n sizes)
inside place (n ∷ sizes) ra frame (suc x) room fits le =
    inside (place + 4 * n) sizes ra frame x (omega (arith, room, sum_by-cons (λ (y : ℕ). y) n sizes)) fits (omega (arith, le))

-- a lower one ends where a higher one begins, or before
in-order : (place : ℕ) (sizes : List ℕ) (ra x y : ℕ) → place + 4 * sum sizes ≤ ra → x ≤ length sizes → y < x →
    slice_index (all-places place sizes ra) y + 4 * slice_index (all-words sizes) y ≤ slice_index (all-places place sizes ra) x
in-order place [] ra x y room le lt = absurd (omega (arith, le, lt))
in-order place (n ∷ sizes) ra zero y room le lt = absurd (omega arith)
in-order place (n ∷ sizes) ra (suc x) zero room le lt =
    at-least (place + 4 * n) sizes ra x (omega (arith, room, sum_by-cons (λ (z : ℕ). z) n sizes)) (omega (arith, le))
in-order place (n ∷ sizes) ra (suc x) (suc y) room le lt =
    in-order (place + 4 * n) sizes ra x y (omega (arith, room, sum_by-cons (λ (z : ℕ). z) n sizes)) (omega (arith, le)) (omega (arith, lt))

-- what ends where another begins, or before, meets it nowhere
pub apart-after : (start words other other_words : ℕ) → other + 4 * other_words ≤ start → AreApart start words other other_words
apart-after start words other other_words le = record { no_byte = λ byte here there. omega (arith, here.0, there.1, le) }

pub apart : (place : ℕ) (sizes : List ℕ) (ra x y : ℕ) → place + 4 * sum sizes ≤ ra → x ≤ length sizes → y < x →
    AreApart (slice_index (all-places place sizes ra) x) (slice_index (all-words sizes) x) (slice_index (all-places place sizes ra) y) (slice_index (all-words sizes) y)
apart place sizes ra x y room le lt = apart-after _ _ _ _ (in-order place sizes ra x y room le lt)
