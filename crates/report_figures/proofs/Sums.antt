-- Sums of the first numbers of a list.
use Rattle.std.proofs.Common.{ℕ, ◌+◌, ◌<◌, ◌≤◌, List, length, take, get_or, sum}
use Rattle.std.proofs.lemmas.List.Sums.{sum_by_more_le}

-- the sum so far and the next number are within the whole sum
pub sum_more_le : (xs : List ℕ) (i d : ℕ) → i < length xs → sum (take i xs) + get_or xs i d ≤ sum xs
sum_more_le xs i d inside = sum_by_more_le (λ x. x) xs i d inside
