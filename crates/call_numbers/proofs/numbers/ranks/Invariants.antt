use Rattle.std.proofs.Common.{◌≡◌, ℕ, ◌+◌, ◌<◌, List, ◌++◌, length, get_or, drop}
use Rattle.grammar_laws.specs.Ranks.{lesser, no_greater, ranks_after, ranks}
use Rattle.call_numbers.proofs.numbers.ranks.Given as goal

abbrev pub invariant-loop-place : goal.invariant-loop-place
invariant-loop-place l =
    (earlier : List ℕ)
    × (length earlier ≡ l.place-index)
    × (length l.starts.items ≡ length l.initial.starts.items)
    × ((k : ℕ) → k < length l.starts.items → get_or l.starts.items k 0 ≡ no_greater k earlier + lesser k (drop l.place-index l.places))
    × (l.numbers.items ++ ranks_after earlier (drop l.place-index l.places) ≡ ranks l.places)
