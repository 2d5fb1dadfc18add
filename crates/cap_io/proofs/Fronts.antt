-- Bytes that are read from the front of what is left.
use Rattle.std.proofs.Common.{◌≡◌, ℕ, ◌+◌, ◌<◌, ◌≤◌, List, [], ◌++◌, length, take, drop, sym, arith}
use Rattle.std.proofs.lemmas.List.{take-append-drop, drop-drop, drop_all}

-- what is left loses the n bytes that the buffer begins with, and nothing is left where none came into a buffer with room
pub read_front : (bytes buf : List ℕ) (at n : ℕ) → take n buf ≡ take n (drop at bytes)
    → (n ≡ 0 → 0 < length buf → length bytes ≤ at)
    → (drop at bytes ≡ take n buf ++ drop (at + n) bytes) × (n ≡ 0 → 0 < length buf → drop (at + n) bytes ≡ [])
read_front bytes buf at n given end = (
  rw (given, ← drop-drop n at bytes) (sym (take-append-drop n (drop at bytes))),
  λ none room. drop_all (at + n) bytes (let e : length bytes ≤ at = end none room in omega arith),
)
