-- Marks on words that are in ranges.
use Rattle.std.specs.Prelude.{◌≡◌, ℕ, ◌+◌, ◌*◌, ◌%◌, ◌<◌, ◌≤◌, Bool, true, false, List, length, slice_index_or}
use Rattle.certificate_rules.specs.Ranges.{IsIn}

-- whether a word is marked
abbrev pub is_marked : List Bool → ℕ → Bool
is_marked marks word = slice_index_or marks word false

-- exactly the words of the first n ranges are marked; range y has this number of words from byte `start y` on, word 0
-- is at byte `base`, and each range begins at a word boundary and consists of words that exist
pub record AreMarked (base : ℕ) (start words : ℕ → ℕ) (n : ℕ) (marks : List Bool) : Type 0 where
  pub aligned : (y : ℕ) → y < n → start y % 4 ≡ 0
  pub inside : (y : ℕ) → y < n → (base ≤ start y) × (start y + 4 * words y ≤ base + 4 * length marks)
  pub taken : (word : ℕ) → is_marked marks word ≡ true → (y : ℕ) × (y < n) × IsIn (start y) (words y) (base + 4 * word)
  pub free : (word : ℕ) → is_marked marks word ≡ false → (y : ℕ) → y < n → IsIn (start y) (words y) (base + 4 * word) → ⊥
