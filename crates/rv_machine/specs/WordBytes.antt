-- The four bytes of a word, numbered from 0, least significant byte first: how memory that consists of words is
-- read and written by bytes.
use Rattle.std.specs.Prelude.{◌≡◌, ℕ, ◌+◌, ◌-◌, ◌*◌, ◌/◌, ◌%◌, ◌^◌, ◌<◌, List, Option, Some, slice_index, slice_set}

-- one byte of a word
abbrev pub byte_of : ℕ → ℕ → ℕ
byte_of word k = word / 2 ^ (8 * k) % 2 ^ 8

-- the word with that byte replaced
abbrev pub word_with : ℕ → ℕ → ℕ → ℕ
word_with word k byte = word - byte_of word k * 2 ^ (8 * k) + byte * 2 ^ (8 * k)

-- the byte at a distance from the first byte of a row of words, and the row with that byte replaced
abbrev pub byte_in : List ℕ → ℕ → ℕ
byte_in words offset = byte_of (slice_index words (offset / 4)) (offset % 4)

abbrev pub words_with : List ℕ → ℕ → ℕ → List ℕ
words_with words offset byte = slice_set words (offset / 4) (word_with (slice_index words (offset / 4)) (offset % 4) byte)

-- the four bytes from the address on are those of the word
abbrev pub HoldsWord : (ℕ → Option ℕ) → ℕ → ℕ → Type 0
HoldsWord bytes address word = (k : ℕ) → k < 4 → bytes (address + k) ≡ Some (byte_of word k)
