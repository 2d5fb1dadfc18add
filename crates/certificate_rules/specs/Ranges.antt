-- Ranges of words, in the code and in a frame, and the words in the code.
use Rattle.std.specs.Prelude.{◌≡◌, ℕ, ◌+◌, ◌-◌, ◌*◌, ◌/◌, ◌<◌, ◌≤◌, Option, Some, slice_get}
use Rattle.rv_code.specs.Operands.{IsInRange}
use Rattle.rv_code.specs.Table.{encoding}
use Rattle.rv_code.specs.declared.instructions.Instr.{Instr}
use Rattle.stack_image.specs.Addresses.{code_start}
use Rattle.stack_image.specs.declared.images.Image.{Image}

-- a byte in the range of this number of words from a place on
abbrev pub IsIn : ℕ → ℕ → ℕ → Type 0
IsIn start words byte = (start ≤ byte) × (byte < start + 4 * words)

-- two ranges of words are disjoint: no byte is in both. An empty range is disjoint from every other.
pub record AreApart (start words other_start other_words : ℕ) : Type 0 where
  pub no_byte : (byte : ℕ) → IsIn start words byte → IsIn other_start other_words byte → ⊥

-- the word of the code at an address
abbrev pub word_at : Image → ℕ → Option ℕ
word_at image address = slice_get image.code ((address - code_start) / 4)

-- an instruction is in the code at an address: each number in it fits its field, and the word there is its encoding
pub record Stands (image : Image) (address : ℕ) (instr : Instr) : Type 0 where
  pub fits : IsInRange instr
  pub word : word_at image address ≡ Some (encoding instr)
