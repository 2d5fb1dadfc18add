-- The word of an optional instruction of a template.
use Rattle.std.specs.Prelude.{◌≡◌, ℕ, Option, Some, None}
use Rattle.rv_code.specs.Operands.{IsInRange}
use Rattle.rv_code.specs.Table.{encoding}
use Rattle.rv_code.specs.declared.instructions.Instr.{Instr}

-- there is a word exactly if there is an instruction and each number in it fits its field; the word is its encoding
abbrev pub IsWordOf : Option Instr → Option ℕ → Type 0
IsWordOf None None = Unit {0}
IsWordOf None (Some word) = ⊥
IsWordOf (Some instr) None = ¬ (IsInRange instr)
IsWordOf (Some instr) (Some word) = IsInRange instr × (word ≡ encoding instr)
