-- Words stay words: a machine whose registers, pc and bytes are in their ranges, and the machine after a
-- step.
use Rattle.std.specs.Prelude.{◌≡◌, ℕ, ◌^◌, ◌<◌, length, All, IfSome}
use Rattle.rv_machine.specs.Bytes.{Nothing, Byte, Half, Word}
use Rattle.rv_machine.specs.Rows.{Machine, Outcome, Goes, Asks, Fails}

-- 32 registers, which are words, as is pc, and bytes below 256
pub record IsWords (m : Machine) : Type 0 where
  pub pc : m.pc < 2 ^ 32
  pub count : length m.x ≡ 32
  pub registers : All (λ value. value < 2 ^ 32) m.x
  pub bytes : (at : ℕ) → IfSome (m.bytes at) (λ byte. byte < 2 ^ 8)

-- an address is a word, a stored byte, half or word is in its range, and a call's number is a word
abbrev pub TellsWords : Outcome → Type 0
TellsWords (Goes pc x Nothing) = Unit {0}
TellsWords (Goes pc x (Byte at value)) = (at < 2 ^ 32) × (value < 2 ^ 8)
TellsWords (Goes pc x (Half at value)) = (at < 2 ^ 32) × (value < 2 ^ 16)
TellsWords (Goes pc x (Word at value)) = (at < 2 ^ 32) × (value < 2 ^ 32)
TellsWords (Asks number) = number < 2 ^ 32
TellsWords (Fails kind) = Unit {0}
