-- Where the words of an image stand in memory.
use Rattle.std.specs.Prelude.{ℕ}

-- the address of the first word of the code
abbrev pub code_start : ℕ
code_start = 0x1000
