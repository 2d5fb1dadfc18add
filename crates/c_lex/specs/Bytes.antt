-- The classes of bytes in tokens.
use Rattle.std.specs.Prelude.{ℕ, Bool, ◌==◌, ◌||◌, ◌&&◌, nat_le}
use Rattle.std.specs.Char.{is_ascii_alphabetic, is_ascii_digit}

-- space, tab, LF, vertical tab, form feed and CR: the last five, in order, are 9 to 13
abbrev pub is_white_space : ℕ → Bool
is_white_space b = (b == 32) || (nat_le 9 b && nat_le b 13)

-- an ASCII letter, or `_`
abbrev pub is_letter : ℕ → Bool
is_letter b = is_ascii_alphabetic b || (b == 95)

-- a letter, a digit or `_`
abbrev pub is_word_byte : ℕ → Bool
is_word_byte b = is_letter b || is_ascii_digit b
