use Rattle.cap_text.proofs.Common.{◌≡◌, take, AllDigits, digits_value}
use Rattle.cap_text.proofs.numbers.short_number.Given as goal

-- the bytes so far are digits, and this is their value
abbrev pub invariant-loop-byte : goal.invariant-loop-byte
invariant-loop-byte l = (l.number ≡ digits_value 10 (take l.byte-index l.bytes)) × AllDigits 10 (take l.byte-index l.bytes)
