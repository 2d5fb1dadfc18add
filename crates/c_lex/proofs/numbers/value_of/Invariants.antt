use Rattle.c_lex.proofs.Common.{◌≡◌, take, AllDigits, digits_value}
use Rattle.c_lex.proofs.numbers.value_of.Given as goal

-- the number that the digits so far spell
abbrev pub invariant-loop-byte : goal.invariant-loop-byte
invariant-loop-byte l = record {
  digits : AllDigits l.radix (take l.byte-index l.digits);
  value : l.value ≡ digits_value l.radix (take l.byte-index l.digits);
}
