use Rattle.certificate_text.proofs.Common.{◌≡◌, ◌++◌, map, take, canonical_decimal, after_each}
use Rattle.certificate_text.proofs.writing.put_fields.Given as goal

abbrev pub invariant-loop-number : goal.invariant-loop-number
invariant-loop-number l = l.text.items ≡ l.fn.text.items ++ after_each 32 (map canonical_decimal (take l.number-index l.numbers))
