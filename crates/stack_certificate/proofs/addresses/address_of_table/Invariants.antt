use Rattle.stack_certificate.proofs.Common.{◌≡◌, take, length, sum_by}
use Rattle.stack_certificate.proofs.addresses.address_of_table.Given as goal

abbrev pub invariant-loop-i : goal.invariant-loop-i
invariant-loop-i l = l.words ≡ sum_by length (take l.i l.flat.tables.items)
