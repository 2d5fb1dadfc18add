use Rattle.stack_certificate.proofs.Common.{◌≡◌, take, sum_by}
use Rattle.stack_certificate.proofs.addresses.address_of_global.Given as goal

abbrev pub invariant-loop-i : goal.invariant-loop-i
invariant-loop-i l = l.words ≡ sum_by (λ x. x.words) (take l.i l.flat.globals.items)
