use Rattle.stride_rule.proofs.Common.{◌≡◌, drop, clients_of, first_pass}
use Rattle.stride_rule.proofs.spreads.pass_of_first.Given as goal

-- no client stands before the places that are left
abbrev pub invariant-loop-place : goal.invariant-loop-place
invariant-loop-place l = first_pass (clients_of (drop l.place-index l.places)) ≡ first_pass (clients_of l.places)
