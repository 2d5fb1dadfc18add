use Rattle.workload.proofs.Common.{◌≡◌, chain_text}
use Rattle.workload.proofs.program.put_links.Given as goal

abbrev pub invariant-loop-m : goal.invariant-loop-m
invariant-loop-m l = l.text.items ≡ chain_text l.m
