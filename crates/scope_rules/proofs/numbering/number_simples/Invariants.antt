use Rattle.scope_rules.proofs.Common.{◌≡◌, map, simple_tree, simple_numbered}
use Rattle.scope_rules.proofs.MappedLists.{changed_to}
use Rattle.scope_rules.proofs.numbering.number_simples.Given as goal

abbrev pub invariant-loop-i : goal.invariant-loop-i
invariant-loop-i l = map simple_tree l.simples ≡ changed_to (simple_numbered l.numbers) l.i (map simple_tree l.initial.simples)
