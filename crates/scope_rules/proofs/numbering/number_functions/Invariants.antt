use Rattle.scope_rules.proofs.Common.{◌≡◌, map, function_tree, function_numbered}
use Rattle.scope_rules.proofs.MappedLists.{changed_to}
use Rattle.scope_rules.proofs.numbering.number_functions.Given as goal

abbrev pub invariant-loop-i : goal.invariant-loop-i
invariant-loop-i l = map function_tree l.functions ≡ changed_to (function_numbered l.numbers) l.i (map function_tree l.initial.functions)
