use Rattle.source_runs.proofs.Common.{map, take, function_tree, AreLayouts}
use Rattle.source_runs.proofs.layout.layouts_of.Given as goal

abbrev pub invariant-loop-function : goal.invariant-loop-function
invariant-loop-function l = AreLayouts (map function_tree (take l.function-index l.functions)) l.layouts.items
