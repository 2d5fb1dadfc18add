use Rattle.std.proofs.Common.{◌≡◌, ◌++◌, map}
use Rattle.c_tree.specs.declared.facts.Function.{Function}
use Rattle.analysis_lines.specs.Lines.{functions_text}
use Rattle.analysis_lines.proofs.text.put_functions.Given as goal

abbrev pub invariant-loop-number : goal.invariant-loop-number
invariant-loop-number l = l.text.items ≡ l.fn.text.items ++ functions_text (map (λ (f : Function). f.name.items) l.functions) l.weights l.bounds l.number
