use Rattle.pair_commands.proofs.Common.{◌≡◌, ◌++◌, drop, height_lines}
use Rattle.pair_commands.proofs.budget_command.put_heights.Given as goal

abbrev pub invariant-loop-function : goal.invariant-loop-function
invariant-loop-function l = l.text.items ++ height_lines l.function (drop l.function l.heights) ≡ l.fn.text.items ++ height_lines 0 l.heights
