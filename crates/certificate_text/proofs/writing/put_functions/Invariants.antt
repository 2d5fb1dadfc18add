use Rattle.certificate_text.proofs.Common.{◌≡◌, ◌++◌, map, take, AllByRecursion, ended_lines, function_line, HoldsFunctionWords}
use Rattle.certificate_text.proofs.writing.put_functions.Given as goal

abbrev pub invariant-loop-fact : goal.invariant-loop-fact
invariant-loop-fact l =
    (l.text.items ≡ l.fn.text.items ++ ended_lines (map function_line (take l.fact-index l.facts))) × AllByRecursion HoldsFunctionWords (take l.fact-index l.facts)
