use Rattle.certificate_text.proofs.Common.{◌≡◌, ◌+◌, ◌++◌, length, map, AllByRecursion, ended_lines, function_line, HasFewPlaces, HoldsFunctionWords}
use Rattle.certificate_text.proofs.reading.read_functions.Given as goal

abbrev pub invariant-loop-number : goal.invariant-loop-number
invariant-loop-number l =
    (l.number ≡ 5 + length l.facts.items) × AllByRecursion HasFewPlaces l.facts.items × AllByRecursion HoldsFunctionWords l.facts.items
    × (l.fn.rest ≡ ended_lines (map function_line l.facts.items) ++ l.rest)
