use Rattle.certificate_text.proofs.Common.{◌≡◌, ◌+◌, ◌++◌, length, map, None, AllByRecursion, ended_lines, site_line, HoldsSiteWords, Rises}
use Rattle.certificate_text.proofs.Passing.{last_number}
use Rattle.certificate_text.proofs.reading.read_sites.Given as goal

abbrev pub invariant-loop-number : goal.invariant-loop-number
invariant-loop-number l =
    (l.number ≡ l.fn.first + length l.facts.items) × Rises None l.facts.items × AllByRecursion HoldsSiteWords l.facts.items
    × (l.fn.rest ≡ ended_lines (map site_line l.facts.items) ++ l.rest) × (l.last ≡ last_number None l.facts.items)
