use Rattle.certificate_text.proofs.Common.{◌≡◌, ◌++◌, map, take, AllByRecursion, ended_lines, site_line, HoldsSiteWords}
use Rattle.certificate_text.proofs.writing.put_sites.Given as goal

abbrev pub invariant-loop-fact : goal.invariant-loop-fact
invariant-loop-fact l =
    (l.text.items ≡ l.fn.text.items ++ ended_lines (map site_line (take l.fact-index l.facts))) × AllByRecursion HoldsSiteWords (take l.fact-index l.facts)
