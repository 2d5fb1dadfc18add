use Rattle.std.proofs.Common.{◌≡◌, ◌++◌, map, take}
use Rattle.cap_text.specs.TextLines.{ended_lines}
use Rattle.c_tree.specs.declared.facts.Function.{Function}
use Rattle.analysis_lines.specs.Lines.{site_line}
use Rattle.analysis_lines.proofs.text.put_sites.Given as goal

abbrev pub invariant-loop-site : goal.invariant-loop-site
invariant-loop-site l =
    l.text.items ≡ l.fn.text.items ++ ended_lines (map (site_line (map (λ (f : Function). f.name.items) l.functions) l.back l.checkpointed) (take l.site-index l.sites))
