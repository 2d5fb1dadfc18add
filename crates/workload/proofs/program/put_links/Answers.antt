use Rattle.workload.proofs.Common.{◌+◌, ◌++◌, ap, ◌∙◌, link_line}
use Rattle.workload.proofs.Written.{chain_more}
use Rattle.workload.proofs.program.put_links.Goals as goal

pub loop-m-preserved : goal.loop-m-preserved
loop-m-preserved c = c.in_ok-put_link.ensures ∙ ap (λ text. text ++ link_line (c.loop-m.m + 1) c.loop-m.m) c.loop-m.invariant ∙ chain_more c.loop-m.m
