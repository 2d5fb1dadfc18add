use Rattle.std.proofs.Common.{sym}
use Rattle.accepted_pairs.proofs.RisingLemmas.{kind_at, kind_absent}
use Rattle.accepted_pairs.proofs.lookups.kind_of_site.Goals as goal

pub returns-in-Some : goal.returns-in-Some
returns-in-Some c = kind_at c.args.facts.now c.args.site c.in-Some.k _ c.requires c.in-Some.ensures.found.0 c.in-Some.ensures.found.1

pub returns-in-None : goal.returns-in-None
returns-in-None c = sym (kind_absent c.args.facts.now c.args.site c.in-None.ensures.absent)
