use Rattle.call_cycles.proofs.ReversedLemmas.{numbered-more}
use Rattle.call_cycles.proofs.reversed.add_site.Goals as goal

pub returns : goal.returns
returns c =
    rw (c.in_ok-push.ensures.items, c.len-number.ensures, c.args.sites.now.ok.0) (numbered-more c.args.nodes c.args.sites.now.items c.args.caller c.args.callee c.requires.caller c.requires.callee c.requires.sites)
