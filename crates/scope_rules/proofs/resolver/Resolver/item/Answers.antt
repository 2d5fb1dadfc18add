use Rattle.scope_rules.proofs.Common.{raw_item_tree}
use Rattle.scope_rules.proofs.ReadItems.{one_more}
use Rattle.scope_rules.proofs.resolver.Resolver.item.Goals as goal

pub returns : goal.returns
returns c =
    let e = c.in_ok-item.ensures in
    one_more c.args.self.now.items c.item.new.self (raw_item_tree c.args.raw.now) e.sofar e.definitions e.faults e.counted
