use Rattle.std.proofs.Common.{◌≡◌, ◌∷◌, ◌+◌, drop}
use Rattle.c_tree.proofs.Cuts.{drop_at}
use Rattle.scope_rules.proofs.items.definitions.Goals as goal

pub loop-item-preserved : goal.loop-item-preserved
loop-item-preserved c =
    let item = c.item-item.result in
    let raw = c.args.raw.now in
    let i = c.loop-item.item-index in
    let cut : drop i raw ≡ item ∷ drop (i + 1) raw = drop_at raw i item c.loop-item-test.true c.item-item.is in
    rw c.in_ok-define.ensures (rw cut at c.loop-item.invariant)
