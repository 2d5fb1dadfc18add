use Rattle.std.proofs.Common.{◌≡◌, min, refl, arith}
use Rattle.ready_tree.proofs.NeedLaws.{join_is}
use Rattle.ready_tree.proofs.needs.Needs.join.Goals as goal

pub returns : goal.returns
returns c =
    let from : c.min.result ≡ min c.args.self.now.from c.args.other.now.from = (let h = c.min.ensures in omega arith) in
    join_is _ c.args.self.now c.args.other.now c.either.ensures c.either-2.ensures refl from c.lesser.ensures
