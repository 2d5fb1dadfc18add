use Rattle.std.proofs.Common.{◌-◌, ◌<◌, suc, arith, length, add-one}
use Rattle.thread_waits.proofs.GrowLaws.{filled}
use Rattle.thread_waits.proofs.min_tree.MinTree.grow.Goals as goal

pub loop-place-preserved : goal.loop-place-preserved
loop-place-preserved c =
    let h : c.loop-place.place < length c.args.self.now = omega arith in
    rw (c.set.ensures, c.get.ensures, c.loop-place.invariant, add-one)
    (filled c.args.self.now c.loop-place.place (c.args.count - c.loop-place.place) (c.args.count - suc c.loop-place.place) 18446744073709551615 h (omega arith))
