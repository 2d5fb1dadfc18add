use Rattle.scope_rules.proofs.Links.{drop_one}
use Rattle.std.proofs.Common.{◌∙◌, ◌<◌, length, arith}
use Rattle.scope_rules.proofs.names.Names.leave.Goals as goal

pub loop-self-preserved : goal.loop-self-preserved
loop-self-preserved c =
    let h : c.args.count < length c.loop-self.self = omega arith in
    rw (c.forget.ensures) (drop_one c.loop-self.self c.args.count h ∙ c.loop-self.invariant)
