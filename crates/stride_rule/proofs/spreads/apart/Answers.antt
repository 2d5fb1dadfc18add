use Rattle.std.proofs.Common.{◌∙◌}
use Rattle.stride_rule.proofs.SpreadLemmas.{apart_among}
use Rattle.stride_rule.proofs.spreads.apart.Goals as goal

pub returns-in-Some : goal.returns-in-Some
returns-in-Some c = c.apart_from.ensures ∙ apart_among c.in-Some.pass c.args.places.now c.in-Some.ensures
