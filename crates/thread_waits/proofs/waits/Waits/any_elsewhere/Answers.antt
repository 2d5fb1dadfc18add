use Rattle.std.proofs.Common.{sym, ◌∙◌}
use Rattle.thread_waits.proofs.KindLaws.{elsewhere_anyway, elsewhere_message, elsewhere_taking}
use Rattle.thread_waits.proofs.waits.Waits.any_elsewhere.Goals as goal

pub returns-then-any_anyway : goal.returns-then-any_anyway
returns-then-any_anyway c =
    sym (elsewhere_anyway c.args.exchange.now.caps c.args.exchange.now.exchange c.args.self.now (sym c.any_anyway.ensures ∙ c.if-any_anyway.true))

pub returns-then-any_at_channel : goal.returns-then-any_at_channel
returns-then-any_at_channel c =
    sym (elsewhere_message c.args.exchange.now.caps c.args.exchange.now.exchange c.args.self.now (sym c.any_at_channel.ensures ∙ c.if-any_at_channel.true))

pub returns : goal.returns
returns c =
    c.any_at_resource.ensures
    ∙ sym (elsewhere_taking c.args.exchange.now.caps c.args.exchange.now.exchange c.args.self.now (sym c.any_anyway.ensures ∙ c.if-any_anyway.false) (sym c.any_at_channel.ensures ∙ c.if-any_at_channel.false))
