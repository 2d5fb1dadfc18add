use Rattle.thread_waits.proofs.Common.{◌≡◌, false, sym, ◌∙◌, arith, list_any, is_at_message}
use Rattle.thread_waits.proofs.SleepLaws.{tree_least}
use Rattle.thread_waits.proofs.waits.Waits.least_time.Goals as goal

pub returns : goal.returns
returns c =
    let quiet : list_any (is_at_message c.args.exchange.now.exchange) c.self.inside.places.items ≡ false = rw (← c.self.view_is) at (sym c.any_at_channel.ensures ∙ c.if-any_at_channel.false) in
    rw (← c.self.view_is)
    (tree_least c.args.exchange.now.exchange c.self.inside.clock c.self.inside.places.items c.self.inside.sleepers c.least-least.result quiet c.self.invariant.in_range c.self.invariant.sleepers c.least-least.ensures (omega arith))
