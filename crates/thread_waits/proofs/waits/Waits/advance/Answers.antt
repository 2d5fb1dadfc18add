use Rattle.thread_waits.proofs.AdvanceLaws.{advanced_counted}
use Rattle.thread_waits.proofs.waits.Waits.advance.Goals as goal

pub invariant_of-self : goal.invariant_of-self
invariant_of-self c = advanced_counted c.self.inside c.args.to c.self.invariant c.requires.possible
