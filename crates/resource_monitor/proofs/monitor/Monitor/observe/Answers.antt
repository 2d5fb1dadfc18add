use Rattle.resource_monitor.specs.Monitor.{NoneAbove}
use Rattle.resource_monitor.proofs.MonitorLemmas.{IsMonitor-observe, stays_open}
use Rattle.resource_monitor.proofs.monitor.Monitor.observe.Goals as goal

pub invariant_of-self : goal.invariant_of-self
invariant_of-self g c =
    let within : NoneAbove c.args.uses c.self.inside.caps = rw (← c.self.view_is) at c.requires in
    rw (c.is_open_after-self-inside.ensures, c.readings-seen.ensures.value, c.as_slice.ensures.value)
    (IsMonitor-observe _ c.args.uses c.self.invariant c.readings-seen.ensures.eight within)

pub returns-clause-no_higher : goal.returns-clause-no_higher
returns-clause-no_higher g c =
    rw (← c.self.view_is, c.is_open_after-self-inside.ensures, c.readings-seen.ensures.value, c.as_slice.ensures.value)
    (λ no_higher was_open. stays_open _ c.args.uses c.self.invariant c.readings-seen.ensures.eight no_higher was_open)
