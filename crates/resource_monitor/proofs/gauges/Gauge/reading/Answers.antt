use Rattle.std.proofs.Common.{arith}
use Rattle.std.proofs.lemmas.Bool.Decides.{nat_tests}
use Rattle.resource_monitor.specs.Pressure.{IsReading}
use Rattle.resource_monitor.proofs.CurveLemmas.{pressure_curve}
use Rattle.resource_monitor.proofs.gauges.Gauge.reading.Goals as goal

pub returns-else-cap-eq0-clause-most : goal.returns-else-cap-eq0-clause-most
returns-else-cap-eq0-clause-most g c =
    let at : IsReading c.args.used c.args.cap = record { some = grind (arith, nat_tests); most = c.requires.most; within = c.requires.within } in
    let is = c.self.invariant.1.answers c.args.used c.args.cap c.measure.result at c.measure.ensures in
    rw is ((pressure_curve c.self.inside.curve c.self.invariant.0).bounded c.args.used c.args.cap at)
