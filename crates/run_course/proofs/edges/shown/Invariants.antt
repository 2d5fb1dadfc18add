use Rattle.run_course.proofs.Edged.{IsShown}
use Rattle.run_course.proofs.edges.shown.Given as goal

abbrev pub invariant-loop-resource : goal.invariant-loop-resource
invariant-loop-resource l = IsShown l.world.setting.caps l.change l.places l.used l.resource
