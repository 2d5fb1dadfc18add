use Rattle.schedule_reading.proofs.Common.{◌≡◌, KeepsBut, RunsOn}
use Rattle.schedule_reading.proofs.reading.Reading.happen.Given as goal

abbrev pub invariant-loop-left : goal.invariant-loop-left
invariant-loop-left g l = record {
  runs : RunsOn l.initial.self.core l.initial.under l.initial.left l.crowds l.self.core l.under l.left;
  keeps : KeepsBut l.initial.self.core l.initial.under l.initial.left l.self.core l.under l.left;
  rest : l.self ≡ record l.initial.self { core = l.self.core };
}

abbrev pub decreases-loop-left : goal.decreases-loop-left
decreases-loop-left g l = l.left
