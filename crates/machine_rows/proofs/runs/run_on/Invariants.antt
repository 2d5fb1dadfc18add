use Rattle.segment_run.specs.Contexts.{checked_of, code_of, local_of, AreOf, IsReady}
use Rattle.machine_rows.proofs.runs.run_on.Given as goal

abbrev pub invariant-loop : goal.invariant-loop
invariant-loop l = record {
  areas : AreOf l.accepted l.areas;
  ready : IsReady (checked_of l.accepted) (code_of l.accepted) (local_of l.areas l.context);
}
