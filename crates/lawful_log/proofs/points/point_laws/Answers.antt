use Rattle.lawful_log.proofs.Between.{come_state, drops, coming, between_came, between_moved, run_state, run_segment, run_allowed, within_run}
use Rattle.lawful_log.proofs.points.point_laws.Goals as goal

pub returns-clause-comes : goal.returns-clause-comes
returns-clause-comes c = λ g state event machine is words. record {
  drops = drops g state event machine is words;
  new = come_state g state event machine is words;
  allowed = coming g state event machine is words;
  between = between_came g state event machine is words;
}

pub returns-clause-moves : goal.returns-clause-moves
returns-clause-moves c = between_moved

pub returns-clause-runs : goal.returns-clause-runs
returns-clause-runs c = λ g state next machine chosen picked is picks ready lawful. record {
  new = run_state g state next machine is chosen picked picks;
  segment = run_segment g state next machine is chosen picked picks;
  allowed = λ live next_is due. run_allowed g state next machine is chosen picked picks live next_is due ready lawful;
  within = within_run g state next machine is chosen picked picks;
}
