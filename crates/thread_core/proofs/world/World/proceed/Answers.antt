use Rattle.thread_core.proofs.Common.{refl, sym, ◌∙◌, step, machine_of, setting_of, held_of, held_in, IsTurn}
use Rattle.thread_core.proofs.BeginLaws.{came, turn_is, leaves_run, come_is, setting_same}
use Rattle.thread_core.proofs.PassLaws.{number_runs}
use Rattle.thread_core.proofs.Shortness.{turn_short}
use Rattle.thread_core.proofs.SourceLaws.{proceeds_source}
use Rattle.thread_core.proofs.world.World.proceed.Goals as goal

pub run-requires : goal.run-requires
run-requires c = record {
  runs = record { kept = c.self.invariant.state; is = c.in-Some-running.is; going = c.in-None.is };
  ready = λ r e. c.self.invariant.ready c.in-Some-running.thread r c.in-Some-running.is c.in-None.is e;
}

made_is : (c : goal.After-run) → IsTurn (held_of c.self.inside) c.in-Some-running.thread.number (machine_of c.self.inside.most c.self.inside.state) c.run.result (held_in c.self.inside.accepted c.self.inside.most c.run.new.self)
made_is c = turn_is c.self.inside.accepted c.self.inside.most c.in-Some-running.thread c.self.inside.accepted.program.well_scoped c.image-image.ensures.valid c.self.inside.state c.run.new.self c.self.invariant.state
    (come_is c.self.inside.accepted c.self.inside.most c.self.inside.state c.self.inside.state.running c.in-Some-running.thread c.in-Some-running.is c.self.invariant.come) (held_of c.self.inside) refl refl c.run.result c.run.ensures

pub invariant_of-self : goal.invariant_of-self
invariant_of-self c =
    let k = came c.self.inside.accepted c.self.inside.most c.in-Some-running.thread c.self.inside.accepted.program.well_scoped c.image-image.ensures.valid c.self.inside.state c.run.new.self c.self.invariant.state
    (come_is c.self.inside.accepted c.self.inside.most c.self.inside.state c.self.inside.state.running c.in-Some-running.thread c.in-Some-running.is c.self.invariant.come) c.run.result c.run.ensures in
    record {
      chunks = c.self.invariant.chunks ∙ sym c.run.ensures.rest.chunks;
      state = c.run.ensures.kept;
      come = k.come;
      ready = λ thread r runs going there. k.ready thread r runs going there;
      stopped = k.stopped;
    }

pub returns-in-Some-running-clause-proceeds : goal.returns-in-Some-running-clause-proceeds
returns-in-Some-running-clause-proceeds c = λ going. rw (← c.self.view_is) (record {
  number = c.in-Some-running.thread.number;
  running = number_runs c.self.inside.state.running c.in-Some-running.thread c.in-Some-running.is;
  made = made_is c;
  begun = c.run.ensures.rest.begun;
})

pub returns-in-Some-running-clause-again : goal.returns-in-Some-running-clause-again
returns-in-Some-running-clause-again c = rw (← c.self.view_is) (rw c.in-None.is tt)

pub returns-in-Some-running-clause-setting : goal.returns-in-Some-running-clause-setting
returns-in-Some-running-clause-setting c = rw (← c.self.view_is) (record {
  accepted = refl;
  setting = setting_same c.self.inside.accepted c.self.inside.most c.self.inside.state c.run.new.self c.run.ensures.rest;
  chunks = c.run.ensures.rest.chunks;
})

pub returns-in-Some-running-clause-places : goal.returns-in-Some-running-clause-places
returns-in-Some-running-clause-places c = rw (← c.self.view_is) c.run.ensures.places

pub returns-in-Some-running-clause-source : goal.returns-in-Some-running-clause-source
returns-in-Some-running-clause-source c = λ going. rw (← c.self.view_is)
    (proceeds_source c.self.inside.accepted c.self.inside.most c.in-Some-running.thread c.self.inside.accepted.program.well_scoped c.image-image.ensures.valid c.self.inside.state c.run.new.self c.self.invariant.state
    (number_runs c.self.inside.state.running c.in-Some-running.thread c.in-Some-running.is) c.run.result c.run.ensures)

pub returns-in-Some-running-clause-chains : goal.returns-in-Some-running-clause-chains
returns-in-Some-running-clause-chains c = λ going. rw (← c.self.view_is)
    (turn_short (held_of c.self.inside) _ c.in-Some-running.thread.number (machine_of c.self.inside.most c.self.inside.state) c.run.result (made_is c))

pub returns-in-Some-running-clause-leaves : goal.returns-in-Some-running-clause-leaves
returns-in-Some-running-clause-leaves c = λ going.
    leaves_run c.self.inside.accepted c.self.inside.most c.in-Some-running.thread c.in-Some-running.thread.number c.run.ensures.at c.run.new.self (step (setting_of c.self.inside.accepted c.self.inside.most c.self.inside.state) c.run.ensures.at) c.run.result c.run.ensures.tells c.run.ensures.goes
