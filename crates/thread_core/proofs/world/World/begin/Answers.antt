use Rattle.thread_core.proofs.Common.{◌≡◌, [], IsTrue, refl, sym, ◌∙◌, ap, subst, accepted_tree, step, checked_of, IsRunning, IsSettled, machine_of, setting_of, is_ready_in, held_in, Held, IsTurn, held_of}
use Rattle.thread_core.proofs.BeginLaws.{came, turn_is, leaves_run, may_begin, begun_runs, setting_same}
use Rattle.thread_core.proofs.Numbering.{picks_next}
use Rattle.thread_core.proofs.Shortness.{begins_short}
use Rattle.thread_core.proofs.SourceLaws.{tells_source, picks_source}
use Rattle.thread_core.proofs.OutsideLaws.{between_is, come_between}
use Rattle.thread_core.proofs.TellingLaws.{number_at}
use Rattle.thread_core.proofs.world.World.begin.Goals as goal

pub resume-requires-clause-kept : goal.resume-requires-clause-kept
resume-requires-clause-kept c = c.self.invariant.state

pub resume-requires-clause-between : goal.resume-requires-clause-between
resume-requires-clause-between c =
    between_is c.self.inside.state.running (ap (λ h. h.machine.running) c.self.view_is
    ∙ (may_begin c.args.self.now c.args.thread c.args.self.now.stopped (ap (λ h. h.stopped) (sym c.self.view_is) ∙ c.in-None.is) c.requires).1)

pub resume-requires-clause-settled : goal.resume-requires-clause-settled
resume-requires-clause-settled c =
    come_between c.self.inside.accepted c.self.inside.most c.self.inside.state c.self.inside.state.running
    (between_is c.self.inside.state.running (ap (λ h. h.machine.running) c.self.view_is
    ∙ (may_begin c.args.self.now c.args.thread c.args.self.now.stopped (ap (λ h. h.stopped) (sym c.self.view_is) ∙ c.in-None.is) c.requires).1)) c.self.invariant.come

pub resume-requires-clause-ready : goal.resume-requires-clause-ready
resume-requires-clause-ready c =
    subst (λ (h : Held). IsTrue (is_ready_in h c.args.thread)) (sym c.self.view_is)
    (may_begin c.args.self.now c.args.thread c.args.self.now.stopped (ap (λ h. h.stopped) (sym c.self.view_is) ∙ c.in-None.is) c.requires).0

pub run-requires : goal.run-requires
run-requires c = c.resume.ensures.may

mid_setting : (c : goal.After-run) → setting_of c.self.inside.accepted c.self.inside.most c.resume.new.self ≡ setting_of c.self.inside.accepted c.self.inside.most c.self.inside.state
mid_setting c = λ i. record { code = c.self.inside.accepted.image.code; fuel = c.self.inside.most; backlog = c.resume.ensures.backlog i; caps = c.resume.ensures.caps i }

mid_settled : (c : goal.After-run) → IsSettled (checked_of c.self.inside.accepted) (machine_of c.self.inside.most c.self.inside.state)
mid_settled c =
    come_between c.self.inside.accepted c.self.inside.most c.self.inside.state c.self.inside.state.running
    (between_is c.self.inside.state.running (ap (λ h. h.machine.running) c.self.view_is
    ∙ (may_begin c.args.self.now c.args.thread c.args.self.now.stopped (ap (λ h. h.stopped) (sym c.self.view_is) ∙ c.in-None.is) c.requires).1)) c.self.invariant.come

mid_runs : (c : goal.After-run) → IsRunning (checked_of c.self.inside.accepted) (accepted_tree c.self.inside.accepted) (setting_of c.self.inside.accepted c.self.inside.most c.resume.new.self) (machine_of c.self.inside.most c.resume.new.self)
mid_runs c =
    begun_runs c.self.inside.accepted c.self.inside.most c.args.thread c.self.inside.accepted.program.well_scoped c.image-image.ensures.valid c.self.inside.state c.resume.new.self c.self.invariant.state
    (mid_settled c) (mid_setting c) c.resume.ensures.picks

made_is : (c : goal.After-run) → IsTurn (held_of c.self.inside) c.args.thread.number (machine_of c.self.inside.most c.resume.new.self) c.run.result (held_in c.self.inside.accepted c.self.inside.most c.run.new.self)
made_is c = turn_is c.self.inside.accepted c.self.inside.most c.args.thread c.self.inside.accepted.program.well_scoped c.image-image.ensures.valid c.resume.new.self c.run.new.self c.resume.ensures.may.runs.kept (mid_runs c) (held_of c.self.inside) refl (sym (mid_setting c)) c.run.result c.run.ensures

pub invariant_of-self : goal.invariant_of-self
invariant_of-self c =
    let k = came c.self.inside.accepted c.self.inside.most c.args.thread c.self.inside.accepted.program.well_scoped c.image-image.ensures.valid c.resume.new.self c.run.new.self c.resume.ensures.may.runs.kept (mid_runs c) c.run.result c.run.ensures in
    record {
      chunks = c.self.invariant.chunks ∙ sym (ap (λ a. a.pool.count) c.resume.ensures.areas) ∙ sym c.run.ensures.rest.chunks;
      state = c.run.ensures.kept;
      come = k.come;
      ready = λ thread r runs going there. k.ready thread r runs going there;
      stopped = k.stopped;
    }

pub returns-in-None-clause-begins : goal.returns-in-None-clause-begins
returns-in-None-clause-begins c = λ going. rw (← c.self.view_is) (record {
  picked = machine_of c.self.inside.most c.resume.new.self;
  picks = c.resume.ensures.picks;
  made = made_is c;
  begun = c.run.ensures.rest.begun ∙ c.resume.ensures.begun;
})

pub returns-in-None-clause-again : goal.returns-in-None-clause-again
returns-in-None-clause-again c = rw (← c.self.view_is) (rw c.in-None.is tt)

pub returns-in-None-clause-setting : goal.returns-in-None-clause-setting
returns-in-None-clause-setting c = rw (← c.self.view_is) (record {
  accepted = refl;
  setting = setting_same c.self.inside.accepted c.self.inside.most c.resume.new.self c.run.new.self c.run.ensures.rest ∙ mid_setting c;
  chunks = c.run.ensures.rest.chunks ∙ ap (λ a. a.pool.count) c.resume.ensures.areas;
})

pub returns-in-None-clause-places : goal.returns-in-None-clause-places
returns-in-None-clause-places c = rw (← c.self.view_is) (λ thread was alive. c.run.ensures.places thread
    (number_at c.resume.new.self thread.slot ∙ c.resume.ensures.same thread.slot ∙ sym (number_at c.self.inside.state thread.slot) ∙ was) alive)

pub returns-in-None-clause-source : goal.returns-in-None-clause-source
returns-in-None-clause-source c = λ going. rw (← c.self.view_is) (λ start stands.
    tells_source c.self.inside.accepted c.self.inside.most c.args.thread c.self.inside.accepted.program.well_scoped c.image-image.ensures.valid c.resume.new.self c.run.new.self c.resume.ensures.may.runs.kept start [] [] c.run.result c.run.ensures
    (picks_source c.self.inside.accepted c.self.inside.most c.args.thread c.self.inside.accepted.program.well_scoped c.image-image.ensures.valid c.self.inside.state c.resume.new.self c.self.invariant.state (mid_settled c) (mid_setting c) c.resume.ensures.picks start stands)
    (picks_next (setting_of c.self.inside.accepted c.self.inside.most c.self.inside.state) (machine_of c.self.inside.most c.self.inside.state) (machine_of c.self.inside.most c.resume.new.self) c.args.thread.number c.resume.ensures.picks ∙ stands.next))

pub returns-in-None-clause-chains : goal.returns-in-None-clause-chains
returns-in-None-clause-chains c = λ going. rw (← c.self.view_is)
    (begins_short (held_of c.self.inside) _ c.args.thread.number (machine_of c.self.inside.most c.resume.new.self) c.run.result c.resume.ensures.picks (made_is c))

pub returns-in-None-clause-leaves : goal.returns-in-None-clause-leaves
returns-in-None-clause-leaves c = λ going.
    leaves_run c.self.inside.accepted c.self.inside.most c.args.thread c.args.thread.number c.run.ensures.at c.run.new.self (step (setting_of c.self.inside.accepted c.self.inside.most c.resume.new.self) c.run.ensures.at) c.run.result c.run.ensures.tells c.run.ensures.goes
