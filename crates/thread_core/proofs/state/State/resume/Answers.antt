use Rattle.thread_core.proofs.Common.{◌≡◌, ◌-◌, Some, None, refl, sym, ap, ◌∙◌, arith, slice_set, Wait, wait_at, State}
use Rattle.thread_core.proofs.ResumeLaws.{stands, Resumed, may_resume, resumed_fresh, resumed_blocked, no_wait}
use Rattle.thread_core.proofs.state.State.resume.Goals as goal

pub overflow_cast-thread : goal.overflow_cast-thread
overflow_cast-thread c = let h = stands c.args.accepted.now c.args.most c.args.self.now c.args.thread c.requires.kept c.requires.ready in let low = c.requires.kept.aligned.named c.args.thread.slot h.r h.there in omega (arith, low)

pub take_result-requires-clause-there : goal.take_result-requires-clause-there
take_result-requires-clause-there c = let h = stands c.args.accepted.now c.args.most c.args.self.now c.args.thread c.requires.kept c.requires.ready in rw h.there refl

pub take_result-requires-clause-may : goal.take_result-requires-clause-may
take_result-requires-clause-may c = may_resume c.args.accepted.now c.args.most c.args.self.now c.args.thread c.args.accepted.now.program.well_scoped c.image-image.ensures.valid c.requires.kept c.requires.between c.requires.going c.requires.settled (stands c.args.accepted.now c.args.most c.args.self.now c.args.thread c.requires.kept c.requires.ready) c.in-Some-At.block c.in-Some-At.field-0-1 (sym c.at.ensures ∙ c.in-Some-At.is ∙ ap Some c.in-Some-At.field-0-is)

pub set_out-requires-clause-waits : goal.set_out-requires-clause-waits
set_out-requires-clause-waits c = rw (c.take_result.ensures.rest, (sym c.at.ensures ∙ c.in-Some-At.is ∙ ap Some c.in-Some-At.field-0-is)) refl

pub set_out-requires-clause-fuel : goal.set_out-requires-clause-fuel
set_out-requires-clause-fuel c = rw c.take_result.ensures.rest c.requires.kept.fuel

pub set_out-requires-in-Some-Fresh-clause-waits : goal.set_out-requires-in-Some-Fresh-clause-waits
set_out-requires-in-Some-Fresh-clause-waits c = let is : wait_at c.args.self.now.waits c.args.thread.slot ≡ Some Wait.Fresh = sym c.at.ensures ∙ c.in-Some-Fresh.is ∙ ap Some c.in-Some-Fresh.field-0-is in rw is refl

pub set_out-requires-in-Some-Fresh-clause-fuel : goal.set_out-requires-in-Some-Fresh-clause-fuel
set_out-requires-in-Some-Fresh-clause-fuel c = c.requires.kept.fuel

after_at : (c : goal.After-set_out) → Resumed c.args.accepted.now c.args.most c.args.self.now c.args.thread c.set_out.new.self
after_at c =
    let h = stands c.args.accepted.now c.args.most c.args.self.now c.args.thread c.requires.kept c.requires.ready in
    let has = c.take_result.ensures.context h.r h.there in
    resumed_blocked c.args.accepted.now c.args.most c.args.self.now c.args.thread c.args.accepted.now.program.well_scoped c.image-image.ensures.valid c.requires.kept c.requires.between c.requires.going c.requires.settled (stands c.args.accepted.now c.args.most c.args.self.now c.args.thread c.requires.kept c.requires.ready) c.in-Some-At.block c.in-Some-At.field-0-1 (sym c.at.ensures ∙ c.in-Some-At.is ∙ ap Some c.in-Some-At.field-0-is) c.take_result.new.self.records c.take_result.new.self.exchange
    (has.written h.r h.there) has.others c.take_result.ensures.exchange c.set_out.new.self
    (c.set_out.ensures ∙ ap (λ (s : State). record s { waits = record s.waits { places = slice_set s.waits.places c.args.thread.slot None }; running = Some c.args.thread; begun = c.args.most - s.fuel.left }) c.take_result.ensures.rest)

pub returns-in-Some-At-clause-picks : goal.returns-in-Some-At-clause-picks
returns-in-Some-At-clause-picks c = (after_at c).picks

pub returns-in-Some-At-clause-may : goal.returns-in-Some-At-clause-may
returns-in-Some-At-clause-may c = (after_at c).may

pub returns-in-Some-At-clause-begun : goal.returns-in-Some-At-clause-begun
returns-in-Some-At-clause-begun c = (after_at c).begun

pub returns-in-Some-At-clause-fuel : goal.returns-in-Some-At-clause-fuel
returns-in-Some-At-clause-fuel c = (after_at c).fuel

pub returns-in-Some-At-clause-caps : goal.returns-in-Some-At-clause-caps
returns-in-Some-At-clause-caps c = (after_at c).caps

pub returns-in-Some-At-clause-backlog : goal.returns-in-Some-At-clause-backlog
returns-in-Some-At-clause-backlog c = (after_at c).backlog

pub returns-in-Some-At-clause-areas : goal.returns-in-Some-At-clause-areas
returns-in-Some-At-clause-areas c = (after_at c).areas

pub returns-in-Some-At-clause-same : goal.returns-in-Some-At-clause-same
returns-in-Some-At-clause-same c = (after_at c).same

after_fresh : (c : goal.After-set_out-in-Some-Fresh) → Resumed c.args.accepted.now c.args.most c.args.self.now c.args.thread c.set_out-in-Some-Fresh.new.self
after_fresh c = resumed_fresh c.args.accepted.now c.args.most c.args.self.now c.args.thread c.args.accepted.now.program.well_scoped c.image-image.ensures.valid c.requires.kept c.requires.between c.requires.going c.requires.settled (stands c.args.accepted.now c.args.most c.args.self.now c.args.thread c.requires.kept c.requires.ready) (sym c.at.ensures ∙ c.in-Some-Fresh.is ∙ ap Some c.in-Some-Fresh.field-0-is) c.set_out-in-Some-Fresh.new.self c.set_out-in-Some-Fresh.ensures

pub returns-in-Some-Fresh-clause-picks : goal.returns-in-Some-Fresh-clause-picks
returns-in-Some-Fresh-clause-picks c = (after_fresh c).picks

pub returns-in-Some-Fresh-clause-may : goal.returns-in-Some-Fresh-clause-may
returns-in-Some-Fresh-clause-may c = (after_fresh c).may

pub returns-in-Some-Fresh-clause-begun : goal.returns-in-Some-Fresh-clause-begun
returns-in-Some-Fresh-clause-begun c = (after_fresh c).begun

pub returns-in-Some-Fresh-clause-fuel : goal.returns-in-Some-Fresh-clause-fuel
returns-in-Some-Fresh-clause-fuel c = (after_fresh c).fuel

pub returns-in-Some-Fresh-clause-caps : goal.returns-in-Some-Fresh-clause-caps
returns-in-Some-Fresh-clause-caps c = (after_fresh c).caps

pub returns-in-Some-Fresh-clause-backlog : goal.returns-in-Some-Fresh-clause-backlog
returns-in-Some-Fresh-clause-backlog c = (after_fresh c).backlog

pub returns-in-Some-Fresh-clause-areas : goal.returns-in-Some-Fresh-clause-areas
returns-in-Some-Fresh-clause-areas c = (after_fresh c).areas

pub returns-in-Some-Fresh-clause-same : goal.returns-in-Some-Fresh-clause-same
returns-in-Some-Fresh-clause-same c = (after_fresh c).same

pub unreachable-requires : goal.unreachable-requires
unreachable-requires c = no_wait c.args.self.now c.args.thread (stands c.args.accepted.now c.args.most c.args.self.now c.args.thread c.requires.kept c.requires.ready) (sym c.at.ensures ∙ c.in-None.is)

pub unreachable-unreachable : goal.unreachable-unreachable
unreachable-unreachable c = no_wait c.args.self.now c.args.thread (stands c.args.accepted.now c.args.most c.args.self.now c.args.thread c.requires.kept c.requires.ready) (sym c.at.ensures ∙ c.in-None.is)
