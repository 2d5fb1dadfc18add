use Rattle.cap_word.specs.declared.calls.Ask.TheVariants.{Spawn}
use Rattle.schedule_reading.proofs.Common.{◌≡◌, true, None, Ok, refl, sym, ap, ◌∙◌, subst, Segment, Given, most_threads, State, KeepsAll, Answers, MayAnswer, Core, Kept, ThreadsState}
use Rattle.schedule_reading.proofs.Asked.{keeps_failed, spawn_crowds, spawn_goes}
use Rattle.schedule_reading.proofs.reading.Reading.spawn.Goals as goal
use Rattle.schedule_reading.proofs.reading.Reading.spawn.Goals.{else-crowds-via-then-crowds+else-live-eq-MOST_LIVE, else-crowds-via-else-crowds}

pub returns-then-live-eq-MOST_LIVE-clause-answers : goal.returns-then-live-eq-MOST_LIVE-clause-answers
returns-then-live-eq-MOST_LIVE-clause-answers g c = λ given state last may.
    spawn_crowds given state last c.args.crowds c.args.self.now.core c.args.under.now c.args.function c.args.argument may c.args.self.now.core c.args.under.now c.if-crowds.true
    (ap (λ (k : Kept). k.core.threads.live) (sym c.self.view_is) ∙ sym c.live.ensures ∙ c.if-live-eq-MOST_LIVE.true)

pub returns-in_err-started-clause-keeps : goal.returns-in_err-started-clause-keeps
returns-in_err-started-clause-keeps g c =
    keeps_failed c.args.self.now.core _ c.args.under.now (ap (λ (x : Kept). record x.core { threads = c.add.new.self }) c.self.view_is)
    (subst (λ (t : ThreadsState). KeepsAll t c.add.new.self) (ap (λ (x : Kept). x.core.threads) c.self.view_is) c.in_err-started.ensures)

pub returns-clause-answers : goal.returns-clause-answers
returns-clause-answers g c =
    let mid : Core = record { policy = c.self.inside.policy; interpreter = c.self.inside.interpreter; words = c.self.inside.globals.items; threads = c.add.new.self; scheduler = c.enqueue_for.new.self; graph = c.self.inside.graph; monitor = c.self.inside.monitor; free = c.self.inside.free; cost = c.self.inside.cost; left = c.self.inside.left } in
    let k : Core = record mid { threads = c.self.inside.threads; scheduler = c.self.inside.scheduler } in
    let few : c.args.crowds ≡ true → c.self.inside.threads.live ≡ most_threads → ⊥ = λ asked live. elim c.else-crowds.branch [
      | else-crowds-via-then-crowds+else-live-eq-MOST_LIVE w ↦ w.if-live-eq-MOST_LIVE.false (w.live.ensures ∙ live)
      | else-crowds-via-else-crowds w ↦ (cc)
    ] in
    subst (λ (x : Kept). (given : Given) (state : State) (last : Segment) → MayAnswer given state last x.core c.args.under.now (Spawn c.args.function c.args.argument) → Answers given state last c.args.crowds c.resume.new.self.core c.resume.new.under (Ok None)) c.self.view_is
    (λ given state last may. spawn_goes given state last c.args.crowds k c.args.under.now c.args.function c.args.argument may mid c.resume.new.self.core c.resume.new.under c.in_ok-started.started
    c.in_ok-started.ensures c.in_ok-enqueue_for.ensures.ok c.in_ok-enqueue_for.ensures.told few
    (record { mid_is = refl; new_is = ap (λ (x : Kept). x.core) c.resume.ensures.rest; under_is = c.resume.ensures.under; goes_on_is = c.resume.ensures.goes_on; thread = c.resume.ensures.thread }))
