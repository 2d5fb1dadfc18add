use Rattle.run_course.proofs.Common.{sym, subst, Kept, StandsInside, under_rank}
use Rattle.run_course.proofs.Acting.{turn_acts}
use Rattle.run_course.proofs.Parts.{ticks_within}
use Rattle.run_course.proofs.Proceeding.{proceeded, proceeded_falls}
use Rattle.run_course.proofs.course.Course.proceed.Goals as goal

pub returns-clause-goes_on : goal.returns-clause-goes_on
returns-clause-goes_on g c = λ s state left inside.
    let is = subst (λ (k : Kept). StandsInside s state k c.args.world.now left c.args.under.choice c.args.under.before) (sym c.self.view_is) inside in
    proceeded s state _ c.args.world.now c.proceed-turn.new.self left c.args.under.choice c.args.under.before c.proceed-turn.result is c.proceed-turn.ensures.setting c.proceed-turn.ensures.places (c.proceed-turn.ensures.proceeds inside.going)

pub returns-clause-ticks : goal.returns-clause-ticks
returns-clause-ticks g c = λ s state left inside.
    let is = subst (λ (k : Kept). StandsInside s state k c.args.world.now left c.args.under.choice c.args.under.before) (sym c.self.view_is) inside in
    let within = proceeded s state _ c.args.world.now c.proceed-turn.new.self left c.args.under.choice c.args.under.before c.proceed-turn.result is c.proceed-turn.ensures.setting c.proceed-turn.ensures.places (c.proceed-turn.ensures.proceeds inside.going) in
    ticks_within s state _ c.proceed-turn.new.self left _ within

pub returns-clause-acts : goal.returns-clause-acts
returns-clause-acts g c = λ going.
    let did = c.proceed-turn.ensures.proceeds going in
    turn_acts c.args.world.now did.number c.args.world.now.machine c.proceed-turn.result c.proceed-turn.new.self did.made

pub returns-clause-falls : goal.returns-clause-falls
returns-clause-falls g c = λ s state left inside some.
    proceeded_falls s state c.args.self.now c.args.world.now c.proceed-turn.new.self left c.args.under.choice c.args.under.before c.proceed-turn.result (under_rank c.args.self.now.under) inside c.proceed-turn.ensures.setting c.proceed-turn.ensures.places
    (c.proceed-turn.ensures.proceeds inside.going) some
