use Rattle.run_course.proofs.Common.{◌≡◌, ◌<◌, ◌∙◌, sym, ap, subst, arith, IfErr, err_from_is_err_and, Kept, long_rank, under_rank, turn_rank, StandsWithin, PartEnds, Failure, RuleState}
use Rattle.run_course.proofs.Parts.{onward_within, no_part, silent}
use Rattle.run_course.proofs.Putting.{may_proceed, spawned_inside, spawned_may_start}
use Rattle.run_course.proofs.course.Course.spawn.Goals as goal

pub returns-in_err-start-clause-ends : goal.returns-in_err-start-clause-ends
returns-in_err-start-clause-ends g c = λ s state left now stands.
    let p = err_from_is_err_and c.from_residual.result c.from_residual.ensures.1 in
    let after : Kept = record { rule = c.start.new.self; graph = c.self.inside.graph; monitor = c.self.inside.monitor; reader = c.self.inside.reader; next = c.self.inside.next; under = c.self.inside.under } in
    subst (λ r. PartEnds s state left after c.args.world.now left now now r) (sym p.1) (no_part s state left c.args.world.now now stands.of (onward_within s state c.args.self.now c.args.world.now left c.args.under stands))

pub returns-in_err-start-clause-only_memory : goal.returns-in_err-start-clause-only_memory
returns-in_err-start-clause-only_memory g c =
    let p = err_from_is_err_and c.from_residual.result c.from_residual.ensures.1 in
    subst (λ r. IfErr r (λ failure. failure ≡ Failure.Memory)) (sym p.1) p.2

pub start-requires : goal.start-requires
start-requires g c =
    let with_rule : RuleState → Kept = λ rule. record { rule = rule; graph = c.self.inside.graph; monitor = c.self.inside.monitor; reader = c.self.inside.reader; next = c.self.inside.next; under = c.self.inside.under } in
    let is = subst (λ (k : Kept). StandsWithin c.requires.0 c.requires.1 k c.args.world.now c.requires.2 c.args.under) (sym c.self.view_is) c.requires.3 in
    spawned_may_start c.requires.0 c.requires.1 (with_rule c.self.inside.rule) c.args.world.now c.requires.2 c.args.under is c.args.thread c.requires.4

pub proceed-requires : goal.proceed-requires
proceed-requires g c =
    let with_rule : RuleState → Kept = λ rule. record { rule = rule; graph = c.self.inside.graph; monitor = c.self.inside.monitor; reader = c.self.inside.reader; next = c.self.inside.next; under = c.self.inside.under } in
    let is = subst (λ (k : Kept). StandsWithin c.requires.0 c.requires.1 k c.args.world.now c.requires.2 c.args.under) (sym c.self.view_is) c.requires.3 in
    may_proceed c.requires.0 c.requires.1 (with_rule c.start.new.self) c.args.world.now c.requires.2 c.args.under.choice c.args.under.before
    (spawned_inside c.requires.0 c.requires.1 (with_rule c.self.inside.rule) c.args.world.now c.requires.2 c.args.under is c.args.thread c.requires.4 c.start.new.self c.in_ok-start.ensures.ok)

pub returns-clause-ends : goal.returns-clause-ends
returns-clause-ends g c = λ s state left now stands.
    let with_rule : RuleState → Kept = λ rule. record { rule = rule; graph = c.self.inside.graph; monitor = c.self.inside.monitor; reader = c.self.inside.reader; next = c.self.inside.next; under = c.self.inside.under } in
    let is = subst (λ (k : Kept). StandsWithin s state k c.args.world.now left c.args.under) (sym c.self.view_is) stands in
    let inside = spawned_inside s state (with_rule c.self.inside.rule) c.args.world.now left c.args.under is c.args.thread c.requires.4 c.start.new.self c.in_ok-start.ensures.ok in
    silent s state left c.proceed.new.self c.proceed.new.world left now (c.proceed.ensures.goes_on s state left inside)

pub returns-clause-falls : goal.returns-clause-falls
returns-clause-falls g c = λ under_is.
    let with_rule : RuleState → Kept = λ rule. record { rule = rule; graph = c.self.inside.graph; monitor = c.self.inside.monitor; reader = c.self.inside.reader; next = c.self.inside.next; under = c.self.inside.under } in
    let is = subst (λ (k : Kept). StandsWithin c.requires.0 c.requires.1 k c.args.world.now c.requires.2 c.args.under) (sym c.self.view_is) c.requires.3 in
    let inside = spawned_inside c.requires.0 c.requires.1 (with_rule c.self.inside.rule) c.args.world.now c.requires.2 c.args.under is c.args.thread c.requires.4 c.start.new.self c.in_ok-start.ensures.ok in
    let same : c.self.inside.under ≡ c.args.self.now.under = ap (λ (k : Kept). k.under) c.self.view_is in
    let two : under_rank c.self.inside.under ≡ 2 = ap under_rank (same ∙ under_is) ∙ ap turn_rank c.requires.4 in
    let fell = c.proceed.ensures.falls c.requires.0 c.requires.1 c.requires.2 inside (omega (arith, two)) in
    subst (λ (k : Kept). long_rank c.proceed.new.self c.proceed.new.world < long_rank k c.args.world.now) c.self.view_is fell
