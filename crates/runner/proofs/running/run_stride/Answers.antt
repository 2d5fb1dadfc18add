use Rattle.runner.proofs.Common.{[], sym, ap, subst, Setup, IsAtStartBy, HasNothing, rule_of}
use Rattle.rule_state.specs.Strides.{StridesState}
use Rattle.rule_state.specs.declared.rules.RuleState.TheVariants.{Stride}
use Rattle.stride_rule.specs.State.{StrideState}
use Rattle.runner.proofs.running.run_stride.Goals as goal

pub new-strides-requires : goal.new-strides-requires
new-strides-requires g c = ap (λ (r : StrideState). r.clients) c.requires.fresh

pub run_by-requires-clause-start : goal.run_by-requires-clause-start
run_by-requires-clause-start g c =
    subst (λ (s : StridesState). (x : Setup) × IsAtStartBy (rule_of (Stride s)) x c.args.world.now c.args.monitor) (sym c.new-strides.ensures) c.requires.start

pub run_by-requires-clause-fresh : goal.run_by-requires-clause-fresh
run_by-requires-clause-fresh g c =
    subst (λ (s : StridesState). HasNothing (Stride s)) (sym c.new-strides.ensures)
    (ap (λ (r : StrideState). let s : StridesState = record { rule = r; nodes = [] } in s) c.requires.fresh)

pub returns-clause-answer : goal.returns-clause-answer
returns-clause-answer g c = λ x at.
    c.run_by.ensures.answer x (subst (λ (s : StridesState). IsAtStartBy (rule_of (Stride s)) x c.args.world.now c.args.monitor) (sym c.new-strides.ensures) at)
