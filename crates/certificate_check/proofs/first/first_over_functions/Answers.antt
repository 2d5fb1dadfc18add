use Rattle.certificate_check.proofs.Common.{zero, length, ap, subst, arith, inl, inr, cases_lt, program_code, Holds, IsFirst}
use Rattle.certificate_check.proofs.BelowLemmas.{past_functions, holds_more}
use Rattle.certificate_check.proofs.first.first_over_functions.Goals as goal

pub loop-f-preserved : goal.loop-f-preserved
loop-f-preserved c = holds_more (program_code c.args.flat.now) c.args.image.now c.args.certificate.now c.args.rule c.loop-f.f c.loop-f.invariant (subst (λ r. IsFirst (λ i. Holds (program_code c.args.flat.now) c.args.image.now c.args.certificate.now c.args.rule c.loop-f.f i) r) c.in_default.is c.in_ok-index.ensures)

pub returns : goal.returns
returns c = λ f i. elim (cases_lt f c.loop-f.f) [
  | inl below ↦ c.loop-f.invariant f i below
  | inr past ↦
      (let some = c.args.flat.now.well_formed.main_defined in
      past_functions (program_code c.args.flat.now) c.args.image.now c.args.certificate.now c.args.rule f i c.requires.rule (omega arith) (omega (arith, ap length c.functions.ensures)) (λ j. c.loop-f.invariant zero j (omega (arith, ap length c.functions.ensures))))
]
