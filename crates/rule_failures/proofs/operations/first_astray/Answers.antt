use Rattle.rule_failures.proofs.Common.{◌≡◌, ◌+◌, ℕ, length, refl, ap, ◌∙◌, arith, below_more, inl, inr, cases_lt, false≢true, function_at, program_code, words_before, V6}
use Rattle.rule_failures.proofs.CodeLemmas.{operation_not, operation_holds, over_holds}
use Rattle.rule_failures.proofs.operations.first_astray.Goals as goal

pub returns-then-not-operation_stands : goal.returns-then-not-operation_stands
returns-then-not-operation_stands c = (
  λ h. false≢true (operation_not (program_code c.args.flat.now) c.args.image.now c.args.certificate.now c.args.function c.loop-op.op c.requires.function c.if-not-operation_stands.ensures.1 h),
  λ j lt. c.loop-op.invariant j lt,
)

pub loop-op-preserved : goal.loop-op-preserved
loop-op-preserved c =
    let count = ap (λ f. length f.ops) c.function_of.ensures.value in
    below_more (λ (j : ℕ). V6 (program_code c.args.flat.now) c.args.image.now c.args.certificate.now c.args.function j) c.loop-op.op c.loop-op.invariant
    (operation_holds (program_code c.args.flat.now) c.args.image.now c.args.certificate.now c.args.function c.loop-op.op c.fact_of.result.now.words (ap (λ f. f.words) c.fact_of.ensures)
    (omega (arith, count)) (omega (arith, count, c.requires.before.each (c.loop-op.op + 1) (omega (arith, count)))) (c.if-not-operation_stands.ensures.0 refl))

pub returns : goal.returns
returns c =
    let count = ap (λ f. length f.ops) c.function_of.ensures.value in
    let n : c.len-count.result ≡ length (function_at (program_code c.args.flat.now) c.args.function).ops = c.len-count.ensures ∙ count in
    let whole : words_before (program_code c.args.flat.now) c.args.certificate.now c.args.function (length (function_at (program_code c.args.flat.now) c.args.function).ops) ≡ c.fact_of.result.now.words =
    omega (arith, c.requires.before.each c.len-count.result (omega (arith, n)), ap (λ (k : ℕ). words_before (program_code c.args.flat.now) c.args.certificate.now c.args.function k) n) in
    λ i. elim (cases_lt i c.loop-op.op) [
      | inl below ↦ c.loop-op.invariant i below
      | inr past ↦ over_holds (program_code c.args.flat.now) c.args.image.now c.args.certificate.now c.args.function i c.fact_of.result.now.words (ap (λ f. f.words) c.fact_of.ensures) (omega (arith, count)) whole
    ]
