use Rattle.codegen_link.proofs.Common.{◌≡◌, ℕ, sym, ap, ◌∙◌, arith, Op, function_at, program_code, size, size_at, link}
use Rattle.codegen_link.proofs.StepLemmas.{sum-step, grows}
use Rattle.codegen_link.proofs.sizes.function_size.Goals as goal

pub loop-op-preserved : goal.loop-op-preserved
loop-op-preserved c =
    let code = program_code c.args.flat.now in
    let function = function_at code c.args.function in
    let op = c.operation_of.result.now in
    let weight : Op → ℕ = λ o. size function.sizes (link code c.args.plan.now o) o in
    let next : c.from-words-in-loop-op.result ≡ weight op =
    c.from-words-in-loop-op.ensures ∙ (c.operation_size.ensures.size ∙
    (ap (λ o. size_at function.sizes c.shape-kind.result o) (sym c.operation_of.ensures.value) ∙ c.shape-kind.ensures code function.sizes)) in
    record {
      words = grows _ _ _ _ _ _ c.loop-op.invariant.words next (sum-step weight function.ops c.loop-op.op op (sym c.operation_of.ensures.value));
      range = omega (arith, c.operation_size.ensures.few, c.from-words-in-loop-op.ensures, c.loop-op.invariant.range);
    }
