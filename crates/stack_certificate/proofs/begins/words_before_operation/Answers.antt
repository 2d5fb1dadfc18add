use Rattle.stack_certificate.proofs.Common.{◌≡◌, ◌+◌, arith, ap, ◌∙◌, function_at, operation_at, program_code, kind_of, size_at, words_before}
use Rattle.stack_certificate.proofs.AddressLemmas.{words_step}
use Rattle.stack_certificate.proofs.begins.words_before_operation.Goals as goal

pub loop-i-preserved : goal.loop-i-preserved
loop-i-preserved c =
    let next : c.from-words-in-loop-i.result ≡ size_at (function_at (program_code c.args.flat.now) c.args.function).sizes (kind_of c.args.certificate.now c.operation_of.result.now) (operation_at (program_code c.args.flat.now) c.args.function c.loop-i.i) =
    c.from-words-in-loop-i.ensures ∙ (c.operation_size.ensures.size ∙ ap (λ kind. size_at (function_at (program_code c.args.flat.now) c.args.function).sizes kind (operation_at (program_code c.args.flat.now) c.args.function c.loop-i.i)) c.kind_of_operation-kind.ensures) in
    record {
      words =
          ap (λ n. n + c.from-words-in-loop-i.result) c.loop-i.invariant.words ∙
          (ap (λ n. words_before (program_code c.args.flat.now) c.args.certificate.now c.args.function c.loop-i.i + n) next ∙
          words_step (program_code c.args.flat.now) c.args.certificate.now c.args.function c.loop-i.i c.operation_of.result.now c.operation_of.ensures.value);
      range = omega (arith, c.operation_size.ensures.few, c.from-words-in-loop-i.ensures);
    }
