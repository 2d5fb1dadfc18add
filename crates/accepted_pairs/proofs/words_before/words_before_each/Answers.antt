use Rattle.accepted_pairs.proofs.Common.{◌≡◌, ◌+◌, sym, ap, ◌∙◌, arith, function_at, operation_at, program_code, kind_of, size_at, words_before}
use Rattle.stack_certificate.proofs.AddressLemmas.{words_step}
use Rattle.accepted_pairs.proofs.BeforeLemmas.{before_more, range_more, count_more}
use Rattle.accepted_pairs.proofs.words_before.words_before_each.Goals as goal

pub loop-op-preserved : goal.loop-op-preserved
loop-op-preserved c =
    let size : c.operation_size.result ≡ size_at (function_at (program_code c.args.flat.now) c.args.function).sizes (kind_of c.args.certificate.now c.operation_of.result.now) (operation_at (program_code c.args.flat.now) c.args.function c.loop-op.op) =
    c.operation_size.ensures.size ∙ ap (λ kind. size_at (function_at (program_code c.args.flat.now) c.args.function).sizes kind (operation_at (program_code c.args.flat.now) c.args.function c.loop-op.op)) c.kind_of_operation-kind.ensures in
    let words : c.loop-op.words + c.operation_size.result ≡ words_before (program_code c.args.flat.now) c.args.certificate.now c.args.function (c.loop-op.op + 1) =
    ap (λ n. n + c.operation_size.result) c.loop-op.invariant.words ∙
    (ap (λ n. words_before (program_code c.args.flat.now) c.args.certificate.now c.args.function c.loop-op.op + n) size ∙
    words_step (program_code c.args.flat.now) c.args.certificate.now c.args.function c.loop-op.op c.operation_of.result.now (sym c.operation_of.ensures.there)) in
    record {
      count = count_more c.loop-op.before.items c.push-in-loop-op.new.self.items c.loop-op.op (c.loop-op.words + c.operation_size.result) c.loop-op.invariant.count c.in_ok-push-2.ensures.items;
      words = words;
      few = omega (arith, c.operation_size.ensures.few, c.loop-op.invariant.few);
      each = before_more c.loop-op.before.items c.push-in-loop-op.new.self.items c.loop-op.op (c.loop-op.words + c.operation_size.result)
          (words_before (program_code c.args.flat.now) c.args.certificate.now c.args.function) c.loop-op.invariant.count c.in_ok-push-2.ensures.items words c.loop-op.invariant.each;
      range = range_more c.loop-op.before.items c.push-in-loop-op.new.self.items c.loop-op.op (c.loop-op.words + c.operation_size.result) c.loop-op.invariant.count c.in_ok-push-2.ensures.items
          (omega (arith, c.operation_size.ensures.few, c.loop-op.invariant.few)) c.loop-op.invariant.range;
    }
