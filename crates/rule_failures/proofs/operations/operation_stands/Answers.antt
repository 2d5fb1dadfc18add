use Rattle.rule_failures.proofs.Common.{◌<◌, length, refl, arith, false≢true, slice_get_within, program_code, template}
use Rattle.rule_failures.proofs.CodeLemmas.{operation_there, template_size, word_stands, word_not, words_more}
use Rattle.rule_failures.proofs.operations.operation_stands.Goals as goal

pub returns-then-not-stands_at : goal.returns-then-not-stands_at
returns-then-not-stands_at c =
    let t = operation_there (program_code c.args.flat.now) c.args.function c.args.op c.requires.op in
    let size = template_size (program_code c.args.flat.now) c.args.certificate.now c.args.function c.args.op _ c.args.setting.now t.0 c.requires.setting t.1 c.operation_size-word-end.ensures.size in (
      λ told. absurd (false≢true told),
      λ all. word_not (program_code c.args.flat.now) c.args.image.now c.args.certificate.now c.args.function c.args.op c.loop-word.word c.args.setting.now t.0 c.operation_word-there.result c.requires.setting t.1
          c.operation_word-there.ensures c.if-not-stands_at.ensures (omega (arith, size)) all,
    )

pub loop-word-preserved : goal.loop-word-preserved
loop-word-preserved c =
    let t = operation_there (program_code c.args.flat.now) c.args.function c.args.op c.requires.op in
    words_more (program_code c.args.flat.now) c.args.image.now c.args.certificate.now c.args.function c.args.op c.loop-word.word
    (word_stands (program_code c.args.flat.now) c.args.image.now c.args.certificate.now c.args.function c.args.op c.loop-word.word c.args.setting.now t.0 c.operation_word-there.result c.requires.setting t.1
    c.operation_word-there.ensures c.if-not-stands_at.ensures) c.loop-word.invariant

pub returns : goal.returns
returns c =
    let t = operation_there (program_code c.args.flat.now) c.args.function c.args.op c.requires.op in
    let size = template_size (program_code c.args.flat.now) c.args.certificate.now c.args.function c.args.op _ c.args.setting.now t.0 c.requires.setting t.1 c.operation_size-word-end.ensures.size in (
      λ told w instr e.
          let lt : w < length (template (program_code c.args.flat.now) c.args.certificate.now c.args.function c.args.op) =
          slice_get_within (template (program_code c.args.flat.now) c.args.certificate.now c.args.function c.args.op) w instr e in
          c.loop-word.invariant w instr (omega (arith, size)) e,
      λ all. refl,
    )
