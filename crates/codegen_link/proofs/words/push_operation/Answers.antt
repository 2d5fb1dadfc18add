use Rattle.codegen_link.proofs.Common.{◌≡◌, length, ap, sym, ◌∙◌, arith, function_at, operation_at, program_code, Setting, size_at, template}
use Rattle.codegen_link.proofs.AddressLemmas.{length-template}
use Rattle.codegen_link.proofs.StepLemmas.{some-word, emitted, whole}
use Rattle.codegen_link.proofs.words.push_operation.Goals.{After-operation_size-size}
use Rattle.codegen_link.proofs.words.push_operation.Goals as goal

-- the operation has as many words as its template
sized : (c : After-operation_size-size) →
    c.operation_size-size.result ≡ length (template (program_code c.args.layout.now.flat.now) c.args.layout.now.certificate.now c.args.function c.args.op)
sized c =
    let code = program_code c.args.layout.now.flat.now in
    let op = operation_at code c.args.function c.args.op in
    c.operation_size-size.ensures.size ∙ ap (λ (s : Setting). size_at (function_at code c.args.function).sizes s.kind op) c.requires.setting
    ∙ sym (length-template code c.args.layout.now.certificate.now c.args.function c.args.op)

pub unwrap-requires : goal.unwrap-requires
unwrap-requires c =
    let L = template (program_code c.args.layout.now.flat.now) c.args.layout.now.certificate.now c.args.function c.args.op in
    let size = sized (goal.at.unwrap-requires c).After-operation_size-size in
    some-word L c.loop-word.word c.operation_word-encoded.result c.requires.fits (omega (arith, size, c.loop-word-test.true))
    (rw c.requires.setting at c.operation_word-encoded.ensures)

pub loop-word-preserved : goal.loop-word-preserved
loop-word-preserved c =
    let L = template (program_code c.args.layout.now.flat.now) c.args.layout.now.certificate.now c.args.function c.args.op in
    let size = sized (goal.at.loop-word-preserved c).After-operation_size-size in
    emitted c.args.code.now.items c.loop-word.code.items c.push.new.self.items L c.loop-word.word c.operation_word-encoded.result c.unwrap.result
    c.requires.fits (omega (arith, size, c.loop-word-test.true)) (rw c.requires.setting at c.operation_word-encoded.ensures) c.unwrap.ensures
    c.loop-word.invariant c.in_ok-push.ensures.items

pub returns : goal.returns
returns c =
    let L = template (program_code c.args.layout.now.flat.now) c.args.layout.now.certificate.now c.args.function c.args.op in
    let size = sized (goal.at.returns c).After-operation_size-size in
    whole c.args.code.now.items c.loop-word.code.items L c.loop-word.word (omega (arith, size, c.loop-word-test.false)) c.loop-word.invariant
