use Rattle.codegen_link.proofs.Common.{arith, prologue, length-prologue}
use Rattle.codegen_link.proofs.StepLemmas.{some-word, emitted, whole}
use Rattle.codegen_link.proofs.words.push_prologue.Goals as goal

pub unwrap-requires : goal.unwrap-requires
unwrap-requires c =
    let L = prologue c.args.fact.now c.args.params in
    some-word L c.loop-word.word _ c.requires.fits (omega (arith, length-prologue c.args.fact.now c.args.params)) c.prologue_word.ensures

pub loop-word-preserved : goal.loop-word-preserved
loop-word-preserved c =
    let L = prologue c.args.fact.now c.args.params in
    emitted c.args.code.now.items c.loop-word.code.items c.push.new.self.items L c.loop-word.word c.prologue_word.result c.unwrap.result
    c.requires.fits (omega (arith, length-prologue c.args.fact.now c.args.params)) c.prologue_word.ensures c.unwrap.ensures c.loop-word.invariant c.in_ok-push.ensures.items

pub returns : goal.returns
returns c =
    let L = prologue c.args.fact.now c.args.params in
    whole c.args.code.now.items c.loop-word.code.items L c.loop-word.word (omega (arith, length-prologue c.args.fact.now c.args.params)) c.loop-word.invariant
