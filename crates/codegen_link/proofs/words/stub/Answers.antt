use Rattle.codegen_link.proofs.Common.{[], arith, end_stub}
use Rattle.codegen_link.proofs.RowLemmas.{stub-fits}
use Rattle.codegen_link.proofs.StepLemmas.{some-word, emitted, whole}
use Rattle.codegen_link.proofs.words.stub.Goals as goal

pub unwrap-requires : goal.unwrap-requires
unwrap-requires c = some-word end_stub c.loop-word.word _ stub-fits (omega arith) c.stub_word.ensures

pub loop-word-preserved : goal.loop-word-preserved
loop-word-preserved c =
    emitted [] c.loop-word.code.items c.push.new.self.items end_stub c.loop-word.word c.stub_word.result c.unwrap.result
    stub-fits (omega arith) c.stub_word.ensures c.unwrap.ensures c.loop-word.invariant c.in_ok-push.ensures.items

pub returns : goal.returns
returns c = whole [] c.loop-word.code.items end_stub c.loop-word.word (omega arith) c.loop-word.invariant
