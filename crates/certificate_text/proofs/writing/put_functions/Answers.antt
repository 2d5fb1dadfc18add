use Rattle.certificate_text.proofs.Written.{one_function_more}
use Rattle.certificate_text.proofs.writing.put_functions.Goals as goal

pub loop-fact-preserved : goal.loop-fact-preserved
loop-fact-preserved c =
    one_function_more _ _ _ _ _ c.fact-item.result c.fact-item.result c.in_ok-put_function.ensures.line c.in_ok-put_function.ensures.words c.loop-fact-test.true c.loop-fact.invariant c.fact-item.is
