use Rattle.std.proofs.Common.{refl}
use Rattle.analysis_lines.proofs.Written.{functions_more, name_there}
use Rattle.analysis_lines.proofs.text.put_functions.Goals as goal

pub loop-number-preserved : goal.loop-number-preserved
loop-number-preserved c =
    functions_more _ _ _ _ _ _ _ _ _ _ c.loop-number.invariant (name_there _ _ _ _ _ c.loop-number-test.true c.index-functions-number.is c.deref.ensures.value) refl refl c.in_ok-put_function.ensures
