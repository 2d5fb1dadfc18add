use Rattle.grammar_reader.proofs.Paths.{exit}
use Rattle.grammar_reader.proofs.FunctionRules.{function_open_end, function_prototype, function_body_refused, function_read}
use Rattle.grammar_reader.proofs.functions.function.Goals as goal

pub returns-in_err-body-clause-refused : goal.returns-in_err-body-clause-refused
returns-in_err-body-clause-refused c =
    let all = rw c.deref.ensures.value at (c.has_body.ensures.named c.if-has_body.true) in
    exit _ _ c.from_residual-in_err-body.ensures.1 (function_body_refused _ _ _ _ _ _ c.in_ok-params.ensures.read all c.in_err-body.ensures.refused)

pub returns-then-has_body-clause-read : goal.returns-then-has_body-clause-read
returns-then-has_body-clause-read c =
    let all = rw c.deref.ensures.value at (c.has_body.ensures.named c.if-has_body.true) in
    function_read _ _ _ _ _ _ _ _ _ _ c.in_ok-params.ensures.read all c.in_ok-params-2.ensures.names c.in_ok-body.ensures.read

pub returns-in_err-take-clause-refused : goal.returns-in_err-take-clause-refused
returns-in_err-take-clause-refused c =
    let none = rw c.deref.ensures.value at (c.has_body.ensures.none c.if-has_body.false) in
    exit _ _ c.from_residual-in_err-take.ensures.1 (function_open_end _ _ _ _ _ _ c.in_ok-params.ensures.read none c.in_err-take.ensures.place c.in_err-take.ensures.other)

pub returns-clause-read : goal.returns-clause-read
returns-clause-read c = function_prototype _ _ _ _ _ _ _ _ c.in_ok-params.ensures.read c.in_ok-take.ensures.taken
