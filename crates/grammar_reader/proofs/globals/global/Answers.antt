use Rattle.std.proofs.Common.{◌∙◌}
use Rattle.grammar_reader.proofs.Paths.{exit}
use Rattle.grammar_reader.proofs.GlobalRules.{global_array, global_size_refused, global_value, global_value_refused, global_alone}
use Rattle.grammar_reader.proofs.globals.global.Goals as goal

pub returns-in_err-words-in-LeftBracket-clause-refused : goal.returns-in_err-words-in-LeftBracket-clause-refused
returns-in_err-words-in-LeftBracket-clause-refused c = exit _ _ c.from_residual.ensures.1 (global_size_refused _ _ _ (cc (c.in-LeftBracket.ensures)) c.in_err-words-in-LeftBracket.ensures.refused)

pub returns-in_err-start-in-Assign-clause-refused : goal.returns-in_err-start-in-Assign-clause-refused
returns-in_err-start-in-Assign-clause-refused c = exit _ _ c.from_residual-in_err-start-in-Assign.ensures.1 (global_value_refused _ _ _ _ (cc (c.in-Assign.ensures)) c.pass.ensures c.in_err-start-in-Assign.ensures.refused)

pub returns-in_ok-words-in-LeftBracket-clause-read : goal.returns-in_ok-words-in-LeftBracket-clause-read
returns-in_ok-words-in-LeftBracket-clause-read c = global_array _ _ _ _ _ _ c.in_ok-words-in-LeftBracket.ensures.read

pub returns-in_ok-start-in-Assign-clause-read : goal.returns-in_ok-start-in-Assign-clause-read
returns-in_ok-start-in-Assign-clause-read c = global_value _ _ _ _ _ _ _ (cc (c.in-Assign.ensures)) c.pass.ensures c.in_ok-start-in-Assign.ensures.read

pub returns-in_default : goal.returns-in_default
returns-in_default c =
    let e = c.sign.ensures in
    record { read = global_alone _ _ _ _ (λ n. c.in_default.not-LeftBracket (e ∙ n)) (λ n. c.in_default.not-Assign (e ∙ n)); refused = tt }
