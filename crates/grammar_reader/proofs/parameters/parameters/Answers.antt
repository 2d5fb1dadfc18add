use Rattle.grammar_reader.proofs.Common.{◌∷◌, [], IfOk-weaker, IfErr-weaker, Refused, RefusedListed}
use Rattle.c_grammar.specs.Machine as tasks
use Rattle.grammar_reader.proofs.Paths.{exit}
use Rattle.grammar_reader.proofs.ParameterRules.{parameters_none, parameters_void_open, parameters_void, parameters_list, parameters_list_refused}
use Rattle.grammar_reader.proofs.parameters.parameters.Goals as goal

pub returns-in-RightParenthesis-clause-read : goal.returns-in-RightParenthesis-clause-read
returns-in-RightParenthesis-clause-read c = rw c.new.ensures.items (parameters_none _ _ _ _ _ c.requires c.pass.ensures (cc (c.in-RightParenthesis.ensures)) c.pass-in-RightParenthesis.ensures)

pub returns-in_err-take-in-Void-clause-refused : goal.returns-in_err-take-in-Void-clause-refused
returns-in_err-take-in-Void-clause-refused c = exit _ _ c.from_residual.ensures.1 (parameters_void_open _ _ _ _ _ c.requires c.pass.ensures (cc (c.in-Void.ensures)) c.pass-in-Void.ensures c.in_err-take-in-Void.ensures.place c.in_err-take-in-Void.ensures.other)

pub returns-in_ok-take-in-Void-clause-read : goal.returns-in_ok-take-in-Void-clause-read
returns-in_ok-take-in-Void-clause-read c = rw c.new-in-Void.ensures.items (parameters_void _ _ _ _ _ _ c.requires c.pass.ensures (cc (c.in-Void.ensures)) c.pass-in-Void.ensures c.in_ok-take-in-Void.ensures.taken)

pub returns-in_default-clause-read : goal.returns-in_default-clause-read
returns-in_default-clause-read c = IfOk-weaker _ _ _ (λ ps h. parameters_list _ _ _ _ _ _ c.requires c.pass.ensures h) c.parameter_list.ensures.read

pub returns-in_default-clause-refused : goal.returns-in_default-clause-refused
returns-in_default-clause-refused c =
    IfErr-weaker c.parameter_list.result (λ error. Refused c.args.text.end 0 (tasks.ParameterList ∷ []) c.pass.new.self.tokens.now error) (λ error. RefusedListed c.args.text.end c.args.cursor.now.tokens.now error) (λ error h. parameters_list_refused _ _ _ _ c.requires c.pass.ensures h)
    c.parameter_list.ensures.refused
