use Rattle.grammar_reader.proofs.Common.{◌∷◌, [], IfOk-weaker, IfErr-weaker, Refused, RefusedListed}
use Rattle.c_grammar.specs.Machine as tasks
use Rattle.grammar_reader.proofs.Paths.{exit}
use Rattle.grammar_reader.proofs.SignTests.{not_that_sign}
use Rattle.grammar_reader.proofs.ItemRules.{after_void_no_name, after_void_no_parameters, after_void_function, after_void_function_refused}
use Rattle.grammar_reader.proofs.items.after_void.Goals as goal

pub returns-in_err-name-clause-refused : goal.returns-in_err-name-clause-refused
returns-in_err-name-clause-refused c = exit _ _ c.from_residual.ensures.1 (after_void_no_name _ _ _ c.in_err-name.ensures.refused)

pub returns-then-ne-clause-refused : goal.returns-then-ne-clause-refused
returns-then-ne-clause-refused c = after_void_no_parameters _ _ _ _ _ _ c.in_ok-name.ensures.taken (not_that_sign c.sign.ensures c.if-ne.ensures) c.unexpected.ensures

pub returns-clause-read : goal.returns-clause-read
returns-clause-read c = IfOk-weaker _ _ _ (λ item h. after_void_function _ _ _ _ _ _ _ c.in_ok-name.ensures.taken h) c.function.ensures.read

pub returns-clause-refused : goal.returns-clause-refused
returns-clause-refused c =
    IfErr-weaker c.function.result (λ error. RefusedListed c.args.text.end c.take_name.new.self.tokens.now error) (λ error. Refused c.args.text.end 0 (tasks.AfterVoid ∷ []) c.args.cursor.now.tokens.now error) (λ error h. after_void_function_refused _ _ _ _ _ _ c.in_ok-name.ensures.taken h)
    c.function.ensures.refused
