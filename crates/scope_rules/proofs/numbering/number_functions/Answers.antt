use Rattle.scope_rules.proofs.Common.{sym, ap, ◌∙◌, arith, function_tree, function_numbered}
use Rattle.scope_rules.proofs.MappedLists.{changed_more, changed_all}
use Rattle.scope_rules.proofs.numbering.number_functions.Goals as goal

pub loop-i-preserved : goal.loop-i-preserved
loop-i-preserved c =
    changed_more function_tree (function_numbered c.args.numbers.now) c.args.functions.now c.loop-i.functions c.loop-i.i c.index-functions-i.result c.number_function.new.function
    (omega arith) c.loop-i.auto.functions c.loop-i.invariant c.index-functions-i.is (c.number_function.ensures ∙ ap (λ x. function_numbered c.args.numbers.now (function_tree x)) (sym c.index-functions-i.is))

pub returns : goal.returns
returns c = changed_all function_tree (function_numbered c.args.numbers.now) c.loop-i.i c.args.functions.now c.loop-i.functions (omega arith) c.loop-i.invariant
