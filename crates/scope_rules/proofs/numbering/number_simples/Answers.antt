use Rattle.scope_rules.proofs.Common.{sym, ap, ◌∙◌, arith, simple_tree, simple_numbered}
use Rattle.scope_rules.proofs.MappedLists.{changed_more, changed_all}
use Rattle.scope_rules.proofs.numbering.number_simples.Goals as goal

pub loop-i-preserved : goal.loop-i-preserved
loop-i-preserved c =
    changed_more simple_tree (simple_numbered c.args.numbers.now) c.args.simples.now c.loop-i.simples c.loop-i.i c.index-simples-i.result c.number_simple.new.simple
    (omega arith) c.loop-i.auto.simples c.loop-i.invariant c.index-simples-i.is (c.number_simple.ensures ∙ ap (λ x. simple_numbered c.args.numbers.now (simple_tree x)) (sym c.index-simples-i.is))

pub returns : goal.returns
returns c = changed_all simple_tree (simple_numbered c.args.numbers.now) c.loop-i.i c.args.simples.now c.loop-i.simples (omega arith) c.loop-i.invariant
