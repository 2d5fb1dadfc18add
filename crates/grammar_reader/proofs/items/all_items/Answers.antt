use Rattle.grammar_reader.proofs.Paths.{exit}
use Rattle.grammar_reader.proofs.SignTests.{no_other_sign}
use Rattle.grammar_reader.proofs.ItemRules.{items_start, items_more, items_refused, items_done}
use Rattle.grammar_reader.proofs.items.all_items.Goals as goal

pub loop-text-init : goal.loop-text-init
loop-text-init c = rw c.new-items.ensures.items (items_start _ _ _)

pub loop-text-preserved : goal.loop-text-preserved
loop-text-preserved c = items_more _ _ _ _ _ _ _ c.loop-text.invariant c.in_ok-item.ensures.read

pub returns-in_err-item-clause-refused : goal.returns-in_err-item-clause-refused
returns-in_err-item-clause-refused c = exit _ _ c.from_residual.ensures.1 (items_refused _ _ _ _ _ _ c.loop-text.invariant c.in_err-item.ensures.refused)

pub returns-clause-read : goal.returns-clause-read
returns-clause-read c = items_done _ _ _ _ _ c.loop-text.invariant (no_other_sign c.sign.ensures c.loop-text-test.ensures)
