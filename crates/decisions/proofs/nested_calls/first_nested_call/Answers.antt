use Rattle.decisions.proofs.Common.{items_whole, items_none}
use Rattle.decisions.proofs.NestedInTree.{first_nested}
use Rattle.decisions.proofs.nested_calls.first_nested_call.Goals as goal

pub returns-clause-first : goal.returns-clause-first
returns-clause-first c = first_nested

pub returns-clause-none : goal.returns-clause-none
returns-clause-none c = items_none

pub returns-clause-whole : goal.returns-clause-whole
returns-clause-whole c = items_whole
