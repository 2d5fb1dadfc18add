use Rattle.decisions.proofs.Common.{for_parts_whole, for_parts_none}
use Rattle.decisions.proofs.NestedFors.{first_nested_for}
use Rattle.decisions.proofs.nested_calls.first_nested_call_in_fors.Goals as goal

pub returns-clause-first : goal.returns-clause-first
returns-clause-first c = first_nested_for

pub returns-clause-none : goal.returns-clause-none
returns-clause-none c = for_parts_none

pub returns-clause-whole : goal.returns-clause-whole
returns-clause-whole c = for_parts_whole
