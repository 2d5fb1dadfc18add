use Rattle.checkpoint_place.proofs.callee_bounds.callee_bound.Goals as goal

pub returns-in-Table-clause-among : goal.returns-in-Table-clause-among
returns-in-Table-clause-among c = λ others was among. c.table_bound.ensures.among others was (rw c.in-Table.is at among)
