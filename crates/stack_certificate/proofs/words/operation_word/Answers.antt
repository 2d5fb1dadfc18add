use Rattle.stack_certificate.proofs.words.operation_word.Goals as goal

pub row_word-requires-clause-places : goal.row_word-requires-clause-places
row_word-requires-clause-places c = rw c.placed_fact_of-fact.ensures.places c.operation_of-operation.ensures.places

pub row_word-requires-clause-sizes : goal.row_word-requires-clause-sizes
row_word-requires-clause-sizes c = rw (c.as_slice.ensures, c.function_of-body.ensures.value, c.placed_fact_of-fact.ensures.places)
