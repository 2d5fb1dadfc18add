use Rattle.cap_word.proofs.CallLemmas.{numbered, number_is, blocking}
use Rattle.cap_word.proofs.modelled_calls.modelled_calls_have_numbers.Goals as goal

pub returns-clause-numbered : goal.returns-clause-numbered
returns-clause-numbered c = numbered

pub returns-clause-only : goal.returns-clause-only
returns-clause-only c = number_is

pub returns-clause-blocking : goal.returns-clause-blocking
returns-clause-blocking c = blocking
