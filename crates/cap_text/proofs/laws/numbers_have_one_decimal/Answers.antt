use Rattle.cap_text.proofs.DecimalLaws.{decimal_unique, integer_unique, decimal_length}
use Rattle.cap_text.proofs.laws.numbers_have_one_decimal.Goals as goal

pub returns-clause-decimal : goal.returns-clause-decimal
returns-clause-decimal c = decimal_unique

pub returns-clause-integer : goal.returns-clause-integer
returns-clause-integer c = integer_unique

pub returns-clause-length : goal.returns-clause-length
returns-clause-length c = decimal_length
