use Rattle.certificate_text.proofs.FactFields.{no_head}
use Rattle.certificate_text.proofs.fact_lines.read_function_numbers.Goals as goal

pub returns-in_default-clause-none : goal.returns-in_default-clause-none
returns-in_default-clause-none c = no_head _ c.in_default.ensures.none
