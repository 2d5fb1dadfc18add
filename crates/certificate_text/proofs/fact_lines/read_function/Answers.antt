use Rattle.std.proofs.Common.{sym, ◌∙◌}
use Rattle.certificate_text.proofs.FactFields.{function_found, no_function}
use Rattle.certificate_text.proofs.fact_lines.read_function.Goals as goal

pub returns-clause-found : goal.returns-clause-found
returns-clause-found c =
    function_found _ _ _ c.read_function_numbers.result (sym c.new-fields.ensures ∙ c.in-Some.ensures) c.if-not-is_same.ensures c.read_function_numbers.ensures.found

pub returns-clause-none : goal.returns-clause-none
returns-clause-none c = no_function _ _ _ c.read_function_numbers.result (sym c.new-fields.ensures ∙ c.in-Some.ensures) c.read_function_numbers.ensures.none
