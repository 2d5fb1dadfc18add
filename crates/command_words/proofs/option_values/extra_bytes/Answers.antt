use Rattle.command_words.proofs.Common.{first_value, found_of}
use Rattle.command_words.proofs.Chosen.{no_extra}
use Rattle.command_words.proofs.option_values.extra_bytes.Goals as goal

pub returns-then-bytes-ne0-clause-none : goal.returns-then-bytes-ne0-clause-none
returns-then-bytes-ne0-clause-none c =
    no_extra (λ name. first_value (found_of c.args.matches.now) name) c.in_ok-bytes.field-0 c.in_ok-bytes.ensures.found c.if-bytes-ne0.true
