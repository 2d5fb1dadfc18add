use Rattle.command_words.proofs.Common.{first_value, found_of}
use Rattle.command_words.proofs.Chosen.{if_none, no_two}
use Rattle.command_words.proofs.reading.audit.Goals as goal

pub returns-in_err-source-clause-none : goal.returns-in_err-source-clause-none
returns-in_err-source-clause-none c =
    if_none c.from_residual.result (no_two (λ name. first_value (found_of c.args.matches.now) name) c.requires c.in_err-source.ensures.none)
