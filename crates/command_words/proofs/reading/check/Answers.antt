use Rattle.command_words.proofs.Common.{refl, codes, first_value, found_of}
use Rattle.command_words.proofs.Chosen.{if_none, no_three}
use Rattle.command_words.proofs.reading.check.Goals as goal

pub returns-in_err-source-clause-none : goal.returns-in_err-source-clause-none
returns-in_err-source-clause-none c =
    if_none c.from_residual.result (no_three (λ name. first_value (found_of c.args.matches.now) name)
    (codes "check") c.requires refl refl refl refl c.in_err-source.ensures.none)
