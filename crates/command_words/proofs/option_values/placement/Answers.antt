use Rattle.command_words.proofs.Common.{first_value, found_of}
use Rattle.command_words.proofs.Chosen.{if_none, no_path, no_whole}
use Rattle.command_words.proofs.option_values.placement.Goals as goal

pub returns-then-chunk-ne0-clause-none : goal.returns-then-chunk-ne0-clause-none
returns-then-chunk-ne0-clause-none c =
    no_whole (λ name. first_value (found_of c.args.matches.now) name) c.in_ok-chunk.chunk c.in_ok-chunk.ensures.found c.if-chunk-ne0.true

pub returns-in_err-max_path-clause-none : goal.returns-in_err-max_path-clause-none
returns-in_err-max_path-clause-none c =
    if_none c.from_residual-in_err-max_path.result
    (no_path (λ name. first_value (found_of c.args.matches.now) name) c.in_ok-chunk.chunk c.in_ok-chunk.ensures.found c.in_err-max_path.ensures.none)
