use Rattle.decisions.proofs.Lexing.{lex_decided}
use Rattle.decisions.proofs.token_trees.source_is_tokens_or_refused.Goals as goal

pub returns : goal.returns
returns c = lex_decided
