use Rattle.command_words.proofs.OneRequest.{one_request}
use Rattle.command_words.proofs.laws.words_ask_for_one_command.Goals as goal

pub returns : goal.returns
returns c words a b is also = one_request words a b is also
