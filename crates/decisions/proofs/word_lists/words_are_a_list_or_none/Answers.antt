use Rattle.decisions.proofs.Requests.{list_or_none}
use Rattle.decisions.proofs.word_lists.words_are_a_list_or_none.Goals as goal

pub returns : goal.returns
returns c = list_or_none
