use Rattle.grammar_laws.proofs.RankLaws.{ranks_are_numbers, rising_ranks}
use Rattle.grammar_laws.proofs.places.ranks_are_numbers.Goals as goal

pub returns-clause-numbers : goal.returns-clause-numbers
returns-clause-numbers c = ranks_are_numbers

pub returns-clause-rising : goal.returns-clause-rising
returns-clause-rising c = rising_ranks
