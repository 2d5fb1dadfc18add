use Rattle.std.proofs.Common.{sym, subst}
use Rattle.c_tree.specs.WellScoped.{AreSiteNumbers}
use Rattle.grammar_laws.proofs.RankLaws.{ranks_are_numbers}
use Rattle.call_numbers.proofs.numbers.numbers_by_places.Goals as goal

pub returns-clause-distinct : goal.returns-clause-distinct
returns-clause-distinct c = subst AreSiteNumbers (sym c.in_ok-numbers.ensures) (ranks_are_numbers _)
