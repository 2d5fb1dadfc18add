use Rattle.c_lex.proofs.Unique.{one_list, one_error, never_both}
use Rattle.c_lex.proofs.laws.reading_is_unique.Goals as goal

pub returns-clause-one_list : goal.returns-clause-one_list
returns-clause-one_list c = one_list

pub returns-clause-one_refusal : goal.returns-clause-one_refusal
returns-clause-one_refusal c = one_error

pub returns-clause-never_both : goal.returns-clause-never_both
returns-clause-never_both c = never_both
