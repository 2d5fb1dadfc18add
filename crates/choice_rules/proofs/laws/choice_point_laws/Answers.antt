use Rattle.choice_rules.proofs.Points.{one_clock, one_choice, not_both, not_done, not_bad, not_idle}
use Rattle.choice_rules.proofs.laws.choice_point_laws.Goals as goal

pub returns-clause-point : goal.returns-clause-point
returns-clause-point c = one_clock

pub returns-clause-choice : goal.returns-clause-choice
returns-clause-choice c = one_choice

pub returns-clause-delivery : goal.returns-clause-delivery
returns-clause-delivery c = not_both

pub returns-clause-done : goal.returns-clause-done
returns-clause-done c = not_done

pub returns-clause-bad_trace : goal.returns-clause-bad_trace
returns-clause-bad_trace c = not_bad

pub returns-clause-idle : goal.returns-clause-idle
returns-clause-idle c = not_idle
