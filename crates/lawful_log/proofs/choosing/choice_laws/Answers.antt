use Rattle.lawful_log.proofs.Told.{any_told, elsewhere_told, choice_told}
use Rattle.lawful_log.proofs.Wakes.{none_wakes, least_wakes}
use Rattle.lawful_log.proofs.choosing.choice_laws.Goals as goal

pub returns-clause-any : goal.returns-clause-any
returns-clause-any c = λ g state clock numbered stands are. any_told g state clock stands numbered are

pub returns-clause-elsewhere : goal.returns-clause-elsewhere
returns-clause-elsewhere c = λ g state clock numbered stands are. elsewhere_told g state clock stands numbered are

pub returns-clause-none_wakes : goal.returns-clause-none_wakes
returns-clause-none_wakes c = none_wakes

pub returns-clause-least_wakes : goal.returns-clause-least_wakes
returns-clause-least_wakes c = least_wakes

pub returns-clause-choice : goal.returns-clause-choice
returns-clause-choice c = choice_told
