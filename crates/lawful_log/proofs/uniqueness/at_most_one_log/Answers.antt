use Rattle.lawful_log.proofs.AtMostOne.{begins_each, same_entries, same_stops}
use Rattle.lawful_log.proofs.uniqueness.at_most_one_log.Goals as goal

pub returns-clause-entries : goal.returns-clause-entries
returns-clause-entries c = same_entries

pub returns-clause-stops : goal.returns-clause-stops
returns-clause-stops c = same_stops

pub returns-clause-begins : goal.returns-clause-begins
returns-clause-begins c = begins_each
