use Rattle.schedule_log.proofs.ListsRead.{key_found, no_key}
use Rattle.schedule_log.proofs.lists.read_key.Goals as goal

pub returns-clause-found : goal.returns-clause-found
returns-clause-found c = key_found _ _ c.read_sites.result c.new-sites.ensures c.read_sites.ensures.found

pub returns-clause-none : goal.returns-clause-none
returns-clause-none c = no_key _ _ c.read_sites.result c.new-sites.ensures c.read_sites.ensures.none
