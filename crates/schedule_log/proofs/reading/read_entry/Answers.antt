use Rattle.schedule_log.proofs.EntryUnique.{reads_back}
use Rattle.schedule_log.proofs.reading.read_entry.Goals as goal

pub returns-clause-back : goal.returns-clause-back
returns-clause-back c = reads_back c.args.line.now c.entry_of.result c.ok_or.result _ c.ok_or.ensures.value c.entry_of.ensures.found c.entry_of.ensures.none
