use Rattle.audited_logs.proofs.ReadWorlds.{choices_are_lawful}
use Rattle.audited_logs.proofs.audits.read_choices_are_lawful.Goals as goal

pub returns : goal.returns
returns c = λ g trace log lawful. choices_are_lawful g trace lawful.entries lawful.last lawful.leads
