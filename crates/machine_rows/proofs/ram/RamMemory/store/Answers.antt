use Rattle.std.proofs.Common.{rules}
use Rattle.rv_machine.proofs.Lists.{slice_get-set}
use Rattle.machine_rows.proofs.ram.RamMemory.store.Goals as goal

pub returns-then-address-lt8-clause-bytes : goal.returns-then-address-lt8-clause-bytes
returns-then-address-lt8-clause-bytes c = λ at. slice_get-set c.args.self.now.bytes c.args.address c.args.byte at (search rules)
