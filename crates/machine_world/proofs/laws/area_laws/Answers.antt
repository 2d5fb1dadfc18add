use Rattle.machine_world.proofs.AreaLaws.{byte_at-with_byte, spot_of-with_byte, IsPool-with_byte, tables-with_byte}
use Rattle.machine_world.proofs.HeldLaws.{free-with_byte}
use Rattle.machine_world.proofs.laws.area_laws.Goals as goal

pub returns-clause-bytes : goal.returns-clause-bytes
returns-clause-bytes c = byte_at-with_byte

pub returns-clause-spots : goal.returns-clause-spots
returns-clause-spots c = spot_of-with_byte

pub returns-clause-pool : goal.returns-clause-pool
returns-clause-pool c = IsPool-with_byte

pub returns-clause-free : goal.returns-clause-free
returns-clause-free c = free-with_byte

pub returns-clause-tables : goal.returns-clause-tables
returns-clause-tables c = tables-with_byte
