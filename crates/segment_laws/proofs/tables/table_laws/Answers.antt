use Rattle.segment_laws.proofs.Rooms.{table_alike}
use Rattle.segment_laws.proofs.Traps.{table_trap_alike}
use Rattle.segment_laws.proofs.tables.table_laws.Goals as goal

pub returns-clause-calls : goal.returns-clause-calls
returns-clause-calls c' = λ c code l t after site table i x d facts calls formed simulates stands step. table_alike c code facts calls l t after site table i x d formed simulates stands step

pub returns-clause-traps : goal.returns-clause-traps
returns-clause-traps c' = λ c code l t finish site table i x d facts simulates stands step. table_trap_alike c code l t finish site table i x d facts simulates stands step
