-- The status and the line of each fault.
use Rattle.std.specs.Prelude.{ℕ, List, [], ◌∷◌, ◌++◌, codes}
use Rattle.command_outcomes.specs.declared.faults.Fault.{Fault}
use Rattle.command_outcomes.specs.declared.faults.Fault.TheVariants.{Read, Write, Memory}

-- the status of each fault
abbrev pub fault_status : Fault → ℕ
fault_status Read = 6
fault_status Write = 7
fault_status Memory = 8

-- the line of each fault, with its line feed
abbrev pub fault_line : Fault → List ℕ
fault_line Read = codes "fault: read" ++ 10 ∷ []
fault_line Write = codes "fault: write" ++ 10 ∷ []
fault_line Memory = codes "fault: memory" ++ 10 ∷ []
