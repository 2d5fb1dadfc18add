-- The head of a definition.
use Rattle.std.specs.Prelude.{Bool, true, List, ◌++◌, length}
use Rattle.c_tree.specs.RawTrees.{NameTree}
use Rattle.scope_rules.specs.declared.faults.Fault.{Fault}
use Rattle.scope_rules.specs.Names.{Binding, find}
use Rattle.scope_rules.specs.Places.{Spot}
use Rattle.scope_rules.specs.Items.{function_faults, main_faults, params_faults, params_spot}

-- the rules that the head of a definition breaks
abbrev pub head_faults : List Binding → Spot → Bool → NameTree → List NameTree → List Fault
head_faults defs s gives n params =
    function_faults true gives (length params) n.at (find n.text s.names) ++ (main_faults n (length params) ++ params_faults (params_spot defs s gives n params) params)
