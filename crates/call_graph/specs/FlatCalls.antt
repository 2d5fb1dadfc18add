-- The call sites of a flat program.
use Rattle.std.specs.Prelude.{ℕ, ◌+◌, Option, Some, None, List, [], ◌∷◌, ◌++◌}
use Rattle.std.specs.List.{filter_map}
use Rattle.flat_code.specs.declared.operations.Op.{Op}
use Rattle.flat_code.specs.declared.functions.FlatFunction.{FlatFunction}
use Rattle.call_graph.specs.declared.sites.GraphSite.{GraphSite}
use Rattle.call_graph.specs.declared.sites.Target.TheVariants.{Function, Table}

-- the call site of an operation of a caller: a call of a function or a table has one, and every other operation,
-- including a spawn of a thread, has none
abbrev pub call_site : ℕ → Op → Option GraphSite
call_site caller (Op.Call site d f args) = Some (record { number = site; caller = caller; target = Function f })
call_site caller (Op.CallTable site d t i s) = Some (record { number = site; caller = caller; target = Table t })
call_site caller _ = None

-- the call sites of these functions, which are numbered from this number on
abbrev pub call_sites_from : ℕ → List FlatFunction → List GraphSite
call_sites_from caller [] = []
call_sites_from caller (function ∷ functions) = filter_map (call_site caller) function.ops ++ call_sites_from (caller + 1) functions
