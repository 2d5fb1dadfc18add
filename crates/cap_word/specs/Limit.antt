-- The names of the limits, as messages print them.
use Rattle.std.specs.Prelude.{ℕ, List, codes}
use Rattle.cap_word.specs.declared.limits.Which.{Which}
use Rattle.cap_word.specs.declared.limits.Which.TheVariants.{Functions, Sites, Globals, Tables, Locals, Params, Code, Entries}

-- the name of a limit, in lower case
abbrev pub name_of : Which → List ℕ
name_of Functions = codes "functions"
name_of Sites = codes "sites"
name_of Globals = codes "globals"
name_of Tables = codes "tables"
name_of Locals = codes "locals"
name_of Params = codes "params"
name_of Code = codes "code"
name_of Entries = codes "entries"
