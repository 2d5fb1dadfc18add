-- The definitions for which the code's items stand.
use Rattle.std.specs.Prelude.{ℕ, ◌≡◌, nat_lt, length, map, sum, Option}
use Rattle.cap_word.specs.declared.limits.Which.{Which}
use Rattle.c_tree.specs.Trees.{ProgramTree}
use Rattle.c_tree.specs.Views.{function_tree, table_row}
use Rattle.scope_rules.specs.declared.items.Items.{Items}
use Rattle.scope_rules.specs.Places.{spot_of}
use Rattle.scope_rules.specs.Items.{Sofar}
use Rattle.scope_rules.specs.Limits.{first_exceeded, most_locals, most_params}
use Rattle.c_tree.specs.Temporaries.{capped}

abbrev pub sofar_of : Items → Sofar
sofar_of w = record { spot = spot_of w.place; globals = w.globals.items; tables = map table_row w.tables.items; functions = map function_tree w.functions.items }

-- the count of declared words is that of the functions so far, up to 65,537
abbrev pub IsCounted : Items → Type 0
IsCounted w = w.locals ≡ capped (most_locals (map function_tree w.functions.items))

-- the first limit that a program exceeds, by its counts of calls and of declared words
abbrev pub exceeded_with : ℕ → ℕ → ProgramTree → Option Which
exceeded_with sites locals p =
    first_exceeded (nat_lt 4096 (length p.functions)) (nat_lt 65535 sites) (nat_lt 65536 (sum (map (λ g. g.words) p.globals)))
    (nat_lt 65536 (sum (map length p.tables))) (nat_lt 4096 locals) (nat_lt 6 (most_params p.functions))
