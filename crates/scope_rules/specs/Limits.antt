-- The limits of a program.
use Rattle.std.specs.Prelude.{ℕ, Bool, nat_lt, max, List, [], ◌∷◌, length, map, sum, Option, Some, None, if◌then◌else◌}
use Rattle.cap_word.specs.declared.limits.Which.{Which}
use Rattle.c_tree.specs.Trees.{FunctionTree, ProgramTree}
use Rattle.c_tree.specs.Sizes.{declared_words}
use Rattle.c_tree.specs.TextOrder.{program_sites}

-- the maximum number of words that a function declares, without its parameters
abbrev pub most_locals : List FunctionTree → ℕ
most_locals [] = 0
most_locals (f ∷ fs) = max (sum (declared_words f)) (most_locals fs)

abbrev pub most_params : List FunctionTree → ℕ
most_params [] = 0
most_params (f ∷ fs) = max f.params (most_params fs)

-- the first limit that is exceeded
abbrev pub first_exceeded : Bool → Bool → Bool → Bool → Bool → Bool → Option Which
first_exceeded functions sites globals tables locals params =
    if functions then Some Which.Functions
    else if sites then Some Which.Sites
    else if globals then Some Which.Globals
    else if tables then Some Which.Tables
    else if locals then Some Which.Locals
    else if params then Some Which.Params
    else None

-- the first limit that a program exceeds
abbrev pub exceeded : ProgramTree → Option Which
exceeded p =
    first_exceeded (nat_lt 4096 (length p.functions)) (nat_lt 65535 (length (program_sites p))) (nat_lt 65536 (sum (map (λ g. g.words) p.globals)))
    (nat_lt 65536 (sum (map length p.tables))) (nat_lt 4096 (most_locals p.functions)) (nat_lt 6 (most_params p.functions))
