-- The arguments of a call, as the code takes them one by one.
use Rattle.std.specs.Prelude.{ℕ, ◌+◌, Bool, true, false, List, [], ◌++◌}
use Rattle.c_tree.specs.RawTrees.{RawExprTree, RawExprTrees, NoExprs, And, RawStmtTree}
use Rattle.hoist_parts.specs.Calls.{holds_call, is_named}
use Rattle.hoist_parts.specs.Expressions.{one_if, names_in, part_after, part_or, part_named, spawned_left, left_of, before}

-- how many of them contain a call
abbrev pub calls_among : RawExprTrees → ℕ
calls_among NoExprs = 0
calls_among (And e es) = one_if (holds_call e) + calls_among es

-- one argument, which keeps its place or not: the remaining expression, the statements before it and the number
-- after it
abbrev pub passed_left : Bool → Bool → ℕ → RawExprTree → RawExprTree
passed_left true later k e = spawned_left e
passed_left false later k e = part_or (is_named later e) (k + names_in e) (left_of k e)

abbrev pub passed_before : Bool → Bool → ℕ → RawExprTree → List RawStmtTree
passed_before true later k e = []
passed_before false later k e = before k e ++ part_named (is_named later e) (k + names_in e) (left_of k e)

abbrev pub passed_after : Bool → Bool → ℕ → RawExprTree → ℕ
passed_after true later k e = k
passed_after false later k e = part_after k later e
