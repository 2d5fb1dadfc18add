-- A part of an expression before others: it gets a name if one of them contains a call.
use Rattle.std.specs.Prelude.{ℕ, ◌+◌, Bool, List, ◌++◌}
use Rattle.c_tree.specs.RawTrees.{RawExprTree, RawStmtTree}
use Rattle.hoist_parts.specs.Calls.{holds_nested, is_named}
use Rattle.hoist_parts.specs.Expressions.{names_in, part_after, part_or, part_named, left_of, before}
use Rattle.hoist_parts.specs.Statements.{value_before}

-- what remains of it: its name, or the remaining expression
abbrev pub part_left : Bool → ℕ → RawExprTree → RawExprTree
part_left later k e = part_or (is_named later e) (k + names_in e) (left_of k e)

-- the statements before it, and the declaration of its name if it gets one
abbrev pub part_before : Bool → ℕ → RawExprTree → List RawStmtTree
part_before later k e = before k e ++ part_named (is_named later e) (k + names_in e) (left_of k e)

-- the statements before the index of an element and before the value that is assigned to it
abbrev pub element_before : ℕ → RawExprTree → RawExprTree → List RawStmtTree
element_before k i v =
    before k i ++ part_named (is_named (holds_nested v) i) (k + names_in i) (left_of k i) ++ value_before (part_after k (holds_nested v) i) v
