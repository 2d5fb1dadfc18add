-- The names that the rewriting declares.
use Rattle.std.specs.Prelude.{ℕ}
use Rattle.cap_text.specs.Decimals.{canonical_decimal}
use Rattle.c_tree.specs.RawTrees.{NameTree, RawExprTree, RawName, RawDeclareScalar, RawDeclareWith, RawSet, RawStmtTree, RawDo}

-- The new name with a number: its decimal, which begins with a digit, so no source contains it. It has no place in the
-- text; no rule is broken at it, so its place is never reported.
abbrev pub new_name : ℕ → NameTree
new_name k = record { at = 0; text = canonical_decimal k }

-- its value
abbrev pub used : ℕ → RawExprTree
used k = RawName (new_name k)

-- `int h;`, `int h = v;` and `h = v;` for a new name
abbrev pub declared : ℕ → RawStmtTree
declared k = RawDo (RawDeclareScalar (new_name k))

abbrev pub declared_as : ℕ → RawExprTree → RawStmtTree
declared_as k v = RawDo (RawDeclareWith (new_name k) v)

abbrev pub set_to : ℕ → RawExprTree → RawStmtTree
set_to k v = RawDo (RawSet (new_name k) v)
