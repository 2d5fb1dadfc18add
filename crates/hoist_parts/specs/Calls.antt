-- Which expressions contain a call, and which parts of an expression get a name.
use Rattle.std.specs.Prelude.{Bool, true, false, not, ◌&&◌, ◌||◌, codes}
use Rattle.std.specs.Str.{bytes_eq}
use Rattle.c_tree.specs.RawTrees.{NameTree, RawExprTree, RawExprTrees, RawNumber, RawName, RawElement, RawUnary, RawParenthesized, RawBinary, RawLogicalAnd, RawLogicalOr, RawConditional, RawCall, RawTableCall, NoExprs, And}

abbrev pub holds_call : RawExprTree → Bool
holds_call (RawNumber v) = false
holds_call (RawName n) = false
holds_call (RawElement n i) = holds_call i
holds_call (RawUnary op e) = holds_call e
holds_call (RawParenthesized e) = holds_call e
holds_call (RawBinary op l r) = holds_call l || holds_call r
holds_call (RawLogicalAnd l r) = holds_call l || holds_call r
holds_call (RawLogicalOr l r) = holds_call l || holds_call r
holds_call (RawConditional c a b) = holds_call c || (holds_call a || holds_call b)
holds_call (RawCall n es) = true
holds_call (RawTableCall n i e) = true

abbrev pub hold_call : RawExprTrees → Bool
hold_call NoExprs = false
hold_call (And e es) = holds_call e || hold_call es

-- a right side or a returned value contains a call that isn't whole; itself it may be a call
abbrev pub holds_nested : RawExprTree → Bool
holds_nested (RawCall n es) = hold_call es
holds_nested (RawTableCall n i e) = holds_call i || holds_call e
holds_nested e = holds_call e

-- whether a part needs no name: a number keeps its place, and a call is replaced by the name of its
-- result, so it needs no second one
abbrev pub is_left_alone : RawExprTree → Bool
is_left_alone (RawNumber v) = true
is_left_alone (RawCall n es) = true
is_left_alone (RawTableCall n i e) = true
is_left_alone e = false

-- a part gets a name if a later part contains a call
abbrev pub is_named : Bool → RawExprTree → Bool
is_named later e = later && not (is_left_alone e)

-- the first argument of `spawn` keeps its place
abbrev pub is_spawn : NameTree → Bool
is_spawn n = bytes_eq n.text (codes "spawn")
