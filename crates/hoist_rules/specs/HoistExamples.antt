-- Small statements as they are read, on which the rewriting is computed.
use Rattle.std.specs.Prelude.{ℕ, List, [], ◌∷◌, Some, codes}
use Rattle.c_tree.specs.declared.operators.BinaryOperator.{BinaryOperator}
use Rattle.c_tree.specs.RawTrees.{NameTree, RawExprTree, RawExprTrees, RawNumber, RawBinary, RawCall, NoExprs, And, RawSet, RawCalling, RawStmtTree, RawDo, RawReturn}

-- a name; its place isn't examined
abbrev pub named : List ℕ → NameTree
named text = record { at = 7; text = text }

abbrev pub x : NameTree
x = named (codes "x")

abbrev pub y : NameTree
y = named (codes "y")

abbrev pub i : NameTree
i = named (codes "i")

abbrev pub a : NameTree
a = named (codes "a")

abbrev pub f : NameTree
f = named (codes "f")

abbrev pub g : NameTree
g = named (codes "g")

abbrev pub h : NameTree
h = named (codes "h")

abbrev pub t : NameTree
t = named (codes "t")

abbrev pub put : NameTree
put = named (codes "put")

abbrev pub spawn : NameTree
spawn = named (codes "spawn")

abbrev pub arguments : List RawExprTree → RawExprTrees
arguments [] = NoExprs
arguments (e ∷ es) = And e (arguments es)

-- f(e)
abbrev pub call : NameTree → List RawExprTree → RawExprTree
call n es = RawCall n (arguments es)

abbrev pub calls : NameTree → List RawExprTree → RawStmtTree
calls n es = RawDo (RawCalling n (arguments es))

abbrev pub one : RawExprTree
one = RawNumber 1

abbrev pub two : RawExprTree
two = RawNumber 2

abbrev pub plus : RawExprTree → RawExprTree → RawExprTree
plus l r = RawBinary BinaryOperator.Add l r

abbrev pub sets : NameTree → RawExprTree → RawStmtTree
sets n v = RawDo (RawSet n v)

abbrev pub returns : RawExprTree → RawStmtTree
returns v = RawReturn 3 (Some v)
