-- The rewriting of an expression, with new names numbered from k on: the statements before its statement, and the
-- remaining expression. Evaluation is from left to right, so a part to the left of a call is evaluated before it, into
-- a name (ISO/IEC 9899:2018, 6.5, with the order that CapC fixes).
use Rattle.std.specs.Prelude.{ℕ, ◌+◌, Bool, true, false, ◌||◌, List, [], ◌∷◌, ◌++◌, if◌then◌else◌}
use Rattle.c_tree.specs.declared.operators.BinaryOperator.{BinaryOperator}
use Rattle.c_tree.specs.declared.operators.UnaryOperator.{UnaryOperator}
use Rattle.c_tree.specs.RawTrees.{NameTree, RawExprTree, RawExprTrees, RawNumber, RawName, RawElement, RawUnary, RawParenthesized, RawBinary, RawLogicalAnd, RawLogicalOr, RawConditional, RawCall, RawTableCall, NoExprs, And, RawStmtTree, RawBlock, RawIf, RawIfElse}
use Rattle.c_tree.specs.RawViews.{raw_in_order}
use Rattle.hoist_parts.specs.NewNames.{used, declared, declared_as, set_to}
use Rattle.hoist_parts.specs.Calls.{holds_call, hold_call, is_named, is_spawn}

abbrev pub one_if : Bool → ℕ
one_if true = 1
one_if false = 0

-- the number of new names for an expression; for arguments, by whether the first keeps its place
abbrev mutual
  pub names_in : RawExprTree → ℕ
  names_in (RawNumber v) = 0
  names_in (RawName n) = 0
  names_in (RawElement n i) = names_in i
  names_in (RawUnary op e) = names_in e
  names_in (RawParenthesized e) = names_in e
  names_in (RawBinary op l r) = names_in l + one_if (is_named (holds_call r) l) + names_in r
  names_in (RawLogicalAnd l r) = names_in l + one_if (holds_call r) + names_in r
  names_in (RawLogicalOr l r) = names_in l + one_if (holds_call r) + names_in r
  names_in (RawConditional c a b) = names_in c + one_if (holds_call a || holds_call b) + names_in a + names_in b
  names_in (RawCall n es) = arguments_names (is_spawn n) es + 1
  names_in (RawTableCall n i e) = names_in i + one_if (is_named (holds_call e) i) + names_in e + 1

  pub arguments_names : Bool → RawExprTrees → ℕ
  arguments_names stays NoExprs = 0
  arguments_names true (And e es) = arguments_names false es
  arguments_names false (And e es) = names_in e + one_if (is_named (hold_call es) e) + arguments_names false es

-- the number after an earlier part whose names begin at k
abbrev pub part_after : ℕ → Bool → RawExprTree → ℕ
part_after k later e = k + names_in e + one_if (is_named later e)

-- the name k of an earlier part if it gets one, and otherwise the remaining expression
abbrev pub part_or : Bool → ℕ → RawExprTree → RawExprTree
part_or true k left = used k
part_or false k left = left

-- the first argument of `spawn`: one that contains a call becomes the number 0, which breaks the same rule at the same
-- place
abbrev pub spawned_left : RawExprTree → RawExprTree
spawned_left e = if holds_call e then RawNumber 0 else e

-- the remaining expression
abbrev mutual
  pub left_of : ℕ → RawExprTree → RawExprTree
  left_of k (RawNumber v) = RawNumber v
  left_of k (RawName n) = RawName n
  left_of k (RawElement n i) = RawElement n (left_of k i)
  left_of k (RawUnary op e) = RawUnary op (left_of k e)
  left_of k (RawParenthesized e) = RawParenthesized (left_of k e)
  left_of k (RawBinary op l r) = RawBinary op (part_or (is_named (holds_call r) l) (k + names_in l) (left_of k l)) (left_of (part_after k (holds_call r) l) r)
  left_of k (RawLogicalAnd l r) = if holds_call r then used (k + names_in l) else RawLogicalAnd (left_of k l) r
  left_of k (RawLogicalOr l r) = if holds_call r then used (k + names_in l) else RawLogicalOr (left_of k l) r
  left_of k (RawConditional c a b) = if holds_call a || holds_call b then used (k + names_in c) else RawConditional (left_of k c) a b
  left_of k (RawCall n es) = used (k + arguments_names (is_spawn n) es)
  left_of k (RawTableCall n i e) = used (part_after k (holds_call e) i + names_in e)

  -- the remaining arguments of a call
  pub arguments_left : Bool → ℕ → RawExprTrees → RawExprTrees
  arguments_left stays k NoExprs = NoExprs
  arguments_left true k (And e es) = And (spawned_left e) (arguments_left false k es)
  arguments_left false k (And e es) = And (part_or (is_named (hold_call es) e) (k + names_in e) (left_of k e)) (arguments_left false (part_after k (hold_call es) e) es)

-- a call itself, with its remaining parts
abbrev pub call_left : ℕ → NameTree → RawExprTrees → RawExprTree
call_left k n es = RawCall n (arguments_left (is_spawn n) k es)

abbrev pub index_left : ℕ → RawExprTree → RawExprTree → RawExprTree
index_left k i e = part_or (is_named (holds_call e) i) (k + names_in i) (left_of k i)

abbrev pub argument_left : ℕ → RawExprTree → RawExprTree → RawExprTree
argument_left k i e = left_of (part_after k (holds_call e) i) e

abbrev pub table_call_left : ℕ → NameTree → RawExprTree → RawExprTree → RawExprTree
table_call_left k n i e = RawTableCall n (index_left k i e) (argument_left k i e)

-- `int h = x;` for an earlier part that gets the name k
abbrev pub part_named : Bool → ℕ → RawExprTree → List RawStmtTree
part_named true k left = declared_as k left ∷ []
part_named false k left = []

-- `e != 0`
abbrev pub is_true : RawExprTree → RawExprTree
is_true e = RawBinary BinaryOperator.NotEqual e (RawNumber 0)

-- `!e`
abbrev pub is_false : RawExprTree → RawExprTree
is_false e = RawUnary UnaryOperator.Not e

abbrev pub in_block : List RawStmtTree → RawStmtTree
in_block ss = RawBlock (raw_in_order ss)

-- `int h = l != 0; if (c) { P(r) h = r != 0; }`, where h is the name with number k
abbrev pub decided : ℕ → RawExprTree → RawExprTree → List RawStmtTree → RawExprTree → List RawStmtTree
decided k l c before r = declared_as k (is_true l) ∷ RawIf c (in_block (before ++ set_to k (is_true r) ∷ [])) ∷ []

-- the statements before an expression
abbrev mutual
  pub before : ℕ → RawExprTree → List RawStmtTree
  before k (RawNumber v) = []
  before k (RawName n) = []
  before k (RawElement n i) = before k i
  before k (RawUnary op e) = before k e
  before k (RawParenthesized e) = before k e
  before k (RawBinary op l r) = before k l ++ part_named (is_named (holds_call r) l) (k + names_in l) (left_of k l) ++ before (part_after k (holds_call r) l) r
  before k (RawLogicalAnd l r) =
      before k l ++ (if holds_call r then decided (k + names_in l) (left_of k l) (used (k + names_in l)) (before (k + names_in l + 1) r) (left_of (k + names_in l + 1) r) else [])
  before k (RawLogicalOr l r) =
      before k l ++ (if holds_call r then decided (k + names_in l) (left_of k l) (is_false (used (k + names_in l))) (before (k + names_in l + 1) r) (left_of (k + names_in l + 1) r) else [])
  before k (RawConditional c a b) =
      before k c
      ++ (if holds_call a || holds_call b then
      declared (k + names_in c)
      ∷ RawIfElse (left_of k c)
      (in_block (before (k + names_in c + 1) a ++ set_to (k + names_in c) (left_of (k + names_in c + 1) a) ∷ []))
      (in_block (before (k + names_in c + 1 + names_in a) b ++ set_to (k + names_in c) (left_of (k + names_in c + 1 + names_in a) b) ∷ []))
      ∷ []
      else [])
  before k (RawCall n es) = arguments_before (is_spawn n) k es ++ declared_as (k + arguments_names (is_spawn n) es) (call_left k n es) ∷ []
  before k (RawTableCall n i e) =
      before k i ++ part_named (is_named (holds_call e) i) (k + names_in i) (left_of k i) ++ before (part_after k (holds_call e) i) e
      ++ declared_as (part_after k (holds_call e) i + names_in e) (table_call_left k n i e) ∷ []

  pub arguments_before : Bool → ℕ → RawExprTrees → List RawStmtTree
  arguments_before stays k NoExprs = []
  arguments_before true k (And e es) = arguments_before false k es
  arguments_before false k (And e es) =
      before k e ++ part_named (is_named (hold_call es) e) (k + names_in e) (left_of k e) ++ arguments_before false (part_after k (hold_call es) e) es
