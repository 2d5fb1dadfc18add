-- The form of an expression: a name alone, a call, or neither.
use Rattle.std.specs.Prelude.{◌≡◌}
use Rattle.c_tree.specs.RawTrees.{RawExprTree, RawNumber, RawName, RawElement, RawUnary, RawParenthesized, RawBinary, RawLogicalAnd, RawLogicalOr, RawConditional, RawCall, RawTableCall}
use Rattle.c_tree.specs.RawViews.{name_tree, raw_expr_tree, raw_expr_trees}
use Rattle.scope_rules.specs.declared.forms.Form.{Form}

abbrev pub IsNeither : RawExprTree → Type 0
IsNeither (RawNumber v) = Unit {0}
IsNeither (RawName n) = ⊥
IsNeither (RawElement n i) = Unit {0}
IsNeither (RawUnary op e) = Unit {0}
IsNeither (RawParenthesized e) = Unit {0}
IsNeither (RawBinary op l r) = Unit {0}
IsNeither (RawLogicalAnd l r) = Unit {0}
IsNeither (RawLogicalOr l r) = Unit {0}
IsNeither (RawConditional c a b) = Unit {0}
IsNeither (RawCall n es) = ⊥
IsNeither (RawTableCall n i e) = ⊥

abbrev pub IsForm : Form → RawExprTree → Type 0
IsForm (Form.Name n) t = t ≡ RawName (name_tree n.now)
IsForm (Form.Call n es) t = t ≡ RawCall (name_tree n.now) (raw_expr_trees es.now)
IsForm (Form.TableCall n i e) t = t ≡ RawTableCall (name_tree n.now) (raw_expr_tree i.now) (raw_expr_tree e.now)
IsForm Form.Neither t = IsNeither t
