use Rattle.grammar_reader.proofs.Common.{ℕ, List, [], ◌∷◌, subst, sym, IfOk-at_ok, IfErr-at_err, Token, RawExpr, RawSetElement, RawTableCalling, name_tree, raw_expr_tree, Expr, Parenthesized, Refused, ReadsExpr, ReadsParenthesized, ReadsIndexed}
use Rattle.grammar_reader.proofs.Paths.{exit, sign_is, sign_other}
use Rattle.grammar_reader.proofs.SimpleRules.{indexed_call, indexed_call_refused, indexed_no_assign, indexed_set_refused, indexed_set}
use Rattle.grammar_reader.proofs.simples.indexed.Goals as goal

abbrev ReadsArgument : List ℕ → ℕ → ℕ → List Token → List Token → RawExpr → Type 0
ReadsArgument source end depth before after e = ReadsParenthesized source end depth before (raw_expr_tree e) after

abbrev ReadsValue : List ℕ → ℕ → ℕ → List Token → List Token → RawExpr → Type 0
ReadsValue source end depth before after e = ReadsExpr source end depth before (raw_expr_tree e) after

pub returns-in_err-called-clause-refused : goal.returns-in_err-called-clause-refused
returns-in_err-called-clause-refused c =
    let refused = IfErr-at_err (Refused c.args.text.end c.args.depth (Parenthesized ∷ []) c.args.cursor.now.tokens.now) c.in_err-called.ensures.refused c.parenthesized.ensures.refused in
    exit _ _ c.from_residual-in_err-called.ensures.1 (indexed_call_refused c.args.text.end c.args.depth c.args.cursor.now.tokens.now c.in_err-called.field-0.0 (sign_is c.sign.ensures c.if-eq.ensures) refused)

pub returns-then-eq-clause-read : goal.returns-then-eq-clause-read
returns-then-eq-clause-read c =
    let source = c.args.text.bytes.now in
    let end = c.args.text.end in
    let depth = c.args.depth in
    let name = name_tree c.args.name in
    let index = raw_expr_tree c.args.index in
    let before = c.args.cursor.now.tokens.now in
    let after = c.parenthesized.new.cursor.tokens.now in
    let read = IfOk-at_ok (ReadsArgument source end depth before after) c.in_ok-called.ensures.had c.parenthesized.ensures.read in
    let called = indexed_call source end depth name index (raw_expr_tree c.in_ok-called.argument) before after read in
    let boxed = subst (λ (e : RawExpr). ReadsIndexed source end depth name index before (RawTableCalling name (raw_expr_tree e) (raw_expr_tree c.in_ok-called.argument)) after) (sym c.in_ok-index.ensures.ok) called in
    rw c.in_ok-called.ensures.held
    (subst (λ (e : RawExpr). ReadsIndexed source end depth name index before (RawTableCalling name (raw_expr_tree c.in_ok-index.index.value) (raw_expr_tree e)) after) (sym c.in_ok-argument.ensures.ok) boxed)

pub returns-in_err-target-clause-refused : goal.returns-in_err-target-clause-refused
returns-in_err-target-clause-refused c =
    exit _ _ c.from_residual-in_err-target.ensures.1
    (indexed_no_assign c.args.text.end c.args.depth c.args.cursor.now.tokens.now c.in_err-target.field-0.0 (sign_other c.sign.ensures c.if-eq.ensures) c.in_err-target.ensures.other c.in_err-target.ensures.place)

pub returns-in_err-target-2-clause-refused : goal.returns-in_err-target-2-clause-refused
returns-in_err-target-2-clause-refused c =
    let refused = IfErr-at_err (Refused c.args.text.end c.args.depth (Expr ∷ []) c.before_sign.new.cursor.tokens.now) c.in_err-target-2.ensures.refused c.expression.ensures.refused in
    exit _ _ c.from_residual-in_err-target-2.ensures.1
    (indexed_set_refused c.args.text.end c.args.depth c.args.cursor.now.tokens.now c.before_sign.new.cursor.tokens.now c.in_err-target-2.field-0.0 c.requires c.in_ok-target.ensures.taken refused)

pub returns-clause-read : goal.returns-clause-read
returns-clause-read c =
    let source = c.args.text.bytes.now in
    let end = c.args.text.end in
    let depth = c.args.depth in
    let name = name_tree c.args.name in
    let index = raw_expr_tree c.args.index in
    let value = raw_expr_tree c.in_ok-target-2.value in
    let before = c.args.cursor.now.tokens.now in
    let inner = c.before_sign.new.cursor.tokens.now in
    let after = c.expression.new.cursor.tokens.now in
    let read = IfOk-at_ok (ReadsValue source end depth inner after) c.in_ok-target-2.ensures.had c.expression.ensures.read in
    let set = indexed_set source end depth name index value before inner after c.requires c.in_ok-target.ensures.taken read in
    rw (c.in_ok-target-2.ensures.held, c.in_ok-target.ensures.held)
    (subst (λ (e : RawExpr). ReadsIndexed source end depth name index before (RawSetElement name (raw_expr_tree e) value) after) (sym c.in_ok-index.ensures.ok) set)
