use Rattle.std.proofs.lemmas.Bool.Decides.{nat_tests}
use Rattle.grammar_reader.proofs.Common.{ℕ, ◌≡◌, ◌∙◌, ◌∷◌, [], List, map, length, vec_len, nat_eq, refl, subst, arith, Bool, true, map-append, IfOk-at_ok, IfErr-at_err, IfOk-weaker, IfErr-weaker, err_from_is_err_and, Box, Token, RawExprTree, RawConditional, Infix, RawExpr, name_tree, raw_expr_tree, raw_expr_trees, raw_chained, raw_operand_tree, raw_expr_tree-Number, raw_expr_tree-Name, raw_expr_tree-Element, raw_expr_tree-Unary, raw_expr_tree-Parenthesized, raw_expr_tree-Chain, raw_expr_tree-Conditional, raw_expr_tree-Call, raw_expr_tree-TableCall, Refused, NoPrefix, ReadsExpr, ReadsConditional, ReadsBinary}
use Rattle.std.specs.declared.alloc.Global.{Global}
use Rattle.c_grammar.specs.Machine as tasks
use Rattle.grammar_reader.proofs.Paths.{exit, sign_is, sign_other}
use Rattle.grammar_reader.proofs.SignTests.{no_other_sign, not_that_sign}
use Rattle.grammar_reader.proofs.ExprRules as rules
use Rattle.grammar_reader.proofs.OperandRules as operands
use Rattle.grammar_reader.proofs.BracketRules as brackets
use Rattle.grammar_reader.proofs.expressions.+expression.Goals as goal

pub expression-returns-in_err-first-clause-refused : goal.expression-returns-in_err-first-clause-refused
expression-returns-in_err-first-clause-refused t c =
    let p = err_from_is_err_and c.from_residual.result c.from_residual.ensures.1 in
    rw (p.1, p.2) (rules.expr_refused c.args.text.end c.args.depth c.args.cursor.now.tokens.now c.in_err-first.field-0.0 c.in_err-first.ensures.refused)

pub expression-returns-then-ne-clause-read : goal.expression-returns-then-ne-clause-read
expression-returns-then-ne-clause-read t c = rules.expr_alone c.in_ok-first.ensures.read (not_that_sign c.sign.ensures c.if-ne.ensures)

pub expression-returns-clause-read : goal.expression-returns-clause-read
expression-returns-clause-read t c = IfOk-weaker _ _ _ (λ e h. rules.expr_conditional c.in_ok-first.ensures.read h) c.conditional.ensures.read

pub expression-returns-clause-refused : goal.expression-returns-clause-refused
expression-returns-clause-refused t c =
    IfErr-weaker c.conditional.result (λ error. Refused c.args.text.end c.args.depth (tasks.Tail ∷ []) c.binary.new.cursor.tokens.now error) (λ error. Refused c.args.text.end c.args.depth (tasks.Expr ∷ []) c.args.cursor.now.tokens.now error) (λ error h. rules.expr_refused_later c.in_ok-first.ensures.read h) c.conditional.ensures.refused

pub conditional-returns-in_err-condition-2-clause-refused : goal.conditional-returns-in_err-condition-2-clause-refused
conditional-returns-in_err-condition-2-clause-refused t c =
    exit _ _ c.from_residual-in_err-condition-2.ensures.1
    (IfErr-at_err (Refused c.args.text.end c.args.depth (tasks.Tail ∷ []) c.args.cursor.now.tokens.now) c.in_err-condition-2.ensures.refused c.branches.ensures.refused)

-- the branches, whatever the condition before them
abbrev ReadsBranches : List ℕ → ℕ → ℕ → List Token → List Token → Box RawExpr Global × Box RawExpr Global → Type 0
ReadsBranches source end depth before after made = (first : RawExprTree) → ReadsConditional source end depth first before (RawConditional first (raw_expr_tree made.0.value) (raw_expr_tree made.1.value)) after

pub conditional-returns-clause-read : goal.conditional-returns-clause-read
conditional-returns-clause-read t c =
    let read : ReadsBranches c.args.text.bytes.now c.args.text.end c.args.depth c.args.cursor.now.tokens.now c.branches.new.cursor.tokens.now c.in_ok-condition-2.branches =
    IfOk-at_ok (ReadsBranches c.args.text.bytes.now c.args.text.end c.args.depth c.args.cursor.now.tokens.now c.branches.new.cursor.tokens.now) c.in_ok-condition-2.ensures.had c.branches.ensures.read
    in
    rw (raw_expr_tree-Conditional c.in_ok-condition-2.condition c.in_ok-condition-2.branches.0 c.in_ok-condition-2.branches.1, c.in_ok-condition-2.ensures.held, c.in_ok-condition.ensures.ok) (read (raw_expr_tree c.args.first))

pub branches-returns-in_err-inside-clause-refused : goal.branches-returns-in_err-inside-clause-refused
branches-returns-in_err-inside-clause-refused t c =
    exit _ _ c.from_residual.ensures.1 (rules.conditional_deep c.args.text.end c.args.depth c.args.cursor.now.tokens.now c.in_err-inside.field-0.0 c.requires.question c.in_err-inside.ensures.deep)

pub branches-returns-in_err-then-clause-refused : goal.branches-returns-in_err-then-clause-refused
branches-returns-in_err-then-clause-refused t c =
    exit _ _ c.from_residual-in_err-then.ensures.1
    (rules.conditional_then c.args.text.end c.args.depth c.in_ok-inside.inside c.args.cursor.now.tokens.now c.open.new.self.tokens.now c.in_err-then.field-0.0 c.requires.question c.in_ok-inside.ensures.taken c.in_ok-inside.ensures.fits c.in_err-then.ensures.refused)

pub branches-returns-in_err-then-2-clause-refused : goal.branches-returns-in_err-then-2-clause-refused
branches-returns-in_err-then-2-clause-refused t c =
    exit _ _ c.from_residual-in_err-then-2.ensures.1
    (rules.conditional_colon c.args.text.bytes.now c.args.text.end c.args.depth c.in_ok-inside.inside c.args.cursor.now.tokens.now c.open.new.self.tokens.now c.expression.new.cursor.tokens.now (raw_expr_tree c.in_ok-then.then) c.in_err-then-2.field-0.0 c.requires.question
    c.in_ok-inside.ensures.taken c.in_ok-inside.ensures.fits c.in_ok-then.ensures.read c.in_err-then-2.ensures.place c.in_err-then-2.ensures.other)

pub branches-returns-in_err-pair-clause-refused : goal.branches-returns-in_err-pair-clause-refused
branches-returns-in_err-pair-clause-refused t c =
    exit _ _ c.from_residual-in_err-pair.ensures.1
    (rules.conditional_otherwise c.args.text.bytes.now c.args.text.end c.args.depth c.in_ok-inside.inside c.args.cursor.now.tokens.now c.open.new.self.tokens.now c.expression.new.cursor.tokens.now c.before_sign.new.cursor.tokens.now (raw_expr_tree c.in_ok-then.then)
    c.in_err-pair.field-0.0 c.requires.question c.in_ok-inside.ensures.taken c.in_ok-inside.ensures.fits c.in_ok-then.ensures.read c.in_ok-then-2.ensures.taken
    (IfErr-at_err (Refused c.args.text.end c.in_ok-inside.inside (tasks.Expr ∷ []) c.before_sign.new.cursor.tokens.now) c.in_err-pair.ensures.refused c.expression-2.ensures.refused))

abbrev ReadsOther : List ℕ → ℕ → ℕ → List Token → List Token → RawExpr → Type 0
ReadsOther source end depth before after e = ReadsExpr source end depth before (raw_expr_tree e) after

pub branches-returns-clause-read : goal.branches-returns-clause-read
branches-returns-clause-read t c =
    let read = IfOk-at_ok (ReadsOther c.args.text.bytes.now c.args.text.end c.in_ok-inside.inside c.before_sign.new.cursor.tokens.now c.expression-2.new.cursor.tokens.now) c.in_ok-pair.ensures.had c.expression-2.ensures.read in
    IfOk-weaker c.boxed_pair.result _ _
    (λ made h first. rw (h.0, h.1, c.in_ok-pair.ensures.held, c.in_ok-then-2.ensures.held)
    (rules.conditional_read c.args.text.bytes.now c.args.text.end c.args.depth c.in_ok-inside.inside c.args.cursor.now.tokens.now c.open.new.self.tokens.now c.expression.new.cursor.tokens.now c.before_sign.new.cursor.tokens.now c.expression-2.new.cursor.tokens.now
    first (raw_expr_tree c.in_ok-then.then) (raw_expr_tree c.in_ok-pair.pair.1) c.requires.question c.in_ok-inside.ensures.taken c.in_ok-inside.ensures.fits c.in_ok-then.ensures.read c.in_ok-then-2.ensures.taken read))
    c.boxed_pair.ensures.held

pub branches-returns-clause-refused : goal.branches-returns-clause-refused
branches-returns-clause-refused t c = IfErr-weaker c.boxed_pair.result _ _ (λ error e other. absurd (other e)) c.boxed_pair.ensures.memory

pub binary-returns-then-level-ge-LEVELS-clause-read : goal.binary-returns-then-level-ge-LEVELS-clause-read
binary-returns-then-level-ge-LEVELS-clause-read t c =
    IfOk-weaker _ _ _ (λ e h. rules.binary_unary c.args.text.bytes.now c.args.text.end c.args.depth c.args.level c.args.cursor.now.tokens.now c.unary.new.cursor.tokens.now (raw_expr_tree e) c.if-level-ge-LEVELS.true c.requires.of_level h) c.unary.ensures.read

none_left : {A : Type 0} (xs : List A) (n : ℕ) (b : Bool) → b ≡ true → b ≡ nat_eq n 0 → n ≡ length xs → xs ≡ []
none_left [] n b e f g = refl
none_left (x ∷ xs) n b e f g = absurd (let z : n ≡ 0 = grind (arith, nat_tests) in omega arith)

pub binary-returns-then-is_empty-clause-read : goal.binary-returns-then-is_empty-clause-read
binary-returns-then-is_empty-clause-read t c =
    let rest = c.in_ok-rest.rest in
    let none : rest.items ≡ [] = none_left rest.items (vec_len rest) c.is_empty.result c.if-is_empty.true c.is_empty.ensures rest.ok.0 in
    let P : List (Infix × RawExpr) → Type 0 = λ l. ReadsBinary c.args.text.bytes.now c.args.text.end c.args.depth c.args.level c.args.cursor.now.tokens.now (raw_chained (raw_expr_tree c.in_ok-first.first) (map raw_operand_tree l)) c.repeated.new.cursor.tokens.now in
    subst P none
    (rules.binary_chain c.args.text.bytes.now c.args.text.end c.args.depth c.args.level c.args.cursor.now.tokens.now c.binary.new.cursor.tokens.now c.repeated.new.cursor.tokens.now (raw_expr_tree c.in_ok-first.first) (map raw_operand_tree rest.items)
    c.if-level-ge-LEVELS.false c.in_ok-first.ensures.read c.in_ok-rest.ensures.read)

pub binary-returns-clause-read : goal.binary-returns-clause-read
binary-returns-clause-read t c =
    rw (raw_expr_tree-Chain c.in_ok-first-2.first c.in_ok-rest.rest, c.in_ok-first-2.ensures.ok)
    (rules.binary_chain c.args.text.bytes.now c.args.text.end c.args.depth c.args.level c.args.cursor.now.tokens.now c.binary.new.cursor.tokens.now c.repeated.new.cursor.tokens.now (raw_expr_tree c.in_ok-first.first) (map raw_operand_tree c.in_ok-rest.rest.items)
    c.if-level-ge-LEVELS.false c.in_ok-first.ensures.read c.in_ok-rest.ensures.read)

pub repeated-loop-operator-preserved : goal.repeated-loop-operator-preserved
repeated-loop-operator-preserved t c =
    rw (c.in_ok-push.ensures.items, map-append)
    (rules.repeated_more c.args.text.bytes.now c.args.text.end c.args.depth c.args.level c.args.cursor.now.tokens.now c.loop-operator.cursor.tokens.now c.pass.new.self.tokens.now c.binary.new.cursor.tokens.now (map raw_operand_tree c.loop-operator.rest.items)
    c.in-Some.operator (raw_expr_tree c.in_ok-operand.operand) c.requires.fits c.loop-operator.invariant c.in-Some.ensures.found c.pass.ensures c.in_ok-operand.ensures.read)

pub repeated-returns-clause-read : goal.repeated-returns-clause-read
repeated-returns-clause-read t c =
    rw c.fitted.ensures
    (rules.repeated_done c.args.text.bytes.now c.args.text.end c.args.depth c.args.level c.args.cursor.now.tokens.now c.loop-operator.cursor.tokens.now (map raw_operand_tree c.loop-operator.rest.items) c.loop-operator.invariant c.in_default.ensures.none)

pub repeated-returns-in_err-operand-clause-refused : goal.repeated-returns-in_err-operand-clause-refused
repeated-returns-in_err-operand-clause-refused t c =
    let p = err_from_is_err_and c.from_residual.result c.from_residual.ensures.1 in
    rw (p.1, p.2)
    (rules.repeated_refused c.args.text.bytes.now c.args.text.end c.args.depth c.args.level c.args.cursor.now.tokens.now c.loop-operator.cursor.tokens.now c.pass.new.self.tokens.now (map raw_operand_tree c.loop-operator.rest.items) c.in-Some.operator
    c.in_err-operand.field-0.0 c.requires.fits c.loop-operator.invariant c.in-Some.ensures.found c.pass.ensures c.in_err-operand.ensures.refused)

pub unary-returns-in_default-clause-refused : goal.unary-returns-in_default-clause-refused
unary-returns-in_default-clause-refused t c = operands.unary_end c.args.text.end c.args.depth c.args.cursor.now.tokens.now c.unexpected.result (cc (c.in_default.ensures)) c.unexpected.ensures

pub unary-returns-in_default-unary_of-clause-read : goal.unary-returns-in_default-unary_of-clause-read
unary-returns-in_default-unary_of-clause-read t c =
    IfOk-weaker _ _ _ (λ e h. operands.unary_primary c.args.text.bytes.now c.args.text.end c.args.depth c.args.cursor.now.tokens.now c.primary.new.cursor.tokens.now (raw_expr_tree e) h) c.primary.ensures.read

pub unary-returns-in_err-inside-clause-refused : goal.unary-returns-in_err-inside-clause-refused
unary-returns-in_err-inside-clause-refused t c =
    let p = err_from_is_err_and c.from_residual.result c.from_residual.ensures.1 in
    rw (p.1, p.2) (operands.unary_deep c.args.text.end c.args.depth c.args.cursor.now.tokens.now c.in-Some-unary_of.operator c.in_err-inside.field-0.0 (cc (c.in-Some.ensures, c.in-Some-unary_of.ensures)) c.in_err-inside.ensures.deep)

pub unary-returns-in_err-operand-clause-refused : goal.unary-returns-in_err-operand-clause-refused
unary-returns-in_err-operand-clause-refused t c =
    let p = err_from_is_err_and c.from_residual-in_err-operand.result c.from_residual-in_err-operand.ensures.1 in
    rw (p.1, p.2)
    (operands.unary_refused c.args.text.end c.args.depth c.in_ok-inside.inside c.args.cursor.now.tokens.now c.open.new.self.tokens.now c.in-Some-unary_of.operator c.in_err-operand.field-0.0 (cc (c.in-Some.ensures, c.in-Some-unary_of.ensures))
    c.in_ok-inside.ensures.taken c.in_ok-inside.ensures.fits c.in_err-operand.ensures.refused)

pub unary-returns-clause-read : goal.unary-returns-clause-read
unary-returns-clause-read t c =
    rw (raw_expr_tree-Unary c.in-Some-unary_of.operator c.in_ok-operand-2.operand, c.in_ok-operand-2.ensures.ok)
    (operands.unary_read c.args.text.bytes.now c.args.text.end c.args.depth c.in_ok-inside.inside c.args.cursor.now.tokens.now c.open.new.self.tokens.now c.unary.new.cursor.tokens.now c.in-Some-unary_of.operator (raw_expr_tree c.in_ok-operand.operand)
    (cc (c.in-Some.ensures, c.in-Some-unary_of.ensures)) c.in_ok-inside.ensures.taken c.in_ok-inside.ensures.fits c.in_ok-operand.ensures.read)

pub primary-returns-in_ok-take_number-in-Number-clause-read : goal.primary-returns-in_ok-take_number-in-Number-clause-read
primary-returns-in_ok-take_number-in-Number-clause-read t c =
    rw raw_expr_tree-Number
    (operands.primary_number c.args.text.bytes.now c.args.text.end c.args.depth c.args.cursor.now.tokens.now c.take_number.new.self.tokens.now c.in_ok-take_number-in-Number.field-0 c.requires c.in_ok-take_number-in-Number.ensures.taken)

pub primary-returns-in_ok-name-in-Name-clause-read : goal.primary-returns-in_ok-name-in-Name-clause-read
primary-returns-in_ok-name-in-Name-clause-read t c =
    IfOk-weaker _ _ _
    (λ e h. operands.primary_named c.args.text.bytes.now c.args.text.end c.args.depth c.args.cursor.now.tokens.now c.take_name.new.self.tokens.now c.named.new.cursor.tokens.now (name_tree c.in_ok-name-in-Name.name) (raw_expr_tree e) c.requires
    c.in_ok-name-in-Name.ensures.taken h)
    c.named.ensures.read

pub primary-returns-in_ok-name-in-Name-clause-refused : goal.primary-returns-in_ok-name-in-Name-clause-refused
primary-returns-in_ok-name-in-Name-clause-refused t c =
    IfErr-weaker c.named.result (λ error. Refused c.args.text.end c.args.depth (tasks.AfterName ∷ []) c.take_name.new.self.tokens.now error) (λ error. NoPrefix c.args.cursor.now.tokens.now → Refused c.args.text.end c.args.depth (tasks.Operand ∷ []) c.args.cursor.now.tokens.now error)
    (λ error h free. operands.primary_named_refused c.args.text.bytes.now c.args.text.end c.args.depth c.args.cursor.now.tokens.now c.take_name.new.self.tokens.now (name_tree c.in_ok-name-in-Name.name) error c.requires c.in_ok-name-in-Name.ensures.taken h)
    c.named.ensures.refused

pub primary-returns-in_err-inner-in-LeftParenthesis-clause-refused : goal.primary-returns-in_err-inner-in-LeftParenthesis-clause-refused
primary-returns-in_err-inner-in-LeftParenthesis-clause-refused t c =
    let p = err_from_is_err_and c.from_residual-in_err-inner-in-LeftParenthesis.result c.from_residual-in_err-inner-in-LeftParenthesis.ensures.1 in
    rw (p.1, p.2)
    (λ free. operands.primary_parenthesized_refused c.args.text.end c.args.depth c.args.cursor.now.tokens.now c.in_err-inner-in-LeftParenthesis.field-0.0 (cc (c.in-LeftParenthesis.ensures)) c.in_err-inner-in-LeftParenthesis.ensures.refused)

pub primary-returns-in_ok-inner-in-LeftParenthesis-2-clause-read : goal.primary-returns-in_ok-inner-in-LeftParenthesis-2-clause-read
primary-returns-in_ok-inner-in-LeftParenthesis-2-clause-read t c =
    rw (raw_expr_tree-Parenthesized c.in_ok-inner-in-LeftParenthesis-2.inner, c.in_ok-inner-in-LeftParenthesis-2.ensures.ok)
    (operands.primary_parenthesized c.args.text.bytes.now c.args.text.end c.args.depth c.args.cursor.now.tokens.now c.parenthesized.new.cursor.tokens.now (raw_expr_tree c.in_ok-inner-in-LeftParenthesis.inner) c.in_ok-inner-in-LeftParenthesis.ensures.read)

pub primary-returns-in_default : goal.primary-returns-in_default
primary-returns-in_default t c =
    let e = c.sign.ensures in
    record {
      read = tt;
      refused = λ free. operands.primary_other c.args.text.end c.args.depth c.args.cursor.now.tokens.now c.unexpected.result free (λ n. c.in_default.not-Number (e ∙ n)) (λ n. c.in_default.not-Name (e ∙ n)) (λ n. c.in_default.not-LeftParenthesis (e ∙ n)) c.unexpected.ensures;
    }

pub named-returns-in_default : goal.named-returns-in_default
named-returns-in_default t c =
    let e = c.sign.ensures in
    record {
      read = rw raw_expr_tree-Name (operands.named_alone c.args.text.bytes.now c.args.text.end c.args.depth (name_tree c.args.name) c.args.cursor.now.tokens.now c.requires (λ n. c.in_default.not-LeftParenthesis (e ∙ n)) (λ n. c.in_default.not-LeftBracket (e ∙ n)));
      refused = tt;
    }

pub named-returns-in_ok-arguments-in-LeftParenthesis-clause-read : goal.named-returns-in_ok-arguments-in-LeftParenthesis-clause-read
named-returns-in_ok-arguments-in-LeftParenthesis-clause-read t c =
    rw (raw_expr_tree-Call c.args.name c.in_ok-arguments-in-LeftParenthesis.arguments)
    (operands.named_call c.args.text.bytes.now c.args.text.end c.args.depth (name_tree c.args.name) c.args.cursor.now.tokens.now c.arguments.new.cursor.tokens.now (raw_expr_trees c.in_ok-arguments-in-LeftParenthesis.arguments.items) c.requires
    c.in_ok-arguments-in-LeftParenthesis.ensures.read)

pub element-returns-then-ne-clause-read : goal.element-returns-then-ne-clause-read
element-returns-then-ne-clause-read t c =
    rw (raw_expr_tree-Element c.args.name c.in_ok-index.index, c.in_ok-index.ensures.ok)
    (operands.element_alone c.args.text.bytes.now c.args.text.end c.args.depth (name_tree c.args.name) (raw_expr_tree c.args.index) c.args.cursor.now.tokens.now (not_that_sign c.sign.ensures c.if-ne.ensures))

pub element-returns-in_err-argument-clause-refused : goal.element-returns-in_err-argument-clause-refused
element-returns-in_err-argument-clause-refused t c =
    let p = err_from_is_err_and c.from_residual-in_err-argument.result c.from_residual-in_err-argument.ensures.1 in
    rw (p.1, p.2)
    (operands.element_refused c.args.text.end c.args.depth c.args.cursor.now.tokens.now c.in_err-argument.field-0.0 (no_other_sign c.sign.ensures c.if-ne.ensures) c.in_err-argument.ensures.refused)

pub element-returns-clause-read : goal.element-returns-clause-read
element-returns-clause-read t c =
    rw (raw_expr_tree-TableCall c.args.name c.in_ok-index.index c.in_ok-argument-2.argument, c.in_ok-index.ensures.ok, c.in_ok-argument-2.ensures.ok)
    (operands.element_call c.args.text.bytes.now c.args.text.end c.args.depth (name_tree c.args.name) (raw_expr_tree c.args.index) (raw_expr_tree c.in_ok-argument.argument) c.args.cursor.now.tokens.now c.parenthesized.new.cursor.tokens.now c.in_ok-argument.ensures.read)

pub parenthesized-returns-then-ne-clause-refused : goal.parenthesized-returns-then-ne-clause-refused
parenthesized-returns-then-ne-clause-refused t c = brackets.parenthesized_wrong c.args.text.end c.args.depth c.args.cursor.now.tokens.now c.unexpected.result (not_that_sign c.sign.ensures c.if-ne.ensures) c.unexpected.ensures

pub parenthesized-returns-in_err-inside-clause-refused : goal.parenthesized-returns-in_err-inside-clause-refused
parenthesized-returns-in_err-inside-clause-refused t c =
    let p = err_from_is_err_and c.from_residual.result c.from_residual.ensures.1 in
    rw (p.1, p.2)
    (brackets.parenthesized_deep c.args.text.end c.args.depth c.args.cursor.now.tokens.now c.in_err-inside.field-0.0 (no_other_sign c.sign.ensures c.if-ne.ensures) c.in_err-inside.ensures.deep)

pub parenthesized-returns-in_err-inner-clause-refused : goal.parenthesized-returns-in_err-inner-clause-refused
parenthesized-returns-in_err-inner-clause-refused t c =
    let p = err_from_is_err_and c.from_residual-in_err-inner.result c.from_residual-in_err-inner.ensures.1 in
    rw (p.1, p.2)
    (brackets.parenthesized_inner c.args.text.end c.args.depth c.in_ok-inside.inside c.args.cursor.now.tokens.now c.open.new.self.tokens.now c.in_err-inner.field-0.0 (no_other_sign c.sign.ensures c.if-ne.ensures) c.in_ok-inside.ensures.taken c.in_ok-inside.ensures.fits c.in_err-inner.ensures.refused)

pub parenthesized-returns-in_err-take-clause-refused : goal.parenthesized-returns-in_err-take-clause-refused
parenthesized-returns-in_err-take-clause-refused t c =
    let p = err_from_is_err_and c.from_residual-in_err-take.result c.from_residual-in_err-take.ensures.1 in
    rw (p.1, p.2)
    (brackets.parenthesized_open_end c.args.text.bytes.now c.args.text.end c.args.depth c.in_ok-inside.inside c.args.cursor.now.tokens.now c.open.new.self.tokens.now c.expression.new.cursor.tokens.now (raw_expr_tree c.in_ok-inner.inner) c.in_err-take.field-0.0 (no_other_sign c.sign.ensures c.if-ne.ensures)
    c.in_ok-inside.ensures.taken c.in_ok-inside.ensures.fits c.in_ok-inner.ensures.read c.in_err-take.ensures.place c.in_err-take.ensures.other)

pub parenthesized-returns-clause-read : goal.parenthesized-returns-clause-read
parenthesized-returns-clause-read t c =
    brackets.parenthesized_read c.args.text.bytes.now c.args.text.end c.args.depth c.in_ok-inside.inside c.args.cursor.now.tokens.now c.open.new.self.tokens.now c.expression.new.cursor.tokens.now c.take.new.self.tokens.now (raw_expr_tree c.in_ok-inner.inner) (no_other_sign c.sign.ensures c.if-ne.ensures) c.in_ok-inside.ensures.taken
    c.in_ok-inside.ensures.fits c.in_ok-inner.ensures.read c.in_ok-take.ensures.taken

pub bracketed-returns-in_err-inside-clause-refused : goal.bracketed-returns-in_err-inside-clause-refused
bracketed-returns-in_err-inside-clause-refused t c =
    let p = err_from_is_err_and c.from_residual.result c.from_residual.ensures.1 in
    rw (p.1, p.2) (brackets.bracketed_deep c.args.text.end c.args.depth tasks.AfterName tasks.AfterIndex c.args.cursor.now.tokens.now c.in_err-inside.field-0.0 brackets.Bracketed.primary c.requires.bracket c.in_err-inside.ensures.deep)

pub bracketed-returns-in_err-inside-clause-refused_simple : goal.bracketed-returns-in_err-inside-clause-refused_simple
bracketed-returns-in_err-inside-clause-refused_simple t c =
    let p = err_from_is_err_and c.from_residual.result c.from_residual.ensures.1 in
    rw (p.1, p.2) (brackets.bracketed_deep c.args.text.end c.args.depth tasks.AfterSimpleName tasks.AfterSimpleIndex c.args.cursor.now.tokens.now c.in_err-inside.field-0.0 brackets.Bracketed.simple c.requires.bracket c.in_err-inside.ensures.deep)

pub bracketed-returns-in_err-inner-clause-refused : goal.bracketed-returns-in_err-inner-clause-refused
bracketed-returns-in_err-inner-clause-refused t c =
    let p = err_from_is_err_and c.from_residual-in_err-inner.result c.from_residual-in_err-inner.ensures.1 in
    rw (p.1, p.2)
    (brackets.bracketed_inner c.args.text.end c.args.depth c.in_ok-inside.inside tasks.AfterName tasks.AfterIndex c.args.cursor.now.tokens.now c.open.new.self.tokens.now c.in_err-inner.field-0.0 brackets.Bracketed.primary c.requires.bracket c.in_ok-inside.ensures.taken
    c.in_ok-inside.ensures.fits c.in_err-inner.ensures.refused)

pub bracketed-returns-in_err-inner-clause-refused_simple : goal.bracketed-returns-in_err-inner-clause-refused_simple
bracketed-returns-in_err-inner-clause-refused_simple t c =
    let p = err_from_is_err_and c.from_residual-in_err-inner.result c.from_residual-in_err-inner.ensures.1 in
    rw (p.1, p.2)
    (brackets.bracketed_inner c.args.text.end c.args.depth c.in_ok-inside.inside tasks.AfterSimpleName tasks.AfterSimpleIndex c.args.cursor.now.tokens.now c.open.new.self.tokens.now c.in_err-inner.field-0.0 brackets.Bracketed.simple c.requires.bracket
    c.in_ok-inside.ensures.taken c.in_ok-inside.ensures.fits c.in_err-inner.ensures.refused)

pub bracketed-returns-in_err-take-clause-refused : goal.bracketed-returns-in_err-take-clause-refused
bracketed-returns-in_err-take-clause-refused t c =
    let p = err_from_is_err_and c.from_residual-in_err-take.result c.from_residual-in_err-take.ensures.1 in
    rw (p.1, p.2)
    (brackets.bracketed_open_end c.args.text.bytes.now c.args.text.end c.args.depth c.in_ok-inside.inside tasks.AfterName tasks.AfterIndex c.args.cursor.now.tokens.now c.open.new.self.tokens.now c.expression.new.cursor.tokens.now (raw_expr_tree c.in_ok-inner.inner)
    c.in_err-take.field-0.0 brackets.Bracketed.primary c.requires.bracket c.in_ok-inside.ensures.taken c.in_ok-inside.ensures.fits c.in_ok-inner.ensures.read c.in_err-take.ensures.place c.in_err-take.ensures.other)

pub bracketed-returns-in_err-take-clause-refused_simple : goal.bracketed-returns-in_err-take-clause-refused_simple
bracketed-returns-in_err-take-clause-refused_simple t c =
    let p = err_from_is_err_and c.from_residual-in_err-take.result c.from_residual-in_err-take.ensures.1 in
    rw (p.1, p.2)
    (brackets.bracketed_open_end c.args.text.bytes.now c.args.text.end c.args.depth c.in_ok-inside.inside tasks.AfterSimpleName tasks.AfterSimpleIndex c.args.cursor.now.tokens.now c.open.new.self.tokens.now c.expression.new.cursor.tokens.now
    (raw_expr_tree c.in_ok-inner.inner) c.in_err-take.field-0.0 brackets.Bracketed.simple c.requires.bracket c.in_ok-inside.ensures.taken c.in_ok-inside.ensures.fits c.in_ok-inner.ensures.read c.in_err-take.ensures.place c.in_err-take.ensures.other)

pub bracketed-returns-clause-read : goal.bracketed-returns-clause-read
bracketed-returns-clause-read t c =
    brackets.bracketed_read c.args.text.bytes.now c.args.text.end c.args.depth c.in_ok-inside.inside c.args.cursor.now.tokens.now c.open.new.self.tokens.now c.expression.new.cursor.tokens.now c.take.new.self.tokens.now (raw_expr_tree c.in_ok-inner.inner) c.requires.bracket
    c.in_ok-inside.ensures.taken c.in_ok-inside.ensures.fits c.in_ok-inner.ensures.read c.in_ok-take.ensures.taken

pub arguments-returns-in_err-inside-clause-refused : goal.arguments-returns-in_err-inside-clause-refused
arguments-returns-in_err-inside-clause-refused t c =
    let p = err_from_is_err_and c.from_residual.result c.from_residual.ensures.1 in
    rw (p.1, p.2) (brackets.arguments_deep c.args.text.end c.args.depth tasks.AfterName c.args.cursor.now.tokens.now c.in_err-inside.field-0.0 brackets.Called.primary c.requires.parenthesis c.in_err-inside.ensures.deep)

pub arguments-returns-in_err-inside-clause-refused_simple : goal.arguments-returns-in_err-inside-clause-refused_simple
arguments-returns-in_err-inside-clause-refused_simple t c =
    let p = err_from_is_err_and c.from_residual.result c.from_residual.ensures.1 in
    rw (p.1, p.2) (brackets.arguments_deep c.args.text.end c.args.depth tasks.AfterSimpleName c.args.cursor.now.tokens.now c.in_err-inside.field-0.0 brackets.Called.simple c.requires.parenthesis c.in_err-inside.ensures.deep)

pub arguments-returns-then-eq-clause-read : goal.arguments-returns-then-eq-clause-read
arguments-returns-then-eq-clause-read t c =
    rw c.new-arguments.ensures.items
    (brackets.arguments_none c.args.text.bytes.now c.args.text.end c.args.depth c.in_ok-inside.inside c.args.cursor.now.tokens.now c.open.new.self.tokens.now c.pass.new.self.tokens.now c.requires.fits c.requires.parenthesis c.in_ok-inside.ensures.taken c.in_ok-inside.ensures.fits (sign_is c.sign.ensures c.if-eq.ensures)
    c.pass.ensures)

pub arguments-returns-in_err-expression-clause-refused : goal.arguments-returns-in_err-expression-clause-refused
arguments-returns-in_err-expression-clause-refused t c =
    let p = err_from_is_err_and c.from_residual-in_err-expression.result c.from_residual-in_err-expression.ensures.1 in
    rw (p.1, p.2)
    (brackets.arguments_first_refused c.args.text.end c.args.depth c.in_ok-inside.inside tasks.AfterName c.args.cursor.now.tokens.now c.open.new.self.tokens.now c.in_err-expression.field-0.0 brackets.Called.primary c.requires.parenthesis c.in_ok-inside.ensures.taken c.in_ok-inside.ensures.fits (sign_other c.sign.ensures c.if-eq.ensures) c.in_err-expression.ensures.refused)

pub arguments-returns-in_err-expression-clause-refused_simple : goal.arguments-returns-in_err-expression-clause-refused_simple
arguments-returns-in_err-expression-clause-refused_simple t c =
    let p = err_from_is_err_and c.from_residual-in_err-expression.result c.from_residual-in_err-expression.ensures.1 in
    rw (p.1, p.2)
    (brackets.arguments_first_refused c.args.text.end c.args.depth c.in_ok-inside.inside tasks.AfterSimpleName c.args.cursor.now.tokens.now c.open.new.self.tokens.now c.in_err-expression.field-0.0 brackets.Called.simple c.requires.parenthesis c.in_ok-inside.ensures.taken c.in_ok-inside.ensures.fits (sign_other c.sign.ensures c.if-eq.ensures) c.in_err-expression.ensures.refused)

pub arguments-loop-cursor-init : goal.arguments-loop-cursor-init
arguments-loop-cursor-init t c =
    rw (c.in_ok-push.ensures.items, c.new-arguments.ensures.items)
    (brackets.arguments_first c.args.text.bytes.now c.args.text.end c.args.depth c.in_ok-inside.inside c.args.cursor.now.tokens.now c.open.new.self.tokens.now c.expression.new.cursor.tokens.now (raw_expr_tree c.in_ok-expression.field-0) c.requires.parenthesis c.in_ok-inside.ensures.taken c.in_ok-inside.ensures.fits
    (sign_other c.sign.ensures c.if-eq.ensures) c.in_ok-expression.ensures.read)

pub arguments-loop-cursor-preserved : goal.arguments-loop-cursor-preserved
arguments-loop-cursor-preserved t c =
    rw (c.in_ok-push-2.ensures.items, map-append)
    (brackets.arguments_more c.args.text.bytes.now c.args.text.end c.args.depth c.in_ok-inside.inside c.args.cursor.now.tokens.now c.loop-cursor.cursor.tokens.now c.pass-in-loop-cursor.new.self.tokens.now c.expression-in-loop-cursor.new.cursor.tokens.now (map raw_expr_tree c.loop-cursor.arguments.items) (raw_expr_tree c.in_ok-expression-2.field-0)
    c.in_ok-inside.ensures.taken.0 c.in_ok-inside.ensures.fits c.loop-cursor.invariant (sign_is c.sign-in-loop-cursor.ensures c.loop-cursor-test.ensures) c.pass-in-loop-cursor.ensures c.in_ok-expression-2.ensures.read)

pub arguments-returns-in_err-expression-2-clause-refused : goal.arguments-returns-in_err-expression-2-clause-refused
arguments-returns-in_err-expression-2-clause-refused t c =
    let p = err_from_is_err_and c.from_residual-in_err-expression-2.result c.from_residual-in_err-expression-2.ensures.1 in
    rw (p.1, p.2)
    ((brackets.arguments_more_refused c.args.text.bytes.now c.args.text.end c.args.depth c.in_ok-inside.inside c.args.cursor.now.tokens.now c.loop-cursor.cursor.tokens.now c.pass-in-loop-cursor.new.self.tokens.now (map raw_expr_tree c.loop-cursor.arguments.items) c.in_err-expression-2.field-0.0
    c.in_ok-inside.ensures.taken.0 c.in_ok-inside.ensures.fits c.loop-cursor.invariant (sign_is c.sign-in-loop-cursor.ensures c.loop-cursor-test.ensures) c.pass-in-loop-cursor.ensures c.in_err-expression-2.ensures.refused).0)

pub arguments-returns-in_err-expression-2-clause-refused_simple : goal.arguments-returns-in_err-expression-2-clause-refused_simple
arguments-returns-in_err-expression-2-clause-refused_simple t c =
    let p = err_from_is_err_and c.from_residual-in_err-expression-2.result c.from_residual-in_err-expression-2.ensures.1 in
    rw (p.1, p.2)
    ((brackets.arguments_more_refused c.args.text.bytes.now c.args.text.end c.args.depth c.in_ok-inside.inside c.args.cursor.now.tokens.now c.loop-cursor.cursor.tokens.now c.pass-in-loop-cursor.new.self.tokens.now (map raw_expr_tree c.loop-cursor.arguments.items) c.in_err-expression-2.field-0.0
    c.in_ok-inside.ensures.taken.0 c.in_ok-inside.ensures.fits c.loop-cursor.invariant (sign_is c.sign-in-loop-cursor.ensures c.loop-cursor-test.ensures) c.pass-in-loop-cursor.ensures c.in_err-expression-2.ensures.refused).1)

pub arguments-returns-in_err-take-clause-refused : goal.arguments-returns-in_err-take-clause-refused
arguments-returns-in_err-take-clause-refused t c =
    let p = err_from_is_err_and c.from_residual-in_err-take.result c.from_residual-in_err-take.ensures.1 in
    rw (p.1, p.2)
    ((brackets.arguments_open_end c.args.text.bytes.now c.args.text.end c.args.depth c.args.cursor.now.tokens.now c.loop-cursor.cursor.tokens.now (map raw_expr_tree c.loop-cursor.arguments.items) c.in_err-take.field-0.0 c.loop-cursor.invariant (sign_other c.sign-in-loop-cursor.ensures c.loop-cursor-test.ensures) c.in_err-take.ensures.other
    c.in_err-take.ensures.place).0)

pub arguments-returns-in_err-take-clause-refused_simple : goal.arguments-returns-in_err-take-clause-refused_simple
arguments-returns-in_err-take-clause-refused_simple t c =
    let p = err_from_is_err_and c.from_residual-in_err-take.result c.from_residual-in_err-take.ensures.1 in
    rw (p.1, p.2)
    ((brackets.arguments_open_end c.args.text.bytes.now c.args.text.end c.args.depth c.args.cursor.now.tokens.now c.loop-cursor.cursor.tokens.now (map raw_expr_tree c.loop-cursor.arguments.items) c.in_err-take.field-0.0 c.loop-cursor.invariant (sign_other c.sign-in-loop-cursor.ensures c.loop-cursor-test.ensures) c.in_err-take.ensures.other
    c.in_err-take.ensures.place).1)

pub arguments-returns-clause-read : goal.arguments-returns-clause-read
arguments-returns-clause-read t c =
    rw c.fitted.ensures
    (brackets.arguments_read c.args.text.bytes.now c.args.text.end c.args.depth c.args.cursor.now.tokens.now c.loop-cursor.cursor.tokens.now c.take.new.self.tokens.now (map raw_expr_tree c.loop-cursor.arguments.items) c.requires.fits c.loop-cursor.invariant
    c.in_ok-take.ensures.taken)
