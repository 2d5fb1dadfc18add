use Rattle.grammar_reader.proofs.Common.{ℕ, List, [], ◌∷◌, map, ap, ◌∙◌, map-append, IfOk-at_ok, IfOk-weaker, IfErr-weaker, Token, raw_stmt_tree, raw_stmt_tree-Empty, raw_stmt_tree-Block, raw_stmt_tree-If, raw_stmt_tree-IfElse, raw_stmt_tree-While, raw_stmt_tree-For, Body, Refused, ReadsBody}
use Rattle.c_tree.specs.declared.raw_statements.RawStmt.{RawStmt}
use Rattle.grammar_reader.proofs.SignTests.{no_other_sign, not_that_sign}
use Rattle.grammar_reader.proofs.Paths.{exit, arm_is, arm_other, sign_other}
use Rattle.grammar_reader.proofs.HeldValues.{next_pushed, unless_memory}
use Rattle.grammar_reader.proofs.BodyRules as rules
use Rattle.grammar_reader.proofs.BodyRules.{Construct}
use Rattle.grammar_reader.proofs.statements.+statement.Goals as goal

pub block-loop-text-init : goal.block-loop-text-init
block-loop-text-init t c = rw c.new-stmts.ensures.items (rules.block_start _ _ _ _ _ _ c.requires.brace c.in_ok-inside.ensures.taken c.in_ok-inside.ensures.fits)

pub block-returns-in_err-inside-clause-refused : goal.block-returns-in_err-inside-clause-refused
block-returns-in_err-inside-clause-refused t c = exit _ _ c.from_residual.ensures.1 (rules.block_deep _ _ _ _ c.requires.brace c.in_err-inside.ensures.deep)

pub block-returns-clause-read : goal.block-returns-clause-read
block-returns-clause-read t c = rules.block_done _ _ _ _ _ _ _ c.requires.fits c.requires.brace c.loop-text.invariant (no_other_sign c.sign.ensures c.loop-text-test.ensures) c.pass.ensures

pub statement-returns-in-Semicolon-clause-read : goal.statement-returns-in-Semicolon-clause-read
statement-returns-in-Semicolon-clause-read t c = rw raw_stmt_tree-Empty (rules.empty_read _ _ _ _ _ c.requires (arm_is c.sign.ensures c.in-Semicolon.is) c.pass.ensures)

pub statement-simple_statement-requires-clause-other : goal.statement-simple_statement-requires-clause-other
statement-simple_statement-requires-clause-other t c =
    rules.no_statement _
    (arm_other c.sign.ensures c.in_default.not-Semicolon) (arm_other c.sign.ensures c.in_default.not-LeftBrace) (arm_other c.sign.ensures c.in_default.not-If) (arm_other c.sign.ensures c.in_default.not-While) (arm_other c.sign.ensures c.in_default.not-For)
    (arm_other c.sign.ensures c.in_default.not-Break) (arm_other c.sign.ensures c.in_default.not-Continue) (arm_other c.sign.ensures c.in_default.not-Return)

abbrev ReadsStmt : List ℕ → ℕ → ℕ → List Token → List Token → RawStmt → Type 0
ReadsStmt source end depth before after s = ReadsBody source end depth before (raw_stmt_tree s) after

pub if_statement-returns-in_err-inside-clause-refused : goal.if_statement-returns-in_err-inside-clause-refused
if_statement-returns-in_err-inside-clause-refused t c = exit _ _ c.from_residual.ensures.1 (rules.construct_deep _ _ _ _ Construct.if_construct c.requires.keyword c.in_err-inside.ensures.deep)

pub if_statement-returns-in_err-condition-clause-refused : goal.if_statement-returns-in_err-condition-clause-refused
if_statement-returns-in_err-condition-clause-refused t c =
    exit _ _ c.from_residual-in_err-condition.ensures.1 (rules.if_condition_refused _ _ _ _ _ _ c.requires.keyword c.in_ok-inside.ensures.taken c.in_ok-inside.ensures.fits c.in_err-condition.ensures.refused)

pub while_statement-returns-in_err-inside-clause-refused : goal.while_statement-returns-in_err-inside-clause-refused
while_statement-returns-in_err-inside-clause-refused t c = exit _ _ c.from_residual.ensures.1 (rules.construct_deep _ _ _ _ Construct.while_construct c.requires.keyword c.in_err-inside.ensures.deep)

pub while_statement-returns-in_err-condition-clause-refused : goal.while_statement-returns-in_err-condition-clause-refused
while_statement-returns-in_err-condition-clause-refused t c =
    exit _ _ c.from_residual-in_err-condition.ensures.1 (rules.while_condition_refused _ _ _ _ _ _ c.requires.keyword c.in_ok-inside.ensures.taken c.in_ok-inside.ensures.fits c.in_err-condition.ensures.refused)

pub for_statement-returns-in_err-inside-clause-refused : goal.for_statement-returns-in_err-inside-clause-refused
for_statement-returns-in_err-inside-clause-refused t c = exit _ _ c.from_residual.ensures.1 (rules.construct_deep _ _ _ _ Construct.for_construct c.requires.keyword c.in_err-inside.ensures.deep)

pub for_statement-returns-in_err-parts-clause-refused : goal.for_statement-returns-in_err-parts-clause-refused
for_statement-returns-in_err-parts-clause-refused t c =
    exit _ _ c.from_residual-in_err-parts.ensures.1 (rules.for_parts_refused _ _ _ _ _ _ c.requires.keyword c.in_ok-inside.ensures.taken c.in_ok-inside.ensures.fits c.in_err-parts.ensures.refused)

pub block-loop-text-preserved : goal.block-loop-text-preserved
block-loop-text-preserved t c = rules.block_more _ _ _ _ _ _ _ _ _ c.in_ok-inside.ensures.taken.0 c.loop-text.invariant c.in-Ok.ensures.read

pub block-returns-in-Err-clause-refused : goal.block-returns-in-Err-clause-refused
block-returns-in-Err-clause-refused t c = rules.block_more_refused _ _ _ _ _ _ _ _ c.in_ok-inside.ensures.taken.0 c.loop-text.invariant c.in-Err.ensures.refused

pub block_item-returns-clause-refused : goal.block_item-returns-clause-refused
block_item-returns-clause-refused t c =
    IfErr-weaker c.push_next.result _ _
    (λ error h. unless_memory (Refused c.args.text.end c.args.depth (Body ∷ []) c.args.cursor.now.tokens.now) c.statement.result error h c.statement.ensures.refused (λ r. rules.item_refused _ _ _ _ c.requires.some (sign_other c.sign.ensures c.if-eq.ensures) r))
    c.push_next.ensures.refused

pub block_item-returns-clause-read : goal.block_item-returns-clause-read
block_item-returns-clause-read t c =
    IfOk-weaker c.push_next.result _ _
    (λ u h.
    let p = next_pushed (ReadsStmt c.args.text.bytes.now c.args.text.end c.args.depth c.args.cursor.now.tokens.now c.statement.new.cursor.tokens.now) c.statement.result _ _ h c.statement.ensures.read in
    rules.item_read _ _ _ _ _ _ _ _ c.requires.some (sign_other c.sign.ensures c.if-eq.ensures) p.2
    (ap (map raw_stmt_tree) p.1 ∙ map-append raw_stmt_tree c.args.stmts.now.items (p.0 ∷ [])))
    c.push_next.ensures.pushed

pub statement-returns-in_err-stmts-in-LeftBrace-clause-refused : goal.statement-returns-in_err-stmts-in-LeftBrace-clause-refused
statement-returns-in_err-stmts-in-LeftBrace-clause-refused t c = exit _ _ c.from_residual.ensures.1 (rules.block_stmt_refused _ _ _ _ c.in_err-stmts-in-LeftBrace.ensures.refused)

pub statement-returns-in_ok-stmts-in-LeftBrace-clause-read : goal.statement-returns-in_ok-stmts-in-LeftBrace-clause-read
statement-returns-in_ok-stmts-in-LeftBrace-clause-read t c = rw (raw_stmt_tree-Block c.in_ok-stmts-in-LeftBrace.stmts) (rules.block_stmt _ _ _ _ _ _ c.in_ok-stmts-in-LeftBrace.ensures.read)

pub boxed_statement-returns-clause-refused : goal.boxed_statement-returns-clause-refused
boxed_statement-returns-clause-refused t c =
    IfErr-weaker c.boxed.result _ _ (λ error h. unless_memory (Refused c.args.text.end c.args.depth (Body ∷ []) c.args.cursor.now.tokens.now) c.statement.result error h c.statement.ensures.refused (λ r. r)) c.boxed.ensures.refused

pub boxed_statement-returns-clause-read : goal.boxed_statement-returns-clause-read
boxed_statement-returns-clause-read t c =
    IfOk-weaker c.boxed.result _ _ (λ made e. IfOk-at_ok (ReadsStmt c.args.text.bytes.now c.args.text.end c.args.depth c.args.cursor.now.tokens.now c.statement.new.cursor.tokens.now) e c.statement.ensures.read) c.boxed.ensures.had

pub if_statement-returns-in-Err-clause-refused : goal.if_statement-returns-in-Err-clause-refused
if_statement-returns-in-Err-clause-refused t c = rules.if_then_refused _ _ _ _ _ _ _ _ _ c.requires.keyword c.in_ok-inside.ensures.taken c.in_ok-inside.ensures.fits c.in_ok-condition.ensures.read c.in-Err.ensures.refused

pub if_statement-returns-then-ne-clause-read : goal.if_statement-returns-then-ne-clause-read
if_statement-returns-then-ne-clause-read t c =
    rw (raw_stmt_tree-If c.in_ok-condition.condition c.in-Ok.then)
    (rules.if_read _ _ _ _ _ _ _ _ _ _ c.requires.keyword c.in_ok-inside.ensures.taken c.in_ok-inside.ensures.fits c.in_ok-condition.ensures.read c.in-Ok.ensures.read (not_that_sign c.sign.ensures c.if-ne.ensures))

pub if_statement-returns-in-Err-boxed_statement-clause-refused : goal.if_statement-returns-in-Err-boxed_statement-clause-refused
if_statement-returns-in-Err-boxed_statement-clause-refused t c =
    rules.if_else_refused _ _ _ _ _ _ _ _ _ _ _ _ c.requires.keyword c.in_ok-inside.ensures.taken c.in_ok-inside.ensures.fits c.in_ok-condition.ensures.read c.in-Ok.ensures.read
    (no_other_sign c.sign.ensures c.if-ne.ensures) c.pass.ensures c.in-Err-boxed_statement.ensures.refused

pub if_statement-returns-in-Ok-boxed_statement-clause-read : goal.if_statement-returns-in-Ok-boxed_statement-clause-read
if_statement-returns-in-Ok-boxed_statement-clause-read t c =
    rw (raw_stmt_tree-IfElse c.in_ok-condition.condition c.in-Ok.then c.in-Ok-boxed_statement.otherwise)
    (rules.if_else_read _ _ _ _ _ _ _ _ _ _ _ _ _ c.requires.keyword c.in_ok-inside.ensures.taken c.in_ok-inside.ensures.fits c.in_ok-condition.ensures.read c.in-Ok.ensures.read (no_other_sign c.sign.ensures c.if-ne.ensures) c.pass.ensures c.in-Ok-boxed_statement.ensures.read)

pub while_statement-returns-in-Err-clause-refused : goal.while_statement-returns-in-Err-clause-refused
while_statement-returns-in-Err-clause-refused t c = rules.while_body_refused _ _ _ _ _ _ _ _ _ c.requires.keyword c.in_ok-inside.ensures.taken c.in_ok-inside.ensures.fits c.in_ok-condition.ensures.read c.in-Err.ensures.refused

pub while_statement-returns-in-Ok-clause-read : goal.while_statement-returns-in-Ok-clause-read
while_statement-returns-in-Ok-clause-read t c =
    rw (raw_stmt_tree-While c.in_ok-condition.condition c.in-Ok.body)
    (rules.while_read _ _ _ _ _ _ _ _ _ _ c.requires.keyword c.in_ok-inside.ensures.taken c.in_ok-inside.ensures.fits c.in_ok-condition.ensures.read c.in-Ok.ensures.read)

pub for_statement-returns-in-Err-clause-refused : goal.for_statement-returns-in-Err-clause-refused
for_statement-returns-in-Err-clause-refused t c = rules.for_body_refused _ _ _ _ _ _ _ _ _ _ _ c.requires.keyword c.in_ok-inside.ensures.taken c.in_ok-inside.ensures.fits c.in_ok-parts.ensures.read c.in-Err.ensures.refused

pub for_statement-returns-in-Ok-clause-read : goal.for_statement-returns-in-Ok-clause-read
for_statement-returns-in-Ok-clause-read t c =
    rw (raw_stmt_tree-For c.in_ok-parts-2.parts c.in-Ok.body, c.in_ok-parts-2.ensures.ok)
    (rules.for_read _ _ _ _ _ _ _ _ _ _ _ _ c.requires.keyword c.in_ok-inside.ensures.taken c.in_ok-inside.ensures.fits c.in_ok-parts.ensures.read c.in-Ok.ensures.read)
