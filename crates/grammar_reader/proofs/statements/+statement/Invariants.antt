use Rattle.grammar_reader.proofs.Common.{◌+◌, ◌*◌, map, length, raw_stmt_tree, ReadingBlock}
use Rattle.grammar_reader.proofs.statements.+statement.Given as goal

-- four times the tokens that are left, and a rank: who calls another at the same token has the higher one
abbrev pub decreases-block : goal.decreases-block
decreases-block l = 4 * length l.cursor.now.tokens.now

abbrev pub decreases-if_statement : goal.decreases-if_statement
decreases-if_statement l = 4 * length l.cursor.now.tokens.now

abbrev pub decreases-while_statement : goal.decreases-while_statement
decreases-while_statement l = 4 * length l.cursor.now.tokens.now

abbrev pub decreases-for_statement : goal.decreases-for_statement
decreases-for_statement l = 4 * length l.cursor.now.tokens.now

abbrev pub decreases-statement : goal.decreases-statement
decreases-statement l = 4 * length l.cursor.now.tokens.now + 1

abbrev pub decreases-boxed_statement : goal.decreases-boxed_statement
decreases-boxed_statement l = 4 * length l.cursor.now.tokens.now + 2

abbrev pub decreases-block_item : goal.decreases-block_item
decreases-block_item l = 4 * length l.cursor.now.tokens.now + 2

abbrev pub invariant-block-loop-text : goal.invariant-block-loop-text
invariant-block-loop-text l = ReadingBlock l.fn.text.bytes.now l.fn.text.end l.fn.depth l.fn.cursor.tokens.now (map raw_stmt_tree l.stmts.items) l.cursor.tokens.now

abbrev pub decreases-block-loop-text : goal.decreases-block-loop-text
decreases-block-loop-text l = length l.cursor.tokens.now
