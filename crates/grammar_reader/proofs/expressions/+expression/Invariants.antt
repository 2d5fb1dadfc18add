use Rattle.grammar_reader.proofs.Common.{◌+◌, ◌-◌, ◌*◌, map, length, raw_expr_tree, raw_operand_tree, ReadingRepeated, ReadingArguments}
use Rattle.grammar_reader.proofs.expressions.+expression.Given as goal

-- thirty-two times the tokens that are left, and a rank: who calls another at the same token has the higher one
abbrev pub decreases-arguments : goal.decreases-arguments
decreases-arguments l = 32 * length l.cursor.now.tokens.now + 1

abbrev pub decreases-bracketed : goal.decreases-bracketed
decreases-bracketed l = 32 * length l.cursor.now.tokens.now + 1

abbrev pub decreases-parenthesized : goal.decreases-parenthesized
decreases-parenthesized l = 32 * length l.cursor.now.tokens.now + 1

abbrev pub decreases-conditional : goal.decreases-conditional
decreases-conditional l = 32 * length l.cursor.now.tokens.now + 2

abbrev pub decreases-branches : goal.decreases-branches
decreases-branches l = 32 * length l.cursor.now.tokens.now + 1

abbrev pub decreases-repeated : goal.decreases-repeated
decreases-repeated l = 32 * length l.cursor.now.tokens.now + 1

abbrev pub decreases-element : goal.decreases-element
decreases-element l = 32 * length l.cursor.now.tokens.now + 2

abbrev pub decreases-named : goal.decreases-named
decreases-named l = 32 * length l.cursor.now.tokens.now + 3

abbrev pub decreases-primary : goal.decreases-primary
decreases-primary l = 32 * length l.cursor.now.tokens.now + 4

abbrev pub decreases-unary : goal.decreases-unary
decreases-unary l = 32 * length l.cursor.now.tokens.now + 5

abbrev pub decreases-binary : goal.decreases-binary
decreases-binary l = 32 * length l.cursor.now.tokens.now + (16 - l.level)

abbrev pub decreases-expression : goal.decreases-expression
decreases-expression l = 32 * length l.cursor.now.tokens.now + 17

abbrev pub invariant-arguments-loop-cursor : goal.invariant-arguments-loop-cursor
invariant-arguments-loop-cursor l =
    ReadingArguments l.fn.text.bytes.now l.fn.text.end l.fn.depth l.fn.cursor.tokens.now (map raw_expr_tree l.arguments.items) l.cursor.tokens.now

abbrev pub decreases-arguments-loop-cursor : goal.decreases-arguments-loop-cursor
decreases-arguments-loop-cursor l = length l.cursor.tokens.now

abbrev pub invariant-repeated-loop-operator : goal.invariant-repeated-loop-operator
invariant-repeated-loop-operator l =
    ReadingRepeated l.fn.text.bytes.now l.fn.text.end l.fn.depth l.fn.level l.fn.cursor.tokens.now (map raw_operand_tree l.rest.items) l.cursor.tokens.now

abbrev pub decreases-repeated-loop-operator : goal.decreases-repeated-loop-operator
decreases-repeated-loop-operator l = length l.cursor.tokens.now
