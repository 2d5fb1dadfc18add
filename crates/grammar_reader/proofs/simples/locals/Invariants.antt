use Rattle.grammar_reader.proofs.Common.{map, length, raw_simple_tree, ReadingLocals}
use Rattle.grammar_reader.proofs.simples.locals.Given as goal

abbrev pub invariant-loop-cursor : goal.invariant-loop-cursor
invariant-loop-cursor l = ReadingLocals l.fn.text.bytes.now l.fn.text.end l.fn.depth l.fn.cursor.tokens.now (map raw_simple_tree l.simples.items) l.cursor.tokens.now

abbrev pub decreases-loop-cursor : goal.decreases-loop-cursor
decreases-loop-cursor l = length l.cursor.tokens.now
