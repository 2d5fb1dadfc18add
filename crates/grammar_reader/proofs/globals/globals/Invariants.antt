use Rattle.grammar_reader.proofs.Common.{map, length, name_tree, raw_item_tree, ReadingGlobals}
use Rattle.grammar_reader.proofs.globals.globals.Given as goal

abbrev pub invariant-loop-cursor : goal.invariant-loop-cursor
invariant-loop-cursor l =
    ReadingGlobals l.fn.text.bytes.now l.fn.text.end (name_tree l.fn.first) l.fn.cursor.tokens.now (map raw_item_tree l.fn.items.items) (map raw_item_tree l.items.items) l.cursor.tokens.now

abbrev pub decreases-loop-cursor : goal.decreases-loop-cursor
decreases-loop-cursor l = length l.cursor.tokens.now
