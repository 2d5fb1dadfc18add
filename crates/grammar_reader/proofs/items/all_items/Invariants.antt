use Rattle.grammar_reader.proofs.Common.{map, length, raw_item_tree, ReadingItems}
use Rattle.grammar_reader.proofs.items.all_items.Given as goal

abbrev pub invariant-loop-text : goal.invariant-loop-text
invariant-loop-text l = ReadingItems l.fn.text.bytes.now l.fn.text.end l.fn.cursor.tokens.now (map raw_item_tree l.items.items) l.cursor.tokens.now

abbrev pub decreases-loop-text : goal.decreases-loop-text
decreases-loop-text l = length l.cursor.tokens.now
