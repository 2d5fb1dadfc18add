use Rattle.grammar_reader.proofs.Common.{map, length, name_tree, ReadingMembers}
use Rattle.grammar_reader.proofs.tables.members.Given as goal

abbrev pub invariant-loop-cursor : goal.invariant-loop-cursor
invariant-loop-cursor l = ReadingMembers l.fn.text.bytes.now l.fn.text.end l.fn.cursor.tokens.now (map name_tree l.members.items) l.cursor.tokens.now

abbrev pub decreases-loop-cursor : goal.decreases-loop-cursor
decreases-loop-cursor l = length l.cursor.tokens.now
