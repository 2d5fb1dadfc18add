use Rattle.grammar_reader.proofs.Common.{map, length, option_map, name_tree, ReadingParameters}
use Rattle.grammar_reader.proofs.parameters.parameter_list.Given as goal

abbrev pub invariant-loop-cursor : goal.invariant-loop-cursor
invariant-loop-cursor l = ReadingParameters l.fn.text.bytes.now l.fn.text.end l.fn.cursor.tokens.now (map (option_map name_tree) l.params.items) l.cursor.tokens.now

abbrev pub decreases-loop-cursor : goal.decreases-loop-cursor
decreases-loop-cursor l = length l.cursor.tokens.now
