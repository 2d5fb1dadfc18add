use Rattle.codegen_link.proofs.Common.{◌≡◌, map, take, flat_map, entry_in}
use Rattle.codegen_link.proofs.areas.table_words.Given as goal

abbrev pub invariant-loop-members : goal.invariant-loop-members
invariant-loop-members l = l.words.items ≡ flat_map (map (entry_in l.facts)) (take l.members-index l.members-items)
