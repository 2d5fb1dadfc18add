use Rattle.codegen_link.proofs.Common.{◌≡◌, ◌++◌, map, take, entry_in}
use Rattle.codegen_link.proofs.areas.push_members.Given as goal

abbrev pub invariant-loop-member : goal.invariant-loop-member
invariant-loop-member l = l.words.items ≡ l.fn.words.items ++ map (entry_in l.facts) (take l.member-index l.members)
