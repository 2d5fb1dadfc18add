use Rattle.scope_rules.proofs.Common.{◌≡◌, ◌≤◌, map, reverse, length, take, find, binding_of, AreLinked}
use Rattle.scope_rules.proofs.names.Names.find_recent.Given as goal

abbrev pub invariant-loop-left : goal.invariant-loop-left
invariant-loop-left l = record {
  within : l.left ≤ length l.self-inside.declared.items;
  linked : AreLinked (reverse (take l.left l.self-inside.declared.items));
  others : find l.text (map binding_of (reverse l.self-inside.declared.items)) ≡ find l.text (map binding_of (reverse (take l.left l.self-inside.declared.items)));
}

abbrev pub decreases-loop-left : goal.decreases-loop-left
decreases-loop-left l = l.left
