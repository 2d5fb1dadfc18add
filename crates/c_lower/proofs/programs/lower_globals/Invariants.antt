use Rattle.c_lower.proofs.Common.{◌≡◌, ◌++◌, map, drop, lowered_global}
use Rattle.c_lower.proofs.programs.lower_globals.Given as goal

abbrev pub invariant-loop-global : goal.invariant-loop-global
invariant-loop-global l = l.list.items ++ map lowered_global (drop l.global-index l.globals) ≡ map lowered_global l.globals
