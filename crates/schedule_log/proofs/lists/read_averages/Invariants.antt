use Rattle.schedule_log.proofs.Common.{◌≡◌, ◌-◌, ◌≤◌, ◌++◌, map, take, length, FitsSigned, w128, AllByRecursion, canonical_integer}
use Rattle.schedule_log.proofs.lists.read_averages.Given as goal

abbrev pub invariant-loop-values : goal.invariant-loop-values
invariant-loop-values l = record {
  read : l.fn.fields ≡ map canonical_integer (take l.count l.values) ++ l.fields;
  most : l.count ≤ 8;
  eight : length l.values ≡ 8;
  fits : AllByRecursion (FitsSigned w128) (take l.count l.values);
}

abbrev pub decreases-loop-values : goal.decreases-loop-values
decreases-loop-values l = 8 - l.count
