use Rattle.certificate_check.proofs.Common.{◌≡◌, map, take, greatest_bound}
use Rattle.certificate_check.proofs.tables.member_bounds.Given as goal

abbrev pub invariant-loop-table : goal.invariant-loop-table
invariant-loop-table l = l.bounds.items ≡ map (greatest_bound l.certificate) (take l.table-index l.table-items)
