use Rattle.scope_rules.proofs.Common.{◌≡◌, ◌≤◌, ◌+◌, drop, sum, map, length, capped, table_row}
use Rattle.scope_rules.proofs.limits.table_members.Given as goal

abbrev pub invariant-loop-table : goal.invariant-loop-table
invariant-loop-table l = (l.total ≤ 65537) × (capped (l.total + sum (map length (map table_row (drop l.table-index l.tables)))) ≡ capped (sum (map length (map table_row l.tables))))
