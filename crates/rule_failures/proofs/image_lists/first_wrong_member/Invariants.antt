use Rattle.rule_failures.proofs.Common.{◌≡◌, ℕ, ◌<◌, length, take, slice_get, sum_by, program_code, member_entries}
use Rattle.rule_failures.proofs.image_lists.first_wrong_member.Given as goal

abbrev pub invariant-loop-table : goal.invariant-loop-table
invariant-loop-table l = record {
  items : l.table-items ≡ l.flat.tables.items;
  passed : l.passed ≡ sum_by length (take l.table-index l.flat.tables.items);
  lower : (i : ℕ) → i < l.passed → slice_get l.words i ≡ slice_get (member_entries (program_code l.flat) l.certificate) i;
}
