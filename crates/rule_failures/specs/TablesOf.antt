-- What is known of the tables that are computed from a program and its certificate.
use Rattle.std.specs.Prelude.{◌≡◌, ℕ, ◌<◌, length, map, slice_index}
use Rattle.flat_code.specs.Codes.{FlatCode}
use Rattle.stack_certificate.specs.declared.certificates.Certificate.{Certificate}
use Rattle.stack_certificate.specs.Certificates.{global_address, table_address}
use Rattle.certificate_rules.specs.Sites.{greatest_bound}
use Rattle.rule_failures.specs.declared.tables.Tables.{Tables}

-- the address of each global and table, and the greatest bound of each table's members
pub record AreTablesOf (code : FlatCode) (certificate : Certificate) (tables : Tables) : Type 0 where
  pub global_count : length tables.global_addresses.items ≡ length code.globals
  pub global : (g : ℕ) → g < length code.globals → slice_index tables.global_addresses.items g ≡ global_address code g
  pub table_count : length tables.table_addresses.items ≡ length code.tables
  pub table : (t : ℕ) → t < length code.tables → slice_index tables.table_addresses.items t ≡ table_address code t
  pub bounds : tables.member_bounds.items ≡ map (greatest_bound certificate) code.tables
