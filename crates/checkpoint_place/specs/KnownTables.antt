-- The greatest bounds of tables' members, stored when first computed.
use Rattle.std.specs.Prelude.{ℕ, ◌≡◌, true, Option, Some, None, List, [], length}
use Rattle.std.specs.List.{AllByRecursion, slice_index_or}
use Rattle.call_graph.specs.declared.sites.GraphSite.{GraphSite}
use Rattle.call_graph.specs.Callees.{callees, greatest}
use Rattle.call_graph.specs.Lists.{has}

-- what is known of a table
abbrev pub known_at : List (Option ℕ) → ℕ → Option ℕ
known_at known table = slice_index_or known table None

-- what is known of a table is the greatest bound of its members
pub record IsKnown (tables : List (List ℕ)) (bound : ℕ → ℕ) (known : List (Option ℕ)) : Type 0 where
  pub each : length known ≡ length tables
  pub most : (table value : ℕ) → known_at known table ≡ Some value → value ≡ greatest bound (slice_index_or tables table [])

-- each of some functions is among these
abbrev pub AreAmong : List ℕ → List ℕ → Type 0
AreAmong others functions = AllByRecursion (λ f. has f others ≡ true) functions

-- each callee of some sites is among these
abbrev pub CallAmong : List (List ℕ) → List ℕ → List GraphSite → Type 0
CallAmong tables others sites = AllByRecursion (λ site. AreAmong others (callees tables site.target)) sites

-- each member of a table with a known bound is among these
abbrev pub AreKnownAmong : List (List ℕ) → List ℕ → List (Option ℕ) → Type 0
AreKnownAmong tables others known =
    (table value : ℕ) → known_at known table ≡ Some value → AreAmong others (slice_index_or tables table [])
