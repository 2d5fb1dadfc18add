-- The scope at a statement, and the next numbers.
use Rattle.std.specs.Prelude.{ℕ, List}
use Rattle.scope_rules.specs.Names.{Binding}
use Rattle.scope_rules.specs.Calls.{next}
use Rattle.scope_rules.specs.declared.places.Place.{Place}

-- the names in scope, the latest first; the number of names outside this scope; the sizes in words of the variables so
-- far; the number of the next site
pub record Spot : Type 0 where
  pub names : List Binding
  pub outer : ℕ
  pub sizes : List ℕ
  pub site : ℕ

abbrev pub spot_of : Place → Spot
spot_of p = record { names = p.names; outer = p.outer; sizes = p.sizes.items; site = p.site }

-- after a call
abbrev pub called : Spot → Spot
called s = record s { site = next s.site }
