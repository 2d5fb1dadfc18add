-- The rules of scope that a source breaks, and which of them is reported.
use Rattle.std.specs.Prelude.{ℕ, Bool, true, false, ◌||◌, ◌&&◌, nat_eq, nat_lt, List, [], ◌∷◌, Option, Some, None, if◌then◌else◌}
use Rattle.scope_rules.specs.declared.faults.Rule.{Rule}
use Rattle.scope_rules.specs.declared.faults.Fault.{Fault}

-- the order of the rules at one place
abbrev pub rank : Rule → ℕ
rank Rule.Unknown = 0
rank Rule.Twice = 1
rank Rule.Arity = 2
rank Rule.Kind = 3

-- a rule broken at a place
abbrev pub fault : ℕ → Rule → Fault
fault at r = record { at = at; rule = r }

-- that rule, if it is broken
abbrev pub broken : Bool → ℕ → Rule → List Fault
broken true at r = fault at r ∷ []
broken false at r = []

-- whether a fault takes precedence over another: its place is less, or the places are equal and its rule comes first in
-- their order
abbrev pub is_before : Fault → Fault → Bool
is_before f g = nat_lt f.at g.at || (nat_eq f.at g.at && nat_lt (rank f.rule) (rank g.rule))

-- the least fault, of the least so far and one more
abbrev pub lesser : Option Fault → Fault → Option Fault
lesser None f = Some f
lesser (Some e) f = if is_before f e then Some f else Some e

-- the least fault, of the least so far and some more
abbrev pub least_of : Option Fault → List Fault → Option Fault
least_of o [] = o
least_of o (f ∷ fs) = least_of (lesser o f) fs
