-- The value of a chain of operators, which group to the left, from the value of the operand to their left.
use Rattle.std.specs.Prelude.{◌≡◌, ℕ, List, [], ◌∷◌, Ok, Err}
use Rattle.cap_word.specs.declared.traps.TrapKind.{TrapKind}
use Rattle.c_tree.specs.declared.operators.Infix.{Infix}
use Rattle.c_tree.specs.Trees.{ExprTree}
use Rattle.c_mean.specs.Operators.{binary_value}
use Rattle.c_mean.specs.Values.{Value, on_both, choice, truth, value}

abbrev pub joined_value : Infix → Value → Value → Value
joined_value (Infix.Binary operator) l r = on_both (binary_value operator) l r
joined_value Infix.LogicalAnd l r = choice l (truth r) (Ok 0)
joined_value Infix.LogicalOr l r = choice l (Ok 1) (truth r)

abbrev pub chain_value : List (List ℕ) → List (List ℕ) → Value → List (Infix × ExprTree) → Value
chain_value names globals left [] = left
chain_value names globals left (p ∷ ps) = chain_value names globals (joined_value p.0 left (value names globals p.1)) ps

-- the left operand alone determines the value
abbrev pub IsDecided : Infix → ℕ → ℕ → Type 0
IsDecided operator left word = (right : Value) → joined_value operator (Ok left) right ≡ Ok word

-- the right operand is evaluated
abbrev pub IsOpen : Infix → ℕ → Type 0
IsOpen operator left = (trap : TrapKind) → joined_value operator (Ok left) (Err trap) ≡ Err trap
