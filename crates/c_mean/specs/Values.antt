-- The value of an expression, or its first trap, from the words of names and globals: ISO/IEC 9899:2018, 6.5, from
-- left to right. `&&`, `||` and `?:` evaluate only the operands that they need.
use Rattle.std.specs.Prelude.{ℕ, zero, suc, Bool, true, false, List, [], ◌∷◌, nat_lt, Result, Ok, Err}
use Rattle.cap_word.specs.Rows.{width, word_at}
use Rattle.cap_word.specs.declared.traps.TrapKind.{TrapKind}
use Rattle.c_tree.specs.Trees.{ExprTree, Number, Local, Global, LocalElement, GlobalElement, Unary, Parenthesized, Binary, LogicalAnd, LogicalOr, Conditional}
use Rattle.c_mean.specs.Operators.{unary_value, binary_value}

-- a word, or the first trap in the evaluation
abbrev pub Value : Type 0
Value = Result ℕ TrapKind

-- the word if its index is in range, and otherwise the trap
abbrev pub in_range : Bool → ℕ → Value
in_range true word = Ok word
in_range false word = Err TrapKind.Index

-- an element by its unsigned index
abbrev pub element : List (List ℕ) → ℕ → Value → Value
element rows a (Ok i) = in_range (nat_lt i (width rows a)) (word_at rows a i)
element rows a (Err trap) = Err trap

abbrev pub on_one : (ℕ → ℕ) → Value → Value
on_one operator (Ok a) = Ok (operator a)
on_one operator (Err trap) = Err trap

-- an operator on two values; the trap of the left operand takes precedence
abbrev pub on_both : (ℕ → ℕ → ℕ) → Value → Value → Value
on_both operator (Ok a) (Ok b) = Ok (operator a b)
on_both operator (Ok a) (Err trap) = Err trap
on_both operator (Err trap) right = Err trap

-- 1 if a value isn't 0, and 0 otherwise
abbrev pub truth : Value → Value
truth (Ok zero) = Ok 0
truth (Ok (suc a)) = Ok 1
truth (Err trap) = Err trap

-- the first of two values if a condition isn't 0, and otherwise the second; the other one isn't evaluated
abbrev pub choice : Value → Value → Value → Value
choice (Ok zero) first second = second
choice (Ok (suc a)) first second = first
choice (Err trap) first second = Err trap

abbrev pub value : List (List ℕ) → List (List ℕ) → ExprTree → Value
value names globals (Number v) = Ok v
value names globals (Local x) = Ok (word_at names x 0)
value names globals (Global g) = Ok (word_at globals g 0)
value names globals (LocalElement a i) = element names a (value names globals i)
value names globals (GlobalElement a i) = element globals a (value names globals i)
value names globals (Unary operator e) = on_one (unary_value operator) (value names globals e)
value names globals (Parenthesized e) = value names globals e
value names globals (Binary operator l r) = on_both (binary_value operator) (value names globals l) (value names globals r)
value names globals (LogicalAnd l r) = choice (value names globals l) (truth (value names globals r)) (Ok 0)
value names globals (LogicalOr l r) = choice (value names globals l) (Ok 1) (truth (value names globals r))
value names globals (Conditional c a b) = choice (value names globals c) (value names globals a) (value names globals b)

-- the values of arguments, from left to right, or their first trap
abbrev pub with_first : Value → Result (List ℕ) TrapKind → Result (List ℕ) TrapKind
with_first (Ok a) (Ok rest) = Ok (a ∷ rest)
with_first (Ok a) (Err trap) = Err trap
with_first (Err trap) rest = Err trap

abbrev pub values : List (List ℕ) → List (List ℕ) → List ExprTree → Result (List ℕ) TrapKind
values names globals [] = Ok []
values names globals (e ∷ es) = with_first (value names globals e) (values names globals es)
