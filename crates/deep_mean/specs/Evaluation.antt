-- An expression in evaluation, from left to right, up to its next call, its value or its first trap (ISO/IEC 9899:2018,
-- 6.5, with the order that CapC fixes). Around a call is a list of the constructs that wait for its result, innermost
-- first, each with the values of its parts that have been evaluated and its parts still to be evaluated. `&&`, `||` and
-- `?:` evaluate only the part that they need.
use Rattle.std.specs.Prelude.{ℕ, zero, suc, List, [], ◌∷◌, ◌++◌, Ok, Err}
use Rattle.cap_word.specs.Rows.{word_at}
use Rattle.cap_word.specs.declared.traps.TrapKind.{TrapKind}
use Rattle.c_tree.specs.declared.operators.BinaryOperator.{BinaryOperator}
use Rattle.c_tree.specs.declared.operators.UnaryOperator.{UnaryOperator}
use Rattle.c_mean.specs.Operators.{unary_value, binary_value}
use Rattle.c_mean.specs.Values.{Value, element}
use Rattle.deep_mean.specs.DeepTrees.{Callee, DeepExpr, Number, Local, Global, LocalElement, GlobalElement, Unary, Parenthesized, Binary, LogicalAnd, LogicalOr, Conditional, Call, TableCall, DeepExprs, NoExprs, And}

-- a construct that waits for the value of its part in evaluation
pub data Around : Type 0 where
  IndexOfLocal : (a : ℕ) → Around
  IndexOfGlobal : (a : ℕ) → Around
  OperandOf : (op : UnaryOperator) → Around
  InParentheses : Around
  -- the left operand is in evaluation, and the right one still to be evaluated; or the right one is, and the left one
  -- has this value
  LeftOf : (op : BinaryOperator) (r : DeepExpr) → Around
  RightOf : (op : BinaryOperator) (l : ℕ) → Around
  LeftOfAnd : (r : DeepExpr) → Around
  LeftOfOr : (r : DeepExpr) → Around
  -- the right operand of `&&` or `||`; its truth is the value
  Decides : Around
  ConditionOf : (a b : DeepExpr) → Around
  -- the part of `?:` that was chosen
  Chosen : Around
  -- an argument, the values before it and the arguments after it
  ArgumentOf : (s : ℕ) (callee : Callee) (done : List ℕ) (rest : DeepExprs) → Around
  -- the index of a table, and its argument
  TableIndexOf : (s t : ℕ) (e : DeepExpr) → Around
  TableArgumentOf : (s t i : ℕ) → Around

-- a call whose arguments are values
pub data Ready : Type 0 where
  ReadyCall : (s : ℕ) (callee : Callee) (arguments : List ℕ) → Ready
  ReadyTableCall : (s t i argument : ℕ) → Ready

-- the outcome of an evaluation: a value, the first trap, or a call with the constructs around it
pub data Evaluation : Type 0 where
  Done : (word : ℕ) → Evaluation
  Trapped : (trap : TrapKind) → Evaluation
  Calls : (call : Ready) (around : List Around) → Evaluation

-- the value of an expression without calls, as an evaluation
abbrev pub of_value : Value → Evaluation
of_value (Ok word) = Done word
of_value (Err trap) = Trapped trap

-- a part is evaluated within a construct, and then the rest with its value
abbrev pub and_then : Evaluation → Around → (ℕ → Evaluation) → Evaluation
and_then (Done word) around next = next word
and_then (Trapped trap) around next = Trapped trap
and_then (Calls call inner) around next = Calls call (inner ++ around ∷ [])

-- 1 if a word isn't 0, and 0 otherwise
abbrev pub truth_of : ℕ → ℕ
truth_of zero = 0
truth_of (suc n) = 1

-- the first of two evaluations if a word isn't 0, and otherwise the second
abbrev pub chosen : ℕ → Evaluation → Evaluation → Evaluation
chosen zero first second = second
chosen (suc n) first second = first

abbrev mutual
  pub evaluate : List (List ℕ) → List (List ℕ) → DeepExpr → Evaluation
  evaluate names globals (Number v) = Done v
  evaluate names globals (Local x) = Done (word_at names x 0)
  evaluate names globals (Global g) = Done (word_at globals g 0)
  evaluate names globals (LocalElement a i) = and_then (evaluate names globals i) (IndexOfLocal a) (λ index. of_value (element names a (Ok index)))
  evaluate names globals (GlobalElement a i) = and_then (evaluate names globals i) (IndexOfGlobal a) (λ index. of_value (element globals a (Ok index)))
  evaluate names globals (Unary op e) = and_then (evaluate names globals e) (OperandOf op) (λ word. Done (unary_value op word))
  evaluate names globals (Parenthesized e) = and_then (evaluate names globals e) InParentheses Done
  evaluate names globals (Binary op l r) =
      and_then (evaluate names globals l) (LeftOf op r) (λ left. and_then (evaluate names globals r) (RightOf op left) (λ right. Done (binary_value op left right)))
  evaluate names globals (LogicalAnd l r) =
      and_then (evaluate names globals l) (LeftOfAnd r) (λ left. chosen left (and_then (evaluate names globals r) Decides (λ right. Done (truth_of right))) (Done 0))
  evaluate names globals (LogicalOr l r) =
      and_then (evaluate names globals l) (LeftOfOr r) (λ left. chosen left (Done 1) (and_then (evaluate names globals r) Decides (λ right. Done (truth_of right))))
  evaluate names globals (Conditional c a b) =
      and_then (evaluate names globals c) (ConditionOf a b) (λ word. chosen word (and_then (evaluate names globals a) Chosen Done) (and_then (evaluate names globals b) Chosen Done))
  evaluate names globals (Call s callee es) = evaluate_arguments names globals s callee [] es
  evaluate names globals (TableCall s t i e) =
      and_then (evaluate names globals i) (TableIndexOf s t e) (λ index. and_then (evaluate names globals e) (TableArgumentOf s t index) (λ argument. Calls (ReadyTableCall s t index argument) []))

  -- the remaining arguments of a call, after these values
  pub evaluate_arguments : List (List ℕ) → List (List ℕ) → ℕ → Callee → List ℕ → DeepExprs → Evaluation
  evaluate_arguments names globals s callee done NoExprs = Calls (ReadyCall s callee done) []
  evaluate_arguments names globals s callee done (And e es) =
      and_then (evaluate names globals e) (ArgumentOf s callee done es) (λ word. evaluate_arguments names globals s callee (done ++ word ∷ []) es)

-- a construct continues with the value of its part
abbrev pub filled : List (List ℕ) → List (List ℕ) → Around → ℕ → Evaluation
filled names globals (IndexOfLocal a) word = of_value (element names a (Ok word))
filled names globals (IndexOfGlobal a) word = of_value (element globals a (Ok word))
filled names globals (OperandOf op) word = Done (unary_value op word)
filled names globals InParentheses word = Done word
filled names globals (LeftOf op r) word = and_then (evaluate names globals r) (RightOf op word) (λ right. Done (binary_value op word right))
filled names globals (RightOf op l) word = Done (binary_value op l word)
filled names globals (LeftOfAnd r) word = chosen word (and_then (evaluate names globals r) Decides (λ right. Done (truth_of right))) (Done 0)
filled names globals (LeftOfOr r) word = chosen word (Done 1) (and_then (evaluate names globals r) Decides (λ right. Done (truth_of right)))
filled names globals Decides word = Done (truth_of word)
filled names globals (ConditionOf a b) word = chosen word (and_then (evaluate names globals a) Chosen Done) (and_then (evaluate names globals b) Chosen Done)
filled names globals Chosen word = Done word
filled names globals (ArgumentOf s callee done rest) word = evaluate_arguments names globals s callee (done ++ word ∷ []) rest
filled names globals (TableIndexOf s t e) word = and_then (evaluate names globals e) (TableArgumentOf s t word) (λ argument. Calls (ReadyTableCall s t word argument) [])
filled names globals (TableArgumentOf s t i) word = Calls (ReadyTableCall s t i word) []

-- an evaluation within the constructs around it
abbrev pub outward : Evaluation → List Around → (ℕ → Evaluation) → Evaluation
outward (Done word) outer next = next word
outward (Trapped trap) outer next = Trapped trap
outward (Calls call inner) outer next = Calls call (inner ++ outer)

-- the constructs around a call continue with its result
abbrev pub go_on : List (List ℕ) → List (List ℕ) → List Around → ℕ → Evaluation
go_on names globals [] word = Done word
go_on names globals (around ∷ outer) word = outward (filled names globals around word) outer (go_on names globals outer)
