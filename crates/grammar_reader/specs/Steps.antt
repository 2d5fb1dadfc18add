-- The effect of a function of the reader on the tokens, and on the machine's run over them.
use Rattle.std.specs.Prelude.{ℕ, ◌≡◌, ◌≢◌, ◌+◌, ◌*◌, ◌<◌, ◌≤◌, List, [], ◌∷◌, ◌++◌, length, Some, None}
use Rattle.c_lex.specs.declared.tokens.Token.{Token}
use Rattle.c_tree.specs.declared.operators.Infix.{Infix}
use Rattle.c_tree.specs.RawTrees.{NameTree, RawExprTree, RawExprTrees, And}
use Rattle.c_tree.specs.RawViews.{raw_chained}
use Rattle.c_tree.specs.RawTemporaries.{raw_temporaries, raw_arguments_temporaries}
use Rattle.c_grammar.specs.declared.errors.ParseError.{ParseError}
use Rattle.c_grammar.specs.declared.errors.ParseError.TheVariants.{Memory}
use Rattle.c_grammar.specs.declared.signs.Sign.TheVariants as signs
use Rattle.c_grammar.specs.Machine as tasks
use Rattle.c_grammar.specs.Machine.{Task, open_tasks}
use Rattle.c_grammar.specs.Reading.{run}
use Rattle.c_grammar.specs.Operators.{unary_operator_of, infix_operator_of, level_of_infix}
use Rattle.c_grammar.specs.Tokens.{next_sign, next_kind, PassesName}
use Rattle.c_grammar.specs.Grammar.{IsExpr, IsBinary, IsRepeated, IsUnary, IsPrimary, IsIndex, IsParenthesized, AreArguments, AreMoreArguments}

-- if this number of constructs is open, the run with the first tasks is the run with the others after
-- them
abbrev pub Leads : ℕ → ℕ → List Task → List Token → List Task → List Token → Type 0
Leads end depth todo before left after = (rest : List Task) → open_tasks rest ≡ depth → run end (todo ++ rest) before ≡ run end (left ++ rest) after

-- the run with these tasks ends in this refusal, unless it is out of memory
abbrev pub Refused : ℕ → ℕ → List Task → List Token → ParseError → Type 0
Refused end depth todo before error = error ≢ Memory → (rest : List Task) → open_tasks rest ≡ depth → run end (todo ++ rest) before ≡ Some error

-- the next token isn't an operator of this level or a tighter one
abbrev pub NoneFrom : ℕ → List Token → Type 0
NoneFrom level tokens = (operator : Infix) → infix_operator_of (next_kind tokens) ≡ Some operator → level_of_infix operator < level

-- the next token is this operator, of this level
abbrev pub IsNextOperator : ℕ → List Token → Infix → Type 0
IsNextOperator level tokens operator = (infix_operator_of (next_kind tokens) ≡ Some operator) × (level_of_infix operator ≡ level)

-- the next token isn't an operator of this level
abbrev pub IsNoNextOperator : ℕ → List Token → Type 0
IsNoNextOperator level tokens = (operator : Infix) → infix_operator_of (next_kind tokens) ≡ Some operator → level_of_infix operator ≢ level

-- the next token isn't an operator before an operand
abbrev pub NoPrefix : List Token → Type 0
NoPrefix tokens = unary_operator_of (next_kind tokens) ≡ None

pub record ReadsExpr (source : List ℕ) (end depth : ℕ) (before : List Token) (e : RawExprTree) (after : List Token) : Type 0 where
  pub tree : IsExpr source before e after
  pub shorter : length after < length before
  pub leads : Leads end depth (tasks.Expr ∷ []) before [] after
  pub small : raw_temporaries e + 16 * depth ≤ 1039

-- from the `?` of a conditional expression on
pub record ReadsConditional (source : List ℕ) (end depth : ℕ) (first : RawExprTree) (before : List Token) (e : RawExprTree) (after : List Token) : Type 0 where
  pub tree : (start : List Token) → IsBinary source 0 start first before → IsExpr source start e after
  pub shorter : length after < length before
  pub leads : Leads end depth (tasks.Tail ∷ []) before [] after
  pub small : raw_temporaries first + 16 * depth ≤ 1039 → raw_temporaries e + 16 * depth ≤ 1039

pub record ReadsBinary (source : List ℕ) (end depth level : ℕ) (before : List Token) (e : RawExprTree) (after : List Token) : Type 0 where
  pub tree : IsBinary source level before e after
  pub shorter : length after < length before
  pub leads : Leads end depth (tasks.Operand ∷ tasks.Tail ∷ []) before (tasks.Tail ∷ []) after
  pub ended : NoneFrom level after
  pub small : raw_temporaries e + 16 * depth + level ≤ 1039

-- operators of a level with their operands, after a left operand
pub record ReadsRepeated (source : List ℕ) (end depth level : ℕ) (before : List Token) (rest : List (Infix × RawExprTree)) (after : List Token) : Type 0 where
  pub tree : (left : RawExprTree) → IsRepeated source level left before (raw_chained left rest) after
  pub no_longer : length after ≤ length before
  pub leads : Leads end depth (tasks.Tail ∷ []) before (tasks.Tail ∷ []) after
  pub ended : NoneFrom level after
  pub small : (left : RawExprTree) → raw_temporaries left + 16 * depth + level ≤ 1039 → raw_temporaries (raw_chained left rest) + 16 * depth + level ≤ 1039

pub record ReadsUnary (source : List ℕ) (end depth : ℕ) (before : List Token) (e : RawExprTree) (after : List Token) : Type 0 where
  pub tree : IsUnary source before e after
  pub shorter : length after < length before
  pub leads : Leads end depth (tasks.Operand ∷ []) before [] after
  pub small : raw_temporaries e + 16 * depth ≤ 1029

pub record ReadsPrimary (source : List ℕ) (end depth : ℕ) (before : List Token) (e : RawExprTree) (after : List Token) : Type 0 where
  pub tree : IsPrimary source before e after
  pub shorter : length after < length before
  pub leads : Leads end depth (tasks.Operand ∷ []) before [] after
  pub small : raw_temporaries e + 16 * depth ≤ 1029

-- an operand that begins with a name that was read
pub record ReadsNamed (source : List ℕ) (end depth : ℕ) (name : NameTree) (before : List Token) (e : RawExprTree) (after : List Token) : Type 0 where
  pub tree : (first : List Token) → PassesName source first name before → IsPrimary source first e after
  pub no_longer : length after ≤ length before
  pub leads : Leads end depth (tasks.AfterName ∷ []) before [] after
  pub small : raw_temporaries e + 16 * depth ≤ 1029

-- an operand that begins with a name and an index that were read
pub record ReadsElement (source : List ℕ) (end depth : ℕ) (name : NameTree) (index : RawExprTree) (before : List Token) (e : RawExprTree) (after : List Token) : Type 0 where
  pub tree : (first second : List Token) → PassesName source first name second → IsIndex source second index before → IsPrimary source first e after
  pub no_longer : length after ≤ length before
  pub leads : Leads end depth (tasks.AfterIndex ∷ []) before [] after
  pub small : raw_temporaries index + 16 * depth ≤ 1023 → raw_temporaries e + 16 * depth ≤ 1029

pub record ReadsParenthesized (source : List ℕ) (end depth : ℕ) (before : List Token) (e : RawExprTree) (after : List Token) : Type 0 where
  pub tree : IsParenthesized source before e after
  pub opened : next_sign before ≡ signs.LeftParenthesis
  pub shorter : length after < length before
  pub leads : Leads end depth (tasks.Parenthesized ∷ []) before [] after
  pub small : raw_temporaries e + 16 * depth ≤ 1023

-- an expression in brackets, to which two tasks lead
pub record ReadsIndex (source : List ℕ) (end depth : ℕ) (before : List Token) (e : RawExprTree) (after : List Token) : Type 0 where
  pub tree : IsIndex source before e after
  pub shorter : length after < length before
  pub leads : Leads end depth (tasks.AfterName ∷ []) before (tasks.AfterIndex ∷ []) after
  pub leads_simple : Leads end depth (tasks.AfterSimpleName ∷ []) before (tasks.AfterSimpleIndex ∷ []) after
  pub small : raw_temporaries e + 16 * depth ≤ 1023

pub record ReadsArguments (source : List ℕ) (end depth : ℕ) (before : List Token) (es : RawExprTrees) (after : List Token) : Type 0 where
  pub tree : AreArguments source before es after
  pub shorter : length after < length before
  pub leads : Leads end depth (tasks.AfterName ∷ []) before [] after
  pub leads_simple : Leads end depth (tasks.AfterSimpleName ∷ []) before [] after
  pub small : raw_arguments_temporaries 0 es + 16 * depth ≤ 1028

-- arguments in front of others
abbrev pub followed_by : List RawExprTree → RawExprTrees → RawExprTrees
followed_by [] es = es
followed_by (e ∷ rest) es = And e (followed_by rest es)

-- operators of a level so far, from the tokens `before` to `now`
pub record ReadingRepeated (source : List ℕ) (end depth level : ℕ) (before : List Token) (rest : List (Infix × RawExprTree)) (now : List Token) : Type 0 where
  pub tree : (left e : RawExprTree) (after : List Token) → IsRepeated source level (raw_chained left rest) now e after → IsRepeated source level left before e after
  pub no_longer : length now ≤ length before
  pub leads : Leads end depth (tasks.Tail ∷ []) before (tasks.Tail ∷ []) now
  pub none_tighter : NoneFrom (level + 1) now
  pub small : (left : RawExprTree) → raw_temporaries left + 16 * depth + level ≤ 1039 → raw_temporaries (raw_chained left rest) + 16 * depth + level ≤ 1039

-- arguments so far, from the parenthesis before them to `now`
pub record ReadingArguments (source : List ℕ) (end depth : ℕ) (before : List Token) (es : List RawExprTree) (now : List Token) : Type 0 where
  pub tree : (others : RawExprTrees) (after : List Token) → AreMoreArguments source now others after → AreArguments source before (followed_by es others) after
  pub shorter : length now < length before
  pub leads : Leads end depth (tasks.AfterName ∷ []) before (tasks.MoreArguments ∷ []) now
  pub leads_simple : Leads end depth (tasks.AfterSimpleName ∷ []) before (tasks.MoreArguments ∷ []) now
  pub small : (others : RawExprTrees) → raw_arguments_temporaries (length es) others + 16 * depth ≤ 1028 → raw_arguments_temporaries 0 (followed_by es others) + 16 * depth ≤ 1028
