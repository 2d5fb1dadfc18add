-- The trees of the grammar of CapC: the tree of the tokens at the front of one list, up to the list of the tokens
-- after them (ISO/IEC 9899:2018, 6.5 to 6.9, the subset). One rule for each alternative.
use Rattle.std.specs.Prelude.{ℕ, ◌≡◌, ◌≢◌, ◌+◌, ◌-◌, ◌%◌, ◌^◌, ◌<◌, ◌≤◌, Bool, true, false, List, [], ◌∷◌, ◌++◌, Option, Some, None}
use Rattle.c_lex.specs.declared.tokens.Token.{Token}
use Rattle.c_tree.specs.declared.operators.Infix.{Infix}
use Rattle.c_tree.specs.declared.operators.UnaryOperator.{UnaryOperator}
use Rattle.c_tree.specs.RawTrees.{NameTree, RawExprTree, RawExprTrees, RawNumber, RawName, RawElement, RawUnary, RawParenthesized, RawConditional, RawCall, RawTableCall, NoExprs, And, RawSimpleTree, RawDeclareScalar, RawDeclareArray, RawDeclareWith, RawSet, RawSetElement, RawCalling, RawTableCalling, RawStmtTree, RawStmtTrees, RawDo, RawEmpty, RawBlock, RawIf, RawIfElse, RawWhile, RawFor, RawBreak, RawContinue, RawReturn, NoRawStmts, RawThen, RawItemTree, RawGlobal, RawGlobalArray, RawTableItem, RawPrototypeItem, RawFunctionItem}
use Rattle.c_tree.specs.RawViews.{raw_joined}
use Rattle.c_grammar.specs.declared.signs.Sign.TheVariants as signs
use Rattle.c_grammar.specs.Operators.{unary_operator_of, infix_operator_of, level_of_infix}
use Rattle.c_grammar.specs.Tokens.{next_sign, next_kind, next_at, rest_of, Passes, PassesName, PassesNumber}

-- the next token is this operator, before an operand or between two
pub record PassesPrefix (before : List Token) (operator : UnaryOperator) (after : List Token) : Type 0 where
  pub is_next : unary_operator_of (next_kind before) ≡ Some operator
  pub behind : after ≡ rest_of before

pub record PassesInfix (level : ℕ) (before : List Token) (operator : Infix) (after : List Token) : Type 0 where
  pub is_next : infix_operator_of (next_kind before) ≡ Some operator
  pub of_level : level_of_infix operator ≡ level
  pub behind : after ≡ rest_of before

mutual
  -- binary [ "?" expr ":" expr ]
  pub data IsExpr (source : List ℕ) : List Token → RawExprTree → List Token → Type 0 where
    alone : {before after : List Token} {e : RawExprTree} → IsBinary source 0 before e after → IsExpr source before e after
    conditional : {before b c d f after : List Token} {e x y : RawExprTree} → IsBinary source 0 before e b → Passes signs.Question b c → IsExpr source c x d → Passes signs.Colon d f → IsExpr source f y after
        → IsExpr source before (RawConditional e x y) after

  -- operands joined by operators of this level and tighter ones; operators of one level lean to the left
  pub data IsBinary (source : List ℕ) : ℕ → List Token → RawExprTree → List Token → Type 0 where
    operand : {level : ℕ} {before after : List Token} {e : RawExprTree} → 10 ≤ level → IsUnary source before e after → IsBinary source level before e after
    chain : {level : ℕ} {before b after : List Token} {first e : RawExprTree} → level < 10 → IsBinary source (level + 1) before first b → IsRepeated source level first b e after → IsBinary source level before e after

  -- operators of this level with their right operands, after the left operand
  pub data IsRepeated (source : List ℕ) : ℕ → RawExprTree → List Token → RawExprTree → List Token → Type 0 where
    no_more : {level : ℕ} {e : RawExprTree} {after : List Token} → IsRepeated source level e after e after
    another : {level : ℕ} {before b c after : List Token} {left right e : RawExprTree} {operator : Infix} → PassesInfix level before operator b → IsBinary source (level + 1) b right c
        → IsRepeated source level (raw_joined left operator right) c e after → IsRepeated source level left before e after

  -- ( "-" | "+" | "!" | "~" ) unary | primary
  pub data IsUnary (source : List ℕ) : List Token → RawExprTree → List Token → Type 0 where
    prefixed : {before b after : List Token} {operator : UnaryOperator} {e : RawExprTree} → PassesPrefix before operator b → IsUnary source b e after → IsUnary source before (RawUnary operator e) after
    primary : {before after : List Token} {e : RawExprTree} → IsPrimary source before e after → IsUnary source before e after

  -- number | name | name "[" expr "]" | call | "(" expr ")"
  pub data IsPrimary (source : List ℕ) : List Token → RawExprTree → List Token → Type 0 where
    number : {before after : List Token} {value : ℕ} → PassesNumber before value after → IsPrimary source before (RawNumber value) after
    name : {before after : List Token} {n : NameTree} → PassesName source before n after → IsPrimary source before (RawName n) after
    element : {before b after : List Token} {n : NameTree} {i : RawExprTree} → PassesName source before n b → IsIndex source b i after → IsPrimary source before (RawElement n i) after
    call : {before b after : List Token} {n : NameTree} {es : RawExprTrees} → PassesName source before n b → AreArguments source b es after → IsPrimary source before (RawCall n es) after
    table_call : {before b c after : List Token} {n : NameTree} {i e : RawExprTree} → PassesName source before n b → IsIndex source b i c → IsParenthesized source c e after → IsPrimary source before (RawTableCall n i e) after
    parenthesized : {before after : List Token} {e : RawExprTree} → IsParenthesized source before e after → IsPrimary source before (RawParenthesized e) after

  -- "[" expr "]"
  pub data IsIndex (source : List ℕ) : List Token → RawExprTree → List Token → Type 0 where
    index : {before b c after : List Token} {e : RawExprTree} → Passes signs.LeftBracket before b → IsExpr source b e c → Passes signs.RightBracket c after → IsIndex source before e after

  -- "(" expr ")"
  pub data IsParenthesized (source : List ℕ) : List Token → RawExprTree → List Token → Type 0 where
    parentheses : {before b c after : List Token} {e : RawExprTree} → Passes signs.LeftParenthesis before b → IsExpr source b e c → Passes signs.RightParenthesis c after → IsParenthesized source before e after

  -- "(" [ expr { "," expr } ] ")"
  pub data AreArguments (source : List ℕ) : List Token → RawExprTrees → List Token → Type 0 where
    no_arguments : {before b after : List Token} → Passes signs.LeftParenthesis before b → Passes signs.RightParenthesis b after → AreArguments source before NoExprs after
    arguments : {before b c after : List Token} {e : RawExprTree} {es : RawExprTrees} → Passes signs.LeftParenthesis before b → IsExpr source b e c → AreMoreArguments source c es after → AreArguments source before (And e es) after

  pub data AreMoreArguments (source : List ℕ) : List Token → RawExprTrees → List Token → Type 0 where
    last_argument : {before after : List Token} → Passes signs.RightParenthesis before after → AreMoreArguments source before NoExprs after
    another_argument : {before b c after : List Token} {e : RawExprTree} {es : RawExprTrees} → Passes signs.Comma before b → IsExpr source b e c → AreMoreArguments source c es after → AreMoreArguments source before (And e es) after

-- "[" number "]"
pub record IsSize (before : List Token) (words : ℕ) (after : List Token) : Type 0 where
  pub b : List Token
  pub c : List Token
  pub opened : Passes signs.LeftBracket before b
  pub number : PassesNumber b words c
  pub closed : Passes signs.RightBracket c after

-- name "=" expr | name "[" expr "]" "=" expr | call
pub data IsSimple (source : List ℕ) : List Token → RawSimpleTree → List Token → Type 0 where
  set : {before b c after : List Token} {n : NameTree} {v : RawExprTree} → PassesName source before n b → Passes signs.Assign b c → IsExpr source c v after → IsSimple source before (RawSet n v) after
  set_element : {before b c d after : List Token} {n : NameTree} {i v : RawExprTree} → PassesName source before n b → IsIndex source b i c → Passes signs.Assign c d → IsExpr source d v after → IsSimple source before (RawSetElement n i v) after
  calling : {before b after : List Token} {n : NameTree} {es : RawExprTrees} → PassesName source before n b → AreArguments source b es after → IsSimple source before (RawCalling n es) after
  table_calling : {before b c after : List Token} {n : NameTree} {i e : RawExprTree} → PassesName source before n b → IsIndex source b i c → IsParenthesized source c e after → IsSimple source before (RawTableCalling n i e) after

-- name [ "=" expr ] | name "[" number "]"
pub data IsLocal (source : List ℕ) : List Token → RawSimpleTree → List Token → Type 0 where
  scalar : {before after : List Token} {n : NameTree} → PassesName source before n after → IsLocal source before (RawDeclareScalar n) after
  with_value : {before b c after : List Token} {n : NameTree} {v : RawExprTree} → PassesName source before n b → Passes signs.Assign b c → IsExpr source c v after → IsLocal source before (RawDeclareWith n v) after
  array : {before b after : List Token} {n : NameTree} {words : ℕ} → PassesName source before n b → IsSize b words after → IsLocal source before (RawDeclareArray n words) after

-- { "," ldecl } ";"
pub data AreMoreLocals (source : List ℕ) : List Token → List RawSimpleTree → List Token → Type 0 where
  last_local : {before after : List Token} → Passes signs.Semicolon before after → AreMoreLocals source before [] after
  another_local : {before b c after : List Token} {s : RawSimpleTree} {ss : List RawSimpleTree} → Passes signs.Comma before b → IsLocal source b s c → AreMoreLocals source c ss after → AreMoreLocals source before (s ∷ ss) after

-- "int" ldecl { "," ldecl } ";"
pub data AreLocals (source : List ℕ) : List Token → List RawSimpleTree → List Token → Type 0 where
  locals : {before b c after : List Token} {s : RawSimpleTree} {ss : List RawSimpleTree} → Passes signs.Int before b → IsLocal source b s c → AreMoreLocals source c ss after → AreLocals source before (s ∷ ss) after

-- [ expr ] ";"
pub data IsUpToSemicolon (source : List ℕ) : List Token → Option RawExprTree → List Token → Type 0 where
  nothing : {before after : List Token} → Passes signs.Semicolon before after → IsUpToSemicolon source before None after
  something : {before b after : List Token} {e : RawExprTree} → IsExpr source before e b → Passes signs.Semicolon b after → IsUpToSemicolon source before (Some e) after

-- [ locals | simple ] ";"
pub data IsForInit (source : List ℕ) : List Token → List RawSimpleTree → List Token → Type 0 where
  no_init : {before after : List Token} → Passes signs.Semicolon before after → IsForInit source before [] after
  locals_init : {before after : List Token} {ss : List RawSimpleTree} → AreLocals source before ss after → IsForInit source before ss after
  simple_init : {before b after : List Token} {s : RawSimpleTree} → IsSimple source before s b → Passes signs.Semicolon b after → IsForInit source before (s ∷ []) after

-- [ simple ] ")"
pub data IsForStep (source : List ℕ) : List Token → Option RawSimpleTree → List Token → Type 0 where
  no_step : {before after : List Token} → Passes signs.RightParenthesis before after → IsForStep source before None after
  step : {before b after : List Token} {s : RawSimpleTree} → IsSimple source before s b → Passes signs.RightParenthesis b after → IsForStep source before (Some s) after

-- the declarations of one list, each as a statement, in front of other statements
abbrev pub declared_before : List RawSimpleTree → RawStmtTrees → RawStmtTrees
declared_before [] ss = ss
declared_before (d ∷ ds) ss = RawThen (RawDo d) (declared_before ds ss)

-- Statements. `nearest` says whether an else belongs to the nearest if that can take it.
mutual
  pub data IsBody (nearest : Bool) (source : List ℕ) : List Token → RawStmtTree → List Token → Type 0 where
    simple : {before b after : List Token} {s : RawSimpleTree} → IsSimple source before s b → Passes signs.Semicolon b after → IsBody nearest source before (RawDo s) after
    empty : {before after : List Token} → Passes signs.Semicolon before after → IsBody nearest source before RawEmpty after
    block : {before after : List Token} {ss : RawStmtTrees} → IsBlock nearest source before ss after → IsBody nearest source before (RawBlock ss) after
    if_alone : {before b c after : List Token} {e : RawExprTree} {s : RawStmtTree} → Passes signs.If before b → IsParenthesized source b e c → IsBody nearest source c s after → (nearest ≡ true → next_sign after ≢ signs.Else)
        → IsBody nearest source before (RawIf e s) after
    if_else : {before b c d f after : List Token} {e : RawExprTree} {s r : RawStmtTree} → Passes signs.If before b → IsParenthesized source b e c → IsBody nearest source c s d → Passes signs.Else d f → IsBody nearest source f r after
        → IsBody nearest source before (RawIfElse e s r) after
    while_loop : {before b c after : List Token} {e : RawExprTree} {s : RawStmtTree} → Passes signs.While before b → IsParenthesized source b e c → IsBody nearest source c s after → IsBody nearest source before (RawWhile e s) after
    for_loop : {before b c d f g after : List Token} {init : List RawSimpleTree} {e : Option RawExprTree} {last : Option RawSimpleTree} {s : RawStmtTree} → Passes signs.For before b → Passes signs.LeftParenthesis b c
        → IsForInit source c init d → IsUpToSemicolon source d e f → IsForStep source f last g → IsBody nearest source g s after → IsBody nearest source before (RawFor init e last s) after
    break_loop : {before b after : List Token} → Passes signs.Break before b → Passes signs.Semicolon b after → IsBody nearest source before (RawBreak (next_at before)) after
    continue_loop : {before b after : List Token} → Passes signs.Continue before b → Passes signs.Semicolon b after → IsBody nearest source before (RawContinue (next_at before)) after
    return_value : {before b after : List Token} {v : Option RawExprTree} → Passes signs.Return before b → IsUpToSemicolon source b v after → IsBody nearest source before (RawReturn (next_at before) v) after

  -- "{" { locals ";" | body } "}"
  pub data IsBlock (nearest : Bool) (source : List ℕ) : List Token → RawStmtTrees → List Token → Type 0 where
    braces : {before b after : List Token} {ss : RawStmtTrees} → Passes signs.LeftBrace before b → AreStmts nearest source b ss after → IsBlock nearest source before ss after

  pub data AreStmts (nearest : Bool) (source : List ℕ) : List Token → RawStmtTrees → List Token → Type 0 where
    last_stmt : {before after : List Token} → Passes signs.RightBrace before after → AreStmts nearest source before NoRawStmts after
    declarations : {before b after : List Token} {ds : List RawSimpleTree} {ss : RawStmtTrees} → AreLocals source before ds b → AreStmts nearest source b ss after → AreStmts nearest source before (declared_before ds ss) after
    another_stmt : {before b after : List Token} {s : RawStmtTree} {ss : RawStmtTrees} → IsBody nearest source before s b → AreStmts nearest source b ss after → AreStmts nearest source before (RawThen s ss) after

-- [ "-" ] number, as a word
pub data IsStart (source : List ℕ) : List Token → ℕ → List Token → Type 0 where
  plain : {before after : List Token} {value : ℕ} → PassesNumber before value after → IsStart source before value after
  negative : {before b after : List Token} {value : ℕ} → Passes signs.Minus before b → PassesNumber b value after → IsStart source before ((2 ^ 32 - value) % 2 ^ 32) after

-- name [ "=" [ "-" ] number ] | name "[" number "]"
pub data IsGlobal (source : List ℕ) : List Token → RawItemTree → List Token → Type 0 where
  scalar : {before after : List Token} {n : NameTree} → PassesName source before n after → IsGlobal source before (RawGlobal n 0) after
  with_start : {before b c after : List Token} {n : NameTree} {value : ℕ} → PassesName source before n b → Passes signs.Assign b c → IsStart source c value after → IsGlobal source before (RawGlobal n value) after
  array : {before b after : List Token} {n : NameTree} {words : ℕ} → PassesName source before n b → IsSize b words after → IsGlobal source before (RawGlobalArray n words) after

-- { "," gdecl } ";"
pub data AreMoreGlobals (source : List ℕ) : List Token → List RawItemTree → List Token → Type 0 where
  last_global : {before after : List Token} → Passes signs.Semicolon before after → AreMoreGlobals source before [] after
  another_global : {before b c after : List Token} {i : RawItemTree} {is : List RawItemTree} → Passes signs.Comma before b → IsGlobal source b i c → AreMoreGlobals source c is after → AreMoreGlobals source before (i ∷ is) after

-- { "," name } "}"
pub data AreMoreMembers (source : List ℕ) : List Token → List NameTree → List Token → Type 0 where
  last_member : {before after : List Token} → Passes signs.RightBrace before after → AreMoreMembers source before [] after
  another_member : {before b c after : List Token} {n : NameTree} {ns : List NameTree} → Passes signs.Comma before b → PassesName source b n c → AreMoreMembers source c ns after → AreMoreMembers source before (n ∷ ns) after

-- a parameter's name, which a prototype may omit
pub data IsNameOption (source : List ℕ) : List Token → Option NameTree → List Token → Type 0 where
  no_name : {after : List Token} → IsNameOption source after None after
  a_name : {before after : List Token} {n : NameTree} → PassesName source before n after → IsNameOption source before (Some n) after

-- { "," "int" [ name ] } ")", and { "," "int" name } ")"
pub data AreMoreParameters (source : List ℕ) : List Token → List (Option NameTree) → List Token → Type 0 where
  last_parameter : {before after : List Token} → Passes signs.RightParenthesis before after → AreMoreParameters source before [] after
  another_parameter : {before b c d after : List Token} {p : Option NameTree} {ps : List (Option NameTree)} → Passes signs.Comma before b → Passes signs.Int b c → IsNameOption source c p d → AreMoreParameters source d ps after
      → AreMoreParameters source before (p ∷ ps) after

pub data AreMoreNamed (source : List ℕ) : List Token → List NameTree → List Token → Type 0 where
  last_named : {before after : List Token} → Passes signs.RightParenthesis before after → AreMoreNamed source before [] after
  another_named : {before b c d after : List Token} {n : NameTree} {ns : List NameTree} → Passes signs.Comma before b → Passes signs.Int b c → PassesName source c n d → AreMoreNamed source d ns after → AreMoreNamed source before (n ∷ ns) after

-- "(" [ "void" | "int" [ name ] { "," "int" [ name ] } ] ")"
pub data AreParameters (source : List ℕ) : List Token → List (Option NameTree) → List Token → Type 0 where
  no_parameters : {before b after : List Token} → Passes signs.LeftParenthesis before b → Passes signs.RightParenthesis b after → AreParameters source before [] after
  void_parameters : {before b c after : List Token} → Passes signs.LeftParenthesis before b → Passes signs.Void b c → Passes signs.RightParenthesis c after → AreParameters source before [] after
  some_parameters : {before b c d after : List Token} {p : Option NameTree} {ps : List (Option NameTree)} → Passes signs.LeftParenthesis before b → Passes signs.Int b c → IsNameOption source c p d → AreMoreParameters source d ps after
      → AreParameters source before (p ∷ ps) after

-- "(" [ "void" | "int" name { "," "int" name } ] ")"
pub data AreNamed (source : List ℕ) : List Token → List NameTree → List Token → Type 0 where
  no_named : {before b after : List Token} → Passes signs.LeftParenthesis before b → Passes signs.RightParenthesis b after → AreNamed source before [] after
  void_named : {before b c after : List Token} → Passes signs.LeftParenthesis before b → Passes signs.Void b c → Passes signs.RightParenthesis c after → AreNamed source before [] after
  some_named : {before b c d after : List Token} {n : NameTree} {ns : List NameTree} → Passes signs.LeftParenthesis before b → Passes signs.Int b c → PassesName source c n d → AreMoreNamed source d ns after → AreNamed source before (n ∷ ns) after

-- "int" | "void"
pub data IsResult : List Token → Bool → List Token → Type 0 where
  int_result : {before after : List Token} → Passes signs.Int before after → IsResult before true after
  void_result : {before after : List Token} → Passes signs.Void before after → IsResult before false after

-- globals | table | prototype | function
pub data AreItem (nearest : Bool) (source : List ℕ) : List Token → List RawItemTree → List Token → Type 0 where
  globals : {before b c after : List Token} {i : RawItemTree} {is : List RawItemTree} → Passes signs.Int before b → IsGlobal source b i c → AreMoreGlobals source c is after → AreItem nearest source before (i ∷ is) after
  table : {before b c d f g h k l m o p q r after : List Token} {n first : NameTree} {words : ℕ} {ns : List NameTree} → Passes signs.Int before b → Passes signs.LeftParenthesis b c → Passes signs.Star c d → PassesName source d n f
      → IsSize f words g → Passes signs.RightParenthesis g h → Passes signs.LeftParenthesis h k → Passes signs.Int k l → Passes signs.RightParenthesis l m → Passes signs.Assign m o → Passes signs.LeftBrace o p
      → PassesName source p first q → AreMoreMembers source q ns r → Passes signs.Semicolon r after → AreItem nearest source before (RawTableItem n words (first ∷ ns) ∷ []) after
  prototype : {before b c d after : List Token} {gives : Bool} {n : NameTree} {ps : List (Option NameTree)} → IsResult before gives b → PassesName source b n c → AreParameters source c ps d → Passes signs.Semicolon d after
      → AreItem nearest source before (RawPrototypeItem gives n ps ∷ []) after
  function : {before b c d after : List Token} {gives : Bool} {n : NameTree} {ps : List NameTree} {ss : RawStmtTrees} → IsResult before gives b → PassesName source b n c → AreNamed source c ps d → IsBlock nearest source d ss after
      → AreItem nearest source before (RawFunctionItem gives n ps ss ∷ []) after

-- { item }
pub data AreItems (nearest : Bool) (source : List ℕ) : List Token → List RawItemTree → Type 0 where
  no_more_items : AreItems nearest source [] []
  another_item : {before b : List Token} {is more : List RawItemTree} → AreItem nearest source before is b → AreItems nearest source b more → AreItems nearest source before (is ++ more)

-- The tokens of the source are this program, where each else belongs to the nearest if that can take it.
abbrev pub IsProgram : List ℕ → List Token → List RawItemTree → Type 0
IsProgram source tokens items = AreItems true source tokens items
