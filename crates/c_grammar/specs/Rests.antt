-- The grammar of CapC, by what is still to be read. A rest is a list of symbols. To take a token, the first
-- symbol of the rest is replaced by any of its alternatives until it is a token, which is removed if it is the
-- one to be taken. Nothing here chooses between alternatives.
use Rattle.std.specs.Prelude.{ℕ, ◌+◌, ◌≡◌, List, [], ◌∷◌, ◌++◌}
use Rattle.c_grammar.specs.Signs.{Level, Tightest, Looser, Loosest, IsOperator, IsPrefix}
use Rattle.c_grammar.specs.declared.signs.Sign.{Sign}
use Rattle.c_grammar.specs.declared.signs.Sign.TheVariants as signs

-- A symbol of the grammar. A bracketed part is one symbol, which begins with the opening bracket; so is each
-- optional or repeated part.
pub data Symbol : Type 0 where
  -- a token
  The : Sign → Symbol
  AnOperator : Level → Symbol
  APrefix : Symbol
  -- the end of an if, a while, a for, an operand after its operator, or a conditional expression
  End : Symbol
  Program : Symbol
  Item : Symbol
  Globals : Symbol
  MoreGlobals : Symbol
  Global : Symbol
  Start : Symbol
  MinusOption : Symbol
  Size : Symbol
  Table : Symbol
  TableName : Symbol
  TableParameter : Symbol
  Members : Symbol
  MoreMembers : Symbol
  Prototype : Symbol
  Result : Symbol
  PrototypeParameters : Symbol
  PrototypeList : Symbol
  MorePrototype : Symbol
  NameOption : Symbol
  Function : Symbol
  FunctionParameters : Symbol
  FunctionList : Symbol
  MoreFunction : Symbol
  Block : Symbol
  BlockItems : Symbol
  Body : Symbol
  ElseOption : Symbol
  Parenthesized : Symbol
  ForParts : Symbol
  ForInit : Symbol
  SimpleOption : Symbol
  ExprOption : Symbol
  Locals : Symbol
  MoreLocals : Symbol
  Local : Symbol
  ValueOption : Symbol
  Simple : Symbol
  Call : Symbol
  Index : Symbol
  Arguments : Symbol
  ArgumentList : Symbol
  MoreArguments : Symbol
  Expr : Symbol
  ConditionalOption : Symbol
  -- operands joined by binary operators up to this level, and operators of this level with their operands
  Binary : Level → Symbol
  Repeated : Level → Symbol
  Unary : Symbol
  Primary : Symbol

-- the alternatives of a symbol, other than the absence of an else
pub data Alternative : Symbol → List Symbol → Type 0 where
  end : Alternative End []
  no_more_items : Alternative Program []
  another_item : Alternative Program (Item ∷ Program ∷ [])
  globals_item : Alternative Item (Globals ∷ [])
  table_item : Alternative Item (Table ∷ [])
  prototype_item : Alternative Item (Prototype ∷ [])
  function_item : Alternative Item (Function ∷ [])
  -- "int" gdecl { "," gdecl } ";"
  globals : Alternative Globals (The signs.Int ∷ Global ∷ MoreGlobals ∷ The signs.Semicolon ∷ [])
  no_more_globals : Alternative MoreGlobals []
  another_global : Alternative MoreGlobals (The signs.Comma ∷ Global ∷ MoreGlobals ∷ [])
  -- name [ "=" [ "-" ] number ] | name "[" number "]"
  scalar : Alternative Global (The signs.Name ∷ Start ∷ [])
  array : Alternative Global (The signs.Name ∷ Size ∷ [])
  no_start : Alternative Start []
  start : Alternative Start (The signs.Assign ∷ MinusOption ∷ The signs.Number ∷ [])
  no_minus : Alternative MinusOption []
  minus : Alternative MinusOption (The signs.Minus ∷ [])
  size : Alternative Size (The signs.LeftBracket ∷ The signs.Number ∷ The signs.RightBracket ∷ [])
  -- "int" "(" "*" name "[" number "]" ")" "(" "int" ")" "=" "{" name { "," name } "}" ";"
  table : Alternative Table (The signs.Int ∷ TableName ∷ TableParameter ∷ The signs.Assign ∷ Members ∷ The signs.Semicolon ∷ [])
  table_name : Alternative TableName (The signs.LeftParenthesis ∷ The signs.Star ∷ The signs.Name ∷ Size ∷ The signs.RightParenthesis ∷ [])
  table_parameter : Alternative TableParameter (The signs.LeftParenthesis ∷ The signs.Int ∷ The signs.RightParenthesis ∷ [])
  members : Alternative Members (The signs.LeftBrace ∷ The signs.Name ∷ MoreMembers ∷ The signs.RightBrace ∷ [])
  no_more_members : Alternative MoreMembers []
  another_member : Alternative MoreMembers (The signs.Comma ∷ The signs.Name ∷ MoreMembers ∷ [])
  -- result name "(" [ "void" | "int" [ name ] { "," "int" [ name ] } ] ")" ";"
  prototype : Alternative Prototype (Result ∷ The signs.Name ∷ PrototypeParameters ∷ The signs.Semicolon ∷ [])
  prototype_parameters : Alternative PrototypeParameters (The signs.LeftParenthesis ∷ PrototypeList ∷ The signs.RightParenthesis ∷ [])
  no_parameters : Alternative PrototypeList []
  void_parameters : Alternative PrototypeList (The signs.Void ∷ [])
  some_parameters : Alternative PrototypeList (The signs.Int ∷ NameOption ∷ MorePrototype ∷ [])
  no_more_parameters : Alternative MorePrototype []
  another_parameter : Alternative MorePrototype (The signs.Comma ∷ The signs.Int ∷ NameOption ∷ MorePrototype ∷ [])
  no_name : Alternative NameOption []
  name : Alternative NameOption (The signs.Name ∷ [])
  -- result name "(" [ "void" | "int" name { "," "int" name } ] ")" block
  function : Alternative Function (Result ∷ The signs.Name ∷ FunctionParameters ∷ Block ∷ [])
  function_parameters : Alternative FunctionParameters (The signs.LeftParenthesis ∷ FunctionList ∷ The signs.RightParenthesis ∷ [])
  no_named : Alternative FunctionList []
  void_named : Alternative FunctionList (The signs.Void ∷ [])
  some_named : Alternative FunctionList (The signs.Int ∷ The signs.Name ∷ MoreFunction ∷ [])
  no_more_named : Alternative MoreFunction []
  another_named : Alternative MoreFunction (The signs.Comma ∷ The signs.Int ∷ The signs.Name ∷ MoreFunction ∷ [])
  int_result : Alternative Result (The signs.Int ∷ [])
  void_result : Alternative Result (The signs.Void ∷ [])
  -- "{" { locals ";" | body } "}"
  block : Alternative Block (The signs.LeftBrace ∷ BlockItems ∷ The signs.RightBrace ∷ [])
  no_more_statements : Alternative BlockItems []
  another_locals : Alternative BlockItems (Locals ∷ The signs.Semicolon ∷ BlockItems ∷ [])
  another_body : Alternative BlockItems (Body ∷ BlockItems ∷ [])
  simple_body : Alternative Body (Simple ∷ The signs.Semicolon ∷ [])
  empty_body : Alternative Body (The signs.Semicolon ∷ [])
  block_body : Alternative Body (Block ∷ [])
  if_body : Alternative Body (The signs.If ∷ Parenthesized ∷ Body ∷ ElseOption ∷ End ∷ [])
  while_body : Alternative Body (The signs.While ∷ Parenthesized ∷ Body ∷ End ∷ [])
  for_body : Alternative Body (The signs.For ∷ ForParts ∷ Body ∷ End ∷ [])
  break_body : Alternative Body (The signs.Break ∷ The signs.Semicolon ∷ [])
  continue_body : Alternative Body (The signs.Continue ∷ The signs.Semicolon ∷ [])
  return_body : Alternative Body (The signs.Return ∷ ExprOption ∷ The signs.Semicolon ∷ [])
  else_part : Alternative ElseOption (The signs.Else ∷ Body ∷ [])
  parenthesized : Alternative Parenthesized (The signs.LeftParenthesis ∷ Expr ∷ The signs.RightParenthesis ∷ [])
  -- "(" [ locals | simple ] ";" [ expr ] ";" [ simple ] ")"
  for_parts : Alternative ForParts (The signs.LeftParenthesis ∷ ForInit ∷ The signs.Semicolon ∷ ExprOption ∷ The signs.Semicolon ∷ SimpleOption ∷ The signs.RightParenthesis ∷ [])
  no_init : Alternative ForInit []
  locals_init : Alternative ForInit (Locals ∷ [])
  simple_init : Alternative ForInit (Simple ∷ [])
  no_simple : Alternative SimpleOption []
  simple_part : Alternative SimpleOption (Simple ∷ [])
  no_expr : Alternative ExprOption []
  expr_part : Alternative ExprOption (Expr ∷ [])
  -- "int" ldecl { "," ldecl }, where ldecl is name [ "=" expr ] | name "[" number "]"
  locals : Alternative Locals (The signs.Int ∷ Local ∷ MoreLocals ∷ [])
  no_more_locals : Alternative MoreLocals []
  another_local : Alternative MoreLocals (The signs.Comma ∷ Local ∷ MoreLocals ∷ [])
  local_scalar : Alternative Local (The signs.Name ∷ ValueOption ∷ [])
  local_array : Alternative Local (The signs.Name ∷ Size ∷ [])
  no_value : Alternative ValueOption []
  value : Alternative ValueOption (The signs.Assign ∷ Expr ∷ [])
  -- name "=" expr | name "[" expr "]" "=" expr | call
  set : Alternative Simple (The signs.Name ∷ The signs.Assign ∷ Expr ∷ [])
  set_element : Alternative Simple (The signs.Name ∷ Index ∷ The signs.Assign ∷ Expr ∷ [])
  call_simple : Alternative Simple (Call ∷ [])
  -- name "(" [ expr { "," expr } ] ")" | name "[" expr "]" "(" expr ")"
  call : Alternative Call (The signs.Name ∷ Arguments ∷ [])
  table_call : Alternative Call (The signs.Name ∷ Index ∷ Parenthesized ∷ [])
  index : Alternative Index (The signs.LeftBracket ∷ Expr ∷ The signs.RightBracket ∷ [])
  arguments : Alternative Arguments (The signs.LeftParenthesis ∷ ArgumentList ∷ The signs.RightParenthesis ∷ [])
  no_arguments : Alternative ArgumentList []
  some_arguments : Alternative ArgumentList (Expr ∷ MoreArguments ∷ [])
  no_more_arguments : Alternative MoreArguments []
  another_argument : Alternative MoreArguments (The signs.Comma ∷ Expr ∷ MoreArguments ∷ [])
  -- binary [ "?" expr ":" expr ]
  expr : Alternative Expr (Binary Loosest ∷ ConditionalOption ∷ [])
  no_conditional : Alternative ConditionalOption []
  conditional : Alternative ConditionalOption (The signs.Question ∷ Expr ∷ The signs.Colon ∷ Expr ∷ End ∷ [])
  -- each level is the next tighter one, followed by a repeated part
  tightest : Alternative (Binary Tightest) (Unary ∷ Repeated Tightest ∷ [])
  looser : {level : Level} → Alternative (Binary (Looser level)) (Binary level ∷ Repeated (Looser level) ∷ [])
  no_more_tightest : Alternative (Repeated Tightest) []
  another_tightest : Alternative (Repeated Tightest) (AnOperator Tightest ∷ Unary ∷ Repeated Tightest ∷ [])
  no_more_looser : {level : Level} → Alternative (Repeated (Looser level)) []
  another_looser : {level : Level} → Alternative (Repeated (Looser level)) (AnOperator (Looser level) ∷ Binary level ∷ Repeated (Looser level) ∷ [])
  -- ( "-" | "+" | "!" | "~" ) unary | primary
  prefixed : Alternative Unary (APrefix ∷ Unary ∷ End ∷ [])
  primary : Alternative Unary (Primary ∷ [])
  -- number | name | name "[" expr "]" | call | "(" expr ")"
  number_primary : Alternative Primary (The signs.Number ∷ [])
  name_primary : Alternative Primary (The signs.Name ∷ [])
  element_primary : Alternative Primary (The signs.Name ∷ Index ∷ [])
  call_primary : Alternative Primary (Call ∷ [])
  parenthesized_primary : Alternative Primary (Parenthesized ∷ [])

-- Which derivations are considered: all, or those in which an else belongs to the nearest if that can take it.
pub data Way : Type 0 where
  Any : Way
  Nearest : Way

-- an else may be absent before a token of this class
abbrev pub MayLeaveOut : Way → Sign → Type 0
MayLeaveOut Any sign = Unit {0}
MayLeaveOut Nearest sign = sign ≡ signs.Else → ⊥

-- The rest takes a token of this class, and leaves the other rest.
pub data Takes (way : Way) : List Symbol → Sign → List Symbol → Type 0 where
  token : {sign : Sign} {rest : List Symbol} → Takes way (The sign ∷ rest) sign rest
  operator : {level : Level} {sign : Sign} {rest : List Symbol} → IsOperator level sign → Takes way (AnOperator level ∷ rest) sign rest
  prefix : {sign : Sign} {rest : List Symbol} → IsPrefix sign → Takes way (APrefix ∷ rest) sign rest
  by : {symbol : Symbol} {parts rest after : List Symbol} {sign : Sign} → Alternative symbol parts → Takes way (parts ++ rest) sign after → Takes way (symbol ∷ rest) sign after
  no_else : {rest after : List Symbol} {sign : Sign} → MayLeaveOut way sign → Takes way rest sign after → Takes way (ElseOption ∷ rest) sign after

-- The rest takes tokens of these classes one after another, and leaves the other rest.
pub data TakesAll (way : Way) : List Symbol → List Sign → List Symbol → Type 0 where
  none : {rest : List Symbol} → TakesAll way rest [] rest
  one : {rest between after : List Symbol} {sign : Sign} {signs : List Sign} → Takes way rest sign between → TakesAll way between signs after → TakesAll way rest (sign ∷ signs) after

-- The rest can be empty.
pub data CanBeNothing : List Symbol → Type 0 where
  empty : CanBeNothing []
  by : {symbol : Symbol} {parts rest : List Symbol} → Alternative symbol parts → CanBeNothing (parts ++ rest) → CanBeNothing (symbol ∷ rest)
  no_else : {rest : List Symbol} → CanBeNothing rest → CanBeNothing (ElseOption ∷ rest)

-- The number of constructs that a symbol of a rest closes. A closing bracket is in a rest from its opening
-- bracket on.
abbrev pub closes : Symbol → ℕ
closes (The signs.RightParenthesis) = 1
closes (The signs.RightBracket) = 1
closes (The signs.RightBrace) = 1
closes End = 1
closes _ = 0

-- The number of open constructs, if this rest is still to be read.
abbrev pub open_in : List Symbol → ℕ
open_in [] = 0
open_in (symbol ∷ rest) = closes symbol + open_in rest
