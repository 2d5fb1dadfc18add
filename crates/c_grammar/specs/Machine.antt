-- A machine that reads tokens deterministically: what is still to be read is a list of tasks, and the first task and
-- the class of the next token determine the step.
use Rattle.std.specs.Prelude.{ℕ, ◌+◌, List, [], ◌∷◌, ◌++◌, Option, Some, None}
use Rattle.c_grammar.specs.declared.signs.Sign.{Sign}
use Rattle.c_grammar.specs.declared.signs.Sign.TheVariants as signs

-- A task: what is still to be read. If alternatives of the grammar begin alike, one task stands for the rest of all of
-- them.
pub data Task : Type 0 where
  -- a token
  Token : Sign → Task
  -- the end of a construct that isn't ended by a token
  Done : Task
  Items : Task
  -- after `int`, `void`, and `int` and a name, at the start of an item
  AfterInt : Task
  AfterVoid : Task
  AfterIntName : Task
  -- from a global's name on, after it, and after the whole of it
  GlobalName : Task
  AfterGlobalName : Task
  MoreGlobals : Task
  StartValue : Task
  Size : Task
  TableParameter : Task
  TableMembers : Task
  MoreMembers : Task
  -- from the parenthesis of a function's parameters on, and after it; after `void` there, and after the whole
  Parameters : Task
  ParameterList : Task
  ParametersEnd : Task
  AfterParameters : Task
  -- after the `int` of a parameter, and after the parameter, if each so far has a name
  ParameterName : Task
  MoreParameters : Task
  -- the same, if a parameter has no name
  PrototypeName : Task
  MorePrototype : Task
  BlockItems : Task
  Body : Task
  ElsePart : Task
  Parenthesized : Task
  -- an optional expression, and a `;`
  UpToSemicolon : Task
  ForParts : Task
  ForInit : Task
  ForStep : Task
  LocalName : Task
  AfterLocalName : Task
  MoreLocals : Task
  -- after the name, and after the index, of an assignment or a call
  AfterSimpleName : Task
  AfterSimpleIndex : Task
  ArgumentList : Task
  MoreArguments : Task
  Expr : Task
  -- an operand, what may follow its name and its index, and after the operand
  Operand : Task
  AfterName : Task
  AfterIndex : Task
  Tail : Task

-- What a task does at a token of some class: it takes the token and leaves tasks, passes the decision to the next task,
-- or refuses.
pub data Move : Type 0 where
  Take : List Task → Move
  Pass : Move
  Refuse : Move

-- the same move with more tasks after it
abbrev pub and_then : Move → List Task → Move
and_then (Take tasks) more = Take (tasks ++ more)
and_then Pass more = Pass
and_then Refuse more = Refuse

-- a task that takes one token of this class
abbrev pub token_move : Sign → Sign → Move
token_move signs.Name signs.Name = Take []
token_move signs.Number signs.Number = Take []
token_move signs.Int signs.Int = Take []
token_move signs.LeftParenthesis signs.LeftParenthesis = Take []
token_move signs.RightParenthesis signs.RightParenthesis = Take []
token_move signs.RightBracket signs.RightBracket = Take []
token_move signs.Semicolon signs.Semicolon = Take []
token_move signs.Colon signs.Colon = Take []
token_move signs.Assign signs.Assign = Take []
token_move signs.Star signs.Star = Take []
token_move _ _ = Refuse

abbrev pub operand_move : Sign → Move
operand_move signs.Number = Take []
operand_move signs.Name = Take (AfterName ∷ [])
operand_move signs.LeftParenthesis = Take (Expr ∷ Token signs.RightParenthesis ∷ [])
operand_move signs.Plus = Take (Operand ∷ Done ∷ [])
operand_move signs.Minus = Take (Operand ∷ Done ∷ [])
operand_move signs.Prefix = Take (Operand ∷ Done ∷ [])
operand_move _ = Refuse

abbrev pub tail_move : Sign → Move
tail_move signs.Question = Take (Expr ∷ Token signs.Colon ∷ Expr ∷ Done ∷ [])
tail_move signs.Star = Take (Operand ∷ Tail ∷ [])
tail_move signs.Multiplicative = Take (Operand ∷ Tail ∷ [])
tail_move signs.Plus = Take (Operand ∷ Tail ∷ [])
tail_move signs.Minus = Take (Operand ∷ Tail ∷ [])
tail_move signs.Shift = Take (Operand ∷ Tail ∷ [])
tail_move signs.Relational = Take (Operand ∷ Tail ∷ [])
tail_move signs.Equality = Take (Operand ∷ Tail ∷ [])
tail_move signs.BitAnd = Take (Operand ∷ Tail ∷ [])
tail_move signs.BitXor = Take (Operand ∷ Tail ∷ [])
tail_move signs.BitOr = Take (Operand ∷ Tail ∷ [])
tail_move signs.LogicalAnd = Take (Operand ∷ Tail ∷ [])
tail_move signs.LogicalOr = Take (Operand ∷ Tail ∷ [])
tail_move _ = Pass

abbrev pub expr_move : Sign → Move
expr_move sign = and_then (operand_move sign) (Tail ∷ [])

abbrev pub body_move : Sign → Move
body_move signs.Semicolon = Take []
body_move signs.LeftBrace = Take (BlockItems ∷ [])
body_move signs.If = Take (Parenthesized ∷ Body ∷ ElsePart ∷ [])
body_move signs.While = Take (Parenthesized ∷ Body ∷ Done ∷ [])
body_move signs.For = Take (ForParts ∷ Body ∷ Done ∷ [])
body_move signs.Break = Take (Token signs.Semicolon ∷ [])
body_move signs.Continue = Take (Token signs.Semicolon ∷ [])
body_move signs.Return = Take (UpToSemicolon ∷ [])
body_move signs.Name = Take (AfterSimpleName ∷ Token signs.Semicolon ∷ [])
body_move _ = Refuse

abbrev pub items_move : Sign → Move
items_move signs.Int = Take (AfterInt ∷ Items ∷ [])
items_move signs.Void = Take (AfterVoid ∷ Items ∷ [])
items_move _ = Refuse

abbrev pub after_int_move : Sign → Move
after_int_move signs.LeftParenthesis = Take (Token signs.Star ∷ Token signs.Name ∷ Size ∷ Token signs.RightParenthesis ∷ TableParameter ∷ Token signs.Assign ∷ TableMembers ∷ Token signs.Semicolon ∷ [])
after_int_move signs.Name = Take (AfterIntName ∷ [])
after_int_move _ = Refuse

abbrev pub after_void_move : Sign → Move
after_void_move signs.Name = Take (Parameters ∷ [])
after_void_move _ = Refuse

abbrev pub after_int_name_move : Sign → Move
after_int_name_move signs.LeftParenthesis = Take (ParameterList ∷ [])
after_int_name_move signs.Assign = Take (StartValue ∷ MoreGlobals ∷ [])
after_int_name_move signs.LeftBracket = Take (Token signs.Number ∷ Token signs.RightBracket ∷ MoreGlobals ∷ [])
after_int_name_move signs.Comma = Take (GlobalName ∷ [])
after_int_name_move signs.Semicolon = Take []
after_int_name_move _ = Refuse

abbrev pub global_name_move : Sign → Move
global_name_move signs.Name = Take (AfterGlobalName ∷ [])
global_name_move _ = Refuse

abbrev pub after_global_name_move : Sign → Move
after_global_name_move signs.Assign = Take (StartValue ∷ MoreGlobals ∷ [])
after_global_name_move signs.LeftBracket = Take (Token signs.Number ∷ Token signs.RightBracket ∷ MoreGlobals ∷ [])
after_global_name_move signs.Comma = Take (GlobalName ∷ [])
after_global_name_move signs.Semicolon = Take []
after_global_name_move _ = Refuse

abbrev pub more_globals_move : Sign → Move
more_globals_move signs.Comma = Take (GlobalName ∷ [])
more_globals_move signs.Semicolon = Take []
more_globals_move _ = Refuse

abbrev pub start_value_move : Sign → Move
start_value_move signs.Minus = Take (Token signs.Number ∷ [])
start_value_move signs.Number = Take []
start_value_move _ = Refuse

abbrev pub size_move : Sign → Move
size_move signs.LeftBracket = Take (Token signs.Number ∷ Token signs.RightBracket ∷ [])
size_move _ = Refuse

abbrev pub table_parameter_move : Sign → Move
table_parameter_move signs.LeftParenthesis = Take (Token signs.Int ∷ Token signs.RightParenthesis ∷ [])
table_parameter_move _ = Refuse

abbrev pub table_members_move : Sign → Move
table_members_move signs.LeftBrace = Take (Token signs.Name ∷ MoreMembers ∷ [])
table_members_move _ = Refuse

abbrev pub more_members_move : Sign → Move
more_members_move signs.Comma = Take (Token signs.Name ∷ MoreMembers ∷ [])
more_members_move signs.RightBrace = Take []
more_members_move _ = Refuse

abbrev pub parameters_move : Sign → Move
parameters_move signs.LeftParenthesis = Take (ParameterList ∷ [])
parameters_move _ = Refuse

abbrev pub parameter_list_move : Sign → Move
parameter_list_move signs.RightParenthesis = Take (AfterParameters ∷ [])
parameter_list_move signs.Void = Take (ParametersEnd ∷ [])
parameter_list_move signs.Int = Take (ParameterName ∷ [])
parameter_list_move _ = Refuse

abbrev pub parameters_end_move : Sign → Move
parameters_end_move signs.RightParenthesis = Take (AfterParameters ∷ [])
parameters_end_move _ = Refuse

abbrev pub after_parameters_move : Sign → Move
after_parameters_move signs.Semicolon = Take []
after_parameters_move signs.LeftBrace = Take (BlockItems ∷ [])
after_parameters_move _ = Refuse

abbrev pub parameter_name_move : Sign → Move
parameter_name_move signs.Name = Take (MoreParameters ∷ [])
parameter_name_move signs.Comma = Take (Token signs.Int ∷ PrototypeName ∷ [])
parameter_name_move signs.RightParenthesis = Take (Token signs.Semicolon ∷ [])
parameter_name_move _ = Refuse

abbrev pub more_parameters_move : Sign → Move
more_parameters_move signs.Comma = Take (Token signs.Int ∷ ParameterName ∷ [])
more_parameters_move signs.RightParenthesis = Take (AfterParameters ∷ [])
more_parameters_move _ = Refuse

abbrev pub prototype_name_move : Sign → Move
prototype_name_move signs.Name = Take (MorePrototype ∷ [])
prototype_name_move signs.Comma = Take (Token signs.Int ∷ PrototypeName ∷ [])
prototype_name_move signs.RightParenthesis = Take (Token signs.Semicolon ∷ [])
prototype_name_move _ = Refuse

abbrev pub more_prototype_move : Sign → Move
more_prototype_move signs.Comma = Take (Token signs.Int ∷ PrototypeName ∷ [])
more_prototype_move signs.RightParenthesis = Take (Token signs.Semicolon ∷ [])
more_prototype_move _ = Refuse

abbrev pub block_items_move : Sign → Move
block_items_move signs.RightBrace = Take []
block_items_move signs.Int = Take (LocalName ∷ BlockItems ∷ [])
block_items_move sign = and_then (body_move sign) (BlockItems ∷ [])

abbrev pub else_move : Sign → Move
else_move signs.Else = Take (Body ∷ Done ∷ [])
else_move _ = Pass

abbrev pub parenthesized_move : Sign → Move
parenthesized_move signs.LeftParenthesis = Take (Expr ∷ Token signs.RightParenthesis ∷ [])
parenthesized_move _ = Refuse

abbrev pub up_to_semicolon_move : Sign → Move
up_to_semicolon_move signs.Semicolon = Take []
up_to_semicolon_move sign = and_then (expr_move sign) (Token signs.Semicolon ∷ [])

abbrev pub for_parts_move : Sign → Move
for_parts_move signs.LeftParenthesis = Take (ForInit ∷ [])
for_parts_move _ = Refuse

abbrev pub for_init_move : Sign → Move
for_init_move signs.Semicolon = Take (UpToSemicolon ∷ ForStep ∷ [])
for_init_move signs.Int = Take (LocalName ∷ UpToSemicolon ∷ ForStep ∷ [])
for_init_move signs.Name = Take (AfterSimpleName ∷ Token signs.Semicolon ∷ UpToSemicolon ∷ ForStep ∷ [])
for_init_move _ = Refuse

abbrev pub for_step_move : Sign → Move
for_step_move signs.RightParenthesis = Take []
for_step_move signs.Name = Take (AfterSimpleName ∷ Token signs.RightParenthesis ∷ [])
for_step_move _ = Refuse

abbrev pub local_name_move : Sign → Move
local_name_move signs.Name = Take (AfterLocalName ∷ [])
local_name_move _ = Refuse

abbrev pub after_local_name_move : Sign → Move
after_local_name_move signs.Assign = Take (Expr ∷ MoreLocals ∷ [])
after_local_name_move signs.LeftBracket = Take (Token signs.Number ∷ Token signs.RightBracket ∷ MoreLocals ∷ [])
after_local_name_move signs.Comma = Take (LocalName ∷ [])
after_local_name_move signs.Semicolon = Take []
after_local_name_move _ = Refuse

abbrev pub more_locals_move : Sign → Move
more_locals_move signs.Comma = Take (LocalName ∷ [])
more_locals_move signs.Semicolon = Take []
more_locals_move _ = Refuse

abbrev pub after_simple_name_move : Sign → Move
after_simple_name_move signs.Assign = Take (Expr ∷ [])
after_simple_name_move signs.LeftBracket = Take (Expr ∷ Token signs.RightBracket ∷ AfterSimpleIndex ∷ [])
after_simple_name_move signs.LeftParenthesis = Take (ArgumentList ∷ [])
after_simple_name_move _ = Refuse

abbrev pub after_simple_index_move : Sign → Move
after_simple_index_move signs.Assign = Take (Expr ∷ [])
after_simple_index_move signs.LeftParenthesis = Take (Expr ∷ Token signs.RightParenthesis ∷ [])
after_simple_index_move _ = Refuse

abbrev pub argument_list_move : Sign → Move
argument_list_move signs.RightParenthesis = Take []
argument_list_move sign = and_then (expr_move sign) (MoreArguments ∷ [])

abbrev pub more_arguments_move : Sign → Move
more_arguments_move signs.Comma = Take (Expr ∷ MoreArguments ∷ [])
more_arguments_move signs.RightParenthesis = Take []
more_arguments_move _ = Refuse

abbrev pub after_name_move : Sign → Move
after_name_move signs.LeftBracket = Take (Expr ∷ Token signs.RightBracket ∷ AfterIndex ∷ [])
after_name_move signs.LeftParenthesis = Take (ArgumentList ∷ [])
after_name_move _ = Pass

abbrev pub after_index_move : Sign → Move
after_index_move signs.LeftParenthesis = Take (Expr ∷ Token signs.RightParenthesis ∷ [])
after_index_move _ = Pass

abbrev pub move : Task → Sign → Move
move (Token wanted) sign = token_move wanted sign
move Done sign = Pass
move Items sign = items_move sign
move AfterInt sign = after_int_move sign
move AfterVoid sign = after_void_move sign
move AfterIntName sign = after_int_name_move sign
move GlobalName sign = global_name_move sign
move AfterGlobalName sign = after_global_name_move sign
move MoreGlobals sign = more_globals_move sign
move StartValue sign = start_value_move sign
move Size sign = size_move sign
move TableParameter sign = table_parameter_move sign
move TableMembers sign = table_members_move sign
move MoreMembers sign = more_members_move sign
move Parameters sign = parameters_move sign
move ParameterList sign = parameter_list_move sign
move ParametersEnd sign = parameters_end_move sign
move AfterParameters sign = after_parameters_move sign
move ParameterName sign = parameter_name_move sign
move MoreParameters sign = more_parameters_move sign
move PrototypeName sign = prototype_name_move sign
move MorePrototype sign = more_prototype_move sign
move BlockItems sign = block_items_move sign
move Body sign = body_move sign
move ElsePart sign = else_move sign
move Parenthesized sign = parenthesized_move sign
move UpToSemicolon sign = up_to_semicolon_move sign
move ForParts sign = for_parts_move sign
move ForInit sign = for_init_move sign
move ForStep sign = for_step_move sign
move LocalName sign = local_name_move sign
move AfterLocalName sign = after_local_name_move sign
move MoreLocals sign = more_locals_move sign
move AfterSimpleName sign = after_simple_name_move sign
move AfterSimpleIndex sign = after_simple_index_move sign
move ArgumentList sign = argument_list_move sign
move MoreArguments sign = more_arguments_move sign
move Expr sign = expr_move sign
move Operand sign = operand_move sign
move AfterName sign = after_name_move sign
move AfterIndex sign = after_index_move sign
move Tail sign = tail_move sign

-- the tasks after a token, if the first of them makes this move and the others lead to `later`
abbrev pub after_move : Move → List Task → Option (List Task) → Option (List Task)
after_move (Take tasks) rest later = Some (tasks ++ rest)
after_move Pass rest later = later
after_move Refuse rest later = None

-- the tasks after a token of this class, if it is taken
abbrev pub step : List Task → Sign → Option (List Task)
step [] sign = None
step (task ∷ rest) sign = after_move (move task sign) rest (step rest sign)

-- The number of constructs that a task closes.
abbrev pub closes_task : Task → ℕ
closes_task (Token signs.RightParenthesis) = 1
closes_task (Token signs.RightBracket) = 1
closes_task Done = 1
closes_task MoreMembers = 1
closes_task ParameterList = 1
closes_task ParametersEnd = 1
closes_task ParameterName = 1
closes_task MoreParameters = 1
closes_task PrototypeName = 1
closes_task MorePrototype = 1
closes_task BlockItems = 1
closes_task ElsePart = 1
closes_task ForInit = 1
closes_task ForStep = 1
closes_task ArgumentList = 1
closes_task MoreArguments = 1
closes_task _ = 0

-- The number of open constructs, if these tasks are still to be done.
abbrev pub open_tasks : List Task → ℕ
open_tasks [] = 0
open_tasks (task ∷ rest) = closes_task task + open_tasks rest
