-- Which rests of the grammar a list of tasks stands for.
use Rattle.grammar_laws.proofs.Common.{List, [], ◌∷◌, ◌≡◌, None, Sign, Level, Tightest, Looser, Loosest, Symbol, Way, Any, Task}
use Rattle.c_grammar.specs.declared.signs.Sign.TheVariants as signs
use Rattle.c_grammar.specs.Rests as symbols
use Rattle.c_grammar.specs.Machine as tasks

-- the repeated parts of the levels looser than this one, and then the rest
pub data Above : Level → List Symbol → List Symbol → Type 0 where
  loosest : {rest : List Symbol} → Above Loosest rest rest
  one : {level : Level} {rest more : List Symbol} → Above (Looser level) rest more → Above level rest (symbols.Repeated (Looser level) ∷ more)

-- The rest is one that the tasks stand for. Where any way is meant, an else and the ends of statements may be gone
-- from the rest that the tasks still have.
pub data Covers : Way → List Task → List Symbol → Type 0 where
  nothing : {way : Way} → Covers way [] []
  token : {sign : Sign} {way : Way} {more : List Task} {rest : List Symbol} → tasks.token_move sign sign ≡ tasks.Take [] → Covers way more rest → Covers way (tasks.Token sign ∷ more) (symbols.The sign ∷ rest)
  tail : {way : Way} {more : List Task} {rest parts : List Symbol} → Above Tightest (symbols.ConditionalOption ∷ rest) parts → Covers way more rest → Covers way (tasks.Tail ∷ more) (symbols.Repeated Tightest ∷ parts)
  operands : {way : Way} {level : Level} {more : List Task} {rest parts : List Symbol} → Above level (symbols.ConditionalOption ∷ rest) parts → Covers way more rest → Covers way (tasks.Operand ∷ tasks.Tail ∷ more) (symbols.Binary level ∷ parts)
  items : {way : Way} → Covers way (tasks.Items ∷ []) (symbols.Program ∷ [])
  done : {way : Way} {more : List Task} {rest : List Symbol} → Covers way more rest → Covers way (tasks.Done ∷ more) (symbols.End ∷ rest)
  after_int_globals : {way : Way} {more : List Task} {rest : List Symbol} → Covers way more rest → Covers way (tasks.AfterInt ∷ more) (symbols.Global ∷ symbols.MoreGlobals ∷ symbols.The signs.Semicolon ∷ rest)
  after_int_table : {way : Way} {more : List Task} {rest : List Symbol} → Covers way more rest → Covers way (tasks.AfterInt ∷ more) (symbols.TableName ∷ symbols.TableParameter ∷ symbols.The signs.Assign ∷ symbols.Members ∷ symbols.The signs.Semicolon ∷ rest)
  after_int_prototype : {way : Way} {more : List Task} {rest : List Symbol} → Covers way more rest → Covers way (tasks.AfterInt ∷ more) (symbols.The signs.Name ∷ symbols.PrototypeParameters ∷ symbols.The signs.Semicolon ∷ rest)
  after_int_function : {way : Way} {more : List Task} {rest : List Symbol} → Covers way more rest → Covers way (tasks.AfterInt ∷ more) (symbols.The signs.Name ∷ symbols.FunctionParameters ∷ symbols.Block ∷ rest)
  after_void_prototype : {way : Way} {more : List Task} {rest : List Symbol} → Covers way more rest → Covers way (tasks.AfterVoid ∷ more) (symbols.The signs.Name ∷ symbols.PrototypeParameters ∷ symbols.The signs.Semicolon ∷ rest)
  after_void_function : {way : Way} {more : List Task} {rest : List Symbol} → Covers way more rest → Covers way (tasks.AfterVoid ∷ more) (symbols.The signs.Name ∷ symbols.FunctionParameters ∷ symbols.Block ∷ rest)
  after_int_name_start : {way : Way} {more : List Task} {rest : List Symbol} → Covers way more rest → Covers way (tasks.AfterIntName ∷ more) (symbols.Start ∷ symbols.MoreGlobals ∷ symbols.The signs.Semicolon ∷ rest)
  after_int_name_size : {way : Way} {more : List Task} {rest : List Symbol} → Covers way more rest → Covers way (tasks.AfterIntName ∷ more) (symbols.Size ∷ symbols.MoreGlobals ∷ symbols.The signs.Semicolon ∷ rest)
  after_int_name_prototype : {way : Way} {more : List Task} {rest : List Symbol} → Covers way more rest → Covers way (tasks.AfterIntName ∷ more) (symbols.PrototypeParameters ∷ symbols.The signs.Semicolon ∷ rest)
  after_int_name_function : {way : Way} {more : List Task} {rest : List Symbol} → Covers way more rest → Covers way (tasks.AfterIntName ∷ more) (symbols.FunctionParameters ∷ symbols.Block ∷ rest)
  global_name : {way : Way} {more : List Task} {rest : List Symbol} → Covers way more rest → Covers way (tasks.GlobalName ∷ more) (symbols.Global ∷ symbols.MoreGlobals ∷ symbols.The signs.Semicolon ∷ rest)
  after_global_start : {way : Way} {more : List Task} {rest : List Symbol} → Covers way more rest → Covers way (tasks.AfterGlobalName ∷ more) (symbols.Start ∷ symbols.MoreGlobals ∷ symbols.The signs.Semicolon ∷ rest)
  after_global_size : {way : Way} {more : List Task} {rest : List Symbol} → Covers way more rest → Covers way (tasks.AfterGlobalName ∷ more) (symbols.Size ∷ symbols.MoreGlobals ∷ symbols.The signs.Semicolon ∷ rest)
  more_globals : {way : Way} {more : List Task} {rest : List Symbol} → Covers way more rest → Covers way (tasks.MoreGlobals ∷ more) (symbols.MoreGlobals ∷ symbols.The signs.Semicolon ∷ rest)
  start_value : {way : Way} {more : List Task} {rest : List Symbol} → Covers way more rest → Covers way (tasks.StartValue ∷ more) (symbols.MinusOption ∷ symbols.The signs.Number ∷ rest)
  size : {way : Way} {more : List Task} {rest : List Symbol} → Covers way more rest → Covers way (tasks.Size ∷ more) (symbols.Size ∷ rest)
  table_parameter : {way : Way} {more : List Task} {rest : List Symbol} → Covers way more rest → Covers way (tasks.TableParameter ∷ more) (symbols.TableParameter ∷ rest)
  table_members : {way : Way} {more : List Task} {rest : List Symbol} → Covers way more rest → Covers way (tasks.TableMembers ∷ more) (symbols.Members ∷ rest)
  more_members : {way : Way} {more : List Task} {rest : List Symbol} → Covers way more rest → Covers way (tasks.MoreMembers ∷ more) (symbols.MoreMembers ∷ symbols.The signs.RightBrace ∷ rest)
  parameters_prototype : {way : Way} {more : List Task} {rest : List Symbol} → Covers way more rest → Covers way (tasks.Parameters ∷ more) (symbols.PrototypeParameters ∷ symbols.The signs.Semicolon ∷ rest)
  parameters_function : {way : Way} {more : List Task} {rest : List Symbol} → Covers way more rest → Covers way (tasks.Parameters ∷ more) (symbols.FunctionParameters ∷ symbols.Block ∷ rest)
  list_prototype : {way : Way} {more : List Task} {rest : List Symbol} → Covers way more rest → Covers way (tasks.ParameterList ∷ more) (symbols.PrototypeList ∷ symbols.The signs.RightParenthesis ∷ symbols.The signs.Semicolon ∷ rest)
  list_function : {way : Way} {more : List Task} {rest : List Symbol} → Covers way more rest → Covers way (tasks.ParameterList ∷ more) (symbols.FunctionList ∷ symbols.The signs.RightParenthesis ∷ symbols.Block ∷ rest)
  end_prototype : {way : Way} {more : List Task} {rest : List Symbol} → Covers way more rest → Covers way (tasks.ParametersEnd ∷ more) (symbols.The signs.RightParenthesis ∷ symbols.The signs.Semicolon ∷ rest)
  end_function : {way : Way} {more : List Task} {rest : List Symbol} → Covers way more rest → Covers way (tasks.ParametersEnd ∷ more) (symbols.The signs.RightParenthesis ∷ symbols.Block ∷ rest)
  after_prototype : {way : Way} {more : List Task} {rest : List Symbol} → Covers way more rest → Covers way (tasks.AfterParameters ∷ more) (symbols.The signs.Semicolon ∷ rest)
  after_function : {way : Way} {more : List Task} {rest : List Symbol} → Covers way more rest → Covers way (tasks.AfterParameters ∷ more) (symbols.Block ∷ rest)
  parameter_name_prototype : {way : Way} {more : List Task} {rest : List Symbol} → Covers way more rest → Covers way (tasks.ParameterName ∷ more) (symbols.NameOption ∷ symbols.MorePrototype ∷ symbols.The signs.RightParenthesis ∷ symbols.The signs.Semicolon ∷ rest)
  parameter_name_function : {way : Way} {more : List Task} {rest : List Symbol} → Covers way more rest → Covers way (tasks.ParameterName ∷ more) (symbols.The signs.Name ∷ symbols.MoreFunction ∷ symbols.The signs.RightParenthesis ∷ symbols.Block ∷ rest)
  more_parameters_prototype : {way : Way} {more : List Task} {rest : List Symbol} → Covers way more rest → Covers way (tasks.MoreParameters ∷ more) (symbols.MorePrototype ∷ symbols.The signs.RightParenthesis ∷ symbols.The signs.Semicolon ∷ rest)
  more_parameters_function : {way : Way} {more : List Task} {rest : List Symbol} → Covers way more rest → Covers way (tasks.MoreParameters ∷ more) (symbols.MoreFunction ∷ symbols.The signs.RightParenthesis ∷ symbols.Block ∷ rest)
  prototype_name : {way : Way} {more : List Task} {rest : List Symbol} → Covers way more rest → Covers way (tasks.PrototypeName ∷ more) (symbols.NameOption ∷ symbols.MorePrototype ∷ symbols.The signs.RightParenthesis ∷ symbols.The signs.Semicolon ∷ rest)
  more_prototype : {way : Way} {more : List Task} {rest : List Symbol} → Covers way more rest → Covers way (tasks.MorePrototype ∷ more) (symbols.MorePrototype ∷ symbols.The signs.RightParenthesis ∷ symbols.The signs.Semicolon ∷ rest)
  block_items : {way : Way} {more : List Task} {rest : List Symbol} → Covers way more rest → Covers way (tasks.BlockItems ∷ more) (symbols.BlockItems ∷ symbols.The signs.RightBrace ∷ rest)
  body : {way : Way} {more : List Task} {rest : List Symbol} → Covers way more rest → Covers way (tasks.Body ∷ more) (symbols.Body ∷ rest)
  else_part : {way : Way} {more : List Task} {rest : List Symbol} → Covers way more rest → Covers way (tasks.ElsePart ∷ more) (symbols.ElseOption ∷ symbols.End ∷ rest)
  parenthesized : {way : Way} {more : List Task} {rest : List Symbol} → Covers way more rest → Covers way (tasks.Parenthesized ∷ more) (symbols.Parenthesized ∷ rest)
  up_to_semicolon : {way : Way} {more : List Task} {rest : List Symbol} → Covers way more rest → Covers way (tasks.UpToSemicolon ∷ more) (symbols.ExprOption ∷ symbols.The signs.Semicolon ∷ rest)
  for_parts : {way : Way} {more : List Task} {rest : List Symbol} → Covers way more rest → Covers way (tasks.ForParts ∷ more) (symbols.ForParts ∷ rest)
  for_init : {way : Way} {more : List Task} {rest : List Symbol} → Covers way more rest → Covers way (tasks.ForInit ∷ more) (symbols.ForInit ∷ symbols.The signs.Semicolon ∷ symbols.ExprOption ∷ symbols.The signs.Semicolon ∷ symbols.SimpleOption ∷ symbols.The signs.RightParenthesis ∷ rest)
  for_step : {way : Way} {more : List Task} {rest : List Symbol} → Covers way more rest → Covers way (tasks.ForStep ∷ more) (symbols.SimpleOption ∷ symbols.The signs.RightParenthesis ∷ rest)
  local_name : {way : Way} {more : List Task} {rest : List Symbol} → Covers way more rest → Covers way (tasks.LocalName ∷ more) (symbols.Local ∷ symbols.MoreLocals ∷ symbols.The signs.Semicolon ∷ rest)
  after_local_value : {way : Way} {more : List Task} {rest : List Symbol} → Covers way more rest → Covers way (tasks.AfterLocalName ∷ more) (symbols.ValueOption ∷ symbols.MoreLocals ∷ symbols.The signs.Semicolon ∷ rest)
  after_local_size : {way : Way} {more : List Task} {rest : List Symbol} → Covers way more rest → Covers way (tasks.AfterLocalName ∷ more) (symbols.Size ∷ symbols.MoreLocals ∷ symbols.The signs.Semicolon ∷ rest)
  more_locals : {way : Way} {more : List Task} {rest : List Symbol} → Covers way more rest → Covers way (tasks.MoreLocals ∷ more) (symbols.MoreLocals ∷ symbols.The signs.Semicolon ∷ rest)
  after_simple_set : {way : Way} {more : List Task} {rest : List Symbol} → Covers way more rest → Covers way (tasks.AfterSimpleName ∷ more) (symbols.The signs.Assign ∷ symbols.Expr ∷ rest)
  after_simple_element : {way : Way} {more : List Task} {rest : List Symbol} → Covers way more rest → Covers way (tasks.AfterSimpleName ∷ more) (symbols.Index ∷ symbols.The signs.Assign ∷ symbols.Expr ∷ rest)
  after_simple_call : {way : Way} {more : List Task} {rest : List Symbol} → Covers way more rest → Covers way (tasks.AfterSimpleName ∷ more) (symbols.Arguments ∷ rest)
  after_simple_table : {way : Way} {more : List Task} {rest : List Symbol} → Covers way more rest → Covers way (tasks.AfterSimpleName ∷ more) (symbols.Index ∷ symbols.Parenthesized ∷ rest)
  simple_index_set : {way : Way} {more : List Task} {rest : List Symbol} → Covers way more rest → Covers way (tasks.AfterSimpleIndex ∷ more) (symbols.The signs.Assign ∷ symbols.Expr ∷ rest)
  simple_index_call : {way : Way} {more : List Task} {rest : List Symbol} → Covers way more rest → Covers way (tasks.AfterSimpleIndex ∷ more) (symbols.Parenthesized ∷ rest)
  argument_list : {way : Way} {more : List Task} {rest : List Symbol} → Covers way more rest → Covers way (tasks.ArgumentList ∷ more) (symbols.ArgumentList ∷ symbols.The signs.RightParenthesis ∷ rest)
  more_arguments : {way : Way} {more : List Task} {rest : List Symbol} → Covers way more rest → Covers way (tasks.MoreArguments ∷ more) (symbols.MoreArguments ∷ symbols.The signs.RightParenthesis ∷ rest)
  expr : {way : Way} {more : List Task} {rest : List Symbol} → Covers way more rest → Covers way (tasks.Expr ∷ more) (symbols.Expr ∷ rest)
  operand : {way : Way} {more : List Task} {rest : List Symbol} → Covers way more rest → Covers way (tasks.Operand ∷ more) (symbols.Unary ∷ rest)
  name_alone : {way : Way} {more : List Task} {rest : List Symbol} → Covers way more rest → Covers way (tasks.AfterName ∷ more) rest
  name_index : {way : Way} {more : List Task} {rest : List Symbol} → Covers way more rest → Covers way (tasks.AfterName ∷ more) (symbols.Index ∷ rest)
  name_call : {way : Way} {more : List Task} {rest : List Symbol} → Covers way more rest → Covers way (tasks.AfterName ∷ more) (symbols.Arguments ∷ rest)
  name_table : {way : Way} {more : List Task} {rest : List Symbol} → Covers way more rest → Covers way (tasks.AfterName ∷ more) (symbols.Index ∷ symbols.Parenthesized ∷ rest)
  index_alone : {way : Way} {more : List Task} {rest : List Symbol} → Covers way more rest → Covers way (tasks.AfterIndex ∷ more) rest
  index_call : {way : Way} {more : List Task} {rest : List Symbol} → Covers way more rest → Covers way (tasks.AfterIndex ∷ more) (symbols.Parenthesized ∷ rest)
  skipped_done : {more : List Task} {rest : List Symbol} → Covers Any more rest → Covers Any (tasks.Done ∷ more) rest
  else_gone : {more : List Task} {rest : List Symbol} → Covers Any more rest → Covers Any (tasks.ElsePart ∷ more) (symbols.End ∷ rest)
  skipped_else : {more : List Task} {rest : List Symbol} → Covers Any more rest → Covers Any (tasks.ElsePart ∷ more) rest

-- the signs that may go on an expression that could end
pub data Continues : Sign → Type 0 where
  atLeftParenthesis : Continues signs.LeftParenthesis
  atLeftBracket : Continues signs.LeftBracket
  atQuestion : Continues signs.Question
  atPlus : Continues signs.Plus
  atMinus : Continues signs.Minus
  atStar : Continues signs.Star
  atMultiplicative : Continues signs.Multiplicative
  atShift : Continues signs.Shift
  atRelational : Continues signs.Relational
  atEquality : Continues signs.Equality
  atBitAnd : Continues signs.BitAnd
  atBitXor : Continues signs.BitXor
  atBitOr : Continues signs.BitOr
  atLogicalAnd : Continues signs.LogicalAnd
  atLogicalOr : Continues signs.LogicalOr

-- the tasks take none of them
abbrev pub Refuses : List Task → Type 0
Refuses more = (sign : Sign) → Continues sign → tasks.step more sign ≡ None

pub record RefusesBrackets (more : List Task) : Type 0 where
  pub parenthesis : tasks.step more signs.LeftParenthesis ≡ None
  pub bracket : tasks.step more signs.LeftBracket ≡ None

-- behind a statement stands nothing that takes an else but an if
abbrev pub ElseTail : List Task → Type 0
ElseTail [] = Unit {0}
ElseTail (tasks.Done ∷ more) = ElseTail more
ElseTail (tasks.ElsePart ∷ more) = ElseTail more
ElseTail (task ∷ more) = tasks.move task signs.Else ≡ tasks.Refuse

-- The tasks are such as come up: the tokens are ones that the grammar uses, the items are the last task, behind what
-- may end an expression stands nothing that goes on with it, and behind a statement no else but that of an if
abbrev pub Proper : List Task → Type 0
Proper [] = Unit {0}
Proper (tasks.Tail ∷ more) = Refuses more × Proper more
Proper (tasks.Expr ∷ more) = Refuses more × Proper more
Proper (tasks.AfterSimpleName ∷ more) = Refuses more × Proper more
Proper (tasks.AfterSimpleIndex ∷ more) = Refuses more × Proper more
Proper (tasks.Operand ∷ more) = RefusesBrackets more × Proper more
Proper (tasks.AfterName ∷ more) = RefusesBrackets more × Proper more
Proper (tasks.AfterIndex ∷ more) = RefusesBrackets more × Proper more
Proper (tasks.Token sign ∷ more) = (tasks.token_move sign sign ≡ tasks.Take []) × Proper more
Proper (tasks.Items ∷ more) = more ≡ []
Proper (tasks.Body ∷ more) = ElseTail more × Proper more
Proper (tasks.ElsePart ∷ more) = ElseTail more × Proper more
Proper (_ ∷ more) = Proper more
