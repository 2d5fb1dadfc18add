-- What the grammar takes, the machine Takes.
use Rattle.grammar_laws.proofs.Common.{◌≡◌, ◌⊎◌, inl, inr, ⊎_elim, refl, sym, ap, subst, List, [], ◌∷◌, ◌++◌, Some, None, Sign, Level, Tightest, Looser, Loosest, IsOperator, IsPrefix, Symbol, Way, Any, Nearest, MayLeaveOut, Takes, Alternative, Task, step, after_move, token_move}
use Rattle.c_grammar.specs.declared.signs.Sign.TheVariants as signs
use Rattle.c_grammar.specs.Rests as symbols
use Rattle.c_grammar.specs.Machine as tasks
use Rattle.grammar_laws.proofs.Covers.{Above, Covers, ElseTail, Continues, Refuses, RefusesBrackets, Proper}

-- the machine takes the sign, and what is left stands for the rest
pub record Taken (way : Way) (before : List Task) (sign : Sign) (after : List Symbol) : Type 0 where
  pub more : List Task
  pub stepped : step before sign ≡ Some more
  pub covered : Covers way more after

took : {way : Way} {before more : List Task} {sign : Sign} {after : List Symbol} → step before sign ≡ Some more → Covers way more after → Taken way before sign after
took {more = m} e c = record { more = m; stepped = e; covered = c }

token_then : {way : Way} {before : List Task} {s t : Sign} {rest after : List Symbol} → Takes way (symbols.The s ∷ rest) t after → Taken way before s rest → Taken way before t after
token_then Takes.token h = h
token_then (Takes.by a t) h = elim a [ ]

-- how an operand begins, and what is left of it
pub data OperandStart : Sign → List Task → Type 0 where
  number : OperandStart signs.Number []
  name : OperandStart signs.Name (tasks.AfterName ∷ [])
  parenthesis : OperandStart signs.LeftParenthesis (tasks.Expr ∷ tasks.Token signs.RightParenthesis ∷ [])
  plus : OperandStart signs.Plus (tasks.Operand ∷ tasks.Done ∷ [])
  minus : OperandStart signs.Minus (tasks.Operand ∷ tasks.Done ∷ [])
  prefix_sign : OperandStart signs.Prefix (tasks.Operand ∷ tasks.Done ∷ [])

simple_then : {way : Way} {before more : List Task} {t : Sign} {rest after : List Symbol} → Takes way (symbols.Simple ∷ rest) t after → Covers way more rest
    → ((left : List Symbol) → Covers way (tasks.AfterSimpleName ∷ more) left → Taken way before signs.Name left) → Taken way before t after
simple_then (Takes.by Alternative.set t) c k = token_then t (k _ (Covers.after_simple_set c))
simple_then (Takes.by Alternative.set_element t) c k = token_then t (k _ (Covers.after_simple_element c))
simple_then (Takes.by Alternative.call_simple (Takes.by Alternative.call t)) c k = token_then t (k _ (Covers.after_simple_call c))
simple_then (Takes.by Alternative.call_simple (Takes.by Alternative.table_call t)) c k = token_then t (k _ (Covers.after_simple_table c))

abbrev Begins : Way → List Task → List Task → Type 0
Begins way before more = (s : Sign) (begun : List Task) (left : List Symbol) → OperandStart s begun → Covers way (begun ++ more) left → Taken way before s left

prefix_then : {way : Way} {before more : List Task} {t : Sign} {rest after : List Symbol} → Takes way (symbols.APrefix ∷ symbols.Unary ∷ symbols.End ∷ rest) t after → Covers way more rest
    → Begins way before more → Taken way before t after
prefix_then (Takes.prefix IsPrefix.plus) c k = k _ _ _ OperandStart.plus (Covers.operand (Covers.done c))
prefix_then (Takes.prefix IsPrefix.minus) c k = k _ _ _ OperandStart.minus (Covers.operand (Covers.done c))
prefix_then (Takes.prefix IsPrefix.prefix_sign) c k = k _ _ _ OperandStart.prefix_sign (Covers.operand (Covers.done c))
prefix_then (Takes.by a t) c k = elim a [ ]

operand_then : {way : Way} {before more : List Task} {t : Sign} {rest after : List Symbol} → Takes way (symbols.Unary ∷ rest) t after → Covers way more rest
    → Begins way before more → Taken way before t after
operand_then (Takes.by Alternative.prefixed t) c k = prefix_then t c k
operand_then (Takes.by Alternative.primary (Takes.by Alternative.number_primary t)) c k = token_then t (k _ _ _ OperandStart.number c)
operand_then (Takes.by Alternative.primary (Takes.by Alternative.name_primary t)) c k = token_then t (k _ _ _ OperandStart.name (Covers.name_alone c))
operand_then (Takes.by Alternative.primary (Takes.by Alternative.element_primary t)) c k = token_then t (k _ _ _ OperandStart.name (Covers.name_index c))
operand_then (Takes.by Alternative.primary (Takes.by Alternative.call_primary (Takes.by Alternative.call t))) c k = token_then t (k _ _ _ OperandStart.name (Covers.name_call c))
operand_then (Takes.by Alternative.primary (Takes.by Alternative.call_primary (Takes.by Alternative.table_call t))) c k = token_then t (k _ _ _ OperandStart.name (Covers.name_table c))
operand_then (Takes.by Alternative.primary (Takes.by Alternative.parenthesized_primary (Takes.by Alternative.parenthesized t))) c k = token_then t (k _ _ _ OperandStart.parenthesis (Covers.expr (Covers.token refl c)))

binary_then : {way : Way} (level : Level) {before more : List Task} {t : Sign} {rest parts after : List Symbol} → Takes way (symbols.Binary level ∷ parts) t after
    → Above level (symbols.ConditionalOption ∷ rest) parts → Covers way more rest → Begins way before (tasks.Tail ∷ more) → Taken way before t after
binary_then Tightest (Takes.by Alternative.tightest t) a c k = operand_then t (Covers.tail a c) k
binary_then (Looser level) (Takes.by Alternative.looser t) a c k = binary_then level t (Above.one a) c k

expr_then : {way : Way} {before more : List Task} {t : Sign} {rest after : List Symbol} → Takes way (symbols.Expr ∷ rest) t after → Covers way more rest
    → Begins way before (tasks.Tail ∷ more) → Taken way before t after
expr_then (Takes.by Alternative.expr t) c k = binary_then Loosest t Above.loosest c k

start_operand : (more : List Task) {begun : List Task} {s : Sign} → OperandStart s begun → step (tasks.Operand ∷ more) s ≡ Some (begun ++ (more))
start_operand more OperandStart.number = refl
start_operand more _ = refl

start_expr : (more : List Task) {begun : List Task} {s : Sign} → OperandStart s begun → step (tasks.Expr ∷ more) s ≡ Some (begun ++ (tasks.Tail ∷ more))
start_expr more OperandStart.number = refl
start_expr more _ = refl

start_up_to : (more : List Task) {begun : List Task} {s : Sign} → OperandStart s begun → step (tasks.UpToSemicolon ∷ more) s ≡ Some (begun ++ (tasks.Tail ∷ tasks.Token signs.Semicolon ∷ more))
start_up_to more OperandStart.number = refl
start_up_to more _ = refl

start_arguments : (more : List Task) {begun : List Task} {s : Sign} → OperandStart s begun → step (tasks.ArgumentList ∷ more) s ≡ Some (begun ++ (tasks.Tail ∷ tasks.MoreArguments ∷ more))
start_arguments more OperandStart.number = refl
start_arguments more _ = refl

f_after_int_globals : {way : Way} {more : List Task} {sign : Sign} {rest after : List Symbol} → Covers way more rest → Takes way (symbols.Global ∷ symbols.MoreGlobals ∷ symbols.The signs.Semicolon ∷ rest) sign after → Taken way (tasks.AfterInt ∷ more) sign after
f_after_int_globals c (Takes.by Alternative.scalar t) = token_then t (took refl (Covers.after_int_name_start c))
f_after_int_globals c (Takes.by Alternative.array t) = token_then t (took refl (Covers.after_int_name_size c))

f_after_int_table : {way : Way} {more : List Task} {sign : Sign} {rest after : List Symbol} → Covers way more rest → Takes way (symbols.TableName ∷ symbols.TableParameter ∷ symbols.The signs.Assign ∷ symbols.Members ∷ symbols.The signs.Semicolon ∷ rest) sign after → Taken way (tasks.AfterInt ∷ more) sign after
f_after_int_table c (Takes.by Alternative.table_name t) = token_then t (took refl (Covers.token refl (Covers.token refl (Covers.size (Covers.token refl (Covers.table_parameter (Covers.token refl (Covers.table_members (Covers.token refl c)))))))))

f_after_int_prototype : {way : Way} {more : List Task} {sign : Sign} {rest after : List Symbol} → Covers way more rest → Takes way (symbols.The signs.Name ∷ symbols.PrototypeParameters ∷ symbols.The signs.Semicolon ∷ rest) sign after → Taken way (tasks.AfterInt ∷ more) sign after
f_after_int_prototype c t = token_then t (took refl (Covers.after_int_name_prototype c))

f_after_int_function : {way : Way} {more : List Task} {sign : Sign} {rest after : List Symbol} → Covers way more rest → Takes way (symbols.The signs.Name ∷ symbols.FunctionParameters ∷ symbols.Block ∷ rest) sign after → Taken way (tasks.AfterInt ∷ more) sign after
f_after_int_function c t = token_then t (took refl (Covers.after_int_name_function c))

f_after_void_prototype : {way : Way} {more : List Task} {sign : Sign} {rest after : List Symbol} → Covers way more rest → Takes way (symbols.The signs.Name ∷ symbols.PrototypeParameters ∷ symbols.The signs.Semicolon ∷ rest) sign after → Taken way (tasks.AfterVoid ∷ more) sign after
f_after_void_prototype c t = token_then t (took refl (Covers.parameters_prototype c))

f_after_void_function : {way : Way} {more : List Task} {sign : Sign} {rest after : List Symbol} → Covers way more rest → Takes way (symbols.The signs.Name ∷ symbols.FunctionParameters ∷ symbols.Block ∷ rest) sign after → Taken way (tasks.AfterVoid ∷ more) sign after
f_after_void_function c t = token_then t (took refl (Covers.parameters_function c))

f_after_int_name_start : {way : Way} {more : List Task} {sign : Sign} {rest after : List Symbol} → Covers way more rest → Takes way (symbols.Start ∷ symbols.MoreGlobals ∷ symbols.The signs.Semicolon ∷ rest) sign after → Taken way (tasks.AfterIntName ∷ more) sign after
f_after_int_name_start c (Takes.by Alternative.no_start (Takes.by Alternative.no_more_globals t)) = token_then t (took refl c)
f_after_int_name_start c (Takes.by Alternative.no_start (Takes.by Alternative.another_global t)) = token_then t (took refl (Covers.global_name c))
f_after_int_name_start c (Takes.by Alternative.start t) = token_then t (took refl (Covers.start_value (Covers.more_globals c)))

f_after_int_name_size : {way : Way} {more : List Task} {sign : Sign} {rest after : List Symbol} → Covers way more rest → Takes way (symbols.Size ∷ symbols.MoreGlobals ∷ symbols.The signs.Semicolon ∷ rest) sign after → Taken way (tasks.AfterIntName ∷ more) sign after
f_after_int_name_size c (Takes.by Alternative.size t) = token_then t (took refl (Covers.token refl (Covers.token refl (Covers.more_globals c))))

f_after_int_name_prototype : {way : Way} {more : List Task} {sign : Sign} {rest after : List Symbol} → Covers way more rest → Takes way (symbols.PrototypeParameters ∷ symbols.The signs.Semicolon ∷ rest) sign after → Taken way (tasks.AfterIntName ∷ more) sign after
f_after_int_name_prototype c (Takes.by Alternative.prototype_parameters t) = token_then t (took refl (Covers.list_prototype c))

f_after_int_name_function : {way : Way} {more : List Task} {sign : Sign} {rest after : List Symbol} → Covers way more rest → Takes way (symbols.FunctionParameters ∷ symbols.Block ∷ rest) sign after → Taken way (tasks.AfterIntName ∷ more) sign after
f_after_int_name_function c (Takes.by Alternative.function_parameters t) = token_then t (took refl (Covers.list_function c))

f_global_name : {way : Way} {more : List Task} {sign : Sign} {rest after : List Symbol} → Covers way more rest → Takes way (symbols.Global ∷ symbols.MoreGlobals ∷ symbols.The signs.Semicolon ∷ rest) sign after → Taken way (tasks.GlobalName ∷ more) sign after
f_global_name c (Takes.by Alternative.scalar t) = token_then t (took refl (Covers.after_global_start c))
f_global_name c (Takes.by Alternative.array t) = token_then t (took refl (Covers.after_global_size c))

f_after_global_start : {way : Way} {more : List Task} {sign : Sign} {rest after : List Symbol} → Covers way more rest → Takes way (symbols.Start ∷ symbols.MoreGlobals ∷ symbols.The signs.Semicolon ∷ rest) sign after → Taken way (tasks.AfterGlobalName ∷ more) sign after
f_after_global_start c (Takes.by Alternative.no_start (Takes.by Alternative.no_more_globals t)) = token_then t (took refl c)
f_after_global_start c (Takes.by Alternative.no_start (Takes.by Alternative.another_global t)) = token_then t (took refl (Covers.global_name c))
f_after_global_start c (Takes.by Alternative.start t) = token_then t (took refl (Covers.start_value (Covers.more_globals c)))

f_after_global_size : {way : Way} {more : List Task} {sign : Sign} {rest after : List Symbol} → Covers way more rest → Takes way (symbols.Size ∷ symbols.MoreGlobals ∷ symbols.The signs.Semicolon ∷ rest) sign after → Taken way (tasks.AfterGlobalName ∷ more) sign after
f_after_global_size c (Takes.by Alternative.size t) = token_then t (took refl (Covers.token refl (Covers.token refl (Covers.more_globals c))))

f_more_globals : {way : Way} {more : List Task} {sign : Sign} {rest after : List Symbol} → Covers way more rest → Takes way (symbols.MoreGlobals ∷ symbols.The signs.Semicolon ∷ rest) sign after → Taken way (tasks.MoreGlobals ∷ more) sign after
f_more_globals c (Takes.by Alternative.no_more_globals t) = token_then t (took refl c)
f_more_globals c (Takes.by Alternative.another_global t) = token_then t (took refl (Covers.global_name c))

f_start_value : {way : Way} {more : List Task} {sign : Sign} {rest after : List Symbol} → Covers way more rest → Takes way (symbols.MinusOption ∷ symbols.The signs.Number ∷ rest) sign after → Taken way (tasks.StartValue ∷ more) sign after
f_start_value c (Takes.by Alternative.no_minus t) = token_then t (took refl c)
f_start_value c (Takes.by Alternative.minus t) = token_then t (took refl (Covers.token refl c))

f_size : {way : Way} {more : List Task} {sign : Sign} {rest after : List Symbol} → Covers way more rest → Takes way (symbols.Size ∷ rest) sign after → Taken way (tasks.Size ∷ more) sign after
f_size c (Takes.by Alternative.size t) = token_then t (took refl (Covers.token refl (Covers.token refl c)))

f_table_parameter : {way : Way} {more : List Task} {sign : Sign} {rest after : List Symbol} → Covers way more rest → Takes way (symbols.TableParameter ∷ rest) sign after → Taken way (tasks.TableParameter ∷ more) sign after
f_table_parameter c (Takes.by Alternative.table_parameter t) = token_then t (took refl (Covers.token refl (Covers.token refl c)))

f_table_members : {way : Way} {more : List Task} {sign : Sign} {rest after : List Symbol} → Covers way more rest → Takes way (symbols.Members ∷ rest) sign after → Taken way (tasks.TableMembers ∷ more) sign after
f_table_members c (Takes.by Alternative.members t) = token_then t (took refl (Covers.token refl (Covers.more_members c)))

f_more_members : {way : Way} {more : List Task} {sign : Sign} {rest after : List Symbol} → Covers way more rest → Takes way (symbols.MoreMembers ∷ symbols.The signs.RightBrace ∷ rest) sign after → Taken way (tasks.MoreMembers ∷ more) sign after
f_more_members c (Takes.by Alternative.no_more_members t) = token_then t (took refl c)
f_more_members c (Takes.by Alternative.another_member t) = token_then t (took refl (Covers.token refl (Covers.more_members c)))

f_parameters_prototype : {way : Way} {more : List Task} {sign : Sign} {rest after : List Symbol} → Covers way more rest → Takes way (symbols.PrototypeParameters ∷ symbols.The signs.Semicolon ∷ rest) sign after → Taken way (tasks.Parameters ∷ more) sign after
f_parameters_prototype c (Takes.by Alternative.prototype_parameters t) = token_then t (took refl (Covers.list_prototype c))

f_parameters_function : {way : Way} {more : List Task} {sign : Sign} {rest after : List Symbol} → Covers way more rest → Takes way (symbols.FunctionParameters ∷ symbols.Block ∷ rest) sign after → Taken way (tasks.Parameters ∷ more) sign after
f_parameters_function c (Takes.by Alternative.function_parameters t) = token_then t (took refl (Covers.list_function c))

f_list_prototype : {way : Way} {more : List Task} {sign : Sign} {rest after : List Symbol} → Covers way more rest → Takes way (symbols.PrototypeList ∷ symbols.The signs.RightParenthesis ∷ symbols.The signs.Semicolon ∷ rest) sign after → Taken way (tasks.ParameterList ∷ more) sign after
f_list_prototype c (Takes.by Alternative.no_parameters t) = token_then t (took refl (Covers.after_prototype c))
f_list_prototype c (Takes.by Alternative.void_parameters t) = token_then t (took refl (Covers.end_prototype c))
f_list_prototype c (Takes.by Alternative.some_parameters t) = token_then t (took refl (Covers.parameter_name_prototype c))

f_list_function : {way : Way} {more : List Task} {sign : Sign} {rest after : List Symbol} → Covers way more rest → Takes way (symbols.FunctionList ∷ symbols.The signs.RightParenthesis ∷ symbols.Block ∷ rest) sign after → Taken way (tasks.ParameterList ∷ more) sign after
f_list_function c (Takes.by Alternative.no_named t) = token_then t (took refl (Covers.after_function c))
f_list_function c (Takes.by Alternative.void_named t) = token_then t (took refl (Covers.end_function c))
f_list_function c (Takes.by Alternative.some_named t) = token_then t (took refl (Covers.parameter_name_function c))

f_end_prototype : {way : Way} {more : List Task} {sign : Sign} {rest after : List Symbol} → Covers way more rest → Takes way (symbols.The signs.RightParenthesis ∷ symbols.The signs.Semicolon ∷ rest) sign after → Taken way (tasks.ParametersEnd ∷ more) sign after
f_end_prototype c t = token_then t (took refl (Covers.after_prototype c))

f_end_function : {way : Way} {more : List Task} {sign : Sign} {rest after : List Symbol} → Covers way more rest → Takes way (symbols.The signs.RightParenthesis ∷ symbols.Block ∷ rest) sign after → Taken way (tasks.ParametersEnd ∷ more) sign after
f_end_function c t = token_then t (took refl (Covers.after_function c))

f_after_prototype : {way : Way} {more : List Task} {sign : Sign} {rest after : List Symbol} → Covers way more rest → Takes way (symbols.The signs.Semicolon ∷ rest) sign after → Taken way (tasks.AfterParameters ∷ more) sign after
f_after_prototype c t = token_then t (took refl c)

f_after_function : {way : Way} {more : List Task} {sign : Sign} {rest after : List Symbol} → Covers way more rest → Takes way (symbols.Block ∷ rest) sign after → Taken way (tasks.AfterParameters ∷ more) sign after
f_after_function c (Takes.by Alternative.block t) = token_then t (took refl (Covers.block_items c))

f_parameter_name_prototype : {way : Way} {more : List Task} {sign : Sign} {rest after : List Symbol} → Covers way more rest → Takes way (symbols.NameOption ∷ symbols.MorePrototype ∷ symbols.The signs.RightParenthesis ∷ symbols.The signs.Semicolon ∷ rest) sign after → Taken way (tasks.ParameterName ∷ more) sign after
f_parameter_name_prototype c (Takes.by Alternative.no_name (Takes.by Alternative.no_more_parameters t)) = token_then t (took refl (Covers.token refl c))
f_parameter_name_prototype c (Takes.by Alternative.no_name (Takes.by Alternative.another_parameter t)) = token_then t (took refl (Covers.token refl (Covers.prototype_name c)))
f_parameter_name_prototype c (Takes.by Alternative.name t) = token_then t (took refl (Covers.more_parameters_prototype c))

f_parameter_name_function : {way : Way} {more : List Task} {sign : Sign} {rest after : List Symbol} → Covers way more rest → Takes way (symbols.The signs.Name ∷ symbols.MoreFunction ∷ symbols.The signs.RightParenthesis ∷ symbols.Block ∷ rest) sign after → Taken way (tasks.ParameterName ∷ more) sign after
f_parameter_name_function c t = token_then t (took refl (Covers.more_parameters_function c))

f_more_parameters_prototype : {way : Way} {more : List Task} {sign : Sign} {rest after : List Symbol} → Covers way more rest → Takes way (symbols.MorePrototype ∷ symbols.The signs.RightParenthesis ∷ symbols.The signs.Semicolon ∷ rest) sign after → Taken way (tasks.MoreParameters ∷ more) sign after
f_more_parameters_prototype c (Takes.by Alternative.no_more_parameters t) = token_then t (took refl (Covers.after_prototype c))
f_more_parameters_prototype c (Takes.by Alternative.another_parameter t) = token_then t (took refl (Covers.token refl (Covers.parameter_name_prototype c)))

f_more_parameters_function : {way : Way} {more : List Task} {sign : Sign} {rest after : List Symbol} → Covers way more rest → Takes way (symbols.MoreFunction ∷ symbols.The signs.RightParenthesis ∷ symbols.Block ∷ rest) sign after → Taken way (tasks.MoreParameters ∷ more) sign after
f_more_parameters_function c (Takes.by Alternative.no_more_named t) = token_then t (took refl (Covers.after_function c))
f_more_parameters_function c (Takes.by Alternative.another_named t) = token_then t (took refl (Covers.token refl (Covers.parameter_name_function c)))

f_prototype_name : {way : Way} {more : List Task} {sign : Sign} {rest after : List Symbol} → Covers way more rest → Takes way (symbols.NameOption ∷ symbols.MorePrototype ∷ symbols.The signs.RightParenthesis ∷ symbols.The signs.Semicolon ∷ rest) sign after → Taken way (tasks.PrototypeName ∷ more) sign after
f_prototype_name c (Takes.by Alternative.no_name (Takes.by Alternative.no_more_parameters t)) = token_then t (took refl (Covers.token refl c))
f_prototype_name c (Takes.by Alternative.no_name (Takes.by Alternative.another_parameter t)) = token_then t (took refl (Covers.token refl (Covers.prototype_name c)))
f_prototype_name c (Takes.by Alternative.name t) = token_then t (took refl (Covers.more_prototype c))

f_more_prototype : {way : Way} {more : List Task} {sign : Sign} {rest after : List Symbol} → Covers way more rest → Takes way (symbols.MorePrototype ∷ symbols.The signs.RightParenthesis ∷ symbols.The signs.Semicolon ∷ rest) sign after → Taken way (tasks.MorePrototype ∷ more) sign after
f_more_prototype c (Takes.by Alternative.no_more_parameters t) = token_then t (took refl (Covers.token refl c))
f_more_prototype c (Takes.by Alternative.another_parameter t) = token_then t (took refl (Covers.token refl (Covers.prototype_name c)))

f_body : {way : Way} {more : List Task} {sign : Sign} {rest after : List Symbol} → Covers way more rest → Takes way (symbols.Body ∷ rest) sign after → Taken way (tasks.Body ∷ more) sign after
f_body c (Takes.by Alternative.simple_body t) = simple_then t (Covers.token refl c) (λ left h. took refl h)
f_body c (Takes.by Alternative.empty_body t) = token_then t (took refl c)
f_body c (Takes.by Alternative.block_body (Takes.by Alternative.block t)) = token_then t (took refl (Covers.block_items c))
f_body c (Takes.by Alternative.if_body t) = token_then t (took refl (Covers.parenthesized (Covers.body (Covers.else_part c))))
f_body c (Takes.by Alternative.while_body t) = token_then t (took refl (Covers.parenthesized (Covers.body (Covers.done c))))
f_body c (Takes.by Alternative.for_body t) = token_then t (took refl (Covers.for_parts (Covers.body (Covers.done c))))
f_body c (Takes.by Alternative.return_body t) = token_then t (took refl (Covers.up_to_semicolon c))
f_body c (Takes.by _ t) = token_then t (took refl (Covers.token refl c))

f_parenthesized : {way : Way} {more : List Task} {sign : Sign} {rest after : List Symbol} → Covers way more rest → Takes way (symbols.Parenthesized ∷ rest) sign after → Taken way (tasks.Parenthesized ∷ more) sign after
f_parenthesized c (Takes.by Alternative.parenthesized t) = token_then t (took refl (Covers.expr (Covers.token refl c)))

f_up_to_semicolon : {way : Way} {more : List Task} {sign : Sign} {rest after : List Symbol} → Covers way more rest → Takes way (symbols.ExprOption ∷ symbols.The signs.Semicolon ∷ rest) sign after → Taken way (tasks.UpToSemicolon ∷ more) sign after
f_up_to_semicolon c (Takes.by Alternative.no_expr t) = token_then t (took refl c)
f_up_to_semicolon c (Takes.by Alternative.expr_part t) = expr_then t (Covers.token refl c) (λ s begun left b h. took (start_up_to _ b) h)

f_for_parts : {way : Way} {more : List Task} {sign : Sign} {rest after : List Symbol} → Covers way more rest → Takes way (symbols.ForParts ∷ rest) sign after → Taken way (tasks.ForParts ∷ more) sign after
f_for_parts c (Takes.by Alternative.for_parts t) = token_then t (took refl (Covers.for_init c))

f_for_init : {way : Way} {more : List Task} {sign : Sign} {rest after : List Symbol} → Covers way more rest → Takes way (symbols.ForInit ∷ symbols.The signs.Semicolon ∷ symbols.ExprOption ∷ symbols.The signs.Semicolon ∷ symbols.SimpleOption ∷ symbols.The signs.RightParenthesis ∷ rest) sign after → Taken way (tasks.ForInit ∷ more) sign after
f_for_init c (Takes.by Alternative.no_init t) = token_then t (took refl (Covers.up_to_semicolon (Covers.for_step c)))
f_for_init c (Takes.by Alternative.locals_init (Takes.by Alternative.locals t)) = token_then t (took refl (Covers.local_name (Covers.up_to_semicolon (Covers.for_step c))))
f_for_init c (Takes.by Alternative.simple_init t) = simple_then t (Covers.token refl (Covers.up_to_semicolon (Covers.for_step c))) (λ left h. took refl h)

f_for_step : {way : Way} {more : List Task} {sign : Sign} {rest after : List Symbol} → Covers way more rest → Takes way (symbols.SimpleOption ∷ symbols.The signs.RightParenthesis ∷ rest) sign after → Taken way (tasks.ForStep ∷ more) sign after
f_for_step c (Takes.by Alternative.no_simple t) = token_then t (took refl c)
f_for_step c (Takes.by Alternative.simple_part t) = simple_then t (Covers.token refl c) (λ left h. took refl h)

f_local_name : {way : Way} {more : List Task} {sign : Sign} {rest after : List Symbol} → Covers way more rest → Takes way (symbols.Local ∷ symbols.MoreLocals ∷ symbols.The signs.Semicolon ∷ rest) sign after → Taken way (tasks.LocalName ∷ more) sign after
f_local_name c (Takes.by Alternative.local_scalar t) = token_then t (took refl (Covers.after_local_value c))
f_local_name c (Takes.by Alternative.local_array t) = token_then t (took refl (Covers.after_local_size c))

f_after_local_value : {way : Way} {more : List Task} {sign : Sign} {rest after : List Symbol} → Covers way more rest → Takes way (symbols.ValueOption ∷ symbols.MoreLocals ∷ symbols.The signs.Semicolon ∷ rest) sign after → Taken way (tasks.AfterLocalName ∷ more) sign after
f_after_local_value c (Takes.by Alternative.no_value (Takes.by Alternative.no_more_locals t)) = token_then t (took refl c)
f_after_local_value c (Takes.by Alternative.no_value (Takes.by Alternative.another_local t)) = token_then t (took refl (Covers.local_name c))
f_after_local_value c (Takes.by Alternative.value t) = token_then t (took refl (Covers.expr (Covers.more_locals c)))

f_after_local_size : {way : Way} {more : List Task} {sign : Sign} {rest after : List Symbol} → Covers way more rest → Takes way (symbols.Size ∷ symbols.MoreLocals ∷ symbols.The signs.Semicolon ∷ rest) sign after → Taken way (tasks.AfterLocalName ∷ more) sign after
f_after_local_size c (Takes.by Alternative.size t) = token_then t (took refl (Covers.token refl (Covers.token refl (Covers.more_locals c))))

f_more_locals : {way : Way} {more : List Task} {sign : Sign} {rest after : List Symbol} → Covers way more rest → Takes way (symbols.MoreLocals ∷ symbols.The signs.Semicolon ∷ rest) sign after → Taken way (tasks.MoreLocals ∷ more) sign after
f_more_locals c (Takes.by Alternative.no_more_locals t) = token_then t (took refl c)
f_more_locals c (Takes.by Alternative.another_local t) = token_then t (took refl (Covers.local_name c))

f_after_simple_set : {way : Way} {more : List Task} {sign : Sign} {rest after : List Symbol} → Covers way more rest → Takes way (symbols.The signs.Assign ∷ symbols.Expr ∷ rest) sign after → Taken way (tasks.AfterSimpleName ∷ more) sign after
f_after_simple_set c t = token_then t (took refl (Covers.expr c))

f_after_simple_element : {way : Way} {more : List Task} {sign : Sign} {rest after : List Symbol} → Covers way more rest → Takes way (symbols.Index ∷ symbols.The signs.Assign ∷ symbols.Expr ∷ rest) sign after → Taken way (tasks.AfterSimpleName ∷ more) sign after
f_after_simple_element c (Takes.by Alternative.index t) = token_then t (took refl (Covers.expr (Covers.token refl (Covers.simple_index_set c))))

f_after_simple_call : {way : Way} {more : List Task} {sign : Sign} {rest after : List Symbol} → Covers way more rest → Takes way (symbols.Arguments ∷ rest) sign after → Taken way (tasks.AfterSimpleName ∷ more) sign after
f_after_simple_call c (Takes.by Alternative.arguments t) = token_then t (took refl (Covers.argument_list c))

f_after_simple_table : {way : Way} {more : List Task} {sign : Sign} {rest after : List Symbol} → Covers way more rest → Takes way (symbols.Index ∷ symbols.Parenthesized ∷ rest) sign after → Taken way (tasks.AfterSimpleName ∷ more) sign after
f_after_simple_table c (Takes.by Alternative.index t) = token_then t (took refl (Covers.expr (Covers.token refl (Covers.simple_index_call c))))

f_simple_index_set : {way : Way} {more : List Task} {sign : Sign} {rest after : List Symbol} → Covers way more rest → Takes way (symbols.The signs.Assign ∷ symbols.Expr ∷ rest) sign after → Taken way (tasks.AfterSimpleIndex ∷ more) sign after
f_simple_index_set c t = token_then t (took refl (Covers.expr c))

f_simple_index_call : {way : Way} {more : List Task} {sign : Sign} {rest after : List Symbol} → Covers way more rest → Takes way (symbols.Parenthesized ∷ rest) sign after → Taken way (tasks.AfterSimpleIndex ∷ more) sign after
f_simple_index_call c (Takes.by Alternative.parenthesized t) = token_then t (took refl (Covers.expr (Covers.token refl c)))

f_argument_list : {way : Way} {more : List Task} {sign : Sign} {rest after : List Symbol} → Covers way more rest → Takes way (symbols.ArgumentList ∷ symbols.The signs.RightParenthesis ∷ rest) sign after → Taken way (tasks.ArgumentList ∷ more) sign after
f_argument_list c (Takes.by Alternative.no_arguments t) = token_then t (took refl c)
f_argument_list c (Takes.by Alternative.some_arguments t) = expr_then t (Covers.more_arguments c) (λ s begun left b h. took (start_arguments _ b) h)

f_more_arguments : {way : Way} {more : List Task} {sign : Sign} {rest after : List Symbol} → Covers way more rest → Takes way (symbols.MoreArguments ∷ symbols.The signs.RightParenthesis ∷ rest) sign after → Taken way (tasks.MoreArguments ∷ more) sign after
f_more_arguments c (Takes.by Alternative.no_more_arguments t) = token_then t (took refl c)
f_more_arguments c (Takes.by Alternative.another_argument t) = token_then t (took refl (Covers.expr (Covers.more_arguments c)))

f_expr : {way : Way} {more : List Task} {sign : Sign} {rest after : List Symbol} → Covers way more rest → Takes way (symbols.Expr ∷ rest) sign after → Taken way (tasks.Expr ∷ more) sign after
f_expr c t = expr_then t c (λ s begun left b h. took (start_expr _ b) h)

f_operand : {way : Way} {more : List Task} {sign : Sign} {rest after : List Symbol} → Covers way more rest → Takes way (symbols.Unary ∷ rest) sign after → Taken way (tasks.Operand ∷ more) sign after
f_operand c t = operand_then t c (λ s begun left b h. took (start_operand _ b) h)

f_name_index : {way : Way} {more : List Task} {sign : Sign} {rest after : List Symbol} → Covers way more rest → Takes way (symbols.Index ∷ rest) sign after → Taken way (tasks.AfterName ∷ more) sign after
f_name_index c (Takes.by Alternative.index t) = token_then t (took refl (Covers.expr (Covers.token refl (Covers.index_alone c))))

f_name_call : {way : Way} {more : List Task} {sign : Sign} {rest after : List Symbol} → Covers way more rest → Takes way (symbols.Arguments ∷ rest) sign after → Taken way (tasks.AfterName ∷ more) sign after
f_name_call c (Takes.by Alternative.arguments t) = token_then t (took refl (Covers.argument_list c))

f_name_table : {way : Way} {more : List Task} {sign : Sign} {rest after : List Symbol} → Covers way more rest → Takes way (symbols.Index ∷ symbols.Parenthesized ∷ rest) sign after → Taken way (tasks.AfterName ∷ more) sign after
f_name_table c (Takes.by Alternative.index t) = token_then t (took refl (Covers.expr (Covers.token refl (Covers.index_call c))))

f_index_call : {way : Way} {more : List Task} {sign : Sign} {rest after : List Symbol} → Covers way more rest → Takes way (symbols.Parenthesized ∷ rest) sign after → Taken way (tasks.AfterIndex ∷ more) sign after
f_index_call c (Takes.by Alternative.parenthesized t) = token_then t (took refl (Covers.expr (Covers.token refl c)))

f_items : {way : Way} {sign : Sign} {after : List Symbol} → Takes way (symbols.Program ∷ []) sign after → Taken way (tasks.Items ∷ []) sign after
f_items (Takes.by Alternative.no_more_items t) = elim t [ ]
f_items (Takes.by Alternative.another_item (Takes.by Alternative.globals_item (Takes.by Alternative.globals t))) = token_then t (took refl (Covers.after_int_globals Covers.items))
f_items (Takes.by Alternative.another_item (Takes.by Alternative.table_item (Takes.by Alternative.table t))) = token_then t (took refl (Covers.after_int_table Covers.items))
f_items (Takes.by Alternative.another_item (Takes.by Alternative.prototype_item (Takes.by Alternative.prototype (Takes.by Alternative.int_result t)))) = token_then t (took refl (Covers.after_int_prototype Covers.items))
f_items (Takes.by Alternative.another_item (Takes.by Alternative.prototype_item (Takes.by Alternative.prototype (Takes.by Alternative.void_result t)))) = token_then t (took refl (Covers.after_void_prototype Covers.items))
f_items (Takes.by Alternative.another_item (Takes.by Alternative.function_item (Takes.by Alternative.function (Takes.by Alternative.int_result t)))) = token_then t (took refl (Covers.after_int_function Covers.items))
f_items (Takes.by Alternative.another_item (Takes.by Alternative.function_item (Takes.by Alternative.function (Takes.by Alternative.void_result t)))) = token_then t (took refl (Covers.after_void_function Covers.items))

f_token : {way : Way} (wanted : Sign) {more : List Task} {sign : Sign} {rest after : List Symbol} → token_move wanted wanted ≡ tasks.Take [] → Covers way more rest
    → Takes way (symbols.The wanted ∷ rest) sign after → Taken way (tasks.Token wanted ∷ more) sign after
f_token wanted {more = m} used c t = token_then t (took (ap (λ made. after_move made m (step m wanted)) used) c)

-- What an else that comes to these tasks is to the grammar: that of an if, whose rest the tasks still stand for.
pub record Later (before : List Task) (after : List Symbol) : Type 0 where
  pub left : List Symbol
  pub is_body : after ≡ symbols.Body ∷ left
  pub covered : Covers Any before left

-- where any way is meant, what an else is
abbrev pub LaterIn : Way → List Task → Sign → List Symbol → Type 0
LaterIn symbols.Any before sign after = sign ≡ signs.Else → ElseTail before → Later before after
LaterIn symbols.Nearest before sign after = Unit {0}

pub record Strong (way : Way) (before : List Task) (sign : Sign) (after : List Symbol) : Type 0 where
  pub taken : Taken way before sign after
  pub later : LaterIn way before sign after

no_else_step : (task : Task) (more left : List Task) (sign : Sign) → sign ≡ signs.Else → tasks.move task signs.Else ≡ tasks.Refuse → step (task ∷ more) sign ≡ Some left → ⊥
no_else_step task more left sign e refused stepped =
    let P : Sign → Type 0 = λ s. after_move (tasks.move task s) more (step more s) ≡ Some left in
    let at_else : after_move (tasks.move task signs.Else) more (step more signs.Else) ≡ Some left = subst P e stepped in
    let none : after_move (tasks.move task signs.Else) more (step more signs.Else) ≡ None = ap (λ made. after_move made more (step more signs.Else)) refused in
    cc

-- a task that takes no else
plain : {way : Way} (task : Task) (more : List Task) (sign : Sign) {after : List Symbol} → (ElseTail (task ∷ more) → tasks.move task signs.Else ≡ tasks.Refuse) → Taken way (task ∷ more) sign after → Strong way (task ∷ more) sign after
plain {way = symbols.Any} task more sign refused h = record { taken = h; later = λ e tail. absurd (no_else_step task more h.more sign e (refused tail) h.stepped) }
plain {way = symbols.Nearest} task more sign refused h = record { taken = h; later = tt }

-- what a task does where the next one decides
abbrev Next : Way → List Task → Sign → List Symbol → Type 0
Next way more sign rest = (after : List Symbol) → Takes way rest sign after → Strong way more sign after

pass_done : {way : Way} {more : List Task} {sign : Sign} {after : List Symbol} → Strong way more sign after → Strong way (tasks.Done ∷ more) sign after
pass_done {way = symbols.Nearest} h = record { taken = took h.taken.stepped h.taken.covered; later = tt }
pass_done {way = symbols.Any} h = record {
  taken = took h.taken.stepped h.taken.covered;
  later = λ e tail. let l = h.later e tail in record { left = l.left; is_body = l.is_body; covered = Covers.skipped_done l.covered };
}

dropped_done : {more : List Task} {sign : Sign} {after : List Symbol} → Strong symbols.Any more sign after → Strong symbols.Any (tasks.Done ∷ more) sign after
dropped_done h = pass_done h

f_done : {way : Way} {more : List Task} {sign : Sign} {rest after : List Symbol} → Next way more sign rest → Takes way (symbols.End ∷ rest) sign after → Strong way (tasks.Done ∷ more) sign after
f_done next (Takes.by Alternative.end t) = pass_done (next _ t)

else_or : (sign : Sign) → (sign ≡ signs.Else) ⊎ (sign ≡ signs.Else → ⊥)
else_or signs.Else = inl refl
else_or _ = inr (λ e. cc)

else_passes : (sign : Sign) (more left : List Task) → (sign ≡ signs.Else → ⊥) → step more sign ≡ Some left → step (tasks.ElsePart ∷ more) sign ≡ Some left
else_passes signs.Else more left may h = absurd (may refl)
else_passes _ more left may h = h

else_taken : (sign : Sign) (more : List Task) → sign ≡ signs.Else → step (tasks.ElsePart ∷ more) sign ≡ Some (tasks.Body ∷ tasks.Done ∷ more)
else_taken sign more e = let P : Sign → Type 0 = λ s. step (tasks.ElsePart ∷ more) s ≡ Some (tasks.Body ∷ tasks.Done ∷ more) in subst P (sym e) refl

-- the else of a farther if is that of the nearest to the machine
nearer_else : {more : List Task} {sign : Sign} {after : List Symbol} → sign ≡ signs.Else → Later more after → Taken symbols.Any (tasks.ElsePart ∷ more) sign after
nearer_else {more = m} {sign = s} e l =
    let P : List Symbol → Type 0 = λ after. Covers symbols.Any (tasks.Body ∷ tasks.Done ∷ m) after in
    took (else_taken s m e) (subst P (sym l.is_body) (Covers.body (Covers.skipped_done l.covered)))

pass_else : {way : Way} {more : List Task} {sign : Sign} {after : List Symbol} → MayLeaveOut way sign → ElseTail more → Strong way more sign after → Strong way (tasks.ElsePart ∷ more) sign after
pass_else {way = symbols.Nearest} {sign = s} may tail h = record { taken = took (else_passes s _ _ may h.taken.stepped) h.taken.covered; later = tt }
pass_else {way = symbols.Any} {sign = s} may tail h =
    record {
      taken = ⊎_elim (λ e. nearer_else e (h.later e tail)) (λ not_else. took (else_passes s _ _ not_else h.taken.stepped) h.taken.covered) (else_or s);
      later = λ e t. let l = h.later e tail in record { left = l.left; is_body = l.is_body; covered = Covers.skipped_else l.covered };
    }

token_strong : {way : Way} {before : List Task} {s t : Sign} {rest after : List Symbol} → Takes way (symbols.The s ∷ rest) t after → Strong way before s rest → Strong way before t after
token_strong Takes.token h = h
token_strong (Takes.by a t) h = elim a [ ]

else_itself : {way : Way} {more : List Task} {rest : List Symbol} → Covers way more rest → Strong way (tasks.ElsePart ∷ more) signs.Else (symbols.Body ∷ symbols.End ∷ rest)
else_itself {way = symbols.Any} c = record { taken = took refl (Covers.body (Covers.done c)); later = λ e tail. record { left = _; is_body = refl; covered = Covers.else_gone c } }
else_itself {way = symbols.Nearest} c = record { taken = took refl (Covers.body (Covers.done c)); later = tt }

f_else_part : {way : Way} {more : List Task} {sign : Sign} {rest after : List Symbol} → ElseTail more → Covers way more rest → Next way more sign rest → Takes way (symbols.ElseOption ∷ symbols.End ∷ rest) sign after
    → Strong way (tasks.ElsePart ∷ more) sign after
f_else_part tail c next (Takes.by Alternative.else_part t) = token_strong t (else_itself c)
f_else_part tail c next (Takes.no_else may (Takes.by Alternative.end t)) = pass_else may tail (next _ t)

f_else_gone : {more : List Task} {sign : Sign} {rest after : List Symbol} → ElseTail more → Next symbols.Any more sign rest → Takes symbols.Any (symbols.End ∷ rest) sign after
    → Strong symbols.Any (tasks.ElsePart ∷ more) sign after
f_else_gone tail next (Takes.by Alternative.end t) = pass_else tt tail (next _ t)

body_in_block : (sign : Sign) (more left : List Task) → step (tasks.Body ∷ tasks.BlockItems ∷ more) sign ≡ Some left → step (tasks.BlockItems ∷ more) sign ≡ Some left
body_in_block signs.RightBrace more left h = cc
body_in_block signs.Int more left h = cc
body_in_block _ more left h = h

f_block_items : {way : Way} {more : List Task} {sign : Sign} {rest after : List Symbol} → Covers way more rest → Takes way (symbols.BlockItems ∷ symbols.The signs.RightBrace ∷ rest) sign after → Taken way (tasks.BlockItems ∷ more) sign after
f_block_items c (Takes.by Alternative.no_more_statements t) = token_then t (took refl c)
f_block_items c (Takes.by Alternative.another_locals (Takes.by Alternative.locals t)) = token_then t (took refl (Covers.local_name (Covers.block_items c)))
f_block_items {sign = s} c (Takes.by Alternative.another_body t) = let h = f_body (Covers.block_items c) t in took (body_in_block s _ _ h.stepped) h.covered

name_passes : (sign : Sign) (more left : List Task) → RefusesBrackets more → step more sign ≡ Some left → step (tasks.AfterName ∷ more) sign ≡ Some left
name_passes signs.LeftParenthesis more left r h = let e = r.parenthesis in cc
name_passes signs.LeftBracket more left r h = let e = r.bracket in cc
name_passes _ more left r h = h

index_passes : (sign : Sign) (more left : List Task) → RefusesBrackets more → step more sign ≡ Some left → step (tasks.AfterIndex ∷ more) sign ≡ Some left
index_passes signs.LeftParenthesis more left r h = let e = r.parenthesis in cc
index_passes _ more left r h = h

f_name_alone : {way : Way} {more : List Task} {sign : Sign} {rest after : List Symbol} → RefusesBrackets more → Next way more sign rest → Takes way rest sign after → Taken way (tasks.AfterName ∷ more) sign after
f_name_alone {sign = s} r next t = let h = next _ t in took (name_passes s _ _ r h.taken.stepped) h.taken.covered

f_index_alone : {way : Way} {more : List Task} {sign : Sign} {rest after : List Symbol} → RefusesBrackets more → Next way more sign rest → Takes way rest sign after → Taken way (tasks.AfterIndex ∷ more) sign after
f_index_alone {sign = s} r next t = let h = next _ t in took (index_passes s _ _ r h.taken.stepped) h.taken.covered

tail_passes : (sign : Sign) (more left : List Task) → Refuses more → step more sign ≡ Some left → step (tasks.Tail ∷ more) sign ≡ Some left
tail_passes signs.Question more left r h = let e = r signs.Question Continues.atQuestion in cc
tail_passes signs.Plus more left r h = let e = r signs.Plus Continues.atPlus in cc
tail_passes signs.Minus more left r h = let e = r signs.Minus Continues.atMinus in cc
tail_passes signs.Star more left r h = let e = r signs.Star Continues.atStar in cc
tail_passes signs.Multiplicative more left r h = let e = r signs.Multiplicative Continues.atMultiplicative in cc
tail_passes signs.Shift more left r h = let e = r signs.Shift Continues.atShift in cc
tail_passes signs.Relational more left r h = let e = r signs.Relational Continues.atRelational in cc
tail_passes signs.Equality more left r h = let e = r signs.Equality Continues.atEquality in cc
tail_passes signs.BitAnd more left r h = let e = r signs.BitAnd Continues.atBitAnd in cc
tail_passes signs.BitXor more left r h = let e = r signs.BitXor Continues.atBitXor in cc
tail_passes signs.BitOr more left r h = let e = r signs.BitOr Continues.atBitOr in cc
tail_passes signs.LogicalAnd more left r h = let e = r signs.LogicalAnd Continues.atLogicalAnd in cc
tail_passes signs.LogicalOr more left r h = let e = r signs.LogicalOr Continues.atLogicalOr in cc
tail_passes _ more left r h = h

operator_tail : {level : Level} {sign : Sign} (more : List Task) → IsOperator level sign → step (tasks.Tail ∷ more) sign ≡ Some (tasks.Operand ∷ tasks.Tail ∷ more)
operator_tail more IsOperator.star = refl
operator_tail more _ = refl

operator_then : {way : Way} {before : List Task} {level : Level} {t : Sign} {rest after : List Symbol} → Takes way (symbols.AnOperator level ∷ rest) t after
    → ((s : Sign) → IsOperator level s → Taken way before s rest) → Taken way before t after
operator_then (Takes.operator o) k = k _ o
operator_then (Takes.by a t) k = elim a [ ]

above_then : {way : Way} {level : Level} {more : List Task} {sign : Sign} {rest parts after : List Symbol} → Above level (symbols.ConditionalOption ∷ rest) parts → Refuses more → Covers way more rest → Next way more sign rest
    → Takes way parts sign after → Taken way (tasks.Tail ∷ more) sign after
above_then Above.loosest r c next (Takes.by Alternative.conditional t) = token_then t (took refl (Covers.expr (Covers.token refl (Covers.expr (Covers.done c)))))
above_then {sign = s} Above.loosest r c next (Takes.by Alternative.no_conditional t) = let h = next _ t in took (tail_passes s _ _ r h.taken.stepped) h.taken.covered
above_then (Above.one a) r c next (Takes.by Alternative.another_looser t) = operator_then t (λ s o. took (operator_tail _ o) (Covers.operands (Above.one a) c))
above_then (Above.one a) r c next (Takes.by Alternative.no_more_looser t) = above_then a r c next t

f_tail : {way : Way} {more : List Task} {sign : Sign} {rest parts after : List Symbol} → Above Tightest (symbols.ConditionalOption ∷ rest) parts → Refuses more → Covers way more rest → Next way more sign rest
    → Takes way (symbols.Repeated Tightest ∷ parts) sign after → Taken way (tasks.Tail ∷ more) sign after
f_tail a r c next (Takes.by Alternative.another_tightest t) = operator_then t (λ s o. took (operator_tail _ o) (Covers.operand (Covers.tail a c)))
f_tail a r c next (Takes.by Alternative.no_more_tightest t) = above_then a r c next t

start_operands : (more : List Task) {begun : List Task} {s : Sign} → OperandStart s begun → step (tasks.Operand ∷ tasks.Tail ∷ more) s ≡ Some (begun ++ (tasks.Tail ∷ more))
start_operands more OperandStart.number = refl
start_operands more _ = refl

f_operands : {way : Way} {level : Level} {more : List Task} {sign : Sign} {rest parts after : List Symbol} → Above level (symbols.ConditionalOption ∷ rest) parts → Covers way more rest
    → Takes way (symbols.Binary level ∷ parts) sign after → Taken way (tasks.Operand ∷ tasks.Tail ∷ more) sign after
f_operands {level = l} a c t = binary_then l t a c (λ s begun left b h. took (start_operands _ b) h)

-- the machine takes what the grammar takes, and stands for what is left
pub forward : {way : Way} {before : List Task} {rest after : List Symbol} (sign : Sign) → Covers way before rest → Proper before → Takes way rest sign after → Strong way before sign after
forward sign Covers.nothing p t = elim t [ ]
forward sign (Covers.token {sign = s} used c) p t = plain (tasks.Token s) _ sign (λ h. h) (f_token _ used c t)
forward sign (Covers.tail a c) p t = plain tasks.Tail _ sign (λ h. h) (f_tail a p.0 c (λ after t. forward sign c p.1 t) t)
forward sign (Covers.operands a c) p t = plain tasks.Operand _ sign (λ h. h) (f_operands a c t)
forward sign Covers.items p t = plain tasks.Items _ sign (λ h. h) (f_items t)
forward sign (Covers.done c) p t = f_done (λ after t. forward sign c p t) t
forward sign (Covers.skipped_done c) p t = dropped_done (forward sign c p t)
forward sign (Covers.block_items c) p t = plain tasks.BlockItems _ sign (λ h. h) (f_block_items c t)
forward sign (Covers.else_part c) p t = f_else_part p.0 c (λ after t. forward sign c p.1 t) t
forward sign (Covers.else_gone c) p t = f_else_gone p.0 (λ after t. forward sign c p.1 t) t
forward sign (Covers.skipped_else c) p t = pass_else tt p.0 (forward sign c p.1 t)
forward sign (Covers.name_alone c) p t = plain tasks.AfterName _ sign (λ h. h) (f_name_alone p.0 (λ after t. forward sign c p.1 t) t)
forward sign (Covers.index_alone c) p t = plain tasks.AfterIndex _ sign (λ h. h) (f_index_alone p.0 (λ after t. forward sign c p.1 t) t)
forward sign (Covers.after_int_globals c) p t = plain tasks.AfterInt _ sign (λ h. h) (f_after_int_globals c t)
forward sign (Covers.after_int_table c) p t = plain tasks.AfterInt _ sign (λ h. h) (f_after_int_table c t)
forward sign (Covers.after_int_prototype c) p t = plain tasks.AfterInt _ sign (λ h. h) (f_after_int_prototype c t)
forward sign (Covers.after_int_function c) p t = plain tasks.AfterInt _ sign (λ h. h) (f_after_int_function c t)
forward sign (Covers.after_void_prototype c) p t = plain tasks.AfterVoid _ sign (λ h. h) (f_after_void_prototype c t)
forward sign (Covers.after_void_function c) p t = plain tasks.AfterVoid _ sign (λ h. h) (f_after_void_function c t)
forward sign (Covers.after_int_name_start c) p t = plain tasks.AfterIntName _ sign (λ h. h) (f_after_int_name_start c t)
forward sign (Covers.after_int_name_size c) p t = plain tasks.AfterIntName _ sign (λ h. h) (f_after_int_name_size c t)
forward sign (Covers.after_int_name_prototype c) p t = plain tasks.AfterIntName _ sign (λ h. h) (f_after_int_name_prototype c t)
forward sign (Covers.after_int_name_function c) p t = plain tasks.AfterIntName _ sign (λ h. h) (f_after_int_name_function c t)
forward sign (Covers.global_name c) p t = plain tasks.GlobalName _ sign (λ h. h) (f_global_name c t)
forward sign (Covers.after_global_start c) p t = plain tasks.AfterGlobalName _ sign (λ h. h) (f_after_global_start c t)
forward sign (Covers.after_global_size c) p t = plain tasks.AfterGlobalName _ sign (λ h. h) (f_after_global_size c t)
forward sign (Covers.more_globals c) p t = plain tasks.MoreGlobals _ sign (λ h. h) (f_more_globals c t)
forward sign (Covers.start_value c) p t = plain tasks.StartValue _ sign (λ h. h) (f_start_value c t)
forward sign (Covers.size c) p t = plain tasks.Size _ sign (λ h. h) (f_size c t)
forward sign (Covers.table_parameter c) p t = plain tasks.TableParameter _ sign (λ h. h) (f_table_parameter c t)
forward sign (Covers.table_members c) p t = plain tasks.TableMembers _ sign (λ h. h) (f_table_members c t)
forward sign (Covers.more_members c) p t = plain tasks.MoreMembers _ sign (λ h. h) (f_more_members c t)
forward sign (Covers.parameters_prototype c) p t = plain tasks.Parameters _ sign (λ h. h) (f_parameters_prototype c t)
forward sign (Covers.parameters_function c) p t = plain tasks.Parameters _ sign (λ h. h) (f_parameters_function c t)
forward sign (Covers.list_prototype c) p t = plain tasks.ParameterList _ sign (λ h. h) (f_list_prototype c t)
forward sign (Covers.list_function c) p t = plain tasks.ParameterList _ sign (λ h. h) (f_list_function c t)
forward sign (Covers.end_prototype c) p t = plain tasks.ParametersEnd _ sign (λ h. h) (f_end_prototype c t)
forward sign (Covers.end_function c) p t = plain tasks.ParametersEnd _ sign (λ h. h) (f_end_function c t)
forward sign (Covers.after_prototype c) p t = plain tasks.AfterParameters _ sign (λ h. h) (f_after_prototype c t)
forward sign (Covers.after_function c) p t = plain tasks.AfterParameters _ sign (λ h. h) (f_after_function c t)
forward sign (Covers.parameter_name_prototype c) p t = plain tasks.ParameterName _ sign (λ h. h) (f_parameter_name_prototype c t)
forward sign (Covers.parameter_name_function c) p t = plain tasks.ParameterName _ sign (λ h. h) (f_parameter_name_function c t)
forward sign (Covers.more_parameters_prototype c) p t = plain tasks.MoreParameters _ sign (λ h. h) (f_more_parameters_prototype c t)
forward sign (Covers.more_parameters_function c) p t = plain tasks.MoreParameters _ sign (λ h. h) (f_more_parameters_function c t)
forward sign (Covers.prototype_name c) p t = plain tasks.PrototypeName _ sign (λ h. h) (f_prototype_name c t)
forward sign (Covers.more_prototype c) p t = plain tasks.MorePrototype _ sign (λ h. h) (f_more_prototype c t)
forward sign (Covers.body c) p t = plain tasks.Body _ sign (λ h. h) (f_body c t)
forward sign (Covers.parenthesized c) p t = plain tasks.Parenthesized _ sign (λ h. h) (f_parenthesized c t)
forward sign (Covers.up_to_semicolon c) p t = plain tasks.UpToSemicolon _ sign (λ h. h) (f_up_to_semicolon c t)
forward sign (Covers.for_parts c) p t = plain tasks.ForParts _ sign (λ h. h) (f_for_parts c t)
forward sign (Covers.for_init c) p t = plain tasks.ForInit _ sign (λ h. h) (f_for_init c t)
forward sign (Covers.for_step c) p t = plain tasks.ForStep _ sign (λ h. h) (f_for_step c t)
forward sign (Covers.local_name c) p t = plain tasks.LocalName _ sign (λ h. h) (f_local_name c t)
forward sign (Covers.after_local_value c) p t = plain tasks.AfterLocalName _ sign (λ h. h) (f_after_local_value c t)
forward sign (Covers.after_local_size c) p t = plain tasks.AfterLocalName _ sign (λ h. h) (f_after_local_size c t)
forward sign (Covers.more_locals c) p t = plain tasks.MoreLocals _ sign (λ h. h) (f_more_locals c t)
forward sign (Covers.after_simple_set c) p t = plain tasks.AfterSimpleName _ sign (λ h. h) (f_after_simple_set c t)
forward sign (Covers.after_simple_element c) p t = plain tasks.AfterSimpleName _ sign (λ h. h) (f_after_simple_element c t)
forward sign (Covers.after_simple_call c) p t = plain tasks.AfterSimpleName _ sign (λ h. h) (f_after_simple_call c t)
forward sign (Covers.after_simple_table c) p t = plain tasks.AfterSimpleName _ sign (λ h. h) (f_after_simple_table c t)
forward sign (Covers.simple_index_set c) p t = plain tasks.AfterSimpleIndex _ sign (λ h. h) (f_simple_index_set c t)
forward sign (Covers.simple_index_call c) p t = plain tasks.AfterSimpleIndex _ sign (λ h. h) (f_simple_index_call c t)
forward sign (Covers.argument_list c) p t = plain tasks.ArgumentList _ sign (λ h. h) (f_argument_list c t)
forward sign (Covers.more_arguments c) p t = plain tasks.MoreArguments _ sign (λ h. h) (f_more_arguments c t)
forward sign (Covers.expr c) p t = plain tasks.Expr _ sign (λ h. h) (f_expr c t)
forward sign (Covers.operand c) p t = plain tasks.Operand _ sign (λ h. h) (f_operand c t)
forward sign (Covers.name_index c) p t = plain tasks.AfterName _ sign (λ h. h) (f_name_index c t)
forward sign (Covers.name_call c) p t = plain tasks.AfterName _ sign (λ h. h) (f_name_call c t)
forward sign (Covers.name_table c) p t = plain tasks.AfterName _ sign (λ h. h) (f_name_table c t)
forward sign (Covers.index_call c) p t = plain tasks.AfterIndex _ sign (λ h. h) (f_index_call c t)
