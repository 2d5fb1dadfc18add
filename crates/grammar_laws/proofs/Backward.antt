-- What the machine takes, the grammar takes, and behind what may end an expression stands nothing that goes on with it.
use Rattle.grammar_laws.proofs.Common.{ℕ, ◌≡◌, ◌≤◌, suc, refl, lit≤, List, [], ◌∷◌, ◌++◌, Option, Some, None, arith, Sign, Level, Tightest, Looser, Loosest, IsOperator, IsPrefix, Symbol, Nearest, Takes, CanBeNothing, Alternative, Task, step}
use Rattle.c_grammar.specs.declared.signs.Sign.TheVariants as signs
use Rattle.c_grammar.specs.Rests as symbols
use Rattle.c_grammar.specs.Machine as tasks
use Rattle.grammar_laws.proofs.Covers.{Above, Covers, Continues, Refuses, RefusesBrackets, Proper}
use Rattle.grammar_laws.proofs.Forward.{OperandStart}

-- whatever a rest takes, the other takes, and where the one can be nothing, so can the other
pub record Includes (wide narrow : List Symbol) : Type 0 where
  pub takes : (sign : Sign) (after : List Symbol) → Takes Nearest narrow sign after → Takes Nearest wide sign after
  pub nothing : CanBeNothing narrow → CanBeNothing wide

-- a rest that the tasks stand for takes the sign, and leaves one that includes the rest
pub record Takeable (before : List Task) (sign : Sign) (after : List Symbol) : Type 0 where
  pub rest : List Symbol
  pub left : List Symbol
  pub covered : Covers Nearest before rest
  pub taken : Takes Nearest rest sign left
  pub included : Includes left after

includes_itself : (rest : List Symbol) → Includes rest rest
includes_itself rest = record { takes = λ sign after t. t; nothing = λ n. n }

give : {before : List Task} {sign : Sign} {rest after : List Symbol} → Covers Nearest before rest → Takes Nearest rest sign after → Takeable before sign after
give {rest = r} {after = a} c t = record { rest = r; left = a; covered = c; taken = t; included = includes_itself a }

pub record Stepped (before : List Task) (sign : Sign) (more : List Task) : Type 0 where
  pub proper : Proper before → Proper more
  pub back : (after : List Symbol) → Covers Nearest more after → Takeable before sign after

abbrev pub Back : List Task → Sign → Option (List Task) → Type 0
Back before sign None = Unit {0}
Back before sign (Some more) = Stepped before sign more

height : Level → ℕ
height Tightest = 0
height (Looser level) = suc (height level)

above_bound : {level : Level} {rest parts : List Symbol} → Above level rest parts → height level ≤ 9
unfolding height
above_bound Above.loosest = lit≤ tt
above_bound {level = l} (Above.one a) = let h = above_bound a in omega arith

beyond : {rest parts : List Symbol} → Above (Looser Loosest) rest parts → ⊥
unfolding height
beyond a = let h = above_bound a in omega arith

-- from the operand up to the loosest level
climb : {rest parts after : List Symbol} {sign : Sign} → Above Tightest rest parts → Takes Nearest (symbols.Unary ∷ symbols.Repeated Tightest ∷ parts) sign after → Takes Nearest (symbols.Binary Loosest ∷ rest) sign after
climb (Above.one (Above.one (Above.one (Above.one (Above.one (Above.one (Above.one (Above.one (Above.one Above.loosest))))))))) t = Takes.by Alternative.looser (Takes.by Alternative.looser (Takes.by Alternative.looser (Takes.by Alternative.looser (Takes.by Alternative.looser (Takes.by Alternative.looser (Takes.by Alternative.looser (Takes.by Alternative.looser (Takes.by Alternative.looser (Takes.by Alternative.tightest t)))))))))
climb (Above.one (Above.one (Above.one (Above.one (Above.one (Above.one (Above.one (Above.one (Above.one (Above.one b)))))))))) t = absurd (beyond b)

-- from a level down to the operand
record Descends (level : Level) (rest parts : List Symbol) : Type 0 where
  full : List Symbol
  whole : Above Tightest rest full
  included : Includes (symbols.Unary ∷ symbols.Repeated Tightest ∷ full) (symbols.Binary level ∷ parts)

down_tightest : (parts after : List Symbol) (sign : Sign) → Takes Nearest (symbols.Binary Tightest ∷ parts) sign after → Takes Nearest (symbols.Unary ∷ symbols.Repeated Tightest ∷ parts) sign after
down_tightest parts after sign (Takes.by Alternative.tightest t) = t

nothing_tightest : (parts : List Symbol) → CanBeNothing (symbols.Binary Tightest ∷ parts) → CanBeNothing (symbols.Unary ∷ symbols.Repeated Tightest ∷ parts)
nothing_tightest parts (CanBeNothing.by Alternative.tightest n) = n

down_looser : (level : Level) (parts after : List Symbol) (sign : Sign) → Takes Nearest (symbols.Binary (Looser level) ∷ parts) sign after → Takes Nearest (symbols.Binary level ∷ symbols.Repeated (Looser level) ∷ parts) sign after
down_looser level parts after sign (Takes.by Alternative.looser t) = t

nothing_looser : (level : Level) (parts : List Symbol) → CanBeNothing (symbols.Binary (Looser level) ∷ parts) → CanBeNothing (symbols.Binary level ∷ symbols.Repeated (Looser level) ∷ parts)
nothing_looser level parts (CanBeNothing.by Alternative.looser n) = n

descend : (level : Level) {rest parts : List Symbol} → Above level rest parts → Descends level rest parts
descend Tightest {parts = ps} a = record { full = ps; whole = a; included = record { takes = λ sign after t. down_tightest ps after sign t; nothing = λ n. nothing_tightest ps n } }
descend (Looser level) {parts = ps} a =
    let d = descend level (Above.one a) in
    record { full = d.full; whole = d.whole; included = record { takes = λ sign after t. d.included.takes sign after (down_looser level ps after sign t); nothing = λ n. d.included.nothing (nothing_looser level ps n) } }

pub no_token_nothing : {sign : Sign} {rest : List Symbol} → CanBeNothing (symbols.The sign ∷ rest) → ⊥
no_token_nothing (CanBeNothing.by a n) = elim a [ ]

no_prefix_nothing : {rest : List Symbol} → CanBeNothing (symbols.APrefix ∷ rest) → ⊥
no_prefix_nothing (CanBeNothing.by a n) = elim a [ ]

pub no_operand_nothing : {rest : List Symbol} → CanBeNothing (symbols.Unary ∷ rest) → ⊥
no_operand_nothing (CanBeNothing.by Alternative.prefixed n) = no_prefix_nothing n
no_operand_nothing (CanBeNothing.by Alternative.primary (CanBeNothing.by Alternative.number_primary n)) = no_token_nothing n
no_operand_nothing (CanBeNothing.by Alternative.primary (CanBeNothing.by Alternative.name_primary n)) = no_token_nothing n
no_operand_nothing (CanBeNothing.by Alternative.primary (CanBeNothing.by Alternative.element_primary n)) = no_token_nothing n
no_operand_nothing (CanBeNothing.by Alternative.primary (CanBeNothing.by Alternative.call_primary (CanBeNothing.by Alternative.call n))) = no_token_nothing n
no_operand_nothing (CanBeNothing.by Alternative.primary (CanBeNothing.by Alternative.call_primary (CanBeNothing.by Alternative.table_call n))) = no_token_nothing n
no_operand_nothing (CanBeNothing.by Alternative.primary (CanBeNothing.by Alternative.parenthesized_primary (CanBeNothing.by Alternative.parenthesized n))) = no_token_nothing n

-- what the operands of the tasks include, seen from the operand behind an operator
behind : {before : List Task} {sign : Sign} {left : List Symbol} (after : List Symbol) → Takeable before sign left
    → ((s : Sign) (b : List Symbol) → Takes Nearest after s b → Takes Nearest left s b) → (CanBeNothing after → ⊥) → Takeable before sign after
behind after h k z = record { rest = h.rest; left = h.left; covered = h.covered; taken = h.taken; included = record { takes = λ s b t. h.included.takes s b (k s b t); nothing = λ n. absurd (z n) } }

-- an operand, begun
record Begun (more : List Task) (sign : Sign) (left : List Symbol) : Type 0 where
  rest : List Symbol
  covered : Covers Nearest more rest
  taken : Takes Nearest (symbols.Unary ∷ rest) sign left

begun_by : {more : List Task} {sign : Sign} {rest left : List Symbol} → Covers Nearest more rest → Takes Nearest (symbols.Unary ∷ rest) sign left → Begun more sign left
begun_by {rest = r} c t = record { rest = r; covered = c; taken = t }

begun_number : {more : List Task} {left : List Symbol} → Covers Nearest more left → Begun more signs.Number left
begun_number c = begun_by c (Takes.by Alternative.primary (Takes.by Alternative.number_primary Takes.token))

begun_name : {more : List Task} {left : List Symbol} → Covers Nearest (tasks.AfterName ∷ more) left → Begun more signs.Name left
begun_name (Covers.name_alone c) = begun_by c (Takes.by Alternative.primary (Takes.by Alternative.name_primary Takes.token))
begun_name (Covers.name_index c) = begun_by c (Takes.by Alternative.primary (Takes.by Alternative.element_primary Takes.token))
begun_name (Covers.name_call c) = begun_by c (Takes.by Alternative.primary (Takes.by Alternative.call_primary (Takes.by Alternative.call Takes.token)))
begun_name (Covers.name_table c) = begun_by c (Takes.by Alternative.primary (Takes.by Alternative.call_primary (Takes.by Alternative.table_call Takes.token)))

begun_parenthesis : {more : List Task} {left : List Symbol} → Covers Nearest (tasks.Expr ∷ tasks.Token signs.RightParenthesis ∷ more) left → Begun more signs.LeftParenthesis left
begun_parenthesis (Covers.expr (Covers.token u c)) = begun_by c (Takes.by Alternative.primary (Takes.by Alternative.parenthesized_primary (Takes.by Alternative.parenthesized Takes.token)))

begun_prefix : {more : List Task} {sign : Sign} {left : List Symbol} → IsPrefix sign → Covers Nearest (tasks.Operand ∷ tasks.Done ∷ more) left → Begun more sign left
begun_prefix p (Covers.operand (Covers.done c)) = begun_by c (Takes.by Alternative.prefixed (Takes.prefix p))

operand_back : {sign : Sign} {begun : List Task} → OperandStart sign begun → (more : List Task) (left : List Symbol) → Covers Nearest (begun ++ more) left → Begun more sign left
operand_back OperandStart.number more left c = begun_number c
operand_back OperandStart.name more left c = begun_name c
operand_back OperandStart.parenthesis more left c = begun_parenthesis c
operand_back OperandStart.plus more left c = begun_prefix IsPrefix.plus c
operand_back OperandStart.minus more left c = begun_prefix IsPrefix.minus c
operand_back OperandStart.prefix_sign more left c = begun_prefix IsPrefix.prefix_sign c

-- an expression, begun
record BegunExpr (more : List Task) (sign : Sign) (left : List Symbol) : Type 0 where
  rest : List Symbol
  covered : Covers Nearest more rest
  taken : Takes Nearest (symbols.Expr ∷ rest) sign left

begun_tail : {more : List Task} {sign : Sign} {rest left : List Symbol} → Covers Nearest (tasks.Tail ∷ more) rest → Takes Nearest (symbols.Unary ∷ rest) sign left → BegunExpr more sign left
begun_tail (Covers.tail {rest = r} a c) t = record { rest = r; covered = c; taken = Takes.by Alternative.expr (climb a t) }

expr_back : {sign : Sign} {begun : List Task} → OperandStart sign begun → (more : List Task) (left : List Symbol) → Covers Nearest (begun ++ (tasks.Tail ∷ more)) left → BegunExpr more sign left
expr_back s more left c = let h = operand_back s (tasks.Tail ∷ more) left c in begun_tail h.covered h.taken

refuses_parenthesis : (more : List Task) → Refuses (tasks.Token signs.RightParenthesis ∷ more)
refuses_parenthesis more sign Continues.atLeftParenthesis = refl
refuses_parenthesis more sign _ = refl

refuses_bracket : (more : List Task) → Refuses (tasks.Token signs.RightBracket ∷ more)
refuses_bracket more sign Continues.atLeftParenthesis = refl
refuses_bracket more sign _ = refl

refuses_colon : (more : List Task) → Refuses (tasks.Token signs.Colon ∷ more)
refuses_colon more sign Continues.atLeftParenthesis = refl
refuses_colon more sign _ = refl

refuses_semicolon : (more : List Task) → Refuses (tasks.Token signs.Semicolon ∷ more)
refuses_semicolon more sign Continues.atLeftParenthesis = refl
refuses_semicolon more sign _ = refl

refuses_locals : (more : List Task) → Refuses (tasks.MoreLocals ∷ more)
refuses_locals more sign Continues.atLeftParenthesis = refl
refuses_locals more sign _ = refl

refuses_arguments : (more : List Task) → Refuses (tasks.MoreArguments ∷ more)
refuses_arguments more sign Continues.atLeftParenthesis = refl
refuses_arguments more sign _ = refl

refuses_done : (more : List Task) → Refuses more → Refuses (tasks.Done ∷ more)
refuses_done more r sign c = r sign c

brackets_done : (more : List Task) → RefusesBrackets more → RefusesBrackets (tasks.Done ∷ more)
brackets_done more r = record { parenthesis = r.parenthesis; bracket = r.bracket }

brackets_tail : (more : List Task) → Refuses more → RefusesBrackets (tasks.Tail ∷ more)
brackets_tail more r = record { parenthesis = r signs.LeftParenthesis Continues.atLeftParenthesis; bracket = r signs.LeftBracket Continues.atLeftBracket }

proper_start : {sign : Sign} {begun : List Task} → OperandStart sign begun → (more : List Task) → RefusesBrackets more → Proper more → Proper (begun ++ more)
proper_start OperandStart.number more r p = p
proper_start OperandStart.name more r p = (r, p)
proper_start OperandStart.parenthesis more r p = (refuses_parenthesis more, (refl, p))
proper_start _ more r p = (brackets_done more r, p)

b_AfterInt_Name : {more : List Task} {after : List Symbol} → Covers Nearest (tasks.AfterIntName ∷ more) after → Takeable (tasks.AfterInt ∷ more) signs.Name after
b_AfterInt_Name (Covers.after_int_name_start c) = give (Covers.after_int_globals c) (Takes.by Alternative.scalar Takes.token)
b_AfterInt_Name (Covers.after_int_name_size c) = give (Covers.after_int_globals c) (Takes.by Alternative.array Takes.token)
b_AfterInt_Name (Covers.after_int_name_prototype c) = give (Covers.after_int_prototype c) Takes.token
b_AfterInt_Name (Covers.after_int_name_function c) = give (Covers.after_int_function c) Takes.token

b_AfterInt_LeftParenthesis : {more : List Task} {after : List Symbol} → Covers Nearest (tasks.Token signs.Star ∷ tasks.Token signs.Name ∷ tasks.Size ∷ tasks.Token signs.RightParenthesis ∷ tasks.TableParameter ∷ tasks.Token signs.Assign ∷ tasks.TableMembers ∷ tasks.Token signs.Semicolon ∷ more) after → Takeable (tasks.AfterInt ∷ more) signs.LeftParenthesis after
b_AfterInt_LeftParenthesis (Covers.token _ (Covers.token _ (Covers.size (Covers.token _ (Covers.table_parameter (Covers.token _ (Covers.table_members (Covers.token _ c)))))))) = give (Covers.after_int_table c) (Takes.by Alternative.table_name Takes.token)

b_AfterVoid_Name : {more : List Task} {after : List Symbol} → Covers Nearest (tasks.Parameters ∷ more) after → Takeable (tasks.AfterVoid ∷ more) signs.Name after
b_AfterVoid_Name (Covers.parameters_prototype c) = give (Covers.after_void_prototype c) Takes.token
b_AfterVoid_Name (Covers.parameters_function c) = give (Covers.after_void_function c) Takes.token

b_AfterIntName_Semicolon : {more : List Task} {after : List Symbol} → Covers Nearest (more) after → Takeable (tasks.AfterIntName ∷ more) signs.Semicolon after
b_AfterIntName_Semicolon c = give (Covers.after_int_name_start c) (Takes.by Alternative.no_start (Takes.by Alternative.no_more_globals Takes.token))

b_AfterIntName_Comma : {more : List Task} {after : List Symbol} → Covers Nearest (tasks.GlobalName ∷ more) after → Takeable (tasks.AfterIntName ∷ more) signs.Comma after
b_AfterIntName_Comma (Covers.global_name c) = give (Covers.after_int_name_start c) (Takes.by Alternative.no_start (Takes.by Alternative.another_global Takes.token))

b_AfterIntName_Assign : {more : List Task} {after : List Symbol} → Covers Nearest (tasks.StartValue ∷ tasks.MoreGlobals ∷ more) after → Takeable (tasks.AfterIntName ∷ more) signs.Assign after
b_AfterIntName_Assign (Covers.start_value (Covers.more_globals c)) = give (Covers.after_int_name_start c) (Takes.by Alternative.start Takes.token)

b_AfterIntName_LeftBracket : {more : List Task} {after : List Symbol} → Covers Nearest (tasks.Token signs.Number ∷ tasks.Token signs.RightBracket ∷ tasks.MoreGlobals ∷ more) after → Takeable (tasks.AfterIntName ∷ more) signs.LeftBracket after
b_AfterIntName_LeftBracket (Covers.token _ (Covers.token _ (Covers.more_globals c))) = give (Covers.after_int_name_size c) (Takes.by Alternative.size Takes.token)

b_AfterIntName_LeftParenthesis : {more : List Task} {after : List Symbol} → Covers Nearest (tasks.ParameterList ∷ more) after → Takeable (tasks.AfterIntName ∷ more) signs.LeftParenthesis after
b_AfterIntName_LeftParenthesis (Covers.list_prototype c) = give (Covers.after_int_name_prototype c) (Takes.by Alternative.prototype_parameters Takes.token)
b_AfterIntName_LeftParenthesis (Covers.list_function c) = give (Covers.after_int_name_function c) (Takes.by Alternative.function_parameters Takes.token)

b_GlobalName_Name : {more : List Task} {after : List Symbol} → Covers Nearest (tasks.AfterGlobalName ∷ more) after → Takeable (tasks.GlobalName ∷ more) signs.Name after
b_GlobalName_Name (Covers.after_global_start c) = give (Covers.global_name c) (Takes.by Alternative.scalar Takes.token)
b_GlobalName_Name (Covers.after_global_size c) = give (Covers.global_name c) (Takes.by Alternative.array Takes.token)

b_AfterGlobalName_Semicolon : {more : List Task} {after : List Symbol} → Covers Nearest (more) after → Takeable (tasks.AfterGlobalName ∷ more) signs.Semicolon after
b_AfterGlobalName_Semicolon c = give (Covers.after_global_start c) (Takes.by Alternative.no_start (Takes.by Alternative.no_more_globals Takes.token))

b_AfterGlobalName_Comma : {more : List Task} {after : List Symbol} → Covers Nearest (tasks.GlobalName ∷ more) after → Takeable (tasks.AfterGlobalName ∷ more) signs.Comma after
b_AfterGlobalName_Comma (Covers.global_name c) = give (Covers.after_global_start c) (Takes.by Alternative.no_start (Takes.by Alternative.another_global Takes.token))

b_AfterGlobalName_Assign : {more : List Task} {after : List Symbol} → Covers Nearest (tasks.StartValue ∷ tasks.MoreGlobals ∷ more) after → Takeable (tasks.AfterGlobalName ∷ more) signs.Assign after
b_AfterGlobalName_Assign (Covers.start_value (Covers.more_globals c)) = give (Covers.after_global_start c) (Takes.by Alternative.start Takes.token)

b_AfterGlobalName_LeftBracket : {more : List Task} {after : List Symbol} → Covers Nearest (tasks.Token signs.Number ∷ tasks.Token signs.RightBracket ∷ tasks.MoreGlobals ∷ more) after → Takeable (tasks.AfterGlobalName ∷ more) signs.LeftBracket after
b_AfterGlobalName_LeftBracket (Covers.token _ (Covers.token _ (Covers.more_globals c))) = give (Covers.after_global_size c) (Takes.by Alternative.size Takes.token)

b_MoreGlobals_Semicolon : {more : List Task} {after : List Symbol} → Covers Nearest (more) after → Takeable (tasks.MoreGlobals ∷ more) signs.Semicolon after
b_MoreGlobals_Semicolon c = give (Covers.more_globals c) (Takes.by Alternative.no_more_globals Takes.token)

b_MoreGlobals_Comma : {more : List Task} {after : List Symbol} → Covers Nearest (tasks.GlobalName ∷ more) after → Takeable (tasks.MoreGlobals ∷ more) signs.Comma after
b_MoreGlobals_Comma (Covers.global_name c) = give (Covers.more_globals c) (Takes.by Alternative.another_global Takes.token)

b_StartValue_Number : {more : List Task} {after : List Symbol} → Covers Nearest (more) after → Takeable (tasks.StartValue ∷ more) signs.Number after
b_StartValue_Number c = give (Covers.start_value c) (Takes.by Alternative.no_minus Takes.token)

b_StartValue_Minus : {more : List Task} {after : List Symbol} → Covers Nearest (tasks.Token signs.Number ∷ more) after → Takeable (tasks.StartValue ∷ more) signs.Minus after
b_StartValue_Minus (Covers.token _ c) = give (Covers.start_value c) (Takes.by Alternative.minus Takes.token)

b_Size_LeftBracket : {more : List Task} {after : List Symbol} → Covers Nearest (tasks.Token signs.Number ∷ tasks.Token signs.RightBracket ∷ more) after → Takeable (tasks.Size ∷ more) signs.LeftBracket after
b_Size_LeftBracket (Covers.token _ (Covers.token _ c)) = give (Covers.size c) (Takes.by Alternative.size Takes.token)

b_TableParameter_LeftParenthesis : {more : List Task} {after : List Symbol} → Covers Nearest (tasks.Token signs.Int ∷ tasks.Token signs.RightParenthesis ∷ more) after → Takeable (tasks.TableParameter ∷ more) signs.LeftParenthesis after
b_TableParameter_LeftParenthesis (Covers.token _ (Covers.token _ c)) = give (Covers.table_parameter c) (Takes.by Alternative.table_parameter Takes.token)

b_TableMembers_LeftBrace : {more : List Task} {after : List Symbol} → Covers Nearest (tasks.Token signs.Name ∷ tasks.MoreMembers ∷ more) after → Takeable (tasks.TableMembers ∷ more) signs.LeftBrace after
b_TableMembers_LeftBrace (Covers.token _ (Covers.more_members c)) = give (Covers.table_members c) (Takes.by Alternative.members Takes.token)

b_MoreMembers_RightBrace : {more : List Task} {after : List Symbol} → Covers Nearest (more) after → Takeable (tasks.MoreMembers ∷ more) signs.RightBrace after
b_MoreMembers_RightBrace c = give (Covers.more_members c) (Takes.by Alternative.no_more_members Takes.token)

b_MoreMembers_Comma : {more : List Task} {after : List Symbol} → Covers Nearest (tasks.Token signs.Name ∷ tasks.MoreMembers ∷ more) after → Takeable (tasks.MoreMembers ∷ more) signs.Comma after
b_MoreMembers_Comma (Covers.token _ (Covers.more_members c)) = give (Covers.more_members c) (Takes.by Alternative.another_member Takes.token)

b_Parameters_LeftParenthesis : {more : List Task} {after : List Symbol} → Covers Nearest (tasks.ParameterList ∷ more) after → Takeable (tasks.Parameters ∷ more) signs.LeftParenthesis after
b_Parameters_LeftParenthesis (Covers.list_prototype c) = give (Covers.parameters_prototype c) (Takes.by Alternative.prototype_parameters Takes.token)
b_Parameters_LeftParenthesis (Covers.list_function c) = give (Covers.parameters_function c) (Takes.by Alternative.function_parameters Takes.token)

b_ParameterList_RightParenthesis : {more : List Task} {after : List Symbol} → Covers Nearest (tasks.AfterParameters ∷ more) after → Takeable (tasks.ParameterList ∷ more) signs.RightParenthesis after
b_ParameterList_RightParenthesis (Covers.after_prototype c) = give (Covers.list_prototype c) (Takes.by Alternative.no_parameters Takes.token)
b_ParameterList_RightParenthesis (Covers.after_function c) = give (Covers.list_function c) (Takes.by Alternative.no_named Takes.token)

b_ParameterList_Void : {more : List Task} {after : List Symbol} → Covers Nearest (tasks.ParametersEnd ∷ more) after → Takeable (tasks.ParameterList ∷ more) signs.Void after
b_ParameterList_Void (Covers.end_prototype c) = give (Covers.list_prototype c) (Takes.by Alternative.void_parameters Takes.token)
b_ParameterList_Void (Covers.end_function c) = give (Covers.list_function c) (Takes.by Alternative.void_named Takes.token)

b_ParameterList_Int : {more : List Task} {after : List Symbol} → Covers Nearest (tasks.ParameterName ∷ more) after → Takeable (tasks.ParameterList ∷ more) signs.Int after
b_ParameterList_Int (Covers.parameter_name_prototype c) = give (Covers.list_prototype c) (Takes.by Alternative.some_parameters Takes.token)
b_ParameterList_Int (Covers.parameter_name_function c) = give (Covers.list_function c) (Takes.by Alternative.some_named Takes.token)

b_ParametersEnd_RightParenthesis : {more : List Task} {after : List Symbol} → Covers Nearest (tasks.AfterParameters ∷ more) after → Takeable (tasks.ParametersEnd ∷ more) signs.RightParenthesis after
b_ParametersEnd_RightParenthesis (Covers.after_prototype c) = give (Covers.end_prototype c) Takes.token
b_ParametersEnd_RightParenthesis (Covers.after_function c) = give (Covers.end_function c) Takes.token

b_AfterParameters_Semicolon : {more : List Task} {after : List Symbol} → Covers Nearest (more) after → Takeable (tasks.AfterParameters ∷ more) signs.Semicolon after
b_AfterParameters_Semicolon c = give (Covers.after_prototype c) Takes.token

b_AfterParameters_LeftBrace : {more : List Task} {after : List Symbol} → Covers Nearest (tasks.BlockItems ∷ more) after → Takeable (tasks.AfterParameters ∷ more) signs.LeftBrace after
b_AfterParameters_LeftBrace (Covers.block_items c) = give (Covers.after_function c) (Takes.by Alternative.block Takes.token)

b_ParameterName_RightParenthesis : {more : List Task} {after : List Symbol} → Covers Nearest (tasks.Token signs.Semicolon ∷ more) after → Takeable (tasks.ParameterName ∷ more) signs.RightParenthesis after
b_ParameterName_RightParenthesis (Covers.token _ c) = give (Covers.parameter_name_prototype c) (Takes.by Alternative.no_name (Takes.by Alternative.no_more_parameters Takes.token))

b_ParameterName_Comma : {more : List Task} {after : List Symbol} → Covers Nearest (tasks.Token signs.Int ∷ tasks.PrototypeName ∷ more) after → Takeable (tasks.ParameterName ∷ more) signs.Comma after
b_ParameterName_Comma (Covers.token _ (Covers.prototype_name c)) = give (Covers.parameter_name_prototype c) (Takes.by Alternative.no_name (Takes.by Alternative.another_parameter Takes.token))

b_ParameterName_Name : {more : List Task} {after : List Symbol} → Covers Nearest (tasks.MoreParameters ∷ more) after → Takeable (tasks.ParameterName ∷ more) signs.Name after
b_ParameterName_Name (Covers.more_parameters_prototype c) = give (Covers.parameter_name_prototype c) (Takes.by Alternative.name Takes.token)
b_ParameterName_Name (Covers.more_parameters_function c) = give (Covers.parameter_name_function c) Takes.token

b_MoreParameters_RightParenthesis : {more : List Task} {after : List Symbol} → Covers Nearest (tasks.AfterParameters ∷ more) after → Takeable (tasks.MoreParameters ∷ more) signs.RightParenthesis after
b_MoreParameters_RightParenthesis (Covers.after_prototype c) = give (Covers.more_parameters_prototype c) (Takes.by Alternative.no_more_parameters Takes.token)
b_MoreParameters_RightParenthesis (Covers.after_function c) = give (Covers.more_parameters_function c) (Takes.by Alternative.no_more_named Takes.token)

b_MoreParameters_Comma : {more : List Task} {after : List Symbol} → Covers Nearest (tasks.Token signs.Int ∷ tasks.ParameterName ∷ more) after → Takeable (tasks.MoreParameters ∷ more) signs.Comma after
b_MoreParameters_Comma (Covers.token _ (Covers.parameter_name_prototype c)) = give (Covers.more_parameters_prototype c) (Takes.by Alternative.another_parameter Takes.token)
b_MoreParameters_Comma (Covers.token _ (Covers.parameter_name_function c)) = give (Covers.more_parameters_function c) (Takes.by Alternative.another_named Takes.token)

b_PrototypeName_RightParenthesis : {more : List Task} {after : List Symbol} → Covers Nearest (tasks.Token signs.Semicolon ∷ more) after → Takeable (tasks.PrototypeName ∷ more) signs.RightParenthesis after
b_PrototypeName_RightParenthesis (Covers.token _ c) = give (Covers.prototype_name c) (Takes.by Alternative.no_name (Takes.by Alternative.no_more_parameters Takes.token))

b_PrototypeName_Comma : {more : List Task} {after : List Symbol} → Covers Nearest (tasks.Token signs.Int ∷ tasks.PrototypeName ∷ more) after → Takeable (tasks.PrototypeName ∷ more) signs.Comma after
b_PrototypeName_Comma (Covers.token _ (Covers.prototype_name c)) = give (Covers.prototype_name c) (Takes.by Alternative.no_name (Takes.by Alternative.another_parameter Takes.token))

b_PrototypeName_Name : {more : List Task} {after : List Symbol} → Covers Nearest (tasks.MorePrototype ∷ more) after → Takeable (tasks.PrototypeName ∷ more) signs.Name after
b_PrototypeName_Name (Covers.more_prototype c) = give (Covers.prototype_name c) (Takes.by Alternative.name Takes.token)

b_MorePrototype_RightParenthesis : {more : List Task} {after : List Symbol} → Covers Nearest (tasks.Token signs.Semicolon ∷ more) after → Takeable (tasks.MorePrototype ∷ more) signs.RightParenthesis after
b_MorePrototype_RightParenthesis (Covers.token _ c) = give (Covers.more_prototype c) (Takes.by Alternative.no_more_parameters Takes.token)

b_MorePrototype_Comma : {more : List Task} {after : List Symbol} → Covers Nearest (tasks.Token signs.Int ∷ tasks.PrototypeName ∷ more) after → Takeable (tasks.MorePrototype ∷ more) signs.Comma after
b_MorePrototype_Comma (Covers.token _ (Covers.prototype_name c)) = give (Covers.more_prototype c) (Takes.by Alternative.another_parameter Takes.token)

b_Body_Name : {more : List Task} {after : List Symbol} → Covers Nearest (tasks.AfterSimpleName ∷ tasks.Token signs.Semicolon ∷ more) after → Takeable (tasks.Body ∷ more) signs.Name after
b_Body_Name (Covers.after_simple_set (Covers.token _ c)) = give (Covers.body c) (Takes.by Alternative.simple_body (Takes.by Alternative.set Takes.token))
b_Body_Name (Covers.after_simple_element (Covers.token _ c)) = give (Covers.body c) (Takes.by Alternative.simple_body (Takes.by Alternative.set_element Takes.token))
b_Body_Name (Covers.after_simple_call (Covers.token _ c)) = give (Covers.body c) (Takes.by Alternative.simple_body (Takes.by Alternative.call_simple (Takes.by Alternative.call Takes.token)))
b_Body_Name (Covers.after_simple_table (Covers.token _ c)) = give (Covers.body c) (Takes.by Alternative.simple_body (Takes.by Alternative.call_simple (Takes.by Alternative.table_call Takes.token)))

b_Body_Semicolon : {more : List Task} {after : List Symbol} → Covers Nearest (more) after → Takeable (tasks.Body ∷ more) signs.Semicolon after
b_Body_Semicolon c = give (Covers.body c) (Takes.by Alternative.empty_body Takes.token)

b_Body_LeftBrace : {more : List Task} {after : List Symbol} → Covers Nearest (tasks.BlockItems ∷ more) after → Takeable (tasks.Body ∷ more) signs.LeftBrace after
b_Body_LeftBrace (Covers.block_items c) = give (Covers.body c) (Takes.by Alternative.block_body (Takes.by Alternative.block Takes.token))

b_Body_If : {more : List Task} {after : List Symbol} → Covers Nearest (tasks.Parenthesized ∷ tasks.Body ∷ tasks.ElsePart ∷ more) after → Takeable (tasks.Body ∷ more) signs.If after
b_Body_If (Covers.parenthesized (Covers.body (Covers.else_part c))) = give (Covers.body c) (Takes.by Alternative.if_body Takes.token)

b_Body_While : {more : List Task} {after : List Symbol} → Covers Nearest (tasks.Parenthesized ∷ tasks.Body ∷ tasks.Done ∷ more) after → Takeable (tasks.Body ∷ more) signs.While after
b_Body_While (Covers.parenthesized (Covers.body (Covers.done c))) = give (Covers.body c) (Takes.by Alternative.while_body Takes.token)

b_Body_For : {more : List Task} {after : List Symbol} → Covers Nearest (tasks.ForParts ∷ tasks.Body ∷ tasks.Done ∷ more) after → Takeable (tasks.Body ∷ more) signs.For after
b_Body_For (Covers.for_parts (Covers.body (Covers.done c))) = give (Covers.body c) (Takes.by Alternative.for_body Takes.token)

b_Body_Break : {more : List Task} {after : List Symbol} → Covers Nearest (tasks.Token signs.Semicolon ∷ more) after → Takeable (tasks.Body ∷ more) signs.Break after
b_Body_Break (Covers.token _ c) = give (Covers.body c) (Takes.by Alternative.break_body Takes.token)

b_Body_Continue : {more : List Task} {after : List Symbol} → Covers Nearest (tasks.Token signs.Semicolon ∷ more) after → Takeable (tasks.Body ∷ more) signs.Continue after
b_Body_Continue (Covers.token _ c) = give (Covers.body c) (Takes.by Alternative.continue_body Takes.token)

b_Body_Return : {more : List Task} {after : List Symbol} → Covers Nearest (tasks.UpToSemicolon ∷ more) after → Takeable (tasks.Body ∷ more) signs.Return after
b_Body_Return (Covers.up_to_semicolon c) = give (Covers.body c) (Takes.by Alternative.return_body Takes.token)

b_Parenthesized_LeftParenthesis : {more : List Task} {after : List Symbol} → Covers Nearest (tasks.Expr ∷ tasks.Token signs.RightParenthesis ∷ more) after → Takeable (tasks.Parenthesized ∷ more) signs.LeftParenthesis after
b_Parenthesized_LeftParenthesis (Covers.expr (Covers.token _ c)) = give (Covers.parenthesized c) (Takes.by Alternative.parenthesized Takes.token)

b_UpToSemicolon_Semicolon : {more : List Task} {after : List Symbol} → Covers Nearest (more) after → Takeable (tasks.UpToSemicolon ∷ more) signs.Semicolon after
b_UpToSemicolon_Semicolon c = give (Covers.up_to_semicolon c) (Takes.by Alternative.no_expr Takes.token)

b_ForParts_LeftParenthesis : {more : List Task} {after : List Symbol} → Covers Nearest (tasks.ForInit ∷ more) after → Takeable (tasks.ForParts ∷ more) signs.LeftParenthesis after
b_ForParts_LeftParenthesis (Covers.for_init c) = give (Covers.for_parts c) (Takes.by Alternative.for_parts Takes.token)

b_ForInit_Semicolon : {more : List Task} {after : List Symbol} → Covers Nearest (tasks.UpToSemicolon ∷ tasks.ForStep ∷ more) after → Takeable (tasks.ForInit ∷ more) signs.Semicolon after
b_ForInit_Semicolon (Covers.up_to_semicolon (Covers.for_step c)) = give (Covers.for_init c) (Takes.by Alternative.no_init Takes.token)

b_ForInit_Int : {more : List Task} {after : List Symbol} → Covers Nearest (tasks.LocalName ∷ tasks.UpToSemicolon ∷ tasks.ForStep ∷ more) after → Takeable (tasks.ForInit ∷ more) signs.Int after
b_ForInit_Int (Covers.local_name (Covers.up_to_semicolon (Covers.for_step c))) = give (Covers.for_init c) (Takes.by Alternative.locals_init (Takes.by Alternative.locals Takes.token))

b_ForInit_Name : {more : List Task} {after : List Symbol} → Covers Nearest (tasks.AfterSimpleName ∷ tasks.Token signs.Semicolon ∷ tasks.UpToSemicolon ∷ tasks.ForStep ∷ more) after → Takeable (tasks.ForInit ∷ more) signs.Name after
b_ForInit_Name (Covers.after_simple_set (Covers.token _ (Covers.up_to_semicolon (Covers.for_step c)))) = give (Covers.for_init c) (Takes.by Alternative.simple_init (Takes.by Alternative.set Takes.token))
b_ForInit_Name (Covers.after_simple_element (Covers.token _ (Covers.up_to_semicolon (Covers.for_step c)))) = give (Covers.for_init c) (Takes.by Alternative.simple_init (Takes.by Alternative.set_element Takes.token))
b_ForInit_Name (Covers.after_simple_call (Covers.token _ (Covers.up_to_semicolon (Covers.for_step c)))) = give (Covers.for_init c) (Takes.by Alternative.simple_init (Takes.by Alternative.call_simple (Takes.by Alternative.call Takes.token)))
b_ForInit_Name (Covers.after_simple_table (Covers.token _ (Covers.up_to_semicolon (Covers.for_step c)))) = give (Covers.for_init c) (Takes.by Alternative.simple_init (Takes.by Alternative.call_simple (Takes.by Alternative.table_call Takes.token)))

b_ForStep_RightParenthesis : {more : List Task} {after : List Symbol} → Covers Nearest (more) after → Takeable (tasks.ForStep ∷ more) signs.RightParenthesis after
b_ForStep_RightParenthesis c = give (Covers.for_step c) (Takes.by Alternative.no_simple Takes.token)

b_ForStep_Name : {more : List Task} {after : List Symbol} → Covers Nearest (tasks.AfterSimpleName ∷ tasks.Token signs.RightParenthesis ∷ more) after → Takeable (tasks.ForStep ∷ more) signs.Name after
b_ForStep_Name (Covers.after_simple_set (Covers.token _ c)) = give (Covers.for_step c) (Takes.by Alternative.simple_part (Takes.by Alternative.set Takes.token))
b_ForStep_Name (Covers.after_simple_element (Covers.token _ c)) = give (Covers.for_step c) (Takes.by Alternative.simple_part (Takes.by Alternative.set_element Takes.token))
b_ForStep_Name (Covers.after_simple_call (Covers.token _ c)) = give (Covers.for_step c) (Takes.by Alternative.simple_part (Takes.by Alternative.call_simple (Takes.by Alternative.call Takes.token)))
b_ForStep_Name (Covers.after_simple_table (Covers.token _ c)) = give (Covers.for_step c) (Takes.by Alternative.simple_part (Takes.by Alternative.call_simple (Takes.by Alternative.table_call Takes.token)))

b_LocalName_Name : {more : List Task} {after : List Symbol} → Covers Nearest (tasks.AfterLocalName ∷ more) after → Takeable (tasks.LocalName ∷ more) signs.Name after
b_LocalName_Name (Covers.after_local_value c) = give (Covers.local_name c) (Takes.by Alternative.local_scalar Takes.token)
b_LocalName_Name (Covers.after_local_size c) = give (Covers.local_name c) (Takes.by Alternative.local_array Takes.token)

b_AfterLocalName_Semicolon : {more : List Task} {after : List Symbol} → Covers Nearest (more) after → Takeable (tasks.AfterLocalName ∷ more) signs.Semicolon after
b_AfterLocalName_Semicolon c = give (Covers.after_local_value c) (Takes.by Alternative.no_value (Takes.by Alternative.no_more_locals Takes.token))

b_AfterLocalName_Comma : {more : List Task} {after : List Symbol} → Covers Nearest (tasks.LocalName ∷ more) after → Takeable (tasks.AfterLocalName ∷ more) signs.Comma after
b_AfterLocalName_Comma (Covers.local_name c) = give (Covers.after_local_value c) (Takes.by Alternative.no_value (Takes.by Alternative.another_local Takes.token))

b_AfterLocalName_Assign : {more : List Task} {after : List Symbol} → Covers Nearest (tasks.Expr ∷ tasks.MoreLocals ∷ more) after → Takeable (tasks.AfterLocalName ∷ more) signs.Assign after
b_AfterLocalName_Assign (Covers.expr (Covers.more_locals c)) = give (Covers.after_local_value c) (Takes.by Alternative.value Takes.token)

b_AfterLocalName_LeftBracket : {more : List Task} {after : List Symbol} → Covers Nearest (tasks.Token signs.Number ∷ tasks.Token signs.RightBracket ∷ tasks.MoreLocals ∷ more) after → Takeable (tasks.AfterLocalName ∷ more) signs.LeftBracket after
b_AfterLocalName_LeftBracket (Covers.token _ (Covers.token _ (Covers.more_locals c))) = give (Covers.after_local_size c) (Takes.by Alternative.size Takes.token)

b_MoreLocals_Semicolon : {more : List Task} {after : List Symbol} → Covers Nearest (more) after → Takeable (tasks.MoreLocals ∷ more) signs.Semicolon after
b_MoreLocals_Semicolon c = give (Covers.more_locals c) (Takes.by Alternative.no_more_locals Takes.token)

b_MoreLocals_Comma : {more : List Task} {after : List Symbol} → Covers Nearest (tasks.LocalName ∷ more) after → Takeable (tasks.MoreLocals ∷ more) signs.Comma after
b_MoreLocals_Comma (Covers.local_name c) = give (Covers.more_locals c) (Takes.by Alternative.another_local Takes.token)

b_AfterSimpleName_Assign : {more : List Task} {after : List Symbol} → Covers Nearest (tasks.Expr ∷ more) after → Takeable (tasks.AfterSimpleName ∷ more) signs.Assign after
b_AfterSimpleName_Assign (Covers.expr c) = give (Covers.after_simple_set c) Takes.token

b_AfterSimpleName_LeftBracket : {more : List Task} {after : List Symbol} → Covers Nearest (tasks.Expr ∷ tasks.Token signs.RightBracket ∷ tasks.AfterSimpleIndex ∷ more) after → Takeable (tasks.AfterSimpleName ∷ more) signs.LeftBracket after
b_AfterSimpleName_LeftBracket (Covers.expr (Covers.token _ (Covers.simple_index_set c))) = give (Covers.after_simple_element c) (Takes.by Alternative.index Takes.token)
b_AfterSimpleName_LeftBracket (Covers.expr (Covers.token _ (Covers.simple_index_call c))) = give (Covers.after_simple_table c) (Takes.by Alternative.index Takes.token)

b_AfterSimpleName_LeftParenthesis : {more : List Task} {after : List Symbol} → Covers Nearest (tasks.ArgumentList ∷ more) after → Takeable (tasks.AfterSimpleName ∷ more) signs.LeftParenthesis after
b_AfterSimpleName_LeftParenthesis (Covers.argument_list c) = give (Covers.after_simple_call c) (Takes.by Alternative.arguments Takes.token)

b_AfterSimpleIndex_Assign : {more : List Task} {after : List Symbol} → Covers Nearest (tasks.Expr ∷ more) after → Takeable (tasks.AfterSimpleIndex ∷ more) signs.Assign after
b_AfterSimpleIndex_Assign (Covers.expr c) = give (Covers.simple_index_set c) Takes.token

b_AfterSimpleIndex_LeftParenthesis : {more : List Task} {after : List Symbol} → Covers Nearest (tasks.Expr ∷ tasks.Token signs.RightParenthesis ∷ more) after → Takeable (tasks.AfterSimpleIndex ∷ more) signs.LeftParenthesis after
b_AfterSimpleIndex_LeftParenthesis (Covers.expr (Covers.token _ c)) = give (Covers.simple_index_call c) (Takes.by Alternative.parenthesized Takes.token)

b_ArgumentList_RightParenthesis : {more : List Task} {after : List Symbol} → Covers Nearest (more) after → Takeable (tasks.ArgumentList ∷ more) signs.RightParenthesis after
b_ArgumentList_RightParenthesis c = give (Covers.argument_list c) (Takes.by Alternative.no_arguments Takes.token)

b_MoreArguments_RightParenthesis : {more : List Task} {after : List Symbol} → Covers Nearest (more) after → Takeable (tasks.MoreArguments ∷ more) signs.RightParenthesis after
b_MoreArguments_RightParenthesis c = give (Covers.more_arguments c) (Takes.by Alternative.no_more_arguments Takes.token)

b_MoreArguments_Comma : {more : List Task} {after : List Symbol} → Covers Nearest (tasks.Expr ∷ tasks.MoreArguments ∷ more) after → Takeable (tasks.MoreArguments ∷ more) signs.Comma after
b_MoreArguments_Comma (Covers.expr (Covers.more_arguments c)) = give (Covers.more_arguments c) (Takes.by Alternative.another_argument Takes.token)

b_AfterInt : (more : List Task) (sign : Sign) → Back (tasks.AfterInt ∷ more) sign (step (tasks.AfterInt ∷ more) sign)
b_AfterInt more signs.Name = record { proper = λ p. p; back = λ after c. b_AfterInt_Name c }
b_AfterInt more signs.LeftParenthesis = record { proper = λ p. (refl, (refl, (refl, (refl, (refl, p))))); back = λ after c. b_AfterInt_LeftParenthesis c }
b_AfterInt more _ = tt

b_AfterVoid : (more : List Task) (sign : Sign) → Back (tasks.AfterVoid ∷ more) sign (step (tasks.AfterVoid ∷ more) sign)
b_AfterVoid more signs.Name = record { proper = λ p. p; back = λ after c. b_AfterVoid_Name c }
b_AfterVoid more _ = tt

b_AfterIntName : (more : List Task) (sign : Sign) → Back (tasks.AfterIntName ∷ more) sign (step (tasks.AfterIntName ∷ more) sign)
b_AfterIntName more signs.Semicolon = record { proper = λ p. p; back = λ after c. b_AfterIntName_Semicolon c }
b_AfterIntName more signs.Comma = record { proper = λ p. p; back = λ after c. b_AfterIntName_Comma c }
b_AfterIntName more signs.Assign = record { proper = λ p. p; back = λ after c. b_AfterIntName_Assign c }
b_AfterIntName more signs.LeftBracket = record { proper = λ p. (refl, (refl, p)); back = λ after c. b_AfterIntName_LeftBracket c }
b_AfterIntName more signs.LeftParenthesis = record { proper = λ p. p; back = λ after c. b_AfterIntName_LeftParenthesis c }
b_AfterIntName more _ = tt

b_GlobalName : (more : List Task) (sign : Sign) → Back (tasks.GlobalName ∷ more) sign (step (tasks.GlobalName ∷ more) sign)
b_GlobalName more signs.Name = record { proper = λ p. p; back = λ after c. b_GlobalName_Name c }
b_GlobalName more _ = tt

b_AfterGlobalName : (more : List Task) (sign : Sign) → Back (tasks.AfterGlobalName ∷ more) sign (step (tasks.AfterGlobalName ∷ more) sign)
b_AfterGlobalName more signs.Semicolon = record { proper = λ p. p; back = λ after c. b_AfterGlobalName_Semicolon c }
b_AfterGlobalName more signs.Comma = record { proper = λ p. p; back = λ after c. b_AfterGlobalName_Comma c }
b_AfterGlobalName more signs.Assign = record { proper = λ p. p; back = λ after c. b_AfterGlobalName_Assign c }
b_AfterGlobalName more signs.LeftBracket = record { proper = λ p. (refl, (refl, p)); back = λ after c. b_AfterGlobalName_LeftBracket c }
b_AfterGlobalName more _ = tt

b_MoreGlobals : (more : List Task) (sign : Sign) → Back (tasks.MoreGlobals ∷ more) sign (step (tasks.MoreGlobals ∷ more) sign)
b_MoreGlobals more signs.Semicolon = record { proper = λ p. p; back = λ after c. b_MoreGlobals_Semicolon c }
b_MoreGlobals more signs.Comma = record { proper = λ p. p; back = λ after c. b_MoreGlobals_Comma c }
b_MoreGlobals more _ = tt

b_StartValue : (more : List Task) (sign : Sign) → Back (tasks.StartValue ∷ more) sign (step (tasks.StartValue ∷ more) sign)
b_StartValue more signs.Number = record { proper = λ p. p; back = λ after c. b_StartValue_Number c }
b_StartValue more signs.Minus = record { proper = λ p. (refl, p); back = λ after c. b_StartValue_Minus c }
b_StartValue more _ = tt

b_Size : (more : List Task) (sign : Sign) → Back (tasks.Size ∷ more) sign (step (tasks.Size ∷ more) sign)
b_Size more signs.LeftBracket = record { proper = λ p. (refl, (refl, p)); back = λ after c. b_Size_LeftBracket c }
b_Size more _ = tt

b_TableParameter : (more : List Task) (sign : Sign) → Back (tasks.TableParameter ∷ more) sign (step (tasks.TableParameter ∷ more) sign)
b_TableParameter more signs.LeftParenthesis = record { proper = λ p. (refl, (refl, p)); back = λ after c. b_TableParameter_LeftParenthesis c }
b_TableParameter more _ = tt

b_TableMembers : (more : List Task) (sign : Sign) → Back (tasks.TableMembers ∷ more) sign (step (tasks.TableMembers ∷ more) sign)
b_TableMembers more signs.LeftBrace = record { proper = λ p. (refl, p); back = λ after c. b_TableMembers_LeftBrace c }
b_TableMembers more _ = tt

b_MoreMembers : (more : List Task) (sign : Sign) → Back (tasks.MoreMembers ∷ more) sign (step (tasks.MoreMembers ∷ more) sign)
b_MoreMembers more signs.RightBrace = record { proper = λ p. p; back = λ after c. b_MoreMembers_RightBrace c }
b_MoreMembers more signs.Comma = record { proper = λ p. (refl, p); back = λ after c. b_MoreMembers_Comma c }
b_MoreMembers more _ = tt

b_Parameters : (more : List Task) (sign : Sign) → Back (tasks.Parameters ∷ more) sign (step (tasks.Parameters ∷ more) sign)
b_Parameters more signs.LeftParenthesis = record { proper = λ p. p; back = λ after c. b_Parameters_LeftParenthesis c }
b_Parameters more _ = tt

b_ParameterList : (more : List Task) (sign : Sign) → Back (tasks.ParameterList ∷ more) sign (step (tasks.ParameterList ∷ more) sign)
b_ParameterList more signs.RightParenthesis = record { proper = λ p. p; back = λ after c. b_ParameterList_RightParenthesis c }
b_ParameterList more signs.Void = record { proper = λ p. p; back = λ after c. b_ParameterList_Void c }
b_ParameterList more signs.Int = record { proper = λ p. p; back = λ after c. b_ParameterList_Int c }
b_ParameterList more _ = tt

b_ParametersEnd : (more : List Task) (sign : Sign) → Back (tasks.ParametersEnd ∷ more) sign (step (tasks.ParametersEnd ∷ more) sign)
b_ParametersEnd more signs.RightParenthesis = record { proper = λ p. p; back = λ after c. b_ParametersEnd_RightParenthesis c }
b_ParametersEnd more _ = tt

b_AfterParameters : (more : List Task) (sign : Sign) → Back (tasks.AfterParameters ∷ more) sign (step (tasks.AfterParameters ∷ more) sign)
b_AfterParameters more signs.Semicolon = record { proper = λ p. p; back = λ after c. b_AfterParameters_Semicolon c }
b_AfterParameters more signs.LeftBrace = record { proper = λ p. p; back = λ after c. b_AfterParameters_LeftBrace c }
b_AfterParameters more _ = tt

b_ParameterName : (more : List Task) (sign : Sign) → Back (tasks.ParameterName ∷ more) sign (step (tasks.ParameterName ∷ more) sign)
b_ParameterName more signs.RightParenthesis = record { proper = λ p. (refl, p); back = λ after c. b_ParameterName_RightParenthesis c }
b_ParameterName more signs.Comma = record { proper = λ p. (refl, p); back = λ after c. b_ParameterName_Comma c }
b_ParameterName more signs.Name = record { proper = λ p. p; back = λ after c. b_ParameterName_Name c }
b_ParameterName more _ = tt

b_MoreParameters : (more : List Task) (sign : Sign) → Back (tasks.MoreParameters ∷ more) sign (step (tasks.MoreParameters ∷ more) sign)
b_MoreParameters more signs.RightParenthesis = record { proper = λ p. p; back = λ after c. b_MoreParameters_RightParenthesis c }
b_MoreParameters more signs.Comma = record { proper = λ p. (refl, p); back = λ after c. b_MoreParameters_Comma c }
b_MoreParameters more _ = tt

b_PrototypeName : (more : List Task) (sign : Sign) → Back (tasks.PrototypeName ∷ more) sign (step (tasks.PrototypeName ∷ more) sign)
b_PrototypeName more signs.RightParenthesis = record { proper = λ p. (refl, p); back = λ after c. b_PrototypeName_RightParenthesis c }
b_PrototypeName more signs.Comma = record { proper = λ p. (refl, p); back = λ after c. b_PrototypeName_Comma c }
b_PrototypeName more signs.Name = record { proper = λ p. p; back = λ after c. b_PrototypeName_Name c }
b_PrototypeName more _ = tt

b_MorePrototype : (more : List Task) (sign : Sign) → Back (tasks.MorePrototype ∷ more) sign (step (tasks.MorePrototype ∷ more) sign)
b_MorePrototype more signs.RightParenthesis = record { proper = λ p. (refl, p); back = λ after c. b_MorePrototype_RightParenthesis c }
b_MorePrototype more signs.Comma = record { proper = λ p. (refl, p); back = λ after c. b_MorePrototype_Comma c }
b_MorePrototype more _ = tt

b_Body : (more : List Task) (sign : Sign) → Back (tasks.Body ∷ more) sign (step (tasks.Body ∷ more) sign)
b_Body more signs.Name = record { proper = λ p. (refuses_semicolon _, (refl, p.1)); back = λ after c. b_Body_Name c }
b_Body more signs.Semicolon = record { proper = λ p. p.1; back = λ after c. b_Body_Semicolon c }
b_Body more signs.LeftBrace = record { proper = λ p. p.1; back = λ after c. b_Body_LeftBrace c }
b_Body more signs.If = record { proper = λ p. (p.0, (p.0, p.1)); back = λ after c. b_Body_If c }
b_Body more signs.While = record { proper = λ p. (p.0, p.1); back = λ after c. b_Body_While c }
b_Body more signs.For = record { proper = λ p. (p.0, p.1); back = λ after c. b_Body_For c }
b_Body more signs.Break = record { proper = λ p. (refl, p.1); back = λ after c. b_Body_Break c }
b_Body more signs.Continue = record { proper = λ p. (refl, p.1); back = λ after c. b_Body_Continue c }
b_Body more signs.Return = record { proper = λ p. p.1; back = λ after c. b_Body_Return c }
b_Body more _ = tt

b_Parenthesized : (more : List Task) (sign : Sign) → Back (tasks.Parenthesized ∷ more) sign (step (tasks.Parenthesized ∷ more) sign)
b_Parenthesized more signs.LeftParenthesis = record { proper = λ p. (refuses_parenthesis _, (refl, p)); back = λ after c. b_Parenthesized_LeftParenthesis c }
b_Parenthesized more _ = tt

b_UpToSemicolon_expr : {more : List Task} {sign : Sign} {rest after : List Symbol} → Covers Nearest (tasks.Token signs.Semicolon ∷ more) rest → Takes Nearest (symbols.Expr ∷ rest) sign after → Takeable (tasks.UpToSemicolon ∷ more) sign after
b_UpToSemicolon_expr (Covers.token u c) t = give (Covers.up_to_semicolon c) (Takes.by Alternative.expr_part t)

b_UpToSemicolon : (more : List Task) (sign : Sign) → Back (tasks.UpToSemicolon ∷ more) sign (step (tasks.UpToSemicolon ∷ more) sign)
b_UpToSemicolon more signs.Semicolon = record { proper = λ p. p; back = λ after c. b_UpToSemicolon_Semicolon c }
b_UpToSemicolon more signs.Number = record { proper = λ p. proper_start OperandStart.number (tasks.Tail ∷ tasks.Token signs.Semicolon ∷ more) (brackets_tail _ (refuses_semicolon more)) (refuses_semicolon more, (refl, p)); back = λ after c. let h = expr_back OperandStart.number (tasks.Token signs.Semicolon ∷ more) after c in b_UpToSemicolon_expr h.covered h.taken }
b_UpToSemicolon more signs.Name = record { proper = λ p. proper_start OperandStart.name (tasks.Tail ∷ tasks.Token signs.Semicolon ∷ more) (brackets_tail _ (refuses_semicolon more)) (refuses_semicolon more, (refl, p)); back = λ after c. let h = expr_back OperandStart.name (tasks.Token signs.Semicolon ∷ more) after c in b_UpToSemicolon_expr h.covered h.taken }
b_UpToSemicolon more signs.LeftParenthesis = record { proper = λ p. proper_start OperandStart.parenthesis (tasks.Tail ∷ tasks.Token signs.Semicolon ∷ more) (brackets_tail _ (refuses_semicolon more)) (refuses_semicolon more, (refl, p)); back = λ after c. let h = expr_back OperandStart.parenthesis (tasks.Token signs.Semicolon ∷ more) after c in b_UpToSemicolon_expr h.covered h.taken }
b_UpToSemicolon more signs.Plus = record { proper = λ p. proper_start OperandStart.plus (tasks.Tail ∷ tasks.Token signs.Semicolon ∷ more) (brackets_tail _ (refuses_semicolon more)) (refuses_semicolon more, (refl, p)); back = λ after c. let h = expr_back OperandStart.plus (tasks.Token signs.Semicolon ∷ more) after c in b_UpToSemicolon_expr h.covered h.taken }
b_UpToSemicolon more signs.Minus = record { proper = λ p. proper_start OperandStart.minus (tasks.Tail ∷ tasks.Token signs.Semicolon ∷ more) (brackets_tail _ (refuses_semicolon more)) (refuses_semicolon more, (refl, p)); back = λ after c. let h = expr_back OperandStart.minus (tasks.Token signs.Semicolon ∷ more) after c in b_UpToSemicolon_expr h.covered h.taken }
b_UpToSemicolon more signs.Prefix = record { proper = λ p. proper_start OperandStart.prefix_sign (tasks.Tail ∷ tasks.Token signs.Semicolon ∷ more) (brackets_tail _ (refuses_semicolon more)) (refuses_semicolon more, (refl, p)); back = λ after c. let h = expr_back OperandStart.prefix_sign (tasks.Token signs.Semicolon ∷ more) after c in b_UpToSemicolon_expr h.covered h.taken }
b_UpToSemicolon more _ = tt

b_ForParts : (more : List Task) (sign : Sign) → Back (tasks.ForParts ∷ more) sign (step (tasks.ForParts ∷ more) sign)
b_ForParts more signs.LeftParenthesis = record { proper = λ p. p; back = λ after c. b_ForParts_LeftParenthesis c }
b_ForParts more _ = tt

b_ForInit : (more : List Task) (sign : Sign) → Back (tasks.ForInit ∷ more) sign (step (tasks.ForInit ∷ more) sign)
b_ForInit more signs.Semicolon = record { proper = λ p. p; back = λ after c. b_ForInit_Semicolon c }
b_ForInit more signs.Int = record { proper = λ p. p; back = λ after c. b_ForInit_Int c }
b_ForInit more signs.Name = record { proper = λ p. (refuses_semicolon _, (refl, p)); back = λ after c. b_ForInit_Name c }
b_ForInit more _ = tt

b_ForStep : (more : List Task) (sign : Sign) → Back (tasks.ForStep ∷ more) sign (step (tasks.ForStep ∷ more) sign)
b_ForStep more signs.RightParenthesis = record { proper = λ p. p; back = λ after c. b_ForStep_RightParenthesis c }
b_ForStep more signs.Name = record { proper = λ p. (refuses_parenthesis _, (refl, p)); back = λ after c. b_ForStep_Name c }
b_ForStep more _ = tt

b_LocalName : (more : List Task) (sign : Sign) → Back (tasks.LocalName ∷ more) sign (step (tasks.LocalName ∷ more) sign)
b_LocalName more signs.Name = record { proper = λ p. p; back = λ after c. b_LocalName_Name c }
b_LocalName more _ = tt

b_AfterLocalName : (more : List Task) (sign : Sign) → Back (tasks.AfterLocalName ∷ more) sign (step (tasks.AfterLocalName ∷ more) sign)
b_AfterLocalName more signs.Semicolon = record { proper = λ p. p; back = λ after c. b_AfterLocalName_Semicolon c }
b_AfterLocalName more signs.Comma = record { proper = λ p. p; back = λ after c. b_AfterLocalName_Comma c }
b_AfterLocalName more signs.Assign = record { proper = λ p. (refuses_locals _, p); back = λ after c. b_AfterLocalName_Assign c }
b_AfterLocalName more signs.LeftBracket = record { proper = λ p. (refl, (refl, p)); back = λ after c. b_AfterLocalName_LeftBracket c }
b_AfterLocalName more _ = tt

b_MoreLocals : (more : List Task) (sign : Sign) → Back (tasks.MoreLocals ∷ more) sign (step (tasks.MoreLocals ∷ more) sign)
b_MoreLocals more signs.Semicolon = record { proper = λ p. p; back = λ after c. b_MoreLocals_Semicolon c }
b_MoreLocals more signs.Comma = record { proper = λ p. p; back = λ after c. b_MoreLocals_Comma c }
b_MoreLocals more _ = tt

b_AfterSimpleName : (more : List Task) (sign : Sign) → Back (tasks.AfterSimpleName ∷ more) sign (step (tasks.AfterSimpleName ∷ more) sign)
b_AfterSimpleName more signs.Assign = record { proper = λ p. (p.0, p.1); back = λ after c. b_AfterSimpleName_Assign c }
b_AfterSimpleName more signs.LeftBracket = record { proper = λ p. (refuses_bracket _, (refl, (p.0, p.1))); back = λ after c. b_AfterSimpleName_LeftBracket c }
b_AfterSimpleName more signs.LeftParenthesis = record { proper = λ p. p.1; back = λ after c. b_AfterSimpleName_LeftParenthesis c }
b_AfterSimpleName more _ = tt

b_AfterSimpleIndex : (more : List Task) (sign : Sign) → Back (tasks.AfterSimpleIndex ∷ more) sign (step (tasks.AfterSimpleIndex ∷ more) sign)
b_AfterSimpleIndex more signs.Assign = record { proper = λ p. (p.0, p.1); back = λ after c. b_AfterSimpleIndex_Assign c }
b_AfterSimpleIndex more signs.LeftParenthesis = record { proper = λ p. (refuses_parenthesis _, (refl, p.1)); back = λ after c. b_AfterSimpleIndex_LeftParenthesis c }
b_AfterSimpleIndex more _ = tt

b_ArgumentList_expr : {more : List Task} {sign : Sign} {rest after : List Symbol} → Covers Nearest (tasks.MoreArguments ∷ more) rest → Takes Nearest (symbols.Expr ∷ rest) sign after → Takeable (tasks.ArgumentList ∷ more) sign after
b_ArgumentList_expr (Covers.more_arguments c) t = give (Covers.argument_list c) (Takes.by Alternative.some_arguments t)

b_ArgumentList : (more : List Task) (sign : Sign) → Back (tasks.ArgumentList ∷ more) sign (step (tasks.ArgumentList ∷ more) sign)
b_ArgumentList more signs.RightParenthesis = record { proper = λ p. p; back = λ after c. b_ArgumentList_RightParenthesis c }
b_ArgumentList more signs.Number = record { proper = λ p. proper_start OperandStart.number (tasks.Tail ∷ tasks.MoreArguments ∷ more) (brackets_tail _ (refuses_arguments more)) (refuses_arguments more, p); back = λ after c. let h = expr_back OperandStart.number (tasks.MoreArguments ∷ more) after c in b_ArgumentList_expr h.covered h.taken }
b_ArgumentList more signs.Name = record { proper = λ p. proper_start OperandStart.name (tasks.Tail ∷ tasks.MoreArguments ∷ more) (brackets_tail _ (refuses_arguments more)) (refuses_arguments more, p); back = λ after c. let h = expr_back OperandStart.name (tasks.MoreArguments ∷ more) after c in b_ArgumentList_expr h.covered h.taken }
b_ArgumentList more signs.LeftParenthesis = record { proper = λ p. proper_start OperandStart.parenthesis (tasks.Tail ∷ tasks.MoreArguments ∷ more) (brackets_tail _ (refuses_arguments more)) (refuses_arguments more, p); back = λ after c. let h = expr_back OperandStart.parenthesis (tasks.MoreArguments ∷ more) after c in b_ArgumentList_expr h.covered h.taken }
b_ArgumentList more signs.Plus = record { proper = λ p. proper_start OperandStart.plus (tasks.Tail ∷ tasks.MoreArguments ∷ more) (brackets_tail _ (refuses_arguments more)) (refuses_arguments more, p); back = λ after c. let h = expr_back OperandStart.plus (tasks.MoreArguments ∷ more) after c in b_ArgumentList_expr h.covered h.taken }
b_ArgumentList more signs.Minus = record { proper = λ p. proper_start OperandStart.minus (tasks.Tail ∷ tasks.MoreArguments ∷ more) (brackets_tail _ (refuses_arguments more)) (refuses_arguments more, p); back = λ after c. let h = expr_back OperandStart.minus (tasks.MoreArguments ∷ more) after c in b_ArgumentList_expr h.covered h.taken }
b_ArgumentList more signs.Prefix = record { proper = λ p. proper_start OperandStart.prefix_sign (tasks.Tail ∷ tasks.MoreArguments ∷ more) (brackets_tail _ (refuses_arguments more)) (refuses_arguments more, p); back = λ after c. let h = expr_back OperandStart.prefix_sign (tasks.MoreArguments ∷ more) after c in b_ArgumentList_expr h.covered h.taken }
b_ArgumentList more _ = tt

b_MoreArguments : (more : List Task) (sign : Sign) → Back (tasks.MoreArguments ∷ more) sign (step (tasks.MoreArguments ∷ more) sign)
b_MoreArguments more signs.RightParenthesis = record { proper = λ p. p; back = λ after c. b_MoreArguments_RightParenthesis c }
b_MoreArguments more signs.Comma = record { proper = λ p. (refuses_arguments _, p); back = λ after c. b_MoreArguments_Comma c }
b_MoreArguments more _ = tt

b_Expr : (more : List Task) (sign : Sign) → Back (tasks.Expr ∷ more) sign (step (tasks.Expr ∷ more) sign)
b_Expr more signs.Number = record { proper = λ p. proper_start OperandStart.number (tasks.Tail ∷ more) (brackets_tail more p.0) p; back = λ after c. let h = expr_back OperandStart.number more after c in give (Covers.expr h.covered) h.taken }
b_Expr more signs.Name = record { proper = λ p. proper_start OperandStart.name (tasks.Tail ∷ more) (brackets_tail more p.0) p; back = λ after c. let h = expr_back OperandStart.name more after c in give (Covers.expr h.covered) h.taken }
b_Expr more signs.LeftParenthesis = record { proper = λ p. proper_start OperandStart.parenthesis (tasks.Tail ∷ more) (brackets_tail more p.0) p; back = λ after c. let h = expr_back OperandStart.parenthesis more after c in give (Covers.expr h.covered) h.taken }
b_Expr more signs.Plus = record { proper = λ p. proper_start OperandStart.plus (tasks.Tail ∷ more) (brackets_tail more p.0) p; back = λ after c. let h = expr_back OperandStart.plus more after c in give (Covers.expr h.covered) h.taken }
b_Expr more signs.Minus = record { proper = λ p. proper_start OperandStart.minus (tasks.Tail ∷ more) (brackets_tail more p.0) p; back = λ after c. let h = expr_back OperandStart.minus more after c in give (Covers.expr h.covered) h.taken }
b_Expr more signs.Prefix = record { proper = λ p. proper_start OperandStart.prefix_sign (tasks.Tail ∷ more) (brackets_tail more p.0) p; back = λ after c. let h = expr_back OperandStart.prefix_sign more after c in give (Covers.expr h.covered) h.taken }
b_Expr more _ = tt

b_Operand : (more : List Task) (sign : Sign) → Back (tasks.Operand ∷ more) sign (step (tasks.Operand ∷ more) sign)
b_Operand more signs.Number = record { proper = λ p. proper_start OperandStart.number more p.0 p.1; back = λ after c. let h = operand_back OperandStart.number more after c in give (Covers.operand h.covered) h.taken }
b_Operand more signs.Name = record { proper = λ p. proper_start OperandStart.name more p.0 p.1; back = λ after c. let h = operand_back OperandStart.name more after c in give (Covers.operand h.covered) h.taken }
b_Operand more signs.LeftParenthesis = record { proper = λ p. proper_start OperandStart.parenthesis more p.0 p.1; back = λ after c. let h = operand_back OperandStart.parenthesis more after c in give (Covers.operand h.covered) h.taken }
b_Operand more signs.Plus = record { proper = λ p. proper_start OperandStart.plus more p.0 p.1; back = λ after c. let h = operand_back OperandStart.plus more after c in give (Covers.operand h.covered) h.taken }
b_Operand more signs.Minus = record { proper = λ p. proper_start OperandStart.minus more p.0 p.1; back = λ after c. let h = operand_back OperandStart.minus more after c in give (Covers.operand h.covered) h.taken }
b_Operand more signs.Prefix = record { proper = λ p. proper_start OperandStart.prefix_sign more p.0 p.1; back = λ after c. let h = operand_back OperandStart.prefix_sign more after c in give (Covers.operand h.covered) h.taken }
b_Operand more _ = tt

b_Token_Name : (more : List Task) (sign : Sign) → Back (tasks.Token signs.Name ∷ more) sign (step (tasks.Token signs.Name ∷ more) sign)
b_Token_Name more signs.Name = record { proper = λ p. p.1; back = λ after c. give (Covers.token refl c) Takes.token }
b_Token_Name more _ = tt

b_Token_Number : (more : List Task) (sign : Sign) → Back (tasks.Token signs.Number ∷ more) sign (step (tasks.Token signs.Number ∷ more) sign)
b_Token_Number more signs.Number = record { proper = λ p. p.1; back = λ after c. give (Covers.token refl c) Takes.token }
b_Token_Number more _ = tt

b_Token_Int : (more : List Task) (sign : Sign) → Back (tasks.Token signs.Int ∷ more) sign (step (tasks.Token signs.Int ∷ more) sign)
b_Token_Int more signs.Int = record { proper = λ p. p.1; back = λ after c. give (Covers.token refl c) Takes.token }
b_Token_Int more _ = tt

b_Token_LeftParenthesis : (more : List Task) (sign : Sign) → Back (tasks.Token signs.LeftParenthesis ∷ more) sign (step (tasks.Token signs.LeftParenthesis ∷ more) sign)
b_Token_LeftParenthesis more signs.LeftParenthesis = record { proper = λ p. p.1; back = λ after c. give (Covers.token refl c) Takes.token }
b_Token_LeftParenthesis more _ = tt

b_Token_RightParenthesis : (more : List Task) (sign : Sign) → Back (tasks.Token signs.RightParenthesis ∷ more) sign (step (tasks.Token signs.RightParenthesis ∷ more) sign)
b_Token_RightParenthesis more signs.RightParenthesis = record { proper = λ p. p.1; back = λ after c. give (Covers.token refl c) Takes.token }
b_Token_RightParenthesis more _ = tt

b_Token_RightBracket : (more : List Task) (sign : Sign) → Back (tasks.Token signs.RightBracket ∷ more) sign (step (tasks.Token signs.RightBracket ∷ more) sign)
b_Token_RightBracket more signs.RightBracket = record { proper = λ p. p.1; back = λ after c. give (Covers.token refl c) Takes.token }
b_Token_RightBracket more _ = tt

b_Token_Semicolon : (more : List Task) (sign : Sign) → Back (tasks.Token signs.Semicolon ∷ more) sign (step (tasks.Token signs.Semicolon ∷ more) sign)
b_Token_Semicolon more signs.Semicolon = record { proper = λ p. p.1; back = λ after c. give (Covers.token refl c) Takes.token }
b_Token_Semicolon more _ = tt

b_Token_Colon : (more : List Task) (sign : Sign) → Back (tasks.Token signs.Colon ∷ more) sign (step (tasks.Token signs.Colon ∷ more) sign)
b_Token_Colon more signs.Colon = record { proper = λ p. p.1; back = λ after c. give (Covers.token refl c) Takes.token }
b_Token_Colon more _ = tt

b_Token_Assign : (more : List Task) (sign : Sign) → Back (tasks.Token signs.Assign ∷ more) sign (step (tasks.Token signs.Assign ∷ more) sign)
b_Token_Assign more signs.Assign = record { proper = λ p. p.1; back = λ after c. give (Covers.token refl c) Takes.token }
b_Token_Assign more _ = tt

b_Token_Star : (more : List Task) (sign : Sign) → Back (tasks.Token signs.Star ∷ more) sign (step (tasks.Token signs.Star ∷ more) sign)
b_Token_Star more signs.Star = record { proper = λ p. p.1; back = λ after c. give (Covers.token refl c) Takes.token }
b_Token_Star more _ = tt

b_Token : (wanted : Sign) (more : List Task) (sign : Sign) → Back (tasks.Token wanted ∷ more) sign (step (tasks.Token wanted ∷ more) sign)
b_Token signs.Name more sign = b_Token_Name more sign
b_Token signs.Number more sign = b_Token_Number more sign
b_Token signs.Int more sign = b_Token_Int more sign
b_Token signs.LeftParenthesis more sign = b_Token_LeftParenthesis more sign
b_Token signs.RightParenthesis more sign = b_Token_RightParenthesis more sign
b_Token signs.RightBracket more sign = b_Token_RightBracket more sign
b_Token signs.Semicolon more sign = b_Token_Semicolon more sign
b_Token signs.Colon more sign = b_Token_Colon more sign
b_Token signs.Assign more sign = b_Token_Assign more sign
b_Token signs.Star more sign = b_Token_Star more sign
b_Token _ more sign = tt

b_Items_Int : {more : List Task} {after : List Symbol} → Covers Nearest (tasks.AfterInt ∷ tasks.Items ∷ more) after → Takeable (tasks.Items ∷ more) signs.Int after
b_Items_Int (Covers.after_int_globals Covers.items) = give Covers.items (Takes.by Alternative.another_item (Takes.by Alternative.globals_item (Takes.by Alternative.globals Takes.token)))
b_Items_Int (Covers.after_int_table Covers.items) = give Covers.items (Takes.by Alternative.another_item (Takes.by Alternative.table_item (Takes.by Alternative.table Takes.token)))
b_Items_Int (Covers.after_int_prototype Covers.items) = give Covers.items (Takes.by Alternative.another_item (Takes.by Alternative.prototype_item (Takes.by Alternative.prototype (Takes.by Alternative.int_result Takes.token))))
b_Items_Int (Covers.after_int_function Covers.items) = give Covers.items (Takes.by Alternative.another_item (Takes.by Alternative.function_item (Takes.by Alternative.function (Takes.by Alternative.int_result Takes.token))))

b_Items_Void : {more : List Task} {after : List Symbol} → Covers Nearest (tasks.AfterVoid ∷ tasks.Items ∷ more) after → Takeable (tasks.Items ∷ more) signs.Void after
b_Items_Void (Covers.after_void_prototype Covers.items) = give Covers.items (Takes.by Alternative.another_item (Takes.by Alternative.prototype_item (Takes.by Alternative.prototype (Takes.by Alternative.void_result Takes.token))))
b_Items_Void (Covers.after_void_function Covers.items) = give Covers.items (Takes.by Alternative.another_item (Takes.by Alternative.function_item (Takes.by Alternative.function (Takes.by Alternative.void_result Takes.token))))

b_Items : (more : List Task) (sign : Sign) → Back (tasks.Items ∷ more) sign (step (tasks.Items ∷ more) sign)
b_Items more signs.Int = record { proper = λ p. p; back = λ after c. b_Items_Int c }
b_Items more signs.Void = record { proper = λ p. p; back = λ after c. b_Items_Void c }
b_Items more _ = tt

-- where a task passes, what the next ones do
b_done : (more : List Task) (sign : Sign) (made : Option (List Task)) → Back more sign made → Back (tasks.Done ∷ more) sign made
b_done more sign None h = tt
b_done more sign (Some left) h = record { proper = h.proper; back = λ after c. let g = h.back after c in record { rest = symbols.End ∷ g.rest; left = g.left; covered = Covers.done g.covered; taken = Takes.by Alternative.end g.taken; included = g.included } }

pass_else : (more : List Task) (sign : Sign) (made : Option (List Task)) → (sign ≡ signs.Else → ⊥) → Back more sign made → Back (tasks.ElsePart ∷ more) sign made
pass_else more sign None may h = tt
pass_else more sign (Some left) may h = record { proper = λ p. h.proper p.1; back = λ after c. let g = h.back after c in record { rest = symbols.ElseOption ∷ symbols.End ∷ g.rest; left = g.left; covered = Covers.else_part g.covered; taken = Takes.no_else may (Takes.by Alternative.end g.taken); included = g.included } }

b_else_Else : {more : List Task} {after : List Symbol} → Covers Nearest (tasks.Body ∷ tasks.Done ∷ more) after → Takeable (tasks.ElsePart ∷ more) signs.Else after
b_else_Else (Covers.body (Covers.done c)) = give (Covers.else_part c) (Takes.by Alternative.else_part Takes.token)

b_else : (more : List Task) (sign : Sign) → Back more sign (step more sign) → Back (tasks.ElsePart ∷ more) sign (step (tasks.ElsePart ∷ more) sign)
b_else more signs.Else h = record { proper = λ p. p; back = λ after c. b_else_Else c }
b_else more sign h = pass_else more sign (step more sign) (λ e. cc) h

pass_name : (more : List Task) (sign : Sign) (made : Option (List Task)) → Back more sign made → Back (tasks.AfterName ∷ more) sign made
pass_name more sign None h = tt
pass_name more sign (Some left) h = record { proper = λ p. h.proper p.1; back = λ after c. let g = h.back after c in record { rest = g.rest; left = g.left; covered = Covers.name_alone g.covered; taken = g.taken; included = g.included } }

b_name_bracket : {more : List Task} {after : List Symbol} → Covers Nearest (tasks.Expr ∷ tasks.Token signs.RightBracket ∷ tasks.AfterIndex ∷ more) after → Takeable (tasks.AfterName ∷ more) signs.LeftBracket after
b_name_bracket (Covers.expr (Covers.token u (Covers.index_alone c))) = give (Covers.name_index c) (Takes.by Alternative.index Takes.token)
b_name_bracket (Covers.expr (Covers.token u (Covers.index_call c))) = give (Covers.name_table c) (Takes.by Alternative.index Takes.token)

b_name_parenthesis : {more : List Task} {after : List Symbol} → Covers Nearest (tasks.ArgumentList ∷ more) after → Takeable (tasks.AfterName ∷ more) signs.LeftParenthesis after
b_name_parenthesis (Covers.argument_list c) = give (Covers.name_call c) (Takes.by Alternative.arguments Takes.token)

b_name : (more : List Task) (sign : Sign) → Back more sign (step more sign) → Back (tasks.AfterName ∷ more) sign (step (tasks.AfterName ∷ more) sign)
b_name more signs.LeftBracket h = record { proper = λ p. (refuses_bracket _, (refl, (p.0, p.1))); back = λ after c. b_name_bracket c }
b_name more signs.LeftParenthesis h = record { proper = λ p. p.1; back = λ after c. b_name_parenthesis c }
b_name more sign h = pass_name more sign (step more sign) h

pass_index : (more : List Task) (sign : Sign) (made : Option (List Task)) → Back more sign made → Back (tasks.AfterIndex ∷ more) sign made
pass_index more sign None h = tt
pass_index more sign (Some left) h = record { proper = λ p. h.proper p.1; back = λ after c. let g = h.back after c in record { rest = g.rest; left = g.left; covered = Covers.index_alone g.covered; taken = g.taken; included = g.included } }

b_index_parenthesis : {more : List Task} {after : List Symbol} → Covers Nearest (tasks.Expr ∷ tasks.Token signs.RightParenthesis ∷ more) after → Takeable (tasks.AfterIndex ∷ more) signs.LeftParenthesis after
b_index_parenthesis (Covers.expr (Covers.token u c)) = give (Covers.index_call c) (Takes.by Alternative.parenthesized Takes.token)

b_index : (more : List Task) (sign : Sign) → Back more sign (step more sign) → Back (tasks.AfterIndex ∷ more) sign (step (tasks.AfterIndex ∷ more) sign)
b_index more signs.LeftParenthesis h = record { proper = λ p. (refuses_parenthesis _, (refl, p.1)); back = λ after c. b_index_parenthesis c }
b_index more sign h = pass_index more sign (step more sign) h

-- the repeated parts of all levels but the tightest
abbrev pub all_parts : List Symbol → List Symbol
all_parts rest = symbols.Repeated (Looser Tightest) ∷ symbols.Repeated (Looser (Looser Tightest)) ∷ symbols.Repeated (Looser (Looser (Looser Tightest))) ∷ symbols.Repeated (Looser (Looser (Looser (Looser Tightest)))) ∷ symbols.Repeated (Looser (Looser (Looser (Looser (Looser Tightest))))) ∷ symbols.Repeated (Looser (Looser (Looser (Looser (Looser (Looser Tightest)))))) ∷ symbols.Repeated (Looser (Looser (Looser (Looser (Looser (Looser (Looser Tightest))))))) ∷ symbols.Repeated (Looser (Looser (Looser (Looser (Looser (Looser (Looser (Looser Tightest)))))))) ∷ symbols.Repeated (Looser (Looser (Looser (Looser (Looser (Looser (Looser (Looser (Looser Tightest))))))))) ∷ rest

pub all_above : (rest : List Symbol) → Above Tightest rest (all_parts rest)
all_above rest = Above.one (Above.one (Above.one (Above.one (Above.one (Above.one (Above.one (Above.one (Above.one Above.loosest))))))))

all_passed : {rest after : List Symbol} {sign : Sign} → Takes Nearest rest sign after → Takes Nearest (symbols.Repeated Tightest ∷ all_parts (symbols.ConditionalOption ∷ rest)) sign after
all_passed t = Takes.by Alternative.no_more_tightest (Takes.by Alternative.no_more_looser (Takes.by Alternative.no_more_looser (Takes.by Alternative.no_more_looser (Takes.by Alternative.no_more_looser (Takes.by Alternative.no_more_looser (Takes.by Alternative.no_more_looser (Takes.by Alternative.no_more_looser (Takes.by Alternative.no_more_looser (Takes.by Alternative.no_more_looser (Takes.by Alternative.no_conditional t))))))))))

pass_tail : (more : List Task) (sign : Sign) (made : Option (List Task)) → Back more sign made → Back (tasks.Tail ∷ more) sign made
pass_tail more sign None h = tt
pass_tail more sign (Some left) h = record { proper = λ p. h.proper p.1; back = λ after c. let g = h.back after c in record { rest = symbols.Repeated Tightest ∷ all_parts (symbols.ConditionalOption ∷ g.rest); left = g.left; covered = Covers.tail (all_above _) g.covered; taken = all_passed g.taken; included = g.included } }

b_tail_question : {more : List Task} {after : List Symbol} → Covers Nearest (tasks.Expr ∷ tasks.Token signs.Colon ∷ tasks.Expr ∷ tasks.Done ∷ more) after → Takeable (tasks.Tail ∷ more) signs.Question after
b_tail_question (Covers.expr (Covers.token u (Covers.expr (Covers.done c)))) = give (Covers.tail (all_above _) c) (Takes.by Alternative.no_more_tightest (Takes.by Alternative.no_more_looser (Takes.by Alternative.no_more_looser (Takes.by Alternative.no_more_looser (Takes.by Alternative.no_more_looser (Takes.by Alternative.no_more_looser (Takes.by Alternative.no_more_looser (Takes.by Alternative.no_more_looser (Takes.by Alternative.no_more_looser (Takes.by Alternative.no_more_looser (Takes.by Alternative.conditional Takes.token)))))))))))

b_unary_Star : {more : List Task} {rest parts : List Symbol} → Above Tightest (symbols.ConditionalOption ∷ rest) parts → Covers Nearest more rest → Takeable (tasks.Tail ∷ more) signs.Star (symbols.Unary ∷ symbols.Repeated Tightest ∷ parts)
b_unary_Star a c = give (Covers.tail a c) (Takes.by Alternative.another_tightest (Takes.operator IsOperator.star))

b_tail_Star : {more : List Task} {after : List Symbol} → Covers Nearest (tasks.Operand ∷ tasks.Tail ∷ more) after → Takeable (tasks.Tail ∷ more) signs.Star after
b_tail_Star (Covers.operand (Covers.tail a c)) = b_unary_Star a c
b_tail_Star (Covers.operands {level = l} a c) = let d = descend l a in behind _ (b_unary_Star d.whole c) d.included.takes (λ n. no_operand_nothing (d.included.nothing n))

b_unary_Multiplicative : {more : List Task} {rest parts : List Symbol} → Above Tightest (symbols.ConditionalOption ∷ rest) parts → Covers Nearest more rest → Takeable (tasks.Tail ∷ more) signs.Multiplicative (symbols.Unary ∷ symbols.Repeated Tightest ∷ parts)
b_unary_Multiplicative a c = give (Covers.tail a c) (Takes.by Alternative.another_tightest (Takes.operator IsOperator.multiplicative))

b_tail_Multiplicative : {more : List Task} {after : List Symbol} → Covers Nearest (tasks.Operand ∷ tasks.Tail ∷ more) after → Takeable (tasks.Tail ∷ more) signs.Multiplicative after
b_tail_Multiplicative (Covers.operand (Covers.tail a c)) = b_unary_Multiplicative a c
b_tail_Multiplicative (Covers.operands {level = l} a c) = let d = descend l a in behind _ (b_unary_Multiplicative d.whole c) d.included.takes (λ n. no_operand_nothing (d.included.nothing n))

b_unary_Plus : {more : List Task} {rest parts : List Symbol} → Above Tightest (symbols.ConditionalOption ∷ rest) parts → Covers Nearest more rest → Takeable (tasks.Tail ∷ more) signs.Plus (symbols.Unary ∷ symbols.Repeated Tightest ∷ parts)
b_unary_Plus (Above.one a) c = behind _ (give (Covers.tail (Above.one a) c) (Takes.by Alternative.no_more_tightest (Takes.by Alternative.another_looser (Takes.operator IsOperator.plus)))) (λ s b t. Takes.by Alternative.tightest t) (λ n. no_operand_nothing n)

b_tail_Plus : {more : List Task} {after : List Symbol} → Covers Nearest (tasks.Operand ∷ tasks.Tail ∷ more) after → Takeable (tasks.Tail ∷ more) signs.Plus after
b_tail_Plus (Covers.operand (Covers.tail a c)) = b_unary_Plus a c
b_tail_Plus (Covers.operands {level = l} a c) = let d = descend l a in behind _ (b_unary_Plus d.whole c) d.included.takes (λ n. no_operand_nothing (d.included.nothing n))

b_unary_Minus : {more : List Task} {rest parts : List Symbol} → Above Tightest (symbols.ConditionalOption ∷ rest) parts → Covers Nearest more rest → Takeable (tasks.Tail ∷ more) signs.Minus (symbols.Unary ∷ symbols.Repeated Tightest ∷ parts)
b_unary_Minus (Above.one a) c = behind _ (give (Covers.tail (Above.one a) c) (Takes.by Alternative.no_more_tightest (Takes.by Alternative.another_looser (Takes.operator IsOperator.minus)))) (λ s b t. Takes.by Alternative.tightest t) (λ n. no_operand_nothing n)

b_tail_Minus : {more : List Task} {after : List Symbol} → Covers Nearest (tasks.Operand ∷ tasks.Tail ∷ more) after → Takeable (tasks.Tail ∷ more) signs.Minus after
b_tail_Minus (Covers.operand (Covers.tail a c)) = b_unary_Minus a c
b_tail_Minus (Covers.operands {level = l} a c) = let d = descend l a in behind _ (b_unary_Minus d.whole c) d.included.takes (λ n. no_operand_nothing (d.included.nothing n))

b_unary_Shift : {more : List Task} {rest parts : List Symbol} → Above Tightest (symbols.ConditionalOption ∷ rest) parts → Covers Nearest more rest → Takeable (tasks.Tail ∷ more) signs.Shift (symbols.Unary ∷ symbols.Repeated Tightest ∷ parts)
b_unary_Shift (Above.one (Above.one a)) c = behind _ (give (Covers.tail (Above.one (Above.one a)) c) (Takes.by Alternative.no_more_tightest (Takes.by Alternative.no_more_looser (Takes.by Alternative.another_looser (Takes.operator IsOperator.shift))))) (λ s b t. Takes.by Alternative.looser (Takes.by Alternative.tightest t)) (λ n. no_operand_nothing n)

b_tail_Shift : {more : List Task} {after : List Symbol} → Covers Nearest (tasks.Operand ∷ tasks.Tail ∷ more) after → Takeable (tasks.Tail ∷ more) signs.Shift after
b_tail_Shift (Covers.operand (Covers.tail a c)) = b_unary_Shift a c
b_tail_Shift (Covers.operands {level = l} a c) = let d = descend l a in behind _ (b_unary_Shift d.whole c) d.included.takes (λ n. no_operand_nothing (d.included.nothing n))

b_unary_Relational : {more : List Task} {rest parts : List Symbol} → Above Tightest (symbols.ConditionalOption ∷ rest) parts → Covers Nearest more rest → Takeable (tasks.Tail ∷ more) signs.Relational (symbols.Unary ∷ symbols.Repeated Tightest ∷ parts)
b_unary_Relational (Above.one (Above.one (Above.one a))) c = behind _ (give (Covers.tail (Above.one (Above.one (Above.one a))) c) (Takes.by Alternative.no_more_tightest (Takes.by Alternative.no_more_looser (Takes.by Alternative.no_more_looser (Takes.by Alternative.another_looser (Takes.operator IsOperator.relational)))))) (λ s b t. Takes.by Alternative.looser (Takes.by Alternative.looser (Takes.by Alternative.tightest t))) (λ n. no_operand_nothing n)

b_tail_Relational : {more : List Task} {after : List Symbol} → Covers Nearest (tasks.Operand ∷ tasks.Tail ∷ more) after → Takeable (tasks.Tail ∷ more) signs.Relational after
b_tail_Relational (Covers.operand (Covers.tail a c)) = b_unary_Relational a c
b_tail_Relational (Covers.operands {level = l} a c) = let d = descend l a in behind _ (b_unary_Relational d.whole c) d.included.takes (λ n. no_operand_nothing (d.included.nothing n))

b_unary_Equality : {more : List Task} {rest parts : List Symbol} → Above Tightest (symbols.ConditionalOption ∷ rest) parts → Covers Nearest more rest → Takeable (tasks.Tail ∷ more) signs.Equality (symbols.Unary ∷ symbols.Repeated Tightest ∷ parts)
b_unary_Equality (Above.one (Above.one (Above.one (Above.one a)))) c = behind _ (give (Covers.tail (Above.one (Above.one (Above.one (Above.one a)))) c) (Takes.by Alternative.no_more_tightest (Takes.by Alternative.no_more_looser (Takes.by Alternative.no_more_looser (Takes.by Alternative.no_more_looser (Takes.by Alternative.another_looser (Takes.operator IsOperator.equality))))))) (λ s b t. Takes.by Alternative.looser (Takes.by Alternative.looser (Takes.by Alternative.looser (Takes.by Alternative.tightest t)))) (λ n. no_operand_nothing n)

b_tail_Equality : {more : List Task} {after : List Symbol} → Covers Nearest (tasks.Operand ∷ tasks.Tail ∷ more) after → Takeable (tasks.Tail ∷ more) signs.Equality after
b_tail_Equality (Covers.operand (Covers.tail a c)) = b_unary_Equality a c
b_tail_Equality (Covers.operands {level = l} a c) = let d = descend l a in behind _ (b_unary_Equality d.whole c) d.included.takes (λ n. no_operand_nothing (d.included.nothing n))

b_unary_BitAnd : {more : List Task} {rest parts : List Symbol} → Above Tightest (symbols.ConditionalOption ∷ rest) parts → Covers Nearest more rest → Takeable (tasks.Tail ∷ more) signs.BitAnd (symbols.Unary ∷ symbols.Repeated Tightest ∷ parts)
b_unary_BitAnd (Above.one (Above.one (Above.one (Above.one (Above.one a))))) c = behind _ (give (Covers.tail (Above.one (Above.one (Above.one (Above.one (Above.one a))))) c) (Takes.by Alternative.no_more_tightest (Takes.by Alternative.no_more_looser (Takes.by Alternative.no_more_looser (Takes.by Alternative.no_more_looser (Takes.by Alternative.no_more_looser (Takes.by Alternative.another_looser (Takes.operator IsOperator.bit_and)))))))) (λ s b t. Takes.by Alternative.looser (Takes.by Alternative.looser (Takes.by Alternative.looser (Takes.by Alternative.looser (Takes.by Alternative.tightest t))))) (λ n. no_operand_nothing n)

b_tail_BitAnd : {more : List Task} {after : List Symbol} → Covers Nearest (tasks.Operand ∷ tasks.Tail ∷ more) after → Takeable (tasks.Tail ∷ more) signs.BitAnd after
b_tail_BitAnd (Covers.operand (Covers.tail a c)) = b_unary_BitAnd a c
b_tail_BitAnd (Covers.operands {level = l} a c) = let d = descend l a in behind _ (b_unary_BitAnd d.whole c) d.included.takes (λ n. no_operand_nothing (d.included.nothing n))

b_unary_BitXor : {more : List Task} {rest parts : List Symbol} → Above Tightest (symbols.ConditionalOption ∷ rest) parts → Covers Nearest more rest → Takeable (tasks.Tail ∷ more) signs.BitXor (symbols.Unary ∷ symbols.Repeated Tightest ∷ parts)
b_unary_BitXor (Above.one (Above.one (Above.one (Above.one (Above.one (Above.one a)))))) c = behind _ (give (Covers.tail (Above.one (Above.one (Above.one (Above.one (Above.one (Above.one a)))))) c) (Takes.by Alternative.no_more_tightest (Takes.by Alternative.no_more_looser (Takes.by Alternative.no_more_looser (Takes.by Alternative.no_more_looser (Takes.by Alternative.no_more_looser (Takes.by Alternative.no_more_looser (Takes.by Alternative.another_looser (Takes.operator IsOperator.bit_xor))))))))) (λ s b t. Takes.by Alternative.looser (Takes.by Alternative.looser (Takes.by Alternative.looser (Takes.by Alternative.looser (Takes.by Alternative.looser (Takes.by Alternative.tightest t)))))) (λ n. no_operand_nothing n)

b_tail_BitXor : {more : List Task} {after : List Symbol} → Covers Nearest (tasks.Operand ∷ tasks.Tail ∷ more) after → Takeable (tasks.Tail ∷ more) signs.BitXor after
b_tail_BitXor (Covers.operand (Covers.tail a c)) = b_unary_BitXor a c
b_tail_BitXor (Covers.operands {level = l} a c) = let d = descend l a in behind _ (b_unary_BitXor d.whole c) d.included.takes (λ n. no_operand_nothing (d.included.nothing n))

b_unary_BitOr : {more : List Task} {rest parts : List Symbol} → Above Tightest (symbols.ConditionalOption ∷ rest) parts → Covers Nearest more rest → Takeable (tasks.Tail ∷ more) signs.BitOr (symbols.Unary ∷ symbols.Repeated Tightest ∷ parts)
b_unary_BitOr (Above.one (Above.one (Above.one (Above.one (Above.one (Above.one (Above.one a))))))) c = behind _ (give (Covers.tail (Above.one (Above.one (Above.one (Above.one (Above.one (Above.one (Above.one a))))))) c) (Takes.by Alternative.no_more_tightest (Takes.by Alternative.no_more_looser (Takes.by Alternative.no_more_looser (Takes.by Alternative.no_more_looser (Takes.by Alternative.no_more_looser (Takes.by Alternative.no_more_looser (Takes.by Alternative.no_more_looser (Takes.by Alternative.another_looser (Takes.operator IsOperator.bit_or)))))))))) (λ s b t. Takes.by Alternative.looser (Takes.by Alternative.looser (Takes.by Alternative.looser (Takes.by Alternative.looser (Takes.by Alternative.looser (Takes.by Alternative.looser (Takes.by Alternative.tightest t))))))) (λ n. no_operand_nothing n)

b_tail_BitOr : {more : List Task} {after : List Symbol} → Covers Nearest (tasks.Operand ∷ tasks.Tail ∷ more) after → Takeable (tasks.Tail ∷ more) signs.BitOr after
b_tail_BitOr (Covers.operand (Covers.tail a c)) = b_unary_BitOr a c
b_tail_BitOr (Covers.operands {level = l} a c) = let d = descend l a in behind _ (b_unary_BitOr d.whole c) d.included.takes (λ n. no_operand_nothing (d.included.nothing n))

b_unary_LogicalAnd : {more : List Task} {rest parts : List Symbol} → Above Tightest (symbols.ConditionalOption ∷ rest) parts → Covers Nearest more rest → Takeable (tasks.Tail ∷ more) signs.LogicalAnd (symbols.Unary ∷ symbols.Repeated Tightest ∷ parts)
b_unary_LogicalAnd (Above.one (Above.one (Above.one (Above.one (Above.one (Above.one (Above.one (Above.one a)))))))) c = behind _ (give (Covers.tail (Above.one (Above.one (Above.one (Above.one (Above.one (Above.one (Above.one (Above.one a)))))))) c) (Takes.by Alternative.no_more_tightest (Takes.by Alternative.no_more_looser (Takes.by Alternative.no_more_looser (Takes.by Alternative.no_more_looser (Takes.by Alternative.no_more_looser (Takes.by Alternative.no_more_looser (Takes.by Alternative.no_more_looser (Takes.by Alternative.no_more_looser (Takes.by Alternative.another_looser (Takes.operator IsOperator.logical_and))))))))))) (λ s b t. Takes.by Alternative.looser (Takes.by Alternative.looser (Takes.by Alternative.looser (Takes.by Alternative.looser (Takes.by Alternative.looser (Takes.by Alternative.looser (Takes.by Alternative.looser (Takes.by Alternative.tightest t)))))))) (λ n. no_operand_nothing n)

b_tail_LogicalAnd : {more : List Task} {after : List Symbol} → Covers Nearest (tasks.Operand ∷ tasks.Tail ∷ more) after → Takeable (tasks.Tail ∷ more) signs.LogicalAnd after
b_tail_LogicalAnd (Covers.operand (Covers.tail a c)) = b_unary_LogicalAnd a c
b_tail_LogicalAnd (Covers.operands {level = l} a c) = let d = descend l a in behind _ (b_unary_LogicalAnd d.whole c) d.included.takes (λ n. no_operand_nothing (d.included.nothing n))

b_unary_LogicalOr : {more : List Task} {rest parts : List Symbol} → Above Tightest (symbols.ConditionalOption ∷ rest) parts → Covers Nearest more rest → Takeable (tasks.Tail ∷ more) signs.LogicalOr (symbols.Unary ∷ symbols.Repeated Tightest ∷ parts)
b_unary_LogicalOr (Above.one (Above.one (Above.one (Above.one (Above.one (Above.one (Above.one (Above.one (Above.one a))))))))) c = behind _ (give (Covers.tail (Above.one (Above.one (Above.one (Above.one (Above.one (Above.one (Above.one (Above.one (Above.one a))))))))) c) (Takes.by Alternative.no_more_tightest (Takes.by Alternative.no_more_looser (Takes.by Alternative.no_more_looser (Takes.by Alternative.no_more_looser (Takes.by Alternative.no_more_looser (Takes.by Alternative.no_more_looser (Takes.by Alternative.no_more_looser (Takes.by Alternative.no_more_looser (Takes.by Alternative.no_more_looser (Takes.by Alternative.another_looser (Takes.operator IsOperator.logical_or)))))))))))) (λ s b t. Takes.by Alternative.looser (Takes.by Alternative.looser (Takes.by Alternative.looser (Takes.by Alternative.looser (Takes.by Alternative.looser (Takes.by Alternative.looser (Takes.by Alternative.looser (Takes.by Alternative.looser (Takes.by Alternative.tightest t))))))))) (λ n. no_operand_nothing n)

b_tail_LogicalOr : {more : List Task} {after : List Symbol} → Covers Nearest (tasks.Operand ∷ tasks.Tail ∷ more) after → Takeable (tasks.Tail ∷ more) signs.LogicalOr after
b_tail_LogicalOr (Covers.operand (Covers.tail a c)) = b_unary_LogicalOr a c
b_tail_LogicalOr (Covers.operands {level = l} a c) = let d = descend l a in behind _ (b_unary_LogicalOr d.whole c) d.included.takes (λ n. no_operand_nothing (d.included.nothing n))

b_tail : (more : List Task) (sign : Sign) → Back more sign (step more sign) → Back (tasks.Tail ∷ more) sign (step (tasks.Tail ∷ more) sign)
b_tail more signs.Question h = record { proper = λ p. (refuses_colon _, (refl, (refuses_done more p.0, p.1))); back = λ after c. b_tail_question c }
b_tail more signs.Star h = record { proper = λ p. (brackets_tail more p.0, p); back = λ after c. b_tail_Star c }
b_tail more signs.Multiplicative h = record { proper = λ p. (brackets_tail more p.0, p); back = λ after c. b_tail_Multiplicative c }
b_tail more signs.Plus h = record { proper = λ p. (brackets_tail more p.0, p); back = λ after c. b_tail_Plus c }
b_tail more signs.Minus h = record { proper = λ p. (brackets_tail more p.0, p); back = λ after c. b_tail_Minus c }
b_tail more signs.Shift h = record { proper = λ p. (brackets_tail more p.0, p); back = λ after c. b_tail_Shift c }
b_tail more signs.Relational h = record { proper = λ p. (brackets_tail more p.0, p); back = λ after c. b_tail_Relational c }
b_tail more signs.Equality h = record { proper = λ p. (brackets_tail more p.0, p); back = λ after c. b_tail_Equality c }
b_tail more signs.BitAnd h = record { proper = λ p. (brackets_tail more p.0, p); back = λ after c. b_tail_BitAnd c }
b_tail more signs.BitXor h = record { proper = λ p. (brackets_tail more p.0, p); back = λ after c. b_tail_BitXor c }
b_tail more signs.BitOr h = record { proper = λ p. (brackets_tail more p.0, p); back = λ after c. b_tail_BitOr c }
b_tail more signs.LogicalAnd h = record { proper = λ p. (brackets_tail more p.0, p); back = λ after c. b_tail_LogicalAnd c }
b_tail more signs.LogicalOr h = record { proper = λ p. (brackets_tail more p.0, p); back = λ after c. b_tail_LogicalOr c }
b_tail more sign h = pass_tail more sign (step more sign) h

b_BlockItems_RightBrace : {more : List Task} {after : List Symbol} → Covers Nearest more after → Takeable (tasks.BlockItems ∷ more) signs.RightBrace after
b_BlockItems_RightBrace c = give (Covers.block_items c) (Takes.by Alternative.no_more_statements Takes.token)

b_BlockItems_Int : {more : List Task} {after : List Symbol} → Covers Nearest (tasks.LocalName ∷ tasks.BlockItems ∷ more) after → Takeable (tasks.BlockItems ∷ more) signs.Int after
b_BlockItems_Int (Covers.local_name (Covers.block_items c)) = give (Covers.block_items c) (Takes.by Alternative.another_locals (Takes.by Alternative.locals Takes.token))

block_of_body : {more : List Task} {sign : Sign} {after rest left : List Symbol} → Covers Nearest (tasks.Body ∷ tasks.BlockItems ∷ more) rest → Takes Nearest rest sign left → Includes left after → Takeable (tasks.BlockItems ∷ more) sign after
block_of_body {left = l} (Covers.body (Covers.block_items {rest = r} c)) t i = record { rest = symbols.BlockItems ∷ symbols.The signs.RightBrace ∷ r; left = l; covered = Covers.block_items c; taken = Takes.by Alternative.another_body t; included = i }

body_in_block : (more : List Task) (sign : Sign) (made : Option (List Task)) → Back (tasks.Body ∷ tasks.BlockItems ∷ more) sign made → Back (tasks.BlockItems ∷ more) sign made
body_in_block more sign None h = tt
body_in_block more sign (Some left) h = record { proper = λ p. h.proper (refl, p); back = λ after c. let g = h.back after c in block_of_body g.covered g.taken g.included }

b_BlockItems : (more : List Task) (sign : Sign) → Back (tasks.BlockItems ∷ more) sign (step (tasks.BlockItems ∷ more) sign)
b_BlockItems more signs.RightBrace = record { proper = λ p. p; back = λ after c. b_BlockItems_RightBrace c }
b_BlockItems more signs.Int = record { proper = λ p. p; back = λ after c. b_BlockItems_Int c }
b_BlockItems more sign = body_in_block more sign (step (tasks.Body ∷ tasks.BlockItems ∷ more) sign) (b_Body (tasks.BlockItems ∷ more) sign)

-- what the machine takes, the grammar takes
pub backward : (before : List Task) (sign : Sign) → Back before sign (step before sign)
backward [] sign = tt
backward (tasks.Token wanted ∷ more) sign = b_Token wanted more sign
backward (tasks.Done ∷ more) sign = b_done more sign (step more sign) (backward more sign)
backward (tasks.Items ∷ more) sign = b_Items more sign
backward (tasks.ElsePart ∷ more) sign = b_else more sign (backward more sign)
backward (tasks.AfterName ∷ more) sign = b_name more sign (backward more sign)
backward (tasks.AfterIndex ∷ more) sign = b_index more sign (backward more sign)
backward (tasks.Tail ∷ more) sign = b_tail more sign (backward more sign)
backward (tasks.BlockItems ∷ more) sign = b_BlockItems more sign
backward (tasks.AfterInt ∷ more) sign = b_AfterInt more sign
backward (tasks.AfterVoid ∷ more) sign = b_AfterVoid more sign
backward (tasks.AfterIntName ∷ more) sign = b_AfterIntName more sign
backward (tasks.GlobalName ∷ more) sign = b_GlobalName more sign
backward (tasks.AfterGlobalName ∷ more) sign = b_AfterGlobalName more sign
backward (tasks.MoreGlobals ∷ more) sign = b_MoreGlobals more sign
backward (tasks.StartValue ∷ more) sign = b_StartValue more sign
backward (tasks.Size ∷ more) sign = b_Size more sign
backward (tasks.TableParameter ∷ more) sign = b_TableParameter more sign
backward (tasks.TableMembers ∷ more) sign = b_TableMembers more sign
backward (tasks.MoreMembers ∷ more) sign = b_MoreMembers more sign
backward (tasks.Parameters ∷ more) sign = b_Parameters more sign
backward (tasks.ParameterList ∷ more) sign = b_ParameterList more sign
backward (tasks.ParametersEnd ∷ more) sign = b_ParametersEnd more sign
backward (tasks.AfterParameters ∷ more) sign = b_AfterParameters more sign
backward (tasks.ParameterName ∷ more) sign = b_ParameterName more sign
backward (tasks.MoreParameters ∷ more) sign = b_MoreParameters more sign
backward (tasks.PrototypeName ∷ more) sign = b_PrototypeName more sign
backward (tasks.MorePrototype ∷ more) sign = b_MorePrototype more sign
backward (tasks.Body ∷ more) sign = b_Body more sign
backward (tasks.Parenthesized ∷ more) sign = b_Parenthesized more sign
backward (tasks.UpToSemicolon ∷ more) sign = b_UpToSemicolon more sign
backward (tasks.ForParts ∷ more) sign = b_ForParts more sign
backward (tasks.ForInit ∷ more) sign = b_ForInit more sign
backward (tasks.ForStep ∷ more) sign = b_ForStep more sign
backward (tasks.LocalName ∷ more) sign = b_LocalName more sign
backward (tasks.AfterLocalName ∷ more) sign = b_AfterLocalName more sign
backward (tasks.MoreLocals ∷ more) sign = b_MoreLocals more sign
backward (tasks.AfterSimpleName ∷ more) sign = b_AfterSimpleName more sign
backward (tasks.AfterSimpleIndex ∷ more) sign = b_AfterSimpleIndex more sign
backward (tasks.ArgumentList ∷ more) sign = b_ArgumentList more sign
backward (tasks.MoreArguments ∷ more) sign = b_MoreArguments more sign
backward (tasks.Expr ∷ more) sign = b_Expr more sign
backward (tasks.Operand ∷ more) sign = b_Operand more sign
