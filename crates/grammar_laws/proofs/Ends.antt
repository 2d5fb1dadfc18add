-- The ends of what tasks and rests have in common: how much is open, and whether nothing more is needed.
use Rattle.grammar_laws.proofs.Common.{◌≡◌, refl, sym, subst, true, List, [], ◌∷◌, arith, Sign, Level, Tightest, Looser, Loosest, Symbol, Any, Nearest, CanBeNothing, Alternative, closes, open_in, Task, token_move, closes_task, open_tasks, finishes}
use Rattle.c_grammar.specs.declared.signs.Sign.TheVariants as signs
use Rattle.c_grammar.specs.Rests as symbols
use Rattle.c_grammar.specs.Machine as tasks
use Rattle.grammar_laws.proofs.Covers.{Above, Covers, Proper}
use Rattle.grammar_laws.proofs.Backward.{no_token_nothing, no_operand_nothing, all_parts, all_above}

closes_same : (sign : Sign) → token_move sign sign ≡ tasks.Take [] → closes_task (tasks.Token sign) ≡ closes (symbols.The sign)
closes_same signs.Name used = refl
closes_same signs.Number used = refl
closes_same signs.Int used = refl
closes_same signs.LeftParenthesis used = refl
closes_same signs.RightParenthesis used = refl
closes_same signs.RightBracket used = refl
closes_same signs.Semicolon used = refl
closes_same signs.Colon used = refl
closes_same signs.Assign used = refl
closes_same signs.Star used = refl
closes_same _ used = cc

above_open : {level : Level} {rest parts : List Symbol} → Above level (symbols.ConditionalOption ∷ rest) parts → open_in parts ≡ open_in rest
above_open Above.loosest = omega arith
above_open (Above.one a) = let h = above_open a in omega arith

-- as many constructs are open in the tasks as in the rest
pub same_open : {before : List Task} {rest : List Symbol} → Covers Nearest before rest → open_tasks before ≡ open_in rest
same_open (Covers.token {sign = s} used c) = let h = same_open c in let e = closes_same s used in omega arith
same_open (Covers.tail a c) = let h = same_open c in let e = above_open a in omega arith
same_open (Covers.operands a c) = let h = same_open c in let e = above_open a in omega arith
same_open (Covers.done c) = let h = same_open c in omega arith
same_open (Covers.after_int_globals c) = let h = same_open c in omega arith
same_open (Covers.after_int_table c) = let h = same_open c in omega arith
same_open (Covers.after_int_prototype c) = let h = same_open c in omega arith
same_open (Covers.after_int_function c) = let h = same_open c in omega arith
same_open (Covers.after_void_prototype c) = let h = same_open c in omega arith
same_open (Covers.after_void_function c) = let h = same_open c in omega arith
same_open (Covers.after_int_name_start c) = let h = same_open c in omega arith
same_open (Covers.after_int_name_size c) = let h = same_open c in omega arith
same_open (Covers.after_int_name_prototype c) = let h = same_open c in omega arith
same_open (Covers.after_int_name_function c) = let h = same_open c in omega arith
same_open (Covers.global_name c) = let h = same_open c in omega arith
same_open (Covers.after_global_start c) = let h = same_open c in omega arith
same_open (Covers.after_global_size c) = let h = same_open c in omega arith
same_open (Covers.more_globals c) = let h = same_open c in omega arith
same_open (Covers.start_value c) = let h = same_open c in omega arith
same_open (Covers.size c) = let h = same_open c in omega arith
same_open (Covers.table_parameter c) = let h = same_open c in omega arith
same_open (Covers.table_members c) = let h = same_open c in omega arith
same_open (Covers.more_members c) = let h = same_open c in omega arith
same_open (Covers.parameters_prototype c) = let h = same_open c in omega arith
same_open (Covers.parameters_function c) = let h = same_open c in omega arith
same_open (Covers.list_prototype c) = let h = same_open c in omega arith
same_open (Covers.list_function c) = let h = same_open c in omega arith
same_open (Covers.end_prototype c) = let h = same_open c in omega arith
same_open (Covers.end_function c) = let h = same_open c in omega arith
same_open (Covers.after_prototype c) = let h = same_open c in omega arith
same_open (Covers.after_function c) = let h = same_open c in omega arith
same_open (Covers.parameter_name_prototype c) = let h = same_open c in omega arith
same_open (Covers.parameter_name_function c) = let h = same_open c in omega arith
same_open (Covers.more_parameters_prototype c) = let h = same_open c in omega arith
same_open (Covers.more_parameters_function c) = let h = same_open c in omega arith
same_open (Covers.prototype_name c) = let h = same_open c in omega arith
same_open (Covers.more_prototype c) = let h = same_open c in omega arith
same_open (Covers.block_items c) = let h = same_open c in omega arith
same_open (Covers.body c) = let h = same_open c in omega arith
same_open (Covers.else_part c) = let h = same_open c in omega arith
same_open (Covers.parenthesized c) = let h = same_open c in omega arith
same_open (Covers.up_to_semicolon c) = let h = same_open c in omega arith
same_open (Covers.for_parts c) = let h = same_open c in omega arith
same_open (Covers.for_init c) = let h = same_open c in omega arith
same_open (Covers.for_step c) = let h = same_open c in omega arith
same_open (Covers.local_name c) = let h = same_open c in omega arith
same_open (Covers.after_local_value c) = let h = same_open c in omega arith
same_open (Covers.after_local_size c) = let h = same_open c in omega arith
same_open (Covers.more_locals c) = let h = same_open c in omega arith
same_open (Covers.after_simple_set c) = let h = same_open c in omega arith
same_open (Covers.after_simple_element c) = let h = same_open c in omega arith
same_open (Covers.after_simple_call c) = let h = same_open c in omega arith
same_open (Covers.after_simple_table c) = let h = same_open c in omega arith
same_open (Covers.simple_index_set c) = let h = same_open c in omega arith
same_open (Covers.simple_index_call c) = let h = same_open c in omega arith
same_open (Covers.argument_list c) = let h = same_open c in omega arith
same_open (Covers.more_arguments c) = let h = same_open c in omega arith
same_open (Covers.expr c) = let h = same_open c in omega arith
same_open (Covers.operand c) = let h = same_open c in omega arith
same_open (Covers.name_alone c) = let h = same_open c in omega arith
same_open (Covers.name_index c) = let h = same_open c in omega arith
same_open (Covers.name_call c) = let h = same_open c in omega arith
same_open (Covers.name_table c) = let h = same_open c in omega arith
same_open (Covers.index_alone c) = let h = same_open c in omega arith
same_open (Covers.index_call c) = let h = same_open c in omega arith
same_open _ = refl

no_simple_nothing : {rest : List Symbol} → CanBeNothing (symbols.Simple ∷ rest) → ⊥
no_simple_nothing (CanBeNothing.by Alternative.set n) = no_token_nothing n
no_simple_nothing (CanBeNothing.by Alternative.set_element n) = no_token_nothing n
no_simple_nothing (CanBeNothing.by Alternative.call_simple (CanBeNothing.by Alternative.call n)) = no_token_nothing n
no_simple_nothing (CanBeNothing.by Alternative.call_simple (CanBeNothing.by Alternative.table_call n)) = no_token_nothing n

no_binary_nothing : (level : Level) {rest : List Symbol} → CanBeNothing (symbols.Binary level ∷ rest) → ⊥
no_binary_nothing Tightest (CanBeNothing.by Alternative.tightest n) = no_operand_nothing n
no_binary_nothing (Looser level) (CanBeNothing.by Alternative.looser n) = no_binary_nothing level n

no_expr_nothing : {rest : List Symbol} → CanBeNothing (symbols.Expr ∷ rest) → ⊥
no_expr_nothing (CanBeNothing.by Alternative.expr n) = no_binary_nothing Loosest n

no_operator_nothing : {level : Level} {rest : List Symbol} → CanBeNothing (symbols.AnOperator level ∷ rest) → ⊥
no_operator_nothing (CanBeNothing.by a n) = elim a [ ]

above_nothing : {level : Level} {rest parts : List Symbol} → Above level (symbols.ConditionalOption ∷ rest) parts → CanBeNothing parts → CanBeNothing rest
above_nothing Above.loosest (CanBeNothing.by Alternative.conditional n) = absurd (no_token_nothing n)
above_nothing Above.loosest (CanBeNothing.by Alternative.no_conditional n) = n
above_nothing (Above.one a) (CanBeNothing.by Alternative.another_looser n) = absurd (no_operator_nothing n)
above_nothing (Above.one a) (CanBeNothing.by Alternative.no_more_looser n) = above_nothing a n

tail_nothing : {rest parts : List Symbol} → Above Tightest (symbols.ConditionalOption ∷ rest) parts → CanBeNothing (symbols.Repeated Tightest ∷ parts) → CanBeNothing rest
tail_nothing a (CanBeNothing.by Alternative.another_tightest n) = absurd (no_operator_nothing n)
tail_nothing a (CanBeNothing.by Alternative.no_more_tightest n) = above_nothing a n

no_body_nothing : {rest : List Symbol} → CanBeNothing (symbols.Body ∷ rest) → ⊥
no_body_nothing (CanBeNothing.by Alternative.simple_body n) = no_simple_nothing n
no_body_nothing (CanBeNothing.by Alternative.empty_body n) = no_token_nothing n
no_body_nothing (CanBeNothing.by Alternative.block_body (CanBeNothing.by Alternative.block n)) = no_token_nothing n
no_body_nothing (CanBeNothing.by Alternative.if_body n) = no_token_nothing n
no_body_nothing (CanBeNothing.by Alternative.while_body n) = no_token_nothing n
no_body_nothing (CanBeNothing.by Alternative.for_body n) = no_token_nothing n
no_body_nothing (CanBeNothing.by Alternative.break_body n) = no_token_nothing n
no_body_nothing (CanBeNothing.by Alternative.continue_body n) = no_token_nothing n
no_body_nothing (CanBeNothing.by Alternative.return_body n) = no_token_nothing n

-- where the rest can be nothing, the tasks may be left undone
pub nothing_finishes : {before : List Task} {rest : List Symbol} → Covers Any before rest → CanBeNothing rest → finishes before ≡ true
nothing_finishes (Covers.token used c) n = absurd (no_token_nothing n)
nothing_finishes (Covers.tail a c) n = nothing_finishes c (tail_nothing a n)
nothing_finishes (Covers.operands {level = l} a c) n = absurd (no_binary_nothing l n)
nothing_finishes (Covers.done c) (CanBeNothing.by Alternative.end n) = nothing_finishes c n
nothing_finishes (Covers.skipped_done c) n = nothing_finishes c n
nothing_finishes (Covers.else_part c) (CanBeNothing.by Alternative.else_part n) = absurd (no_token_nothing n)
nothing_finishes (Covers.else_part c) (CanBeNothing.no_else (CanBeNothing.by Alternative.end n)) = nothing_finishes c n
nothing_finishes (Covers.else_gone c) (CanBeNothing.by Alternative.end n) = nothing_finishes c n
nothing_finishes (Covers.skipped_else c) n = nothing_finishes c n
nothing_finishes (Covers.name_alone c) n = nothing_finishes c n
nothing_finishes (Covers.index_alone c) n = nothing_finishes c n
nothing_finishes (Covers.block_items c) (CanBeNothing.by Alternative.no_more_statements n) = absurd (no_token_nothing n)
nothing_finishes (Covers.block_items c) (CanBeNothing.by Alternative.another_locals (CanBeNothing.by Alternative.locals n)) = absurd (no_token_nothing n)
nothing_finishes (Covers.block_items c) (CanBeNothing.by Alternative.another_body n) = absurd (no_body_nothing n)
nothing_finishes (Covers.after_int_globals c) (CanBeNothing.by Alternative.scalar n) = absurd (no_token_nothing n)
nothing_finishes (Covers.after_int_globals c) (CanBeNothing.by Alternative.array n) = absurd (no_token_nothing n)
nothing_finishes (Covers.after_int_table c) (CanBeNothing.by Alternative.table_name n) = absurd (no_token_nothing n)
nothing_finishes (Covers.after_int_prototype c) n = absurd (no_token_nothing n)
nothing_finishes (Covers.after_int_function c) n = absurd (no_token_nothing n)
nothing_finishes (Covers.after_void_prototype c) n = absurd (no_token_nothing n)
nothing_finishes (Covers.after_void_function c) n = absurd (no_token_nothing n)
nothing_finishes (Covers.after_int_name_start c) (CanBeNothing.by Alternative.no_start (CanBeNothing.by Alternative.no_more_globals n)) = absurd (no_token_nothing n)
nothing_finishes (Covers.after_int_name_start c) (CanBeNothing.by Alternative.no_start (CanBeNothing.by Alternative.another_global n)) = absurd (no_token_nothing n)
nothing_finishes (Covers.after_int_name_start c) (CanBeNothing.by Alternative.start n) = absurd (no_token_nothing n)
nothing_finishes (Covers.after_int_name_size c) (CanBeNothing.by Alternative.size n) = absurd (no_token_nothing n)
nothing_finishes (Covers.after_int_name_prototype c) (CanBeNothing.by Alternative.prototype_parameters n) = absurd (no_token_nothing n)
nothing_finishes (Covers.after_int_name_function c) (CanBeNothing.by Alternative.function_parameters n) = absurd (no_token_nothing n)
nothing_finishes (Covers.global_name c) (CanBeNothing.by Alternative.scalar n) = absurd (no_token_nothing n)
nothing_finishes (Covers.global_name c) (CanBeNothing.by Alternative.array n) = absurd (no_token_nothing n)
nothing_finishes (Covers.after_global_start c) (CanBeNothing.by Alternative.no_start (CanBeNothing.by Alternative.no_more_globals n)) = absurd (no_token_nothing n)
nothing_finishes (Covers.after_global_start c) (CanBeNothing.by Alternative.no_start (CanBeNothing.by Alternative.another_global n)) = absurd (no_token_nothing n)
nothing_finishes (Covers.after_global_start c) (CanBeNothing.by Alternative.start n) = absurd (no_token_nothing n)
nothing_finishes (Covers.after_global_size c) (CanBeNothing.by Alternative.size n) = absurd (no_token_nothing n)
nothing_finishes (Covers.more_globals c) (CanBeNothing.by Alternative.no_more_globals n) = absurd (no_token_nothing n)
nothing_finishes (Covers.more_globals c) (CanBeNothing.by Alternative.another_global n) = absurd (no_token_nothing n)
nothing_finishes (Covers.start_value c) (CanBeNothing.by Alternative.no_minus n) = absurd (no_token_nothing n)
nothing_finishes (Covers.start_value c) (CanBeNothing.by Alternative.minus n) = absurd (no_token_nothing n)
nothing_finishes (Covers.size c) (CanBeNothing.by Alternative.size n) = absurd (no_token_nothing n)
nothing_finishes (Covers.table_parameter c) (CanBeNothing.by Alternative.table_parameter n) = absurd (no_token_nothing n)
nothing_finishes (Covers.table_members c) (CanBeNothing.by Alternative.members n) = absurd (no_token_nothing n)
nothing_finishes (Covers.more_members c) (CanBeNothing.by Alternative.no_more_members n) = absurd (no_token_nothing n)
nothing_finishes (Covers.more_members c) (CanBeNothing.by Alternative.another_member n) = absurd (no_token_nothing n)
nothing_finishes (Covers.parameters_prototype c) (CanBeNothing.by Alternative.prototype_parameters n) = absurd (no_token_nothing n)
nothing_finishes (Covers.parameters_function c) (CanBeNothing.by Alternative.function_parameters n) = absurd (no_token_nothing n)
nothing_finishes (Covers.list_prototype c) (CanBeNothing.by Alternative.no_parameters n) = absurd (no_token_nothing n)
nothing_finishes (Covers.list_prototype c) (CanBeNothing.by Alternative.void_parameters n) = absurd (no_token_nothing n)
nothing_finishes (Covers.list_prototype c) (CanBeNothing.by Alternative.some_parameters n) = absurd (no_token_nothing n)
nothing_finishes (Covers.list_function c) (CanBeNothing.by Alternative.no_named n) = absurd (no_token_nothing n)
nothing_finishes (Covers.list_function c) (CanBeNothing.by Alternative.void_named n) = absurd (no_token_nothing n)
nothing_finishes (Covers.list_function c) (CanBeNothing.by Alternative.some_named n) = absurd (no_token_nothing n)
nothing_finishes (Covers.end_prototype c) n = absurd (no_token_nothing n)
nothing_finishes (Covers.end_function c) n = absurd (no_token_nothing n)
nothing_finishes (Covers.after_prototype c) n = absurd (no_token_nothing n)
nothing_finishes (Covers.after_function c) (CanBeNothing.by Alternative.block n) = absurd (no_token_nothing n)
nothing_finishes (Covers.parameter_name_prototype c) (CanBeNothing.by Alternative.no_name (CanBeNothing.by Alternative.no_more_parameters n)) = absurd (no_token_nothing n)
nothing_finishes (Covers.parameter_name_prototype c) (CanBeNothing.by Alternative.no_name (CanBeNothing.by Alternative.another_parameter n)) = absurd (no_token_nothing n)
nothing_finishes (Covers.parameter_name_prototype c) (CanBeNothing.by Alternative.name n) = absurd (no_token_nothing n)
nothing_finishes (Covers.parameter_name_function c) n = absurd (no_token_nothing n)
nothing_finishes (Covers.more_parameters_prototype c) (CanBeNothing.by Alternative.no_more_parameters n) = absurd (no_token_nothing n)
nothing_finishes (Covers.more_parameters_prototype c) (CanBeNothing.by Alternative.another_parameter n) = absurd (no_token_nothing n)
nothing_finishes (Covers.more_parameters_function c) (CanBeNothing.by Alternative.no_more_named n) = absurd (no_token_nothing n)
nothing_finishes (Covers.more_parameters_function c) (CanBeNothing.by Alternative.another_named n) = absurd (no_token_nothing n)
nothing_finishes (Covers.prototype_name c) (CanBeNothing.by Alternative.no_name (CanBeNothing.by Alternative.no_more_parameters n)) = absurd (no_token_nothing n)
nothing_finishes (Covers.prototype_name c) (CanBeNothing.by Alternative.no_name (CanBeNothing.by Alternative.another_parameter n)) = absurd (no_token_nothing n)
nothing_finishes (Covers.prototype_name c) (CanBeNothing.by Alternative.name n) = absurd (no_token_nothing n)
nothing_finishes (Covers.more_prototype c) (CanBeNothing.by Alternative.no_more_parameters n) = absurd (no_token_nothing n)
nothing_finishes (Covers.more_prototype c) (CanBeNothing.by Alternative.another_parameter n) = absurd (no_token_nothing n)
nothing_finishes (Covers.parenthesized c) (CanBeNothing.by Alternative.parenthesized n) = absurd (no_token_nothing n)
nothing_finishes (Covers.up_to_semicolon c) (CanBeNothing.by Alternative.no_expr n) = absurd (no_token_nothing n)
nothing_finishes (Covers.up_to_semicolon c) (CanBeNothing.by Alternative.expr_part n) = absurd (no_expr_nothing n)
nothing_finishes (Covers.for_parts c) (CanBeNothing.by Alternative.for_parts n) = absurd (no_token_nothing n)
nothing_finishes (Covers.for_init c) (CanBeNothing.by Alternative.no_init n) = absurd (no_token_nothing n)
nothing_finishes (Covers.for_init c) (CanBeNothing.by Alternative.locals_init (CanBeNothing.by Alternative.locals n)) = absurd (no_token_nothing n)
nothing_finishes (Covers.for_init c) (CanBeNothing.by Alternative.simple_init n) = absurd (no_simple_nothing n)
nothing_finishes (Covers.for_step c) (CanBeNothing.by Alternative.no_simple n) = absurd (no_token_nothing n)
nothing_finishes (Covers.for_step c) (CanBeNothing.by Alternative.simple_part n) = absurd (no_simple_nothing n)
nothing_finishes (Covers.local_name c) (CanBeNothing.by Alternative.local_scalar n) = absurd (no_token_nothing n)
nothing_finishes (Covers.local_name c) (CanBeNothing.by Alternative.local_array n) = absurd (no_token_nothing n)
nothing_finishes (Covers.after_local_value c) (CanBeNothing.by Alternative.no_value (CanBeNothing.by Alternative.no_more_locals n)) = absurd (no_token_nothing n)
nothing_finishes (Covers.after_local_value c) (CanBeNothing.by Alternative.no_value (CanBeNothing.by Alternative.another_local n)) = absurd (no_token_nothing n)
nothing_finishes (Covers.after_local_value c) (CanBeNothing.by Alternative.value n) = absurd (no_token_nothing n)
nothing_finishes (Covers.after_local_size c) (CanBeNothing.by Alternative.size n) = absurd (no_token_nothing n)
nothing_finishes (Covers.more_locals c) (CanBeNothing.by Alternative.no_more_locals n) = absurd (no_token_nothing n)
nothing_finishes (Covers.more_locals c) (CanBeNothing.by Alternative.another_local n) = absurd (no_token_nothing n)
nothing_finishes (Covers.after_simple_set c) n = absurd (no_token_nothing n)
nothing_finishes (Covers.after_simple_element c) (CanBeNothing.by Alternative.index n) = absurd (no_token_nothing n)
nothing_finishes (Covers.after_simple_call c) (CanBeNothing.by Alternative.arguments n) = absurd (no_token_nothing n)
nothing_finishes (Covers.after_simple_table c) (CanBeNothing.by Alternative.index n) = absurd (no_token_nothing n)
nothing_finishes (Covers.simple_index_set c) n = absurd (no_token_nothing n)
nothing_finishes (Covers.simple_index_call c) (CanBeNothing.by Alternative.parenthesized n) = absurd (no_token_nothing n)
nothing_finishes (Covers.argument_list c) (CanBeNothing.by Alternative.no_arguments n) = absurd (no_token_nothing n)
nothing_finishes (Covers.argument_list c) (CanBeNothing.by Alternative.some_arguments n) = absurd (no_expr_nothing n)
nothing_finishes (Covers.more_arguments c) (CanBeNothing.by Alternative.no_more_arguments n) = absurd (no_token_nothing n)
nothing_finishes (Covers.more_arguments c) (CanBeNothing.by Alternative.another_argument n) = absurd (no_token_nothing n)
nothing_finishes (Covers.expr c) n = absurd (no_expr_nothing n)
nothing_finishes (Covers.operand c) n = absurd (no_operand_nothing n)
nothing_finishes (Covers.name_index c) (CanBeNothing.by Alternative.index n) = absurd (no_token_nothing n)
nothing_finishes (Covers.name_call c) (CanBeNothing.by Alternative.arguments n) = absurd (no_token_nothing n)
nothing_finishes (Covers.name_table c) (CanBeNothing.by Alternative.index n) = absurd (no_token_nothing n)
nothing_finishes (Covers.index_call c) (CanBeNothing.by Alternative.parenthesized n) = absurd (no_token_nothing n)
nothing_finishes (Covers.body c) n = absurd (no_body_nothing n)
nothing_finishes _ n = refl

pub record Covered (before : List Task) : Type 0 where
  pub rest : List Symbol
  pub covered : Covers Nearest before rest
  pub nothing : finishes before ≡ true → CanBeNothing rest

cover_of : {before : List Task} {rest : List Symbol} → Covers Nearest before rest → (finishes before ≡ true → CanBeNothing rest) → Covered before
cover_of {rest = r} c n = record { rest = r; covered = c; nothing = n }

all_nothing : {rest : List Symbol} → CanBeNothing rest → CanBeNothing (symbols.Repeated Tightest ∷ all_parts (symbols.ConditionalOption ∷ rest))
all_nothing n = CanBeNothing.by Alternative.no_more_tightest (CanBeNothing.by Alternative.no_more_looser (CanBeNothing.by Alternative.no_more_looser (CanBeNothing.by Alternative.no_more_looser (CanBeNothing.by Alternative.no_more_looser (CanBeNothing.by Alternative.no_more_looser (CanBeNothing.by Alternative.no_more_looser (CanBeNothing.by Alternative.no_more_looser (CanBeNothing.by Alternative.no_more_looser (CanBeNothing.by Alternative.no_more_looser (CanBeNothing.by Alternative.no_conditional n))))))))))

-- the tasks stand for some rest, which can be nothing where they may be left undone
pub some_rest : (before : List Task) → Proper before → Covered before
some_rest [] p = cover_of Covers.nothing (λ e. CanBeNothing.empty)
some_rest (tasks.Token sign ∷ more) p = let h = some_rest more p.1 in cover_of (Covers.token p.0 h.covered) (λ e. cc)
some_rest (tasks.Items ∷ more) p = let P : List Task → Type 0 = λ left. Covered (tasks.Items ∷ left) in subst P (sym p) (cover_of Covers.items (λ e. CanBeNothing.by Alternative.no_more_items CanBeNothing.empty))
some_rest (tasks.Done ∷ more) p = let h = some_rest more p in cover_of (Covers.done h.covered) (λ e. CanBeNothing.by Alternative.end (h.nothing e))
some_rest (tasks.ElsePart ∷ more) p = let h = some_rest more p.1 in cover_of (Covers.else_part h.covered) (λ e. CanBeNothing.no_else (CanBeNothing.by Alternative.end (h.nothing e)))
some_rest (tasks.AfterName ∷ more) p = let h = some_rest more p.1 in cover_of (Covers.name_alone h.covered) (λ e. h.nothing e)
some_rest (tasks.AfterIndex ∷ more) p = let h = some_rest more p.1 in cover_of (Covers.index_alone h.covered) (λ e. h.nothing e)
some_rest (tasks.Tail ∷ more) p = let h = some_rest more p.1 in cover_of (Covers.tail (all_above _) h.covered) (λ e. all_nothing (h.nothing e))
some_rest (tasks.AfterInt ∷ more) p = let h = some_rest more p in cover_of (Covers.after_int_globals h.covered) (λ e. cc)
some_rest (tasks.AfterVoid ∷ more) p = let h = some_rest more p in cover_of (Covers.after_void_prototype h.covered) (λ e. cc)
some_rest (tasks.AfterIntName ∷ more) p = let h = some_rest more p in cover_of (Covers.after_int_name_start h.covered) (λ e. cc)
some_rest (tasks.GlobalName ∷ more) p = let h = some_rest more p in cover_of (Covers.global_name h.covered) (λ e. cc)
some_rest (tasks.AfterGlobalName ∷ more) p = let h = some_rest more p in cover_of (Covers.after_global_start h.covered) (λ e. cc)
some_rest (tasks.MoreGlobals ∷ more) p = let h = some_rest more p in cover_of (Covers.more_globals h.covered) (λ e. cc)
some_rest (tasks.StartValue ∷ more) p = let h = some_rest more p in cover_of (Covers.start_value h.covered) (λ e. cc)
some_rest (tasks.Size ∷ more) p = let h = some_rest more p in cover_of (Covers.size h.covered) (λ e. cc)
some_rest (tasks.TableParameter ∷ more) p = let h = some_rest more p in cover_of (Covers.table_parameter h.covered) (λ e. cc)
some_rest (tasks.TableMembers ∷ more) p = let h = some_rest more p in cover_of (Covers.table_members h.covered) (λ e. cc)
some_rest (tasks.MoreMembers ∷ more) p = let h = some_rest more p in cover_of (Covers.more_members h.covered) (λ e. cc)
some_rest (tasks.Parameters ∷ more) p = let h = some_rest more p in cover_of (Covers.parameters_prototype h.covered) (λ e. cc)
some_rest (tasks.ParameterList ∷ more) p = let h = some_rest more p in cover_of (Covers.list_prototype h.covered) (λ e. cc)
some_rest (tasks.ParametersEnd ∷ more) p = let h = some_rest more p in cover_of (Covers.end_prototype h.covered) (λ e. cc)
some_rest (tasks.AfterParameters ∷ more) p = let h = some_rest more p in cover_of (Covers.after_prototype h.covered) (λ e. cc)
some_rest (tasks.ParameterName ∷ more) p = let h = some_rest more p in cover_of (Covers.parameter_name_prototype h.covered) (λ e. cc)
some_rest (tasks.MoreParameters ∷ more) p = let h = some_rest more p in cover_of (Covers.more_parameters_prototype h.covered) (λ e. cc)
some_rest (tasks.PrototypeName ∷ more) p = let h = some_rest more p in cover_of (Covers.prototype_name h.covered) (λ e. cc)
some_rest (tasks.MorePrototype ∷ more) p = let h = some_rest more p in cover_of (Covers.more_prototype h.covered) (λ e. cc)
some_rest (tasks.BlockItems ∷ more) p = let h = some_rest more p in cover_of (Covers.block_items h.covered) (λ e. cc)
some_rest (tasks.Body ∷ more) p = let h = some_rest more p.1 in cover_of (Covers.body h.covered) (λ e. cc)
some_rest (tasks.Parenthesized ∷ more) p = let h = some_rest more p in cover_of (Covers.parenthesized h.covered) (λ e. cc)
some_rest (tasks.UpToSemicolon ∷ more) p = let h = some_rest more p in cover_of (Covers.up_to_semicolon h.covered) (λ e. cc)
some_rest (tasks.ForParts ∷ more) p = let h = some_rest more p in cover_of (Covers.for_parts h.covered) (λ e. cc)
some_rest (tasks.ForInit ∷ more) p = let h = some_rest more p in cover_of (Covers.for_init h.covered) (λ e. cc)
some_rest (tasks.ForStep ∷ more) p = let h = some_rest more p in cover_of (Covers.for_step h.covered) (λ e. cc)
some_rest (tasks.LocalName ∷ more) p = let h = some_rest more p in cover_of (Covers.local_name h.covered) (λ e. cc)
some_rest (tasks.AfterLocalName ∷ more) p = let h = some_rest more p in cover_of (Covers.after_local_value h.covered) (λ e. cc)
some_rest (tasks.MoreLocals ∷ more) p = let h = some_rest more p in cover_of (Covers.more_locals h.covered) (λ e. cc)
some_rest (tasks.AfterSimpleName ∷ more) p = let h = some_rest more p.1 in cover_of (Covers.after_simple_set h.covered) (λ e. cc)
some_rest (tasks.AfterSimpleIndex ∷ more) p = let h = some_rest more p.1 in cover_of (Covers.simple_index_set h.covered) (λ e. cc)
some_rest (tasks.ArgumentList ∷ more) p = let h = some_rest more p in cover_of (Covers.argument_list h.covered) (λ e. cc)
some_rest (tasks.MoreArguments ∷ more) p = let h = some_rest more p in cover_of (Covers.more_arguments h.covered) (λ e. cc)
some_rest (tasks.Expr ∷ more) p = let h = some_rest more p.1 in cover_of (Covers.expr h.covered) (λ e. cc)
some_rest (tasks.Operand ∷ more) p = let h = some_rest more p.1 in cover_of (Covers.operand h.covered) (λ e. cc)
