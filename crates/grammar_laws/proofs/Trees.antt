-- The places of each tree of the grammar rise from where its tokens begin to where they end.
use Rattle.grammar_laws.proofs.Common.{ℕ, ◌≡◌, Bool, true, refl, sym, ◌∙◌, ap, subst, List, [], ◌∷◌, ◌++◌, Option, append_assoc, StandInOrder, Token, Infix, NameTree, RawExprTree, RawExprTrees, RawSimpleTree, RawStmtTree, RawStmtTrees, RawItemTree, raw_joined, IsExpr, IsBinary, IsRepeated, IsUnary, IsPrimary, IsIndex, IsParenthesized, AreArguments, AreMoreArguments, IsSize, IsSimple, IsLocal, AreMoreLocals, AreLocals, IsUpToSemicolon, IsForInit, IsForStep, declared_before, IsBody, IsBlock, AreStmts, IsStart, IsGlobal, AreMoreGlobals, AreMoreMembers, IsNameOption, AreMoreParameters, AreMoreNamed, AreParameters, AreNamed, IsResult, AreItem, AreItems, IsProgram, Standing, Declared, Used, Called, Keyword, expr_places, exprs_places, simple_places, simples_places, optional_places, step_places, stmt_places, stmts_places, names_places, optional_name_places, parameters_places, item_places, items_places, RiseWithin}
use Rattle.c_grammar.specs.declared.signs.Sign.TheVariants as signs
use Rattle.grammar_laws.proofs.Walks.{up_to, Walks, nothing, along, behind_one, sign, number, name, keyword, passed, ended, closed}

module _ (end : ℕ) (meant : Standing → Bool) (source : List ℕ) where
  joined_places : (l : RawExprTree) (operator : Infix) (r : RawExprTree) → expr_places meant (raw_joined l operator r) ≡ expr_places meant l ++ expr_places meant r
  joined_places l (Infix.Binary op) r = refl
  joined_places l _ r = refl

  mutual
    expr_walk : {before after : List Token} {e : RawExprTree} → IsExpr source before e after → Walks end before (expr_places meant e) after
    expr_walk (IsExpr.alone b) = binary_walk b
    expr_walk (IsExpr.conditional b q x k y) = along end (binary_walk b) (passed end q (along end (expr_walk x) (passed end k (expr_walk y))))

    binary_walk : {level : ℕ} {before after : List Token} {e : RawExprTree} → IsBinary source level before e after → Walks end before (expr_places meant e) after
    binary_walk (IsBinary.operand high u) = unary_walk u
    binary_walk {before = b} (IsBinary.chain low e r) = repeated_walk r b (binary_walk e)

    repeated_walk : {level : ℕ} {left : RawExprTree} {before after : List Token} {e : RawExprTree} → IsRepeated source level left before e after →
        (start : List Token) → Walks end start (expr_places meant left) before → Walks end start (expr_places meant e) after
    repeated_walk IsRepeated.no_more start w = w
    repeated_walk (IsRepeated.another {before = x} {c = c} {left = l} {right = r} {operator = op} p b more) start w =
        repeated_walk more start
        (subst (λ (ps : List ℕ). Walks end start ps c) (sym (joined_places l op r)) (along end w (along end (behind_one end x p.behind) (binary_walk b))))

    unary_walk : {before after : List Token} {e : RawExprTree} → IsUnary source before e after → Walks end before (expr_places meant e) after
    unary_walk {before = x} (IsUnary.prefixed p u) = along end (behind_one end x p.behind) (unary_walk u)
    unary_walk (IsUnary.primary p) = primary_walk p

    primary_walk : {before after : List Token} {e : RawExprTree} → IsPrimary source before e after → Walks end before (expr_places meant e) after
    primary_walk (IsPrimary.number p) = number end p
    primary_walk (IsPrimary.name p) = name end meant Used p
    primary_walk (IsPrimary.element p i) = along end (name end meant Used p) (index_walk i)
    primary_walk (IsPrimary.call p es) = along end (name end meant Called p) (arguments_walk es)
    primary_walk (IsPrimary.table_call p i e) = along end (name end meant Called p) (along end (index_walk i) (parenthesized_walk e))
    primary_walk (IsPrimary.parenthesized e) = parenthesized_walk e

    index_walk : {before after : List Token} {e : RawExprTree} → IsIndex source before e after → Walks end before (expr_places meant e) after
    index_walk (IsIndex.index o e c) = passed end o (closed end (expr_walk e) c)

    parenthesized_walk : {before after : List Token} {e : RawExprTree} → IsParenthesized source before e after → Walks end before (expr_places meant e) after
    parenthesized_walk (IsParenthesized.parentheses o e c) = passed end o (closed end (expr_walk e) c)

    arguments_walk : {before after : List Token} {es : RawExprTrees} → AreArguments source before es after → Walks end before (exprs_places meant es) after
    arguments_walk (AreArguments.no_arguments o c) = passed end o (sign end c)
    arguments_walk (AreArguments.arguments o e es) = passed end o (along end (expr_walk e) (more_arguments_walk es))

    more_arguments_walk : {before after : List Token} {es : RawExprTrees} → AreMoreArguments source before es after → Walks end before (exprs_places meant es) after
    more_arguments_walk (AreMoreArguments.last_argument c) = sign end c
    more_arguments_walk (AreMoreArguments.another_argument o e es) = passed end o (along end (expr_walk e) (more_arguments_walk es))

  size_walk : {before after : List Token} {words : ℕ} → IsSize before words after → Walks end before [] after
  size_walk s = passed end s.opened (along end (number end s.number) (sign end s.closed))

  simple_walk : {before after : List Token} {s : RawSimpleTree} → IsSimple source before s after → Walks end before (simple_places meant s) after
  simple_walk (IsSimple.set n a e) = along end (name end meant Used n) (passed end a (expr_walk e))
  simple_walk (IsSimple.set_element n i a e) = along end (name end meant Used n) (along end (index_walk i) (passed end a (expr_walk e)))
  simple_walk (IsSimple.calling n es) = along end (name end meant Called n) (arguments_walk es)
  simple_walk (IsSimple.table_calling n i e) = along end (name end meant Called n) (along end (index_walk i) (parenthesized_walk e))

  local_walk : {before after : List Token} {s : RawSimpleTree} → IsLocal source before s after → Walks end before (simple_places meant s) after
  local_walk (IsLocal.scalar n) = name end meant Declared n
  local_walk (IsLocal.with_value n a e) = along end (name end meant Declared n) (passed end a (expr_walk e))
  local_walk (IsLocal.array n s) = ended end (name end meant Declared n) (size_walk s)

  more_locals_walk : {before after : List Token} {ss : List RawSimpleTree} → AreMoreLocals source before ss after → Walks end before (simples_places meant ss) after
  more_locals_walk (AreMoreLocals.last_local c) = sign end c
  more_locals_walk (AreMoreLocals.another_local o l ls) = passed end o (along end (local_walk l) (more_locals_walk ls))

  locals_walk : {before after : List Token} {ss : List RawSimpleTree} → AreLocals source before ss after → Walks end before (simples_places meant ss) after
  locals_walk (AreLocals.locals i l ls) = passed end i (along end (local_walk l) (more_locals_walk ls))

  up_to_semicolon_walk : {before after : List Token} {e : Option RawExprTree} → IsUpToSemicolon source before e after → Walks end before (optional_places meant e) after
  up_to_semicolon_walk (IsUpToSemicolon.nothing c) = sign end c
  up_to_semicolon_walk (IsUpToSemicolon.something e c) = closed end (expr_walk e) c

  for_init_walk : {before after : List Token} {ss : List RawSimpleTree} → IsForInit source before ss after → Walks end before (simples_places meant ss) after
  for_init_walk (IsForInit.no_init c) = sign end c
  for_init_walk (IsForInit.locals_init ls) = locals_walk ls
  for_init_walk (IsForInit.simple_init s c) = along end (simple_walk s) (sign end c)

  for_step_walk : {before after : List Token} {s : Option RawSimpleTree} → IsForStep source before s after → Walks end before (step_places meant s) after
  for_step_walk (IsForStep.no_step c) = sign end c
  for_step_walk (IsForStep.step s c) = closed end (simple_walk s) c

  declared_places : (ds : List RawSimpleTree) (ss : RawStmtTrees) → stmts_places meant (declared_before ds ss) ≡ simples_places meant ds ++ stmts_places meant ss
  declared_places [] ss = refl
  declared_places (d ∷ ds) ss =
      ap (λ (ps : List ℕ). simple_places meant d ++ ps) (declared_places ds ss) ∙ sym (append_assoc (simple_places meant d) (simples_places meant ds) (stmts_places meant ss))

  module _ (nearest : Bool) where
    mutual
      body_walk : {before after : List Token} {s : RawStmtTree} → IsBody nearest source before s after → Walks end before (stmt_places meant s) after
      body_walk (IsBody.simple s c) = closed end (simple_walk s) c
      body_walk (IsBody.empty c) = sign end c
      body_walk (IsBody.block b) = block_walk b
      body_walk (IsBody.if_alone i e s may) = passed end i (along end (parenthesized_walk e) (body_walk s))
      body_walk (IsBody.if_else i e s l r) = passed end i (along end (parenthesized_walk e) (along end (body_walk s) (passed end l (body_walk r))))
      body_walk (IsBody.while_loop w e s) = passed end w (along end (parenthesized_walk e) (body_walk s))
      body_walk (IsBody.for_loop f o init e last s) =
          passed end f (passed end o (along end (for_init_walk init) (along end (up_to_semicolon_walk e) (along end (for_step_walk last) (body_walk s)))))
      body_walk (IsBody.break_loop b c) = closed end (keyword end meant Keyword signs.Break b (λ e. cc)) c
      body_walk (IsBody.continue_loop b c) = closed end (keyword end meant Keyword signs.Continue b (λ e. cc)) c
      body_walk (IsBody.return_value r v) = along end (keyword end meant Keyword signs.Return r (λ e. cc)) (up_to_semicolon_walk v)

      block_walk : {before after : List Token} {ss : RawStmtTrees} → IsBlock nearest source before ss after → Walks end before (stmts_places meant ss) after
      block_walk (IsBlock.braces o ss) = passed end o (stmts_walk ss)

      stmts_walk : {before after : List Token} {ss : RawStmtTrees} → AreStmts nearest source before ss after → Walks end before (stmts_places meant ss) after
      stmts_walk (AreStmts.last_stmt c) = sign end c
      stmts_walk (AreStmts.declarations {before = x} {after = y} {ds = ds} {ss = ss} l more) =
          subst (λ (ps : List ℕ). Walks end x ps y) (sym (declared_places ds ss)) (along end (locals_walk l) (stmts_walk more))
      stmts_walk (AreStmts.another_stmt s ss) = along end (body_walk s) (stmts_walk ss)

  start_walk : {before after : List Token} {value : ℕ} → IsStart source before value after → Walks end before [] after
  start_walk (IsStart.plain p) = number end p
  start_walk (IsStart.negative m p) = passed end m (number end p)

  global_walk : {before after : List Token} {i : RawItemTree} → IsGlobal source before i after → Walks end before (item_places meant i) after
  global_walk (IsGlobal.scalar n) = name end meant Declared n
  global_walk (IsGlobal.with_start n a v) = ended end (name end meant Declared n) (passed end a (start_walk v))
  global_walk (IsGlobal.array n s) = ended end (name end meant Declared n) (size_walk s)

  more_globals_walk : {before after : List Token} {is : List RawItemTree} → AreMoreGlobals source before is after → Walks end before (items_places meant is) after
  more_globals_walk (AreMoreGlobals.last_global c) = sign end c
  more_globals_walk (AreMoreGlobals.another_global o g gs) = passed end o (along end (global_walk g) (more_globals_walk gs))

  more_members_walk : {before after : List Token} {ns : List NameTree} → AreMoreMembers source before ns after → Walks end before (names_places meant Used ns) after
  more_members_walk (AreMoreMembers.last_member c) = sign end c
  more_members_walk (AreMoreMembers.another_member o n ns) = passed end o (along end (name end meant Used n) (more_members_walk ns))

  name_option_walk : {before after : List Token} {p : Option NameTree} → IsNameOption source before p after → Walks end before (optional_name_places meant p) after
  name_option_walk {before = x} IsNameOption.no_name = nothing end x
  name_option_walk (IsNameOption.a_name n) = name end meant Declared n

  more_parameters_walk : {before after : List Token} {ps : List (Option NameTree)} → AreMoreParameters source before ps after → Walks end before (parameters_places meant ps) after
  more_parameters_walk (AreMoreParameters.last_parameter c) = sign end c
  more_parameters_walk (AreMoreParameters.another_parameter o i p ps) = passed end o (passed end i (along end (name_option_walk p) (more_parameters_walk ps)))

  parameters_walk : {before after : List Token} {ps : List (Option NameTree)} → AreParameters source before ps after → Walks end before (parameters_places meant ps) after
  parameters_walk (AreParameters.no_parameters o c) = passed end o (sign end c)
  parameters_walk (AreParameters.void_parameters o v c) = passed end o (passed end v (sign end c))
  parameters_walk (AreParameters.some_parameters o i p ps) = passed end o (passed end i (along end (name_option_walk p) (more_parameters_walk ps)))

  more_named_walk : {before after : List Token} {ns : List NameTree} → AreMoreNamed source before ns after → Walks end before (names_places meant Declared ns) after
  more_named_walk (AreMoreNamed.last_named c) = sign end c
  more_named_walk (AreMoreNamed.another_named o i n ns) = passed end o (passed end i (along end (name end meant Declared n) (more_named_walk ns)))

  named_walk : {before after : List Token} {ns : List NameTree} → AreNamed source before ns after → Walks end before (names_places meant Declared ns) after
  named_walk (AreNamed.no_named o c) = passed end o (sign end c)
  named_walk (AreNamed.void_named o v c) = passed end o (passed end v (sign end c))
  named_walk (AreNamed.some_named o i n ns) = passed end o (passed end i (along end (name end meant Declared n) (more_named_walk ns)))

  result_walk : {before after : List Token} {gives : Bool} → IsResult before gives after → Walks end before [] after
  result_walk (IsResult.int_result p) = sign end p
  result_walk (IsResult.void_result p) = sign end p

  more_places : (is more : List RawItemTree) → items_places meant (is ++ more) ≡ items_places meant is ++ items_places meant more
  more_places [] more = refl
  more_places (i ∷ is) more =
      ap (λ (ps : List ℕ). item_places meant i ++ ps) (more_places is more) ∙ sym (append_assoc (item_places meant i) (items_places meant is) (items_places meant more))

  module _ (nearest : Bool) where
    item_walk : {before after : List Token} {is : List RawItemTree} → AreItem nearest source before is after → Walks end before (items_places meant is) after
    item_walk (AreItem.globals i g gs) = passed end i (along end (global_walk g) (more_globals_walk gs))
    item_walk (AreItem.table i o s n z r l k p a b m ms c) =
        along end (passed end i (passed end o (passed end s (along end (name end meant Declared n) (along end (size_walk z)
        (passed end r (passed end l (passed end k (passed end p (passed end a (passed end b (along end (name end meant Used m) (more_members_walk ms))))))))))))) (sign end c)
    item_walk (AreItem.prototype r n ps c) = along end (along end (result_walk r) (along end (name end meant Declared n) (parameters_walk ps))) (sign end c)
    item_walk {after = y} (AreItem.function r n ps b) =
        along end (along end (result_walk r) (along end (name end meant Declared n) (along end (named_walk ps) (block_walk nearest b)))) (nothing end y)

    items_walk : {before : List Token} {items : List RawItemTree} → AreItems nearest source before items → Walks end before (items_places meant items) []
    items_walk AreItems.no_more_items = nothing end []
    items_walk (AreItems.another_item {before = x} {is = is} {more = more} i rest) =
        subst (λ (ps : List ℕ). Walks end x ps []) (sym (more_places is more)) (along end (item_walk i) (items_walk rest))

pub program_rises : (source : List ℕ) (tokens : List Token) (end : ℕ) (items : List RawItemTree) (meant : Standing → Bool) → StandInOrder 0 tokens end → IsProgram source tokens items → RiseWithin 0 (items_places meant items) end
program_rises source tokens end items meant stands is =
    let g = (items_walk end meant source true is).walk 0 stands in
    up_to 0 (items_places meant items) g.stop end g.stands g.rise
