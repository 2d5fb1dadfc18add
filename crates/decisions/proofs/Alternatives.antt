-- What a symbol is replaced by means what the symbol does: one lemma for each alternative of the grammar.
use Rattle.decisions.proofs.Common.{ℕ, suc, ◌≡◌, ◌≢◌, ◌∙◌, ◌+◌, ◌*◌, ◌-◌, ◌%◌, ◌^◌, ◌≤◌, ◌⊎◌, inl, inr, refl, sym, subst, arith, true, false, List, [], ◌∷◌, ◌++◌, Some, None, Token, Infix, RawExprTree, RawNumber, RawName, RawElement, RawUnary, RawParenthesized, RawConditional, RawCall, RawTableCall, NoExprs, And, RawSimpleTree, RawDeclareScalar, RawDeclareArray, RawDeclareWith, RawSet, RawSetElement, RawCalling, RawTableCalling, RawStmtTrees, RawDo, RawEmpty, RawBlock, RawIf, RawIfElse, RawWhile, RawFor, RawBreak, RawContinue, RawReturn, NoRawStmts, RawThen, RawItemTree, RawGlobal, RawGlobalArray, RawTableItem, RawPrototypeItem, RawFunctionItem, raw_temporaries, raw_simples_temporaries, raw_stmts_temporaries, AreWithinTemporaries, Level, Tightest, Looser, Loosest, Symbol, Alternative, open_in, next_sign, next_at, next_name, PassesNumber, PassesInfix, IsExpr, IsBinary, IsRepeated, IsUnary, IsPrimary, IsIndex, IsParenthesized, AreArguments, AreMoreArguments, IsSimple, IsLocal, AreMoreLocals, AreLocals, IsUpToSemicolon, IsForInit, IsForStep, declared_before, IsBody, IsBlock, AreStmts, IsStart, IsGlobal, AreMoreGlobals, AreMoreMembers, IsNameOption, AreMoreParameters, AreMoreNamed, AreParameters, AreNamed, IsResult, AreItem, AreItems}
use Rattle.c_tree.specs.RawViews.{raw_joined}
use Rattle.c_grammar.specs.declared.signs.Sign.TheVariants as signs
use Rattle.c_grammar.specs.Rests as symbols
use Rattle.decisions.proofs.Signs.{depth_of, number_passed, name_passed}
use Rattle.decisions.proofs.Means.{ABinary, ARepeated, AnIndex, AConditional, Reads, By}

-- ---- temporaries

joined_small : (l : RawExprTree) (operator : Infix) (r : RawExprTree) (m : ℕ) → raw_temporaries l ≤ m → 1 + raw_temporaries r ≤ m → raw_temporaries (raw_joined l operator r) ≤ m
joined_small l (Infix.Binary operator) r m p q = omega arith
joined_small l _ r m p q = omega arith

declared_small : (ds : List RawSimpleTree) (ss : RawStmtTrees) → raw_simples_temporaries ds ≤ 1040 → raw_stmts_temporaries ss ≤ 1040 → raw_stmts_temporaries (declared_before ds ss) ≤ 1040
declared_small [] ss p q = q
declared_small (d ∷ ds) ss p q = let more = declared_small ds ss (omega arith) q in omega arith

within_both : (xs ys : List RawItemTree) → AreWithinTemporaries xs → AreWithinTemporaries ys → AreWithinTemporaries (xs ++ ys)
within_both [] ys p q = q
within_both (x ∷ xs) ys p q = (p.0, within_both xs ys p.1 q)

module _ (S : List ℕ) where
  back : (rest : List Symbol) (a b : List Token) → a ≡ b → Reads S rest b → Reads S rest a
  back rest a b e r = subst (λ (l : List Token). Reads S rest l) (sym e) r

  -- a symbol that closes nothing leaves as many constructs open
  binary_same : (n d : ℕ) (before after : List Token) → ABinary S n (0 + d) before after → ABinary S n d before after
  binary_same n d before after x = subst (λ (k : ℕ). ABinary S n k before after) (let e : 0 + d ≡ d = omega arith in e) x

  index_same : (d : ℕ) (before after : List Token) → AnIndex S (0 + d) before after → AnIndex S d before after
  index_same d before after x = subst (λ (k : ℕ). AnIndex S k before after) (let e : 0 + d ≡ d = omega arith in e) x

  -- ---- expressions

  expr_from : (rest : List Symbol) (tokens b c : List Token) → ABinary S (9 - depth_of Loosest) (open_in rest) tokens b → (b ≡ c) ⊎ AConditional S (open_in rest) b c → Reads S rest c → Reads S (symbols.Expr ∷ rest) tokens
  expr_from rest tokens b c left (inl e) r = (b, (record { tree = left.tree; is = IsExpr.alone left.is; small = (let s = left.small in omega arith) }, back rest b c e r))
  expr_from rest tokens b c left (inr w) r = (
    c,
    (
      record {
        tree = RawConditional left.tree w.chosen w.other;
        is = IsExpr.conditional left.is w.question w.chosen_is w.colon w.other_is;
        small = (let s = left.small in let p = w.chosen_small in let q = w.other_small in omega arith);
      },
      r,
    ),
  )

  joined_within : (l : RawExprTree) (operator : Infix) (r : RawExprTree) (d n : ℕ) → raw_temporaries l + 16 * d + n ≤ 1039 → raw_temporaries r + 16 * d + n + 1 ≤ 1039 → raw_temporaries (raw_joined l operator r) + 16 * d + n ≤ 1039
  joined_within l operator r d n p q = let m = joined_small l operator r (1039 - (16 * d + n)) (omega arith) (omega arith) in omega arith

  next_level : (depth : ℕ) → suc depth ≤ 9 → 9 - depth ≡ 9 - suc depth + 1
  next_level depth h = omega arith

  looser_binary : (depth d : ℕ) (tokens b c : List Token) → suc depth ≤ 9 → ABinary S (9 - depth) d tokens b → ((first : RawExprTree) → ARepeated S (9 - suc depth) d first b c) → ABinary S (9 - suc depth) d tokens c
  looser_binary depth d tokens b c h first more =
      let m = more first.tree in
      record {
        tree = m.tree;
        is = IsBinary.chain (omega arith) (subst (λ (n : ℕ). IsBinary S n tokens first.tree b) (next_level depth h) first.is) m.is;
        small = m.small (let s = first.small in omega arith);
      }

  another_binary : (depth d : ℕ) (first : RawExprTree) (tokens b c e : List Token) → suc depth ≤ 9 → (operator : Infix) → PassesInfix (9 - suc depth) tokens operator b → ABinary S (9 - depth) d b c
      → ((left : RawExprTree) → ARepeated S (9 - suc depth) d left c e) → ARepeated S (9 - suc depth) d first tokens e
  another_binary depth d first tokens b c e h operator passes right more =
      let m = more (raw_joined first operator right.tree) in
      record {
        tree = m.tree;
        is = IsRepeated.another passes (subst (λ (n : ℕ). IsBinary S n b right.tree c) (next_level depth h) right.is) m.is;
        small = λ s. m.small (let q = right.small in joined_within first operator right.tree d (9 - suc depth) s (omega arith));
      }

  expr_by : By S symbols.Expr (symbols.Binary Loosest ∷ symbols.ConditionalOption ∷ [])
  expr_by rest tokens (b, (bin, (c, (k, r)))) = expr_from rest tokens b c (binary_same 0 (open_in rest) tokens b (bin (omega arith))) k r

  no_conditional_by : By S symbols.ConditionalOption ([])
  no_conditional_by rest tokens r = (tokens, (inl refl, r))

  conditional_by : By S symbols.ConditionalOption (symbols.The signs.Question ∷ symbols.Expr ∷ symbols.The signs.Colon ∷ symbols.Expr ∷ symbols.End ∷ [])
  conditional_by rest tokens (b, (q, (c, (x, (d, (k, (f, (y, (g, (end, r)))))))))) = (
    f,
    (
      inr (record {
        then_from = b;
        then_to = c;
        else_from = d;
        chosen = x.tree;
        other = y.tree;
        question = q.0;
        chosen_is = x.is;
        colon = k.0;
        other_is = y.is;
        chosen_small = (let s = x.small in omega arith);
        other_small = (let s = y.small in omega arith);
      }),
      back rest f g end r,
    ),
  )

  tightest_by : By S (symbols.Binary Tightest) (symbols.Unary ∷ symbols.Repeated Tightest ∷ [])
  tightest_by rest tokens (b, (u, (c, (more, r)))) = (
    c,
    (
      (λ h. let m = more h u.tree in record {
        tree = m.tree;
        is = IsBinary.chain (omega arith) (IsBinary.operand (omega arith) u.is) m.is;
        small = m.small (let s = u.small in omega arith);
      }),
      r,
    ),
  )

  looser_by : (level : Level) → By S (symbols.Binary (Looser level)) (symbols.Binary level ∷ symbols.Repeated (Looser level) ∷ [])
  looser_by level rest tokens (b, (first, (c, (more, r)))) = (c, ((λ h. looser_binary (depth_of level) (open_in rest) tokens b c h (binary_same (9 - depth_of level) (open_in rest) tokens b (first (omega arith))) (more h)), r))

  no_more_tightest_by : By S (symbols.Repeated Tightest) ([])
  no_more_tightest_by rest tokens r = (tokens, ((λ h first. record { tree = first; is = IsRepeated.no_more; small = λ s. s }), r))

  another_tightest_by : By S (symbols.Repeated Tightest) (symbols.AnOperator Tightest ∷ symbols.Unary ∷ symbols.Repeated Tightest ∷ [])
  another_tightest_by rest tokens (b, (o, (c, (u, (d, (more, r)))))) = (
    d,
    (
      (λ h first. let m = more h (raw_joined first o.0 u.tree) in record {
        tree = m.tree;
        is = IsRepeated.another o.1 (IsBinary.operand (omega arith) u.is) m.is;
        small = λ s. m.small (let q = u.small in joined_within first o.0 u.tree (open_in rest) 9 s (omega arith));
      }),
      r,
    ),
  )

  no_more_looser_by : (level : Level) → By S (symbols.Repeated (Looser level)) ([])
  no_more_looser_by level rest tokens r = (tokens, ((λ h first. record { tree = first; is = IsRepeated.no_more; small = λ s. s }), r))

  another_looser_by : (level : Level) → By S (symbols.Repeated (Looser level)) (symbols.AnOperator (Looser level) ∷ symbols.Binary level ∷ symbols.Repeated (Looser level) ∷ [])
  another_looser_by level rest tokens (b, (o, (c, (x, (d, (more, r)))))) = (d, ((λ h first. another_binary (depth_of level) (open_in rest) first tokens b c d h o.0 o.1 (binary_same (9 - depth_of level) (open_in rest) b c (x (omega arith))) (more h)), r))

  prefixed_by : By S symbols.Unary (symbols.APrefix ∷ symbols.Unary ∷ symbols.End ∷ [])
  prefixed_by rest tokens (b, (o, (c, (u, (d, (end, r)))))) = (c, (record { tree = RawUnary o.0 u.tree; is = IsUnary.prefixed o.1 u.is; small = (let s = u.small in omega arith) }, back rest c d end r))

  primary_by : By S symbols.Unary (symbols.Primary ∷ [])
  primary_by rest tokens (b, (x, r)) = (b, (record { tree = x.tree; is = IsUnary.primary x.is; small = x.small }, r))

  number_primary_by : By S symbols.Primary (symbols.The signs.Number ∷ [])
  number_primary_by rest tokens (b, (n, r)) = (b, ((let v = number_passed tokens b n.0 in record { tree = RawNumber v.0; is = IsPrimary.number v.1; small = (let s = n.1 in omega arith) }), r))

  name_primary_by : By S symbols.Primary (symbols.The signs.Name ∷ [])
  name_primary_by rest tokens (b, (n, r)) = (b, (record { tree = RawName (next_name S tokens); is = IsPrimary.name (name_passed S tokens b n.0); small = (let s = n.1 in omega arith) }, r))

  element_primary_by : By S symbols.Primary (symbols.The signs.Name ∷ symbols.Index ∷ [])
  element_primary_by rest tokens (b, (n, (c, (i, r)))) = (c, (record { tree = RawElement (next_name S tokens) i.tree; is = IsPrimary.element (name_passed S tokens b n.0) i.is; small = (let s = i.small in omega arith) }, r))

  call_primary_by : By S symbols.Primary (symbols.Call ∷ [])
  call_primary_by rest tokens (b, (call, r)) = (
    b,
    (
      elim call [
        | inl w ↦ record { tree = RawCall w.name w.arguments.trees; is = IsPrimary.call w.named w.arguments.are; small = (let s = w.arguments.small in omega arith) }
        | inr w ↦ record { tree = RawTableCall w.name w.at.tree w.argument.tree; is = IsPrimary.table_call w.named w.at.is w.argument.is; small = (let s = w.at.small in let q = w.argument.small in omega arith) }
      ],
      r,
    ),
  )

  parenthesized_primary_by : By S symbols.Primary (symbols.Parenthesized ∷ [])
  parenthesized_primary_by rest tokens (b, (x, r)) = (b, (record { tree = RawParenthesized x.tree; is = IsPrimary.parenthesized x.is; small = (let s = x.small in omega arith) }, r))

  parenthesized_by : By S symbols.Parenthesized (symbols.The signs.LeftParenthesis ∷ symbols.Expr ∷ symbols.The signs.RightParenthesis ∷ [])
  parenthesized_by rest tokens (b, (o, (c, (x, (d, (z, r)))))) = (d, (record { tree = x.tree; is = IsParenthesized.parentheses o.0 x.is z.0; small = (let s = x.small in omega arith) }, r))

  index_by : By S symbols.Index (symbols.The signs.LeftBracket ∷ symbols.Expr ∷ symbols.The signs.RightBracket ∷ [])
  index_by rest tokens (b, (o, (c, (x, (d, (z, r)))))) = (d, (record { tree = x.tree; is = IsIndex.index o.0 x.is z.0; small = (let s = x.small in omega arith) }, r))

  call_by : By S symbols.Call (symbols.The signs.Name ∷ symbols.Arguments ∷ [])
  call_by rest tokens (b, (n, (c, (a, r)))) = (c, (inl (record { behind = b; name = next_name S tokens; named = name_passed S tokens b n.0; arguments = a }), r))

  table_call_by : By S symbols.Call (symbols.The signs.Name ∷ symbols.Index ∷ symbols.Parenthesized ∷ [])
  table_call_by rest tokens (b, (n, (c, (i, (d, (x, r)))))) = (d, (inr (record { behind = b; indexed = c; name = next_name S tokens; named = name_passed S tokens b n.0; at = index_same (open_in rest) b c i; argument = x }), r))

  arguments_by : By S symbols.Arguments (symbols.The signs.LeftParenthesis ∷ symbols.ArgumentList ∷ symbols.The signs.RightParenthesis ∷ [])
  arguments_by rest tokens (b, (o, (c, (list, (d, (z, r)))))) = (d, ((let a = list tokens d o.0 z.0 (let s = o.1 in omega arith) in record { trees = a.trees; are = a.are; small = (let s = a.small in omega arith) }), r))

  no_arguments_by : By S symbols.ArgumentList ([])
  no_arguments_by rest tokens r = (tokens, ((λ start end o z few. record { trees = NoExprs; are = AreArguments.no_arguments o z; small = omega (arith, few) }), r))

  some_arguments_by : By S symbols.ArgumentList (symbols.Expr ∷ symbols.MoreArguments ∷ [])
  some_arguments_by rest tokens (b, (x, (c, (more, r)))) = (
    c,
    (
      (λ start end o z few. let m = more end z few in record {
        trees = And x.tree m.trees;
        are = AreArguments.arguments o x.is m.are;
        small = (let s = x.small in let q = m.small (1 + 0) in omega arith);
      }),
      r,
    ),
  )

  no_more_arguments_by : By S symbols.MoreArguments ([])
  no_more_arguments_by rest tokens r = (tokens, ((λ end z few. record { trees = NoExprs; are = AreMoreArguments.last_argument z; small = λ k. omega (arith, few) }), r))

  another_argument_by : By S symbols.MoreArguments (symbols.The signs.Comma ∷ symbols.Expr ∷ symbols.MoreArguments ∷ [])
  another_argument_by rest tokens (b, (comma, (c, (x, (d, (more, r)))))) = (
    d,
    (
      (λ end z few. let m = more end z few in record {
        trees = And x.tree m.trees;
        are = AreMoreArguments.another_argument comma.0 x.is m.are;
        small = λ k. (let s = x.small in let q = m.small (1 + k) in omega arith);
      }),
      r,
    ),
  )

  set_by : By S symbols.Simple (symbols.The signs.Name ∷ symbols.The signs.Assign ∷ symbols.Expr ∷ [])
  set_by rest tokens (b, (n, (c, (a, (d, (x, r)))))) = (d, (record { tree = RawSet (next_name S tokens) x.tree; is = IsSimple.set (name_passed S tokens b n.0) a.0 x.is; small = (let s = x.small in omega arith) }, r))

  set_element_by : By S symbols.Simple (symbols.The signs.Name ∷ symbols.Index ∷ symbols.The signs.Assign ∷ symbols.Expr ∷ [])
  set_element_by rest tokens (b, (n, (c, (i, (d, (a, (f, (x, r)))))))) = (f, (record { tree = RawSetElement (next_name S tokens) i.tree x.tree; is = IsSimple.set_element (name_passed S tokens b n.0) i.is a.0 x.is; small = (let s = x.small in let q = i.small in omega arith) }, r))

  call_simple_by : By S symbols.Simple (symbols.Call ∷ [])
  call_simple_by rest tokens (b, (call, r)) = (
    b,
    (
      elim call [
        | inl w ↦ record { tree = RawCalling w.name w.arguments.trees; is = IsSimple.calling w.named w.arguments.are; small = (let s = w.arguments.small in omega arith) }
        | inr w ↦ record { tree = RawTableCalling w.name w.at.tree w.argument.tree; is = IsSimple.table_calling w.named w.at.is w.argument.is; small = (let s = w.at.small in let q = w.argument.small in omega arith) }
      ],
      r,
    ),
  )

  no_value_by : By S symbols.ValueOption ([])
  no_value_by rest tokens r = (tokens, (inl refl, r))

  value_by : By S symbols.ValueOption (symbols.The signs.Assign ∷ symbols.Expr ∷ [])
  value_by rest tokens (b, (a, (c, (x, r)))) = (c, (inr (record { from = b; assign = a.0; value = x }), r))

  local_scalar_by : By S symbols.Local (symbols.The signs.Name ∷ symbols.ValueOption ∷ [])
  local_scalar_by rest tokens (b, (n, (c, (v, r)))) = elim v [
    | inl e ↦ (b, (record { tree = RawDeclareScalar (next_name S tokens); is = IsLocal.scalar (name_passed S tokens b n.0); small = omega arith }, back rest b c e r))
    | inr w ↦ (c, (record { tree = RawDeclareWith (next_name S tokens) w.value.tree; is = IsLocal.with_value (name_passed S tokens b n.0) w.assign w.value.is; small = (let s = w.value.small in omega arith) }, r))
  ]

  local_array_by : By S symbols.Local (symbols.The signs.Name ∷ symbols.Size ∷ [])
  local_array_by rest tokens (b, (n, (c, (z, r)))) = (c, (record { tree = RawDeclareArray (next_name S tokens) z.0; is = IsLocal.array (name_passed S tokens b n.0) z.1; small = omega arith }, r))

  locals_by : By S symbols.Locals (symbols.The signs.Int ∷ symbols.Local ∷ symbols.MoreLocals ∷ [])
  locals_by rest tokens (b, (i, (c, (x, (d, (more, r)))))) = (d, ((λ end z. let m = more end z in record { trees = x.tree ∷ m.trees; are = AreLocals.locals i.0 x.is m.are; small = (let s = x.small in let q = m.small in omega arith) }), r))

  no_more_locals_by : By S symbols.MoreLocals ([])
  no_more_locals_by rest tokens r = (tokens, ((λ end z. record { trees = []; are = AreMoreLocals.last_local z; small = omega arith }), r))

  another_local_by : By S symbols.MoreLocals (symbols.The signs.Comma ∷ symbols.Local ∷ symbols.MoreLocals ∷ [])
  another_local_by rest tokens (b, (comma, (c, (x, (d, (more, r)))))) = (d, ((λ end z. let m = more end z in record { trees = x.tree ∷ m.trees; are = AreMoreLocals.another_local comma.0 x.is m.are; small = (let s = x.small in let q = m.small in omega arith) }), r))

  no_expr_by : By S symbols.ExprOption ([])
  no_expr_by rest tokens r = (tokens, ((λ end z. record { tree = None; is = IsUpToSemicolon.nothing z; small = omega arith }), r))

  expr_part_by : By S symbols.ExprOption (symbols.Expr ∷ [])
  expr_part_by rest tokens (b, (x, r)) = (b, ((λ end z. record { tree = Some x.tree; is = IsUpToSemicolon.something x.is z; small = (let s = x.small in omega arith) }), r))

  no_init_by : By S symbols.ForInit ([])
  no_init_by rest tokens r = (tokens, ((λ end z. record { trees = []; is = IsForInit.no_init z; small = omega arith }), r))

  locals_init_by : By S symbols.ForInit (symbols.Locals ∷ [])
  locals_init_by rest tokens (b, (x, r)) = (b, ((λ end z. let m = x end z in record { trees = m.trees; is = IsForInit.locals_init m.are; small = m.small }), r))

  simple_init_by : By S symbols.ForInit (symbols.Simple ∷ [])
  simple_init_by rest tokens (b, (x, r)) = (b, ((λ end z. record { trees = x.tree ∷ []; is = IsForInit.simple_init x.is z; small = (let s = x.small in omega arith) }), r))

  no_simple_by : By S symbols.SimpleOption ([])
  no_simple_by rest tokens r = (tokens, ((λ end z. record { tree = None; is = IsForStep.no_step z; small = omega arith }), r))

  simple_part_by : By S symbols.SimpleOption (symbols.Simple ∷ [])
  simple_part_by rest tokens (b, (x, r)) = (b, ((λ end z. record { tree = Some x.tree; is = IsForStep.step x.is z; small = x.small }), r))

  for_parts_by : By S symbols.ForParts (symbols.The signs.LeftParenthesis ∷ symbols.ForInit ∷ symbols.The signs.Semicolon ∷ symbols.ExprOption ∷ symbols.The signs.Semicolon ∷ symbols.SimpleOption ∷ symbols.The signs.RightParenthesis ∷ [])
  for_parts_by rest tokens (b, (o, (c, (i, (d, (s, (f, (x, (g, (t, (h, (last, (k, (z, r)))))))))))))) = (k, (record { b = b; c = d; d = g; opened = o.0; init = i d s.0; condition = x g t.0; last = last k z.0 }, r))

  simple_body_by : By S symbols.Body (symbols.Simple ∷ symbols.The signs.Semicolon ∷ [])
  simple_body_by rest tokens (b, (x, (c, (z, r)))) = (c, (record { tree = RawDo x.tree; is = IsBody.simple x.is z.0; small = x.small }, r))

  empty_body_by : By S symbols.Body (symbols.The signs.Semicolon ∷ [])
  empty_body_by rest tokens (b, (z, r)) = (b, (record { tree = RawEmpty; is = IsBody.empty z.0; small = omega arith }, r))

  block_body_by : By S symbols.Body (symbols.Block ∷ [])
  block_body_by rest tokens (b, (x, r)) = (b, (record { tree = RawBlock x.trees; is = IsBody.block x.is; small = x.small }, r))

  if_body_by : By S symbols.Body (symbols.The signs.If ∷ symbols.Parenthesized ∷ symbols.Body ∷ symbols.ElseOption ∷ symbols.End ∷ [])
  if_body_by rest tokens (b, (i, (c, (x, (d, (s, (f, (other, (g, (end, r)))))))))) = elim other [
    | inl none ↦ (
      d,
      (
        record {
          tree = RawIf x.tree s.tree;
          is = IsBody.if_alone i.0 x.is s.is (λ e. subst (λ (l : List Token). next_sign l ≢ signs.Else) (sym none.0) none.1);
          small = (let p = x.small in let q = s.small in omega arith);
        },
        back rest d g (none.0 ∙ end) r,
      ),
    )
    | inr w ↦ (
      f,
      (
        record {
          tree = RawIfElse x.tree s.tree w.body.tree;
          is = IsBody.if_else i.0 x.is s.is w.passes w.body.is;
          small = (let p = x.small in let q = s.small in let t = w.body.small in omega arith);
        },
        back rest f g end r,
      ),
    )
  ]

  while_body_by : By S symbols.Body (symbols.The signs.While ∷ symbols.Parenthesized ∷ symbols.Body ∷ symbols.End ∷ [])
  while_body_by rest tokens (b, (i, (c, (x, (d, (s, (f, (end, r)))))))) = (d, (record { tree = RawWhile x.tree s.tree; is = IsBody.while_loop i.0 x.is s.is; small = (let p = x.small in let q = s.small in omega arith) }, back rest d f end r))

  for_body_by : By S symbols.Body (symbols.The signs.For ∷ symbols.ForParts ∷ symbols.Body ∷ symbols.End ∷ [])
  for_body_by rest tokens (b, (i, (c, (w, (d, (s, (f, (end, r)))))))) = (
    d,
    (
      record {
        tree = RawFor w.init.trees w.condition.tree w.last.tree s.tree;
        is = IsBody.for_loop i.0 w.opened w.init.is w.condition.is w.last.is s.is;
        small = (let p = w.init.small in let q = w.condition.small in let t = w.last.small in let u = s.small in omega arith);
      },
      back rest d f end r,
    ),
  )

  break_body_by : By S symbols.Body (symbols.The signs.Break ∷ symbols.The signs.Semicolon ∷ [])
  break_body_by rest tokens (b, (i, (c, (z, r)))) = (c, (record { tree = RawBreak (next_at tokens); is = IsBody.break_loop i.0 z.0; small = omega arith }, r))

  continue_body_by : By S symbols.Body (symbols.The signs.Continue ∷ symbols.The signs.Semicolon ∷ [])
  continue_body_by rest tokens (b, (i, (c, (z, r)))) = (c, (record { tree = RawContinue (next_at tokens); is = IsBody.continue_loop i.0 z.0; small = omega arith }, r))

  return_body_by : By S symbols.Body (symbols.The signs.Return ∷ symbols.ExprOption ∷ symbols.The signs.Semicolon ∷ [])
  return_body_by rest tokens (b, (i, (c, (x, (d, (z, r)))))) = (d, ((let v = x d z.0 in record { tree = RawReturn (next_at tokens) v.tree; is = IsBody.return_value i.0 v.is; small = v.small }), r))

  else_part_by : By S symbols.ElseOption (symbols.The signs.Else ∷ symbols.Body ∷ [])
  else_part_by rest tokens (b, (i, (c, (s, r)))) = (c, (inr (record { from = b; passes = i.0; body = s }), r))

  block_by : By S symbols.Block (symbols.The signs.LeftBrace ∷ symbols.BlockItems ∷ symbols.The signs.RightBrace ∷ [])
  block_by rest tokens (b, (o, (c, (list, (d, (z, r)))))) = (d, ((let m = list d z.0 in record { trees = m.trees; is = IsBlock.braces o.0 m.are; small = m.small }), r))

  no_more_statements_by : By S symbols.BlockItems ([])
  no_more_statements_by rest tokens r = (tokens, ((λ end z. record { trees = NoRawStmts; are = AreStmts.last_stmt z; small = omega arith }), r))

  another_locals_by : By S symbols.BlockItems (symbols.Locals ∷ symbols.The signs.Semicolon ∷ symbols.BlockItems ∷ [])
  another_locals_by rest tokens (b, (x, (c, (s, (d, (more, r)))))) = (
    d,
    (
      (λ end z. let ds = x c s.0 in let m = more end z in record {
        trees = declared_before ds.trees m.trees;
        are = AreStmts.declarations ds.are m.are;
        small = declared_small ds.trees m.trees ds.small m.small;
      }),
      r,
    ),
  )

  another_body_by : By S symbols.BlockItems (symbols.Body ∷ symbols.BlockItems ∷ [])
  another_body_by rest tokens (b, (x, (c, (more, r)))) = (c, ((λ end z. let m = more end z in record { trees = RawThen x.tree m.trees; are = AreStmts.another_stmt x.is m.are; small = (let s = x.small in let q = m.small in omega arith) }), r))

  no_more_items_by : By S symbols.Program ([])
  no_more_items_by rest tokens r = (tokens, ((λ e. record { trees = []; are = subst (λ (l : List Token). AreItems true S l []) (sym e) AreItems.no_more_items; small = tt }), r))

  another_item_by : By S symbols.Program (symbols.Item ∷ symbols.Program ∷ [])
  another_item_by rest tokens (b, (i, (c, (more, r)))) = (c, ((λ e. let m = more e in record { trees = i.trees ++ m.trees; are = AreItems.another_item i.are m.are; small = within_both i.trees m.trees i.small m.small }), r))

  globals_item_by : By S symbols.Item (symbols.Globals ∷ [])
  globals_item_by rest tokens (b, (i, r)) = (b, (i, r))

  table_item_by : By S symbols.Item (symbols.Table ∷ [])
  table_item_by rest tokens (b, (i, r)) = (b, (i, r))

  prototype_item_by : By S symbols.Item (symbols.Prototype ∷ [])
  prototype_item_by rest tokens (b, (i, r)) = (b, (i, r))

  function_item_by : By S symbols.Item (symbols.Function ∷ [])
  function_item_by rest tokens (b, (i, r)) = (b, (i, r))

  globals_by : By S symbols.Globals (symbols.The signs.Int ∷ symbols.Global ∷ symbols.MoreGlobals ∷ symbols.The signs.Semicolon ∷ [])
  globals_by rest tokens (b, (i, (c, (x, (d, (more, (f, (z, r)))))))) = (f, ((let m = more f z.0 in record { trees = x.tree ∷ m.trees; are = AreItem.globals i.0 x.is m.are; small = (x.small.0, m.small) }), r))

  no_more_globals_by : By S symbols.MoreGlobals ([])
  no_more_globals_by rest tokens r = (tokens, ((λ end z. record { trees = []; are = AreMoreGlobals.last_global z; small = tt }), r))

  another_global_by : By S symbols.MoreGlobals (symbols.The signs.Comma ∷ symbols.Global ∷ symbols.MoreGlobals ∷ [])
  another_global_by rest tokens (b, (comma, (c, (x, (d, (more, r)))))) = (d, ((λ end z. let m = more end z in record { trees = x.tree ∷ m.trees; are = AreMoreGlobals.another_global comma.0 x.is m.are; small = (x.small.0, m.small) }), r))

  scalar_by : By S symbols.Global (symbols.The signs.Name ∷ symbols.Start ∷ [])
  scalar_by rest tokens (b, (n, (c, (v, r)))) = elim v [
    | inl e ↦ (b, (record { tree = RawGlobal (next_name S tokens) 0; is = IsGlobal.scalar (name_passed S tokens b n.0); small = (omega arith, tt) }, back rest b c e r))
    | inr w ↦ (c, (record { tree = RawGlobal (next_name S tokens) w.value; is = IsGlobal.with_start (name_passed S tokens b n.0) w.assign w.is; small = (omega arith, tt) }, r))
  ]

  array_by : By S symbols.Global (symbols.The signs.Name ∷ symbols.Size ∷ [])
  array_by rest tokens (b, (n, (c, (z, r)))) = (c, (record { tree = RawGlobalArray (next_name S tokens) z.0; is = IsGlobal.array (name_passed S tokens b n.0) z.1; small = (omega arith, tt) }, r))

  no_start_by : By S symbols.Start ([])
  no_start_by rest tokens r = (tokens, (inl refl, r))

  start_by : By S symbols.Start (symbols.The signs.Assign ∷ symbols.MinusOption ∷ symbols.The signs.Number ∷ [])
  start_by rest tokens (b, (a, (c, (m, (d, (n, r)))))) = (
    d,
    (
      inr (let v = number_passed c d n.0 in elim m [
        | inl e ↦ record { from = b; value = v.0; assign = a.0; is = IsStart.plain (subst (λ (l : List Token). PassesNumber l v.0 d) (sym e) v.1) }
        | inr minus ↦ record { from = b; value = (2 ^ 32 - v.0) % 2 ^ 32; assign = a.0; is = IsStart.negative minus v.1 }
      ]),
      r,
    ),
  )

  no_minus_by : By S symbols.MinusOption ([])
  no_minus_by rest tokens r = (tokens, (inl refl, r))

  minus_by : By S symbols.MinusOption (symbols.The signs.Minus ∷ [])
  minus_by rest tokens (b, (m, r)) = (b, (inr m.0, r))

  size_by : By S symbols.Size (symbols.The signs.LeftBracket ∷ symbols.The signs.Number ∷ symbols.The signs.RightBracket ∷ [])
  size_by rest tokens (b, (o, (c, (n, (d, (z, r)))))) = (d, ((let v = number_passed b c n.0 in (v.0, record { b = b; c = c; opened = o.0; number = v.1; closed = z.0 })), r))

  table_by : By S symbols.Table (symbols.The signs.Int ∷ symbols.TableName ∷ symbols.TableParameter ∷ symbols.The signs.Assign ∷ symbols.Members ∷ symbols.The signs.Semicolon ∷ [])
  table_by rest tokens (b, (i, (c, (n, (d, (t, (f, (a, (g, (m, (h, (z, r)))))))))))) = (
    h,
    (
      record {
        trees = RawTableItem n.name n.words (m.first ∷ m.names) ∷ [];
        are = AreItem.table i.0 n.opened n.star n.named n.size n.closed t.opened t.int t.closed a.0 m.opened m.named m.more z.0;
        small = (omega arith, tt);
      },
      r,
    ),
  )

  table_name_by : By S symbols.TableName (symbols.The signs.LeftParenthesis ∷ symbols.The signs.Star ∷ symbols.The signs.Name ∷ symbols.Size ∷ symbols.The signs.RightParenthesis ∷ [])
  table_name_by rest tokens (b, (o, (c, (s, (d, (n, (f, (z, (g, (e, r)))))))))) = (g, (record { c = b; d = c; f = d; g = f; name = next_name S c; words = z.0; opened = o.0; star = s.0; named = name_passed S c d n.0; size = z.1; closed = e.0 }, r))

  table_parameter_by : By S symbols.TableParameter (symbols.The signs.LeftParenthesis ∷ symbols.The signs.Int ∷ symbols.The signs.RightParenthesis ∷ [])
  table_parameter_by rest tokens (b, (o, (c, (i, (d, (z, r)))))) = (d, (record { k = b; l = c; opened = o.0; int = i.0; closed = z.0 }, r))

  members_by : By S symbols.Members (symbols.The signs.LeftBrace ∷ symbols.The signs.Name ∷ symbols.MoreMembers ∷ symbols.The signs.RightBrace ∷ [])
  members_by rest tokens (b, (o, (c, (n, (d, (more, (f, (z, r)))))))) = (f, ((let m = more f z.0 in record { p = b; q = c; first = next_name S b; names = m.0; opened = o.0; named = name_passed S b c n.0; more = m.1 }), r))

  no_more_members_by : By S symbols.MoreMembers ([])
  no_more_members_by rest tokens r = (tokens, ((λ end z. ([], AreMoreMembers.last_member z)), r))

  another_member_by : By S symbols.MoreMembers (symbols.The signs.Comma ∷ symbols.The signs.Name ∷ symbols.MoreMembers ∷ [])
  another_member_by rest tokens (b, (comma, (c, (n, (d, (more, r)))))) = (d, ((λ end z. let m = more end z in (next_name S b ∷ m.0, AreMoreMembers.another_member comma.0 (name_passed S b c n.0) m.1)), r))

  prototype_by : By S symbols.Prototype (symbols.Result ∷ symbols.The signs.Name ∷ symbols.PrototypeParameters ∷ symbols.The signs.Semicolon ∷ [])
  prototype_by rest tokens (b, (g, (c, (n, (d, (ps, (f, (z, r)))))))) = (f, (record { trees = RawPrototypeItem g.0 (next_name S b) ps.0 ∷ []; are = AreItem.prototype g.1 (name_passed S b c n.0) ps.1 z.0; small = (omega arith, tt) }, r))

  prototype_parameters_by : By S symbols.PrototypeParameters (symbols.The signs.LeftParenthesis ∷ symbols.PrototypeList ∷ symbols.The signs.RightParenthesis ∷ [])
  prototype_parameters_by rest tokens (b, (o, (c, (list, (d, (z, r)))))) = (d, (list tokens d o.0 z.0, r))

  no_parameters_by : By S symbols.PrototypeList ([])
  no_parameters_by rest tokens r = (tokens, ((λ start end o z. ([], AreParameters.no_parameters o z)), r))

  void_parameters_by : By S symbols.PrototypeList (symbols.The signs.Void ∷ [])
  void_parameters_by rest tokens (b, (v, r)) = (b, ((λ start end o z. ([], AreParameters.void_parameters o v.0 z)), r))

  some_parameters_by : By S symbols.PrototypeList (symbols.The signs.Int ∷ symbols.NameOption ∷ symbols.MorePrototype ∷ [])
  some_parameters_by rest tokens (b, (i, (c, (n, (d, (more, r)))))) = (d, ((λ start end o z. let m = more end z in (n.0 ∷ m.0, AreParameters.some_parameters o i.0 n.1 m.1)), r))

  no_more_parameters_by : By S symbols.MorePrototype ([])
  no_more_parameters_by rest tokens r = (tokens, ((λ end z. ([], AreMoreParameters.last_parameter z)), r))

  another_parameter_by : By S symbols.MorePrototype (symbols.The signs.Comma ∷ symbols.The signs.Int ∷ symbols.NameOption ∷ symbols.MorePrototype ∷ [])
  another_parameter_by rest tokens (b, (comma, (c, (i, (d, (n, (f, (more, r)))))))) = (f, ((λ end z. let m = more end z in (n.0 ∷ m.0, AreMoreParameters.another_parameter comma.0 i.0 n.1 m.1)), r))

  no_name_by : By S symbols.NameOption ([])
  no_name_by rest tokens r = (tokens, ((None, IsNameOption.no_name), r))

  name_by : By S symbols.NameOption (symbols.The signs.Name ∷ [])
  name_by rest tokens (b, (n, r)) = (b, ((Some (next_name S tokens), IsNameOption.a_name (name_passed S tokens b n.0)), r))

  function_by : By S symbols.Function (symbols.Result ∷ symbols.The signs.Name ∷ symbols.FunctionParameters ∷ symbols.Block ∷ [])
  function_by rest tokens (b, (g, (c, (n, (d, (ps, (f, (x, r)))))))) = (
    f,
    (
      record {
        trees = RawFunctionItem g.0 (next_name S b) ps.0 x.trees ∷ [];
        are = AreItem.function g.1 (name_passed S b c n.0) ps.1 x.is;
        small = ((let s = x.small in omega arith), tt);
      },
      r,
    ),
  )

  function_parameters_by : By S symbols.FunctionParameters (symbols.The signs.LeftParenthesis ∷ symbols.FunctionList ∷ symbols.The signs.RightParenthesis ∷ [])
  function_parameters_by rest tokens (b, (o, (c, (list, (d, (z, r)))))) = (d, (list tokens d o.0 z.0, r))

  no_named_by : By S symbols.FunctionList ([])
  no_named_by rest tokens r = (tokens, ((λ start end o z. ([], AreNamed.no_named o z)), r))

  void_named_by : By S symbols.FunctionList (symbols.The signs.Void ∷ [])
  void_named_by rest tokens (b, (v, r)) = (b, ((λ start end o z. ([], AreNamed.void_named o v.0 z)), r))

  some_named_by : By S symbols.FunctionList (symbols.The signs.Int ∷ symbols.The signs.Name ∷ symbols.MoreFunction ∷ [])
  some_named_by rest tokens (b, (i, (c, (n, (d, (more, r)))))) = (d, ((λ start end o z. let m = more end z in (next_name S b ∷ m.0, AreNamed.some_named o i.0 (name_passed S b c n.0) m.1)), r))

  no_more_named_by : By S symbols.MoreFunction ([])
  no_more_named_by rest tokens r = (tokens, ((λ end z. ([], AreMoreNamed.last_named z)), r))

  another_named_by : By S symbols.MoreFunction (symbols.The signs.Comma ∷ symbols.The signs.Int ∷ symbols.The signs.Name ∷ symbols.MoreFunction ∷ [])
  another_named_by rest tokens (b, (comma, (c, (i, (d, (n, (f, (more, r)))))))) = (f, ((λ end z. let m = more end z in (next_name S c ∷ m.0, AreMoreNamed.another_named comma.0 i.0 (name_passed S c d n.0) m.1)), r))

  int_result_by : By S symbols.Result (symbols.The signs.Int ∷ [])
  int_result_by rest tokens (b, (i, r)) = (b, ((true, IsResult.int_result i.0), r))

  void_result_by : By S symbols.Result (symbols.The signs.Void ∷ [])
  void_result_by rest tokens (b, (i, r)) = (b, ((false, IsResult.void_result i.0), r))

  end_by : By S symbols.End ([])
  end_by rest tokens r = (tokens, (refl, r))

  -- ---- all of them

  pub alternative : {symbol : Symbol} {parts : List Symbol} → Alternative symbol parts → By S symbol parts
  alternative Alternative.expr = expr_by
  alternative Alternative.no_conditional = no_conditional_by
  alternative Alternative.conditional = conditional_by
  alternative Alternative.tightest = tightest_by
  alternative (Alternative.looser {level}) = looser_by level
  alternative Alternative.no_more_tightest = no_more_tightest_by
  alternative Alternative.another_tightest = another_tightest_by
  alternative (Alternative.no_more_looser {level}) = no_more_looser_by level
  alternative (Alternative.another_looser {level}) = another_looser_by level
  alternative Alternative.prefixed = prefixed_by
  alternative Alternative.primary = primary_by
  alternative Alternative.number_primary = number_primary_by
  alternative Alternative.name_primary = name_primary_by
  alternative Alternative.element_primary = element_primary_by
  alternative Alternative.call_primary = call_primary_by
  alternative Alternative.parenthesized_primary = parenthesized_primary_by
  alternative Alternative.parenthesized = parenthesized_by
  alternative Alternative.index = index_by
  alternative Alternative.call = call_by
  alternative Alternative.table_call = table_call_by
  alternative Alternative.arguments = arguments_by
  alternative Alternative.no_arguments = no_arguments_by
  alternative Alternative.some_arguments = some_arguments_by
  alternative Alternative.no_more_arguments = no_more_arguments_by
  alternative Alternative.another_argument = another_argument_by
  alternative Alternative.set = set_by
  alternative Alternative.set_element = set_element_by
  alternative Alternative.call_simple = call_simple_by
  alternative Alternative.no_value = no_value_by
  alternative Alternative.value = value_by
  alternative Alternative.local_scalar = local_scalar_by
  alternative Alternative.local_array = local_array_by
  alternative Alternative.locals = locals_by
  alternative Alternative.no_more_locals = no_more_locals_by
  alternative Alternative.another_local = another_local_by
  alternative Alternative.no_expr = no_expr_by
  alternative Alternative.expr_part = expr_part_by
  alternative Alternative.no_init = no_init_by
  alternative Alternative.locals_init = locals_init_by
  alternative Alternative.simple_init = simple_init_by
  alternative Alternative.no_simple = no_simple_by
  alternative Alternative.simple_part = simple_part_by
  alternative Alternative.for_parts = for_parts_by
  alternative Alternative.simple_body = simple_body_by
  alternative Alternative.empty_body = empty_body_by
  alternative Alternative.block_body = block_body_by
  alternative Alternative.if_body = if_body_by
  alternative Alternative.while_body = while_body_by
  alternative Alternative.for_body = for_body_by
  alternative Alternative.break_body = break_body_by
  alternative Alternative.continue_body = continue_body_by
  alternative Alternative.return_body = return_body_by
  alternative Alternative.else_part = else_part_by
  alternative Alternative.block = block_by
  alternative Alternative.no_more_statements = no_more_statements_by
  alternative Alternative.another_locals = another_locals_by
  alternative Alternative.another_body = another_body_by
  alternative Alternative.no_more_items = no_more_items_by
  alternative Alternative.another_item = another_item_by
  alternative Alternative.globals_item = globals_item_by
  alternative Alternative.table_item = table_item_by
  alternative Alternative.prototype_item = prototype_item_by
  alternative Alternative.function_item = function_item_by
  alternative Alternative.globals = globals_by
  alternative Alternative.no_more_globals = no_more_globals_by
  alternative Alternative.another_global = another_global_by
  alternative Alternative.scalar = scalar_by
  alternative Alternative.array = array_by
  alternative Alternative.no_start = no_start_by
  alternative Alternative.start = start_by
  alternative Alternative.no_minus = no_minus_by
  alternative Alternative.minus = minus_by
  alternative Alternative.size = size_by
  alternative Alternative.table = table_by
  alternative Alternative.table_name = table_name_by
  alternative Alternative.table_parameter = table_parameter_by
  alternative Alternative.members = members_by
  alternative Alternative.no_more_members = no_more_members_by
  alternative Alternative.another_member = another_member_by
  alternative Alternative.prototype = prototype_by
  alternative Alternative.prototype_parameters = prototype_parameters_by
  alternative Alternative.no_parameters = no_parameters_by
  alternative Alternative.void_parameters = void_parameters_by
  alternative Alternative.some_parameters = some_parameters_by
  alternative Alternative.no_more_parameters = no_more_parameters_by
  alternative Alternative.another_parameter = another_parameter_by
  alternative Alternative.no_name = no_name_by
  alternative Alternative.name = name_by
  alternative Alternative.function = function_by
  alternative Alternative.function_parameters = function_parameters_by
  alternative Alternative.no_named = no_named_by
  alternative Alternative.void_named = void_named_by
  alternative Alternative.some_named = some_named_by
  alternative Alternative.no_more_named = no_more_named_by
  alternative Alternative.another_named = another_named_by
  alternative Alternative.int_result = int_result_by
  alternative Alternative.void_result = void_result_by
  alternative Alternative.end = end_by
