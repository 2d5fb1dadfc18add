-- The names of a source that is read begin with no digit: each is the text of a name token.
use Rattle.hoist_meaning.proofs.Common.{ℕ, ◌≡◌, ◌<◌, inr, sym, subst, Bool, true, List, [], ◌∷◌, ◌++◌, Option, Some, None, arith, AllByRecursion, nat_tests, NameTree, RawExprTree, RawExprTrees, RawSimpleTree, RawStmtTree, RawStmtTrees, RawItemTree, raw_joined, IsSourceName, AreSourceNames, AllSourceNames, IsSimpleNamed, AreSimplesNamed, IsOptionNamed, IsStepNamed, IsStmtNamed, AreStmtsNamed, AreNamed, AreParamsNamed, IsItemNamed, AreItemsNamed}
use Rattle.c_lex.specs.declared.keywords.Keyword.{Keyword}
use Rattle.c_lex.specs.declared.keywords.Keyword.TheVariants as keywords
use Rattle.c_lex.specs.declared.marks.Mark.{Mark}
use Rattle.c_lex.specs.declared.marks.Mark.TheVariants as marks
use Rattle.c_lex.specs.declared.tokens.Token.{Token}
use Rattle.c_lex.specs.declared.tokens.TokenKind.{TokenKind}
use Rattle.c_lex.specs.declared.tokens.TokenKind.TheVariants as kinds
use Rattle.c_lex.specs.Bytes.{is_letter}
use Rattle.c_lex.specs.Lexemes.{IsIdentifier, IsOfKind}
use Rattle.c_lex.specs.Places.{lexeme_of}
use Rattle.c_lex.specs.Tokens.{AreTokensOf}
use Rattle.c_lex.proofs.PlaceLemmas.{tokens_spelled}
use Rattle.c_tree.specs.declared.operators.Infix.{Infix}
use Rattle.c_grammar.specs.declared.signs.Sign.{Sign}
use Rattle.c_grammar.specs.declared.signs.Sign.TheVariants as signs
use Rattle.c_grammar.specs.Signs.{sign_of_keyword, sign_of_mark, sign_of_token}
use Rattle.c_grammar.specs.Tokens.{rest_of, Passes, PassesName, PassesNumber}
use Rattle.c_grammar.specs.Grammar as grammar
use Rattle.c_grammar.specs.Grammar.{IsExpr, IsBinary, IsRepeated, IsUnary, IsPrimary, IsIndex, IsParenthesized, AreArguments, AreMoreArguments, IsSize, IsSimple, IsLocal, AreMoreLocals, AreLocals, IsUpToSemicolon, IsForInit, IsForStep, declared_before, IsBody, IsBlock, AreStmts, IsStart, IsGlobal, AreMoreGlobals, AreMoreMembers, IsNameOption, AreMoreParameters, AreMoreNamed, AreParameters, IsResult, AreItem, AreItems, IsProgram}

-- ---- which token a name is

abbrev IsOther : Sign → Type 0
IsOther signs.Name = ⊥
IsOther _ = Unit {0}

keyword_other : (keyword : Keyword) → IsOther (sign_of_keyword keyword)
keyword_other keywords.Int = tt
keyword_other _ = tt

mark_other : (mark : Mark) → IsOther (sign_of_mark mark)
mark_other marks.LeftParenthesis = tt
mark_other _ = tt

letter_high : (b : ℕ) → is_letter b ≡ true → 57 < b
letter_high b letter = grind (arith, nat_tests)

identifier_named : (text : List ℕ) → IsIdentifier text → IsSourceName text
identifier_named [] h = absurd h
identifier_named (b ∷ bs) h = inr (letter_high b h.0)

token_named : (text : List ℕ) (kind : TokenKind) → sign_of_token kind ≡ signs.Name → IsOfKind text kind → IsSourceName text
token_named text kinds.Name e h = identifier_named text h.0
token_named text (kinds.Number value) e h = absurd (subst IsOther e tt)
token_named text (kinds.Keyword keyword) e h = absurd (subst IsOther e (keyword_other keyword))
token_named text (kinds.Mark mark) e h = absurd (subst IsOther e (mark_other mark))

module _ (source : List ℕ) where
  -- each token's bytes are what its kind says
  abbrev Spelled : List Token → Type 0
  Spelled tokens = AllByRecursion (λ token. IsOfKind (lexeme_of source token) token.kind) tokens

  behind : (before : List Token) {after : List Token} → after ≡ rest_of before → Spelled before → Spelled after
  behind [] e h = subst Spelled (sym e) tt
  behind (t ∷ tokens) e h = subst Spelled (sym e) h.1

  sign : {s : Sign} {before after : List Token} → Passes s before after → Spelled before → Spelled after
  sign {before = b} p h = behind b p.behind h

  number : {before after : List Token} {value : ℕ} → PassesNumber before value after → Spelled before → Spelled after
  number {before = b} p h = behind b p.behind h

  name_from : (before : List Token) {after : List Token} {n : NameTree} → PassesName source before n after → Spelled before → IsSourceName n.text
  name_from [] p h = absurd (let e = p.passes.is_next in cc)
  name_from (t ∷ tokens) p h = subst (λ (m : NameTree). IsSourceName m.text) (sym p.named) (token_named (lexeme_of source t) t.kind p.passes.is_next h.0)

  name : {before after : List Token} {n : NameTree} → PassesName source before n after → Spelled before → IsSourceName n.text × Spelled after
  name {before = b} p h = (name_from b p h, behind b p.passes.behind h)

  joined_named : (l : RawExprTree) (operator : Infix) (r : RawExprTree) → AreSourceNames l → AreSourceNames r → AreSourceNames (raw_joined l operator r)
  joined_named l (Infix.Binary op) r h g = (h, g)
  joined_named l _ r h g = (h, g)

  mutual
    expr_named : {before after : List Token} {e : RawExprTree} → IsExpr source before e after → Spelled before → AreSourceNames e × Spelled after
    expr_named (IsExpr.alone b) h = binary_named b h
    expr_named (IsExpr.conditional b q x k y) h =
        let first = binary_named b h in
        let second = expr_named x (sign q first.1) in
        let third = expr_named y (sign k second.1) in
        ((first.0, second.0, third.0), third.1)

    binary_named : {level : ℕ} {before after : List Token} {e : RawExprTree} → IsBinary source level before e after → Spelled before → AreSourceNames e × Spelled after
    binary_named (IsBinary.operand high u) h = unary_named u h
    binary_named (IsBinary.chain low e r) h = let first = binary_named e h in repeated_named r first.0 first.1

    repeated_named : {level : ℕ} {left : RawExprTree} {before after : List Token} {e : RawExprTree} → IsRepeated source level left before e after → AreSourceNames left → Spelled before → AreSourceNames e × Spelled after
    repeated_named IsRepeated.no_more l h = (l, h)
    repeated_named (IsRepeated.another {before = x} {left = left} {right = r} {operator = op} p b more) l h =
        let right = binary_named b (behind x p.behind h) in repeated_named more (joined_named left op r l right.0) right.1

    unary_named : {before after : List Token} {e : RawExprTree} → IsUnary source before e after → Spelled before → AreSourceNames e × Spelled after
    unary_named (IsUnary.prefixed {before = x} p u) h = unary_named u (behind x p.behind h)
    unary_named (IsUnary.primary p) h = primary_named p h

    primary_named : {before after : List Token} {e : RawExprTree} → IsPrimary source before e after → Spelled before → AreSourceNames e × Spelled after
    primary_named (IsPrimary.number p) h = (tt, number p h)
    primary_named (IsPrimary.name p) h = name p h
    primary_named (IsPrimary.element p i) h =
        let first = name p h in
        let second = index_named i first.1 in
        ((first.0, second.0), second.1)
    primary_named (IsPrimary.call p es) h =
        let first = name p h in
        let second = arguments_named es first.1 in
        ((first.0, second.0), second.1)
    primary_named (IsPrimary.table_call p i e) h =
        let first = name p h in
        let second = index_named i first.1 in
        let third = parenthesized_named e second.1 in
        ((first.0, second.0, third.0), third.1)
    primary_named (IsPrimary.parenthesized e) h = parenthesized_named e h

    index_named : {before after : List Token} {e : RawExprTree} → IsIndex source before e after → Spelled before → AreSourceNames e × Spelled after
    index_named (IsIndex.index o e c) h = let inner = expr_named e (sign o h) in (inner.0, sign c inner.1)

    parenthesized_named : {before after : List Token} {e : RawExprTree} → IsParenthesized source before e after → Spelled before → AreSourceNames e × Spelled after
    parenthesized_named (IsParenthesized.parentheses o e c) h = let inner = expr_named e (sign o h) in (inner.0, sign c inner.1)

    arguments_named : {before after : List Token} {es : RawExprTrees} → AreArguments source before es after → Spelled before → AllSourceNames es × Spelled after
    arguments_named (AreArguments.no_arguments o c) h = (tt, sign c (sign o h))
    arguments_named (AreArguments.arguments o e es) h =
        let first = expr_named e (sign o h) in
        let rest = more_arguments_named es first.1 in
        ((first.0, rest.0), rest.1)

    more_arguments_named : {before after : List Token} {es : RawExprTrees} → AreMoreArguments source before es after → Spelled before → AllSourceNames es × Spelled after
    more_arguments_named (AreMoreArguments.last_argument c) h = (tt, sign c h)
    more_arguments_named (AreMoreArguments.another_argument o e es) h =
        let first = expr_named e (sign o h) in
        let rest = more_arguments_named es first.1 in
        ((first.0, rest.0), rest.1)

  size_named : {before after : List Token} {words : ℕ} → IsSize before words after → Spelled before → Spelled after
  size_named s h = sign s.closed (number s.number (sign s.opened h))

  simple_named : {before after : List Token} {s : RawSimpleTree} → IsSimple source before s after → Spelled before → IsSimpleNamed s × Spelled after
  simple_named (IsSimple.set n a e) h =
      let first = name n h in
      let second = expr_named e (sign a first.1) in
      ((first.0, second.0), second.1)
  simple_named (IsSimple.set_element n i a e) h =
      let first = name n h in
      let second = index_named i first.1 in
      let third = expr_named e (sign a second.1) in
      ((first.0, second.0, third.0), third.1)
  simple_named (IsSimple.calling n es) h =
      let first = name n h in
      let second = arguments_named es first.1 in
      ((first.0, second.0), second.1)
  simple_named (IsSimple.table_calling n i e) h =
      let first = name n h in
      let second = index_named i first.1 in
      let third = parenthesized_named e second.1 in
      ((first.0, second.0, third.0), third.1)

  local_named : {before after : List Token} {s : RawSimpleTree} → IsLocal source before s after → Spelled before → IsSimpleNamed s × Spelled after
  local_named (IsLocal.scalar n) h = name n h
  local_named (IsLocal.with_value n a e) h =
      let first = name n h in
      let second = expr_named e (sign a first.1) in
      ((first.0, second.0), second.1)
  local_named (IsLocal.array n s) h = let first = name n h in (first.0, size_named s first.1)

  more_locals_named : {before after : List Token} {ss : List RawSimpleTree} → AreMoreLocals source before ss after → Spelled before → AreSimplesNamed ss × Spelled after
  more_locals_named (AreMoreLocals.last_local c) h = (tt, sign c h)
  more_locals_named (AreMoreLocals.another_local o l ls) h =
      let first = local_named l (sign o h) in
      let rest = more_locals_named ls first.1 in
      ((first.0, rest.0), rest.1)

  locals_named : {before after : List Token} {ss : List RawSimpleTree} → AreLocals source before ss after → Spelled before → AreSimplesNamed ss × Spelled after
  locals_named (AreLocals.locals i l ls) h =
      let first = local_named l (sign i h) in
      let rest = more_locals_named ls first.1 in
      ((first.0, rest.0), rest.1)

  option_named : {before after : List Token} {e : Option RawExprTree} → IsUpToSemicolon source before e after → Spelled before → IsOptionNamed e × Spelled after
  option_named (IsUpToSemicolon.nothing c) h = (tt, sign c h)
  option_named (IsUpToSemicolon.something e c) h = let first = expr_named e h in (first.0, sign c first.1)

  init_named : {before after : List Token} {ss : List RawSimpleTree} → IsForInit source before ss after → Spelled before → AreSimplesNamed ss × Spelled after
  init_named (IsForInit.no_init c) h = (tt, sign c h)
  init_named (IsForInit.locals_init ls) h = locals_named ls h
  init_named (IsForInit.simple_init s c) h = let first = simple_named s h in ((first.0, tt), sign c first.1)

  step_named : {before after : List Token} {s : Option RawSimpleTree} → IsForStep source before s after → Spelled before → IsStepNamed s × Spelled after
  step_named (IsForStep.no_step c) h = (tt, sign c h)
  step_named (IsForStep.step s c) h = let first = simple_named s h in (first.0, sign c first.1)

  before_named : (ds : List RawSimpleTree) (ss : RawStmtTrees) → AreSimplesNamed ds → AreStmtsNamed ss → AreStmtsNamed (declared_before ds ss)
  before_named [] ss h g = g
  before_named (d ∷ ds) ss h g = (h.0, before_named ds ss h.1 g)

  module _ (nearest : Bool) where
    mutual
      body_named : {before after : List Token} {s : RawStmtTree} → IsBody nearest source before s after → Spelled before → IsStmtNamed s × Spelled after
      body_named (IsBody.simple s c) h = let first = simple_named s h in (first.0, sign c first.1)
      body_named (IsBody.empty c) h = (tt, sign c h)
      body_named (IsBody.block b) h = block_named b h
      body_named (IsBody.if_alone i e s may) h =
          let first = parenthesized_named e (sign i h) in
          let second = body_named s first.1 in
          ((first.0, second.0), second.1)
      body_named (IsBody.if_else i e s l r) h =
          let first = parenthesized_named e (sign i h) in
          let second = body_named s first.1 in
          let third = body_named r (sign l second.1) in
          ((first.0, second.0, third.0), third.1)
      body_named (IsBody.while_loop w e s) h =
          let first = parenthesized_named e (sign w h) in
          let second = body_named s first.1 in
          ((first.0, second.0), second.1)
      body_named (IsBody.for_loop f o init e last s) h =
          let first = init_named init (sign o (sign f h)) in
          let second = option_named e first.1 in
          let third = step_named last second.1 in
          let fourth = body_named s third.1 in
          ((first.0, second.0, third.0, fourth.0), fourth.1)
      body_named (IsBody.break_loop b c) h = (tt, sign c (sign b h))
      body_named (IsBody.continue_loop b c) h = (tt, sign c (sign b h))
      body_named (IsBody.return_value r v) h = option_named v (sign r h)

      block_named : {before after : List Token} {ss : RawStmtTrees} → IsBlock nearest source before ss after → Spelled before → AreStmtsNamed ss × Spelled after
      block_named (IsBlock.braces o ss) h = stmts_named ss (sign o h)

      stmts_named : {before after : List Token} {ss : RawStmtTrees} → AreStmts nearest source before ss after → Spelled before → AreStmtsNamed ss × Spelled after
      stmts_named (AreStmts.last_stmt c) h = (tt, sign c h)
      stmts_named (AreStmts.declarations {ds = ds} {ss = ss} l more) h =
          let first = locals_named l h in
          let rest = stmts_named more first.1 in
          (before_named ds ss first.0 rest.0, rest.1)
      stmts_named (AreStmts.another_stmt s ss) h =
          let first = body_named s h in
          let rest = stmts_named ss first.1 in
          ((first.0, rest.0), rest.1)

  start_named : {before after : List Token} {value : ℕ} → IsStart source before value after → Spelled before → Spelled after
  start_named (IsStart.plain p) h = number p h
  start_named (IsStart.negative m p) h = number p (sign m h)

  global_named : {before after : List Token} {i : RawItemTree} → IsGlobal source before i after → Spelled before → IsItemNamed i × Spelled after
  global_named (IsGlobal.scalar n) h = name n h
  global_named (IsGlobal.with_start n a v) h = let first = name n h in (first.0, start_named v (sign a first.1))
  global_named (IsGlobal.array n s) h = let first = name n h in (first.0, size_named s first.1)

  more_globals_named : {before after : List Token} {is : List RawItemTree} → AreMoreGlobals source before is after → Spelled before → AreItemsNamed is × Spelled after
  more_globals_named (AreMoreGlobals.last_global c) h = (tt, sign c h)
  more_globals_named (AreMoreGlobals.another_global o g gs) h =
      let first = global_named g (sign o h) in
      let rest = more_globals_named gs first.1 in
      ((first.0, rest.0), rest.1)

  members_named : {before after : List Token} {ns : List NameTree} → AreMoreMembers source before ns after → Spelled before → AreNamed ns × Spelled after
  members_named (AreMoreMembers.last_member c) h = (tt, sign c h)
  members_named (AreMoreMembers.another_member o n ns) h =
      let first = name n (sign o h) in
      let rest = members_named ns first.1 in
      ((first.0, rest.0), rest.1)

  abbrev OptionNamed : Option NameTree → Type 0
  OptionNamed None = Unit {0}
  OptionNamed (Some n) = IsSourceName n.text

  name_option_named : {before after : List Token} {p : Option NameTree} → IsNameOption source before p after → Spelled before → OptionNamed p × Spelled after
  name_option_named IsNameOption.no_name h = (tt, h)
  name_option_named (IsNameOption.a_name n) h = name n h

  param_first : (p : Option NameTree) (ps : List (Option NameTree)) → OptionNamed p → AreParamsNamed ps → AreParamsNamed (p ∷ ps)
  param_first None ps h g = g
  param_first (Some n) ps h g = (h, g)

  more_parameters_named : {before after : List Token} {ps : List (Option NameTree)} → AreMoreParameters source before ps after → Spelled before → AreParamsNamed ps × Spelled after
  more_parameters_named (AreMoreParameters.last_parameter c) h = (tt, sign c h)
  more_parameters_named (AreMoreParameters.another_parameter {p = p} {ps = ps} o i n more) h =
      let first = name_option_named n (sign i (sign o h)) in
      let rest = more_parameters_named more first.1 in
      (param_first p ps first.0 rest.0, rest.1)

  parameters_named : {before after : List Token} {ps : List (Option NameTree)} → AreParameters source before ps after → Spelled before → AreParamsNamed ps × Spelled after
  parameters_named (AreParameters.no_parameters o c) h = (tt, sign c (sign o h))
  parameters_named (AreParameters.void_parameters o v c) h = (tt, sign c (sign v (sign o h)))
  parameters_named (AreParameters.some_parameters {p = p} {ps = ps} o i n more) h =
      let first = name_option_named n (sign i (sign o h)) in
      let rest = more_parameters_named more first.1 in
      (param_first p ps first.0 rest.0, rest.1)

  more_named_named : {before after : List Token} {ns : List NameTree} → AreMoreNamed source before ns after → Spelled before → AreNamed ns × Spelled after
  more_named_named (AreMoreNamed.last_named c) h = (tt, sign c h)
  more_named_named (AreMoreNamed.another_named o i n ns) h =
      let first = name n (sign i (sign o h)) in
      let rest = more_named_named ns first.1 in
      ((first.0, rest.0), rest.1)

  named_named : {before after : List Token} {ns : List NameTree} → grammar.AreNamed source before ns after → Spelled before → AreNamed ns × Spelled after
  named_named (grammar.AreNamed.no_named o c) h = (tt, sign c (sign o h))
  named_named (grammar.AreNamed.void_named o v c) h = (tt, sign c (sign v (sign o h)))
  named_named (grammar.AreNamed.some_named o i n ns) h =
      let first = name n (sign i (sign o h)) in
      let rest = more_named_named ns first.1 in
      ((first.0, rest.0), rest.1)

  result_named : {before after : List Token} {gives : Bool} → IsResult before gives after → Spelled before → Spelled after
  result_named (IsResult.int_result p) h = sign p h
  result_named (IsResult.void_result p) h = sign p h

  items_joined : (is more : List RawItemTree) → AreItemsNamed is → AreItemsNamed more → AreItemsNamed (is ++ more)
  items_joined [] more h g = g
  items_joined (i ∷ is) more h g = (h.0, items_joined is more h.1 g)

  module _ (nearest : Bool) where
    item_named : {before after : List Token} {is : List RawItemTree} → AreItem nearest source before is after → Spelled before → AreItemsNamed is × Spelled after
    item_named (AreItem.globals i g gs) h =
        let first = global_named g (sign i h) in
        let rest = more_globals_named gs first.1 in
        ((first.0, rest.0), rest.1)
    item_named (AreItem.table i o s n z r l k p a b m ms c) h =
        let first = name n (sign s (sign o (sign i h))) in
        let second = name m (sign b (sign a (sign p (sign k (sign l (sign r (size_named z first.1))))))) in
        let rest = members_named ms second.1 in
        (((first.0, (second.0, rest.0)), tt), sign c rest.1)
    item_named (AreItem.prototype r n ps c) h =
        let first = name n (result_named r h) in
        let second = parameters_named ps first.1 in
        (((first.0, second.0), tt), sign c second.1)
    item_named (AreItem.function r n ps b) h =
        let first = name n (result_named r h) in
        let second = named_named ps first.1 in
        let third = block_named nearest b second.1 in
        (((first.0, second.0, third.0), tt), third.1)

    items_named : {before : List Token} {items : List RawItemTree} → AreItems nearest source before items → Spelled before → AreItemsNamed items
    items_named AreItems.no_more_items h = tt
    items_named (AreItems.another_item {is = is} {more = more} i rest) h =
        let first = item_named i h in
        items_joined is more first.0 (items_named rest first.1)

-- each name of a source that is read is one that a source may have
pub read_named : (source : List ℕ) (tokens : List Token) (items : List RawItemTree) → AreTokensOf source tokens → IsProgram source tokens items → AreItemsNamed items
read_named source tokens items lexed parsed = items_named source true parsed (tokens_spelled source tokens lexed)
