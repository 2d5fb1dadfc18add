-- Each number among the tokens of a source is a word, and so each global of the program that it is starts with words.
use Rattle.decisions.proofs.Common.{ℕ, ◌≡◌, ◌+◌, ◌-◌, ◌%◌, ◌^◌, ◌<◌, sym, subst, arith, Bool, true, List, [], ◌∷◌, ◌++◌, Option, AllByRecursion, Token, TokenKind, IsOfKind, LeadsTo, AreTokensOf, GlobalFact, NameTree, RawExprTree, RawExprTrees, RawSimpleTree, RawStmtTree, RawStmtTrees, RawItemTree, RawGlobal, RawGlobalArray, ProgramTree, Sign, rest_of, Passes, PassesNumber, IsExpr, IsBinary, IsRepeated, IsUnary, IsPrimary, IsIndex, IsParenthesized, AreArguments, AreMoreArguments, IsSize, IsSimple, IsLocal, AreMoreLocals, AreLocals, IsUpToSemicolon, IsForInit, IsForStep, IsBody, IsBlock, AreStmts, IsStart, IsGlobal, AreMoreGlobals, AreMoreMembers, IsNameOption, AreMoreParameters, AreMoreNamed, AreParameters, AreNamed, IsResult, AreItem, AreItems, Sofar, at_start, definitions, item_after, items_after, item_hoisted, items_hoisted, ReadsNested}
use Rattle.c_lex.specs.declared.tokens.TokenKind.TheVariants as kinds
use Rattle.scope_rules.specs.Names.{Binding}

-- ---- tokens

-- a number is below 2 ^ 32
abbrev IsWordKind : TokenKind → Type 0
IsWordKind (kinds.Number value) = value < 2 ^ 32
IsWordKind _ = Unit {0}

-- and so is each among the tokens
abbrev HaveWords : List Token → Type 0
HaveWords [] = Unit {0}
HaveWords (token ∷ tokens) = IsWordKind token.kind × HaveWords tokens

kind_word : (lexeme : List ℕ) (kind : TokenKind) → IsOfKind lexeme kind → IsWordKind kind
kind_word lexeme (kinds.Number value) is = is.1
kind_word lexeme _ is = tt

tokens_words : (at : ℕ) (text : List ℕ) (tokens : List Token) (stop : ℕ) (rest : List ℕ) → LeadsTo at text tokens stop rest → HaveWords tokens
tokens_words at text [] stop rest leads = tt
tokens_words at text (token ∷ tokens) stop rest leads =
    (kind_word leads.1.lexeme token.kind leads.1.kind, tokens_words (token.at + token.length) leads.0 tokens stop rest leads.2)

source_words : (source : List ℕ) (tokens : List Token) → AreTokensOf source tokens → HaveWords tokens
source_words source tokens lexed = tokens_words 0 source tokens lexed.0 [] lexed.1

rest_words : (before : List Token) → HaveWords before → HaveWords (rest_of before)
rest_words [] h = tt
rest_words (token ∷ tokens) h = h.1

behind : (before : List Token) {after : List Token} → after ≡ rest_of before → HaveWords before → HaveWords after
behind before e h = subst (λ (l : List Token). HaveWords l) (sym e) (rest_words before h)

past : {sign : Sign} {before after : List Token} → Passes sign before after → HaveWords before → HaveWords after
past {before = x} p h = behind x p.behind h

past_number : {before after : List Token} {value : ℕ} → PassesNumber before value after → HaveWords before → HaveWords after
past_number {before = x} p h = behind x p.behind h

number_word : (before : List Token) {after : List Token} {value : ℕ} → PassesNumber before value after → HaveWords before → value < 2 ^ 32
number_word [] p h = let e = p.is_next in absurd cc
number_word (token ∷ tokens) {value = v} p h =
    let e = p.is_next in
    let kind : token.kind ≡ kinds.Number v = cc in
    subst (λ (k : TokenKind). IsWordKind k) kind h.0

-- ---- what stands behind a tree

module _ (source : List ℕ) where
  mutual
    expr_past : {before after : List Token} {e : RawExprTree} → IsExpr source before e after → HaveWords before → HaveWords after
    expr_past (IsExpr.alone b) h = binary_past b h
    expr_past (IsExpr.conditional b q x k y) h = expr_past y (past k (expr_past x (past q (binary_past b h))))

    binary_past : {level : ℕ} {before after : List Token} {e : RawExprTree} → IsBinary source level before e after → HaveWords before → HaveWords after
    binary_past (IsBinary.operand high u) h = unary_past u h
    binary_past (IsBinary.chain low e r) h = repeated_past r (binary_past e h)

    repeated_past : {level : ℕ} {left : RawExprTree} {before after : List Token} {e : RawExprTree} → IsRepeated source level left before e after → HaveWords before → HaveWords after
    repeated_past IsRepeated.no_more h = h
    repeated_past (IsRepeated.another {before = x} p b more) h = repeated_past more (binary_past b (behind x p.behind h))

    unary_past : {before after : List Token} {e : RawExprTree} → IsUnary source before e after → HaveWords before → HaveWords after
    unary_past {before = x} (IsUnary.prefixed p u) h = unary_past u (behind x p.behind h)
    unary_past (IsUnary.primary p) h = primary_past p h

    primary_past : {before after : List Token} {e : RawExprTree} → IsPrimary source before e after → HaveWords before → HaveWords after
    primary_past (IsPrimary.number p) h = past_number p h
    primary_past (IsPrimary.name n) h = past n.passes h
    primary_past (IsPrimary.element n i) h = index_past i (past n.passes h)
    primary_past (IsPrimary.call n es) h = arguments_past es (past n.passes h)
    primary_past (IsPrimary.table_call n i e) h = parenthesized_past e (index_past i (past n.passes h))
    primary_past (IsPrimary.parenthesized e) h = parenthesized_past e h

    index_past : {before after : List Token} {e : RawExprTree} → IsIndex source before e after → HaveWords before → HaveWords after
    index_past (IsIndex.index o e c) h = past c (expr_past e (past o h))

    parenthesized_past : {before after : List Token} {e : RawExprTree} → IsParenthesized source before e after → HaveWords before → HaveWords after
    parenthesized_past (IsParenthesized.parentheses o e c) h = past c (expr_past e (past o h))

    arguments_past : {before after : List Token} {es : RawExprTrees} → AreArguments source before es after → HaveWords before → HaveWords after
    arguments_past (AreArguments.no_arguments o c) h = past c (past o h)
    arguments_past (AreArguments.arguments o e es) h = more_arguments_past es (expr_past e (past o h))

    more_arguments_past : {before after : List Token} {es : RawExprTrees} → AreMoreArguments source before es after → HaveWords before → HaveWords after
    more_arguments_past (AreMoreArguments.last_argument c) h = past c h
    more_arguments_past (AreMoreArguments.another_argument o e es) h = more_arguments_past es (expr_past e (past o h))

  size_past : {before after : List Token} {words : ℕ} → IsSize before words after → HaveWords before → HaveWords after
  size_past s h = past s.closed (past_number s.number (past s.opened h))

  simple_past : {before after : List Token} {s : RawSimpleTree} → IsSimple source before s after → HaveWords before → HaveWords after
  simple_past (IsSimple.set n a e) h = expr_past e (past a (past n.passes h))
  simple_past (IsSimple.set_element n i a e) h = expr_past e (past a (index_past i (past n.passes h)))
  simple_past (IsSimple.calling n es) h = arguments_past es (past n.passes h)
  simple_past (IsSimple.table_calling n i e) h = parenthesized_past e (index_past i (past n.passes h))

  local_past : {before after : List Token} {s : RawSimpleTree} → IsLocal source before s after → HaveWords before → HaveWords after
  local_past (IsLocal.scalar n) h = past n.passes h
  local_past (IsLocal.with_value n a e) h = expr_past e (past a (past n.passes h))
  local_past (IsLocal.array n s) h = size_past s (past n.passes h)

  more_locals_past : {before after : List Token} {ss : List RawSimpleTree} → AreMoreLocals source before ss after → HaveWords before → HaveWords after
  more_locals_past (AreMoreLocals.last_local c) h = past c h
  more_locals_past (AreMoreLocals.another_local o l ls) h = more_locals_past ls (local_past l (past o h))

  locals_past : {before after : List Token} {ss : List RawSimpleTree} → AreLocals source before ss after → HaveWords before → HaveWords after
  locals_past (AreLocals.locals i l ls) h = more_locals_past ls (local_past l (past i h))

  up_to_semicolon_past : {before after : List Token} {e : Option RawExprTree} → IsUpToSemicolon source before e after → HaveWords before → HaveWords after
  up_to_semicolon_past (IsUpToSemicolon.nothing c) h = past c h
  up_to_semicolon_past (IsUpToSemicolon.something e c) h = past c (expr_past e h)

  for_init_past : {before after : List Token} {ss : List RawSimpleTree} → IsForInit source before ss after → HaveWords before → HaveWords after
  for_init_past (IsForInit.no_init c) h = past c h
  for_init_past (IsForInit.locals_init ls) h = locals_past ls h
  for_init_past (IsForInit.simple_init s c) h = past c (simple_past s h)

  for_step_past : {before after : List Token} {s : Option RawSimpleTree} → IsForStep source before s after → HaveWords before → HaveWords after
  for_step_past (IsForStep.no_step c) h = past c h
  for_step_past (IsForStep.step s c) h = past c (simple_past s h)

  module _ (nearest : Bool) where
    mutual
      body_past : {before after : List Token} {s : RawStmtTree} → IsBody nearest source before s after → HaveWords before → HaveWords after
      body_past (IsBody.simple s c) h = past c (simple_past s h)
      body_past (IsBody.empty c) h = past c h
      body_past (IsBody.block b) h = block_past b h
      body_past (IsBody.if_alone i e s may) h = body_past s (parenthesized_past e (past i h))
      body_past (IsBody.if_else i e s l r) h = body_past r (past l (body_past s (parenthesized_past e (past i h))))
      body_past (IsBody.while_loop w e s) h = body_past s (parenthesized_past e (past w h))
      body_past (IsBody.for_loop f o init e last s) h = body_past s (for_step_past last (up_to_semicolon_past e (for_init_past init (past o (past f h)))))
      body_past (IsBody.break_loop b c) h = past c (past b h)
      body_past (IsBody.continue_loop b c) h = past c (past b h)
      body_past (IsBody.return_value r v) h = up_to_semicolon_past v (past r h)

      block_past : {before after : List Token} {ss : RawStmtTrees} → IsBlock nearest source before ss after → HaveWords before → HaveWords after
      block_past (IsBlock.braces o ss) h = stmts_past ss (past o h)

      stmts_past : {before after : List Token} {ss : RawStmtTrees} → AreStmts nearest source before ss after → HaveWords before → HaveWords after
      stmts_past (AreStmts.last_stmt c) h = past c h
      stmts_past (AreStmts.declarations l more) h = stmts_past more (locals_past l h)
      stmts_past (AreStmts.another_stmt s ss) h = stmts_past ss (body_past s h)

  start_past : {before after : List Token} {value : ℕ} → IsStart source before value after → HaveWords before → HaveWords after
  start_past (IsStart.plain p) h = past_number p h
  start_past (IsStart.negative m p) h = past_number p (past m h)

  global_past : {before after : List Token} {i : RawItemTree} → IsGlobal source before i after → HaveWords before → HaveWords after
  global_past (IsGlobal.scalar n) h = past n.passes h
  global_past (IsGlobal.with_start n a v) h = start_past v (past a (past n.passes h))
  global_past (IsGlobal.array n s) h = size_past s (past n.passes h)

  more_globals_past : {before after : List Token} {is : List RawItemTree} → AreMoreGlobals source before is after → HaveWords before → HaveWords after
  more_globals_past (AreMoreGlobals.last_global c) h = past c h
  more_globals_past (AreMoreGlobals.another_global o g gs) h = more_globals_past gs (global_past g (past o h))

  more_members_past : {before after : List Token} {ns : List NameTree} → AreMoreMembers source before ns after → HaveWords before → HaveWords after
  more_members_past (AreMoreMembers.last_member c) h = past c h
  more_members_past (AreMoreMembers.another_member o n ns) h = more_members_past ns (past n.passes (past o h))

  name_option_past : {before after : List Token} {p : Option NameTree} → IsNameOption source before p after → HaveWords before → HaveWords after
  name_option_past IsNameOption.no_name h = h
  name_option_past (IsNameOption.a_name n) h = past n.passes h

  more_parameters_past : {before after : List Token} {ps : List (Option NameTree)} → AreMoreParameters source before ps after → HaveWords before → HaveWords after
  more_parameters_past (AreMoreParameters.last_parameter c) h = past c h
  more_parameters_past (AreMoreParameters.another_parameter o i p ps) h = more_parameters_past ps (name_option_past p (past i (past o h)))

  parameters_past : {before after : List Token} {ps : List (Option NameTree)} → AreParameters source before ps after → HaveWords before → HaveWords after
  parameters_past (AreParameters.no_parameters o c) h = past c (past o h)
  parameters_past (AreParameters.void_parameters o v c) h = past c (past v (past o h))
  parameters_past (AreParameters.some_parameters o i p ps) h = more_parameters_past ps (name_option_past p (past i (past o h)))

  more_named_past : {before after : List Token} {ns : List NameTree} → AreMoreNamed source before ns after → HaveWords before → HaveWords after
  more_named_past (AreMoreNamed.last_named c) h = past c h
  more_named_past (AreMoreNamed.another_named o i n ns) h = more_named_past ns (past n.passes (past i (past o h)))

  named_past : {before after : List Token} {ns : List NameTree} → AreNamed source before ns after → HaveWords before → HaveWords after
  named_past (AreNamed.no_named o c) h = past c (past o h)
  named_past (AreNamed.void_named o v c) h = past c (past v (past o h))
  named_past (AreNamed.some_named o i n ns) h = more_named_past ns (past n.passes (past i (past o h)))

  result_past : {before after : List Token} {gives : Bool} → IsResult before gives after → HaveWords before → HaveWords after
  result_past (IsResult.int_result p) h = past p h
  result_past (IsResult.void_result p) h = past p h

  module _ (nearest : Bool) where
    item_past : {before after : List Token} {is : List RawItemTree} → AreItem nearest source before is after → HaveWords before → HaveWords after
    item_past (AreItem.globals i g gs) h = more_globals_past gs (global_past g (past i h))
    item_past (AreItem.table i o s n z r l k p a b m ms c) h =
        past c (more_members_past ms (past m.passes (past b (past a (past p (past k (past l (past r (size_past z (past n.passes (past s (past o (past i h)))))))))))))
    item_past (AreItem.prototype r n ps c) h = past c (parameters_past ps (past n.passes (result_past r h)))
    item_past (AreItem.function r n ps b) h = block_past nearest b (named_past ps (past n.passes (result_past r h)))

-- ---- items

-- a global of one word starts with a word
abbrev StartsWithWord : RawItemTree → Type 0
StartsWithWord (RawGlobal n start) = start < 2 ^ 32
StartsWithWord _ = Unit {0}

abbrev StartWithWords : List RawItemTree → Type 0
StartWithWords is = AllByRecursion StartsWithWord is

both_start : (is more : List RawItemTree) → StartWithWords is → StartWithWords more → StartWithWords (is ++ more)
both_start [] more p q = q
both_start (i ∷ is) more p q = (p.0, both_start is more p.1 q)

negated_word : (value : ℕ) → (2 ^ 32 - value) % 2 ^ 32 < 2 ^ 32
negated_word value = omega arith

module _ (source : List ℕ) where
  start_word : {before after : List Token} {value : ℕ} → IsStart source before value after → HaveWords before → value < 2 ^ 32
  start_word {before = x} (IsStart.plain p) h = number_word x p h
  start_word (IsStart.negative {value = v} m p) h = negated_word v

  global_starts : {before after : List Token} {i : RawItemTree} → IsGlobal source before i after → HaveWords before → StartsWithWord i
  global_starts (IsGlobal.scalar n) h = omega arith
  global_starts (IsGlobal.with_start n a v) h = start_word v (past a (past n.passes h))
  global_starts (IsGlobal.array n s) h = tt

  more_globals_start : {before after : List Token} {is : List RawItemTree} → AreMoreGlobals source before is after → HaveWords before → StartWithWords is
  more_globals_start (AreMoreGlobals.last_global c) h = tt
  more_globals_start (AreMoreGlobals.another_global o g gs) h = (global_starts g (past o h), more_globals_start gs (global_past source g (past o h)))

  module _ (nearest : Bool) where
    item_starts : {before after : List Token} {is : List RawItemTree} → AreItem nearest source before is after → HaveWords before → StartWithWords is
    item_starts (AreItem.globals i g gs) h = (global_starts g (past i h), more_globals_start gs (global_past source g (past i h)))
    item_starts _ h = (tt, tt)

    items_start : {before : List Token} {items : List RawItemTree} → AreItems nearest source before items → HaveWords before → StartWithWords items
    items_start AreItems.no_more_items h = tt
    items_start (AreItems.another_item {is = is} {more = more} i rest) h = both_start is more (item_starts i h) (items_start rest (item_past source nearest i h))

-- ---- calls are moved out of expressions

item_moved : (i : RawItemTree) → StartsWithWord i → StartsWithWord (item_hoisted i)
item_moved (RawGlobal n start) h = h
item_moved _ h = tt

items_moved : (is : List RawItemTree) → StartWithWords is → StartWithWords (items_hoisted is)
items_moved [] h = tt
items_moved (i ∷ is) h = (item_moved i h.0, items_moved is h.1)

-- ---- the program

abbrev pub HasWord : GlobalFact → Type 0
HasWord g = g.start < 2 ^ 32

one_more : (gs : List GlobalFact) (g : GlobalFact) → AllByRecursion HasWord gs → HasWord g → AllByRecursion HasWord (gs ++ g ∷ [])
one_more [] g h is = (is, tt)
one_more (x ∷ gs) g h is = (h.0, one_more gs g h.1 is)

item_made : (defs : List Binding) (w : Sofar) (i : RawItemTree) → AllByRecursion HasWord w.globals → StartsWithWord i → AllByRecursion HasWord (item_after defs w i).globals
item_made defs w (RawGlobal n start) h is = one_more w.globals (record { words = 1; start = start }) h is
item_made defs w (RawGlobalArray n size) h is = one_more w.globals (record { words = size; start = 0 }) h (omega arith)
item_made defs w _ h is = h

items_made : (defs : List Binding) (w : Sofar) (is : List RawItemTree) → AllByRecursion HasWord w.globals → StartWithWords is → AllByRecursion HasWord (items_after defs w is).globals
items_made defs w [] h are = h
items_made defs w (i ∷ is) h are = items_made defs (item_after defs w i) is (item_made defs w i h are.0) are.1

pub starts_with_words : (source : List ℕ) (program : ProgramTree) → ReadsNested source program → AllByRecursion HasWord program.globals
starts_with_words source program reads =
    let tree = reads.tree in
    let items = items_start source true reads.parsed.tree (source_words source reads.tokens reads.lexed) in
    let made = items_made (definitions (items_hoisted tree)) at_start (items_hoisted tree) tt (items_moved tree items) in
    subst (λ (p : ProgramTree). AllByRecursion HasWord p.globals) (sym reads.resolved.tree) made
