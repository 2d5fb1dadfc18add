-- What has a tree by the grammar, the rests of the grammar take whole.
use Rattle.grammar_laws.proofs.Common.{ℕ, zero, suc, ◌≡◌, ◌≢◌, ◌+◌, ◌<◌, ◌≤◌, refl, sym, ap, subst, ◌∙◌, Bool, true, List, [], ◌∷◌, ◌++◌, Option, Some, None, lit<, arith, Token, Infix, UnaryOperator, NameTree, RawExprTree, RawExprTrees, RawSimpleTree, RawStmtTree, RawStmtTrees, RawItemTree, Sign, Level, Tightest, Looser, IsOperator, IsPrefix, sign_of_token, unary_operator_of, infix_operator_of, level_of_infix, Symbol, Nearest, Takes, TakesAll, CanBeNothing, Alternative, signs_of, AreWhole, next_sign, Passes, PassesName, PassesNumber, number_passes, PassesPrefix, PassesInfix, IsExpr, IsBinary, IsRepeated, IsUnary, IsPrimary, IsIndex, IsParenthesized, AreArguments, AreMoreArguments, IsSize, IsSimple, IsLocal, AreMoreLocals, AreLocals, IsUpToSemicolon, IsForInit, IsForStep, IsBody, IsBlock, AreStmts, IsStart, IsGlobal, AreMoreGlobals, AreMoreMembers, IsNameOption, AreMoreParameters, AreMoreNamed, AreParameters, AreNamed, IsResult, AreItem, AreItems}
use Rattle.c_lex.specs.declared.tokens.TokenKind.{TokenKind}
use Rattle.c_lex.specs.declared.tokens.TokenKind.TheVariants as kinds
use Rattle.c_lex.specs.declared.marks.Mark.TheVariants as marks
use Rattle.c_grammar.specs.declared.signs.Sign.TheVariants as signs
use Rattle.c_grammar.specs.Rests as symbols

-- the rest takes the signs one after another, and leaves one that can be nothing
pub record Accepts (rest : List Symbol) (signs : List Sign) : Type 0 where
  pub left : List Symbol
  pub takes : TakesAll Nearest rest signs left
  pub nothing : CanBeNothing left

by_all : {symbol : Symbol} {parts left : List Symbol} (rest whole : List Symbol) {ss : List Sign} → Alternative symbol parts → whole ≡ parts ++ rest → TakesAll Nearest whole ss left → CanBeNothing left → Accepts (symbol ∷ rest) ss
by_all rest whole a e TakesAll.none n = record { left = _; takes = TakesAll.none; nothing = CanBeNothing.by a (let P : List Symbol → Type 0 = CanBeNothing in subst P e n) }
by_all rest whole a e (TakesAll.one {between = b} {sign = s} t more) n = record { left = _; takes = TakesAll.one (Takes.by a (let P : List Symbol → Type 0 = λ l. Takes Nearest l s b in subst P e t)) more; nothing = n }

accepts_by : {symbol : Symbol} {parts rest : List Symbol} {ss : List Sign} → Alternative symbol parts → Accepts (parts ++ rest) ss → Accepts (symbol ∷ rest) ss
accepts_by {rest = r} a h = by_all r _ a refl h.takes h.nothing

passes_signs : (s : Sign) (before after : List Token) → s ≢ signs.Finish → Passes s before after → signs_of before ≡ s ∷ signs_of after
passes_signs s [] after some p = absurd (some (sym p.is_next))
passes_signs s (token ∷ tokens) after some p = let e = p.is_next in let f : after ≡ tokens = p.behind in ap (λ x. x ∷ signs_of tokens) e ∙ ap (λ l. s ∷ signs_of l) (sym f)

taken_first : {rest : List Symbol} {s : Sign} {ss : List Sign} (first : Symbol) → Takes Nearest (first ∷ rest) s rest → Accepts rest ss → Accepts (first ∷ rest) (s ∷ ss)
taken_first first t h = record { left = h.left; takes = TakesAll.one t h.takes; nothing = h.nothing }

accepts_sign : (s : Sign) {before after : List Token} {rest : List Symbol} (first : Symbol) → Takes Nearest (first ∷ rest) s rest → s ≢ signs.Finish → Passes s before after → Accepts rest (signs_of after) → Accepts (first ∷ rest) (signs_of before)
accepts_sign s {before = b} {after = a} {rest = r} first t some p h =
    let P : List Sign → Type 0 = λ ss. Accepts (first ∷ r) ss in
    subst P (sym (passes_signs s b a some p)) (taken_first first t h)

token : (s : Sign) {before after : List Token} {rest : List Symbol} → s ≢ signs.Finish → Passes s before after → Accepts rest (signs_of after) → Accepts (symbols.The s ∷ rest) (signs_of before)
token s some p h = accepts_sign s (symbols.The s) Takes.token some p h

a_number : {before after : List Token} {rest : List Symbol} {value : ℕ} → PassesNumber before value after → Accepts rest (signs_of after) → Accepts (symbols.The signs.Number ∷ rest) (signs_of before)
a_number {before = b} p h = token signs.Number (λ e. cc) (number_passes b p) h

a_name : {source : List ℕ} {before after : List Token} {rest : List Symbol} {n : NameTree} → PassesName source before n after → Accepts rest (signs_of after) → Accepts (symbols.The signs.Name ∷ rest) (signs_of before)
a_name p h = token signs.Name (λ e. cc) p.passes h

-- the level of this number
abbrev level_symbol : ℕ → Level
level_symbol zero = Looser (Looser (Looser (Looser (Looser (Looser (Looser (Looser (Looser Tightest))))))))
level_symbol (suc zero) = Looser (Looser (Looser (Looser (Looser (Looser (Looser (Looser Tightest)))))))
level_symbol (suc (suc zero)) = Looser (Looser (Looser (Looser (Looser (Looser (Looser Tightest))))))
level_symbol (suc (suc (suc zero))) = Looser (Looser (Looser (Looser (Looser (Looser Tightest)))))
level_symbol (suc (suc (suc (suc zero)))) = Looser (Looser (Looser (Looser (Looser Tightest))))
level_symbol (suc (suc (suc (suc (suc zero))))) = Looser (Looser (Looser (Looser Tightest)))
level_symbol (suc (suc (suc (suc (suc (suc zero)))))) = Looser (Looser (Looser Tightest))
level_symbol (suc (suc (suc (suc (suc (suc (suc zero))))))) = Looser (Looser Tightest)
level_symbol (suc (suc (suc (suc (suc (suc (suc (suc zero)))))))) = Looser Tightest
level_symbol _ = Tightest

abbrev binary_symbol : ℕ → Symbol
binary_symbol zero = symbols.Binary (Looser (Looser (Looser (Looser (Looser (Looser (Looser (Looser (Looser Tightest)))))))))
binary_symbol (suc zero) = symbols.Binary (Looser (Looser (Looser (Looser (Looser (Looser (Looser (Looser Tightest))))))))
binary_symbol (suc (suc zero)) = symbols.Binary (Looser (Looser (Looser (Looser (Looser (Looser (Looser Tightest)))))))
binary_symbol (suc (suc (suc zero))) = symbols.Binary (Looser (Looser (Looser (Looser (Looser (Looser Tightest))))))
binary_symbol (suc (suc (suc (suc zero)))) = symbols.Binary (Looser (Looser (Looser (Looser (Looser Tightest)))))
binary_symbol (suc (suc (suc (suc (suc zero))))) = symbols.Binary (Looser (Looser (Looser (Looser Tightest))))
binary_symbol (suc (suc (suc (suc (suc (suc zero)))))) = symbols.Binary (Looser (Looser (Looser Tightest)))
binary_symbol (suc (suc (suc (suc (suc (suc (suc zero))))))) = symbols.Binary (Looser (Looser Tightest))
binary_symbol (suc (suc (suc (suc (suc (suc (suc (suc zero)))))))) = symbols.Binary (Looser Tightest)
binary_symbol (suc (suc (suc (suc (suc (suc (suc (suc (suc zero))))))))) = symbols.Binary Tightest
binary_symbol _ = symbols.Unary

abbrev repeated_symbol : ℕ → Symbol
repeated_symbol level = symbols.Repeated (level_symbol level)

ten_cases : (P : ℕ → Type 0) → P 0 → P 1 → P 2 → P 3 → P 4 → P 5 → P 6 → P 7 → P 8 → P 9 → (level : ℕ) → level < 10 → P level
ten_cases P p0 p1 p2 p3 p4 p5 p6 p7 p8 p9 zero h = p0
ten_cases P p0 p1 p2 p3 p4 p5 p6 p7 p8 p9 (suc zero) h = p1
ten_cases P p0 p1 p2 p3 p4 p5 p6 p7 p8 p9 (suc (suc zero)) h = p2
ten_cases P p0 p1 p2 p3 p4 p5 p6 p7 p8 p9 (suc (suc (suc zero))) h = p3
ten_cases P p0 p1 p2 p3 p4 p5 p6 p7 p8 p9 (suc (suc (suc (suc zero)))) h = p4
ten_cases P p0 p1 p2 p3 p4 p5 p6 p7 p8 p9 (suc (suc (suc (suc (suc zero))))) h = p5
ten_cases P p0 p1 p2 p3 p4 p5 p6 p7 p8 p9 (suc (suc (suc (suc (suc (suc zero)))))) h = p6
ten_cases P p0 p1 p2 p3 p4 p5 p6 p7 p8 p9 (suc (suc (suc (suc (suc (suc (suc zero))))))) h = p7
ten_cases P p0 p1 p2 p3 p4 p5 p6 p7 p8 p9 (suc (suc (suc (suc (suc (suc (suc (suc zero)))))))) h = p8
ten_cases P p0 p1 p2 p3 p4 p5 p6 p7 p8 p9 (suc (suc (suc (suc (suc (suc (suc (suc (suc zero))))))))) h = p9
ten_cases P p0 p1 p2 p3 p4 p5 p6 p7 p8 p9 (suc (suc (suc (suc (suc (suc (suc (suc (suc (suc n)))))))))) h = absurd (omega arith)

abbrev Chains : ℕ → Type 0
Chains level = (rest : List Symbol) (ss : List Sign) → Accepts (binary_symbol (level + 1) ∷ repeated_symbol level ∷ rest) ss → Accepts (binary_symbol level ∷ rest) ss

chains : (level : ℕ) → level < 10 → Chains level
chains = ten_cases Chains (λ rest ss h. accepts_by Alternative.looser h) (λ rest ss h. accepts_by Alternative.looser h) (λ rest ss h. accepts_by Alternative.looser h) (λ rest ss h. accepts_by Alternative.looser h) (λ rest ss h. accepts_by Alternative.looser h) (λ rest ss h. accepts_by Alternative.looser h) (λ rest ss h. accepts_by Alternative.looser h) (λ rest ss h. accepts_by Alternative.looser h) (λ rest ss h. accepts_by Alternative.looser h) (λ rest ss h. accepts_by Alternative.tightest h)

abbrev Repeats : ℕ → Type 0
Repeats level = (rest : List Symbol) (ss : List Sign) → Accepts (symbols.AnOperator (level_symbol level) ∷ binary_symbol (level + 1) ∷ repeated_symbol level ∷ rest) ss → Accepts (repeated_symbol level ∷ rest) ss

repeats : (level : ℕ) → level < 10 → Repeats level
repeats = ten_cases Repeats (λ rest ss h. accepts_by Alternative.another_looser h) (λ rest ss h. accepts_by Alternative.another_looser h) (λ rest ss h. accepts_by Alternative.another_looser h) (λ rest ss h. accepts_by Alternative.another_looser h) (λ rest ss h. accepts_by Alternative.another_looser h) (λ rest ss h. accepts_by Alternative.another_looser h) (λ rest ss h. accepts_by Alternative.another_looser h) (λ rest ss h. accepts_by Alternative.another_looser h) (λ rest ss h. accepts_by Alternative.another_looser h) (λ rest ss h. accepts_by Alternative.another_tightest h)

abbrev Ends : ℕ → Type 0
Ends level = (rest : List Symbol) (ss : List Sign) → Accepts rest ss → Accepts (repeated_symbol level ∷ rest) ss

ends : (level : ℕ) → level < 10 → Ends level
ends = ten_cases Ends (λ rest ss h. accepts_by Alternative.no_more_looser h) (λ rest ss h. accepts_by Alternative.no_more_looser h) (λ rest ss h. accepts_by Alternative.no_more_looser h) (λ rest ss h. accepts_by Alternative.no_more_looser h) (λ rest ss h. accepts_by Alternative.no_more_looser h) (λ rest ss h. accepts_by Alternative.no_more_looser h) (λ rest ss h. accepts_by Alternative.no_more_looser h) (λ rest ss h. accepts_by Alternative.no_more_looser h) (λ rest ss h. accepts_by Alternative.no_more_looser h) (λ rest ss h. accepts_by Alternative.no_more_tightest h)

-- what a token that is an operator is to the grammar
abbrev InfixFact : TokenKind → Option Infix → Type 0
InfixFact kind None = Unit {0}
InfixFact kind (Some operator) = IsOperator (level_symbol (level_of_infix operator)) (sign_of_token kind) × (level_of_infix operator < 10) × (sign_of_token kind ≢ signs.Finish)

infix_fact : (kind : TokenKind) → InfixFact kind (infix_operator_of (Some kind))
infix_fact (kinds.Mark marks.Star) = (IsOperator.star, lit< tt, λ e. cc)
infix_fact (kinds.Mark marks.Slash) = (IsOperator.multiplicative, lit< tt, λ e. cc)
infix_fact (kinds.Mark marks.Percent) = (IsOperator.multiplicative, lit< tt, λ e. cc)
infix_fact (kinds.Mark marks.Plus) = (IsOperator.plus, lit< tt, λ e. cc)
infix_fact (kinds.Mark marks.Minus) = (IsOperator.minus, lit< tt, λ e. cc)
infix_fact (kinds.Mark marks.ShiftLeft) = (IsOperator.shift, lit< tt, λ e. cc)
infix_fact (kinds.Mark marks.ShiftRight) = (IsOperator.shift, lit< tt, λ e. cc)
infix_fact (kinds.Mark marks.Less) = (IsOperator.relational, lit< tt, λ e. cc)
infix_fact (kinds.Mark marks.LessEqual) = (IsOperator.relational, lit< tt, λ e. cc)
infix_fact (kinds.Mark marks.Greater) = (IsOperator.relational, lit< tt, λ e. cc)
infix_fact (kinds.Mark marks.GreaterEqual) = (IsOperator.relational, lit< tt, λ e. cc)
infix_fact (kinds.Mark marks.Equal) = (IsOperator.equality, lit< tt, λ e. cc)
infix_fact (kinds.Mark marks.NotEqual) = (IsOperator.equality, lit< tt, λ e. cc)
infix_fact (kinds.Mark marks.Ampersand) = (IsOperator.bit_and, lit< tt, λ e. cc)
infix_fact (kinds.Mark marks.Caret) = (IsOperator.bit_xor, lit< tt, λ e. cc)
infix_fact (kinds.Mark marks.Bar) = (IsOperator.bit_or, lit< tt, λ e. cc)
infix_fact (kinds.Mark marks.AndAnd) = (IsOperator.logical_and, lit< tt, λ e. cc)
infix_fact (kinds.Mark marks.OrOr) = (IsOperator.logical_or, lit< tt, λ e. cc)
infix_fact _ = tt

abbrev PrefixFact : TokenKind → Option UnaryOperator → Type 0
PrefixFact kind None = Unit {0}
PrefixFact kind (Some operator) = IsPrefix (sign_of_token kind) × (sign_of_token kind ≢ signs.Finish)

prefix_fact : (kind : TokenKind) → PrefixFact kind (unary_operator_of (Some kind))
prefix_fact (kinds.Mark marks.Minus) = (IsPrefix.minus, λ e. cc)
prefix_fact (kinds.Mark marks.Plus) = (IsPrefix.plus, λ e. cc)
prefix_fact (kinds.Mark marks.Exclamation) = (IsPrefix.prefix_sign, λ e. cc)
prefix_fact (kinds.Mark marks.Tilde) = (IsPrefix.prefix_sign, λ e. cc)
prefix_fact _ = tt

pub record InfixSign (level : ℕ) (before after : List Token) : Type 0 where
  pub sign : Sign
  pub operator : IsOperator (level_symbol level) sign
  pub low : level < 10
  pub some : sign ≢ signs.Finish
  pub passes : Passes sign before after

pub infix_sign : (level : ℕ) (before after : List Token) (operator : Infix) → PassesInfix level before operator after → InfixSign level before after
infix_sign level [] after operator p = let e = p.is_next in cc
infix_sign level (t ∷ tokens) after operator p =
    let P : Option Infix → Type 0 = InfixFact t.kind in
    let f = subst P p.is_next (infix_fact t.kind) in
    let Q : ℕ → Type 0 = λ l. IsOperator (level_symbol l) (sign_of_token t.kind) × (l < 10) × (sign_of_token t.kind ≢ signs.Finish) in
    let g = subst Q p.of_level f in
    record { sign = sign_of_token t.kind; operator = g.0; low = g.1; some = g.2; passes = record { is_next = refl; behind = p.behind } }

pub record PrefixSign (before after : List Token) : Type 0 where
  pub sign : Sign
  pub operator : IsPrefix sign
  pub some : sign ≢ signs.Finish
  pub passes : Passes sign before after

pub prefix_sign : (before after : List Token) (operator : UnaryOperator) → PassesPrefix before operator after → PrefixSign before after
prefix_sign [] after operator p = let e = p.is_next in cc
prefix_sign (t ∷ tokens) after operator p =
    let P : Option UnaryOperator → Type 0 = PrefixFact t.kind in
    let f = subst P p.is_next (prefix_fact t.kind) in
    record { sign = sign_of_token t.kind; operator = f.0; some = f.1; passes = record { is_next = refl; behind = p.behind } }

parts_in_place : (s : Sign) {before after : List Token} {rest : List Symbol} → IsPrefix s → s ≢ signs.Finish → Passes s before after → Accepts rest (signs_of after) → Accepts (symbols.APrefix ∷ rest) (signs_of before)
parts_in_place s o some p h = accepts_sign s symbols.APrefix (Takes.prefix o) some p h

an_operator : (level : Level) (s : Sign) {before after : List Token} {rest : List Symbol} → IsOperator level s → s ≢ signs.Finish → Passes s before after → Accepts rest (signs_of after) → Accepts (symbols.AnOperator level ∷ rest) (signs_of before)
an_operator level s o some p h = accepts_sign s (symbols.AnOperator level) (Takes.operator o) some p h

not_low : (level : ℕ) {rest : List Symbol} {ss : List Sign} → 10 ≤ level → Accepts (symbols.Unary ∷ rest) ss → Accepts (binary_symbol level ∷ rest) ss
not_low (suc (suc (suc (suc (suc (suc (suc (suc (suc (suc n)))))))))) h a = a
not_low _ h a = absurd (omega arith)

mutual
  a_expr : {source : List ℕ} {before after : List Token} {e : RawExprTree} {rest : List Symbol} → IsExpr source before e after → Accepts rest (signs_of after) → Accepts (symbols.Expr ∷ rest) (signs_of before)
  a_expr (IsExpr.alone b) h = accepts_by Alternative.expr (a_binary b (accepts_by Alternative.no_conditional h))
  a_expr (IsExpr.conditional b q x k y) h =
      accepts_by Alternative.expr (a_binary b (accepts_by Alternative.conditional (token signs.Question (λ e. cc) q (a_expr x (token signs.Colon (λ e. cc) k (a_expr y (accepts_by Alternative.end h)))))))

  a_binary : {source : List ℕ} {level : ℕ} {before after : List Token} {e : RawExprTree} {rest : List Symbol} → IsBinary source level before e after → Accepts rest (signs_of after) → Accepts (binary_symbol level ∷ rest) (signs_of before)
  a_binary {level = l} (IsBinary.operand high u) h = not_low l high (a_unary u h)
  a_binary {level = l} (IsBinary.chain low b r) h = chains l low _ _ (a_binary b (a_repeated low r h))

  a_repeated : {source : List ℕ} {level : ℕ} {left : RawExprTree} {before after : List Token} {e : RawExprTree} {rest : List Symbol} → level < 10 → IsRepeated source level left before e after → Accepts rest (signs_of after)
      → Accepts (repeated_symbol level ∷ rest) (signs_of before)
  a_repeated {level = l} low IsRepeated.no_more h = ends l low _ _ h
  a_repeated {level = l} low (IsRepeated.another {operator = op} p b r) h =
      let f = infix_sign l _ _ op p in
      repeats l low _ _ (an_operator (level_symbol l) f.sign f.operator f.some f.passes (a_binary b (a_repeated low r h)))

  a_unary : {source : List ℕ} {before after : List Token} {e : RawExprTree} {rest : List Symbol} → IsUnary source before e after → Accepts rest (signs_of after) → Accepts (symbols.Unary ∷ rest) (signs_of before)
  a_unary (IsUnary.prefixed {operator = op} p u) h =
      let f = prefix_sign _ _ op p in
      accepts_by Alternative.prefixed (parts_in_place f.sign f.operator f.some f.passes (a_unary u (accepts_by Alternative.end h)))
  a_unary (IsUnary.primary p) h = accepts_by Alternative.primary (a_primary p h)

  a_primary : {source : List ℕ} {before after : List Token} {e : RawExprTree} {rest : List Symbol} → IsPrimary source before e after → Accepts rest (signs_of after) → Accepts (symbols.Primary ∷ rest) (signs_of before)
  a_primary (IsPrimary.number p) h = accepts_by Alternative.number_primary (a_number p h)
  a_primary (IsPrimary.name p) h = accepts_by Alternative.name_primary (a_name p h)
  a_primary (IsPrimary.element p i) h = accepts_by Alternative.element_primary (a_name p (an_index i h))
  a_primary (IsPrimary.call p es) h = accepts_by Alternative.call_primary (accepts_by Alternative.call (a_name p (some_arguments es h)))
  a_primary (IsPrimary.table_call p i e) h = accepts_by Alternative.call_primary (accepts_by Alternative.table_call (a_name p (an_index i (in_parentheses e h))))
  a_primary (IsPrimary.parenthesized e) h = accepts_by Alternative.parenthesized_primary (in_parentheses e h)

  an_index : {source : List ℕ} {before after : List Token} {e : RawExprTree} {rest : List Symbol} → IsIndex source before e after → Accepts rest (signs_of after) → Accepts (symbols.Index ∷ rest) (signs_of before)
  an_index (IsIndex.index o e c) h = accepts_by Alternative.index (token signs.LeftBracket (λ e. cc) o (a_expr e (token signs.RightBracket (λ e. cc) c h)))

  in_parentheses : {source : List ℕ} {before after : List Token} {e : RawExprTree} {rest : List Symbol} → IsParenthesized source before e after → Accepts rest (signs_of after) → Accepts (symbols.Parenthesized ∷ rest) (signs_of before)
  in_parentheses (IsParenthesized.parentheses o e c) h = accepts_by Alternative.parenthesized (token signs.LeftParenthesis (λ e. cc) o (a_expr e (token signs.RightParenthesis (λ e. cc) c h)))

  some_arguments : {source : List ℕ} {before after : List Token} {es : RawExprTrees} {rest : List Symbol} → AreArguments source before es after → Accepts rest (signs_of after) → Accepts (symbols.Arguments ∷ rest) (signs_of before)
  some_arguments (AreArguments.no_arguments o c) h = accepts_by Alternative.arguments (token signs.LeftParenthesis (λ e. cc) o (accepts_by Alternative.no_arguments (token signs.RightParenthesis (λ e. cc) c h)))
  some_arguments (AreArguments.arguments o e es) h = accepts_by Alternative.arguments (token signs.LeftParenthesis (λ e. cc) o (accepts_by Alternative.some_arguments (a_expr e (more_arguments es h))))

  more_arguments : {source : List ℕ} {before after : List Token} {es : RawExprTrees} {rest : List Symbol} → AreMoreArguments source before es after → Accepts rest (signs_of after)
      → Accepts (symbols.MoreArguments ∷ symbols.The signs.RightParenthesis ∷ rest) (signs_of before)
  more_arguments (AreMoreArguments.last_argument c) h = accepts_by Alternative.no_more_arguments (token signs.RightParenthesis (λ e. cc) c h)
  more_arguments (AreMoreArguments.another_argument o e es) h = accepts_by Alternative.another_argument (token signs.Comma (λ e. cc) o (a_expr e (more_arguments es h)))

a_size : {before after : List Token} {words : ℕ} {rest : List Symbol} → IsSize before words after → Accepts rest (signs_of after) → Accepts (symbols.Size ∷ rest) (signs_of before)
a_size s h = accepts_by Alternative.size (token signs.LeftBracket (λ e. cc) s.opened (a_number s.number (token signs.RightBracket (λ e. cc) s.closed h)))

a_simple : {source : List ℕ} {before after : List Token} {s : RawSimpleTree} {rest : List Symbol} → IsSimple source before s after → Accepts rest (signs_of after) → Accepts (symbols.Simple ∷ rest) (signs_of before)
a_simple (IsSimple.set n a e) h = accepts_by Alternative.set (a_name n (token signs.Assign (λ e. cc) a (a_expr e h)))
a_simple (IsSimple.set_element n i a e) h = accepts_by Alternative.set_element (a_name n (an_index i (token signs.Assign (λ e. cc) a (a_expr e h))))
a_simple (IsSimple.calling n es) h = accepts_by Alternative.call_simple (accepts_by Alternative.call (a_name n (some_arguments es h)))
a_simple (IsSimple.table_calling n i e) h = accepts_by Alternative.call_simple (accepts_by Alternative.table_call (a_name n (an_index i (in_parentheses e h))))

a_local : {source : List ℕ} {before after : List Token} {s : RawSimpleTree} {rest : List Symbol} → IsLocal source before s after → Accepts rest (signs_of after) → Accepts (symbols.Local ∷ rest) (signs_of before)
a_local (IsLocal.scalar n) h = accepts_by Alternative.local_scalar (a_name n (accepts_by Alternative.no_value h))
a_local (IsLocal.with_value n a e) h = accepts_by Alternative.local_scalar (a_name n (accepts_by Alternative.value (token signs.Assign (λ e. cc) a (a_expr e h))))
a_local (IsLocal.array n s) h = accepts_by Alternative.local_array (a_name n (a_size s h))

more_locals : {source : List ℕ} {before after : List Token} {ss : List RawSimpleTree} {rest : List Symbol} → AreMoreLocals source before ss after → Accepts rest (signs_of after) → Accepts (symbols.MoreLocals ∷ symbols.The signs.Semicolon ∷ rest) (signs_of before)
more_locals (AreMoreLocals.last_local c) h = accepts_by Alternative.no_more_locals (token signs.Semicolon (λ e. cc) c h)
more_locals (AreMoreLocals.another_local o l ls) h = accepts_by Alternative.another_local (token signs.Comma (λ e. cc) o (a_local l (more_locals ls h)))

some_locals : {source : List ℕ} {before after : List Token} {ss : List RawSimpleTree} {rest : List Symbol} → AreLocals source before ss after → Accepts rest (signs_of after) → Accepts (symbols.Locals ∷ symbols.The signs.Semicolon ∷ rest) (signs_of before)
some_locals (AreLocals.locals i l ls) h = accepts_by Alternative.locals (token signs.Int (λ e. cc) i (a_local l (more_locals ls h)))

up_to_semicolon : {source : List ℕ} {before after : List Token} {e : Option RawExprTree} {rest : List Symbol} → IsUpToSemicolon source before e after → Accepts rest (signs_of after) → Accepts (symbols.ExprOption ∷ symbols.The signs.Semicolon ∷ rest) (signs_of before)
up_to_semicolon (IsUpToSemicolon.nothing c) h = accepts_by Alternative.no_expr (token signs.Semicolon (λ e. cc) c h)
up_to_semicolon (IsUpToSemicolon.something e c) h = accepts_by Alternative.expr_part (a_expr e (token signs.Semicolon (λ e. cc) c h))

for_init : {source : List ℕ} {before after : List Token} {ss : List RawSimpleTree} {rest : List Symbol} → IsForInit source before ss after → Accepts rest (signs_of after) → Accepts (symbols.ForInit ∷ symbols.The signs.Semicolon ∷ rest) (signs_of before)
for_init (IsForInit.no_init c) h = accepts_by Alternative.no_init (token signs.Semicolon (λ e. cc) c h)
for_init (IsForInit.locals_init ls) h = accepts_by Alternative.locals_init (some_locals ls h)
for_init (IsForInit.simple_init s c) h = accepts_by Alternative.simple_init (a_simple s (token signs.Semicolon (λ e. cc) c h))

for_step : {source : List ℕ} {before after : List Token} {s : Option RawSimpleTree} {rest : List Symbol} → IsForStep source before s after → Accepts rest (signs_of after) → Accepts (symbols.SimpleOption ∷ symbols.The signs.RightParenthesis ∷ rest) (signs_of before)
for_step (IsForStep.no_step c) h = accepts_by Alternative.no_simple (token signs.RightParenthesis (λ e. cc) c h)
for_step (IsForStep.step s c) h = accepts_by Alternative.simple_part (a_simple s (token signs.RightParenthesis (λ e. cc) c h))

nothing_left : {rest left : List Symbol} → TakesAll Nearest rest [] left → CanBeNothing left → CanBeNothing rest
nothing_left TakesAll.none n = n

else_before : {s : Sign} {ss : List Sign} {rest left : List Symbol} → s ≢ signs.Else → TakesAll Nearest rest (s ∷ ss) left → CanBeNothing left → Accepts (symbols.ElseOption ∷ rest) (s ∷ ss)
else_before may (TakesAll.one t more) n = record { left = _; takes = TakesAll.one (Takes.no_else may t) more; nothing = n }

-- an else that is left out where no else comes
else_left_out : (after : List Token) {rest : List Symbol} → next_sign after ≢ signs.Else → Accepts rest (signs_of after) → Accepts (symbols.ElseOption ∷ rest) (signs_of after)
else_left_out [] may h = record { left = _; takes = TakesAll.none; nothing = CanBeNothing.no_else (nothing_left h.takes h.nothing) }
else_left_out (t ∷ tokens) may h = else_before may h.takes h.nothing

mutual
  a_body : {source : List ℕ} {before after : List Token} {s : RawStmtTree} {rest : List Symbol} → IsBody true source before s after → Accepts rest (signs_of after) → Accepts (symbols.Body ∷ rest) (signs_of before)
  a_body (IsBody.simple s c) h = accepts_by Alternative.simple_body (a_simple s (token signs.Semicolon (λ e. cc) c h))
  a_body (IsBody.empty c) h = accepts_by Alternative.empty_body (token signs.Semicolon (λ e. cc) c h)
  a_body (IsBody.block b) h = accepts_by Alternative.block_body (a_block b h)
  a_body {after = a} (IsBody.if_alone i e s may) h =
      accepts_by Alternative.if_body (token signs.If (λ e. cc) i (in_parentheses e (a_body s (else_left_out a (may refl) (accepts_by Alternative.end h)))))
  a_body (IsBody.if_else i e s l r) h =
      accepts_by Alternative.if_body (token signs.If (λ e. cc) i (in_parentheses e (a_body s (accepts_by Alternative.else_part (token signs.Else (λ e. cc) l (a_body r (accepts_by Alternative.end h)))))))
  a_body (IsBody.while_loop w e s) h = accepts_by Alternative.while_body (token signs.While (λ e. cc) w (in_parentheses e (a_body s (accepts_by Alternative.end h))))
  a_body (IsBody.for_loop f o init c last s) h =
      accepts_by Alternative.for_body (token signs.For (λ e. cc) f (accepts_by Alternative.for_parts (token signs.LeftParenthesis (λ e. cc) o (for_init init (up_to_semicolon c (for_step last (a_body s (accepts_by Alternative.end h))))))))
  a_body (IsBody.break_loop b c) h = accepts_by Alternative.break_body (token signs.Break (λ e. cc) b (token signs.Semicolon (λ e. cc) c h))
  a_body (IsBody.continue_loop b c) h = accepts_by Alternative.continue_body (token signs.Continue (λ e. cc) b (token signs.Semicolon (λ e. cc) c h))
  a_body (IsBody.return_value b v) h = accepts_by Alternative.return_body (token signs.Return (λ e. cc) b (up_to_semicolon v h))

  a_block : {source : List ℕ} {before after : List Token} {ss : RawStmtTrees} {rest : List Symbol} → IsBlock true source before ss after → Accepts rest (signs_of after) → Accepts (symbols.Block ∷ rest) (signs_of before)
  a_block (IsBlock.braces o ss) h = accepts_by Alternative.block (token signs.LeftBrace (λ e. cc) o (some_stmts ss h))

  some_stmts : {source : List ℕ} {before after : List Token} {ss : RawStmtTrees} {rest : List Symbol} → AreStmts true source before ss after → Accepts rest (signs_of after) → Accepts (symbols.BlockItems ∷ symbols.The signs.RightBrace ∷ rest) (signs_of before)
  some_stmts (AreStmts.last_stmt c) h = accepts_by Alternative.no_more_statements (token signs.RightBrace (λ e. cc) c h)
  some_stmts (AreStmts.declarations ds ss) h = accepts_by Alternative.another_locals (some_locals ds (some_stmts ss h))
  some_stmts (AreStmts.another_stmt s ss) h = accepts_by Alternative.another_body (a_body s (some_stmts ss h))

a_start : {source : List ℕ} {before after : List Token} {value : ℕ} {rest : List Symbol} → IsStart source before value after → Accepts rest (signs_of after) → Accepts (symbols.MinusOption ∷ symbols.The signs.Number ∷ rest) (signs_of before)
a_start (IsStart.plain n) h = accepts_by Alternative.no_minus (a_number n h)
a_start (IsStart.negative m n) h = accepts_by Alternative.minus (token signs.Minus (λ e. cc) m (a_number n h))

a_global : {source : List ℕ} {before after : List Token} {i : RawItemTree} {rest : List Symbol} → IsGlobal source before i after → Accepts rest (signs_of after) → Accepts (symbols.Global ∷ rest) (signs_of before)
a_global (IsGlobal.scalar n) h = accepts_by Alternative.scalar (a_name n (accepts_by Alternative.no_start h))
a_global (IsGlobal.with_start n a v) h = accepts_by Alternative.scalar (a_name n (accepts_by Alternative.start (token signs.Assign (λ e. cc) a (a_start v h))))
a_global (IsGlobal.array n s) h = accepts_by Alternative.array (a_name n (a_size s h))

more_globals : {source : List ℕ} {before after : List Token} {is : List RawItemTree} {rest : List Symbol} → AreMoreGlobals source before is after → Accepts rest (signs_of after) → Accepts (symbols.MoreGlobals ∷ symbols.The signs.Semicolon ∷ rest) (signs_of before)
more_globals (AreMoreGlobals.last_global c) h = accepts_by Alternative.no_more_globals (token signs.Semicolon (λ e. cc) c h)
more_globals (AreMoreGlobals.another_global o g gs) h = accepts_by Alternative.another_global (token signs.Comma (λ e. cc) o (a_global g (more_globals gs h)))

more_members : {source : List ℕ} {before after : List Token} {ns : List NameTree} {rest : List Symbol} → AreMoreMembers source before ns after → Accepts rest (signs_of after) → Accepts (symbols.MoreMembers ∷ symbols.The signs.RightBrace ∷ rest) (signs_of before)
more_members (AreMoreMembers.last_member c) h = accepts_by Alternative.no_more_members (token signs.RightBrace (λ e. cc) c h)
more_members (AreMoreMembers.another_member o n ns) h = accepts_by Alternative.another_member (token signs.Comma (λ e. cc) o (a_name n (more_members ns h)))

name_option : {source : List ℕ} {before after : List Token} {n : Option NameTree} {rest : List Symbol} → IsNameOption source before n after → Accepts rest (signs_of after) → Accepts (symbols.NameOption ∷ rest) (signs_of before)
name_option IsNameOption.no_name h = accepts_by Alternative.no_name h
name_option (IsNameOption.a_name n) h = accepts_by Alternative.name (a_name n h)

more_parameters : {source : List ℕ} {before after : List Token} {ps : List (Option NameTree)} {rest : List Symbol} → AreMoreParameters source before ps after → Accepts rest (signs_of after)
    → Accepts (symbols.MorePrototype ∷ symbols.The signs.RightParenthesis ∷ rest) (signs_of before)
more_parameters (AreMoreParameters.last_parameter c) h = accepts_by Alternative.no_more_parameters (token signs.RightParenthesis (λ e. cc) c h)
more_parameters (AreMoreParameters.another_parameter o i n ps) h = accepts_by Alternative.another_parameter (token signs.Comma (λ e. cc) o (token signs.Int (λ e. cc) i (name_option n (more_parameters ps h))))

more_named : {source : List ℕ} {before after : List Token} {ns : List NameTree} {rest : List Symbol} → AreMoreNamed source before ns after → Accepts rest (signs_of after) → Accepts (symbols.MoreFunction ∷ symbols.The signs.RightParenthesis ∷ rest) (signs_of before)
more_named (AreMoreNamed.last_named c) h = accepts_by Alternative.no_more_named (token signs.RightParenthesis (λ e. cc) c h)
more_named (AreMoreNamed.another_named o i n ns) h = accepts_by Alternative.another_named (token signs.Comma (λ e. cc) o (token signs.Int (λ e. cc) i (a_name n (more_named ns h))))

some_parameters : {source : List ℕ} {before after : List Token} {ps : List (Option NameTree)} {rest : List Symbol} → AreParameters source before ps after → Accepts rest (signs_of after) → Accepts (symbols.PrototypeParameters ∷ rest) (signs_of before)
some_parameters (AreParameters.no_parameters o c) h = accepts_by Alternative.prototype_parameters (token signs.LeftParenthesis (λ e. cc) o (accepts_by Alternative.no_parameters (token signs.RightParenthesis (λ e. cc) c h)))
some_parameters (AreParameters.void_parameters o v c) h = accepts_by Alternative.prototype_parameters (token signs.LeftParenthesis (λ e. cc) o (accepts_by Alternative.void_parameters (token signs.Void (λ e. cc) v (token signs.RightParenthesis (λ e. cc) c h))))
some_parameters (AreParameters.some_parameters o i n ps) h = accepts_by Alternative.prototype_parameters (token signs.LeftParenthesis (λ e. cc) o (accepts_by Alternative.some_parameters (token signs.Int (λ e. cc) i (name_option n (more_parameters ps h)))))

some_named : {source : List ℕ} {before after : List Token} {ns : List NameTree} {rest : List Symbol} → AreNamed source before ns after → Accepts rest (signs_of after) → Accepts (symbols.FunctionParameters ∷ rest) (signs_of before)
some_named (AreNamed.no_named o c) h = accepts_by Alternative.function_parameters (token signs.LeftParenthesis (λ e. cc) o (accepts_by Alternative.no_named (token signs.RightParenthesis (λ e. cc) c h)))
some_named (AreNamed.void_named o v c) h = accepts_by Alternative.function_parameters (token signs.LeftParenthesis (λ e. cc) o (accepts_by Alternative.void_named (token signs.Void (λ e. cc) v (token signs.RightParenthesis (λ e. cc) c h))))
some_named (AreNamed.some_named o i n ns) h = accepts_by Alternative.function_parameters (token signs.LeftParenthesis (λ e. cc) o (accepts_by Alternative.some_named (token signs.Int (λ e. cc) i (a_name n (more_named ns h)))))

a_result : {before after : List Token} {gives : Bool} {rest : List Symbol} → IsResult before gives after → Accepts rest (signs_of after) → Accepts (symbols.Result ∷ rest) (signs_of before)
a_result (IsResult.int_result i) h = accepts_by Alternative.int_result (token signs.Int (λ e. cc) i h)
a_result (IsResult.void_result v) h = accepts_by Alternative.void_result (token signs.Void (λ e. cc) v h)

an_item : {source : List ℕ} {before after : List Token} {is : List RawItemTree} {rest : List Symbol} → AreItem true source before is after → Accepts rest (signs_of after) → Accepts (symbols.Item ∷ rest) (signs_of before)
an_item (AreItem.globals i g gs) h = accepts_by Alternative.globals_item (accepts_by Alternative.globals (token signs.Int (λ e. cc) i (a_global g (more_globals gs h))))
an_item (AreItem.table i o st n s c o2 i2 c2 a l m ms e) h =
    accepts_by Alternative.table_item (accepts_by Alternative.table (token signs.Int (λ e. cc) i
    (accepts_by Alternative.table_name (token signs.LeftParenthesis (λ e. cc) o (token signs.Star (λ e. cc) st (a_name n (a_size s (token signs.RightParenthesis (λ e. cc) c
    (accepts_by Alternative.table_parameter (token signs.LeftParenthesis (λ e. cc) o2 (token signs.Int (λ e. cc) i2 (token signs.RightParenthesis (λ e. cc) c2
    (token signs.Assign (λ e. cc) a (accepts_by Alternative.members (token signs.LeftBrace (λ e. cc) l (a_name m (more_members ms (token signs.Semicolon (λ e. cc) e h))))))))))))))))))
an_item (AreItem.prototype r n ps c) h = accepts_by Alternative.prototype_item (accepts_by Alternative.prototype (a_result r (a_name n (some_parameters ps (token signs.Semicolon (λ e. cc) c h)))))
an_item (AreItem.function r n ns b) h = accepts_by Alternative.function_item (accepts_by Alternative.function (a_result r (a_name n (some_named ns (a_block b h)))))

some_items : {source : List ℕ} {before : List Token} {is : List RawItemTree} → AreItems true source before is → Accepts (symbols.Program ∷ []) (signs_of before)
some_items AreItems.no_more_items = record { left = _; takes = TakesAll.none; nothing = CanBeNothing.by Alternative.no_more_items CanBeNothing.empty }
some_items (AreItems.another_item i is) = accepts_by Alternative.another_item (an_item i (some_items is))

-- the tokens of a program are taken by the rests of the grammar, in the way in which an else belongs to the nearest if
pub program_accepted : (source : List ℕ) (tokens : List Token) (items : List RawItemTree) → AreItems true source tokens items → Accepts (symbols.Program ∷ []) (signs_of tokens)
program_accepted source tokens items p = some_items p

pub program_whole : (source : List ℕ) (tokens : List Token) (items : List RawItemTree) → AreItems true source tokens items → AreWhole Nearest tokens
program_whole source tokens items p = let a = program_accepted source tokens items p in (a.left, a.takes, a.nothing)
