-- A list of tokens has at most one tree, where each else belongs to the nearest if that can take it.
use Rattle.grammar_laws.proofs.Common.{ℕ, ◌≡◌, ◌≢◌, ◌+◌, ◌-◌, ◌%◌, ◌^◌, ◌≤◌, refl, sym, ap, subst, ◌∙◌, Bool, true, List, [], ◌∷◌, ◌++◌, Option, Some, arith, Token, Infix, UnaryOperator, NameTree, RawExprTree, RawExprTrees, RawName, RawElement, RawUnary, RawParenthesized, RawConditional, RawCall, RawTableCall, RawNumber, And, RawSimpleTree, RawDeclareScalar, RawDeclareArray, RawDeclareWith, RawSet, RawSetElement, RawCalling, RawTableCalling, RawStmtTree, RawStmtTrees, RawDo, RawBlock, RawIf, RawIfElse, RawWhile, RawFor, RawBreak, RawContinue, RawReturn, RawThen, RawItemTree, RawGlobal, RawGlobalArray, RawTableItem, RawPrototypeItem, RawFunctionItem, raw_joined, Sign, Level, IsOperator, IsPrefix, unary_operator_of, infix_operator_of, level_of_infix, next_sign, next_kind, next_at, next_name, rest_of, Passes, PassesName, PassesNumber, PassesPrefix, PassesInfix, IsExpr, IsBinary, IsRepeated, IsUnary, IsPrimary, IsIndex, IsParenthesized, AreArguments, AreMoreArguments, IsSize, IsSimple, IsLocal, AreMoreLocals, AreLocals, IsUpToSemicolon, IsForInit, IsForStep, declared_before, IsBody, IsBlock, AreStmts, IsStart, IsGlobal, AreMoreGlobals, AreMoreMembers, IsNameOption, AreMoreParameters, AreMoreNamed, AreParameters, AreNamed, IsResult, AreItem, AreItems, number_passes}
use Rattle.c_lex.specs.declared.tokens.TokenKind.TheVariants as kinds
use Rattle.c_grammar.specs.declared.signs.Sign.TheVariants as signs
use Rattle.grammar_laws.proofs.TreeAccepted.{infix_sign, prefix_sign}

-- two trees and what is behind them are the same
pub record Same {T : Type 0} (x y : T) (a b : List Token) : Type 0 where
  pub tree : x ≡ y
  pub rest : a ≡ b

differ : {s t : Sign} {a b c d : List Token} {C : Type 0} → Passes s a c → Passes t b d → a ≡ b → (s ≡ t → ⊥) → C
differ p q e clash = absurd (clash (sym p.is_next ∙ (ap next_sign e ∙ q.is_next)))

same_rest : {s : Sign} {a b c d : List Token} → Passes s a c → Passes s b d → a ≡ b → c ≡ d
same_rest p q e = p.behind ∙ (ap rest_of e ∙ sym q.behind)

same_name : {source : List ℕ} {a b c d : List Token} {m n : NameTree} → PassesName source a m c → PassesName source b n d → a ≡ b → Same m n c d
same_name {source = s} p q e = record { tree = p.named ∙ (ap (λ l. next_name s l) e ∙ sym q.named); rest = same_rest p.passes q.passes e }

number_kind : {v w : ℕ} → Some (kinds.Number v) ≡ Some (kinds.Number w) → v ≡ w
number_kind e = cc

same_number : {a b c d : List Token} {v w : ℕ} → PassesNumber a v c → PassesNumber b w d → a ≡ b → Same v w c d
same_number p q e = record { tree = number_kind (sym p.is_next ∙ (ap next_kind e ∙ q.is_next)); rest = p.behind ∙ (ap rest_of e ∙ sym q.behind) }

some_infix : {v w : Infix} → Some v ≡ Some w → v ≡ w
some_infix e = cc

same_infix : {l m : ℕ} {a b c d : List Token} {v w : Infix} → PassesInfix l a v c → PassesInfix m b w d → a ≡ b → Same v w c d
same_infix p q e = record { tree = some_infix (sym p.is_next ∙ (ap (λ l. infix_operator_of (next_kind l)) e ∙ q.is_next)); rest = p.behind ∙ (ap rest_of e ∙ sym q.behind) }

some_prefix : {v w : UnaryOperator} → Some v ≡ Some w → v ≡ w
some_prefix e = cc

same_prefix : {a b c d : List Token} {v w : UnaryOperator} → PassesPrefix a v c → PassesPrefix b w d → a ≡ b → Same v w c d
same_prefix p q e = record { tree = some_prefix (sym p.is_next ∙ (ap (λ l. unary_operator_of (next_kind l)) e ∙ q.is_next)); rest = p.behind ∙ (ap rest_of e ∙ sym q.behind) }

-- how an operand begins
data Opens : Sign → Type 0 where
  number : Opens signs.Number
  name : Opens signs.Name
  parenthesis : Opens signs.LeftParenthesis

data Begins : Sign → Type 0 where
  primary : {s : Sign} → Opens s → Begins s
  prefix : {s : Sign} → IsPrefix s → Begins s

record Beginning (P : Sign → Type 0) (before : List Token) : Type 0 where
  sign : Sign
  kind : P sign
  is_next : next_sign before ≡ sign

primary_begins : {source : List ℕ} {a c : List Token} {x : RawExprTree} → IsPrimary source a x c → Beginning Opens a
primary_begins {a = l} (IsPrimary.number p) = record { sign = signs.Number; kind = Opens.number; is_next = (number_passes l p).is_next }
primary_begins (IsPrimary.name p) = record { sign = signs.Name; kind = Opens.name; is_next = p.passes.is_next }
primary_begins (IsPrimary.element p i) = record { sign = signs.Name; kind = Opens.name; is_next = p.passes.is_next }
primary_begins (IsPrimary.call p es) = record { sign = signs.Name; kind = Opens.name; is_next = p.passes.is_next }
primary_begins (IsPrimary.table_call p i e) = record { sign = signs.Name; kind = Opens.name; is_next = p.passes.is_next }
primary_begins (IsPrimary.parenthesized (IsParenthesized.parentheses o e c)) = record { sign = signs.LeftParenthesis; kind = Opens.parenthesis; is_next = o.is_next }

unary_begins : {source : List ℕ} {a c : List Token} {x : RawExprTree} → IsUnary source a x c → Beginning Begins a
unary_begins {a = l} (IsUnary.prefixed {operator = op} p u) = let f = prefix_sign l _ op p in record { sign = f.sign; kind = Begins.prefix f.operator; is_next = f.passes.is_next }
unary_begins (IsUnary.primary p) = let b = primary_begins p in record { sign = b.sign; kind = Begins.primary b.kind; is_next = b.is_next }

binary_begins : {source : List ℕ} {level : ℕ} {a c : List Token} {x : RawExprTree} → IsBinary source level a x c → Beginning Begins a
binary_begins (IsBinary.operand high u) = unary_begins u
binary_begins (IsBinary.chain low b r) = binary_begins b

expr_begins : {source : List ℕ} {a c : List Token} {x : RawExprTree} → IsExpr source a x c → Beginning Begins a
expr_begins (IsExpr.alone b) = binary_begins b
expr_begins (IsExpr.conditional b q x k y) = binary_begins b

no_begin_parenthesis : {s : Sign} → Begins s → s ≡ signs.RightParenthesis → ⊥
no_begin_parenthesis (Begins.primary Opens.number) e = cc
no_begin_parenthesis (Begins.primary Opens.name) e = cc
no_begin_parenthesis (Begins.primary Opens.parenthesis) e = cc
no_begin_parenthesis (Begins.prefix IsPrefix.plus) e = cc
no_begin_parenthesis (Begins.prefix IsPrefix.minus) e = cc
no_begin_parenthesis (Begins.prefix IsPrefix.prefix_sign) e = cc

no_begin_semicolon : {s : Sign} → Begins s → s ≡ signs.Semicolon → ⊥
no_begin_semicolon (Begins.primary Opens.number) e = cc
no_begin_semicolon (Begins.primary Opens.name) e = cc
no_begin_semicolon (Begins.primary Opens.parenthesis) e = cc
no_begin_semicolon (Begins.prefix IsPrefix.plus) e = cc
no_begin_semicolon (Begins.prefix IsPrefix.minus) e = cc
no_begin_semicolon (Begins.prefix IsPrefix.prefix_sign) e = cc

prefix_no_opener : {s t : Sign} → IsPrefix s → Opens t → s ≡ t → ⊥
prefix_no_opener IsPrefix.plus Opens.number e = cc
prefix_no_opener IsPrefix.plus Opens.name e = cc
prefix_no_opener IsPrefix.plus Opens.parenthesis e = cc
prefix_no_opener IsPrefix.minus Opens.number e = cc
prefix_no_opener IsPrefix.minus Opens.name e = cc
prefix_no_opener IsPrefix.minus Opens.parenthesis e = cc
prefix_no_opener IsPrefix.prefix_sign Opens.number e = cc
prefix_no_opener IsPrefix.prefix_sign Opens.name e = cc
prefix_no_opener IsPrefix.prefix_sign Opens.parenthesis e = cc

no_expr_at : {source : List ℕ} {a b c d : List Token} {x : RawExprTree} {C : Type 0} → Passes signs.RightParenthesis a c → IsExpr source b x d → a ≡ b → C
no_expr_at p x e = let b = expr_begins x in absurd (no_begin_parenthesis b.kind (sym b.is_next ∙ (ap next_sign (sym e) ∙ p.is_next)))

no_expr_semicolon : {source : List ℕ} {a b c d : List Token} {x : RawExprTree} {C : Type 0} → Passes signs.Semicolon a c → IsExpr source b x d → a ≡ b → C
no_expr_semicolon p x e = let b = expr_begins x in absurd (no_begin_semicolon b.kind (sym b.is_next ∙ (ap next_sign (sym e) ∙ p.is_next)))

-- what is behind goes on with no operand, and with no operator of this level or a tighter one
record Stops (level : ℕ) (after : List Token) : Type 0 where
  parenthesis : next_sign after ≢ signs.LeftParenthesis
  bracket : next_sign after ≢ signs.LeftBracket
  operator : (l : ℕ) (v : Infix) (b : List Token) → level ≤ l → PassesInfix l after v b → ⊥

-- and with no `?`
record Closes (after : List Token) : Type 0 where
  stops : Stops 0 after
  question : next_sign after ≢ signs.Question

tighter : (level : ℕ) {after : List Token} → Stops level after → Stops (level + 1) after
tighter level s = record { parenthesis = s.parenthesis; bracket = s.bracket; operator = λ l v b h p. s.operator l v b (omega arith) p }

-- a sign that no operator has
data Plain : Sign → Type 0 where
  atRightParenthesis : Plain signs.RightParenthesis
  atRightBracket : Plain signs.RightBracket
  atSemicolon : Plain signs.Semicolon
  atComma : Plain signs.Comma
  atColon : Plain signs.Colon
  atQuestion : Plain signs.Question

no_operator : {level : Level} {s : Sign} → IsOperator level s → Plain s → ⊥
no_operator IsOperator.star p = elim p [ ]
no_operator _ p = elim p [ ]

plain_parenthesis : {s : Sign} → Plain s → s ≡ signs.LeftParenthesis → ⊥
plain_parenthesis Plain.atRightParenthesis e = cc
plain_parenthesis _ e = cc

plain_bracket : {s : Sign} → Plain s → s ≡ signs.LeftBracket → ⊥
plain_bracket Plain.atRightParenthesis e = cc
plain_bracket _ e = cc

stops_at : (level : ℕ) {s : Sign} {after b : List Token} → Plain s → Passes s after b → Stops level after
stops_at level {s = s} {after = a} k p =
    record {
      parenthesis = λ e. plain_parenthesis k (sym p.is_next ∙ e);
      bracket = λ e. plain_bracket k (sym p.is_next ∙ e);
      operator = λ l v b h q.
          let f = infix_sign l a b v q in
          let P : Sign → Type 0 = Plain in
          no_operator f.operator (subst P (sym p.is_next ∙ f.passes.is_next) k);
    }

closes_at : {s : Sign} {after b : List Token} → Plain s → (s ≡ signs.Question → ⊥) → Passes s after b → Closes after
closes_at k q p = record { stops = stops_at 0 k p; question = λ e. q (sym p.is_next ∙ e) }

level_same : (l m : ℕ) {v w : Infix} → level_of_infix v ≡ l → level_of_infix w ≡ m → v ≡ w → l ≡ m
level_same l m p q e = sym p ∙ (ap level_of_infix e ∙ q)

operator_parenthesis : {level : Level} {s : Sign} → IsOperator level s → s ≡ signs.LeftParenthesis → ⊥
operator_parenthesis IsOperator.star e = cc
operator_parenthesis _ e = cc

operator_bracket : {level : Level} {s : Sign} → IsOperator level s → s ≡ signs.LeftBracket → ⊥
operator_bracket IsOperator.star e = cc
operator_bracket _ e = cc

-- behind an operator's left operand stands the operator
at_operator : (level : ℕ) {after b : List Token} {v : Infix} → PassesInfix level after v b → Stops (level + 1) after
at_operator level {after = a} {b = b'} {v = v'} p =
    let f = infix_sign level a b' v' p in
    record {
      parenthesis = λ e. operator_parenthesis f.operator (sym f.passes.is_next ∙ e);
      bracket = λ e. operator_bracket f.operator (sym f.passes.is_next ∙ e);
      operator = λ l w c h q. let k = level_same l level q.of_level p.of_level (same_infix q p refl).tree in omega arith;
    }

repeated_stops : {source : List ℕ} {level : ℕ} {left e : RawExprTree} {before after : List Token} → IsRepeated source level left before e after → Stops level after → Stops (level + 1) before
repeated_stops {level = l} IsRepeated.no_more s = tighter l s
repeated_stops {level = l} (IsRepeated.another p b r) s = at_operator l p

pair : {T : Type 0} {x y : T} {a b : List Token} → x ≡ y → a ≡ b → Same x y a b
pair e f = record { tree = e; rest = f }

three_same : {a b c x y z : RawExprTree} → a ≡ x → b ≡ y → c ≡ z → RawConditional a b c ≡ RawConditional x y z
three_same e f g = cc

joined_same : {a b x y : RawExprTree} {v w : Infix} → a ≡ x → v ≡ w → b ≡ y → raw_joined a v b ≡ raw_joined x w y
joined_same {a = a'} {b = b'} {x = x'} {y = y'} {v = v'} {w = w'} e f g = ap (λ l. raw_joined l v' b') e ∙ (ap (λ o. raw_joined x' o b') f ∙ ap (λ r. raw_joined x' w' r) g)

prefixed_same : {v w : UnaryOperator} {a x : RawExprTree} → v ≡ w → a ≡ x → RawUnary v a ≡ RawUnary w x
prefixed_same e f = cc

element_same : {m n : NameTree} {a x : RawExprTree} → m ≡ n → a ≡ x → RawElement m a ≡ RawElement n x
element_same e f = cc

call_same : {m n : NameTree} {a x : RawExprTrees} → m ≡ n → a ≡ x → RawCall m a ≡ RawCall n x
call_same e f = cc

table_same : {m n : NameTree} {a b x y : RawExprTree} → m ≡ n → a ≡ x → b ≡ y → RawTableCall m a b ≡ RawTableCall n x y
table_same e f g = cc

and_same : {a x : RawExprTree} {b y : RawExprTrees} → a ≡ x → b ≡ y → And a b ≡ And x y
and_same e f = cc

moved_infix : {level : ℕ} {a b c : List Token} {v : Infix} → PassesInfix level b v c → a ≡ b → PassesInfix level a v c
moved_infix {level = l} {c = k} {v = w} p e = let P : List Token → Type 0 = λ x. PassesInfix l x w k in subst P (sym e) p

-- what an index, arguments and an expression in parentheses begin with
bracketed : {source : List ℕ} {a c : List Token} {x : RawExprTree} → IsIndex source a x c → Passes signs.LeftBracket a (rest_of a)
bracketed (IsIndex.index o x k) = record { is_next = o.is_next; behind = refl }

opened : {source : List ℕ} {a c : List Token} {x : RawExprTree} → IsParenthesized source a x c → Passes signs.LeftParenthesis a (rest_of a)
opened (IsParenthesized.parentheses o x k) = record { is_next = o.is_next; behind = refl }

called : {source : List ℕ} {a c : List Token} {x : RawExprTrees} → AreArguments source a x c → Passes signs.LeftParenthesis a (rest_of a)
called (AreArguments.no_arguments o k) = record { is_next = o.is_next; behind = refl }
called (AreArguments.arguments o x xs) = record { is_next = o.is_next; behind = refl }

more_close : {source : List ℕ} {a c : List Token} {x : RawExprTrees} → AreMoreArguments source a x c → Closes a
more_close (AreMoreArguments.last_argument k) = closes_at Plain.atRightParenthesis (λ e. cc) k
more_close (AreMoreArguments.another_argument o x xs) = closes_at Plain.atComma (λ e. cc) o

mutual
  u_expr : {source : List ℕ} {a b c d : List Token} {x y : RawExprTree} → IsExpr source a x c → IsExpr source b y d → a ≡ b → Closes c → Closes d → Same x y c d
  u_expr (IsExpr.alone p) (IsExpr.alone q) e s t = u_binary p q e s.stops t.stops
  u_expr (IsExpr.alone p) (IsExpr.conditional q m y n z) e s t = let h = u_binary p q e s.stops (stops_at 0 Plain.atQuestion m) in absurd (s.question (ap next_sign h.rest ∙ m.is_next))
  u_expr (IsExpr.conditional p k x l w) (IsExpr.alone q) e s t = let h = u_binary p q e (stops_at 0 Plain.atQuestion k) t.stops in absurd (t.question (ap next_sign (sym h.rest) ∙ k.is_next))
  u_expr (IsExpr.conditional p k x l w) (IsExpr.conditional q m y n z) e s t =
      let h = u_binary p q e (stops_at 0 Plain.atQuestion k) (stops_at 0 Plain.atQuestion m) in
      let i = u_expr x y (same_rest k m h.rest) (closes_at Plain.atColon (λ e. cc) l) (closes_at Plain.atColon (λ e. cc) n) in
      let j = u_expr w z (same_rest l n i.rest) s t in
      pair (three_same h.tree i.tree j.tree) j.rest

  u_binary : {source : List ℕ} {level : ℕ} {a b c d : List Token} {x y : RawExprTree} → IsBinary source level a x c → IsBinary source level b y d → a ≡ b → Stops level c → Stops level d → Same x y c d
  u_binary (IsBinary.operand h p) (IsBinary.operand k q) e s t = u_unary p q e s.parenthesis s.bracket t.parenthesis t.bracket
  u_binary (IsBinary.operand h p) (IsBinary.chain k q r) e s t = absurd (omega arith)
  u_binary (IsBinary.chain h p r) (IsBinary.operand k q) e s t = absurd (omega arith)
  u_binary (IsBinary.chain h p r) (IsBinary.chain k q u) e s t = let i = u_binary p q e (repeated_stops r s) (repeated_stops u t) in u_repeated r u i.tree i.rest s t

  u_repeated : {source : List ℕ} {level : ℕ} {a b c d : List Token} {l m x y : RawExprTree} → IsRepeated source level l a x c → IsRepeated source level m b y d → l ≡ m → a ≡ b → Stops level c → Stops level d → Same x y c d
  u_repeated IsRepeated.no_more IsRepeated.no_more f e s t = pair f e
  u_repeated {level = n} IsRepeated.no_more (IsRepeated.another {b = k} {operator = w} q r u) f e s t = absurd (s.operator n w k (omega arith) (moved_infix q e))
  u_repeated {level = n} (IsRepeated.another {b = k} {operator = w} p r u) IsRepeated.no_more f e s t = absurd (t.operator n w k (omega arith) (moved_infix p (sym e)))
  u_repeated (IsRepeated.another p b r) (IsRepeated.another q g u) f e s t =
      let o = same_infix p q e in
      let i = u_binary b g o.rest (repeated_stops r s) (repeated_stops u t) in
      u_repeated r u (joined_same f o.tree i.tree) i.rest s t

  u_unary : {source : List ℕ} {a b c d : List Token} {x y : RawExprTree} → IsUnary source a x c → IsUnary source b y d → a ≡ b → (next_sign c ≢ signs.LeftParenthesis) → (next_sign c ≢ signs.LeftBracket) → (next_sign d ≢ signs.LeftParenthesis) → (next_sign d ≢ signs.LeftBracket) → Same x y c d
  u_unary (IsUnary.prefixed p u) (IsUnary.prefixed q v) e s1 s2 t1 t2 = let o = same_prefix p q e in let i = u_unary u v o.rest s1 s2 t1 t2 in pair (prefixed_same o.tree i.tree) i.rest
  u_unary {a = l} (IsUnary.prefixed {operator = op} p u) (IsUnary.primary q) e s1 s2 t1 t2 = let f = prefix_sign l _ op p in let b = primary_begins q in absurd (prefix_no_opener f.operator b.kind (sym f.passes.is_next ∙ (ap next_sign e ∙ b.is_next)))
  u_unary {b = l} (IsUnary.primary p) (IsUnary.prefixed {operator = op} q v) e s1 s2 t1 t2 = let f = prefix_sign l _ op q in let b = primary_begins p in absurd (prefix_no_opener f.operator b.kind (sym f.passes.is_next ∙ (ap next_sign (sym e) ∙ b.is_next)))
  u_unary (IsUnary.primary p) (IsUnary.primary q) e s1 s2 t1 t2 = u_primary p q e s1 s2 t1 t2

  u_primary : {source : List ℕ} {a b c d : List Token} {x y : RawExprTree} → IsPrimary source a x c → IsPrimary source b y d → a ≡ b → (next_sign c ≢ signs.LeftParenthesis) → (next_sign c ≢ signs.LeftBracket) → (next_sign d ≢ signs.LeftParenthesis) → (next_sign d ≢ signs.LeftBracket) → Same x y c d
  u_primary (IsPrimary.number p1) (IsPrimary.number p2) e s1 s2 t1 t2 = let n = same_number p1 p2 e in pair (ap RawNumber n.tree) n.rest
  u_primary (IsPrimary.number p1) (IsPrimary.name p2) e s1 s2 t1 t2 = differ (number_passes _ p1) p2.passes e (λ k. cc)
  u_primary (IsPrimary.number p1) (IsPrimary.element p2 i2) e s1 s2 t1 t2 = differ (number_passes _ p1) p2.passes e (λ k. cc)
  u_primary (IsPrimary.number p1) (IsPrimary.call p2 es2) e s1 s2 t1 t2 = differ (number_passes _ p1) p2.passes e (λ k. cc)
  u_primary (IsPrimary.number p1) (IsPrimary.table_call p2 i2 f2) e s1 s2 t1 t2 = differ (number_passes _ p1) p2.passes e (λ k. cc)
  u_primary (IsPrimary.number p1) (IsPrimary.parenthesized f2) e s1 s2 t1 t2 = differ (number_passes _ p1) (opened f2) e (λ k. cc)
  u_primary (IsPrimary.name p1) (IsPrimary.number p2) e s1 s2 t1 t2 = differ p1.passes (number_passes _ p2) e (λ k. cc)
  u_primary (IsPrimary.name p1) (IsPrimary.name p2) e s1 s2 t1 t2 = let n = same_name p1 p2 e in pair (ap RawName n.tree) n.rest
  u_primary (IsPrimary.name p1) (IsPrimary.element p2 i2) e s1 s2 t1 t2 = let n = same_name p1 p2 e in absurd (s2 (ap next_sign n.rest ∙ (bracketed i2).is_next))
  u_primary (IsPrimary.name p1) (IsPrimary.call p2 es2) e s1 s2 t1 t2 = let n = same_name p1 p2 e in absurd (s1 (ap next_sign n.rest ∙ (called es2).is_next))
  u_primary (IsPrimary.name p1) (IsPrimary.table_call p2 i2 f2) e s1 s2 t1 t2 = let n = same_name p1 p2 e in absurd (s2 (ap next_sign n.rest ∙ (bracketed i2).is_next))
  u_primary (IsPrimary.name p1) (IsPrimary.parenthesized f2) e s1 s2 t1 t2 = differ p1.passes (opened f2) e (λ k. cc)
  u_primary (IsPrimary.element p1 i1) (IsPrimary.number p2) e s1 s2 t1 t2 = differ p1.passes (number_passes _ p2) e (λ k. cc)
  u_primary (IsPrimary.element p1 i1) (IsPrimary.name p2) e s1 s2 t1 t2 = let n = same_name p1 p2 e in absurd (t2 (ap next_sign (sym n.rest) ∙ (bracketed i1).is_next))
  u_primary (IsPrimary.element p1 i1) (IsPrimary.element p2 i2) e s1 s2 t1 t2 = let n = same_name p1 p2 e in let h = u_index i1 i2 n.rest in pair (element_same n.tree h.tree) h.rest
  u_primary (IsPrimary.element p1 i1) (IsPrimary.call p2 es2) e s1 s2 t1 t2 = let n = same_name p1 p2 e in differ (bracketed i1) (called es2) n.rest (λ k. cc)
  u_primary (IsPrimary.element p1 i1) (IsPrimary.table_call p2 i2 f2) e s1 s2 t1 t2 = let n = same_name p1 p2 e in let h = u_index i1 i2 n.rest in absurd (s1 (ap next_sign h.rest ∙ (opened f2).is_next))
  u_primary (IsPrimary.element p1 i1) (IsPrimary.parenthesized f2) e s1 s2 t1 t2 = differ p1.passes (opened f2) e (λ k. cc)
  u_primary (IsPrimary.call p1 es1) (IsPrimary.number p2) e s1 s2 t1 t2 = differ p1.passes (number_passes _ p2) e (λ k. cc)
  u_primary (IsPrimary.call p1 es1) (IsPrimary.name p2) e s1 s2 t1 t2 = let n = same_name p1 p2 e in absurd (t1 (ap next_sign (sym n.rest) ∙ (called es1).is_next))
  u_primary (IsPrimary.call p1 es1) (IsPrimary.element p2 i2) e s1 s2 t1 t2 = let n = same_name p1 p2 e in differ (called es1) (bracketed i2) n.rest (λ k. cc)
  u_primary (IsPrimary.call p1 es1) (IsPrimary.call p2 es2) e s1 s2 t1 t2 = let n = same_name p1 p2 e in let h = u_arguments es1 es2 n.rest in pair (call_same n.tree h.tree) h.rest
  u_primary (IsPrimary.call p1 es1) (IsPrimary.table_call p2 i2 f2) e s1 s2 t1 t2 = let n = same_name p1 p2 e in differ (called es1) (bracketed i2) n.rest (λ k. cc)
  u_primary (IsPrimary.call p1 es1) (IsPrimary.parenthesized f2) e s1 s2 t1 t2 = differ p1.passes (opened f2) e (λ k. cc)
  u_primary (IsPrimary.table_call p1 i1 f1) (IsPrimary.number p2) e s1 s2 t1 t2 = differ p1.passes (number_passes _ p2) e (λ k. cc)
  u_primary (IsPrimary.table_call p1 i1 f1) (IsPrimary.name p2) e s1 s2 t1 t2 = let n = same_name p1 p2 e in absurd (t2 (ap next_sign (sym n.rest) ∙ (bracketed i1).is_next))
  u_primary (IsPrimary.table_call p1 i1 f1) (IsPrimary.element p2 i2) e s1 s2 t1 t2 = let n = same_name p1 p2 e in let h = u_index i1 i2 n.rest in absurd (t1 (ap next_sign (sym h.rest) ∙ (opened f1).is_next))
  u_primary (IsPrimary.table_call p1 i1 f1) (IsPrimary.call p2 es2) e s1 s2 t1 t2 = let n = same_name p1 p2 e in differ (bracketed i1) (called es2) n.rest (λ k. cc)
  u_primary (IsPrimary.table_call p1 i1 f1) (IsPrimary.table_call p2 i2 f2) e s1 s2 t1 t2 = let n = same_name p1 p2 e in let h = u_index i1 i2 n.rest in let g = u_parenthesized f1 f2 h.rest in pair (table_same n.tree h.tree g.tree) g.rest
  u_primary (IsPrimary.table_call p1 i1 f1) (IsPrimary.parenthesized f2) e s1 s2 t1 t2 = differ p1.passes (opened f2) e (λ k. cc)
  u_primary (IsPrimary.parenthesized f1) (IsPrimary.number p2) e s1 s2 t1 t2 = differ (opened f1) (number_passes _ p2) e (λ k. cc)
  u_primary (IsPrimary.parenthesized f1) (IsPrimary.name p2) e s1 s2 t1 t2 = differ (opened f1) p2.passes e (λ k. cc)
  u_primary (IsPrimary.parenthesized f1) (IsPrimary.element p2 i2) e s1 s2 t1 t2 = differ (opened f1) p2.passes e (λ k. cc)
  u_primary (IsPrimary.parenthesized f1) (IsPrimary.call p2 es2) e s1 s2 t1 t2 = differ (opened f1) p2.passes e (λ k. cc)
  u_primary (IsPrimary.parenthesized f1) (IsPrimary.table_call p2 i2 f2) e s1 s2 t1 t2 = differ (opened f1) p2.passes e (λ k. cc)
  u_primary (IsPrimary.parenthesized f1) (IsPrimary.parenthesized f2) e s1 s2 t1 t2 = let h = u_parenthesized f1 f2 e in pair (ap RawParenthesized h.tree) h.rest

  u_index : {source : List ℕ} {a b c d : List Token} {x y : RawExprTree} → IsIndex source a x c → IsIndex source b y d → a ≡ b → Same x y c d
  u_index (IsIndex.index o x k) (IsIndex.index p y l) e =
      let h = u_expr x y (same_rest o p e) (closes_at Plain.atRightBracket (λ e. cc) k) (closes_at Plain.atRightBracket (λ e. cc) l) in pair h.tree (same_rest k l h.rest)

  u_parenthesized : {source : List ℕ} {a b c d : List Token} {x y : RawExprTree} → IsParenthesized source a x c → IsParenthesized source b y d → a ≡ b → Same x y c d
  u_parenthesized (IsParenthesized.parentheses o x k) (IsParenthesized.parentheses p y l) e =
      let h = u_expr x y (same_rest o p e) (closes_at Plain.atRightParenthesis (λ e. cc) k) (closes_at Plain.atRightParenthesis (λ e. cc) l) in pair h.tree (same_rest k l h.rest)

  u_arguments : {source : List ℕ} {a b c d : List Token} {x y : RawExprTrees} → AreArguments source a x c → AreArguments source b y d → a ≡ b → Same x y c d
  u_arguments (AreArguments.no_arguments o k) (AreArguments.no_arguments p l) e = pair refl (same_rest k l (same_rest o p e))
  u_arguments (AreArguments.no_arguments o k) (AreArguments.arguments p y ys) e = no_expr_at k y (same_rest o p e)
  u_arguments (AreArguments.arguments o x xs) (AreArguments.no_arguments p l) e = no_expr_at l x (sym (same_rest o p e))
  u_arguments (AreArguments.arguments o x xs) (AreArguments.arguments p y ys) e =
      let h = u_expr x y (same_rest o p e) (more_close xs) (more_close ys) in let i = u_more_arguments xs ys h.rest in pair (and_same h.tree i.tree) i.rest

  u_more_arguments : {source : List ℕ} {a b c d : List Token} {x y : RawExprTrees} → AreMoreArguments source a x c → AreMoreArguments source b y d → a ≡ b → Same x y c d
  u_more_arguments (AreMoreArguments.last_argument k) (AreMoreArguments.last_argument l) e = pair refl (same_rest k l e)
  u_more_arguments (AreMoreArguments.last_argument k) (AreMoreArguments.another_argument p y ys) e = differ k p e (λ k. cc)
  u_more_arguments (AreMoreArguments.another_argument o x xs) (AreMoreArguments.last_argument l) e = differ o l e (λ k. cc)
  u_more_arguments (AreMoreArguments.another_argument o x xs) (AreMoreArguments.another_argument p y ys) e =
      let h = u_expr x y (same_rest o p e) (more_close xs) (more_close ys) in let i = u_more_arguments xs ys h.rest in pair (and_same h.tree i.tree) i.rest

-- statements
simple_name : {source : List ℕ} {a c : List Token} {x : RawSimpleTree} → IsSimple source a x c → Passes signs.Name a (rest_of a)
simple_name (IsSimple.set p o v) = record { is_next = p.passes.is_next; behind = refl }
simple_name (IsSimple.set_element p i o v) = record { is_next = p.passes.is_next; behind = refl }
simple_name (IsSimple.calling p es) = record { is_next = p.passes.is_next; behind = refl }
simple_name (IsSimple.table_calling p i f) = record { is_next = p.passes.is_next; behind = refl }

set_same : {m n : NameTree} {a x : RawExprTree} → m ≡ n → a ≡ x → RawSet m a ≡ RawSet n x
set_same e f = cc

set_element_same : {m n : NameTree} {a b x y : RawExprTree} → m ≡ n → a ≡ x → b ≡ y → RawSetElement m a b ≡ RawSetElement n x y
set_element_same e f g = cc

calling_same : {m n : NameTree} {a x : RawExprTrees} → m ≡ n → a ≡ x → RawCalling m a ≡ RawCalling n x
calling_same e f = cc

table_calling_same : {m n : NameTree} {a b x y : RawExprTree} → m ≡ n → a ≡ x → b ≡ y → RawTableCalling m a b ≡ RawTableCalling n x y
table_calling_same e f g = cc

u_simple : {source : List ℕ} {a b c d : List Token} {x y : RawSimpleTree} → IsSimple source a x c → IsSimple source b y d → a ≡ b → Closes c → Closes d → Same x y c d
u_simple (IsSimple.set p1 o1 v1) (IsSimple.set p2 o2 v2) e s t = let n = same_name p1 p2 e in let h = u_expr v1 v2 (same_rest o1 o2 n.rest) s t in pair (set_same n.tree h.tree) h.rest
u_simple (IsSimple.set p1 o1 v1) (IsSimple.set_element p2 i2 o2 v2) e s t = let n = same_name p1 p2 e in differ o1 (bracketed i2) n.rest (λ k. cc)
u_simple (IsSimple.set p1 o1 v1) (IsSimple.calling p2 es2) e s t = let n = same_name p1 p2 e in differ o1 (called es2) n.rest (λ k. cc)
u_simple (IsSimple.set p1 o1 v1) (IsSimple.table_calling p2 i2 f2) e s t = let n = same_name p1 p2 e in differ o1 (bracketed i2) n.rest (λ k. cc)
u_simple (IsSimple.set_element p1 i1 o1 v1) (IsSimple.set p2 o2 v2) e s t = let n = same_name p1 p2 e in differ (bracketed i1) o2 n.rest (λ k. cc)
u_simple (IsSimple.set_element p1 i1 o1 v1) (IsSimple.set_element p2 i2 o2 v2) e s t = let n = same_name p1 p2 e in let i = u_index i1 i2 n.rest in let h = u_expr v1 v2 (same_rest o1 o2 i.rest) s t in pair (set_element_same n.tree i.tree h.tree) h.rest
u_simple (IsSimple.set_element p1 i1 o1 v1) (IsSimple.calling p2 es2) e s t = let n = same_name p1 p2 e in differ (bracketed i1) (called es2) n.rest (λ k. cc)
u_simple (IsSimple.set_element p1 i1 o1 v1) (IsSimple.table_calling p2 i2 f2) e s t = let n = same_name p1 p2 e in let i = u_index i1 i2 n.rest in differ o1 (opened f2) i.rest (λ k. cc)
u_simple (IsSimple.calling p1 es1) (IsSimple.set p2 o2 v2) e s t = let n = same_name p1 p2 e in differ (called es1) o2 n.rest (λ k. cc)
u_simple (IsSimple.calling p1 es1) (IsSimple.set_element p2 i2 o2 v2) e s t = let n = same_name p1 p2 e in differ (called es1) (bracketed i2) n.rest (λ k. cc)
u_simple (IsSimple.calling p1 es1) (IsSimple.calling p2 es2) e s t = let n = same_name p1 p2 e in let h = u_arguments es1 es2 n.rest in pair (calling_same n.tree h.tree) h.rest
u_simple (IsSimple.calling p1 es1) (IsSimple.table_calling p2 i2 f2) e s t = let n = same_name p1 p2 e in differ (called es1) (bracketed i2) n.rest (λ k. cc)
u_simple (IsSimple.table_calling p1 i1 f1) (IsSimple.set p2 o2 v2) e s t = let n = same_name p1 p2 e in differ (bracketed i1) o2 n.rest (λ k. cc)
u_simple (IsSimple.table_calling p1 i1 f1) (IsSimple.set_element p2 i2 o2 v2) e s t = let n = same_name p1 p2 e in let i = u_index i1 i2 n.rest in differ (opened f1) o2 i.rest (λ k. cc)
u_simple (IsSimple.table_calling p1 i1 f1) (IsSimple.calling p2 es2) e s t = let n = same_name p1 p2 e in differ (bracketed i1) (called es2) n.rest (λ k. cc)
u_simple (IsSimple.table_calling p1 i1 f1) (IsSimple.table_calling p2 i2 f2) e s t = let n = same_name p1 p2 e in let i = u_index i1 i2 n.rest in let h = u_parenthesized f1 f2 i.rest in pair (table_calling_same n.tree i.tree h.tree) h.rest

u_size : {a b c d : List Token} {v w : ℕ} → IsSize a v c → IsSize b w d → a ≡ b → Same v w c d
u_size p q e = let n = same_number p.number q.number (same_rest p.opened q.opened e) in pair n.tree (same_rest p.closed q.closed n.rest)

-- what is behind a name goes on with no value and no size
record Bare (after : List Token) : Type 0 where
  value : next_sign after ≢ signs.Assign
  bracket : next_sign after ≢ signs.LeftBracket

bare_at : {s : Sign} {after b : List Token} → (s ≡ signs.Assign → ⊥) → (s ≡ signs.LeftBracket → ⊥) → Passes s after b → Bare after
bare_at v k p = record { value = λ e. v (sym p.is_next ∙ e); bracket = λ e. k (sym p.is_next ∙ e) }

declare_same : {m n : NameTree} {a x : RawExprTree} → m ≡ n → a ≡ x → RawDeclareWith m a ≡ RawDeclareWith n x
declare_same e f = cc

array_same : {m n : NameTree} {a x : ℕ} → m ≡ n → a ≡ x → RawDeclareArray m a ≡ RawDeclareArray n x
array_same e f = cc

u_local : {source : List ℕ} {a b c d : List Token} {x y : RawSimpleTree} → IsLocal source a x c → IsLocal source b y d → a ≡ b → Bare c → Bare d → Closes c → Closes d → Same x y c d
u_local (IsLocal.scalar p1) (IsLocal.scalar p2) e u v s t = let n = same_name p1 p2 e in pair (ap RawDeclareScalar n.tree) n.rest
u_local (IsLocal.scalar p1) (IsLocal.with_value p2 o2 v2) e u v s t = let n = same_name p1 p2 e in absurd (u.value (ap next_sign n.rest ∙ o2.is_next))
u_local (IsLocal.scalar p1) (IsLocal.array p2 z2) e u v s t = let n = same_name p1 p2 e in absurd (u.bracket (ap next_sign n.rest ∙ z2.opened.is_next))
u_local (IsLocal.with_value p1 o1 v1) (IsLocal.scalar p2) e u v s t = let n = same_name p1 p2 e in absurd (v.value (ap next_sign (sym n.rest) ∙ o1.is_next))
u_local (IsLocal.with_value p1 o1 v1) (IsLocal.with_value p2 o2 v2) e u v s t = let n = same_name p1 p2 e in let h = u_expr v1 v2 (same_rest o1 o2 n.rest) s t in pair (declare_same n.tree h.tree) h.rest
u_local (IsLocal.with_value p1 o1 v1) (IsLocal.array p2 z2) e u v s t = let n = same_name p1 p2 e in differ o1 z2.opened n.rest (λ k. cc)
u_local (IsLocal.array p1 z1) (IsLocal.scalar p2) e u v s t = let n = same_name p1 p2 e in absurd (v.bracket (ap next_sign (sym n.rest) ∙ z1.opened.is_next))
u_local (IsLocal.array p1 z1) (IsLocal.with_value p2 o2 v2) e u v s t = let n = same_name p1 p2 e in differ z1.opened o2 n.rest (λ k. cc)
u_local (IsLocal.array p1 z1) (IsLocal.array p2 z2) e u v s t = let n = same_name p1 p2 e in let h = u_size z1 z2 n.rest in pair (array_same n.tree h.tree) h.rest

locals_bare : {source : List ℕ} {a c : List Token} {x : List RawSimpleTree} → AreMoreLocals source a x c → Bare a
locals_bare (AreMoreLocals.last_local k) = bare_at (λ e. cc) (λ e. cc) k
locals_bare (AreMoreLocals.another_local k l ls) = bare_at (λ e. cc) (λ e. cc) k

locals_close : {source : List ℕ} {a c : List Token} {x : List RawSimpleTree} → AreMoreLocals source a x c → Closes a
locals_close (AreMoreLocals.last_local k) = closes_at Plain.atSemicolon (λ e. cc) k
locals_close (AreMoreLocals.another_local k l ls) = closes_at Plain.atComma (λ e. cc) k

cons_same : {T : Type 0} {a x : T} {b y : List T} → a ≡ x → b ≡ y → a ∷ b ≡ x ∷ y
cons_same e f = cc

u_more_locals : {source : List ℕ} {a b c d : List Token} {x y : List RawSimpleTree} → AreMoreLocals source a x c → AreMoreLocals source b y d → a ≡ b → Same x y c d
u_more_locals (AreMoreLocals.last_local k) (AreMoreLocals.last_local l) e = pair refl (same_rest k l e)
u_more_locals (AreMoreLocals.last_local k) (AreMoreLocals.another_local o l ls) e = differ k o e (λ k. cc)
u_more_locals (AreMoreLocals.another_local o l ls) (AreMoreLocals.last_local k) e = differ o k e (λ k. cc)
u_more_locals (AreMoreLocals.another_local o l ls) (AreMoreLocals.another_local q m ms) e =
    let h = u_local l m (same_rest o q e) (locals_bare ls) (locals_bare ms) (locals_close ls) (locals_close ms) in let i = u_more_locals ls ms h.rest in pair (cons_same h.tree i.tree) i.rest

u_locals : {source : List ℕ} {a b c d : List Token} {x y : List RawSimpleTree} → AreLocals source a x c → AreLocals source b y d → a ≡ b → Same x y c d
u_locals (AreLocals.locals o l ls) (AreLocals.locals q m ms) e =
    let h = u_local l m (same_rest o q e) (locals_bare ls) (locals_bare ms) (locals_close ls) (locals_close ms) in let i = u_more_locals ls ms h.rest in pair (cons_same h.tree i.tree) i.rest

locals_int : {source : List ℕ} {a c : List Token} {x : List RawSimpleTree} → AreLocals source a x c → Passes signs.Int a (rest_of a)
locals_int (AreLocals.locals o l ls) = record { is_next = o.is_next; behind = refl }

u_up_to : {source : List ℕ} {a b c d : List Token} {x y : Option RawExprTree} → IsUpToSemicolon source a x c → IsUpToSemicolon source b y d → a ≡ b → Same x y c d
u_up_to (IsUpToSemicolon.nothing k) (IsUpToSemicolon.nothing l) e = pair refl (same_rest k l e)
u_up_to (IsUpToSemicolon.nothing k) (IsUpToSemicolon.something y l) e = no_expr_semicolon k y e
u_up_to (IsUpToSemicolon.something x k) (IsUpToSemicolon.nothing l) e = no_expr_semicolon l x (sym e)
u_up_to (IsUpToSemicolon.something x k) (IsUpToSemicolon.something y l) e =
    let h = u_expr x y e (closes_at Plain.atSemicolon (λ e. cc) k) (closes_at Plain.atSemicolon (λ e. cc) l) in pair (ap Some h.tree) (same_rest k l h.rest)

u_for_init : {source : List ℕ} {a b c d : List Token} {x y : List RawSimpleTree} → IsForInit source a x c → IsForInit source b y d → a ≡ b → Same x y c d
u_for_init (IsForInit.no_init k) (IsForInit.no_init l) e = pair refl (same_rest k l e)
u_for_init (IsForInit.no_init k) (IsForInit.locals_init ms) e = differ k (locals_int ms) e (λ k. cc)
u_for_init (IsForInit.no_init k) (IsForInit.simple_init m l) e = differ k (simple_name m) e (λ k. cc)
u_for_init (IsForInit.locals_init ls) (IsForInit.no_init l) e = differ (locals_int ls) l e (λ k. cc)
u_for_init (IsForInit.locals_init ls) (IsForInit.locals_init ms) e = u_locals ls ms e
u_for_init (IsForInit.locals_init ls) (IsForInit.simple_init m l) e = differ (locals_int ls) (simple_name m) e (λ k. cc)
u_for_init (IsForInit.simple_init s k) (IsForInit.no_init l) e = differ (simple_name s) l e (λ k. cc)
u_for_init (IsForInit.simple_init s k) (IsForInit.locals_init ms) e = differ (simple_name s) (locals_int ms) e (λ k. cc)
u_for_init (IsForInit.simple_init s k) (IsForInit.simple_init m l) e =
    let h = u_simple s m e (closes_at Plain.atSemicolon (λ e. cc) k) (closes_at Plain.atSemicolon (λ e. cc) l) in pair (cons_same h.tree refl) (same_rest k l h.rest)

u_for_step : {source : List ℕ} {a b c d : List Token} {x y : Option RawSimpleTree} → IsForStep source a x c → IsForStep source b y d → a ≡ b → Same x y c d
u_for_step (IsForStep.no_step k) (IsForStep.no_step l) e = pair refl (same_rest k l e)
u_for_step (IsForStep.no_step k) (IsForStep.step m l) e = differ k (simple_name m) e (λ k. cc)
u_for_step (IsForStep.step s k) (IsForStep.no_step l) e = differ (simple_name s) l e (λ k. cc)
u_for_step (IsForStep.step s k) (IsForStep.step m l) e =
    let h = u_simple s m e (closes_at Plain.atRightParenthesis (λ e. cc) k) (closes_at Plain.atRightParenthesis (λ e. cc) l) in pair (ap Some h.tree) (same_rest k l h.rest)

block_brace : {nearest : Bool} {source : List ℕ} {a c : List Token} {x : RawStmtTrees} → IsBlock nearest source a x c → Passes signs.LeftBrace a (rest_of a)
block_brace (IsBlock.braces o ss) = record { is_next = o.is_next; behind = refl }

if_same : {a x : RawExprTree} {b y : RawStmtTree} → a ≡ x → b ≡ y → RawIf a b ≡ RawIf x y
if_same e f = cc

if_else_same : {a x : RawExprTree} {b c y z : RawStmtTree} → a ≡ x → b ≡ y → c ≡ z → RawIfElse a b c ≡ RawIfElse x y z
if_else_same e f g = cc

while_same : {a x : RawExprTree} {b y : RawStmtTree} → a ≡ x → b ≡ y → RawWhile a b ≡ RawWhile x y
while_same e f = cc

for_same : {i j : List RawSimpleTree} {a x : Option RawExprTree} {k l : Option RawSimpleTree} {b y : RawStmtTree} → i ≡ j → a ≡ x → k ≡ l → b ≡ y → RawFor i a k b ≡ RawFor j x l y
for_same e f g h = cc

return_same : {m n : ℕ} {a x : Option RawExprTree} → m ≡ n → a ≡ x → RawReturn m a ≡ RawReturn n x
return_same e f = cc

then_same : {a x : RawStmtTree} {b y : RawStmtTrees} → a ≡ x → b ≡ y → RawThen a b ≡ RawThen x y
then_same e f = cc

declared_same : {a x : List RawSimpleTree} {b y : RawStmtTrees} → a ≡ x → b ≡ y → declared_before a b ≡ declared_before x y
declared_same {a = l} {y = s} e f = ap (declared_before l) f ∙ ap (λ k. declared_before k s) e

-- how a statement begins
data StartsBody : Sign → Type 0 where
  atName : StartsBody signs.Name
  atSemicolon : StartsBody signs.Semicolon
  atLeftBrace : StartsBody signs.LeftBrace
  atIf : StartsBody signs.If
  atWhile : StartsBody signs.While
  atFor : StartsBody signs.For
  atBreak : StartsBody signs.Break
  atContinue : StartsBody signs.Continue
  atReturn : StartsBody signs.Return

body_begins : {nearest : Bool} {source : List ℕ} {a c : List Token} {x : RawStmtTree} → IsBody nearest source a x c → Beginning StartsBody a
body_begins (IsBody.simple s k) = record { sign = signs.Name; kind = StartsBody.atName; is_next = (simple_name s).is_next }
body_begins (IsBody.empty k) = record { sign = signs.Semicolon; kind = StartsBody.atSemicolon; is_next = k.is_next }
body_begins (IsBody.block b) = record { sign = signs.LeftBrace; kind = StartsBody.atLeftBrace; is_next = (block_brace b).is_next }
body_begins (IsBody.if_alone i f s m) = record { sign = signs.If; kind = StartsBody.atIf; is_next = i.is_next }
body_begins (IsBody.if_else i f s l r) = record { sign = signs.If; kind = StartsBody.atIf; is_next = i.is_next }
body_begins (IsBody.while_loop w f s) = record { sign = signs.While; kind = StartsBody.atWhile; is_next = w.is_next }
body_begins (IsBody.for_loop w o n u z s) = record { sign = signs.For; kind = StartsBody.atFor; is_next = w.is_next }
body_begins (IsBody.break_loop w k) = record { sign = signs.Break; kind = StartsBody.atBreak; is_next = w.is_next }
body_begins (IsBody.continue_loop w k) = record { sign = signs.Continue; kind = StartsBody.atContinue; is_next = w.is_next }
body_begins (IsBody.return_value w u) = record { sign = signs.Return; kind = StartsBody.atReturn; is_next = w.is_next }

no_brace_body : {s : Sign} → StartsBody s → s ≡ signs.RightBrace → ⊥
no_brace_body StartsBody.atName e = cc
no_brace_body _ e = cc

no_int_body : {s : Sign} → StartsBody s → s ≡ signs.Int → ⊥
no_int_body StartsBody.atName e = cc
no_int_body _ e = cc

no_body_brace : {source : List ℕ} {a b c d : List Token} {x : RawStmtTree} {C : Type 0} → Passes signs.RightBrace a c → IsBody true source b x d → a ≡ b → C
no_body_brace p x e = let b = body_begins x in absurd (no_brace_body b.kind (sym b.is_next ∙ (ap next_sign (sym e) ∙ p.is_next)))

no_body_int : {source : List ℕ} {a b c d : List Token} {x : RawStmtTree} {C : Type 0} → Passes signs.Int a c → IsBody true source b x d → a ≡ b → C
no_body_int p x e = let b = body_begins x in absurd (no_int_body b.kind (sym b.is_next ∙ (ap next_sign (sym e) ∙ p.is_next)))

mutual
  u_body : {source : List ℕ} {a b c d : List Token} {x y : RawStmtTree} → IsBody true source a x c → IsBody true source b y d → a ≡ b → Same x y c d
  u_body (IsBody.simple s1 k1) (IsBody.simple s2 k2) e = let h = u_simple s1 s2 e (closes_at Plain.atSemicolon (λ e. cc) k1) (closes_at Plain.atSemicolon (λ e. cc) k2) in pair (ap RawDo h.tree) (same_rest k1 k2 h.rest)
  u_body (IsBody.simple s1 k1) (IsBody.empty k2) e = differ (simple_name s1) k2 e (λ k. cc)
  u_body (IsBody.simple s1 k1) (IsBody.block b2) e = differ (simple_name s1) (block_brace b2) e (λ k. cc)
  u_body (IsBody.simple s1 k1) (IsBody.if_alone i2 f2 s2 m2) e = differ (simple_name s1) i2 e (λ k. cc)
  u_body (IsBody.simple s1 k1) (IsBody.if_else i2 f2 s2 l2 r2) e = differ (simple_name s1) i2 e (λ k. cc)
  u_body (IsBody.simple s1 k1) (IsBody.while_loop w2 f2 s2) e = differ (simple_name s1) w2 e (λ k. cc)
  u_body (IsBody.simple s1 k1) (IsBody.for_loop w2 o2 n2 u2 z2 s2) e = differ (simple_name s1) w2 e (λ k. cc)
  u_body (IsBody.simple s1 k1) (IsBody.break_loop w2 k2) e = differ (simple_name s1) w2 e (λ k. cc)
  u_body (IsBody.simple s1 k1) (IsBody.continue_loop w2 k2) e = differ (simple_name s1) w2 e (λ k. cc)
  u_body (IsBody.simple s1 k1) (IsBody.return_value w2 u2) e = differ (simple_name s1) w2 e (λ k. cc)
  u_body (IsBody.empty k1) (IsBody.simple s2 k2) e = differ k1 (simple_name s2) e (λ k. cc)
  u_body (IsBody.empty k1) (IsBody.empty k2) e = pair refl (same_rest k1 k2 e)
  u_body (IsBody.empty k1) (IsBody.block b2) e = differ k1 (block_brace b2) e (λ k. cc)
  u_body (IsBody.empty k1) (IsBody.if_alone i2 f2 s2 m2) e = differ k1 i2 e (λ k. cc)
  u_body (IsBody.empty k1) (IsBody.if_else i2 f2 s2 l2 r2) e = differ k1 i2 e (λ k. cc)
  u_body (IsBody.empty k1) (IsBody.while_loop w2 f2 s2) e = differ k1 w2 e (λ k. cc)
  u_body (IsBody.empty k1) (IsBody.for_loop w2 o2 n2 u2 z2 s2) e = differ k1 w2 e (λ k. cc)
  u_body (IsBody.empty k1) (IsBody.break_loop w2 k2) e = differ k1 w2 e (λ k. cc)
  u_body (IsBody.empty k1) (IsBody.continue_loop w2 k2) e = differ k1 w2 e (λ k. cc)
  u_body (IsBody.empty k1) (IsBody.return_value w2 u2) e = differ k1 w2 e (λ k. cc)
  u_body (IsBody.block b1) (IsBody.simple s2 k2) e = differ (block_brace b1) (simple_name s2) e (λ k. cc)
  u_body (IsBody.block b1) (IsBody.empty k2) e = differ (block_brace b1) k2 e (λ k. cc)
  u_body (IsBody.block b1) (IsBody.block b2) e = let h = u_block b1 b2 e in pair (ap RawBlock h.tree) h.rest
  u_body (IsBody.block b1) (IsBody.if_alone i2 f2 s2 m2) e = differ (block_brace b1) i2 e (λ k. cc)
  u_body (IsBody.block b1) (IsBody.if_else i2 f2 s2 l2 r2) e = differ (block_brace b1) i2 e (λ k. cc)
  u_body (IsBody.block b1) (IsBody.while_loop w2 f2 s2) e = differ (block_brace b1) w2 e (λ k. cc)
  u_body (IsBody.block b1) (IsBody.for_loop w2 o2 n2 u2 z2 s2) e = differ (block_brace b1) w2 e (λ k. cc)
  u_body (IsBody.block b1) (IsBody.break_loop w2 k2) e = differ (block_brace b1) w2 e (λ k. cc)
  u_body (IsBody.block b1) (IsBody.continue_loop w2 k2) e = differ (block_brace b1) w2 e (λ k. cc)
  u_body (IsBody.block b1) (IsBody.return_value w2 u2) e = differ (block_brace b1) w2 e (λ k. cc)
  u_body (IsBody.if_alone i1 f1 s1 m1) (IsBody.simple s2 k2) e = differ i1 (simple_name s2) e (λ k. cc)
  u_body (IsBody.if_alone i1 f1 s1 m1) (IsBody.empty k2) e = differ i1 k2 e (λ k. cc)
  u_body (IsBody.if_alone i1 f1 s1 m1) (IsBody.block b2) e = differ i1 (block_brace b2) e (λ k. cc)
  u_body (IsBody.if_alone i1 f1 s1 m1) (IsBody.if_alone i2 f2 s2 m2) e = let h = u_parenthesized f1 f2 (same_rest i1 i2 e) in let g = u_body s1 s2 h.rest in pair (if_same h.tree g.tree) g.rest
  u_body (IsBody.if_alone i1 f1 s1 m1) (IsBody.if_else i2 f2 s2 l2 r2) e = let h = u_parenthesized f1 f2 (same_rest i1 i2 e) in let g = u_body s1 s2 h.rest in absurd (m1 refl (ap next_sign g.rest ∙ l2.is_next))
  u_body (IsBody.if_alone i1 f1 s1 m1) (IsBody.while_loop w2 f2 s2) e = differ i1 w2 e (λ k. cc)
  u_body (IsBody.if_alone i1 f1 s1 m1) (IsBody.for_loop w2 o2 n2 u2 z2 s2) e = differ i1 w2 e (λ k. cc)
  u_body (IsBody.if_alone i1 f1 s1 m1) (IsBody.break_loop w2 k2) e = differ i1 w2 e (λ k. cc)
  u_body (IsBody.if_alone i1 f1 s1 m1) (IsBody.continue_loop w2 k2) e = differ i1 w2 e (λ k. cc)
  u_body (IsBody.if_alone i1 f1 s1 m1) (IsBody.return_value w2 u2) e = differ i1 w2 e (λ k. cc)
  u_body (IsBody.if_else i1 f1 s1 l1 r1) (IsBody.simple s2 k2) e = differ i1 (simple_name s2) e (λ k. cc)
  u_body (IsBody.if_else i1 f1 s1 l1 r1) (IsBody.empty k2) e = differ i1 k2 e (λ k. cc)
  u_body (IsBody.if_else i1 f1 s1 l1 r1) (IsBody.block b2) e = differ i1 (block_brace b2) e (λ k. cc)
  u_body (IsBody.if_else i1 f1 s1 l1 r1) (IsBody.if_alone i2 f2 s2 m2) e = let h = u_parenthesized f1 f2 (same_rest i1 i2 e) in let g = u_body s1 s2 h.rest in absurd (m2 refl (ap next_sign (sym g.rest) ∙ l1.is_next))
  u_body (IsBody.if_else i1 f1 s1 l1 r1) (IsBody.if_else i2 f2 s2 l2 r2) e = let h = u_parenthesized f1 f2 (same_rest i1 i2 e) in let g = u_body s1 s2 h.rest in let j = u_body r1 r2 (same_rest l1 l2 g.rest) in pair (if_else_same h.tree g.tree j.tree) j.rest
  u_body (IsBody.if_else i1 f1 s1 l1 r1) (IsBody.while_loop w2 f2 s2) e = differ i1 w2 e (λ k. cc)
  u_body (IsBody.if_else i1 f1 s1 l1 r1) (IsBody.for_loop w2 o2 n2 u2 z2 s2) e = differ i1 w2 e (λ k. cc)
  u_body (IsBody.if_else i1 f1 s1 l1 r1) (IsBody.break_loop w2 k2) e = differ i1 w2 e (λ k. cc)
  u_body (IsBody.if_else i1 f1 s1 l1 r1) (IsBody.continue_loop w2 k2) e = differ i1 w2 e (λ k. cc)
  u_body (IsBody.if_else i1 f1 s1 l1 r1) (IsBody.return_value w2 u2) e = differ i1 w2 e (λ k. cc)
  u_body (IsBody.while_loop w1 f1 s1) (IsBody.simple s2 k2) e = differ w1 (simple_name s2) e (λ k. cc)
  u_body (IsBody.while_loop w1 f1 s1) (IsBody.empty k2) e = differ w1 k2 e (λ k. cc)
  u_body (IsBody.while_loop w1 f1 s1) (IsBody.block b2) e = differ w1 (block_brace b2) e (λ k. cc)
  u_body (IsBody.while_loop w1 f1 s1) (IsBody.if_alone i2 f2 s2 m2) e = differ w1 i2 e (λ k. cc)
  u_body (IsBody.while_loop w1 f1 s1) (IsBody.if_else i2 f2 s2 l2 r2) e = differ w1 i2 e (λ k. cc)
  u_body (IsBody.while_loop w1 f1 s1) (IsBody.while_loop w2 f2 s2) e = let h = u_parenthesized f1 f2 (same_rest w1 w2 e) in let g = u_body s1 s2 h.rest in pair (while_same h.tree g.tree) g.rest
  u_body (IsBody.while_loop w1 f1 s1) (IsBody.for_loop w2 o2 n2 u2 z2 s2) e = differ w1 w2 e (λ k. cc)
  u_body (IsBody.while_loop w1 f1 s1) (IsBody.break_loop w2 k2) e = differ w1 w2 e (λ k. cc)
  u_body (IsBody.while_loop w1 f1 s1) (IsBody.continue_loop w2 k2) e = differ w1 w2 e (λ k. cc)
  u_body (IsBody.while_loop w1 f1 s1) (IsBody.return_value w2 u2) e = differ w1 w2 e (λ k. cc)
  u_body (IsBody.for_loop w1 o1 n1 u1 z1 s1) (IsBody.simple s2 k2) e = differ w1 (simple_name s2) e (λ k. cc)
  u_body (IsBody.for_loop w1 o1 n1 u1 z1 s1) (IsBody.empty k2) e = differ w1 k2 e (λ k. cc)
  u_body (IsBody.for_loop w1 o1 n1 u1 z1 s1) (IsBody.block b2) e = differ w1 (block_brace b2) e (λ k. cc)
  u_body (IsBody.for_loop w1 o1 n1 u1 z1 s1) (IsBody.if_alone i2 f2 s2 m2) e = differ w1 i2 e (λ k. cc)
  u_body (IsBody.for_loop w1 o1 n1 u1 z1 s1) (IsBody.if_else i2 f2 s2 l2 r2) e = differ w1 i2 e (λ k. cc)
  u_body (IsBody.for_loop w1 o1 n1 u1 z1 s1) (IsBody.while_loop w2 f2 s2) e = differ w1 w2 e (λ k. cc)
  u_body (IsBody.for_loop w1 o1 n1 u1 z1 s1) (IsBody.for_loop w2 o2 n2 u2 z2 s2) e = let h = u_for_init n1 n2 (same_rest o1 o2 (same_rest w1 w2 e)) in let i = u_up_to u1 u2 h.rest in let j = u_for_step z1 z2 i.rest in let g = u_body s1 s2 j.rest in pair (for_same h.tree i.tree j.tree g.tree) g.rest
  u_body (IsBody.for_loop w1 o1 n1 u1 z1 s1) (IsBody.break_loop w2 k2) e = differ w1 w2 e (λ k. cc)
  u_body (IsBody.for_loop w1 o1 n1 u1 z1 s1) (IsBody.continue_loop w2 k2) e = differ w1 w2 e (λ k. cc)
  u_body (IsBody.for_loop w1 o1 n1 u1 z1 s1) (IsBody.return_value w2 u2) e = differ w1 w2 e (λ k. cc)
  u_body (IsBody.break_loop w1 k1) (IsBody.simple s2 k2) e = differ w1 (simple_name s2) e (λ k. cc)
  u_body (IsBody.break_loop w1 k1) (IsBody.empty k2) e = differ w1 k2 e (λ k. cc)
  u_body (IsBody.break_loop w1 k1) (IsBody.block b2) e = differ w1 (block_brace b2) e (λ k. cc)
  u_body (IsBody.break_loop w1 k1) (IsBody.if_alone i2 f2 s2 m2) e = differ w1 i2 e (λ k. cc)
  u_body (IsBody.break_loop w1 k1) (IsBody.if_else i2 f2 s2 l2 r2) e = differ w1 i2 e (λ k. cc)
  u_body (IsBody.break_loop w1 k1) (IsBody.while_loop w2 f2 s2) e = differ w1 w2 e (λ k. cc)
  u_body (IsBody.break_loop w1 k1) (IsBody.for_loop w2 o2 n2 u2 z2 s2) e = differ w1 w2 e (λ k. cc)
  u_body (IsBody.break_loop w1 k1) (IsBody.break_loop w2 k2) e = pair (ap (λ l. RawBreak (next_at l)) e) (same_rest k1 k2 (same_rest w1 w2 e))
  u_body (IsBody.break_loop w1 k1) (IsBody.continue_loop w2 k2) e = differ w1 w2 e (λ k. cc)
  u_body (IsBody.break_loop w1 k1) (IsBody.return_value w2 u2) e = differ w1 w2 e (λ k. cc)
  u_body (IsBody.continue_loop w1 k1) (IsBody.simple s2 k2) e = differ w1 (simple_name s2) e (λ k. cc)
  u_body (IsBody.continue_loop w1 k1) (IsBody.empty k2) e = differ w1 k2 e (λ k. cc)
  u_body (IsBody.continue_loop w1 k1) (IsBody.block b2) e = differ w1 (block_brace b2) e (λ k. cc)
  u_body (IsBody.continue_loop w1 k1) (IsBody.if_alone i2 f2 s2 m2) e = differ w1 i2 e (λ k. cc)
  u_body (IsBody.continue_loop w1 k1) (IsBody.if_else i2 f2 s2 l2 r2) e = differ w1 i2 e (λ k. cc)
  u_body (IsBody.continue_loop w1 k1) (IsBody.while_loop w2 f2 s2) e = differ w1 w2 e (λ k. cc)
  u_body (IsBody.continue_loop w1 k1) (IsBody.for_loop w2 o2 n2 u2 z2 s2) e = differ w1 w2 e (λ k. cc)
  u_body (IsBody.continue_loop w1 k1) (IsBody.break_loop w2 k2) e = differ w1 w2 e (λ k. cc)
  u_body (IsBody.continue_loop w1 k1) (IsBody.continue_loop w2 k2) e = pair (ap (λ l. RawContinue (next_at l)) e) (same_rest k1 k2 (same_rest w1 w2 e))
  u_body (IsBody.continue_loop w1 k1) (IsBody.return_value w2 u2) e = differ w1 w2 e (λ k. cc)
  u_body (IsBody.return_value w1 u1) (IsBody.simple s2 k2) e = differ w1 (simple_name s2) e (λ k. cc)
  u_body (IsBody.return_value w1 u1) (IsBody.empty k2) e = differ w1 k2 e (λ k. cc)
  u_body (IsBody.return_value w1 u1) (IsBody.block b2) e = differ w1 (block_brace b2) e (λ k. cc)
  u_body (IsBody.return_value w1 u1) (IsBody.if_alone i2 f2 s2 m2) e = differ w1 i2 e (λ k. cc)
  u_body (IsBody.return_value w1 u1) (IsBody.if_else i2 f2 s2 l2 r2) e = differ w1 i2 e (λ k. cc)
  u_body (IsBody.return_value w1 u1) (IsBody.while_loop w2 f2 s2) e = differ w1 w2 e (λ k. cc)
  u_body (IsBody.return_value w1 u1) (IsBody.for_loop w2 o2 n2 u2 z2 s2) e = differ w1 w2 e (λ k. cc)
  u_body (IsBody.return_value w1 u1) (IsBody.break_loop w2 k2) e = differ w1 w2 e (λ k. cc)
  u_body (IsBody.return_value w1 u1) (IsBody.continue_loop w2 k2) e = differ w1 w2 e (λ k. cc)
  u_body (IsBody.return_value w1 u1) (IsBody.return_value w2 u2) e = let h = u_up_to u1 u2 (same_rest w1 w2 e) in pair (return_same (ap next_at e) h.tree) h.rest

  u_block : {source : List ℕ} {a b c d : List Token} {x y : RawStmtTrees} → IsBlock true source a x c → IsBlock true source b y d → a ≡ b → Same x y c d
  u_block (IsBlock.braces o ss) (IsBlock.braces q ts) e = u_stmts ss ts (same_rest o q e)

  u_stmts : {source : List ℕ} {a b c d : List Token} {x y : RawStmtTrees} → AreStmts true source a x c → AreStmts true source b y d → a ≡ b → Same x y c d
  u_stmts (AreStmts.last_stmt k) (AreStmts.last_stmt l) e = pair refl (same_rest k l e)
  u_stmts (AreStmts.last_stmt k) (AreStmts.declarations ds ts) e = differ k (locals_int ds) e (λ k. cc)
  u_stmts (AreStmts.last_stmt k) (AreStmts.another_stmt t ts) e = no_body_brace k t e
  u_stmts (AreStmts.declarations cs ss) (AreStmts.last_stmt l) e = differ (locals_int cs) l e (λ k. cc)
  u_stmts (AreStmts.declarations cs ss) (AreStmts.declarations ds ts) e = let h = u_locals cs ds e in let i = u_stmts ss ts h.rest in pair (declared_same h.tree i.tree) i.rest
  u_stmts (AreStmts.declarations cs ss) (AreStmts.another_stmt t ts) e = no_body_int (locals_int cs) t e
  u_stmts (AreStmts.another_stmt s ss) (AreStmts.last_stmt l) e = no_body_brace l s (sym e)
  u_stmts (AreStmts.another_stmt s ss) (AreStmts.declarations ds ts) e = no_body_int (locals_int ds) s (sym e)
  u_stmts (AreStmts.another_stmt s ss) (AreStmts.another_stmt t ts) e = let h = u_body s t e in let i = u_stmts ss ts h.rest in pair (then_same h.tree i.tree) i.rest

-- items
u_start : {source : List ℕ} {a b c d : List Token} {v w : ℕ} → IsStart source a v c → IsStart source b w d → a ≡ b → Same v w c d
u_start (IsStart.plain n) (IsStart.plain m) e = same_number n m e
u_start (IsStart.plain n) (IsStart.negative k m) e = differ (number_passes _ n) k e (λ k. cc)
u_start (IsStart.negative k n) (IsStart.plain m) e = differ k (number_passes _ m) e (λ k. cc)
u_start (IsStart.negative k n) (IsStart.negative l m) e = let h = same_number n m (same_rest k l e) in pair (ap (λ v. (2 ^ 32 - v) % 2 ^ 32) h.tree) h.rest

global_same : {m n : NameTree} {a x : ℕ} → m ≡ n → a ≡ x → RawGlobal m a ≡ RawGlobal n x
global_same e f = cc

global_array_same : {m n : NameTree} {a x : ℕ} → m ≡ n → a ≡ x → RawGlobalArray m a ≡ RawGlobalArray n x
global_array_same e f = cc

u_global : {source : List ℕ} {a b c d : List Token} {x y : RawItemTree} → IsGlobal source a x c → IsGlobal source b y d → a ≡ b → Bare c → Bare d → Same x y c d
u_global (IsGlobal.scalar p1) (IsGlobal.scalar p2) e u v = let n = same_name p1 p2 e in pair (global_same n.tree refl) n.rest
u_global (IsGlobal.scalar p1) (IsGlobal.with_start p2 o2 v2) e u v = let n = same_name p1 p2 e in absurd (u.value (ap next_sign n.rest ∙ o2.is_next))
u_global (IsGlobal.scalar p1) (IsGlobal.array p2 z2) e u v = let n = same_name p1 p2 e in absurd (u.bracket (ap next_sign n.rest ∙ z2.opened.is_next))
u_global (IsGlobal.with_start p1 o1 v1) (IsGlobal.scalar p2) e u v = let n = same_name p1 p2 e in absurd (v.value (ap next_sign (sym n.rest) ∙ o1.is_next))
u_global (IsGlobal.with_start p1 o1 v1) (IsGlobal.with_start p2 o2 v2) e u v = let n = same_name p1 p2 e in let h = u_start v1 v2 (same_rest o1 o2 n.rest) in pair (global_same n.tree h.tree) h.rest
u_global (IsGlobal.with_start p1 o1 v1) (IsGlobal.array p2 z2) e u v = let n = same_name p1 p2 e in differ o1 z2.opened n.rest (λ k. cc)
u_global (IsGlobal.array p1 z1) (IsGlobal.scalar p2) e u v = let n = same_name p1 p2 e in absurd (v.bracket (ap next_sign (sym n.rest) ∙ z1.opened.is_next))
u_global (IsGlobal.array p1 z1) (IsGlobal.with_start p2 o2 v2) e u v = let n = same_name p1 p2 e in differ z1.opened o2 n.rest (λ k. cc)
u_global (IsGlobal.array p1 z1) (IsGlobal.array p2 z2) e u v = let n = same_name p1 p2 e in let h = u_size z1 z2 n.rest in pair (global_array_same n.tree h.tree) h.rest

globals_bare : {source : List ℕ} {a c : List Token} {x : List RawItemTree} → AreMoreGlobals source a x c → Bare a
globals_bare (AreMoreGlobals.last_global k) = bare_at (λ e. cc) (λ e. cc) k
globals_bare (AreMoreGlobals.another_global k g gs) = bare_at (λ e. cc) (λ e. cc) k

u_more_globals : {source : List ℕ} {a b c d : List Token} {x y : List RawItemTree} → AreMoreGlobals source a x c → AreMoreGlobals source b y d → a ≡ b → Same x y c d
u_more_globals (AreMoreGlobals.last_global k) (AreMoreGlobals.last_global l) e = pair refl (same_rest k l e)
u_more_globals (AreMoreGlobals.last_global k) (AreMoreGlobals.another_global o m ms) e = differ k o e (λ k. cc)
u_more_globals (AreMoreGlobals.another_global o g gs) (AreMoreGlobals.last_global l) e = differ o l e (λ k. cc)
u_more_globals (AreMoreGlobals.another_global o g gs) (AreMoreGlobals.another_global q m ms) e =
    let h = u_global g m (same_rest o q e) (globals_bare gs) (globals_bare ms) in let i = u_more_globals gs ms h.rest in pair (cons_same h.tree i.tree) i.rest

u_more_members : {source : List ℕ} {a b c d : List Token} {x y : List NameTree} → AreMoreMembers source a x c → AreMoreMembers source b y d → a ≡ b → Same x y c d
u_more_members (AreMoreMembers.last_member k) (AreMoreMembers.last_member l) e = pair refl (same_rest k l e)
u_more_members (AreMoreMembers.last_member k) (AreMoreMembers.another_member o m ms) e = differ k o e (λ k. cc)
u_more_members (AreMoreMembers.another_member o n ns) (AreMoreMembers.last_member l) e = differ o l e (λ k. cc)
u_more_members (AreMoreMembers.another_member o n ns) (AreMoreMembers.another_member q m ms) e =
    let h = same_name n m (same_rest o q e) in let i = u_more_members ns ms h.rest in pair (cons_same h.tree i.tree) i.rest

-- what is behind a parameter's `int` and is no name
u_name_option : {source : List ℕ} {a b c d : List Token} {x y : Option NameTree} → IsNameOption source a x c → IsNameOption source b y d → a ≡ b → (next_sign c ≢ signs.Name) → (next_sign d ≢ signs.Name) → Same x y c d
u_name_option IsNameOption.no_name IsNameOption.no_name e s t = pair refl e
u_name_option IsNameOption.no_name (IsNameOption.a_name q) e s t = absurd (s (ap next_sign e ∙ q.passes.is_next))
u_name_option (IsNameOption.a_name p) IsNameOption.no_name e s t = absurd (t (ap next_sign (sym e) ∙ p.passes.is_next))
u_name_option (IsNameOption.a_name p) (IsNameOption.a_name q) e s t = let n = same_name p q e in pair (ap Some n.tree) n.rest

not_name : {s : Sign} {a b : List Token} → (s ≡ signs.Name → ⊥) → Passes s a b → next_sign a ≢ signs.Name
not_name k p e = k (sym p.is_next ∙ e)

more_not_name : {source : List ℕ} {a c : List Token} {x : List (Option NameTree)} → AreMoreParameters source a x c → next_sign a ≢ signs.Name
more_not_name (AreMoreParameters.last_parameter k) = not_name (λ e. cc) k
more_not_name (AreMoreParameters.another_parameter k i n ps) = not_name (λ e. cc) k

named_not_name : {source : List ℕ} {a c : List Token} {x : List NameTree} → AreMoreNamed source a x c → next_sign a ≢ signs.Name
named_not_name (AreMoreNamed.last_named k) = not_name (λ e. cc) k
named_not_name (AreMoreNamed.another_named k i n ps) = not_name (λ e. cc) k

u_more_parameters : {source : List ℕ} {a b c d : List Token} {x y : List (Option NameTree)} → AreMoreParameters source a x c → AreMoreParameters source b y d → a ≡ b → Same x y c d
u_more_parameters (AreMoreParameters.last_parameter k) (AreMoreParameters.last_parameter l) e = pair refl (same_rest k l e)
u_more_parameters (AreMoreParameters.last_parameter k) (AreMoreParameters.another_parameter o j m ms) e = differ k o e (λ k. cc)
u_more_parameters (AreMoreParameters.another_parameter o i n ns) (AreMoreParameters.last_parameter l) e = differ o l e (λ k. cc)
u_more_parameters (AreMoreParameters.another_parameter o i n ns) (AreMoreParameters.another_parameter q j m ms) e =
    let h = u_name_option n m (same_rest i j (same_rest o q e)) (more_not_name ns) (more_not_name ms) in let g = u_more_parameters ns ms h.rest in pair (cons_same h.tree g.tree) g.rest

u_more_named : {source : List ℕ} {a b c d : List Token} {x y : List NameTree} → AreMoreNamed source a x c → AreMoreNamed source b y d → a ≡ b → Same x y c d
u_more_named (AreMoreNamed.last_named k) (AreMoreNamed.last_named l) e = pair refl (same_rest k l e)
u_more_named (AreMoreNamed.last_named k) (AreMoreNamed.another_named o j m ms) e = differ k o e (λ k. cc)
u_more_named (AreMoreNamed.another_named o i n ns) (AreMoreNamed.last_named l) e = differ o l e (λ k. cc)
u_more_named (AreMoreNamed.another_named o i n ns) (AreMoreNamed.another_named q j m ms) e =
    let h = same_name n m (same_rest i j (same_rest o q e)) in let g = u_more_named ns ms h.rest in pair (cons_same h.tree g.tree) g.rest

-- parameters with names end where parameters end
ends_more : {source : List ℕ} {a b c d : List Token} {x : List (Option NameTree)} {y : List NameTree} → AreMoreParameters source a x c → AreMoreNamed source b y d → a ≡ b → c ≡ d
ends_more (AreMoreParameters.last_parameter k) (AreMoreNamed.last_named l) e = same_rest k l e
ends_more (AreMoreParameters.last_parameter k) (AreMoreNamed.another_named o j m ms) e = differ k o e (λ k. cc)
ends_more (AreMoreParameters.another_parameter o i n ns) (AreMoreNamed.last_named l) e = differ o l e (λ k. cc)
ends_more (AreMoreParameters.another_parameter o i n ns) (AreMoreNamed.another_named q j m ms) e =
    ends_more ns ms (u_name_option n (IsNameOption.a_name m) (same_rest i j (same_rest o q e)) (more_not_name ns) (named_not_name ms)).rest

u_parameters : {source : List ℕ} {a b c d : List Token} {x y : List (Option NameTree)} → AreParameters source a x c → AreParameters source b y d → a ≡ b → Same x y c d
u_parameters (AreParameters.no_parameters o1 k1) (AreParameters.no_parameters o2 k2) e = pair refl (same_rest k1 k2 (same_rest o1 o2 e))
u_parameters (AreParameters.no_parameters o1 k1) (AreParameters.void_parameters o2 v2 k2) e = differ k1 v2 (same_rest o1 o2 e) (λ k. cc)
u_parameters (AreParameters.no_parameters o1 k1) (AreParameters.some_parameters o2 i2 n2 ps2) e = differ k1 i2 (same_rest o1 o2 e) (λ k. cc)
u_parameters (AreParameters.void_parameters o1 v1 k1) (AreParameters.no_parameters o2 k2) e = differ v1 k2 (same_rest o1 o2 e) (λ k. cc)
u_parameters (AreParameters.void_parameters o1 v1 k1) (AreParameters.void_parameters o2 v2 k2) e = pair refl (same_rest k1 k2 (same_rest v1 v2 (same_rest o1 o2 e)))
u_parameters (AreParameters.void_parameters o1 v1 k1) (AreParameters.some_parameters o2 i2 n2 ps2) e = differ v1 i2 (same_rest o1 o2 e) (λ k. cc)
u_parameters (AreParameters.some_parameters o1 i1 n1 ps1) (AreParameters.no_parameters o2 k2) e = differ i1 k2 (same_rest o1 o2 e) (λ k. cc)
u_parameters (AreParameters.some_parameters o1 i1 n1 ps1) (AreParameters.void_parameters o2 v2 k2) e = differ i1 v2 (same_rest o1 o2 e) (λ k. cc)
u_parameters (AreParameters.some_parameters o1 i1 n1 ps1) (AreParameters.some_parameters o2 i2 n2 ps2) e = let h = u_name_option n1 n2 (same_rest i1 i2 (same_rest o1 o2 e)) (more_not_name ps1) (more_not_name ps2) in let g = u_more_parameters ps1 ps2 h.rest in pair (cons_same h.tree g.tree) g.rest

u_named : {source : List ℕ} {a b c d : List Token} {x y : List NameTree} → AreNamed source a x c → AreNamed source b y d → a ≡ b → Same x y c d
u_named (AreNamed.no_named o1 k1) (AreNamed.no_named o2 k2) e = pair refl (same_rest k1 k2 (same_rest o1 o2 e))
u_named (AreNamed.no_named o1 k1) (AreNamed.void_named o2 v2 k2) e = differ k1 v2 (same_rest o1 o2 e) (λ k. cc)
u_named (AreNamed.no_named o1 k1) (AreNamed.some_named o2 i2 n2 ps2) e = differ k1 i2 (same_rest o1 o2 e) (λ k. cc)
u_named (AreNamed.void_named o1 v1 k1) (AreNamed.no_named o2 k2) e = differ v1 k2 (same_rest o1 o2 e) (λ k. cc)
u_named (AreNamed.void_named o1 v1 k1) (AreNamed.void_named o2 v2 k2) e = pair refl (same_rest k1 k2 (same_rest v1 v2 (same_rest o1 o2 e)))
u_named (AreNamed.void_named o1 v1 k1) (AreNamed.some_named o2 i2 n2 ps2) e = differ v1 i2 (same_rest o1 o2 e) (λ k. cc)
u_named (AreNamed.some_named o1 i1 n1 ps1) (AreNamed.no_named o2 k2) e = differ i1 k2 (same_rest o1 o2 e) (λ k. cc)
u_named (AreNamed.some_named o1 i1 n1 ps1) (AreNamed.void_named o2 v2 k2) e = differ i1 v2 (same_rest o1 o2 e) (λ k. cc)
u_named (AreNamed.some_named o1 i1 n1 ps1) (AreNamed.some_named o2 i2 n2 ps2) e = let h = same_name n1 n2 (same_rest i1 i2 (same_rest o1 o2 e)) in let g = u_more_named ps1 ps2 h.rest in pair (cons_same h.tree g.tree) g.rest

ends_parameters : {source : List ℕ} {a b c d : List Token} {x : List (Option NameTree)} {y : List NameTree} → AreParameters source a x c → AreNamed source b y d → a ≡ b → c ≡ d
ends_parameters (AreParameters.no_parameters o1 k1) (AreNamed.no_named o2 k2) e = same_rest k1 k2 (same_rest o1 o2 e)
ends_parameters (AreParameters.no_parameters o1 k1) (AreNamed.void_named o2 v2 k2) e = differ k1 v2 (same_rest o1 o2 e) (λ k. cc)
ends_parameters (AreParameters.no_parameters o1 k1) (AreNamed.some_named o2 i2 n2 ps2) e = differ k1 i2 (same_rest o1 o2 e) (λ k. cc)
ends_parameters (AreParameters.void_parameters o1 v1 k1) (AreNamed.no_named o2 k2) e = differ v1 k2 (same_rest o1 o2 e) (λ k. cc)
ends_parameters (AreParameters.void_parameters o1 v1 k1) (AreNamed.void_named o2 v2 k2) e = same_rest k1 k2 (same_rest v1 v2 (same_rest o1 o2 e))
ends_parameters (AreParameters.void_parameters o1 v1 k1) (AreNamed.some_named o2 i2 n2 ps2) e = differ v1 i2 (same_rest o1 o2 e) (λ k. cc)
ends_parameters (AreParameters.some_parameters o1 i1 n1 ps1) (AreNamed.no_named o2 k2) e = differ i1 k2 (same_rest o1 o2 e) (λ k. cc)
ends_parameters (AreParameters.some_parameters o1 i1 n1 ps1) (AreNamed.void_named o2 v2 k2) e = differ i1 v2 (same_rest o1 o2 e) (λ k. cc)
ends_parameters (AreParameters.some_parameters o1 i1 n1 ps1) (AreNamed.some_named o2 i2 n2 ps2) e = ends_more ps1 ps2 (u_name_option n1 (IsNameOption.a_name n2) (same_rest i1 i2 (same_rest o1 o2 e)) (more_not_name ps1) (named_not_name ps2)).rest

u_result : {a b c d : List Token} {x y : Bool} → IsResult a x c → IsResult b y d → a ≡ b → Same x y c d
u_result (IsResult.int_result p) (IsResult.int_result q) e = pair refl (same_rest p q e)
u_result (IsResult.int_result p) (IsResult.void_result q) e = differ p q e (λ k. cc)
u_result (IsResult.void_result p) (IsResult.int_result q) e = differ p q e (λ k. cc)
u_result (IsResult.void_result p) (IsResult.void_result q) e = pair refl (same_rest p q e)

parameters_open : {source : List ℕ} {a c : List Token} {x : List (Option NameTree)} → AreParameters source a x c → Passes signs.LeftParenthesis a (rest_of a)
parameters_open (AreParameters.no_parameters o k) = record { is_next = o.is_next; behind = refl }
parameters_open (AreParameters.void_parameters o v k) = record { is_next = o.is_next; behind = refl }
parameters_open (AreParameters.some_parameters o i n ps) = record { is_next = o.is_next; behind = refl }

named_open : {source : List ℕ} {a c : List Token} {x : List NameTree} → AreNamed source a x c → Passes signs.LeftParenthesis a (rest_of a)
named_open (AreNamed.no_named o k) = record { is_next = o.is_next; behind = refl }
named_open (AreNamed.void_named o v k) = record { is_next = o.is_next; behind = refl }
named_open (AreNamed.some_named o i n ps) = record { is_next = o.is_next; behind = refl }

-- the result and the name of a function, against an `int` and a name, against an `int` and a parenthesis
result_int : {a b c d : List Token} {x : Bool} → IsResult a x c → Passes signs.Int b d → a ≡ b → c ≡ d
result_int (IsResult.int_result p) q e = same_rest p q e
result_int (IsResult.void_result p) q e = differ p q e (λ k. cc)

more_globals_no_function : {source : List ℕ} {a b c d : List Token} {x : List RawItemTree} {C : Type 0} → AreMoreGlobals source a x c → Passes signs.LeftParenthesis b d → a ≡ b → C
more_globals_no_function (AreMoreGlobals.last_global k) q e = differ k q e (λ k. cc)
more_globals_no_function (AreMoreGlobals.another_global k g gs) q e = differ k q e (λ k. cc)

global_no_function : {source : List ℕ} {a b c d f h : List Token} {x : RawItemTree} {xs : List RawItemTree} {n : NameTree} {C : Type 0} → IsGlobal source a x c → AreMoreGlobals source c xs h → PassesName source b n d → Passes signs.LeftParenthesis d f → a ≡ b → C
global_no_function (IsGlobal.scalar p) gs q o e = let m = same_name p q e in more_globals_no_function gs o m.rest
global_no_function (IsGlobal.with_start p k v) gs q o e = let m = same_name p q e in differ k o m.rest (λ k. cc)
global_no_function (IsGlobal.array p z) gs q o e = let m = same_name p q e in differ z.opened o m.rest (λ k. cc)

global_name : {source : List ℕ} {a c : List Token} {x : RawItemTree} → IsGlobal source a x c → Passes signs.Name a (rest_of a)
global_name (IsGlobal.scalar p) = record { is_next = p.passes.is_next; behind = refl }
global_name (IsGlobal.with_start p k v) = record { is_next = p.passes.is_next; behind = refl }
global_name (IsGlobal.array p z) = record { is_next = p.passes.is_next; behind = refl }

table_item_same : {m n : NameTree} {v w : ℕ} {a x : NameTree} {b y : List NameTree} → m ≡ n → v ≡ w → a ≡ x → b ≡ y → RawTableItem m v (a ∷ b) ∷ [] ≡ RawTableItem n w (x ∷ y) ∷ []
table_item_same e f g h = cc

prototype_same : {v w : Bool} {m n : NameTree} {a x : List (Option NameTree)} → v ≡ w → m ≡ n → a ≡ x → RawPrototypeItem v m a ∷ [] ≡ RawPrototypeItem w n x ∷ []
prototype_same e f g = cc

function_same : {v w : Bool} {m n : NameTree} {a x : List NameTree} {b y : RawStmtTrees} → v ≡ w → m ≡ n → a ≡ x → b ≡ y → RawFunctionItem v m a b ∷ [] ≡ RawFunctionItem w n x y ∷ []
function_same e f g h = cc

u_item : {source : List ℕ} {a b c d : List Token} {x y : List RawItemTree} → AreItem true source a x c → AreItem true source b y d → a ≡ b → Same x y c d
u_item (AreItem.globals i g gs) (AreItem.globals j m ms) e = let h = u_global g m (same_rest i j e) (globals_bare gs) (globals_bare ms) in let k = u_more_globals gs ms h.rest in pair (cons_same h.tree k.tree) k.rest
u_item (AreItem.globals i g gs) (AreItem.table j o st n s c o2 i2 c2 a l m ms k) e = differ (global_name g) o (same_rest i j e) (λ k. cc)
u_item (AreItem.globals i g gs) (AreItem.prototype r n ps k) e = global_no_function g gs n (parameters_open ps) (sym (result_int r i (sym e)))
u_item (AreItem.globals i g gs) (AreItem.function r n ns b) e = global_no_function g gs n (named_open ns) (sym (result_int r i (sym e)))
u_item (AreItem.table i o st n s c o2 i2 c2 a l m ms k) (AreItem.globals j g gs) e = differ o (global_name g) (same_rest i j e) (λ k. cc)
u_item (AreItem.table i o st n s c o2 i2 c2 a l m ms k) (AreItem.table i' o' st' n' s' c' o2' i2' c2' a' l' m' ms' k') e =
    let h = same_name n n' (same_rest st st' (same_rest o o' (same_rest i i' e))) in
    let z = u_size s s' h.rest in
    let g = same_name m m' (same_rest l l' (same_rest a a' (same_rest c2 c2' (same_rest i2 i2' (same_rest o2 o2' (same_rest c c' z.rest)))))) in
    let f = u_more_members ms ms' g.rest in
    pair (table_item_same h.tree z.tree g.tree f.tree) (same_rest k k' f.rest)
u_item (AreItem.table i o st n s c o2 i2 c2 a l m ms k) (AreItem.prototype r q ps k') e = differ o q.passes (sym (result_int r i (sym e))) (λ k. cc)
u_item (AreItem.table i o st n s c o2 i2 c2 a l m ms k) (AreItem.function r q ns b) e = differ o q.passes (sym (result_int r i (sym e))) (λ k. cc)
u_item (AreItem.prototype r n ps k) (AreItem.globals j g gs) e = global_no_function g gs n (parameters_open ps) (sym (result_int r j e))
u_item (AreItem.prototype r q ps k') (AreItem.table i o st n s c o2 i2 c2 a l m ms k) e = differ q.passes o (result_int r i e) (λ k. cc)
u_item (AreItem.prototype r n ps k) (AreItem.prototype r' n' ps' k') e = let f = u_result r r' e in let h = same_name n n' f.rest in let g = u_parameters ps ps' h.rest in pair (prototype_same f.tree h.tree g.tree) (same_rest k k' g.rest)
u_item (AreItem.prototype r n ps k) (AreItem.function r' n' ns b) e = let f = u_result r r' e in let h = same_name n n' f.rest in differ k (block_brace b) (ends_parameters ps ns h.rest) (λ k. cc)
u_item (AreItem.function r n ns b) (AreItem.globals j g gs) e = global_no_function g gs n (named_open ns) (sym (result_int r j e))
u_item (AreItem.function r q ns b) (AreItem.table i o st n s c o2 i2 c2 a l m ms k) e = differ q.passes o (result_int r i e) (λ k. cc)
u_item (AreItem.function r n ns b) (AreItem.prototype r' n' ps k) e = let f = u_result r r' e in let h = same_name n n' f.rest in differ (block_brace b) k (sym (ends_parameters ps ns (sym h.rest))) (λ k. cc)
u_item (AreItem.function r n ns b) (AreItem.function r' n' ns' b') e =
    let f = u_result r r' e in let h = same_name n n' f.rest in let g = u_named ns ns' h.rest in let i = u_block b b' g.rest in pair (function_same f.tree h.tree g.tree i.tree) i.rest

clash_int : signs.Int ≡ signs.Finish → ⊥
clash_int e = cc

clash_void : signs.Void ≡ signs.Finish → ⊥
clash_void e = cc

result_some : {a c : List Token} {x : Bool} → IsResult a x c → a ≡ [] → ⊥
result_some (IsResult.int_result p) e = let f = p.is_next in let g = ap next_sign e in clash_int (sym f ∙ g)
result_some (IsResult.void_result p) e = let f = p.is_next in let g = ap next_sign e in clash_void (sym f ∙ g)

item_some : {source : List ℕ} {a c : List Token} {x : List RawItemTree} → AreItem true source a x c → a ≡ [] → ⊥
item_some (AreItem.globals i g gs) e = clash_int (sym i.is_next ∙ ap next_sign e)
item_some (AreItem.table i o st n s c o2 i2 c2 a l m ms k) e = clash_int (sym i.is_next ∙ ap next_sign e)
item_some (AreItem.prototype r n ps k) e = result_some r e
item_some (AreItem.function r n ns b) e = result_some r e

append_same : {a x b y : List RawItemTree} → a ≡ x → b ≡ y → a ++ b ≡ x ++ y
append_same {a = l} {y = k} e f = ap (λ z. l ++ z) f ∙ ap (λ z. z ++ k) e

u_items : {source : List ℕ} {a b : List Token} {x y : List RawItemTree} → AreItems true source a x → AreItems true source b y → a ≡ b → x ≡ y
u_items AreItems.no_more_items AreItems.no_more_items e = refl
u_items AreItems.no_more_items (AreItems.another_item j js) e = absurd (item_some j (sym e))
u_items (AreItems.another_item i is) AreItems.no_more_items e = absurd (item_some i e)
u_items (AreItems.another_item i is) (AreItems.another_item j js) e = let h = u_item i j e in append_same h.tree (u_items is js h.rest)

-- the tokens of a source have at most one tree
pub program_unique : (source : List ℕ) (tokens : List Token) (items others : List RawItemTree) → AreItems true source tokens items → AreItems true source tokens others → items ≡ others
program_unique source tokens items others p q = u_items p q refl
