-- What the functions of operands, brackets and arguments come to, exit by exit.
use Rattle.grammar_reader.proofs.Common.{ℕ, ◌≡◌, ◌≢◌, ◌+◌, ◌≤◌, refl, sym, ap, subst, ◌∙◌, List, [], ◌∷◌, length, Option, Some, None, arith, Token, TokenKind, Keyword, Mark, NameTree, RawExprTree, RawExprTrees, RawNumber, RawName, RawElement, RawUnary, RawParenthesized, RawCall, RawTableCall, ParseError, Unexpected, TooDeep, Sign, sign_of_token, Task, step, after_move, open_tasks, sign_at, run, unary_operator_of, next_sign, next_kind, next_place, rest_of, Passes, PassesName, PassesNumber, IsUnary, IsPrimary, Refused, NoPrefix, ReadsUnary, ReadsPrimary, ReadsNamed, ReadsElement, ReadsParenthesized, ReadsArguments, number_passes}
use Rattle.c_lex.specs.declared.tokens.TokenKind.TheVariants as kinds
use Rattle.c_lex.specs.declared.keywords.Keyword.TheVariants as keywords
use Rattle.c_lex.specs.declared.marks.Mark.TheVariants as marks
use Rattle.c_tree.specs.declared.operators.UnaryOperator.{UnaryOperator}
use Rattle.c_grammar.specs.declared.signs.Sign.TheVariants as signs
use Rattle.c_grammar.specs.Machine as tasks
use Rattle.grammar_reader.proofs.Runs.{run_sign, run_passes, run_too_deep, run_none, shorter_sign, passes_shorter}
use Rattle.grammar_reader.proofs.ExprRules.{done_run, pass_run, pass_end}

-- an operator before its operand
abbrev UnaryFact : TokenKind → Option UnaryOperator → Type 0
UnaryFact kind None = Unit {0}
UnaryFact kind (Some operator) = (tasks.operand_move (sign_of_token kind) ≡ tasks.Take (tasks.Operand ∷ tasks.Done ∷ [])) × (sign_of_token kind ≢ signs.Finish)

unary_fact : (kind : TokenKind) → UnaryFact kind (unary_operator_of (Some kind))
unary_fact (kinds.Mark marks.Minus) = (refl, λ e. cc)
unary_fact (kinds.Mark marks.Plus) = (refl, λ e. cc)
unary_fact (kinds.Mark marks.Exclamation) = (refl, λ e. cc)
unary_fact (kinds.Mark marks.Tilde) = (refl, λ e. cc)
unary_fact _ = tt

-- the first token is this operator
abbrev IsUnaryNext : List Token → UnaryOperator → Type 0
IsUnaryNext tokens operator = unary_operator_of (next_kind tokens) ≡ Some operator

unary_step : (a : List Token) (operator : UnaryOperator) (rest : List Task) → IsUnaryNext a operator → (step (tasks.Operand ∷ rest) (next_sign a) ≡ Some (tasks.Operand ∷ tasks.Done ∷ rest)) × (next_sign a ≢ signs.Finish)
unary_step [] operator rest e = cc
unary_step (t ∷ tokens) operator rest e =
    let P : Option UnaryOperator → Type 0 = UnaryFact t.kind in
    let f = subst P e (unary_fact t.kind) in
    (ap (λ m. after_move m rest (step rest (sign_at t))) f.0, f.1)

pub unary_end : (end depth : ℕ) (a : List Token) (error : ParseError) → next_kind a ≡ None → error ≡ Unexpected (next_place end a) → Refused end depth (tasks.Operand ∷ []) a error
unary_end end depth [] error e place other rest o = run_none end (tasks.Operand ∷ rest) [] refl refl ∙ ap Some (sym place)
unary_end end depth (t ∷ tokens) error e place other rest o = cc

pub unary_deep : (end depth : ℕ) (a : List Token) (operator : UnaryOperator) (error : ParseError) → IsUnaryNext a operator → (error ≡ TooDeep (next_place end a)) × (64 ≤ depth) → Refused end depth (tasks.Operand ∷ []) a error
unary_deep end depth a operator error is h other rest o =
    let f = unary_step a operator rest is in let deep = h.1 in
    run_too_deep end (tasks.Operand ∷ rest) (next_sign a) a refl f.1 f.0 (omega arith) ∙ ap Some (sym h.0)

unary_opened : (end depth inside : ℕ) (a b : List Token) (operator : UnaryOperator) → IsUnaryNext a operator → (inside ≡ 1 + depth) × (b ≡ rest_of a) → inside ≤ 64 → (rest : List Task) → open_tasks rest ≡ depth
    → run end (tasks.Operand ∷ rest) a ≡ run end (tasks.Operand ∷ tasks.Done ∷ rest) b
unary_opened end depth inside a b operator is opening low rest o =
    let f = unary_step a operator rest is in let i = opening.0 in
    run_sign end (tasks.Operand ∷ rest) (next_sign a) a refl f.1 f.0 (omega arith) ∙ ap (λ l. run end (tasks.Operand ∷ tasks.Done ∷ rest) l) (sym opening.1)

pub unary_refused : (end depth inside : ℕ) (a b : List Token) (operator : UnaryOperator) (error : ParseError) → IsUnaryNext a operator → (inside ≡ 1 + depth) × (b ≡ rest_of a) → inside ≤ 64 → Refused end inside (tasks.Operand ∷ []) b error → Refused end depth (tasks.Operand ∷ []) a error
unary_refused end depth inside a b operator error is opening low r other rest o =
    unary_opened end depth inside a b operator is opening low rest o ∙ r other (tasks.Done ∷ rest) (let i = opening.0 in omega arith)

pub unary_read : (source : List ℕ) (end depth inside : ℕ) (a b c : List Token) (operator : UnaryOperator) (e : RawExprTree) → IsUnaryNext a operator → (inside ≡ 1 + depth) × (b ≡ rest_of a) → inside ≤ 64 → ReadsUnary source end inside b e c → ReadsUnary source end depth a (RawUnary operator e) c
unary_read source end depth inside a b c operator e is opening low h =
    let f = unary_step a operator [] is in
    record {
      tree = IsUnary.prefixed (record { is_next = is; behind = opening.1 }) h.tree;
      shorter = (let l1 = shorter_sign (next_sign a) a refl f.1 in let l2 = ap length opening.1 in let l3 = h.shorter in omega arith);
      leads = λ rest o. unary_opened end depth inside a b operator is opening low rest o ∙ (h.leads (tasks.Done ∷ rest) (let i = opening.0 in omega arith) ∙ done_run end rest c);
      small = let i = opening.0 in let m = h.small in omega arith;
    }

pub unary_primary : (source : List ℕ) (end depth : ℕ) (a b : List Token) (e : RawExprTree) → ReadsPrimary source end depth a e b → ReadsUnary source end depth a e b
unary_primary source end depth a b e h = record { tree = IsUnary.primary h.tree; shorter = h.shorter; leads = h.leads; small = h.small }

-- numbers, names and parentheses
pub primary_number : (source : List ℕ) (end depth : ℕ) (a b : List Token) (value : ℕ) → depth ≤ 64 → PassesNumber a value b → ReadsPrimary source end depth a (RawNumber value) b
primary_number source end depth a b value low p =
    let q = number_passes a p in
    record {
      tree = IsPrimary.number p;
      shorter = passes_shorter q (λ e. cc);
      leads = λ rest o. run_passes end (tasks.Operand ∷ rest) q (λ e. cc) refl (omega arith);
      small = omega arith;
    }

named_run : (end depth : ℕ) (a b : List Token) → depth ≤ 64 → Passes signs.Name a b → (rest : List Task) → open_tasks rest ≡ depth → run end (tasks.Operand ∷ rest) a ≡ run end (tasks.AfterName ∷ rest) b
named_run end depth a b low p rest o = run_passes end (tasks.Operand ∷ rest) p (λ e. cc) refl (omega arith)

pub primary_named : (source : List ℕ) (end depth : ℕ) (a b c : List Token) (n : NameTree) (e : RawExprTree) → depth ≤ 64 → PassesName source a n b → ReadsNamed source end depth n b e c → ReadsPrimary source end depth a e c
primary_named source end depth a b c n e low p h =
    record {
      tree = h.tree a p;
      shorter = (let l1 = passes_shorter p.passes (λ e. cc) in let l2 = h.no_longer in omega arith);
      leads = λ rest o. named_run end depth a b low p.passes rest o ∙ h.leads rest o;
      small = h.small;
    }

pub primary_named_refused : (source : List ℕ) (end depth : ℕ) (a b : List Token) (n : NameTree) (error : ParseError) → depth ≤ 64 → PassesName source a n b → Refused end depth (tasks.AfterName ∷ []) b error → Refused end depth (tasks.Operand ∷ []) a error
primary_named_refused source end depth a b n error low p r other rest o = named_run end depth a b low p.passes rest o ∙ r other rest o

operand_parenthesis : (end : ℕ) (a : List Token) (rest : List Task) → next_sign a ≡ signs.LeftParenthesis → run end (tasks.Operand ∷ rest) a ≡ run end (tasks.Parenthesized ∷ rest) a
operand_parenthesis end [] rest e = cc
operand_parenthesis end (t ∷ tokens) rest e = pass_run end (tasks.Operand ∷ rest) (tasks.Parenthesized ∷ rest) t tokens (let P : Sign → Type 0 = λ s. step (tasks.Operand ∷ rest) s ≡ step (tasks.Parenthesized ∷ rest) s in subst P (sym e) refl)

pub primary_parenthesized : (source : List ℕ) (end depth : ℕ) (a b : List Token) (e : RawExprTree) → ReadsParenthesized source end depth a e b → ReadsPrimary source end depth a (RawParenthesized e) b
primary_parenthesized source end depth a b e h =
    record { tree = IsPrimary.parenthesized h.tree; shorter = h.shorter; leads = λ rest o. operand_parenthesis end a rest h.opened ∙ h.leads rest o; small = let m = h.small in omega arith }

pub primary_parenthesized_refused : (end depth : ℕ) (a : List Token) (error : ParseError) → next_sign a ≡ signs.LeftParenthesis → Refused end depth (tasks.Parenthesized ∷ []) a error → Refused end depth (tasks.Operand ∷ []) a error
primary_parenthesized_refused end depth a error e r other rest o = operand_parenthesis end a rest e ∙ r other rest o

-- what begins no operand
operand_refuses : (s : Sign) → s ≢ signs.Number → s ≢ signs.Name → s ≢ signs.LeftParenthesis → s ≢ signs.Plus → s ≢ signs.Minus → s ≢ signs.Prefix → tasks.operand_move s ≡ tasks.Refuse
operand_refuses signs.Number a b c d e f = absurd (a refl)
operand_refuses signs.Name a b c d e f = absurd (b refl)
operand_refuses signs.LeftParenthesis a b c d e f = absurd (c refl)
operand_refuses signs.Plus a b c d e f = absurd (d refl)
operand_refuses signs.Minus a b c d e f = absurd (e refl)
operand_refuses signs.Prefix a b c d e f = absurd (f refl)
operand_refuses _ a b c d e f = refl

-- a token that is no operator before an operand has none of these signs
abbrev PrefixFree : TokenKind → Option UnaryOperator → Type 0
PrefixFree kind None = (sign_of_token kind ≢ signs.Plus) × (sign_of_token kind ≢ signs.Minus) × (sign_of_token kind ≢ signs.Prefix)
PrefixFree kind (Some operator) = Unit {0}

keyword_free : (keyword : Keyword) → PrefixFree (kinds.Keyword keyword) None
keyword_free keywords.Int = (λ e. cc, λ e. cc, λ e. cc)
keyword_free _ = (λ e. cc, λ e. cc, λ e. cc)

mark_free : (mark : Mark) → PrefixFree (kinds.Mark mark) (unary_operator_of (Some (kinds.Mark mark)))
mark_free marks.Minus = tt
mark_free marks.Plus = tt
mark_free marks.Exclamation = tt
mark_free marks.Tilde = tt
mark_free _ = (λ e. cc, λ e. cc, λ e. cc)

prefix_free : (kind : TokenKind) → PrefixFree kind (unary_operator_of (Some kind))
prefix_free (kinds.Mark mark) = mark_free mark
prefix_free (kinds.Keyword keyword) = keyword_free keyword
prefix_free _ = (λ e. cc, λ e. cc, λ e. cc)

pub primary_other : (end depth : ℕ) (a : List Token) (error : ParseError) → NoPrefix a → next_sign a ≢ signs.Number → next_sign a ≢ signs.Name → next_sign a ≢ signs.LeftParenthesis → error ≡ Unexpected (next_place end a) → Refused end depth (tasks.Operand ∷ []) a error
primary_other end depth [] error free n1 n2 n3 place other rest o = run_none end (tasks.Operand ∷ rest) [] refl refl ∙ ap Some (sym place)
primary_other end depth (t ∷ tokens) error free n1 n2 n3 place other rest o =
    let P : Option UnaryOperator → Type 0 = PrefixFree t.kind in
    let f = subst P free (prefix_free t.kind) in
    run_none end (tasks.Operand ∷ rest) (t ∷ tokens) (ap (λ m. after_move m rest (step rest (sign_at t))) (operand_refuses (sign_at t) n1 n2 n3 f.0 f.1 f.2)) refl ∙ ap Some (sym place)

-- behind a name
name_passes : (s : Sign) → s ≢ signs.LeftParenthesis → s ≢ signs.LeftBracket → tasks.after_name_move s ≡ tasks.Pass
name_passes signs.LeftParenthesis a b = absurd (a refl)
name_passes signs.LeftBracket a b = absurd (b refl)
name_passes _ a b = refl

index_passes : (s : Sign) → s ≢ signs.LeftParenthesis → tasks.after_index_move s ≡ tasks.Pass
index_passes signs.LeftParenthesis a = absurd (a refl)
index_passes _ a = refl

name_run : (end : ℕ) (rest : List Task) (a : List Token) → next_sign a ≢ signs.LeftParenthesis → next_sign a ≢ signs.LeftBracket → run end (tasks.AfterName ∷ rest) a ≡ run end rest a
name_run end rest [] n1 n2 = pass_end end (tasks.AfterName ∷ rest) rest refl
name_run end rest (t ∷ tokens) n1 n2 = pass_run end (tasks.AfterName ∷ rest) rest t tokens (ap (λ m. after_move m rest (step rest (sign_at t))) (name_passes (sign_at t) n1 n2))

index_run : (end : ℕ) (rest : List Task) (a : List Token) → next_sign a ≢ signs.LeftParenthesis → run end (tasks.AfterIndex ∷ rest) a ≡ run end rest a
index_run end rest [] n1 = pass_end end (tasks.AfterIndex ∷ rest) rest refl
index_run end rest (t ∷ tokens) n1 = pass_run end (tasks.AfterIndex ∷ rest) rest t tokens (ap (λ m. after_move m rest (step rest (sign_at t))) (index_passes (sign_at t) n1))

pub named_alone : (source : List ℕ) (end depth : ℕ) (n : NameTree) (a : List Token) → depth ≤ 64 → next_sign a ≢ signs.LeftParenthesis → next_sign a ≢ signs.LeftBracket → ReadsNamed source end depth n a (RawName n) a
named_alone source end depth n a low n1 n2 = record { tree = λ first p. IsPrimary.name p; no_longer = omega arith; leads = λ rest o. name_run end rest a n1 n2; small = omega arith }

pub named_call : (source : List ℕ) (end depth : ℕ) (n : NameTree) (a b : List Token) (es : RawExprTrees) → depth ≤ 64 → ReadsArguments source end depth a es b → ReadsNamed source end depth n a (RawCall n es) b
named_call source end depth n a b es low h = record { tree = λ first p. IsPrimary.call p h.tree; no_longer = (let l = h.shorter in omega arith); leads = h.leads; small = (let m = h.small in omega arith) }

pub element_alone : (source : List ℕ) (end depth : ℕ) (n : NameTree) (i : RawExprTree) (a : List Token) → next_sign a ≢ signs.LeftParenthesis → ReadsElement source end depth n i a (RawElement n i) a
element_alone source end depth n i a n1 = record { tree = λ first second p x. IsPrimary.element p x; no_longer = omega arith; leads = λ rest o. index_run end rest a n1; small = λ m. omega arith }

index_parenthesis : (end : ℕ) (a : List Token) (rest : List Task) → next_sign a ≡ signs.LeftParenthesis → run end (tasks.AfterIndex ∷ rest) a ≡ run end (tasks.Parenthesized ∷ rest) a
index_parenthesis end [] rest e = cc
index_parenthesis end (t ∷ tokens) rest e = pass_run end (tasks.AfterIndex ∷ rest) (tasks.Parenthesized ∷ rest) t tokens (let P : Sign → Type 0 = λ s. step (tasks.AfterIndex ∷ rest) s ≡ step (tasks.Parenthesized ∷ rest) s in subst P (sym e) refl)

pub element_call : (source : List ℕ) (end depth : ℕ) (n : NameTree) (i e : RawExprTree) (a b : List Token) → ReadsParenthesized source end depth a e b → ReadsElement source end depth n i a (RawTableCall n i e) b
element_call source end depth n i e a b h =
    record {
      tree = λ first second p x. IsPrimary.table_call p x h.tree;
      no_longer = (let l = h.shorter in omega arith);
      leads = λ rest o. index_parenthesis end a rest h.opened ∙ h.leads rest o;
      small = λ m. let k = h.small in omega arith;
    }

pub element_refused : (end depth : ℕ) (a : List Token) (error : ParseError) → next_sign a ≡ signs.LeftParenthesis → Refused end depth (tasks.Parenthesized ∷ []) a error → Refused end depth (tasks.AfterIndex ∷ []) a error
element_refused end depth a error e r other rest o = index_parenthesis end a rest e ∙ r other rest o
