-- What the functions of expressions come to, exit by exit.
use Rattle.grammar_reader.proofs.Common.{ℕ, ◌≡◌, ◌≢◌, ◌+◌, ◌-◌, ◌*◌, ◌<◌, ◌≤◌, refl, sym, ap, subst, ◌∙◌, List, [], ◌∷◌, ◌++◌, length, Option, Some, None, lit<, arith, nat_le, if◌then◌else◌, Token, TokenKind, Keyword, Infix, RawExprTree, RawConditional, raw_joined, raw_chained, raw_temporaries, ParseError, Unexpected, TooDeep, Sign, sign_of_token, sign_of_keyword, Task, step, after_move, open_tasks, sign_at, finishes, run, infix_operator_of, level_of_infix, next_sign, next_place, rest_of, Passes, IsExpr, IsBinary, IsRepeated, Refused, NoneFrom, IsNextOperator, IsNoNextOperator, ReadsExpr, ReadsConditional, ReadsBinary, ReadsRepeated, ReadsUnary, ReadingRepeated, run_taken}
use Rattle.c_lex.specs.declared.tokens.TokenKind.TheVariants as kinds
use Rattle.c_lex.specs.declared.keywords.Keyword.TheVariants as keywords
use Rattle.c_lex.specs.declared.marks.Mark.TheVariants as marks
use Rattle.c_tree.specs.declared.operators.BinaryOperator.{BinaryOperator}
use Rattle.c_grammar.specs.declared.signs.Sign.TheVariants as signs
use Rattle.c_grammar.specs.Machine as tasks
use Rattle.grammar_reader.proofs.Runs.{run_sign, run_passes, run_too_deep, run_none, shorter_sign, passes_shorter, refuses_but, colon_only}

one_made : ℕ → ℕ → List Token → Option (List Task) → Option ParseError
one_made end at tokens made =
    elim made [
      | None ↦ Some (Unexpected at)
      | Some after ↦ (if nat_le (open_tasks after) 64 then run end after tokens else Some (TooDeep at))
    ]

-- two lists of tasks that do the same
pub run_same : (end : ℕ) (todo others : List Task) (tokens : List Token) → ((s : Sign) → step todo s ≡ step others s) → finishes todo ≡ finishes others → run end todo tokens ≡ run end others tokens
unfolding run one_made
run_same end todo others [] same_step same_end = ap (λ b. if b then None else Some (Unexpected end)) same_end
run_same end todo others (token ∷ tokens) same_step same_end = ap (one_made end token.at tokens) (same_step (sign_at token))

expr_step : (s : Sign) (rest : List Task) → step (tasks.Expr ∷ rest) s ≡ step (tasks.Operand ∷ tasks.Tail ∷ rest) s
expr_step signs.Name rest = refl
expr_step _ rest = refl

expr_run : (end : ℕ) (rest : List Task) (tokens : List Token) → run end (tasks.Expr ∷ rest) tokens ≡ run end (tasks.Operand ∷ tasks.Tail ∷ rest) tokens
expr_run end rest tokens = run_same end _ _ tokens (λ s. expr_step s rest) refl

pub expr_refused : (end depth : ℕ) (before : List Token) (error : ParseError) → Refused end depth (tasks.Operand ∷ tasks.Tail ∷ []) before error → Refused end depth (tasks.Expr ∷ []) before error
expr_refused end depth before error h n rest o = expr_run end rest before ∙ h n rest o

-- what a token that is no operator is to the tail of an expression
abbrev TailFact : TokenKind → Option Infix → Type 0
TailFact kind None = sign_of_token kind ≢ signs.Question → tasks.tail_move (sign_of_token kind) ≡ tasks.Pass
TailFact kind (Some operator) = tasks.tail_move (sign_of_token kind) ≡ tasks.Take (tasks.Operand ∷ tasks.Tail ∷ [])

keyword_passes : (keyword : Keyword) → tasks.tail_move (sign_of_keyword keyword) ≡ tasks.Pass
keyword_passes keywords.Int = refl
keyword_passes _ = refl

tail_fact : (kind : TokenKind) → TailFact kind (infix_operator_of (Some kind))
tail_fact (kinds.Mark marks.OrOr) = refl
tail_fact (kinds.Mark marks.AndAnd) = refl
tail_fact (kinds.Mark marks.Bar) = refl
tail_fact (kinds.Mark marks.Caret) = refl
tail_fact (kinds.Mark marks.Ampersand) = refl
tail_fact (kinds.Mark marks.Equal) = refl
tail_fact (kinds.Mark marks.NotEqual) = refl
tail_fact (kinds.Mark marks.Less) = refl
tail_fact (kinds.Mark marks.LessEqual) = refl
tail_fact (kinds.Mark marks.Greater) = refl
tail_fact (kinds.Mark marks.GreaterEqual) = refl
tail_fact (kinds.Mark marks.ShiftLeft) = refl
tail_fact (kinds.Mark marks.ShiftRight) = refl
tail_fact (kinds.Mark marks.Plus) = refl
tail_fact (kinds.Mark marks.Minus) = refl
tail_fact (kinds.Mark marks.Star) = refl
tail_fact (kinds.Mark marks.Slash) = refl
tail_fact (kinds.Mark marks.Percent) = refl
tail_fact (kinds.Mark marks.Question) = λ no. absurd (no refl)
tail_fact (kinds.Keyword keyword) = λ no. keyword_passes keyword
tail_fact _ = λ no. refl

none_found : (kind : TokenKind) (made : Option Infix) → infix_operator_of (Some kind) ≡ made → ((operator : Infix) → infix_operator_of (Some kind) ≡ Some operator → level_of_infix operator < 0) → made ≡ None
none_found kind None e low = refl
none_found kind (Some operator) e low = let l = low operator e in absurd (omega arith)

tail_at : (kind : TokenKind) → ((operator : Infix) → infix_operator_of (Some kind) ≡ Some operator → level_of_infix operator < 0) → sign_of_token kind ≢ signs.Question → tasks.tail_move (sign_of_token kind) ≡ tasks.Pass
tail_at kind low other =
    let P : Option Infix → Type 0 = TailFact kind in
    let none : infix_operator_of (Some kind) ≡ None = none_found kind (infix_operator_of (Some kind)) refl low in
    subst P none (tail_fact kind) other

-- the tail of an expression is passed where neither an operator nor a `?` comes
pub tail_run : (end : ℕ) (rest : List Task) (tokens : List Token) → NoneFrom 0 tokens → next_sign tokens ≢ signs.Question → run end (tasks.Tail ∷ rest) tokens ≡ run end rest tokens
unfolding run one_made
tail_run end rest [] low other = refl
tail_run end rest (token ∷ tokens) low other = ap (λ m. one_made end token.at tokens (after_move m rest (step rest (sign_at token)))) (tail_at token.kind low other)

pub expr_alone : {source : List ℕ} {end depth : ℕ} {before after : List Token} {e : RawExprTree} → ReadsBinary source end depth 0 before e after → next_sign after ≢ signs.Question → ReadsExpr source end depth before e after
expr_alone {end = n} {before = b} {after = a} h other =
    record {
      tree = IsExpr.alone h.tree;
      shorter = h.shorter;
      leads = λ rest o. expr_run n rest b ∙ (h.leads rest o ∙ tail_run n rest a h.ended other);
      small = let k = h.small in omega arith;
    }

pub expr_conditional : {source : List ℕ} {end depth : ℕ} {before between after : List Token} {first e : RawExprTree} → ReadsBinary source end depth 0 before first between → ReadsConditional source end depth first between e after
    → ReadsExpr source end depth before e after
expr_conditional {end = n} {before = b} {between = m} h c =
    record {
      tree = c.tree b h.tree;
      shorter = let k = h.shorter in let l = c.shorter in omega arith;
      leads = λ rest o. expr_run n rest b ∙ (h.leads rest o ∙ c.leads rest o);
      small = let k = h.small in c.small (omega arith);
    }

pub expr_refused_later : {source : List ℕ} {end depth : ℕ} {before between : List Token} {first : RawExprTree} {error : ParseError} → ReadsBinary source end depth 0 before first between → Refused end depth (tasks.Tail ∷ []) between error
    → Refused end depth (tasks.Expr ∷ []) before error
expr_refused_later {end = n} {before = b} h r other rest o = expr_run n rest b ∙ (h.leads rest o ∙ r other rest o)

-- conditional expressions
conditional_opened : (end depth inside : ℕ) (b c : List Token) → next_sign b ≡ signs.Question → c ≡ rest_of b → inside ≡ 1 + depth → inside ≤ 64 → (rest : List Task) → open_tasks rest ≡ depth
    → run end (tasks.Tail ∷ rest) b ≡ run end (tasks.Expr ∷ tasks.Token signs.Colon ∷ tasks.Expr ∷ tasks.Done ∷ rest) c
conditional_opened end depth inside b c q behind more low rest o =
    run_sign end (tasks.Tail ∷ rest) signs.Question b q (λ e. cc) refl (omega arith) ∙ ap (λ l. run end (tasks.Expr ∷ tasks.Token signs.Colon ∷ tasks.Expr ∷ tasks.Done ∷ rest) l) (sym behind)

pub conditional_deep : (end depth : ℕ) (b : List Token) (error : ParseError) → next_sign b ≡ signs.Question → (error ≡ TooDeep (next_place end b)) × (64 ≤ depth) → Refused end depth (tasks.Tail ∷ []) b error
conditional_deep end depth b error q h other rest o = let deep = h.1 in run_too_deep end (tasks.Tail ∷ rest) signs.Question b q (λ e. cc) refl (omega arith) ∙ ap Some (sym h.0)

pub conditional_then : (end depth inside : ℕ) (b c : List Token) (error : ParseError) → next_sign b ≡ signs.Question → (inside ≡ 1 + depth) × (c ≡ rest_of b) → inside ≤ 64 → Refused end inside (tasks.Expr ∷ []) c error → Refused end depth (tasks.Tail ∷ []) b error
conditional_then end depth inside b c error q opening low h other rest o =
    conditional_opened end depth inside b c q opening.1 opening.0 low rest o ∙ h other (tasks.Token signs.Colon ∷ tasks.Expr ∷ tasks.Done ∷ rest) (let i = opening.0 in omega arith)

pub conditional_colon : (source : List ℕ) (end depth inside : ℕ) (b c d : List Token) (x : RawExprTree) (error : ParseError) → next_sign b ≡ signs.Question → (inside ≡ 1 + depth) × (c ≡ rest_of b) → inside ≤ 64 → ReadsExpr source end inside c x d
    → error ≡ Unexpected (next_place end d) → next_sign d ≢ signs.Colon → Refused end depth (tasks.Tail ∷ []) b error
conditional_colon source end depth inside b c d x error q opening low h place no_colon other rest o =
    conditional_opened end depth inside b c q opening.1 opening.0 low rest o
    ∙ (h.leads (tasks.Token signs.Colon ∷ tasks.Expr ∷ tasks.Done ∷ rest) (let i = opening.0 in omega arith)
    ∙ (run_none end (tasks.Token signs.Colon ∷ tasks.Expr ∷ tasks.Done ∷ rest) d (refuses_but (tasks.Token signs.Colon) _ signs.Colon (next_sign d) colon_only no_colon) refl ∙ ap Some (sym place)))

-- behind the `:`
conditional_colon_taken : (source : List ℕ) (end depth inside : ℕ) (b c d f : List Token) (x : RawExprTree) → next_sign b ≡ signs.Question → (inside ≡ 1 + depth) × (c ≡ rest_of b) → inside ≤ 64 → ReadsExpr source end inside c x d → Passes signs.Colon d f
    → (rest : List Task) → open_tasks rest ≡ depth → run end (tasks.Tail ∷ rest) b ≡ run end (tasks.Expr ∷ tasks.Done ∷ rest) f
conditional_colon_taken source end depth inside b c d f x q opening low h colon rest o =
    conditional_opened end depth inside b c q opening.1 opening.0 low rest o
    ∙ (h.leads (tasks.Token signs.Colon ∷ tasks.Expr ∷ tasks.Done ∷ rest) (let i = opening.0 in omega arith)
    ∙ run_passes end (tasks.Token signs.Colon ∷ tasks.Expr ∷ tasks.Done ∷ rest) colon (λ e. cc) refl (let i = opening.0 in omega arith))

pub conditional_otherwise : (source : List ℕ) (end depth inside : ℕ) (b c d f : List Token) (x : RawExprTree) (error : ParseError) → next_sign b ≡ signs.Question → (inside ≡ 1 + depth) × (c ≡ rest_of b) → inside ≤ 64 → ReadsExpr source end inside c x d
    → Passes signs.Colon d f → Refused end inside (tasks.Expr ∷ []) f error → Refused end depth (tasks.Tail ∷ []) b error
conditional_otherwise source end depth inside b c d f x error q opening low h colon r other rest o =
    conditional_colon_taken source end depth inside b c d f x q opening low h colon rest o ∙ r other (tasks.Done ∷ rest) (let i = opening.0 in omega arith)

pub done_run : (end : ℕ) (rest : List Task) (tokens : List Token) → run end (tasks.Done ∷ rest) tokens ≡ run end rest tokens
done_run end rest tokens = run_same end _ _ tokens (λ s. refl) refl

pub conditional_read : (source : List ℕ) (end depth inside : ℕ) (b c d f g : List Token) (first x y : RawExprTree) → next_sign b ≡ signs.Question → (inside ≡ 1 + depth) × (c ≡ rest_of b) → inside ≤ 64 → ReadsExpr source end inside c x d
    → Passes signs.Colon d f → ReadsExpr source end inside f y g → ReadsConditional source end depth first b (RawConditional first x y) g
conditional_read source end depth inside b c d f g first x y q opening low h colon k =
    record {
      tree = λ start t. IsExpr.conditional t (record { is_next = q; behind = opening.1 }) h.tree colon k.tree;
      shorter = (let l1 = shorter_sign signs.Question b q (λ e. cc) in let l2 = ap length opening.1 in let l3 = h.shorter in let l4 = passes_shorter colon (λ e. cc) in let l5 = k.shorter in omega arith);
      leads = λ rest o. conditional_colon_taken source end depth inside b c d f x q opening low h colon rest o ∙ (k.leads (tasks.Done ∷ rest) (let i = opening.0 in omega arith) ∙ done_run end rest g);
      small = λ s. let i = opening.0 in let m1 = h.small in let m2 = k.small in omega arith;
    }

-- levels
level_low : (operator : Infix) → level_of_infix operator < 10
level_low Infix.LogicalOr = lit< tt
level_low Infix.LogicalAnd = lit< tt
level_low (Infix.Binary BinaryOperator.Add) = lit< tt
level_low (Infix.Binary BinaryOperator.Subtract) = lit< tt
level_low (Infix.Binary BinaryOperator.Multiply) = lit< tt
level_low (Infix.Binary BinaryOperator.Divide) = lit< tt
level_low (Infix.Binary BinaryOperator.Remainder) = lit< tt
level_low (Infix.Binary BinaryOperator.BitAnd) = lit< tt
level_low (Infix.Binary BinaryOperator.BitOr) = lit< tt
level_low (Infix.Binary BinaryOperator.BitXor) = lit< tt
level_low (Infix.Binary BinaryOperator.ShiftLeft) = lit< tt
level_low (Infix.Binary BinaryOperator.ShiftRight) = lit< tt
level_low (Infix.Binary BinaryOperator.Less) = lit< tt
level_low (Infix.Binary BinaryOperator.Greater) = lit< tt
level_low (Infix.Binary BinaryOperator.LessOrEqual) = lit< tt
level_low (Infix.Binary BinaryOperator.GreaterOrEqual) = lit< tt
level_low (Infix.Binary BinaryOperator.Equal) = lit< tt
level_low (Infix.Binary BinaryOperator.NotEqual) = lit< tt

pub binary_unary : (source : List ℕ) (end depth level : ℕ) (a b : List Token) (e : RawExprTree) → 10 ≤ level → level ≤ 10 → ReadsUnary source end depth a e b → ReadsBinary source end depth level a e b
binary_unary source end depth level a b e high low h =
    record {
      tree = IsBinary.operand high h.tree;
      shorter = h.shorter;
      leads = λ rest o. h.leads (tasks.Tail ∷ rest) (omega arith);
      ended = λ op is. let l = level_low op in omega arith;
      small = let m = h.small in omega arith;
    }

pub binary_chain : (source : List ℕ) (end depth level : ℕ) (a b c : List Token) (first : RawExprTree) (rest : List (Infix × RawExprTree)) → level < 10 → ReadsBinary source end depth (level + 1) a first b → ReadsRepeated source end depth level b rest c
    → ReadsBinary source end depth level a (raw_chained first rest) c
binary_chain source end depth level a b c first rest low h r =
    record {
      tree = IsBinary.chain low h.tree (r.tree first);
      shorter = (let l1 = h.shorter in let l2 = r.no_longer in omega arith);
      leads = λ more o. h.leads more o ∙ r.leads more o;
      ended = r.ended;
      small = r.small first (let m = h.small in omega arith);
    }

raw_chained_append : (left : RawExprTree) (rest : List (Infix × RawExprTree)) (operator : Infix) (operand : RawExprTree) → raw_chained left (rest ++ ((operator, operand) ∷ [])) ≡ raw_joined (raw_chained left rest) operator operand
raw_chained_append left [] operator operand = refl
raw_chained_append left (p ∷ rest) operator operand = raw_chained_append (raw_joined left p.0 p.1) rest operator operand

operator_move : (kind : TokenKind) (operator : Infix) → infix_operator_of (Some kind) ≡ Some operator → tasks.tail_move (sign_of_token kind) ≡ tasks.Take (tasks.Operand ∷ tasks.Tail ∷ [])
operator_move kind operator e = let P : Option Infix → Type 0 = TailFact kind in subst P e (tail_fact kind)

operator_run : (end depth level : ℕ) (now b : List Token) (operator : Infix) → IsNextOperator level now operator → b ≡ rest_of now → depth ≤ 64 → (rest : List Task) → open_tasks rest ≡ depth → run end (tasks.Tail ∷ rest) now ≡ run end (tasks.Operand ∷ tasks.Tail ∷ rest) b
operator_run end depth level [] b operator is behind low rest o = let e = is.0 in cc
operator_run end depth level (t ∷ tokens) b operator is behind low rest o =
    run_taken end (tasks.Tail ∷ rest) t tokens (ap (λ m. after_move m rest (step rest (sign_at t))) (operator_move t.kind operator is.0)) (omega arith) ∙ ap (λ l. run end (tasks.Operand ∷ tasks.Tail ∷ rest) l) (sym behind)

operator_shorter : (level : ℕ) (now b : List Token) (operator : Infix) → IsNextOperator level now operator → b ≡ rest_of now → length b < length now
operator_shorter level [] b operator is behind = let e = is.0 in cc
operator_shorter level (t ∷ tokens) b operator is behind = let e = ap length behind in omega arith

joined_small : (operator : Infix) (l r : RawExprTree) (bound : ℕ) → raw_temporaries l ≤ bound → 1 + raw_temporaries r ≤ bound → raw_temporaries (raw_joined l operator r) ≤ bound
joined_small Infix.LogicalOr l r bound h k = omega arith
joined_small _ l r bound h k = omega arith

pub repeated_more : (source : List ℕ) (end depth level : ℕ) (a now b c : List Token) (rest : List (Infix × RawExprTree)) (operator : Infix) (operand : RawExprTree) → depth ≤ 64 → ReadingRepeated source end depth level a rest now → IsNextOperator level now operator
    → b ≡ rest_of now → ReadsBinary source end depth (level + 1) b operand c → ReadingRepeated source end depth level a (rest ++ ((operator, operand) ∷ [])) c
repeated_more source end depth level a now b c rest operator operand low h is behind r =
    record {
      tree = λ left e after t.
          let P : RawExprTree → Type 0 = λ l. IsRepeated source level l c e after in
          h.tree left e after (IsRepeated.another (record { is_next = is.0; of_level = is.1; behind = behind }) r.tree (subst P (raw_chained_append left rest operator operand) t));
      no_longer = (let l1 = h.no_longer in let l2 = operator_shorter level now b operator is behind in let l3 = r.shorter in omega arith);
      leads = λ more o. h.leads more o ∙ (operator_run end depth level now b operator is behind low more o ∙ r.leads more o);
      none_tighter = r.ended;
      small = λ left s.
          let m1 = h.small left s in
          let m2 = r.small in
          let j = joined_small operator (raw_chained left rest) operand (1039 - (16 * depth + level)) (omega arith) (omega arith) in
          let e = ap raw_temporaries (raw_chained_append left rest operator operand) in
          omega arith;
    }

pub repeated_done : (source : List ℕ) (end depth level : ℕ) (a now : List Token) (rest : List (Infix × RawExprTree)) → ReadingRepeated source end depth level a rest now → IsNoNextOperator level now → ReadsRepeated source end depth level a rest now
repeated_done source end depth level a now rest h last =
    record {
      tree = λ left. h.tree left (raw_chained left rest) now IsRepeated.no_more;
      no_longer = h.no_longer;
      leads = h.leads;
      ended = λ op is. let l = h.none_tighter op is in let n = last op is in omega arith;
      small = h.small;
    }

pub repeated_refused : (source : List ℕ) (end depth level : ℕ) (a now b : List Token) (rest : List (Infix × RawExprTree)) (operator : Infix) (error : ParseError) → depth ≤ 64 → ReadingRepeated source end depth level a rest now → IsNextOperator level now operator
    → b ≡ rest_of now → Refused end depth (tasks.Operand ∷ tasks.Tail ∷ []) b error → Refused end depth (tasks.Tail ∷ []) a error
repeated_refused source end depth level a now b rest operator error low h is behind r other more o = h.leads more o ∙ (operator_run end depth level now b operator is behind low more o ∙ r other more o)

-- two lists of tasks that do the same at the next token, or at the end
pub pass_run : (end : ℕ) (todo others : List Task) (token : Token) (tokens : List Token) → step todo (sign_at token) ≡ step others (sign_at token) → run end todo (token ∷ tokens) ≡ run end others (token ∷ tokens)
unfolding run one_made
pass_run end todo others token tokens e = ap (one_made end token.at tokens) e

pub pass_end : (end : ℕ) (todo others : List Task) → finishes todo ≡ finishes others → run end todo [] ≡ run end others []
unfolding run
pass_end end todo others e = ap (λ b. if b then None else Some (Unexpected end)) e
