-- What the functions of brackets and arguments come to, exit by exit.
use Rattle.grammar_reader.proofs.Common.{ℕ, ◌≡◌, ◌≢◌, ◌+◌, ◌*◌, ◌≤◌, refl, sym, ap, subst, ◌∙◌, List, [], ◌∷◌, ◌++◌, length, length-append, Some, arith, Token, RawExprTree, RawExprTrees, NoExprs, And, raw_arguments, raw_temporaries, raw_arguments_temporaries, ParseError, Unexpected, TooDeep, Sign, Task, step, after_move, open_tasks, sign_at, run, next_sign, next_place, rest_of, Passes, IsIndex, IsParenthesized, AreArguments, AreMoreArguments, Leads, Refused, ReadsExpr, ReadsParenthesized, ReadsIndex, ReadsArguments, ReadingArguments, followed_by}
use Rattle.c_grammar.specs.declared.signs.Sign.TheVariants as signs
use Rattle.c_grammar.specs.Machine as tasks
use Rattle.grammar_reader.proofs.Runs.{run_sign, run_passes, run_too_deep, run_none, shorter_sign, passes_shorter, refuses_but, parenthesized_only, right_parenthesis_only, right_bracket_only}
use Rattle.grammar_reader.proofs.ExprRules.{pass_run, pass_end}

-- one more construct is open behind the token
abbrev pub Opens : ℕ → ℕ → List Token → List Token → Type 0
Opens depth inside a b = (inside ≡ 1 + depth) × (b ≡ rest_of a)

-- a token that begins an expression in brackets, for any task that takes it so
opening_run : (end depth inside : ℕ) (todo : List Task) (s close : Sign) (left : List Task) (a b : List Token) → next_sign a ≡ s → s ≢ signs.Finish → Opens depth inside a b → inside ≤ 64 → open_tasks (tasks.Expr ∷ tasks.Token close ∷ left) ≡ inside
    → step todo s ≡ Some (tasks.Expr ∷ tasks.Token close ∷ left) → run end todo a ≡ run end (tasks.Expr ∷ tasks.Token close ∷ left) b
opening_run end depth inside todo s close left a b e some opening low o stepped =
    run_sign end todo s a e some stepped (omega arith) ∙ ap (λ l. run end (tasks.Expr ∷ tasks.Token close ∷ left) l) (sym opening.1)

-- parentheses
pub parenthesized_wrong : (end depth : ℕ) (a : List Token) (error : ParseError) → next_sign a ≢ signs.LeftParenthesis → error ≡ Unexpected (next_place end a) → Refused end depth (tasks.Parenthesized ∷ []) a error
parenthesized_wrong end depth a error wrong place other rest o = run_none end (tasks.Parenthesized ∷ rest) a (refuses_but tasks.Parenthesized rest signs.LeftParenthesis (next_sign a) parenthesized_only wrong) refl ∙ ap Some (sym place)

pub parenthesized_deep : (end depth : ℕ) (a : List Token) (error : ParseError) → next_sign a ≡ signs.LeftParenthesis → (error ≡ TooDeep (next_place end a)) × (64 ≤ depth) → Refused end depth (tasks.Parenthesized ∷ []) a error
parenthesized_deep end depth a error e h other rest o = let deep = h.1 in run_too_deep end (tasks.Parenthesized ∷ rest) signs.LeftParenthesis a e (λ e. cc) refl (omega arith) ∙ ap Some (sym h.0)

parenthesized_opened : (end depth inside : ℕ) (a b : List Token) → next_sign a ≡ signs.LeftParenthesis → Opens depth inside a b → inside ≤ 64 → (rest : List Task) → open_tasks rest ≡ depth → run end (tasks.Parenthesized ∷ rest) a ≡ run end (tasks.Expr ∷ tasks.Token signs.RightParenthesis ∷ rest) b
parenthesized_opened end depth inside a b e opening low rest o = opening_run end depth inside (tasks.Parenthesized ∷ rest) signs.LeftParenthesis signs.RightParenthesis rest a b e (λ e. cc) opening low (let i = opening.0 in omega arith) refl

pub parenthesized_inner : (end depth inside : ℕ) (a b : List Token) (error : ParseError) → next_sign a ≡ signs.LeftParenthesis → Opens depth inside a b → inside ≤ 64 → Refused end inside (tasks.Expr ∷ []) b error → Refused end depth (tasks.Parenthesized ∷ []) a error
parenthesized_inner end depth inside a b error e opening low r other rest o = parenthesized_opened end depth inside a b e opening low rest o ∙ r other (tasks.Token signs.RightParenthesis ∷ rest) (let i = opening.0 in omega arith)

pub parenthesized_open_end : (source : List ℕ) (end depth inside : ℕ) (a b c : List Token) (x : RawExprTree) (error : ParseError) → next_sign a ≡ signs.LeftParenthesis → Opens depth inside a b → inside ≤ 64 → ReadsExpr source end inside b x c → error ≡ Unexpected (next_place end c)
    → next_sign c ≢ signs.RightParenthesis → Refused end depth (tasks.Parenthesized ∷ []) a error
parenthesized_open_end source end depth inside a b c x error e opening low h place wrong other rest o =
    parenthesized_opened end depth inside a b e opening low rest o
    ∙ (h.leads (tasks.Token signs.RightParenthesis ∷ rest) (let i = opening.0 in omega arith)
    ∙ (run_none end (tasks.Token signs.RightParenthesis ∷ rest) c (refuses_but (tasks.Token signs.RightParenthesis) rest signs.RightParenthesis (next_sign c) right_parenthesis_only wrong) refl ∙ ap Some (sym place)))

pub parenthesized_read : (source : List ℕ) (end depth inside : ℕ) (a b c d : List Token) (x : RawExprTree) → next_sign a ≡ signs.LeftParenthesis → Opens depth inside a b → inside ≤ 64 → ReadsExpr source end inside b x c → Passes signs.RightParenthesis c d
    → ReadsParenthesized source end depth a x d
parenthesized_read source end depth inside a b c d x e opening low h close =
    record {
      tree = IsParenthesized.parentheses (record { is_next = e; behind = opening.1 }) h.tree close;
      opened = e;
      shorter = (let l1 = shorter_sign signs.LeftParenthesis a e (λ e. cc) in let l2 = ap length opening.1 in let l3 = h.shorter in let l4 = passes_shorter close (λ e. cc) in omega arith);
      leads = λ rest o.
          parenthesized_opened end depth inside a b e opening low rest o
          ∙ (h.leads (tasks.Token signs.RightParenthesis ∷ rest) (let i = opening.0 in omega arith)
          ∙ run_passes end (tasks.Token signs.RightParenthesis ∷ rest) close (λ e. cc) refl (let i = opening.0 in omega arith));
      small = (let i = opening.0 in let m = h.small in omega arith);
    }

-- the two tasks that come to brackets
pub data Bracketed : Task → Task → Type 0 where
  primary : Bracketed tasks.AfterName tasks.AfterIndex
  simple : Bracketed tasks.AfterSimpleName tasks.AfterSimpleIndex

bracketed_step : {todo left : Task} (rest : List Task) → Bracketed todo left → step (todo ∷ rest) signs.LeftBracket ≡ Some (tasks.Expr ∷ tasks.Token signs.RightBracket ∷ left ∷ rest)
bracketed_step rest Bracketed.primary = refl
bracketed_step rest Bracketed.simple = refl

bracketed_open : {todo left : Task} (rest : List Task) → Bracketed todo left → open_tasks (left ∷ rest) ≡ open_tasks rest
bracketed_open rest Bracketed.primary = omega arith
bracketed_open rest Bracketed.simple = omega arith

pub bracketed_deep : (end depth : ℕ) (todo left : Task) (a : List Token) (error : ParseError) → Bracketed todo left → next_sign a ≡ signs.LeftBracket → (error ≡ TooDeep (next_place end a)) × (64 ≤ depth) → Refused end depth (todo ∷ []) a error
bracketed_deep end depth todo left a error k e h other rest o =
    let deep = h.1 in let z = bracketed_open rest k in
    run_too_deep end (todo ∷ rest) signs.LeftBracket a e (λ e. cc) (bracketed_step rest k) (omega arith) ∙ ap Some (sym h.0)

bracketed_opened : (end depth inside : ℕ) (todo left : Task) (a b : List Token) → Bracketed todo left → next_sign a ≡ signs.LeftBracket → Opens depth inside a b → inside ≤ 64 → (rest : List Task) → open_tasks rest ≡ depth
    → run end (todo ∷ rest) a ≡ run end (tasks.Expr ∷ tasks.Token signs.RightBracket ∷ left ∷ rest) b
bracketed_opened end depth inside todo left a b k e opening low rest o =
    let z = bracketed_open rest k in
    opening_run end depth inside (todo ∷ rest) signs.LeftBracket signs.RightBracket (left ∷ rest) a b e (λ e. cc) opening low (let i = opening.0 in omega arith) (bracketed_step rest k)

pub bracketed_inner : (end depth inside : ℕ) (todo left : Task) (a b : List Token) (error : ParseError) → Bracketed todo left → next_sign a ≡ signs.LeftBracket → Opens depth inside a b → inside ≤ 64 → Refused end inside (tasks.Expr ∷ []) b error → Refused end depth (todo ∷ []) a error
bracketed_inner end depth inside todo left a b error k e opening low r other rest o =
    let z = bracketed_open rest k in
    bracketed_opened end depth inside todo left a b k e opening low rest o ∙ r other (tasks.Token signs.RightBracket ∷ left ∷ rest) (let i = opening.0 in omega arith)

pub bracketed_open_end : (source : List ℕ) (end depth inside : ℕ) (todo left : Task) (a b c : List Token) (x : RawExprTree) (error : ParseError) → Bracketed todo left → next_sign a ≡ signs.LeftBracket → Opens depth inside a b → inside ≤ 64 → ReadsExpr source end inside b x c
    → error ≡ Unexpected (next_place end c) → next_sign c ≢ signs.RightBracket → Refused end depth (todo ∷ []) a error
bracketed_open_end source end depth inside todo left a b c x error k e opening low h place wrong other rest o =
    let z = bracketed_open rest k in
    bracketed_opened end depth inside todo left a b k e opening low rest o
    ∙ (h.leads (tasks.Token signs.RightBracket ∷ left ∷ rest) (let i = opening.0 in omega arith)
    ∙ (run_none end (tasks.Token signs.RightBracket ∷ left ∷ rest) c (refuses_but (tasks.Token signs.RightBracket) (left ∷ rest) signs.RightBracket (next_sign c) right_bracket_only wrong) refl ∙ ap Some (sym place)))

bracketed_leads : (source : List ℕ) (end depth inside : ℕ) (todo left : Task) (a b c d : List Token) (x : RawExprTree) → Bracketed todo left → next_sign a ≡ signs.LeftBracket → Opens depth inside a b → inside ≤ 64 → ReadsExpr source end inside b x c → Passes signs.RightBracket c d
    → Leads end depth (todo ∷ []) a (left ∷ []) d
bracketed_leads source end depth inside todo left a b c d x k e opening low h close rest o =
    let z = bracketed_open rest k in
    bracketed_opened end depth inside todo left a b k e opening low rest o
    ∙ (h.leads (tasks.Token signs.RightBracket ∷ left ∷ rest) (let i = opening.0 in omega arith)
    ∙ run_passes end (tasks.Token signs.RightBracket ∷ left ∷ rest) close (λ e. cc) refl (let i = opening.0 in omega arith))

pub bracketed_read : (source : List ℕ) (end depth inside : ℕ) (a b c d : List Token) (x : RawExprTree) → next_sign a ≡ signs.LeftBracket → Opens depth inside a b → inside ≤ 64 → ReadsExpr source end inside b x c → Passes signs.RightBracket c d → ReadsIndex source end depth a x d
bracketed_read source end depth inside a b c d x e opening low h close =
    record {
      tree = IsIndex.index (record { is_next = e; behind = opening.1 }) h.tree close;
      shorter = (let l1 = shorter_sign signs.LeftBracket a e (λ e. cc) in let l2 = ap length opening.1 in let l3 = h.shorter in let l4 = passes_shorter close (λ e. cc) in omega arith);
      leads = bracketed_leads source end depth inside tasks.AfterName tasks.AfterIndex a b c d x Bracketed.primary e opening low h close;
      leads_simple = bracketed_leads source end depth inside tasks.AfterSimpleName tasks.AfterSimpleIndex a b c d x Bracketed.simple e opening low h close;
      small = (let i = opening.0 in let m = h.small in omega arith);
    }

-- arguments, of either task
pub data Called : Task → Type 0 where
  primary : Called tasks.AfterName
  simple : Called tasks.AfterSimpleName

called_step : {todo : Task} (rest : List Task) → Called todo → step (todo ∷ rest) signs.LeftParenthesis ≡ Some (tasks.ArgumentList ∷ rest)
called_step rest Called.primary = refl
called_step rest Called.simple = refl

pub arguments_deep : (end depth : ℕ) (todo : Task) (a : List Token) (error : ParseError) → Called todo → next_sign a ≡ signs.LeftParenthesis → (error ≡ TooDeep (next_place end a)) × (64 ≤ depth) → Refused end depth (todo ∷ []) a error
arguments_deep end depth todo a error k e h other rest o = let deep = h.1 in run_too_deep end (todo ∷ rest) signs.LeftParenthesis a e (λ e. cc) (called_step rest k) (omega arith) ∙ ap Some (sym h.0)

arguments_opened : (end depth inside : ℕ) (todo : Task) (a b : List Token) → Called todo → next_sign a ≡ signs.LeftParenthesis → Opens depth inside a b → inside ≤ 64 → (rest : List Task) → open_tasks rest ≡ depth → run end (todo ∷ rest) a ≡ run end (tasks.ArgumentList ∷ rest) b
arguments_opened end depth inside todo a b k e opening low rest o =
    let i = opening.0 in
    run_sign end (todo ∷ rest) signs.LeftParenthesis a e (λ e. cc) (called_step rest k) (omega arith) ∙ ap (λ l. run end (tasks.ArgumentList ∷ rest) l) (sym opening.1)

-- no `)` comes, so that an expression is wanted
list_move : (s : Sign) (rest : List Task) → s ≢ signs.RightParenthesis → step (tasks.ArgumentList ∷ rest) s ≡ step (tasks.Expr ∷ tasks.MoreArguments ∷ rest) s
list_move signs.RightParenthesis rest other = absurd (other refl)
list_move _ rest other = refl

list_run : (end : ℕ) (rest : List Task) (b : List Token) → next_sign b ≢ signs.RightParenthesis → run end (tasks.ArgumentList ∷ rest) b ≡ run end (tasks.Expr ∷ tasks.MoreArguments ∷ rest) b
list_run end rest [] other = pass_end end (tasks.ArgumentList ∷ rest) (tasks.Expr ∷ tasks.MoreArguments ∷ rest) refl
list_run end rest (t ∷ tokens) other = pass_run end (tasks.ArgumentList ∷ rest) (tasks.Expr ∷ tasks.MoreArguments ∷ rest) t tokens (list_move (sign_at t) rest other)

pub arguments_none : (source : List ℕ) (end depth inside : ℕ) (a b c : List Token) → depth ≤ 64 → next_sign a ≡ signs.LeftParenthesis → Opens depth inside a b → inside ≤ 64 → next_sign b ≡ signs.RightParenthesis → c ≡ rest_of b → ReadsArguments source end depth a NoExprs c
arguments_none source end depth inside a b c fits e opening low close behind =
    let p : Passes signs.RightParenthesis b c = record { is_next = close; behind = behind } in
    record {
      tree = AreArguments.no_arguments (record { is_next = e; behind = opening.1 }) p;
      shorter = (let l1 = shorter_sign signs.LeftParenthesis a e (λ e. cc) in let l2 = ap length opening.1 in let l3 = passes_shorter p (λ e. cc) in omega arith);
      leads = λ rest o. arguments_opened end depth inside tasks.AfterName a b Called.primary e opening low rest o ∙ run_passes end (tasks.ArgumentList ∷ rest) p (λ e. cc) refl (omega arith);
      leads_simple = λ rest o. arguments_opened end depth inside tasks.AfterSimpleName a b Called.simple e opening low rest o ∙ run_passes end (tasks.ArgumentList ∷ rest) p (λ e. cc) refl (omega arith);
      small = omega arith;
    }

pub arguments_first_refused : (end depth inside : ℕ) (todo : Task) (a b : List Token) (error : ParseError) → Called todo → next_sign a ≡ signs.LeftParenthesis → Opens depth inside a b → inside ≤ 64 → next_sign b ≢ signs.RightParenthesis → Refused end inside (tasks.Expr ∷ []) b error
    → Refused end depth (todo ∷ []) a error
arguments_first_refused end depth inside todo a b error k e opening low some r other rest o =
    arguments_opened end depth inside todo a b k e opening low rest o ∙ (list_run end rest b some ∙ r other (tasks.MoreArguments ∷ rest) (let i = opening.0 in omega arith))

pub arguments_first : (source : List ℕ) (end depth inside : ℕ) (a b c : List Token) (x : RawExprTree) → next_sign a ≡ signs.LeftParenthesis → Opens depth inside a b → inside ≤ 64 → next_sign b ≢ signs.RightParenthesis → ReadsExpr source end inside b x c
    → ReadingArguments source end depth a (x ∷ []) c
arguments_first source end depth inside a b c x e opening low some h =
    record {
      tree = λ others after t. AreArguments.arguments (record { is_next = e; behind = opening.1 }) h.tree t;
      shorter = (let l1 = shorter_sign signs.LeftParenthesis a e (λ e. cc) in let l2 = ap length opening.1 in let l3 = h.shorter in omega arith);
      leads = λ rest o. arguments_opened end depth inside tasks.AfterName a b Called.primary e opening low rest o ∙ (list_run end rest b some ∙ h.leads (tasks.MoreArguments ∷ rest) (let i = opening.0 in omega arith));
      leads_simple = λ rest o. arguments_opened end depth inside tasks.AfterSimpleName a b Called.simple e opening low rest o ∙ (list_run end rest b some ∙ h.leads (tasks.MoreArguments ∷ rest) (let i = opening.0 in omega arith));
      small = λ others s. let i = opening.0 in let m = h.small in omega arith;
    }

-- more arguments, and the last
followed_more : (es : List RawExprTree) (x : RawExprTree) (others : RawExprTrees) → followed_by (es ++ (x ∷ [])) others ≡ followed_by es (And x others)
followed_more [] x others = refl
followed_more (e ∷ es) x others = ap (λ l. And e l) (followed_more es x others)

followed_all : (es : List RawExprTree) → followed_by es NoExprs ≡ raw_arguments es
followed_all [] = refl
followed_all (e ∷ es) = ap (λ l. And e l) (followed_all es)

comma_run : (end : ℕ) (now b : List Token) (rest : List Task) → open_tasks rest ≤ 63 → next_sign now ≡ signs.Comma → b ≡ rest_of now → run end (tasks.MoreArguments ∷ rest) now ≡ run end (tasks.Expr ∷ tasks.MoreArguments ∷ rest) b
comma_run end now b rest low comma behind = run_sign end (tasks.MoreArguments ∷ rest) signs.Comma now comma (λ e. cc) refl (omega arith) ∙ ap (λ l. run end (tasks.Expr ∷ tasks.MoreArguments ∷ rest) l) (sym behind)

more_small : (n : ℕ) (x : RawExprTree) (others : RawExprTrees) (depth : ℕ) → raw_temporaries x + 16 * depth ≤ 1023 → raw_arguments_temporaries (1 + n) others + 16 * depth ≤ 1028 → raw_arguments_temporaries n (And x others) + 16 * depth ≤ 1028
more_small n x others depth h k = omega arith

pub arguments_more : (source : List ℕ) (end depth inside : ℕ) (a now b c : List Token) (es : List RawExprTree) (x : RawExprTree) → inside ≡ 1 + depth → inside ≤ 64 → ReadingArguments source end depth a es now → next_sign now ≡ signs.Comma → b ≡ rest_of now
    → ReadsExpr source end inside b x c → ReadingArguments source end depth a (es ++ (x ∷ [])) c
arguments_more source end depth inside a now b c es x i low h comma behind k =
    record {
      tree = λ others after t.
          let P : RawExprTrees → Type 0 = λ l. AreArguments source a l after in
          subst P (sym (followed_more es x others)) (h.tree (And x others) after (AreMoreArguments.another_argument (record { is_next = comma; behind = behind }) k.tree t));
      shorter = (let l1 = shorter_sign signs.Comma now comma (λ e. cc) in let l2 = ap length behind in let l3 = k.shorter in let l4 = h.shorter in omega arith);
      leads = λ rest o. h.leads rest o ∙ (comma_run end now b rest (omega arith) comma behind ∙ k.leads (tasks.MoreArguments ∷ rest) (omega arith));
      leads_simple = λ rest o. h.leads_simple rest o ∙ (comma_run end now b rest (omega arith) comma behind ∙ k.leads (tasks.MoreArguments ∷ rest) (omega arith));
      small = λ others s.
          let n : length (es ++ (x ∷ [])) ≡ 1 + length es = omega (arith, length-append es (x ∷ [])) in
          let m = k.small in
          let e = ap (raw_arguments_temporaries 0) (followed_more es x others) in
          let j = ap (λ l. raw_arguments_temporaries l others) n in
          let g = h.small (And x others) (more_small (length es) x others depth (omega arith) (omega arith)) in
          omega arith;
    }

pub arguments_more_refused : (source : List ℕ) (end depth inside : ℕ) (a now b : List Token) (es : List RawExprTree) (error : ParseError) → inside ≡ 1 + depth → inside ≤ 64 → ReadingArguments source end depth a es now → next_sign now ≡ signs.Comma → b ≡ rest_of now
    → Refused end inside (tasks.Expr ∷ []) b error → Refused end depth (tasks.AfterName ∷ []) a error × Refused end depth (tasks.AfterSimpleName ∷ []) a error
arguments_more_refused source end depth inside a now b es error i low h comma behind r = (
  λ other rest o. h.leads rest o ∙ (comma_run end now b rest (omega arith) comma behind ∙ r other (tasks.MoreArguments ∷ rest) (omega arith)),
  λ other rest o. h.leads_simple rest o ∙ (comma_run end now b rest (omega arith) comma behind ∙ r other (tasks.MoreArguments ∷ rest) (omega arith)),
)

more_refuses : (s : Sign) → s ≢ signs.Comma → s ≢ signs.RightParenthesis → tasks.more_arguments_move s ≡ tasks.Refuse
more_refuses signs.Comma a b = absurd (a refl)
more_refuses signs.RightParenthesis a b = absurd (b refl)
more_refuses _ a b = refl

pub arguments_open_end : (source : List ℕ) (end depth : ℕ) (a now : List Token) (es : List RawExprTree) (error : ParseError) → ReadingArguments source end depth a es now → next_sign now ≢ signs.Comma → next_sign now ≢ signs.RightParenthesis → error ≡ Unexpected (next_place end now)
    → Refused end depth (tasks.AfterName ∷ []) a error × Refused end depth (tasks.AfterSimpleName ∷ []) a error
arguments_open_end source end depth a now es error h no_comma no_close place =
    let stuck : (rest : List Task) → run end (tasks.MoreArguments ∷ rest) now ≡ Some error =
    λ rest. run_none end (tasks.MoreArguments ∷ rest) now (ap (λ m. after_move m rest (step rest (next_sign now))) (more_refuses (next_sign now) no_comma no_close)) refl ∙ ap Some (sym place)
    in
    (λ other rest o. h.leads rest o ∙ stuck rest, λ other rest o. h.leads_simple rest o ∙ stuck rest)

pub arguments_read : (source : List ℕ) (end depth : ℕ) (a now b : List Token) (es : List RawExprTree) → depth ≤ 64 → ReadingArguments source end depth a es now → Passes signs.RightParenthesis now b → ReadsArguments source end depth a (raw_arguments es) b
arguments_read source end depth a now b es low h close =
    record {
      tree = (let P : RawExprTrees → Type 0 = λ l. AreArguments source a l b in subst P (followed_all es) (h.tree NoExprs b (AreMoreArguments.last_argument close)));
      shorter = (let l1 = h.shorter in let l2 = passes_shorter close (λ e. cc) in omega arith);
      leads = λ rest o. h.leads rest o ∙ run_passes end (tasks.MoreArguments ∷ rest) close (λ e. cc) refl (omega arith);
      leads_simple = λ rest o. h.leads_simple rest o ∙ run_passes end (tasks.MoreArguments ∷ rest) close (λ e. cc) refl (omega arith);
      small = (let e = ap (raw_arguments_temporaries 0) (followed_all es) in let g = h.small NoExprs (omega arith) in omega arith);
    }
