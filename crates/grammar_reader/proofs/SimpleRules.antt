-- What the functions of assignments and calls come to, exit by exit.
use Rattle.grammar_reader.proofs.Common.{ℕ, ◌≡◌, ◌≢◌, ◌≤◌, inr, refl, sym, ap, subst, ◌∙◌, List, [], ◌∷◌, Some, arith, Token, NameTree, RawExprTree, RawExprTrees, RawSet, RawSetElement, RawCalling, RawTableCalling, ParseError, Unexpected, Sign, Task, step, after_move, open_tasks, run, next_sign, next_place, rest_of, Passes, PassesName, IsSimple, Leads, Refused, ReadsExpr, ReadsParenthesized, ReadsArguments, ReadsSimple, RefusedSimple, ReadsIndexed}
use Rattle.c_grammar.specs.declared.signs.Sign.TheVariants as signs
use Rattle.c_grammar.specs.Machine as tasks
use Rattle.grammar_reader.proofs.Runs.{run_passes, run_none, passes_shorter}
use Rattle.grammar_reader.proofs.ExprRules.{pass_run}

-- what is behind the name of the next token
behind_name : {source : List ℕ} {a b : List Token} {n : NameTree} → PassesName source a n b → b ≡ rest_of a
behind_name p = p.passes.behind

at_rest : (end depth : ℕ) (a b : List Token) (left : List Task) (c : List Token) → b ≡ rest_of a → Leads end depth (tasks.AfterSimpleName ∷ []) b left c → Leads end depth (tasks.AfterSimpleName ∷ []) (rest_of a) left c
at_rest end depth a b left c e h = let P : List Token → Type 0 = λ l. Leads end depth (tasks.AfterSimpleName ∷ []) l left c in subst P e h

refused_at_rest : (end depth : ℕ) (a b : List Token) (error : ParseError) → b ≡ rest_of a → Refused end depth (tasks.AfterSimpleName ∷ []) b error → Refused end depth (tasks.AfterSimpleName ∷ []) (rest_of a) error
refused_at_rest end depth a b error e h = let P : List Token → Type 0 = λ l. Refused end depth (tasks.AfterSimpleName ∷ []) l error in subst P e h

pub simple_refused : (source : List ℕ) (end depth : ℕ) (a b : List Token) (n : NameTree) (error : ParseError) → PassesName source a n b → Refused end depth (tasks.AfterSimpleName ∷ []) b error → RefusedSimple end depth a error
simple_refused source end depth a b n error p r other = inr (p.passes.is_next, refused_at_rest end depth a b error (behind_name p) r)

pub simple_call : (source : List ℕ) (end depth : ℕ) (a b c : List Token) (n : NameTree) (es : RawExprTrees) → PassesName source a n b → ReadsArguments source end depth b es c → ReadsSimple source end depth a (RawCalling n es) c
simple_call source end depth a b c n es p h =
    record {
      tree = IsSimple.calling p h.tree;
      named = p.passes.is_next;
      shorter = (let l1 = passes_shorter p.passes (λ e. cc) in let l2 = h.shorter in omega arith);
      leads = at_rest end depth a b [] c (behind_name p) h.leads_simple;
      small = (let m = h.small in omega arith);
    }

-- behind the name neither a call nor an index: an assignment
after_name_refuses : (s : Sign) → s ≢ signs.LeftParenthesis → s ≢ signs.LeftBracket → s ≢ signs.Assign → tasks.after_simple_name_move s ≡ tasks.Refuse
after_name_refuses signs.LeftParenthesis a b c = absurd (a refl)
after_name_refuses signs.LeftBracket a b c = absurd (b refl)
after_name_refuses signs.Assign a b c = absurd (c refl)
after_name_refuses _ a b c = refl

pub simple_no_assign : (source : List ℕ) (end depth : ℕ) (a b : List Token) (n : NameTree) (error : ParseError) → PassesName source a n b → next_sign b ≢ signs.LeftParenthesis → next_sign b ≢ signs.LeftBracket → next_sign b ≢ signs.Assign → error ≡ Unexpected (next_place end b)
    → RefusedSimple end depth a error
simple_no_assign source end depth a b n error p n1 n2 n3 place =
    simple_refused source end depth a b n error p
    (λ other rest o. run_none end (tasks.AfterSimpleName ∷ rest) b (ap (λ m. after_move m rest (step rest (next_sign b))) (after_name_refuses (next_sign b) n1 n2 n3)) refl ∙ ap Some (sym place))

assign_run : (end depth : ℕ) (b c : List Token) → depth ≤ 64 → Passes signs.Assign b c → (rest : List Task) → open_tasks rest ≡ depth → run end (tasks.AfterSimpleName ∷ rest) b ≡ run end (tasks.Expr ∷ rest) c
assign_run end depth b c low p rest o = run_passes end (tasks.AfterSimpleName ∷ rest) p (λ e. cc) refl (omega arith)

pub simple_set_refused : (source : List ℕ) (end depth : ℕ) (a b c : List Token) (n : NameTree) (error : ParseError) → depth ≤ 64 → PassesName source a n b → Passes signs.Assign b c → Refused end depth (tasks.Expr ∷ []) c error → RefusedSimple end depth a error
simple_set_refused source end depth a b c n error low p q r = simple_refused source end depth a b n error p (λ other rest o. assign_run end depth b c low q rest o ∙ r other rest o)

pub simple_set : (source : List ℕ) (end depth : ℕ) (a b c d : List Token) (n : NameTree) (v : RawExprTree) → depth ≤ 64 → PassesName source a n b → Passes signs.Assign b c → ReadsExpr source end depth c v d → ReadsSimple source end depth a (RawSet n v) d
simple_set source end depth a b c d n v low p q h =
    record {
      tree = IsSimple.set p q h.tree;
      named = p.passes.is_next;
      shorter = (let l1 = passes_shorter p.passes (λ e. cc) in let l2 = passes_shorter q (λ e. cc) in let l3 = h.shorter in omega arith);
      leads = at_rest end depth a b [] d (behind_name p) (λ rest o. assign_run end depth b c low q rest o ∙ h.leads rest o);
      small = (let m = h.small in omega arith);
    }

-- behind the index
indexed_parenthesis : (end : ℕ) (a : List Token) (rest : List Task) → next_sign a ≡ signs.LeftParenthesis → run end (tasks.AfterSimpleIndex ∷ rest) a ≡ run end (tasks.Parenthesized ∷ rest) a
indexed_parenthesis end [] rest e = cc
indexed_parenthesis end (t ∷ tokens) rest e = pass_run end (tasks.AfterSimpleIndex ∷ rest) (tasks.Parenthesized ∷ rest) t tokens (let P : Sign → Type 0 = λ s. step (tasks.AfterSimpleIndex ∷ rest) s ≡ step (tasks.Parenthesized ∷ rest) s in subst P (sym e) refl)

pub indexed_call : (source : List ℕ) (end depth : ℕ) (n : NameTree) (i e : RawExprTree) (a b : List Token) → ReadsParenthesized source end depth a e b → ReadsIndexed source end depth n i a (RawTableCalling n i e) b
indexed_call source end depth n i e a b h =
    record {
      tree = λ first second p x. IsSimple.table_calling p x h.tree;
      shorter = h.shorter;
      leads = λ rest o. indexed_parenthesis end a rest h.opened ∙ h.leads rest o;
      small = λ m. let k = h.small in omega arith;
    }

pub indexed_call_refused : (end depth : ℕ) (a : List Token) (error : ParseError) → next_sign a ≡ signs.LeftParenthesis → Refused end depth (tasks.Parenthesized ∷ []) a error → Refused end depth (tasks.AfterSimpleIndex ∷ []) a error
indexed_call_refused end depth a error e r other rest o = indexed_parenthesis end a rest e ∙ r other rest o

index_refuses : (s : Sign) → s ≢ signs.LeftParenthesis → s ≢ signs.Assign → tasks.after_simple_index_move s ≡ tasks.Refuse
index_refuses signs.LeftParenthesis a b = absurd (a refl)
index_refuses signs.Assign a b = absurd (b refl)
index_refuses _ a b = refl

pub indexed_no_assign : (end depth : ℕ) (a : List Token) (error : ParseError) → next_sign a ≢ signs.LeftParenthesis → next_sign a ≢ signs.Assign → error ≡ Unexpected (next_place end a) → Refused end depth (tasks.AfterSimpleIndex ∷ []) a error
indexed_no_assign end depth a error n1 n2 place other rest o = run_none end (tasks.AfterSimpleIndex ∷ rest) a (ap (λ m. after_move m rest (step rest (next_sign a))) (index_refuses (next_sign a) n1 n2)) refl ∙ ap Some (sym place)

index_assign_run : (end depth : ℕ) (b c : List Token) → depth ≤ 64 → Passes signs.Assign b c → (rest : List Task) → open_tasks rest ≡ depth → run end (tasks.AfterSimpleIndex ∷ rest) b ≡ run end (tasks.Expr ∷ rest) c
index_assign_run end depth b c low p rest o = run_passes end (tasks.AfterSimpleIndex ∷ rest) p (λ e. cc) refl (omega arith)

pub indexed_set_refused : (end depth : ℕ) (a b : List Token) (error : ParseError) → depth ≤ 64 → Passes signs.Assign a b → Refused end depth (tasks.Expr ∷ []) b error → Refused end depth (tasks.AfterSimpleIndex ∷ []) a error
indexed_set_refused end depth a b error low q r other rest o = index_assign_run end depth a b low q rest o ∙ r other rest o

pub indexed_set : (source : List ℕ) (end depth : ℕ) (n : NameTree) (i v : RawExprTree) (a b c : List Token) → depth ≤ 64 → Passes signs.Assign a b → ReadsExpr source end depth b v c → ReadsIndexed source end depth n i a (RawSetElement n i v) c
indexed_set source end depth n i v a b c low q h =
    record {
      tree = λ first second p x. IsSimple.set_element p x q h.tree;
      shorter = (let l1 = passes_shorter q (λ e. cc) in let l2 = h.shorter in omega arith);
      leads = λ rest o. index_assign_run end depth a b low q rest o ∙ h.leads rest o;
      small = λ m. let k = h.small in omega arith;
    }
