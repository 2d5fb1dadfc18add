-- What the functions of sizes and declarations come to, exit by exit.
use Rattle.grammar_reader.proofs.Common.{ℕ, ◌≡◌, ◌≢◌, ◌+◌, ◌-◌, ◌*◌, ◌≤◌, ◌⊎◌, inl, inr, refl, sym, ap, subst, ◌∙◌, List, [], ◌∷◌, ◌++◌, length, Some, append_assoc, append-nil, arith, Token, NameTree, RawExprTree, RawSimpleTree, RawDeclareScalar, RawDeclareArray, RawDeclareWith, raw_simple_temporaries, raw_simples_temporaries, ParseError, Unexpected, Memory, Sign, Task, step, after_move, open_tasks, sign_at, run, next_sign, next_place, rest_of, Passes, PassesName, PassesNumber, IsNotOpened, IsLocal, AreMoreLocals, AreLocals, Leads, Refused, ReadsExpr, Sized, ReadsSize, RefusedSize, ReadsLocal, ReadsLocals, ReadingLocals, number_passes}
use Rattle.c_grammar.specs.declared.signs.Sign.TheVariants as signs
use Rattle.c_grammar.specs.Machine as tasks
use Rattle.grammar_reader.proofs.Runs.{run_sign, run_passes, run_too_deep, run_none, shorter_sign, passes_shorter, refuses_but, right_bracket_only}
use Rattle.grammar_reader.proofs.ExprRules.{pass_run, pass_end}

sized_step : (todo : Task) (left rest : List Task) → Sized todo left → step (todo ∷ rest) signs.LeftBracket ≡ Some ((tasks.Token signs.Number ∷ tasks.Token signs.RightBracket ∷ left) ++ rest)
sized_step todo left rest e = ap (λ m. after_move m rest (step rest signs.LeftBracket)) e

pub number_only : (x : Sign) → x ≢ signs.Number → tasks.token_move signs.Number x ≡ tasks.Refuse
number_only signs.Number other = absurd (other refl)
number_only _ other = refl

number_taken : (end : ℕ) (todo : List Task) (b c : List Token) (words : ℕ) → PassesNumber b words c → open_tasks todo ≤ 64 → run end (tasks.Token signs.Number ∷ todo) b ≡ run end todo c
number_taken end todo b c words p low = run_passes end (tasks.Token signs.Number ∷ todo) (number_passes b p) (λ e. cc) refl low

size_opened : (end depth inside : ℕ) (todo : Task) (left : List Task) (a b : List Token) → Sized todo left → (inside ≡ 1 + depth) × Passes signs.LeftBracket a b → inside ≤ 64 → (rest : List Task) → open_tasks (left ++ rest) ≡ depth
    → run end (todo ∷ rest) a ≡ run end (tasks.Token signs.Number ∷ tasks.Token signs.RightBracket ∷ (left ++ rest)) b
size_opened end depth inside todo left a b z opening low rest o = run_passes end (todo ∷ rest) opening.1 (λ e. cc) (sized_step todo left rest z) (let i = opening.0 in omega arith)

pub size_wrong : (end depth : ℕ) (todo : Task) (left : List Task) (a : List Token) (error : ParseError) → Sized todo left → next_sign a ≡ signs.LeftBracket → IsNotOpened end depth signs.LeftBracket a error → (rest : List Task) → open_tasks (left ++ rest) ≡ depth → run end (todo ∷ rest) a ≡ Some error
size_wrong end depth todo left a error z e (inl h) rest o = absurd (h.1 e)
size_wrong end depth todo left a error z e (inr h) rest o = let deep = h.2 in run_too_deep end (todo ∷ rest) signs.LeftBracket a e (λ e. cc) (sized_step todo left rest z) (omega arith) ∙ ap Some (sym h.0)

pub size_no_number : (end depth inside : ℕ) (todo : Task) (left : List Task) (a b : List Token) (error : ParseError) → Sized todo left → (inside ≡ 1 + depth) × Passes signs.LeftBracket a b → inside ≤ 64 → error ≡ Unexpected (next_place end b) → next_sign b ≢ signs.Number
    → (rest : List Task) → open_tasks (left ++ rest) ≡ depth → run end (todo ∷ rest) a ≡ Some error
size_no_number end depth inside todo left a b error z opening low place wrong rest o =
    size_opened end depth inside todo left a b z opening low rest o
    ∙ (run_none end (tasks.Token signs.Number ∷ tasks.Token signs.RightBracket ∷ (left ++ rest)) b (refuses_but (tasks.Token signs.Number) _ signs.Number (next_sign b) number_only wrong) refl ∙ ap Some (sym place))

pub size_open_end : (end depth inside : ℕ) (todo : Task) (left : List Task) (a b c : List Token) (words : ℕ) (error : ParseError) → Sized todo left → (inside ≡ 1 + depth) × Passes signs.LeftBracket a b → inside ≤ 64 → PassesNumber b words c → error ≡ Unexpected (next_place end c)
    → next_sign c ≢ signs.RightBracket → (rest : List Task) → open_tasks (left ++ rest) ≡ depth → run end (todo ∷ rest) a ≡ Some error
size_open_end end depth inside todo left a b c words error z opening low n place wrong rest o =
    size_opened end depth inside todo left a b z opening low rest o
    ∙ (number_taken end (tasks.Token signs.RightBracket ∷ (left ++ rest)) b c words n (let i = opening.0 in omega arith)
    ∙ (run_none end (tasks.Token signs.RightBracket ∷ (left ++ rest)) c (refuses_but (tasks.Token signs.RightBracket) _ signs.RightBracket (next_sign c) right_bracket_only wrong) refl ∙ ap Some (sym place)))

pub size_run : (end depth inside : ℕ) (todo : Task) (left : List Task) (a b c d : List Token) (words : ℕ) → Sized todo left → (inside ≡ 1 + depth) × Passes signs.LeftBracket a b → inside ≤ 64 → PassesNumber b words c → Passes signs.RightBracket c d
    → (rest : List Task) → open_tasks (left ++ rest) ≡ depth → run end (todo ∷ rest) a ≡ run end (left ++ rest) d
size_run end depth inside todo left a b c d words z opening low n close rest o =
    size_opened end depth inside todo left a b z opening low rest o
    ∙ (number_taken end (tasks.Token signs.RightBracket ∷ (left ++ rest)) b c words n (let i = opening.0 in omega arith)
    ∙ run_passes end (tasks.Token signs.RightBracket ∷ (left ++ rest)) close (λ e. cc) refl (let i = opening.0 in omega arith))

-- what `size` answers
pub size_not_opened : (end depth : ℕ) (a : List Token) (error : ParseError) → IsNotOpened end depth signs.LeftBracket a error → RefusedSize end depth a error
size_not_opened end depth a error (inl h) = inl (h.1, h.0)
size_not_opened end depth a error (inr h) = inr (λ todo left rest z o. size_wrong end depth todo left a error z h.1 (inr h) rest o)

pub size_no_number_refused : (end depth inside : ℕ) (a b : List Token) (error : ParseError) → (inside ≡ 1 + depth) × Passes signs.LeftBracket a b → inside ≤ 64 → error ≡ Unexpected (next_place end b) → next_sign b ≢ signs.Number → RefusedSize end depth a error
size_no_number_refused end depth inside a b error opening low place wrong = inr (λ todo left rest z o. size_no_number end depth inside todo left a b error z opening low place wrong rest o)

pub size_open_end_refused : (end depth inside : ℕ) (a b c : List Token) (words : ℕ) (error : ParseError) → (inside ≡ 1 + depth) × Passes signs.LeftBracket a b → inside ≤ 64 → PassesNumber b words c → error ≡ Unexpected (next_place end c) → next_sign c ≢ signs.RightBracket
    → RefusedSize end depth a error
size_open_end_refused end depth inside a b c words error opening low n place wrong = inr (λ todo left rest z o. size_open_end end depth inside todo left a b c words error z opening low n place wrong rest o)

pub size_read : (end depth inside : ℕ) (a b c d : List Token) (words : ℕ) → (inside ≡ 1 + depth) × Passes signs.LeftBracket a b → inside ≤ 64 → PassesNumber b words c → Passes signs.RightBracket c d → ReadsSize end depth a words d
size_read end depth inside a b c d words opening low n close =
    record {
      tree = record { b = b; c = c; opened = opening.1; number = n; closed = close };
      shorter = (let l1 = passes_shorter opening.1 (λ e. cc) in let l2 = passes_shorter (number_passes b n) (λ e. cc) in let l3 = passes_shorter close (λ e. cc) in omega arith);
      leads = λ todo left rest z o. size_run end depth inside todo left a b c d words z opening low n close rest o;
    }

-- the declaration of one name
local_name_only : (x : Sign) → x ≢ signs.Name → tasks.local_name_move x ≡ tasks.Refuse
local_name_only signs.Name other = absurd (other refl)
local_name_only _ other = refl

pub local_no_name : (end depth : ℕ) (a : List Token) (error : ParseError) → (error ≡ Memory) ⊎ ((error ≡ Unexpected (next_place end a)) × (next_sign a ≢ signs.Name)) → Refused end depth (tasks.LocalName ∷ []) a error
local_no_name end depth a error (inl e) other rest o = absurd (other e)
local_no_name end depth a error (inr h) other rest o = run_none end (tasks.LocalName ∷ rest) a (refuses_but tasks.LocalName rest signs.Name (next_sign a) local_name_only h.1) refl ∙ ap Some (sym h.0)

local_named : {source : List ℕ} {n : NameTree} (end depth : ℕ) (a b : List Token) → depth ≤ 64 → PassesName source a n b → (rest : List Task) → open_tasks rest ≡ depth → run end (tasks.LocalName ∷ rest) a ≡ run end (tasks.AfterLocalName ∷ rest) b
local_named end depth a b low p rest o = run_passes end (tasks.LocalName ∷ rest) p.passes (λ e. cc) refl (omega arith)

pub local_size_refused : (source : List ℕ) (end depth : ℕ) (a b : List Token) (n : NameTree) (error : ParseError) → depth ≤ 64 → PassesName source a n b → next_sign b ≡ signs.LeftBracket → RefusedSize end depth b error → Refused end depth (tasks.LocalName ∷ []) a error
local_size_refused source end depth a b n error low p e (inl h) other rest o = absurd (h.0 e)
local_size_refused source end depth a b n error low p e (inr h) other rest o = local_named end depth a b low p rest o ∙ h tasks.AfterLocalName (tasks.MoreLocals ∷ []) rest refl (omega arith)

pub local_array : (source : List ℕ) (end depth : ℕ) (a b c : List Token) (n : NameTree) (words : ℕ) → depth ≤ 64 → PassesName source a n b → ReadsSize end depth b words c → ReadsLocal source end depth a (RawDeclareArray n words) c
local_array source end depth a b c n words low p h =
    record {
      tree = IsLocal.array p h.tree;
      shorter = (let l1 = passes_shorter p.passes (λ e. cc) in let l2 = h.shorter in omega arith);
      leads = λ rest o. local_named end depth a b low p rest o ∙ h.leads tasks.AfterLocalName (tasks.MoreLocals ∷ []) rest refl (omega arith);
      small = omega arith;
    }

local_assign : {source : List ℕ} {n : NameTree} (end depth : ℕ) (a b c : List Token) → depth ≤ 64 → PassesName source a n b → Passes signs.Assign b c → (rest : List Task) → open_tasks rest ≡ depth → run end (tasks.LocalName ∷ rest) a ≡ run end (tasks.Expr ∷ tasks.MoreLocals ∷ rest) c
local_assign end depth a b c low p q rest o = local_named end depth a b low p rest o ∙ run_passes end (tasks.AfterLocalName ∷ rest) q (λ e. cc) refl (omega arith)

pub local_value_refused : (source : List ℕ) (end depth : ℕ) (a b c : List Token) (n : NameTree) (error : ParseError) → depth ≤ 64 → PassesName source a n b → next_sign b ≡ signs.Assign → c ≡ rest_of b → Refused end depth (tasks.Expr ∷ []) c error → Refused end depth (tasks.LocalName ∷ []) a error
local_value_refused source end depth a b c n error low p e behind r other rest o = local_assign end depth a b c low p (record { is_next = e; behind = behind }) rest o ∙ r other (tasks.MoreLocals ∷ rest) (omega arith)

pub local_with : (source : List ℕ) (end depth : ℕ) (a b c d : List Token) (n : NameTree) (v : RawExprTree) → depth ≤ 64 → PassesName source a n b → next_sign b ≡ signs.Assign → c ≡ rest_of b → ReadsExpr source end depth c v d → ReadsLocal source end depth a (RawDeclareWith n v) d
local_with source end depth a b c d n v low p e behind h =
    let q : Passes signs.Assign b c = record { is_next = e; behind = behind } in
    record {
      tree = IsLocal.with_value p q h.tree;
      shorter = (let l1 = passes_shorter p.passes (λ e. cc) in let l2 = passes_shorter q (λ e. cc) in let l3 = h.shorter in omega arith);
      leads = λ rest o. local_assign end depth a b c low p q rest o ∙ h.leads (tasks.MoreLocals ∷ rest) (omega arith);
      small = (let m = h.small in omega arith);
    }

-- behind the name neither a size nor a value
after_local_same : (s : Sign) → s ≢ signs.LeftBracket → s ≢ signs.Assign → tasks.after_local_name_move s ≡ tasks.more_locals_move s
after_local_same signs.LeftBracket a b = absurd (a refl)
after_local_same signs.Assign a b = absurd (b refl)
after_local_same _ a b = refl

after_local_run : (end : ℕ) (rest : List Task) (b : List Token) → next_sign b ≢ signs.LeftBracket → next_sign b ≢ signs.Assign → run end (tasks.AfterLocalName ∷ rest) b ≡ run end (tasks.MoreLocals ∷ rest) b
after_local_run end rest [] n1 n2 = pass_end end (tasks.AfterLocalName ∷ rest) (tasks.MoreLocals ∷ rest) refl
after_local_run end rest (t ∷ tokens) n1 n2 = pass_run end (tasks.AfterLocalName ∷ rest) (tasks.MoreLocals ∷ rest) t tokens (ap (λ m. after_move m rest (step rest (sign_at t))) (after_local_same (sign_at t) n1 n2))

pub local_scalar : (source : List ℕ) (end depth : ℕ) (a b : List Token) (n : NameTree) → depth ≤ 64 → PassesName source a n b → next_sign b ≢ signs.LeftBracket → next_sign b ≢ signs.Assign → ReadsLocal source end depth a (RawDeclareScalar n) b
local_scalar source end depth a b n low p n1 n2 =
    record {
      tree = IsLocal.scalar p;
      shorter = passes_shorter p.passes (λ e. cc);
      leads = λ rest o. local_named end depth a b low p rest o ∙ after_local_run end rest b n1 n2;
      small = omega arith;
    }

-- declarations one after another
pub locals_first_refused : (end depth : ℕ) (a b : List Token) (error : ParseError) → b ≡ rest_of a → Refused end depth (tasks.LocalName ∷ []) b error → Refused end depth (tasks.LocalName ∷ []) (rest_of a) error
locals_first_refused end depth a b error e h = let P : List Token → Type 0 = λ l. Refused end depth (tasks.LocalName ∷ []) l error in subst P e h

pub locals_first : (source : List ℕ) (end depth : ℕ) (a b c : List Token) (s : RawSimpleTree) → next_sign a ≡ signs.Int → b ≡ rest_of a → ReadsLocal source end depth b s c → ReadingLocals source end depth a (s ∷ []) c
locals_first source end depth a b c s e behind h =
    record {
      tree = λ others after t. AreLocals.locals (record { is_next = e; behind = behind }) h.tree t;
      shorter = (let l1 = shorter_sign signs.Int a e (λ e. cc) in let l2 = ap length behind in let l3 = h.shorter in omega arith);
      leads = (let P : List Token → Type 0 = λ l. Leads end depth (tasks.LocalName ∷ []) l (tasks.MoreLocals ∷ []) c in subst P behind h.leads);
      small = (let m = h.small in omega arith);
    }

simples_small : (ss : List RawSimpleTree) (s : RawSimpleTree) (bound : ℕ) → raw_simples_temporaries ss ≤ bound → raw_simple_temporaries s ≤ bound → raw_simples_temporaries (ss ++ (s ∷ [])) ≤ bound
simples_small [] s bound h k = omega arith
simples_small (x ∷ ss) s bound h k = let i = simples_small ss s bound (omega arith) k in omega arith

more_run : (end depth : ℕ) (now b : List Token) → depth ≤ 64 → next_sign now ≡ signs.Comma → b ≡ rest_of now → (rest : List Task) → open_tasks rest ≡ depth → run end (tasks.MoreLocals ∷ rest) now ≡ run end (tasks.LocalName ∷ rest) b
more_run end depth now b low comma behind rest o = run_sign end (tasks.MoreLocals ∷ rest) signs.Comma now comma (λ e. cc) refl (omega arith) ∙ ap (λ l. run end (tasks.LocalName ∷ rest) l) (sym behind)

pub locals_more : (source : List ℕ) (end depth : ℕ) (a now b c : List Token) (ss : List RawSimpleTree) (s : RawSimpleTree) → depth ≤ 64 → ReadingLocals source end depth a ss now → next_sign now ≡ signs.Comma → b ≡ rest_of now → ReadsLocal source end depth b s c
    → ReadingLocals source end depth a (ss ++ (s ∷ [])) c
locals_more source end depth a now b c ss s low h comma behind k =
    record {
      tree = λ others after t.
          let P : List RawSimpleTree → Type 0 = λ l. AreLocals source a l after in
          subst P (sym (append_assoc ss (s ∷ []) others)) (h.tree (s ∷ others) after (AreMoreLocals.another_local (record { is_next = comma; behind = behind }) k.tree t));
      shorter = (let l1 = shorter_sign signs.Comma now comma (λ e. cc) in let l2 = ap length behind in let l3 = k.shorter in let l4 = h.shorter in omega arith);
      leads = λ rest o. h.leads rest o ∙ (more_run end depth now b low comma behind rest o ∙ k.leads rest o);
      small = (let m1 = h.small in let m2 = k.small in let j = simples_small ss s (1040 - 16 * depth) (omega arith) (omega arith) in omega arith);
    }

pub locals_more_refused : (source : List ℕ) (end depth : ℕ) (a now b : List Token) (ss : List RawSimpleTree) (error : ParseError) → depth ≤ 64 → ReadingLocals source end depth a ss now → next_sign now ≡ signs.Comma → b ≡ rest_of now → Refused end depth (tasks.LocalName ∷ []) b error
    → Refused end depth (tasks.LocalName ∷ []) (rest_of a) error
locals_more_refused source end depth a now b ss error low h comma behind r other rest o = h.leads rest o ∙ (more_run end depth now b low comma behind rest o ∙ r other rest o)

more_locals_refuses : (s : Sign) → s ≢ signs.Comma → s ≢ signs.Semicolon → tasks.more_locals_move s ≡ tasks.Refuse
more_locals_refuses signs.Comma a b = absurd (a refl)
more_locals_refuses signs.Semicolon a b = absurd (b refl)
more_locals_refuses _ a b = refl

pub locals_open_end : (source : List ℕ) (end depth : ℕ) (a now : List Token) (ss : List RawSimpleTree) (error : ParseError) → ReadingLocals source end depth a ss now → next_sign now ≢ signs.Comma → next_sign now ≢ signs.Semicolon → error ≡ Unexpected (next_place end now)
    → Refused end depth (tasks.LocalName ∷ []) (rest_of a) error
locals_open_end source end depth a now ss error h no_comma no_close place other rest o =
    h.leads rest o ∙ (run_none end (tasks.MoreLocals ∷ rest) now (ap (λ m. after_move m rest (step rest (next_sign now))) (more_locals_refuses (next_sign now) no_comma no_close)) refl ∙ ap Some (sym place))

pub locals_read : (source : List ℕ) (end depth : ℕ) (a now b : List Token) (ss : List RawSimpleTree) → depth ≤ 64 → ReadingLocals source end depth a ss now → Passes signs.Semicolon now b → ReadsLocals source end depth a ss b
locals_read source end depth a now b ss low h close =
    record {
      tree = (let P : List RawSimpleTree → Type 0 = λ l. AreLocals source a l b in subst P (append-nil ss) (h.tree [] b (AreMoreLocals.last_local close)));
      shorter = (let l1 = h.shorter in let l2 = passes_shorter close (λ e. cc) in omega arith);
      leads = λ rest o. h.leads rest o ∙ run_passes end (tasks.MoreLocals ∷ rest) close (λ e. cc) refl (omega arith);
      small = h.small;
    }
