-- What the functions of items come to, exit by exit.
use Rattle.grammar_reader.proofs.Common.{ℕ, ◌≡◌, ◌≢◌, ◌⊎◌, inl, inr, refl, sym, ap, subst, ◌∙◌, true, false, List, [], ◌∷◌, ◌++◌, append_assoc, append-nil, Some, arith, Token, TokenKind, Keyword, Mark, NameTree, RawItemTree, ParseError, Unexpected, Memory, Sign, sign_of_token, sign_of_keyword, sign_of_mark, step, after_move, sign_at, next_sign, next_place, rest_of, Passes, PassesName, IsResult, AreItems, Refused, RefusedListed, ReadsFunction, ReadsTable, ReadsGlobals, ReadsAfterInt, ReadsAfterVoid, ReadsItem, RefusedItems, ReadingItems, ReadsItems, run_end, run_refused}
use Rattle.c_lex.specs.declared.tokens.TokenKind.TheVariants as kinds
use Rattle.c_lex.specs.declared.keywords.Keyword.TheVariants as keywords
use Rattle.c_lex.specs.declared.marks.Mark.TheVariants as marks
use Rattle.c_grammar.specs.declared.signs.Sign.TheVariants as signs
use Rattle.c_grammar.specs.Machine as tasks
use Rattle.grammar_reader.proofs.Runs.{passes_shorter}
use Rattle.grammar_reader.proofs.GlobalRules.{within_append}
use Rattle.grammar_reader.proofs.Paths.{Path, here, path_leads, path_stuck, path_refused, takes_alone, refuses}

-- behind `int`
pub after_int_table : (source : List ℕ) (end : ℕ) (a b : List Token) (old new : List RawItemTree) (item : RawItemTree) → ReadsTable source end a item b → new ≡ old ++ (item ∷ []) → ReadsAfterInt source end a old new b
after_int_table source end a b old new item h pushed = record { is = item ∷ []; pushed = pushed; tree = h.tree; shorter = h.shorter; leads = h.leads; small = h.small }

int_refuses : (s : Sign) → s ≢ signs.LeftParenthesis → s ≢ signs.Name → tasks.after_int_move s ≡ tasks.Refuse
int_refuses signs.LeftParenthesis a b = absurd (a refl)
int_refuses signs.Name a b = absurd (b refl)
int_refuses _ a b = refl

pub after_int_no_name : (end : ℕ) (a : List Token) (error : ParseError) → next_sign a ≢ signs.LeftParenthesis → (error ≡ Memory) ⊎ ((error ≡ Unexpected (next_place end a)) × (next_sign a ≢ signs.Name)) → Refused end 0 (tasks.AfterInt ∷ []) a error
after_int_no_name end a error no_table (inl m) other rest o = absurd (other m)
after_int_no_name end a error no_table (inr w) other rest o = path_stuck (here end 0 (tasks.AfterInt ∷ []) a) (refuses [] (int_refuses (next_sign a) no_table w.1) (λ rest. refl) w.0) other rest o

int_name : (source : List ℕ) (end : ℕ) (n : NameTree) (a b : List Token) → PassesName source a n b → Path end 0 (tasks.AfterInt ∷ []) a (tasks.AfterIntName ∷ []) b
int_name source end n a b p = takes_alone (tasks.AfterIntName ∷ []) p.passes (λ e. cc) refl (omega arith)

pub after_int_function : (source : List ℕ) (end : ℕ) (n : NameTree) (a b c : List Token) (old new : List RawItemTree) (item : RawItemTree) → PassesName source a n b → ReadsFunction source end true n b item c → new ≡ old ++ (item ∷ []) → ReadsAfterInt source end a old new c
after_int_function source end n a b c old new item p h pushed =
    let r = path_leads (int_name source end n a b p) refl (h.leads tasks.AfterIntName refl) in
    record {
      is = item ∷ [];
      pushed = pushed;
      tree = λ x int. h.tree x a (IsResult.int_result int) p;
      shorter = (let l1 = passes_shorter p.passes (λ e. cc) in let l2 = h.shorter in omega arith);
      leads = r.goes;
      small = h.small;
    }

pub after_int_function_refused : (source : List ℕ) (end : ℕ) (n : NameTree) (a b : List Token) (error : ParseError) → PassesName source a n b → RefusedListed end b error → Refused end 0 (tasks.AfterInt ∷ []) a error
after_int_function_refused source end n a b error p r = path_refused (int_name source end n a b p) refl (r tasks.AfterIntName refl)

pub after_int_globals : (source : List ℕ) (end : ℕ) (n : NameTree) (a b c : List Token) (old new : List RawItemTree) → PassesName source a n b → ReadsGlobals source end n b old new c → ReadsAfterInt source end a old new c
after_int_globals source end n a b c old new p h =
    let r = path_leads (int_name source end n a b p) refl h.leads in
    record {
      is = h.is;
      pushed = h.pushed;
      tree = λ x int. h.tree x a int p;
      shorter = (let l1 = passes_shorter p.passes (λ e. cc) in let l2 = h.shorter in omega arith);
      leads = r.goes;
      small = h.small;
    }

pub after_int_globals_refused : (source : List ℕ) (end : ℕ) (n : NameTree) (a b : List Token) (error : ParseError) → PassesName source a n b → Refused end 0 (tasks.AfterIntName ∷ []) b error → Refused end 0 (tasks.AfterInt ∷ []) a error
after_int_globals_refused source end n a b error p r = path_refused (int_name source end n a b p) refl r

-- behind `void`
void_only : (x : Sign) → x ≢ signs.Name → tasks.after_void_move x ≡ tasks.Refuse
void_only signs.Name other = absurd (other refl)
void_only _ other = refl

parameters_only : (x : Sign) → x ≢ signs.LeftParenthesis → tasks.parameters_move x ≡ tasks.Refuse
parameters_only signs.LeftParenthesis other = absurd (other refl)
parameters_only _ other = refl

pub after_void_no_name : (end : ℕ) (a : List Token) (error : ParseError) → (error ≡ Memory) ⊎ ((error ≡ Unexpected (next_place end a)) × (next_sign a ≢ signs.Name)) → Refused end 0 (tasks.AfterVoid ∷ []) a error
after_void_no_name end a error (inl m) other rest o = absurd (other m)
after_void_no_name end a error (inr w) other rest o = path_stuck (here end 0 (tasks.AfterVoid ∷ []) a) (refuses [] (void_only (next_sign a) w.1) (λ rest. refl) w.0) other rest o

void_name : (source : List ℕ) (end : ℕ) (n : NameTree) (a b : List Token) → PassesName source a n b → Path end 0 (tasks.AfterVoid ∷ []) a (tasks.Parameters ∷ []) b
void_name source end n a b p = takes_alone (tasks.Parameters ∷ []) p.passes (λ e. cc) refl (omega arith)

pub after_void_no_parameters : (source : List ℕ) (end : ℕ) (n : NameTree) (a b : List Token) (error : ParseError) → PassesName source a n b → next_sign b ≢ signs.LeftParenthesis → error ≡ Unexpected (next_place end b) → Refused end 0 (tasks.AfterVoid ∷ []) a error
after_void_no_parameters source end n a b error p wrong place = path_stuck (void_name source end n a b p) (refuses [] (parameters_only (next_sign b) wrong) (λ rest. refl) place)

pub after_void_function : (source : List ℕ) (end : ℕ) (n : NameTree) (a b c : List Token) (item : RawItemTree) → PassesName source a n b → ReadsFunction source end false n b item c → ReadsAfterVoid source end a item c
after_void_function source end n a b c item p h =
    let r = path_leads (void_name source end n a b p) refl (h.leads tasks.Parameters refl) in
    record {
      tree = λ x void. h.tree x a (IsResult.void_result void) p;
      shorter = (let l1 = passes_shorter p.passes (λ e. cc) in let l2 = h.shorter in omega arith);
      leads = r.goes;
      small = h.small;
    }

pub after_void_function_refused : (source : List ℕ) (end : ℕ) (n : NameTree) (a b : List Token) (error : ParseError) → PassesName source a n b → RefusedListed end b error → Refused end 0 (tasks.AfterVoid ∷ []) a error
after_void_function_refused source end n a b error p r = path_refused (void_name source end n a b p) refl (r tasks.Parameters refl)

-- one item
int_path : (end : ℕ) (a b : List Token) → Passes signs.Int a b → Path end 0 (tasks.Items ∷ []) a (tasks.AfterInt ∷ tasks.Items ∷ []) b
int_path end a b int = takes_alone (tasks.AfterInt ∷ tasks.Items ∷ []) int (λ e. cc) refl (omega arith)

void_path : (end : ℕ) (a b : List Token) → Passes signs.Void a b → Path end 0 (tasks.Items ∷ []) a (tasks.AfterVoid ∷ tasks.Items ∷ []) b
void_path end a b void = takes_alone (tasks.AfterVoid ∷ tasks.Items ∷ []) void (λ e. cc) refl (omega arith)

pub item_int : (source : List ℕ) (end : ℕ) (a b c : List Token) (old new : List RawItemTree) → next_sign a ≡ signs.Int → b ≡ rest_of a → ReadsAfterInt source end b old new c → ReadsItem source end a old new c
item_int source end a b c old new e behind h =
    let int : Passes signs.Int a b = record { is_next = e; behind = behind } in
    let r = path_leads (int_path end a b int) refl h.leads in
    record {
      is = h.is;
      pushed = h.pushed;
      tree = h.tree a int;
      shorter = (let l1 = passes_shorter int (λ e. cc) in let l2 = h.shorter in omega arith);
      leads = r.goes [] refl;
      small = h.small;
    }

pub item_int_refused : (end : ℕ) (a b : List Token) (error : ParseError) → next_sign a ≡ signs.Int → b ≡ rest_of a → Refused end 0 (tasks.AfterInt ∷ []) b error → RefusedItems end a error
item_int_refused end a b error e behind r other = path_refused (int_path end a b (record { is_next = e; behind = behind })) refl r other [] refl

pub item_void : (source : List ℕ) (end : ℕ) (a b c : List Token) (old new : List RawItemTree) (item : RawItemTree) → next_sign a ≡ signs.Void → b ≡ rest_of a → ReadsAfterVoid source end b item c → new ≡ old ++ (item ∷ []) → ReadsItem source end a old new c
item_void source end a b c old new item e behind h pushed =
    let void : Passes signs.Void a b = record { is_next = e; behind = behind } in
    let r = path_leads (void_path end a b void) refl h.leads in
    record {
      is = item ∷ [];
      pushed = pushed;
      tree = h.tree a void;
      shorter = (let l1 = passes_shorter void (λ e. cc) in let l2 = h.shorter in omega arith);
      leads = r.goes [] refl;
      small = h.small;
    }

pub item_void_refused : (end : ℕ) (a b : List Token) (error : ParseError) → next_sign a ≡ signs.Void → b ≡ rest_of a → Refused end 0 (tasks.AfterVoid ∷ []) b error → RefusedItems end a error
item_void_refused end a b error e behind r other = path_refused (void_path end a b (record { is_next = e; behind = behind })) refl r other [] refl

items_refuse : (s : Sign) → s ≢ signs.Int → s ≢ signs.Void → tasks.items_move s ≡ tasks.Refuse
items_refuse signs.Int a b = absurd (a refl)
items_refuse signs.Void a b = absurd (b refl)
items_refuse _ a b = refl

pub item_other : (end : ℕ) (a : List Token) (error : ParseError) → next_sign a ≢ signs.Finish → next_sign a ≢ signs.Int → next_sign a ≢ signs.Void → error ≡ Unexpected (next_place end a) → RefusedItems end a error
item_other end [] error some n1 n2 place other = absurd (some refl)
item_other end (t ∷ tokens) error some n1 n2 place other = run_refused end (tasks.Items ∷ []) t tokens (ap (λ m. after_move m [] (step [] (sign_at t))) (items_refuse (sign_at t) n1 n2)) ∙ ap Some (sym place)

-- all items
pub items_start : (source : List ℕ) (end : ℕ) (a : List Token) → ReadingItems source end a [] a
items_start source end a = record { tree = λ others t. t; leads = refl; small = tt }

pub items_more : (source : List ℕ) (end : ℕ) (a now b : List Token) (old new : List RawItemTree) → ReadingItems source end a old now → ReadsItem source end now old new b → ReadingItems source end a new b
items_more source end a now b old new h k =
    let P : List RawItemTree → Type 0 = λ l. ReadingItems source end a l b in
    subst P (sym k.pushed)
    (record {
      tree = λ others t. let Q : List RawItemTree → Type 0 = λ l. AreItems true source a l in subst Q (sym (append_assoc old k.is others)) (h.tree (k.is ++ others) (AreItems.another_item k.tree t));
      leads = h.leads ∙ k.leads;
      small = within_append old k.is h.small k.small;
    })

pub items_refused : (source : List ℕ) (end : ℕ) (a now : List Token) (is : List RawItemTree) (error : ParseError) → ReadingItems source end a is now → RefusedItems end now error → RefusedItems end a error
items_refused source end a now is error h r other = h.leads ∙ r other

keyword_some : (keyword : Keyword) → sign_of_keyword keyword ≢ signs.Finish
keyword_some keywords.Int e = cc
keyword_some _ e = cc

mark_some : (mark : Mark) → sign_of_mark mark ≢ signs.Finish
mark_some marks.Comma e = cc
mark_some _ e = cc

some_sign : (kind : TokenKind) → sign_of_token kind ≢ signs.Finish
some_sign (kinds.Mark mark) e = mark_some mark e
some_sign (kinds.Keyword keyword) e = keyword_some keyword e
some_sign _ e = cc

pub items_done : (source : List ℕ) (end : ℕ) (a now : List Token) (is : List RawItemTree) → ReadingItems source end a is now → next_sign now ≡ signs.Finish → ReadsItems source end a is
items_done source end a [] is h e =
    record {
      tree = (let P : List RawItemTree → Type 0 = λ l. AreItems true source a l in subst P (append-nil is) (h.tree [] AreItems.no_more_items));
      runs = h.leads ∙ run_end end (tasks.Items ∷ []) refl;
      small = h.small;
    }
items_done source end a (t ∷ tokens) is h e = absurd (some_sign t.kind e)
