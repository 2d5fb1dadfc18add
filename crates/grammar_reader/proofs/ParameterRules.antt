-- What the functions of parameters come to, exit by exit.
use Rattle.grammar_reader.proofs.Common.{ℕ, ◌≡◌, ◌≢◌, ◌⊎◌, inl, inr, refl, sym, ap, subst, ◌∙◌, Bool, true, false, List, [], ◌∷◌, ◌++◌, append_assoc, append-nil, Option, Some, None, arith, Token, NameTree, ParseError, Unexpected, Memory, Sign, Task, step, after_move, open_tasks, finishes, next_sign, next_place, rest_of, Passes, PassesName, IsNameOption, AreMoreParameters, AreMoreNamed, AreParameters, AreNamed, Leads, Refused, all_have_names, names_in, named_with, name_task, more_task, after_task, Listed, RefusedListed, ReadsParameter, RefusedParameter, ReadingParameters, ReadsParameterList, ReadsParameters}
use Rattle.c_grammar.specs.declared.signs.Sign.TheVariants as signs
use Rattle.c_grammar.specs.Machine as tasks
use Rattle.grammar_reader.proofs.Runs.{passes_shorter}
use Rattle.grammar_reader.proofs.Paths.{Path, here, path_leads_to, path_stuck, path_path, path_refused, takes, takes_alone, refuses, does_same}

-- the tasks of parameters, with all names so far or without
name_moves : (named : Bool) → tasks.move (name_task named) signs.Name ≡ tasks.Take (more_task named ∷ [])
name_moves true = refl
name_moves false = refl

comma_moves : (named : Bool) → tasks.move (more_task named) signs.Comma ≡ tasks.Take (tasks.Token signs.Int ∷ name_task named ∷ [])
comma_moves true = refl
comma_moves false = refl

close_moves : (named : Bool) → tasks.move (more_task named) signs.RightParenthesis ≡ tasks.Take (after_task named ∷ [])
close_moves true = refl
close_moves false = refl

name_open : (named : Bool) → open_tasks (name_task named ∷ []) ≡ 1
name_open true = refl
name_open false = refl

more_open : (named : Bool) → open_tasks (more_task named ∷ []) ≡ 1
more_open true = refl
more_open false = refl

after_open : (named : Bool) → open_tasks (after_task named ∷ []) ≡ 0
after_open true = refl
after_open false = refl

name_passes : (named : Bool) (s : Sign) → s ≢ signs.Name → tasks.move (name_task named) s ≡ tasks.move tasks.MorePrototype s
name_passes true signs.Name other = absurd (other refl)
name_passes true signs.Comma other = refl
name_passes true signs.RightParenthesis other = refl
name_passes true _ other = refl
name_passes false signs.Name other = absurd (other refl)
name_passes false signs.Comma other = refl
name_passes false signs.RightParenthesis other = refl
name_passes false _ other = refl

name_unfinished : (named : Bool) (rest : List Task) → finishes (name_task named ∷ rest) ≡ false
name_unfinished true rest = refl
name_unfinished false rest = refl

more_unfinished : (named : Bool) (rest : List Task) → finishes (more_task named ∷ rest) ≡ false
more_unfinished true rest = refl
more_unfinished false rest = refl

more_refuses : (named : Bool) (s : Sign) → s ≢ signs.Comma → s ≢ signs.RightParenthesis → tasks.move (more_task named) s ≡ tasks.Refuse
more_refuses true signs.Comma a b = absurd (a refl)
more_refuses true signs.RightParenthesis a b = absurd (b refl)
more_refuses true _ a b = refl
more_refuses false signs.Comma a b = absurd (a refl)
more_refuses false signs.RightParenthesis a b = absurd (b refl)
more_refuses false _ a b = refl

pub int_only : (x : Sign) → x ≢ signs.Int → tasks.token_move signs.Int x ≡ tasks.Refuse
int_only signs.Int other = absurd (other refl)
int_only _ other = refl

-- one parameter
pub parameter_named : (source : List ℕ) (end : ℕ) (a b c : List Token) (n : NameTree) → Passes signs.Int a b → PassesName source b n c → ReadsParameter source end a (Some n) c
parameter_named source end a b c n int p =
    record {
      between = b;
      int = int;
      name = IsNameOption.a_name p;
      shorter = (let l1 = passes_shorter int (λ e. cc) in let l2 = passes_shorter p.passes (λ e. cc) in omega arith);
      leads = λ named.
          let o = more_open named in
          let q : Path end 0 (name_task named ∷ []) b (more_task named ∷ []) c = takes_alone (more_task named ∷ []) p.passes (λ e. cc) (name_moves named) (omega arith) in
          q.goes;
    }

pub parameter_alone : (source : List ℕ) (end : ℕ) (a b : List Token) → Passes signs.Int a b → next_sign b ≢ signs.Name → ReadsParameter source end a None b
parameter_alone source end a b int other =
    record {
      between = b;
      int = int;
      name = IsNameOption.no_name;
      shorter = passes_shorter int (λ e. cc);
      leads = λ named.
          let q : Path end 0 (name_task named ∷ []) b (tasks.MorePrototype ∷ []) b =
          does_same [] (tasks.MorePrototype ∷ []) (λ rest. ap (λ m. after_move m rest (step rest (next_sign b))) (name_passes named (next_sign b) other)) (λ rest. name_unfinished named rest)
          in
          q.goes;
    }

pub parameter_refused : (end : ℕ) (a : List Token) (error : ParseError) → error ≡ Unexpected (next_place end a) → next_sign a ≢ signs.Int → RefusedParameter end a error
parameter_refused end a error place wrong other = (place, wrong)

pub parameter_memory : (end : ℕ) (a b : List Token) (error : ParseError) → next_sign b ≡ signs.Name → (error ≡ Memory) ⊎ ((error ≡ Unexpected (next_place end b)) × (next_sign b ≢ signs.Name)) → RefusedParameter end a error
parameter_memory end a b error e (inl m) other = absurd (other m)
parameter_memory end a b error e (inr h) other = absurd (h.1 e)

-- parameters one after another
all_append : (ps : List (Option NameTree)) (p : Option NameTree) → named_with (all_have_names ps) p ≡ all_have_names (ps ++ (p ∷ []))
all_append [] None = refl
all_append [] (Some n) = refl
all_append (None ∷ ps) None = refl
all_append (None ∷ ps) (Some n) = refl
all_append (Some m ∷ ps) p = all_append ps p

pub names_append : (ps : List (Option NameTree)) (p : Option NameTree) → names_in (ps ++ (p ∷ [])) ≡ names_in ps ++ names_in (p ∷ [])
names_append [] p = refl
names_append (None ∷ ps) p = names_append ps p
names_append (Some n ∷ ps) p = ap (λ l. n ∷ l) (names_append ps p)

first_all : (ps : List (Option NameTree)) (p : Option NameTree) → all_have_names (ps ++ (p ∷ [])) ≡ true → all_have_names ps ≡ true
first_all [] p all = refl
first_all (None ∷ ps) p all = cc
first_all (Some n ∷ ps) p all = first_all ps p all

last_all : (ps : List (Option NameTree)) (p : Option NameTree) → all_have_names (ps ++ (p ∷ [])) ≡ true → all_have_names (p ∷ []) ≡ true
last_all [] p all = all
last_all (None ∷ ps) p all = cc
last_all (Some n ∷ ps) p all = last_all ps p all

first_named : {source : List ℕ} {x a b c after : List Token} {p : Option NameTree} (others : List NameTree) → IsNameOption source b p c → all_have_names (p ∷ []) ≡ true → Passes signs.LeftParenthesis x a → Passes signs.Int a b → AreMoreNamed source c others after
    → AreNamed source x (names_in (p ∷ []) ++ others) after
first_named others IsNameOption.no_name all paren int t = cc
first_named others (IsNameOption.a_name q) all paren int t = AreNamed.some_named paren int q t

more_named : {source : List ℕ} {x a b c after : List Token} {p : Option NameTree} (others : List NameTree) → IsNameOption source b p c → all_have_names (p ∷ []) ≡ true → Passes signs.Comma x a → Passes signs.Int a b → AreMoreNamed source c others after
    → AreMoreNamed source x (names_in (p ∷ []) ++ others) after
more_named others IsNameOption.no_name all comma int t = cc
more_named others (IsNameOption.a_name q) all comma int t = AreMoreNamed.another_named comma int q t

list_refuses : (s : Sign) → s ≢ signs.RightParenthesis → s ≢ signs.Void → s ≢ signs.Int → tasks.parameter_list_move s ≡ tasks.Refuse
list_refuses signs.RightParenthesis a b c = absurd (a refl)
list_refuses signs.Void a b c = absurd (b refl)
list_refuses signs.Int a b c = absurd (c refl)
list_refuses _ a b c = refl

pub list_first_refused : (end : ℕ) (a : List Token) (error : ParseError) → next_sign a ≢ signs.RightParenthesis → next_sign a ≢ signs.Void → RefusedParameter end a error → Refused end 0 (tasks.ParameterList ∷ []) a error
list_first_refused end a error n1 n2 r other = let h = r other in path_stuck (here end 0 (tasks.ParameterList ∷ []) a) (refuses [] (list_refuses (next_sign a) n1 n2 h.1) (λ rest. refl) h.0) other

pub list_first : (source : List ℕ) (end : ℕ) (a b : List Token) (p : Option NameTree) → ReadsParameter source end a p b → ReadingParameters source end a (p ∷ []) b
list_first source end a b p h =
    let q : Path end 0 (tasks.ParameterList ∷ []) a (tasks.ParameterName ∷ []) h.between = takes_alone (tasks.ParameterName ∷ []) h.int (λ e. cc) refl (omega arith) in
    let P : Bool → Type 0 = λ named. Leads end 0 (tasks.ParameterList ∷ []) a (more_task named ∷ []) b in
    let r : Path end 0 (tasks.ParameterList ∷ []) a (more_task (named_with true p) ∷ []) b = path_leads_to (more_task (named_with true p) ∷ []) q refl (h.leads true) in
    record {
      tree = λ x after others paren t. AreParameters.some_parameters paren h.int h.name t;
      named = λ x after others all paren t. first_named others h.name all paren h.int t;
      shorter = h.shorter;
      leads = subst P (all_append [] p) r.goes;
    }

comma_path : (end : ℕ) (named : Bool) (now b : List Token) → Passes signs.Comma now b → Path end 0 (more_task named ∷ []) now (tasks.Token signs.Int ∷ name_task named ∷ []) b
comma_path end named now b comma = let o = name_open named in takes_alone (tasks.Token signs.Int ∷ name_task named ∷ []) comma (λ e. cc) (comma_moves named) (omega arith)

pub list_more : (source : List ℕ) (end : ℕ) (a now b c : List Token) (ps : List (Option NameTree)) (p : Option NameTree) → ReadingParameters source end a ps now → next_sign now ≡ signs.Comma → b ≡ rest_of now → ReadsParameter source end b p c
    → ReadingParameters source end a (ps ++ (p ∷ [])) c
list_more source end a now b c ps p h e behind k =
    let named = all_have_names ps in
    let comma : Passes signs.Comma now b = record { is_next = e; behind = behind } in
    let q1 : Path end 0 (tasks.ParameterList ∷ []) a (more_task named ∷ []) now = record { goes = h.leads } in
    let o = name_open named in
    let q2 : Path end 0 (tasks.Token signs.Int ∷ name_task named ∷ []) b (name_task named ∷ []) k.between = takes (name_task named ∷ []) [] k.int (λ e. cc) refl (omega arith) in
    let q3 : Path end 0 (tasks.ParameterList ∷ []) a (more_task (named_with named p) ∷ []) c = path_leads_to (more_task (named_with named p) ∷ []) (path_path q1 (path_path (comma_path end named now b comma) q2)) refl (k.leads named) in
    let P : Bool → Type 0 = λ all. Leads end 0 (tasks.ParameterList ∷ []) a (more_task all ∷ []) c in
    record {
      tree = λ x after others paren t.
          let Q : List (Option NameTree) → Type 0 = λ l. AreParameters source x l after in
          subst Q (sym (append_assoc ps (p ∷ []) others)) (h.tree x after (p ∷ others) paren (AreMoreParameters.another_parameter comma k.int k.name t));
      named = λ x after others all paren t.
          let Q : List NameTree → Type 0 = λ l. AreNamed source x l after in
          let same = ap (λ l. l ++ others) (names_append ps p) ∙ append_assoc (names_in ps) (names_in (p ∷ [])) others in
          subst Q (sym same) (h.named x after (names_in (p ∷ []) ++ others) (first_all ps p all) paren (more_named others k.name (last_all ps p all) comma k.int t));
      shorter = (let l1 = h.shorter in let l2 = passes_shorter comma (λ e. cc) in let l3 = k.shorter in omega arith);
      leads = subst P (all_append ps p) q3.goes;
    }

pub list_more_refused : (source : List ℕ) (end : ℕ) (a now b : List Token) (ps : List (Option NameTree)) (error : ParseError) → ReadingParameters source end a ps now → next_sign now ≡ signs.Comma → b ≡ rest_of now → RefusedParameter end b error → Refused end 0 (tasks.ParameterList ∷ []) a error
list_more_refused source end a now b ps error h e behind r other =
    let named = all_have_names ps in
    let q1 : Path end 0 (tasks.ParameterList ∷ []) a (more_task named ∷ []) now = record { goes = h.leads } in
    let k = r other in
    path_stuck (path_path q1 (comma_path end named now b (record { is_next = e; behind = behind }))) (refuses (name_task named ∷ []) (int_only (next_sign b) k.1) (λ rest. refl) k.0) other

pub list_open_end : (source : List ℕ) (end : ℕ) (a now : List Token) (ps : List (Option NameTree)) (error : ParseError) → ReadingParameters source end a ps now → next_sign now ≢ signs.Comma → next_sign now ≢ signs.RightParenthesis → error ≡ Unexpected (next_place end now)
    → Refused end 0 (tasks.ParameterList ∷ []) a error
list_open_end source end a now ps error h no_comma no_close place =
    let named = all_have_names ps in
    let q1 : Path end 0 (tasks.ParameterList ∷ []) a (more_task named ∷ []) now = record { goes = h.leads } in
    path_stuck q1 (refuses [] (more_refuses named (next_sign now) no_comma no_close) (λ rest. more_unfinished named rest) place)

pub list_read : (source : List ℕ) (end : ℕ) (a now b : List Token) (ps : List (Option NameTree)) → ReadingParameters source end a ps now → Passes signs.RightParenthesis now b → ReadsParameterList source end a ps b
list_read source end a now b ps h close =
    let named = all_have_names ps in
    let q1 : Path end 0 (tasks.ParameterList ∷ []) a (more_task named ∷ []) now = record { goes = h.leads } in
    let o = after_open named in
    let q2 : Path end 0 (more_task named ∷ []) now (after_task named ∷ []) b = takes_alone (after_task named ∷ []) close (λ e. cc) (close_moves named) (omega arith) in
    let q3 = path_path q1 q2 in
    record {
      tree = λ x paren. let Q : List (Option NameTree) → Type 0 = λ l. AreParameters source x l b in subst Q (append-nil ps) (h.tree x b [] paren (AreMoreParameters.last_parameter close));
      named = λ x all paren. let Q : List NameTree → Type 0 = λ l. AreNamed source x l b in subst Q (append-nil (names_in ps)) (h.named x b [] all paren (AreMoreNamed.last_named close));
      shorter = (let l1 = h.shorter in let l2 = passes_shorter close (λ e. cc) in omega arith);
      leads = q3.goes;
    }

-- all parameters, from the parenthesis on
opens_list : (end : ℕ) (todo : Task) (a b : List Token) → Listed todo → Passes signs.LeftParenthesis a b → Path end 0 (todo ∷ []) a (tasks.ParameterList ∷ []) b
opens_list end todo a b z paren = takes_alone (tasks.ParameterList ∷ []) paren (λ e. cc) z (omega arith)

pub parameters_none : (source : List ℕ) (end : ℕ) (a b c : List Token) → next_sign a ≡ signs.LeftParenthesis → b ≡ rest_of a → next_sign b ≡ signs.RightParenthesis → c ≡ rest_of b → ReadsParameters source end a [] c
parameters_none source end a b c e behind f last =
    let paren : Passes signs.LeftParenthesis a b = record { is_next = e; behind = behind } in
    let close : Passes signs.RightParenthesis b c = record { is_next = f; behind = last } in
    record {
      tree = AreParameters.no_parameters paren close;
      named = λ all. AreNamed.no_named paren close;
      shorter = (let l1 = passes_shorter paren (λ e. cc) in let l2 = passes_shorter close (λ e. cc) in omega arith);
      leads = λ todo z.
          let q : Path end 0 (tasks.ParameterList ∷ []) b (tasks.AfterParameters ∷ []) c = takes_alone (tasks.AfterParameters ∷ []) close (λ e. cc) refl (omega arith) in
          let r = path_path (opens_list end todo a b z paren) q in
          r.goes;
    }

void_path : (end : ℕ) (todo : Task) (a b c : List Token) → Listed todo → Passes signs.LeftParenthesis a b → Passes signs.Void b c → Path end 0 (todo ∷ []) a (tasks.ParametersEnd ∷ []) c
void_path end todo a b c z paren void =
    let q : Path end 0 (tasks.ParameterList ∷ []) b (tasks.ParametersEnd ∷ []) c = takes_alone (tasks.ParametersEnd ∷ []) void (λ e. cc) refl (omega arith) in
    path_path (opens_list end todo a b z paren) q

end_only : (x : Sign) → x ≢ signs.RightParenthesis → tasks.parameters_end_move x ≡ tasks.Refuse
end_only signs.RightParenthesis other = absurd (other refl)
end_only _ other = refl

pub parameters_void_open : (end : ℕ) (a b c : List Token) (error : ParseError) → next_sign a ≡ signs.LeftParenthesis → b ≡ rest_of a → next_sign b ≡ signs.Void → c ≡ rest_of b → error ≡ Unexpected (next_place end c) → next_sign c ≢ signs.RightParenthesis → RefusedListed end a error
parameters_void_open end a b c error e behind f last place wrong todo z =
    path_stuck (void_path end todo a b c z (record { is_next = e; behind = behind }) (record { is_next = f; behind = last })) (refuses [] (end_only (next_sign c) wrong) (λ rest. refl) place)

pub parameters_void : (source : List ℕ) (end : ℕ) (a b c d : List Token) → next_sign a ≡ signs.LeftParenthesis → b ≡ rest_of a → next_sign b ≡ signs.Void → c ≡ rest_of b → Passes signs.RightParenthesis c d → ReadsParameters source end a [] d
parameters_void source end a b c d e behind f last close =
    let paren : Passes signs.LeftParenthesis a b = record { is_next = e; behind = behind } in
    let void : Passes signs.Void b c = record { is_next = f; behind = last } in
    record {
      tree = AreParameters.void_parameters paren void close;
      named = λ all. AreNamed.void_named paren void close;
      shorter = (let l1 = passes_shorter paren (λ e. cc) in let l2 = passes_shorter void (λ e. cc) in let l3 = passes_shorter close (λ e. cc) in omega arith);
      leads = λ todo z.
          let q : Path end 0 (tasks.ParametersEnd ∷ []) c (tasks.AfterParameters ∷ []) d = takes_alone (tasks.AfterParameters ∷ []) close (λ e. cc) refl (omega arith) in
          let r = path_path (void_path end todo a b c z paren void) q in
          r.goes;
    }

pub parameters_list : (source : List ℕ) (end : ℕ) (a b c : List Token) (ps : List (Option NameTree)) → next_sign a ≡ signs.LeftParenthesis → b ≡ rest_of a → ReadsParameterList source end b ps c → ReadsParameters source end a ps c
parameters_list source end a b c ps e behind h =
    let paren : Passes signs.LeftParenthesis a b = record { is_next = e; behind = behind } in
    record {
      tree = h.tree a paren;
      named = λ all. h.named a all paren;
      shorter = (let l1 = passes_shorter paren (λ e. cc) in let l2 = h.shorter in omega arith);
      leads = λ todo z. let r = path_leads_to (after_task (all_have_names ps) ∷ []) (opens_list end todo a b z paren) refl h.leads in r.goes;
    }

pub parameters_list_refused : (end : ℕ) (a b : List Token) (error : ParseError) → next_sign a ≡ signs.LeftParenthesis → b ≡ rest_of a → Refused end 0 (tasks.ParameterList ∷ []) b error → RefusedListed end a error
parameters_list_refused end a b error e behind h todo z = path_refused (opens_list end todo a b z (record { is_next = e; behind = behind })) refl h
