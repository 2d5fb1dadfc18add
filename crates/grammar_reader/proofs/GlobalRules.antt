-- What the functions of globals come to, exit by exit.
use Rattle.grammar_reader.proofs.Common.{ℕ, ◌≡◌, ◌≢◌, ◌-◌, ◌%◌, ◌^◌, ◌⊎◌, inl, inr, refl, sym, ap, subst, ◌∙◌, true, List, [], ◌∷◌, ◌++◌, append_assoc, append-nil, arith, Token, NameTree, RawItemTree, RawGlobal, RawGlobalArray, AreWithinTemporaries, ParseError, Unexpected, Memory, Sign, step, after_move, next_sign, next_place, rest_of, Passes, PassesName, PassesNumber, IsStart, IsGlobal, AreMoreGlobals, AreItem, Refused, ReadsSize, RefusedSize, ReadsStart, ReadsGlobal, ReadingGlobals, ReadsGlobals, number_passes}
use Rattle.c_grammar.specs.declared.signs.Sign.TheVariants as signs
use Rattle.c_grammar.specs.Machine as tasks
use Rattle.grammar_reader.proofs.Runs.{passes_shorter}
use Rattle.grammar_reader.proofs.LocalRules.{number_only}
use Rattle.grammar_reader.proofs.Paths.{Path, here, path_leads, path_leads_to, path_stuck, path_path, path_refused, takes_alone, refuses, does_same}

-- starting values
minus_path : (end : ℕ) (a b : List Token) → Passes signs.Minus a b → Path end 0 (tasks.StartValue ∷ []) a (tasks.Token signs.Number ∷ []) b
minus_path end a b minus = takes_alone (tasks.Token signs.Number ∷ []) minus (λ e. cc) refl (omega arith)

pub start_negative : (source : List ℕ) (end : ℕ) (a b c : List Token) (value : ℕ) → next_sign a ≡ signs.Minus → b ≡ rest_of a → PassesNumber b value c → ReadsStart source end a ((2 ^ 32 - value) % 2 ^ 32) c
start_negative source end a b c value e behind n =
    let minus : Passes signs.Minus a b = record { is_next = e; behind = behind } in
    let number = number_passes b n in
    let q : Path end 0 (tasks.Token signs.Number ∷ []) b [] c = takes_alone [] number (λ e. cc) refl (omega arith) in
    let r = path_path (minus_path end a b minus) q in
    record {
      tree = IsStart.negative minus n;
      shorter = (let l1 = passes_shorter minus (λ e. cc) in let l2 = passes_shorter number (λ e. cc) in omega arith);
      leads = r.goes;
    }

pub start_negative_refused : (end : ℕ) (a b : List Token) (error : ParseError) → next_sign a ≡ signs.Minus → b ≡ rest_of a → error ≡ Unexpected (next_place end b) → next_sign b ≢ signs.Number → Refused end 0 (tasks.StartValue ∷ []) a error
start_negative_refused end a b error e behind place wrong = path_stuck (minus_path end a b (record { is_next = e; behind = behind })) (refuses [] (number_only (next_sign b) wrong) (λ rest. refl) place)

pub start_plain : (source : List ℕ) (end : ℕ) (a b : List Token) (value : ℕ) → PassesNumber a value b → ReadsStart source end a value b
start_plain source end a b value n =
    let number = number_passes a n in
    let q : Path end 0 (tasks.StartValue ∷ []) a [] b = takes_alone [] number (λ e. cc) refl (omega arith) in
    record { tree = IsStart.plain n; shorter = passes_shorter number (λ e. cc); leads = q.goes }

start_refuses : (s : Sign) → s ≢ signs.Minus → s ≢ signs.Number → tasks.start_value_move s ≡ tasks.Refuse
start_refuses signs.Minus a b = absurd (a refl)
start_refuses signs.Number a b = absurd (b refl)
start_refuses _ a b = refl

pub start_refused : (end : ℕ) (a : List Token) (error : ParseError) → next_sign a ≢ signs.Minus → error ≡ Unexpected (next_place end a) → next_sign a ≢ signs.Number → Refused end 0 (tasks.StartValue ∷ []) a error
start_refused end a error no_minus place wrong = path_stuck (here end 0 (tasks.StartValue ∷ []) a) (refuses [] (start_refuses (next_sign a) no_minus wrong) (λ rest. refl) place)

-- one global, behind its name
pub global_array : (source : List ℕ) (end : ℕ) (n : NameTree) (a b : List Token) (words : ℕ) → ReadsSize end 0 a words b → ReadsGlobal source end n a (RawGlobalArray n words) b
global_array source end n a b words h =
    record {
      tree = λ x p. IsGlobal.array p h.tree;
      no_longer = (let l = h.shorter in omega arith);
      leads = λ rest o. h.leads tasks.AfterGlobalName (tasks.MoreGlobals ∷ []) rest refl (omega arith);
      small = (omega arith, tt);
    }

pub global_size_refused : (end : ℕ) (a : List Token) (error : ParseError) → next_sign a ≡ signs.LeftBracket → RefusedSize end 0 a error → Refused end 0 (tasks.AfterGlobalName ∷ []) a error
global_size_refused end a error e (inl h) other rest o = absurd (h.0 e)
global_size_refused end a error e (inr h) other rest o = h tasks.AfterGlobalName (tasks.MoreGlobals ∷ []) rest refl (omega arith)

assign_path : (end : ℕ) (a b : List Token) → Passes signs.Assign a b → Path end 0 (tasks.AfterGlobalName ∷ []) a (tasks.StartValue ∷ tasks.MoreGlobals ∷ []) b
assign_path end a b assign = takes_alone (tasks.StartValue ∷ tasks.MoreGlobals ∷ []) assign (λ e. cc) refl (omega arith)

pub global_value : (source : List ℕ) (end : ℕ) (n : NameTree) (a b c : List Token) (value : ℕ) → next_sign a ≡ signs.Assign → b ≡ rest_of a → ReadsStart source end b value c → ReadsGlobal source end n a (RawGlobal n value) c
global_value source end n a b c value e behind h =
    let assign : Passes signs.Assign a b = record { is_next = e; behind = behind } in
    let r = path_leads (assign_path end a b assign) refl h.leads in
    record {
      tree = λ x p. IsGlobal.with_start p assign h.tree;
      no_longer = (let l1 = passes_shorter assign (λ e. cc) in let l2 = h.shorter in omega arith);
      leads = r.goes;
      small = (omega arith, tt);
    }

pub global_value_refused : (end : ℕ) (a b : List Token) (error : ParseError) → next_sign a ≡ signs.Assign → b ≡ rest_of a → Refused end 0 (tasks.StartValue ∷ []) b error → Refused end 0 (tasks.AfterGlobalName ∷ []) a error
global_value_refused end a b error e behind h = path_refused (assign_path end a b (record { is_next = e; behind = behind })) refl h

global_same : (s : Sign) → s ≢ signs.LeftBracket → s ≢ signs.Assign → tasks.after_global_name_move s ≡ tasks.more_globals_move s
global_same signs.LeftBracket a b = absurd (a refl)
global_same signs.Assign a b = absurd (b refl)
global_same _ a b = refl

pub global_alone : (source : List ℕ) (end : ℕ) (n : NameTree) (a : List Token) → next_sign a ≢ signs.LeftBracket → next_sign a ≢ signs.Assign → ReadsGlobal source end n a (RawGlobal n 0) a
global_alone source end n a n1 n2 =
    let q : Path end 0 (tasks.AfterGlobalName ∷ []) a (tasks.MoreGlobals ∷ []) a =
    does_same [] (tasks.MoreGlobals ∷ []) (λ rest. ap (λ m. after_move m rest (step rest (next_sign a))) (global_same (next_sign a) n1 n2)) (λ rest. refl)
    in
    record { tree = λ x p. IsGlobal.scalar p; no_longer = omega arith; leads = q.goes; small = (omega arith, tt) }

-- globals one after another
first_same : (s : Sign) → s ≢ signs.LeftParenthesis → tasks.after_int_name_move s ≡ tasks.after_global_name_move s
first_same signs.LeftParenthesis a = absurd (a refl)
first_same _ a = refl

first_path : (end : ℕ) (a : List Token) → next_sign a ≢ signs.LeftParenthesis → Path end 0 (tasks.AfterIntName ∷ []) a (tasks.AfterGlobalName ∷ []) a
first_path end a other = does_same [] (tasks.AfterGlobalName ∷ []) (λ rest. ap (λ m. after_move m rest (step rest (next_sign a))) (first_same (next_sign a) other)) (λ rest. refl)

pub globals_first_refused : (end : ℕ) (a : List Token) (error : ParseError) → next_sign a ≢ signs.LeftParenthesis → Refused end 0 (tasks.AfterGlobalName ∷ []) a error → Refused end 0 (tasks.AfterIntName ∷ []) a error
globals_first_refused end a error other h = path_refused (first_path end a other) refl h

pub globals_first : (source : List ℕ) (end : ℕ) (n : NameTree) (a b : List Token) (old new : List RawItemTree) (item : RawItemTree) → next_sign a ≢ signs.LeftParenthesis → ReadsGlobal source end n a item b → new ≡ old ++ (item ∷ []) → ReadingGlobals source end n a old new b
globals_first source end n a b old new item other h pushed =
    let r = path_leads_to (tasks.MoreGlobals ∷ []) (first_path end a other) refl h.leads in
    record {
      is = item ∷ [];
      pushed = pushed;
      tree = λ x y after others int p t. AreItem.globals int (h.tree y p) t;
      no_longer = h.no_longer;
      leads = r.goes;
      small = h.small;
    }

comma_path : (end : ℕ) (now b : List Token) → Passes signs.Comma now b → Path end 0 (tasks.MoreGlobals ∷ []) now (tasks.GlobalName ∷ []) b
comma_path end now b comma = takes_alone (tasks.GlobalName ∷ []) comma (λ e. cc) refl (omega arith)

name_path : (source : List ℕ) (end : ℕ) (n : NameTree) (b c : List Token) → PassesName source b n c → Path end 0 (tasks.GlobalName ∷ []) b (tasks.AfterGlobalName ∷ []) c
name_path source end n b c p = takes_alone (tasks.AfterGlobalName ∷ []) p.passes (λ e. cc) refl (omega arith)

pub within_append : (xs ys : List RawItemTree) → AreWithinTemporaries xs → AreWithinTemporaries ys → AreWithinTemporaries (xs ++ ys)
within_append [] ys h k = k
within_append (x ∷ xs) ys h k = (h.0, within_append xs ys h.1 k)

pub globals_more : (source : List ℕ) (end : ℕ) (n m : NameTree) (a now b c d : List Token) (old new newer : List RawItemTree) (item : RawItemTree) → ReadingGlobals source end n a old new now → next_sign now ≡ signs.Comma → b ≡ rest_of now → PassesName source b m c
    → ReadsGlobal source end m c item d → newer ≡ new ++ (item ∷ []) → ReadingGlobals source end n a old newer d
globals_more source end n m a now b c d old new newer item h e behind p k pushed =
    let comma : Passes signs.Comma now b = record { is_next = e; behind = behind } in
    let q : Path end 0 (tasks.AfterIntName ∷ []) a (tasks.MoreGlobals ∷ []) now = record { goes = h.leads } in
    let r = path_leads_to (tasks.MoreGlobals ∷ []) (path_path q (path_path (comma_path end now b comma) (name_path source end m b c p))) refl k.leads in
    record {
      is = h.is ++ (item ∷ []);
      pushed = pushed ∙ (ap (λ l. l ++ (item ∷ [])) h.pushed ∙ append_assoc old h.is (item ∷ []));
      tree = λ x y after others int named t.
          let P : List RawItemTree → Type 0 = λ l. AreItem true source x l after in
          subst P (sym (append_assoc h.is (item ∷ []) others)) (h.tree x y after (item ∷ others) int named (AreMoreGlobals.another_global comma (k.tree b p) t));
      no_longer = (let l1 = h.no_longer in let l2 = passes_shorter comma (λ e. cc) in let l3 = passes_shorter p.passes (λ e. cc) in let l4 = k.no_longer in omega arith);
      leads = r.goes;
      small = within_append h.is (item ∷ []) h.small k.small;
    }

name_only : (x : Sign) → x ≢ signs.Name → tasks.global_name_move x ≡ tasks.Refuse
name_only signs.Name other = absurd (other refl)
name_only _ other = refl

pub globals_no_name : (source : List ℕ) (end : ℕ) (n : NameTree) (a now b : List Token) (old new : List RawItemTree) (error : ParseError) → ReadingGlobals source end n a old new now → next_sign now ≡ signs.Comma → b ≡ rest_of now
    → (error ≡ Memory) ⊎ ((error ≡ Unexpected (next_place end b)) × (next_sign b ≢ signs.Name)) → Refused end 0 (tasks.AfterIntName ∷ []) a error
globals_no_name source end n a now b old new error h e behind (inl m) other rest o = absurd (other m)
globals_no_name source end n a now b old new error h e behind (inr w) other rest o =
    let q : Path end 0 (tasks.AfterIntName ∷ []) a (tasks.MoreGlobals ∷ []) now = record { goes = h.leads } in
    path_stuck (path_path q (comma_path end now b (record { is_next = e; behind = behind }))) (refuses [] (name_only (next_sign b) w.1) (λ rest. refl) w.0) other rest o

pub globals_more_refused : (source : List ℕ) (end : ℕ) (n m : NameTree) (a now b c : List Token) (old new : List RawItemTree) (error : ParseError) → ReadingGlobals source end n a old new now → next_sign now ≡ signs.Comma → b ≡ rest_of now → PassesName source b m c
    → Refused end 0 (tasks.AfterGlobalName ∷ []) c error → Refused end 0 (tasks.AfterIntName ∷ []) a error
globals_more_refused source end n m a now b c old new error h e behind p r =
    let q : Path end 0 (tasks.AfterIntName ∷ []) a (tasks.MoreGlobals ∷ []) now = record { goes = h.leads } in
    path_refused (path_path q (path_path (comma_path end now b (record { is_next = e; behind = behind })) (name_path source end m b c p))) refl r

more_refuses : (s : Sign) → s ≢ signs.Comma → s ≢ signs.Semicolon → tasks.more_globals_move s ≡ tasks.Refuse
more_refuses signs.Comma a b = absurd (a refl)
more_refuses signs.Semicolon a b = absurd (b refl)
more_refuses _ a b = refl

pub globals_open_end : (source : List ℕ) (end : ℕ) (n : NameTree) (a now : List Token) (old new : List RawItemTree) (error : ParseError) → ReadingGlobals source end n a old new now → next_sign now ≢ signs.Comma → next_sign now ≢ signs.Semicolon → error ≡ Unexpected (next_place end now)
    → Refused end 0 (tasks.AfterIntName ∷ []) a error
globals_open_end source end n a now old new error h no_comma no_close place =
    let q : Path end 0 (tasks.AfterIntName ∷ []) a (tasks.MoreGlobals ∷ []) now = record { goes = h.leads } in
    path_stuck q (refuses [] (more_refuses (next_sign now) no_comma no_close) (λ rest. refl) place)

pub globals_read : (source : List ℕ) (end : ℕ) (n : NameTree) (a now b : List Token) (old new : List RawItemTree) → ReadingGlobals source end n a old new now → Passes signs.Semicolon now b → ReadsGlobals source end n a old new b
globals_read source end n a now b old new h close =
    let q : Path end 0 (tasks.AfterIntName ∷ []) a (tasks.MoreGlobals ∷ []) now = record { goes = h.leads } in
    let last : Path end 0 (tasks.MoreGlobals ∷ []) now [] b = takes_alone [] close (λ e. cc) refl (omega arith) in
    let r = path_path q last in
    record {
      is = h.is;
      pushed = h.pushed;
      tree = λ x y int named. let P : List RawItemTree → Type 0 = λ l. AreItem true source x l b in subst P (append-nil h.is) (h.tree x y b [] int named (AreMoreGlobals.last_global close));
      shorter = (let l1 = h.no_longer in let l2 = passes_shorter close (λ e. cc) in omega arith);
      leads = r.goes;
      small = h.small;
    }
