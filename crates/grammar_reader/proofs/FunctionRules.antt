-- What a prototype or a function comes to, exit by exit.
use Rattle.grammar_reader.proofs.Common.{ℕ, ◌≡◌, ◌≢◌, refl, sym, subst, Bool, true, false, List, [], ◌∷◌, Option, arith, Token, NameTree, RawStmtTrees, RawPrototypeItem, RawFunctionItem, ParseError, Unexpected, Sign, Task, finishes, next_sign, next_place, Passes, AreNamed, AreItem, ReadsBlock, RefusedBlock, all_have_names, names_in, after_task, Listed, RefusedListed, ReadsParameters, ReadsFunction}
use Rattle.c_grammar.specs.declared.signs.Sign.TheVariants as signs
use Rattle.c_grammar.specs.Machine as tasks
use Rattle.grammar_reader.proofs.Runs.{passes_shorter}
use Rattle.grammar_reader.proofs.Paths.{Path, path_leads, path_stuck, path_path, path_refused, takes_alone, refuses}

after_refuses : (named : Bool) (s : Sign) → (named ≡ true → s ≢ signs.LeftBrace) → s ≢ signs.Semicolon → tasks.move (after_task named) s ≡ tasks.Refuse
after_refuses true signs.LeftBrace a b = absurd (a refl refl)
after_refuses true signs.Semicolon a b = absurd (b refl)
after_refuses true _ a b = refl
after_refuses false signs.Semicolon a b = absurd (b refl)
after_refuses false _ a b = refl

after_unfinished : (named : Bool) (rest : List Task) → finishes (after_task named ∷ rest) ≡ false
after_unfinished true rest = refl
after_unfinished false rest = refl

after_ends : (named : Bool) → tasks.move (after_task named) signs.Semicolon ≡ tasks.Take []
after_ends true = refl
after_ends false = refl

after_path : (source : List ℕ) (end : ℕ) (ps : List (Option NameTree)) (todo : Task) (a b : List Token) → Listed todo → ReadsParameters source end a ps b → Path end 0 (todo ∷ []) a (after_task (all_have_names ps) ∷ []) b
after_path source end ps todo a b z h = record { goes = h.leads todo z }

pub function_open_end : (source : List ℕ) (end : ℕ) (a b : List Token) (ps : List (Option NameTree)) (error : ParseError) → ReadsParameters source end a ps b → (all_have_names ps ≡ true → next_sign b ≢ signs.LeftBrace) → error ≡ Unexpected (next_place end b) → next_sign b ≢ signs.Semicolon
    → RefusedListed end a error
function_open_end source end a b ps error h no_brace place wrong todo z = path_stuck (after_path source end ps todo a b z h) (refuses [] (after_refuses (all_have_names ps) (next_sign b) no_brace wrong) (λ rest. after_unfinished (all_have_names ps) rest) place)

pub function_prototype : (source : List ℕ) (end : ℕ) (gives : Bool) (n : NameTree) (a b c : List Token) (ps : List (Option NameTree)) → ReadsParameters source end a ps b → Passes signs.Semicolon b c → ReadsFunction source end gives n a (RawPrototypeItem gives n ps) c
function_prototype source end gives n a b c ps h close =
    record {
      tree = λ x y result named. AreItem.prototype result named h.tree close;
      shorter = (let l1 = h.shorter in let l2 = passes_shorter close (λ e. cc) in omega arith);
      leads = λ todo z.
          let last : Path end 0 (after_task (all_have_names ps) ∷ []) b [] c = takes_alone [] close (λ e. cc) (after_ends (all_have_names ps)) (omega arith) in
          let r = path_path (after_path source end ps todo a b z h) last in
          r.goes;
      small = (omega arith, tt);
    }

body_path : (source : List ℕ) (end : ℕ) (ps : List (Option NameTree)) (todo : Task) (a b : List Token) → Listed todo → ReadsParameters source end a ps b → all_have_names ps ≡ true → Path end 0 (todo ∷ []) a (tasks.AfterParameters ∷ []) b
body_path source end ps todo a b z h all = let P : Bool → Type 0 = λ named. Path end 0 (todo ∷ []) a (after_task named ∷ []) b in subst P all (after_path source end ps todo a b z h)

pub function_body_refused : (source : List ℕ) (end : ℕ) (a b : List Token) (ps : List (Option NameTree)) (error : ParseError) → ReadsParameters source end a ps b → all_have_names ps ≡ true → RefusedBlock end 0 b error → RefusedListed end a error
function_body_refused source end a b ps error h all r todo z = path_refused (body_path source end ps todo a b z h all) refl (r tasks.AfterParameters refl)

pub function_read : (source : List ℕ) (end : ℕ) (gives : Bool) (n : NameTree) (a b c : List Token) (ps : List (Option NameTree)) (ns : List NameTree) (ss : RawStmtTrees) → ReadsParameters source end a ps b → all_have_names ps ≡ true → ns ≡ names_in ps → ReadsBlock source end 0 b ss c
    → ReadsFunction source end gives n a (RawFunctionItem gives n ns ss) c
function_read source end gives n a b c ps ns ss h all names k =
    record {
      tree = λ x y result named. let P : List NameTree → Type 0 = λ l. AreNamed source a l b in AreItem.function result named (subst P (sym names) (h.named all)) k.tree;
      shorter = (let l1 = h.shorter in let l2 = k.shorter in omega arith);
      leads = λ todo z. let r = path_leads (body_path source end ps todo a b z h all) refl (k.leads tasks.AfterParameters refl) in r.goes;
      small = (let m = k.small in omega arith, tt);
    }
