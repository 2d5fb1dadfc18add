-- What the functions of statements that hold no other statement come to, exit by exit.
use Rattle.grammar_reader.proofs.Common.{ℕ, ◌≡◌, ◌≢◌, ◌+◌, ◌*◌, ◌≤◌, ◌⊎◌, inl, inr, refl, sym, ap, subst, ◌∙◌, true, List, [], ◌∷◌, ◌++◌, map, Option, Some, None, arith, Token, RawExprTree, RawSimpleTree, RawStmtTree, RawStmtTrees, RawDo, RawBreak, RawContinue, RawReturn, RawThen, raw_simples_temporaries, raw_stmt_temporaries, ParseError, Unexpected, Sign, Task, step, open_tasks, run, next_sign, next_place, next_at, rest_of, Passes, IsUpToSemicolon, IsBody, AreStmts, declared_before, Refused, ReadsExpr, ReadsSimple, RefusedSimple, ReadsLocals, RefusedInside, NoStatement, ReadsBody, ReadsUpToSemicolon, AreSmall, ReadsBlockItem, stmts_before}
use Rattle.c_grammar.specs.declared.signs.Sign.TheVariants as signs
use Rattle.c_grammar.specs.Machine as tasks
use Rattle.grammar_reader.proofs.Runs.{run_sign, passes_shorter, semicolon_only}
use Rattle.grammar_reader.proofs.Paths.{Path, here, path_leads, path_refused, path_stuck, path_path, takes_alone, refuses, does_same}

-- an expression that may be left out
pub up_none : (source : List ℕ) (end depth : ℕ) (a b : List Token) → depth ≤ 64 → next_sign a ≡ signs.Semicolon → b ≡ rest_of a → ReadsUpToSemicolon source end depth a None b
up_none source end depth a b low e behind =
    let p : Passes signs.Semicolon a b = record { is_next = e; behind = behind } in
    let q : Path end depth (tasks.UpToSemicolon ∷ []) a [] b = takes_alone [] p (λ e. cc) refl (omega arith) in
    record { tree = IsUpToSemicolon.nothing p; shorter = passes_shorter p (λ e. cc); leads = q.goes; small = omega arith }

up_move : (s : Sign) (rest : List Task) → s ≢ signs.Semicolon → step (tasks.UpToSemicolon ∷ rest) s ≡ step (tasks.Expr ∷ tasks.Token signs.Semicolon ∷ rest) s
up_move signs.Semicolon rest other = absurd (other refl)
up_move _ rest other = refl

up_path : (end depth : ℕ) (a : List Token) → next_sign a ≢ signs.Semicolon → Path end depth (tasks.UpToSemicolon ∷ []) a (tasks.Expr ∷ tasks.Token signs.Semicolon ∷ []) a
up_path end depth a other = does_same [] (tasks.Expr ∷ tasks.Token signs.Semicolon ∷ []) (λ rest. up_move (next_sign a) rest other) (λ rest. refl)

up_value : (source : List ℕ) (end depth : ℕ) (a b : List Token) (e : RawExprTree) → next_sign a ≢ signs.Semicolon → ReadsExpr source end depth a e b → Path end depth (tasks.UpToSemicolon ∷ []) a (tasks.Token signs.Semicolon ∷ []) b
up_value source end depth a b e other h = path_leads (up_path end depth a other) (omega arith) h.leads

pub up_refused : (end depth : ℕ) (a : List Token) (error : ParseError) → next_sign a ≢ signs.Semicolon → Refused end depth (tasks.Expr ∷ []) a error → Refused end depth (tasks.UpToSemicolon ∷ []) a error
up_refused end depth a error other r = path_refused (up_path end depth a other) (omega arith) r

pub up_open_end : (source : List ℕ) (end depth : ℕ) (a b : List Token) (e : RawExprTree) (error : ParseError) → next_sign a ≢ signs.Semicolon → ReadsExpr source end depth a e b → error ≡ Unexpected (next_place end b) → next_sign b ≢ signs.Semicolon → Refused end depth (tasks.UpToSemicolon ∷ []) a error
up_open_end source end depth a b e error other h place wrong = path_stuck (up_value source end depth a b e other h) (refuses [] (semicolon_only (next_sign b) wrong) (λ rest. refl) place)

pub up_something : (source : List ℕ) (end depth : ℕ) (a b c : List Token) (e : RawExprTree) → depth ≤ 64 → next_sign a ≢ signs.Semicolon → ReadsExpr source end depth a e b → Passes signs.Semicolon b c → ReadsUpToSemicolon source end depth a (Some e) c
up_something source end depth a b c e low other h close =
    let q : Path end depth (tasks.Token signs.Semicolon ∷ []) b [] c = takes_alone [] close (λ e. cc) refl (omega arith) in
    let p = path_path (up_value source end depth a b e other h) q in
    record {
      tree = IsUpToSemicolon.something h.tree close;
      shorter = (let l1 = h.shorter in let l2 = passes_shorter close (λ e. cc) in omega arith);
      leads = p.goes;
      small = (let m = h.small in omega arith);
    }

-- jumps
pub place_at : (end : ℕ) (s : Sign) (a : List Token) → next_sign a ≡ s → s ≢ signs.Finish → next_place end a ≡ next_at a
place_at end s [] e some = absurd (some (sym e))
place_at end s (t ∷ tokens) e some = refl

-- the two jumps that end at a `;`
pub data Jump : Sign → (ℕ → RawStmtTree) → Type 0 where
  break_jump : Jump signs.Break RawBreak
  continue_jump : Jump signs.Continue RawContinue

jump_some : {s : Sign} {f : ℕ → RawStmtTree} → Jump s f → s ≢ signs.Finish
jump_some Jump.break_jump e = cc
jump_some Jump.continue_jump e = cc

jump_take : {s : Sign} {f : ℕ → RawStmtTree} → Jump s f → tasks.body_move s ≡ tasks.Take (tasks.Token signs.Semicolon ∷ [])
jump_take Jump.break_jump = refl
jump_take Jump.continue_jump = refl

jump_small : {s : Sign} {f : ℕ → RawStmtTree} (at : ℕ) → Jump s f → raw_stmt_temporaries (f at) ≤ 1040
jump_small at Jump.break_jump = omega arith
jump_small at Jump.continue_jump = omega arith

jump_tree : {source : List ℕ} {s : Sign} {f : ℕ → RawStmtTree} {a b c : List Token} → Jump s f → Passes s a b → Passes signs.Semicolon b c → IsBody true source a (f (next_at a)) c
jump_tree Jump.break_jump p q = IsBody.break_loop p q
jump_tree Jump.continue_jump p q = IsBody.continue_loop p q

jump_path : {s : Sign} {f : ℕ → RawStmtTree} (end depth : ℕ) (a b : List Token) → Jump s f → depth ≤ 64 → Passes s a b → Path end depth (tasks.Body ∷ []) a (tasks.Token signs.Semicolon ∷ []) b
jump_path end depth a b k low p = takes_alone (tasks.Token signs.Semicolon ∷ []) p (jump_some k) (jump_take k) (omega arith)

pub jump_open_end : {s : Sign} {f : ℕ → RawStmtTree} (end depth : ℕ) (a b : List Token) (error : ParseError) → Jump s f → depth ≤ 64 → next_sign a ≡ s → b ≡ rest_of a → error ≡ Unexpected (next_place end b) → next_sign b ≢ signs.Semicolon → Refused end depth (tasks.Body ∷ []) a error
jump_open_end end depth a b error k low e behind place wrong = path_stuck (jump_path end depth a b k low (record { is_next = e; behind = behind })) (refuses [] (semicolon_only (next_sign b) wrong) (λ rest. refl) place)

pub jump_read : {s : Sign} {f : ℕ → RawStmtTree} (source : List ℕ) (end depth at : ℕ) (a b c : List Token) → Jump s f → depth ≤ 64 → next_sign a ≡ s → at ≡ next_place end a → b ≡ rest_of a → Passes signs.Semicolon b c → ReadsBody source end depth a (f at) c
jump_read {s = s'} {f = g} source end depth at a b c k low e place behind close =
    let p : Passes s' a b = record { is_next = e; behind = behind } in
    let q : Path end depth (tasks.Token signs.Semicolon ∷ []) b [] c = takes_alone [] close (λ e. cc) refl (omega arith) in
    let w = path_path (jump_path end depth a b k low p) q in
    let same : next_at a ≡ at = sym (place ∙ place_at end s' a e (jump_some k)) in
    let P : ℕ → Type 0 = λ n. IsBody true source a (g n) c in
    record {
      tree = subst P same (jump_tree k p close);
      shorter = (let l1 = passes_shorter p (jump_some k) in let l2 = passes_shorter close (λ e. cc) in omega arith);
      leads = w.goes;
      small = jump_small at k;
    }

-- a return
return_path : (end depth : ℕ) (a b : List Token) → depth ≤ 64 → Passes signs.Return a b → Path end depth (tasks.Body ∷ []) a (tasks.UpToSemicolon ∷ []) b
return_path end depth a b low p = takes_alone (tasks.UpToSemicolon ∷ []) p (λ e. cc) refl (omega arith)

pub return_refused : (end depth : ℕ) (a b : List Token) (error : ParseError) → depth ≤ 64 → next_sign a ≡ signs.Return → b ≡ rest_of a → Refused end depth (tasks.UpToSemicolon ∷ []) b error → Refused end depth (tasks.Body ∷ []) a error
return_refused end depth a b error low e behind r = path_refused (return_path end depth a b low (record { is_next = e; behind = behind })) (omega arith) r

pub return_read : (source : List ℕ) (end depth at : ℕ) (a b c : List Token) (v : Option RawExprTree) → depth ≤ 64 → next_sign a ≡ signs.Return → at ≡ next_place end a → b ≡ rest_of a → ReadsUpToSemicolon source end depth b v c → ReadsBody source end depth a (RawReturn at v) c
return_read source end depth at a b c v low e place behind h =
    let p : Passes signs.Return a b = record { is_next = e; behind = behind } in
    let w : Path end depth (tasks.Body ∷ []) a [] c = path_leads (return_path end depth a b low p) (omega arith) h.leads in
    let same : next_at a ≡ at = sym (place ∙ place_at end signs.Return a e (λ e. cc)) in
    let P : ℕ → Type 0 = λ n. IsBody true source a (RawReturn n v) c in
    record {
      tree = subst P same (IsBody.return_value p h.tree);
      shorter = (let l1 = passes_shorter p (λ e. cc) in let l2 = h.shorter in omega arith);
      leads = w.goes;
      small = h.small;
    }

-- an assignment or a call
simple_path : (end depth : ℕ) (a : List Token) → depth ≤ 64 → next_sign a ≡ signs.Name → Path end depth (tasks.Body ∷ []) a (tasks.AfterSimpleName ∷ tasks.Token signs.Semicolon ∷ []) (rest_of a)
simple_path end depth a low e =
    let p : Passes signs.Name a (rest_of a) = record { is_next = e; behind = refl } in
    takes_alone (tasks.AfterSimpleName ∷ tasks.Token signs.Semicolon ∷ []) p (λ e. cc) refl (omega arith)

simple_done : (source : List ℕ) (end depth : ℕ) (a b : List Token) (s : RawSimpleTree) → depth ≤ 64 → ReadsSimple source end depth a s b → Path end depth (tasks.Body ∷ []) a (tasks.Token signs.Semicolon ∷ []) b
simple_done source end depth a b s low h = path_leads (simple_path end depth a low h.named) (omega arith) h.leads

simple_either : (end depth : ℕ) (a : List Token) (error : ParseError) → depth ≤ 64 → NoStatement a
    → ((next_sign a ≢ signs.Name) × (error ≡ Unexpected (next_place end a))) ⊎ ((next_sign a ≡ signs.Name) × Refused end depth (tasks.AfterSimpleName ∷ []) (rest_of a) error) → Refused end depth (tasks.Body ∷ []) a error
simple_either end depth a error low none (inl h) = path_stuck (here end depth (tasks.Body ∷ []) a) (refuses [] (none h.0) (λ rest. refl) h.1)
simple_either end depth a error low none (inr h) = path_refused (simple_path end depth a low h.0) (omega arith) h.1

pub simple_refused : (end depth : ℕ) (a : List Token) (error : ParseError) → depth ≤ 64 → NoStatement a → RefusedSimple end depth a error → Refused end depth (tasks.Body ∷ []) a error
simple_refused end depth a error low none r other = simple_either end depth a error low none (r other) other

pub simple_open_end : (source : List ℕ) (end depth : ℕ) (a b : List Token) (s : RawSimpleTree) (error : ParseError) → depth ≤ 64 → ReadsSimple source end depth a s b → error ≡ Unexpected (next_place end b) → next_sign b ≢ signs.Semicolon → Refused end depth (tasks.Body ∷ []) a error
simple_open_end source end depth a b s error low h place wrong = path_stuck (simple_done source end depth a b s low h) (refuses [] (semicolon_only (next_sign b) wrong) (λ rest. refl) place)

pub simple_read : (source : List ℕ) (end depth : ℕ) (a b c : List Token) (s : RawSimpleTree) → depth ≤ 64 → ReadsSimple source end depth a s b → Passes signs.Semicolon b c → ReadsBody source end depth a (RawDo s) c
simple_read source end depth a b c s low h close =
    let q : Path end depth (tasks.Token signs.Semicolon ∷ []) b [] c = takes_alone [] close (λ e. cc) refl (omega arith) in
    let p = path_path (simple_done source end depth a b s low h) q in
    record {
      tree = IsBody.simple h.tree close;
      shorter = (let l1 = h.shorter in let l2 = passes_shorter close (λ e. cc) in omega arith);
      leads = p.goes;
      small = (let m = h.small in omega arith);
    }

-- declarations of a block
before_append : (old : List RawStmtTree) (ds : List RawSimpleTree) (others : RawStmtTrees) → stmts_before (old ++ map RawDo ds) others ≡ stmts_before old (declared_before ds others)
before_append [] [] others = refl
before_append [] (d ∷ ds) others = ap (λ ss. RawThen (RawDo d) ss) (before_append [] ds others)
before_append (s ∷ old) ds others = ap (λ ss. RawThen s ss) (before_append old ds others)

pub small_append : (old more : List RawStmtTree) → AreSmall old → AreSmall more → AreSmall (old ++ more)
small_append [] more h k = k
small_append (s ∷ old) more h k = let l : AreSmall old = omega arith in let m = small_append old more l k in omega arith

small_declared : (depth : ℕ) (ds : List RawSimpleTree) → raw_simples_temporaries ds + 16 * depth ≤ 1040 → AreSmall (map RawDo ds)
small_declared depth [] h = omega arith
small_declared depth (d ∷ ds) h = let l : raw_simples_temporaries ds + 16 * depth ≤ 1040 = omega arith in let m = small_declared depth ds l in omega arith

declared_run : (end depth : ℕ) (a : List Token) → depth ≤ 64 → next_sign a ≡ signs.Int → (rest : List Task) → 1 + open_tasks rest ≡ depth → run end (tasks.BlockItems ∷ rest) a ≡ run end (tasks.LocalName ∷ tasks.BlockItems ∷ rest) (rest_of a)
declared_run end depth a low e rest o = run_sign end (tasks.BlockItems ∷ rest) signs.Int a e (λ e. cc) refl (omega arith)

pub declarations_refused : (end depth : ℕ) (a : List Token) (error : ParseError) → depth ≤ 64 → next_sign a ≡ signs.Int → Refused end depth (tasks.LocalName ∷ []) (rest_of a) error → RefusedInside end depth tasks.BlockItems a error
declarations_refused end depth a error low e r other rest o = declared_run end depth a low e rest o ∙ r other (tasks.BlockItems ∷ rest) (omega arith)

pub declarations_read : (source : List ℕ) (end depth : ℕ) (a b : List Token) (old new : List RawStmtTree) (ds : List RawSimpleTree) → depth ≤ 64 → next_sign a ≡ signs.Int → ReadsLocals source end depth a ds b → new ≡ old ++ map RawDo ds → ReadsBlockItem source end depth a old new b
declarations_read source end depth a b old new ds low e h pushed =
    record {
      so_far = λ start k. record {
        go_on = λ others after t.
            let P : RawStmtTrees → Type 0 = λ ss. AreStmts true source start ss after in
            let q : stmts_before old (declared_before ds others) ≡ stmts_before new others = sym (ap (λ l. stmts_before l others) pushed ∙ before_append old ds others) in
            subst P q (k.go_on (declared_before ds others) after (AreStmts.declarations h.tree t));
      };
      shorter = h.shorter;
      leads = λ rest o. declared_run end depth a low e rest o ∙ h.leads (tasks.BlockItems ∷ rest) (omega arith);
      small = λ s. let P : List RawStmtTree → Type 0 = AreSmall in subst P (sym pushed) (small_append old (map RawDo ds) s (small_declared depth ds h.small));
    }
