-- A well-scoped program stays one where its calls, which are numbered in the order of the tree, get other numbers: nothing but the
-- rule on the numbers of calls looks at them.
use Rattle.scope_rules.proofs.Common.{max, ℕ, ◌≡◌, ◌+◌, ◌≤◌, refl, sym, ap, subst, ◌∙◌, Bool, true, false, List, [], ◌∷◌, ◌++◌, append_assoc, length, length-append, map, Option, Some, None, arith, AllByRecursion, if◌then◌else◌, option_map, sum, slice_index_or, map-append, length-map, Site, CallTree, CallFunction, RightTree, Computed, Called, SimpleTree, DeclareScalar, DeclareWith, SetLocal, SetGlobal, SetLocalElement, SetGlobalElement, Calling, StmtTree, StmtTrees, Do, Empty, Block, If, IfElse, While, For, Return, NoStmts, Then, FunctionTree, ProgramTree, Declared, simple_names, simples_names, step_names, stmt_names, stmts_names, call_site, right_sites, returned_sites, simple_sites, simples_sites, step_sites, stmt_sites, stmts_sites, functions_sites, program_sites, counting, scalars, below, call_temporaries, right_temporaries, held_temporaries, simple_temporaries, simples_temporaries, step_temporaries, returned_temporaries, stmt_temporaries, stmts_temporaries, Context, context_of, signature_of, call_gives, IsCallScoped, IsRightScoped, IsSimpleScoped, AreSimplesScoped, IsConditionScoped, IsStepScoped, IsReturnScoped, with_names, scope_after, scope_after_all, IsStmtScoped, AreStmtsScoped, IsFunctionScoped, AreFunctionsScoped, AreSiteNumbers, IsWellScoped, Signature, signature_at, IsTable, number_at, call_numbered, right_numbered, simple_numbered, stmt_numbered, stmts_numbered, function_numbered, numbered}
use Rattle.scope_rules.proofs.Growth.{numbers}

module _ (ns : List ℕ) where
  -- ---- the names that are declared

  simple_named : (s : SimpleTree) → simple_names (simple_numbered ns s) ≡ simple_names s
  simple_named (DeclareScalar x) = refl
  simple_named _ = refl

  simples_named : (ss : List SimpleTree) → simples_names (map (simple_numbered ns) ss) ≡ simples_names ss
  simples_named [] = refl
  simples_named (s ∷ ss) = rw (simple_named s, simples_named ss) refl

  step_named : (step : Option SimpleTree) → step_names (option_map (simple_numbered ns) step) ≡ step_names step
  step_named None = refl
  step_named (Some s) = simple_named s

  mutual
    stmt_named : (s : StmtTree) → stmt_names (stmt_numbered ns s) ≡ stmt_names s
    stmt_named (Do s) = simple_named s
    stmt_named (Block ss) = stmts_named ss
    stmt_named (If c s) = stmt_named s
    stmt_named (IfElse c s r) = rw (stmt_named s, stmt_named r) refl
    stmt_named (While c s) = stmt_named s
    stmt_named (For init c step s) = rw (simples_named init, step_named step, stmt_named s) refl
    stmt_named _ = refl

    stmts_named : (ss : StmtTrees) → stmts_names (stmts_numbered ns ss) ≡ stmts_names ss
    stmts_named NoStmts = refl
    stmts_named (Then s ss) = rw (stmt_named s, stmts_named ss) refl

  -- ---- the calls

  abbrev site_numbered : Site → Site
  site_numbered k = record k { number = number_at ns k.number }

  call_renumbered : (k : CallTree) → call_site (call_numbered ns k) ≡ site_numbered (call_site k)
  call_renumbered (CallFunction s f es) = refl
  call_renumbered _ = refl

  right_renumbered : (v : RightTree) → right_sites (right_numbered ns v) ≡ map site_numbered (right_sites v)
  right_renumbered (Computed e) = refl
  right_renumbered (Called k) = ap (λ x. x ∷ []) (call_renumbered k)

  returned_renumbered : (v : Option RightTree) → returned_sites (option_map (right_numbered ns) v) ≡ map site_numbered (returned_sites v)
  returned_renumbered None = refl
  returned_renumbered (Some v) = right_renumbered v

  simple_renumbered : (s : SimpleTree) → simple_sites (simple_numbered ns s) ≡ map site_numbered (simple_sites s)
  simple_renumbered (DeclareWith x v) = right_renumbered v
  simple_renumbered (SetLocal x v) = right_renumbered v
  simple_renumbered (SetGlobal g v) = right_renumbered v
  simple_renumbered (SetLocalElement a i v) = right_renumbered v
  simple_renumbered (SetGlobalElement a i v) = right_renumbered v
  simple_renumbered (Calling k) = ap (λ x. x ∷ []) (call_renumbered k)
  simple_renumbered _ = refl

  simples_renumbered : (ss : List SimpleTree) → simples_sites (map (simple_numbered ns) ss) ≡ map site_numbered (simples_sites ss)
  simples_renumbered [] = refl
  simples_renumbered (s ∷ ss) = (λ i. simple_renumbered s i ++ simples_renumbered ss i) ∙ sym (map-append site_numbered (simple_sites s) (simples_sites ss))

  step_renumbered : (step : Option SimpleTree) → step_sites (option_map (simple_numbered ns) step) ≡ map site_numbered (step_sites step)
  step_renumbered None = refl
  step_renumbered (Some s) = simple_renumbered s

  mutual
    stmt_renumbered : (s : StmtTree) → stmt_sites (stmt_numbered ns s) ≡ map site_numbered (stmt_sites s)
    stmt_renumbered (Do s) = simple_renumbered s
    stmt_renumbered (Block ss) = stmts_renumbered ss
    stmt_renumbered (If c s) = stmt_renumbered s
    stmt_renumbered (IfElse c s r) = (λ i. stmt_renumbered s i ++ stmt_renumbered r i) ∙ sym (map-append site_numbered (stmt_sites s) (stmt_sites r))
    stmt_renumbered (While c s) = stmt_renumbered s
    stmt_renumbered (For init c step s) =
        (λ i. simples_renumbered init i ++ (step_renumbered step i ++ stmt_renumbered s i))
        ∙ ap (λ x. map site_numbered (simples_sites init) ++ x) (sym (map-append site_numbered (step_sites step) (stmt_sites s)))
        ∙ sym (map-append site_numbered (simples_sites init) (step_sites step ++ stmt_sites s))
    stmt_renumbered (Return v) = returned_renumbered v
    stmt_renumbered _ = refl

    stmts_renumbered : (ss : StmtTrees) → stmts_sites (stmts_numbered ns ss) ≡ map site_numbered (stmts_sites ss)
    stmts_renumbered NoStmts = refl
    stmts_renumbered (Then s ss) = (λ i. stmt_renumbered s i ++ stmts_renumbered ss i) ∙ sym (map-append site_numbered (stmt_sites s) (stmts_sites ss))

  functions_renumbered : (fs : List FunctionTree) → functions_sites (map (function_numbered ns) fs) ≡ map site_numbered (functions_sites fs)
  functions_renumbered [] = refl
  functions_renumbered (f ∷ fs) = (λ i. stmts_renumbered f.body i ++ functions_renumbered fs i) ∙ sym (map-append site_numbered (stmts_sites f.body) (functions_sites fs))

  -- ---- temporaries

  call_taken : (k : CallTree) → call_temporaries (call_numbered ns k) ≡ call_temporaries k
  call_taken (CallFunction s f es) = refl
  call_taken _ = refl

  right_taken : (v : RightTree) → right_temporaries (right_numbered ns v) ≡ right_temporaries v
  right_taken (Computed e) = refl
  right_taken (Called k) = call_taken k

  held_taken : (v : RightTree) → held_temporaries (right_numbered ns v) ≡ held_temporaries v
  held_taken (Computed e) = refl
  held_taken (Called k) = rw (call_taken k) refl

  simple_taken : (s : SimpleTree) → simple_temporaries (simple_numbered ns s) ≡ simple_temporaries s
  simple_taken (DeclareWith x v) = right_taken v
  simple_taken (SetLocal x v) = right_taken v
  simple_taken (SetGlobal g v) = held_taken v
  simple_taken (SetLocalElement a i v) = rw (held_taken v) refl
  simple_taken (SetGlobalElement a i v) = rw (held_taken v) refl
  simple_taken (Calling k) = call_taken k
  simple_taken _ = refl

  simples_taken : (ss : List SimpleTree) → simples_temporaries (map (simple_numbered ns) ss) ≡ simples_temporaries ss
  simples_taken [] = refl
  simples_taken (s ∷ ss) = rw (simple_taken s, simples_taken ss) refl

  step_taken : (step : Option SimpleTree) → step_temporaries (option_map (simple_numbered ns) step) ≡ step_temporaries step
  step_taken None = refl
  step_taken (Some s) = simple_taken s

  returned_taken : (v : Option RightTree) → returned_temporaries (option_map (right_numbered ns) v) ≡ returned_temporaries v
  returned_taken None = refl
  returned_taken (Some v) = held_taken v

  mutual
    stmt_taken : (s : StmtTree) → stmt_temporaries (stmt_numbered ns s) ≡ stmt_temporaries s
    stmt_taken (Do s) = simple_taken s
    stmt_taken (Block ss) = stmts_taken ss
    stmt_taken (If c s) = rw (stmt_taken s) refl
    stmt_taken (IfElse c s r) = rw (stmt_taken s, stmt_taken r) refl
    stmt_taken (While c s) = rw (stmt_taken s) refl
    stmt_taken (For init c step s) = rw (simples_taken init, step_taken step, stmt_taken s) refl
    stmt_taken (Return v) = returned_taken v
    stmt_taken _ = refl

    stmts_taken : (ss : StmtTrees) → stmts_temporaries (stmts_numbered ns ss) ≡ stmts_temporaries ss
    stmts_taken NoStmts = refl
    stmts_taken (Then s ss) = rw (stmt_taken s, stmts_taken ss) refl

  -- ---- what is in scope

  call_scoped : (c : Context) (scope : List ℕ) (k : CallTree) → IsCallScoped c scope k → IsCallScoped c scope (call_numbered ns k)
  call_scoped c scope (CallFunction s f es) h = h
  call_scoped c scope _ h = h

  call_given : (c : Context) (k : CallTree) → call_gives c (call_numbered ns k) ≡ call_gives c k
  call_given c (CallFunction s f es) = refl
  call_given c _ = refl

  right_scoped : (c : Context) (scope : List ℕ) (v : RightTree) → IsRightScoped c scope v → IsRightScoped c scope (right_numbered ns v)
  right_scoped c scope (Computed e) h = h
  right_scoped c scope (Called k) h = (call_scoped c scope k h.0, rw (call_given c k) h.1)

  simple_scoped : (c : Context) (scope : List ℕ) (s : SimpleTree) → IsSimpleScoped c scope s → IsSimpleScoped c scope (simple_numbered ns s)
  simple_scoped c scope (DeclareWith x v) h = (h.0, h.1, right_scoped c scope v h.2)
  simple_scoped c scope (SetLocal x v) h = (h.0, h.1, h.2, right_scoped c scope v h.3)
  simple_scoped c scope (SetGlobal g v) h = (h.0, h.1, right_scoped c scope v h.2)
  simple_scoped c scope (SetLocalElement a i v) h = (h.0, h.1, h.2, right_scoped c scope v h.3)
  simple_scoped c scope (SetGlobalElement a i v) h = (h.0, h.1, right_scoped c scope v h.2)
  simple_scoped c scope (Calling k) h = call_scoped c scope k h
  simple_scoped c scope _ h = h

  simples_scoped : (c : Context) (scope : List ℕ) (ss : List SimpleTree) → AreSimplesScoped c scope ss → AreSimplesScoped c scope (map (simple_numbered ns) ss)
  simples_scoped c scope [] h = tt
  simples_scoped c scope (s ∷ ss) h = (simple_scoped c scope s h.0, rw (simple_named s) (simples_scoped c (with_names scope (simple_names s)) ss h.1))

  scope_all : (scope : List ℕ) (ss : List SimpleTree) → scope_after_all scope (map (simple_numbered ns) ss) ≡ scope_after_all scope ss
  scope_all scope [] = refl
  scope_all scope (s ∷ ss) = ap (λ (ds : List Declared). scope_after_all (with_names scope ds) (map (simple_numbered ns) ss)) (simple_named s) ∙ scope_all (with_names scope (simple_names s)) ss

  step_scoped : (c : Context) (scope : List ℕ) (step : Option SimpleTree) → IsStepScoped c scope step → IsStepScoped c scope (option_map (simple_numbered ns) step)
  step_scoped c scope None h = tt
  step_scoped c scope (Some s) h = (rw (simple_named s) h.0, simple_scoped c scope s h.1)

  return_scoped : (c : Context) (scope : List ℕ) (v : Option RightTree) → IsReturnScoped c scope v → IsReturnScoped c scope (option_map (right_numbered ns) v)
  return_scoped c scope None h = h
  return_scoped c scope (Some v) h = (h.0, right_scoped c scope v h.1)

  scope_kept : (scope : List ℕ) (s : StmtTree) → scope_after scope (stmt_numbered ns s) ≡ scope_after scope s
  scope_kept scope (Do s) = ap (with_names scope) (simple_named s)
  scope_kept scope _ = refl

  mutual
    stmt_scoped : (c : Context) (loop : Bool) (scope : List ℕ) (s : StmtTree) → IsStmtScoped c loop scope s → IsStmtScoped c loop scope (stmt_numbered ns s)
    stmt_scoped c loop scope (Do s) h = simple_scoped c scope s h
    stmt_scoped c loop scope Empty h = tt
    stmt_scoped c loop scope (Block ss) h = stmts_scoped c loop scope ss h
    stmt_scoped c loop scope (If e s) h = (h.0, stmt_scoped c loop scope s h.1)
    stmt_scoped c loop scope (IfElse e s r) h = (h.0, stmt_scoped c loop scope s h.1, stmt_scoped c loop scope r h.2)
    stmt_scoped c loop scope (While e s) h = (h.0, stmt_scoped c true scope s h.1)
    stmt_scoped c loop scope (For init e step s) h =
        let inner = scope_after_all scope init in
        let same : inner ≡ scope_after_all scope (map (simple_numbered ns) init) = sym (scope_all scope init) in (
          simples_scoped c scope init h.0,
          subst (λ x. IsConditionScoped c x e) same h.1,
          subst (λ x. IsStepScoped c x (option_map (simple_numbered ns) step)) same (step_scoped c inner step h.2),
          subst (λ x. IsStmtScoped c true x (stmt_numbered ns s)) same (stmt_scoped c true inner s h.3),
        )
    stmt_scoped c loop scope (Return v) h = return_scoped c scope v h
    stmt_scoped c loop scope _ h = h

    stmts_scoped : (c : Context) (loop : Bool) (scope : List ℕ) (ss : StmtTrees) → AreStmtsScoped c loop scope ss → AreStmtsScoped c loop scope (stmts_numbered ns ss)
    stmts_scoped c loop scope NoStmts h = tt
    stmts_scoped c loop scope (Then s ss) h = (stmt_scoped c loop scope s h.0, subst (λ x. AreStmtsScoped c loop x (stmts_numbered ns ss)) (sym (scope_kept scope s)) (stmts_scoped c loop (scope_after scope s) ss h.1))

  -- ---- functions and programs

  same_signatures : (fs : List FunctionTree) → map signature_of (map (function_numbered ns) fs) ≡ map signature_of fs
  same_signatures [] = refl
  same_signatures (f ∷ fs) = ap (λ ss. signature_of f ∷ ss) (same_signatures fs)

  same_context : (p : ProgramTree) (f : FunctionTree) → context_of (numbered ns p) (function_numbered ns f) ≡ context_of p f
  same_context p f = ap (λ (ss : List Signature). record (context_of p f) { signatures = ss }) (same_signatures p.functions)

  function_scoped : (p : ProgramTree) (f : FunctionTree) → IsFunctionScoped p f → IsFunctionScoped (numbered ns p) (function_numbered ns f)
  function_scoped p f h = record {
    params = h.params;
    sizes = h.sizes ∙ ap (λ (ds : List Declared). scalars f.params ++ map (λ d. d.words) ds) (sym (stmts_named f.body));
    order = subst (λ (ds : List Declared). counting f.params (map (λ d. d.variable) ds)) (sym (stmts_named f.body)) h.order;
    words = subst (λ (ds : List Declared). sum (map (λ d. d.words) ds) ≤ 4096) (sym (stmts_named f.body)) h.words;
    temporaries = let P : ℕ → Type 0 = λ n. max (if f.gives then 1 else 0) n ≤ 65536 in subst P (sym (stmts_taken f.body)) h.temporaries;
    body = subst (λ c. AreStmtsScoped c false (below f.params) (stmts_numbered ns f.body)) (sym (same_context p f)) (stmts_scoped (context_of p f) false (below f.params) f.body h.body);
  }

  functions_scoped : (p : ProgramTree) (fs : List FunctionTree) → AreFunctionsScoped p fs → AreFunctionsScoped (numbered ns p) (map (function_numbered ns) fs)
  functions_scoped p [] h = tt
  functions_scoped p (f ∷ fs) h = (function_scoped p f h.0, functions_scoped p fs h.1)

-- ---- the numbers of a table, looked up in its order

at_length : (before : List ℕ) (n : ℕ) (ns : List ℕ) (d : ℕ) → slice_index_or (before ++ n ∷ ns) (length before) d ≡ n
at_length [] n ns d = refl
at_length (m ∷ before) n ns d = at_length before n ns d

looked_up : (before ns : List ℕ) (ks : List Site) → counting (length before) (numbers ks) → length ns ≡ length ks → numbers (map (site_numbered (before ++ ns)) ks) ≡ ns
looked_up before [] [] c e = refl
looked_up before (n ∷ ns) (k ∷ ks) c e =
    let longer : length (before ++ n ∷ []) ≡ 1 + length before = let l = length-append before (n ∷ []) in omega (arith, l) in
    let first : number_at (before ++ n ∷ ns) k.number ≡ n = ap (λ m. slice_index_or (before ++ n ∷ ns) m m) c.0 ∙ at_length before n ns (length before) in
    let same : (before ++ n ∷ []) ++ ns ≡ before ++ n ∷ ns = append_assoc before (n ∷ []) ns in
    let rest : numbers (map (site_numbered ((before ++ n ∷ []) ++ ns)) ks) ≡ ns = looked_up (before ++ n ∷ []) ns ks (subst (λ m. counting m (numbers ks)) (sym longer) c.1) (omega (arith, e)) in
    let there : numbers (map (site_numbered (before ++ n ∷ ns)) ks) ≡ ns = subst (λ xs. numbers (map (site_numbered xs) ks) ≡ ns) same rest in
    (λ i. first i ∷ there i)
looked_up before _ _ c e = cc

pub renumbered : (ns : List ℕ) (p : ProgramTree) → counting 0 (numbers (program_sites p)) → length ns ≡ length (program_sites p) → numbers (program_sites (numbered ns p)) ≡ ns
renumbered ns p c e = ap numbers (functions_renumbered ns p.functions) ∙ looked_up [] ns (program_sites p) c e

same_count : (ns : List ℕ) (p : ProgramTree) → length (program_sites (numbered ns p)) ≡ length (program_sites p)
same_count ns p = ap length (functions_renumbered ns p.functions) ∙ length-map (program_sites p) (site_numbered ns)

pub well_numbered : (ns : List ℕ) (p : ProgramTree) → IsWellScoped p → counting 0 (numbers (program_sites p)) → AreSiteNumbers ns → length ns ≡ length (program_sites p) → IsWellScoped (numbered ns p)
well_numbered ns p h c a e =
    let same = same_signatures ns p.functions in
    let many = length-map p.functions (function_numbered ns) in
    record {
      bodies = functions_scoped ns p p.functions h.bodies;
      functions = rw many h.functions;
      main_defined = rw many h.main_defined;
      main_params = subst (λ (ss : List Signature). (signature_at ss p.main).params ≡ 0) (sym same) h.main_params;
      site_numbers = subst AreSiteNumbers (sym (renumbered ns p c e)) a;
      sites = subst (λ n. n ≤ 65535) (sym (same_count ns p)) h.sites;
      global_sizes = h.global_sizes;
      global_words = h.global_words;
      tables = subst (λ (ss : List Signature). AllByRecursion (IsTable ss) p.tables) (sym same) h.tables;
      table_members = h.table_members;
    }
