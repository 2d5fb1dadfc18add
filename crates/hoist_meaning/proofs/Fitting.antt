-- Of a well-scoped program each call that the first item of a thread makes has as many arguments as what it calls has parameters, and each
-- thread that it starts runs a function of one.
use Rattle.hoist_meaning.proofs.Common.{ℕ, zero, suc, ◌<◌, ◌≡◌, refl, sym, subst, ◌∙◌, Bool, true, false, List, [], ◌∷◌, ◌++◌, length, map, Option, Some, None, arith, Result, Ok, Err, nat_lt, slice_index, slice_index_or, Contains, AllByRecursion, Call, Immediate, call_of, call_with, Goes, Asks, Ask, TrapKind, number_of, ModelledCall, simple_names, CallTree, CallFunction, CallTable, CallSpawn, CallModelled, RightTree, Computed, Called, SimpleTree, DeclareWith, SetLocal, SetGlobal, SetLocalElement, SetGlobalElement, Calling, StmtTree, StmtTrees, Do, Block, If, IfElse, While, For, Return, NoStmts, Then, FunctionTree, ProgramTree, signature_of, Context, context_of, with_names, scope_after, scope_after_all, IsCallScoped, IsRightScoped, IsSimpleScoped, AreSimplesScoped, IsStepScoped, IsReturnScoped, IsStmtScoped, AreStmtsScoped, AreFunctionsScoped, IsWellScoped, Item, Simply, Choose, Test, Enter, Back, GiveBack, GiveBackWord, WhileLoop, ForLoop, step_item, all_before, turn_before, Place, Nowhere, InLocal, InGlobal, InLocalElement, InGlobalElement, Returned, WaitingFrame, Running, Waiting, function_at, Target, ToNowhere, ToLocal, ToGlobal, ToLocalElement, ToGlobalElement, ToCaller, CallInText, right_calls, simple_calls, simples_calls, step_calls, returned_calls, stmt_calls, stmts_calls, function_calls, SourceMove, to_do, on_value, valued, all_valued, stored, assigned, entered_where, asks_if, called, assigns, does, branched, returned, gives_back, performs_first, source_step, Stands, less}
use Rattle.c_tree.specs.Sizes.{below}
use Rattle.cap_word.specs.Signatures.{signature_at, IsMember, IsTable}
use Rattle.c_mean.proofs.CallLemmas.{each_made}
use Rattle.c_mean.proofs.TextLemmas.{AllIn, IsRest}
use Rattle.hoist_meaning.proofs.Frames.{right_call, simple_call, returned_call, first_call}

abbrev no_function : FunctionTree
no_function = record { name = []; params = 0; gives = false; sizes = []; body = NoStmts }

signature_is : (fs : List FunctionTree) (g : ℕ) → (signature_at (map signature_of fs) g).params ≡ (slice_index_or fs g no_function).params
signature_is (f ∷ fs) (suc g) = signature_is fs g
signature_is _ _ = refl

module _ (program : ProgramTree) where
  abbrev pub Fits : CallTree → Type 0
  Fits (CallFunction k g es) = length es ≡ (function_at program g).params
  Fits (CallTable k t i e) = (index : ℕ) → nat_lt index (length (slice_index_or program.tables t [])) ≡ true → 1 ≡ (function_at program (slice_index (slice_index_or program.tables t []) index)).params
  Fits (CallSpawn k g e) = 1 ≡ (function_at program g).params
  Fits (CallModelled k m es) = Unit {0}

  abbrev AllFit : List CallInText → Type 0
  AllFit [] = Unit {0}
  AllFit (call ∷ calls) = Fits call.call × AllFit calls

  both_fit : (xs ys : List CallInText) → AllFit xs → AllFit ys → AllFit (xs ++ ys)
  both_fit [] ys h k = k
  both_fit (x ∷ xs) ys h k = (h.0, both_fit xs ys h.1 k)

  fit_at : (calls : List CallInText) (k : ℕ) (call : CallInText) → AllFit calls → k < length calls → slice_index_or calls k call ≡ call → Fits call.call
  fit_at [] k call h lt e = absurd (omega arith)
  fit_at (first ∷ calls) zero call h lt e = subst (λ (c : CallInText). Fits c.call) e h.0
  fit_at (first ∷ calls) (suc k) call h lt e = fit_at calls k call h.1 (omega arith) e

  -- ---- the members of tables

  member_fits : (members : List ℕ) (index : ℕ) → AllByRecursion (IsMember (map signature_of program.functions)) members → index < length members → 1 ≡ (function_at program (slice_index members index)).params
  member_fits [] index h e = absurd (omega (arith, e))
  member_fits (m ∷ members) zero h e = sym h.0.1 ∙ signature_is program.functions m
  member_fits (m ∷ members) (suc index) h e = member_fits members index h.1 (omega (arith, e))

  table_fits : (tables : List (List ℕ)) (t index : ℕ) → AllByRecursion (IsTable (map signature_of program.functions)) tables → index < length (slice_index_or tables t []) → 1 ≡ (function_at program (slice_index (slice_index_or tables t []) index)).params
  table_fits [] t index h e = absurd (omega (arith, e))
  table_fits (row ∷ tables) zero index h e = member_fits row index h.0.1 e
  table_fits (row ∷ tables) (suc t) index h e = table_fits tables t index h.1 e

  module _ (whole : IsWellScoped program) where
    module _ (f : FunctionTree) where
      abbrev c : Context
      c = context_of program f

      call_fits : (call : CallTree) (scope : List ℕ) → IsCallScoped c scope call → Fits call
      call_fits (CallFunction k g es) scope h = h.1 ∙ signature_is program.functions g
      call_fits (CallTable k t i e) scope h = λ index within. table_fits program.tables t index whole.tables (less index (length (slice_index_or program.tables t [])) within)
      call_fits (CallSpawn k g e) scope h = sym h.1 ∙ signature_is program.functions g
      call_fits (CallModelled k m es) scope h = tt

      right_fits : (v : RightTree) (target : Target) (scope there : List ℕ) (rest : List Item) → IsRightScoped c scope v → AllFit (right_calls v target there rest)
      right_fits (Computed e) target scope there rest h = tt
      right_fits (Called call) target scope there rest h = (call_fits call scope h.0, tt)

      simple_fits : (s : SimpleTree) (scope there : List ℕ) (rest : List Item) → IsSimpleScoped c scope s → AllFit (simple_calls s there rest)
      simple_fits (DeclareWith x v) scope there rest h = right_fits v (ToLocal x) scope there rest h.2
      simple_fits (SetLocal x v) scope there rest h = right_fits v (ToLocal x) scope there rest h.3
      simple_fits (SetGlobal g v) scope there rest h = right_fits v (ToGlobal g) scope there rest h.2
      simple_fits (SetLocalElement a i v) scope there rest h = right_fits v (ToLocalElement a) scope there rest h.3
      simple_fits (SetGlobalElement a i v) scope there rest h = right_fits v (ToGlobalElement a) scope there rest h.2
      simple_fits (Calling call) scope there rest h = (call_fits call scope h, tt)
      simple_fits _ scope there rest h = tt

      simples_fit : (ss : List SimpleTree) (scope there : List ℕ) (rest : List Item) → AreSimplesScoped c scope ss → AllFit (simples_calls ss there rest)
      simples_fit [] scope there rest h = tt
      simples_fit (s ∷ ss) scope there rest h =
          both_fit (simple_calls s there (map Simply ss ++ rest)) (simples_calls ss (with_names there (simple_names s)) rest) (simple_fits s scope there (map Simply ss ++ rest) h.0)
          (simples_fit ss (with_names scope (simple_names s)) (with_names there (simple_names s)) rest h.1)

      step_fits : (step : Option SimpleTree) (scope there : List ℕ) (rest : List Item) → IsStepScoped c scope step → AllFit (step_calls step there rest)
      step_fits None scope there rest h = tt
      step_fits (Some s) scope there rest h = simple_fits s scope there rest h.1

      returned_fits : (v : Option RightTree) (scope there : List ℕ) (rest : List Item) → IsReturnScoped c scope v → AllFit (returned_calls v there rest)
      returned_fits None scope there rest h = tt
      returned_fits (Some v) scope there rest h = right_fits v ToCaller scope there rest h.1

      mutual
        stmt_fits : (s : StmtTree) (loop : Bool) (scope there : List ℕ) (rest : List Item) → IsStmtScoped c loop scope s → AllFit (stmt_calls s there rest)
        stmt_fits (Do s) loop scope there rest h = simple_fits s scope there rest h
        stmt_fits (Block ss) loop scope there rest h = stmts_fit ss loop scope there rest h
        stmt_fits (If e s) loop scope there rest h = stmt_fits s loop scope there rest h.1
        stmt_fits (IfElse e s r) loop scope there rest h = both_fit (stmt_calls s there rest) (stmt_calls r there rest) (stmt_fits s loop scope there rest h.1) (stmt_fits r loop scope there rest h.2)
        stmt_fits (While e s) loop scope there rest h = stmt_fits s true scope there (Back (WhileLoop e s) ∷ rest) h.1
        stmt_fits (For init e step s) loop scope there rest h =
            let back : List Item = Back (ForLoop e step s) ∷ rest in
            both_fit (simples_calls init there (turn_before (ForLoop e step s) rest)) (step_calls step (scope_after_all there init) back ++ stmt_calls s (scope_after_all there init) (step_item step ++ back))
            (simples_fit init scope there (turn_before (ForLoop e step s) rest) h.0)
            (both_fit (step_calls step (scope_after_all there init) back) (stmt_calls s (scope_after_all there init) (step_item step ++ back))
            (step_fits step (scope_after_all scope init) (scope_after_all there init) back h.2) (stmt_fits s true (scope_after_all scope init) (scope_after_all there init) (step_item step ++ back) h.3))
        stmt_fits (Return v) loop scope there rest h = returned_fits v scope there rest h
        stmt_fits _ loop scope there rest h = tt

        stmts_fit : (ss : StmtTrees) (loop : Bool) (scope there : List ℕ) (rest : List Item) → AreStmtsScoped c loop scope ss → AllFit (stmts_calls ss there rest)
        stmts_fit NoStmts loop scope there rest h = tt
        stmts_fit (Then s ss) loop scope there rest h =
            both_fit (stmt_calls s there (all_before ss rest)) (stmts_calls ss (scope_after there s) rest) (stmt_fits s loop scope there (all_before ss rest) h.0) (stmts_fit ss loop (scope_after scope s) (scope_after there s) rest h.1)

    functions_fit : (fs : List FunctionTree) (g : ℕ) → AreFunctionsScoped program fs → AllFit (function_calls (slice_index_or fs g no_function))
    functions_fit [] g h = tt
    functions_fit (f ∷ fs) zero h = stmts_fit f f.body false (below f.params) (below f.params) [] h.0.body
    functions_fit (f ∷ fs) (suc g) h = functions_fit fs g h.1

    in_text_fits : (g : ℕ) (call : CallInText) → Contains (function_calls (function_at program g)) call → Fits call.call
    in_text_fits g call h = fit_at (function_calls (function_at program g)) h.0 call (functions_fit program.functions g whole.bodies) h.1 h.2

    -- ---- the call of the first item

    right_made : (g : ℕ) (v : RightTree) (target : Target) (scope : List ℕ) (rest : List Item) (made : CallTree) → AllIn (function_calls (function_at program g)) (right_calls v target scope rest) → right_call v ≡ Some made → Fits made
    right_made g (Computed e) target scope rest made h k = absurd cc
    right_made g (Called call) target scope rest made h k =
        let same : call ≡ made = cc in subst Fits same (in_text_fits g (record { call = call; target = target; scope = scope; rest = rest }) h.0)

    simple_made : (g : ℕ) (s : SimpleTree) (scope : List ℕ) (rest : List Item) (made : CallTree) → AllIn (function_calls (function_at program g)) (simple_calls s scope rest) → simple_call s ≡ Some made → Fits made
    simple_made g (DeclareWith x v) scope rest made h k = right_made g v (ToLocal x) scope rest made h k
    simple_made g (SetLocal x v) scope rest made h k = right_made g v (ToLocal x) scope rest made h k
    simple_made g (SetGlobal x v) scope rest made h k = right_made g v (ToGlobal x) scope rest made h k
    simple_made g (SetLocalElement x i v) scope rest made h k = right_made g v (ToLocalElement x) scope rest made h k
    simple_made g (SetGlobalElement x i v) scope rest made h k = right_made g v (ToGlobalElement x) scope rest made h k
    simple_made g (Calling call) scope rest made h k = right_made g (Called call) ToNowhere scope rest made h k
    simple_made g _ scope rest made h k = absurd cc

    returned_made : (g : ℕ) (v : Option RightTree) (scope : List ℕ) (rest : List Item) (made : CallTree) → AllIn (function_calls (function_at program g)) (returned_calls v scope rest) → returned_call v ≡ Some made → Fits made
    returned_made g None scope rest made h k = absurd cc
    returned_made g (Some v) scope rest made h k = right_made g v ToCaller scope rest made h k

    first_made : (g : ℕ) (items : List Item) (made : CallTree) → IsRest (function_calls (function_at program g)) items → first_call items ≡ Some made → Fits made
    first_made g (Simply s ∷ rest) made h k = simple_made g s h.0.0 rest made h.0.1 k
    first_made g (GiveBack v ∷ rest) made h k = returned_made g v h.0.0 rest made h.0.1 k
    first_made g _ made h k = absurd cc

    pub first_fits : (s : Running) (made : CallTree) → Stands program s → first_call s.frame.to_do ≡ Some made → Fits made
    first_fits s made h k = first_made s.frame.function s.frame.to_do made h.running k

    pub main_fits : 0 ≡ (function_at program program.main).params
    main_fits = sym whole.main_params ∙ signature_is program.functions program.main

    -- ---- a thread that is started

    abbrev IsStarted : Call → Type 0
    IsStarted (Immediate (Ask.Spawn f argument)) = 1 ≡ (function_at program f).params
    IsStarted _ = Unit {0}

    abbrev IsOption : Option Call → Type 0
    IsOption None = Unit {0}
    IsOption (Some call) = IsStarted call

    abbrev StartsFit : SourceMove → Type 0
    StartsFit (Asks question waiting) = IsStarted question.call
    StartsFit _ = Unit {0}

    modelled_starts : (call : ModelledCall) (a b : ℕ) → IsStarted (call_with call a b)
    modelled_starts ModelledCall.Accept a b = tt
    modelled_starts _ a b = tt

    call_of_fits : (number : ℕ) (arguments : List ℕ) → IsOption (call_of number arguments)
    call_of_fits number arguments = each_made IsOption tt modelled_starts number arguments

    value_starts : {A : Type 0} (thread : Running) (result : Result A TrapKind) (use_it : A → SourceMove) → ((a : A) → StartsFit (use_it a)) → StartsFit (on_value thread result use_it)
    value_starts thread (Ok a) use_it h = h a
    value_starts thread (Err trap) use_it h = tt

    asks_starts : (thread : Running) (site : ℕ) (place : Place) (call : Option Call) → IsOption call → StartsFit (asks_if thread site place call)
    asks_starts thread site place None h = tt
    asks_starts thread site place (Some call) h = h

    where_starts : (within : Bool) (thread : Running) (site : ℕ) (place : Place) (f argument : ℕ) → StartsFit (entered_where within program thread site place f argument)
    where_starts true thread site place f argument = tt
    where_starts false thread site place f argument = tt

    called_starts : (thread : Running) (place : Place) (call : CallTree) → Fits call → StartsFit (called program thread place call)
    called_starts thread place (CallFunction site f es) h = value_starts thread (all_valued thread es) _ (λ arguments. tt)
    called_starts thread place (CallTable site t i e) h = value_starts thread (valued thread i) _ (λ index. value_starts thread (valued thread e) _ (λ argument. where_starts _ thread site place _ argument))
    called_starts thread place (CallSpawn site f e) h = value_starts thread (valued thread e) _ (λ argument. h)
    called_starts thread place (CallModelled site m es) h = value_starts thread (all_valued thread es) _ (λ arguments. asks_starts thread site place (call_of (number_of m) arguments) (call_of_fits (number_of m) arguments))

    right_starts : (thread : Running) (place : Place) (v : RightTree) → ((made : CallTree) → right_call v ≡ Some made → Fits made) → StartsFit (assigns program thread place v)
    right_starts thread place (Computed e) h = value_starts thread (valued thread e) (assigned thread place) (λ word. value_starts thread (stored thread place word) Goes (λ after. tt))
    right_starts thread place (Called call) h = called_starts thread place call (h call refl)

    does_starts : (thread : Running) (s : SimpleTree) → ((made : CallTree) → simple_call s ≡ Some made → Fits made) → StartsFit (does program thread s)
    does_starts thread (DeclareWith x v) h = right_starts thread (InLocal x) v h
    does_starts thread (SetLocal x v) h = right_starts thread (InLocal x) v h
    does_starts thread (SetGlobal g v) h = right_starts thread (InGlobal g) v h
    does_starts thread (SetLocalElement a i v) h = value_starts thread (valued thread i) _ (λ index. right_starts thread (InLocalElement a index) v h)
    does_starts thread (SetGlobalElement a i v) h = value_starts thread (valued thread i) _ (λ index. right_starts thread (InGlobalElement a index) v h)
    does_starts thread (Calling call) h = called_starts thread Nowhere call (h call refl)
    does_starts thread _ h = tt

    branch_starts : (thread : Running) (first second : List Item) (word : ℕ) → StartsFit (branched thread first second word)
    branch_starts thread first second zero = tt
    branch_starts thread first second (suc word) = tt

    returned_starts : (thread : Running) (under : List WaitingFrame) (word : ℕ) → StartsFit (returned thread under word)
    returned_starts thread [] word = tt
    returned_starts thread (waiting ∷ under) word = tt

    gives_starts : (thread : Running) (v : Option RightTree) → ((made : CallTree) → returned_call v ≡ Some made → Fits made) → StartsFit (gives_back program thread v)
    gives_starts thread None h = returned_starts thread thread.below 0
    gives_starts thread (Some (Computed e)) h = value_starts thread (valued thread e) _ (λ word. returned_starts thread thread.below word)
    gives_starts thread (Some (Called call)) h = called_starts thread Returned call (h call refl)

    first_starts : (thread : Running) (items : List Item) → IsRest (function_calls (function_at program thread.frame.function)) items → StartsFit (performs_first program thread items)
    first_starts thread [] k = returned_starts thread thread.below 0
    first_starts thread (Enter ∷ rest) k = first_starts thread rest k.1
    first_starts thread (Simply s ∷ rest) k = does_starts (to_do thread rest) s (λ made e. first_made thread.frame.function (Simply s ∷ rest) made k e)
    first_starts thread (Choose c s r ∷ rest) k = value_starts (to_do thread rest) (valued (to_do thread rest) c) _ (λ word. branch_starts (to_do thread rest) _ _ word)
    first_starts thread (Test c loop ∷ rest) k = value_starts (to_do thread rest) (valued (to_do thread rest) c) _ (λ word. branch_starts (to_do thread rest) _ _ word)
    first_starts thread (GiveBack v ∷ rest) k = gives_starts (to_do thread rest) v (λ made e. first_made thread.frame.function (GiveBack v ∷ rest) made k e)
    first_starts thread (GiveBackWord word ∷ rest) k = returned_starts (to_do thread rest) thread.below word
    first_starts thread _ k = tt

    pub started_fits : (s : Running) (f argument : ℕ) (here : List (List ℕ)) (waiting : Waiting) → Stands program s → source_step program s ≡ Asks (record { call = Immediate (Ask.Spawn f argument); globals = here }) waiting → 1 ≡ (function_at program f).params
    started_fits s f argument here waiting h e = subst StartsFit e (first_starts s s.frame.to_do h.running)
