-- Each call of a function's text stands in its code, and after it what follows it there.
use Rattle.machine_meaning.proofs.Common.{◌≡◌, ℕ, zero, suc, ◌+◌, ◌<◌, ◌≤◌, Bool, true, List, [], ◌∷◌, ◌++◌, map, length, Option, Some, None, sym, ap, subst, arith, slice_index_or, Contains, simple_temporaries, simples_temporaries, step_temporaries, returned_temporaries, stmt_temporaries, stmts_temporaries, scalar, simple_names, CallTree, CallTable, RightTree, Computed, Called, SimpleTree, DeclareWith, SetLocal, SetGlobal, SetLocalElement, SetGlobalElement, Calling, StmtTree, StmtTrees, Do, Block, If, IfElse, While, For, Return, NoStmts, Then, Context, with_names, scope_after, scope_after_all, IsSimpleScoped, AreSimplesScoped, IsStmtScoped, AreStmtsScoped, Item, Simply, Back, WhileLoop, ForLoop, step_item, all_before, turn_before, AllIn, loop_calls, all_in_parts, Op, site_in, place_in}
use Rattle.c_mean.specs.Sites.{Target, ToNowhere, ToLocal, ToGlobal, ToLocalElement, ToGlobalElement, ToCaller, CallInText, right_calls, simple_calls, simples_calls, step_calls, returned_calls, stmt_calls, stmts_calls, site_of}
use Rattle.machine_meaning.proofs.InPlace.{CallAt, ResultAt, RightAt, SimpleAt, SimplesAt, StepAt, ReturnAt, StmtAt, StmtsAt, held}
use Rattle.machine_meaning.proofs.Stands.{within_names, within_after, within_all, Stands, ByJump, InFewer, AtWhile, AtBack, LoopStands, Exits, exits_fewer, exits_before, all_before_stands, simples_stand, after_body, leave_step, skip_step, turn_stands}
use Rattle.machine_meaning.proofs.Frames.{TargetScoped, HeldRoom}
use Rattle.machine_meaning.proofs.Items.{held_some}

module _ (fetch : ℕ → Option Op) (t : ℕ) (c : Context) (temps : ℕ) (text : List CallInText) where
  abbrev pub Rests : List Item → ℕ → List ℕ → Type 0
  Rests items p scope = Stands fetch t c temps text items p scope

  -- what follows a result, unless it goes back to the caller
  abbrev pub RestIs : Target → List Item → List ℕ → ℕ → Type 0
  RestIs (ToLocal x) items scope q = Rests items q (x ∷ scope)
  RestIs ToCaller items scope q = Unit {0}
  RestIs _ items scope q = Rests items q scope

  pub record CallStands (call : CallInText) : Type 0 where
    pub place : ℕ
    pub q : ℕ
    pub to : Option ℕ
    pub site : site_in (fetch place) ≡ Some (site_of call)
    pub wants : place_in (fetch place) ≡ to
    pub result : ResultAt fetch t call.target to place q
    pub target : TargetScoped c call.scope call.target
    pub rest : RestIs call.target call.rest call.scope q
    pub room : HeldRoom t call.target (t + temps)

  abbrev pub AllStand : List CallInText → Type 0
  AllStand [] = Unit {0}
  AllStand (call ∷ calls) = CallStands call × AllStand calls

  both_stand : (a b : List CallInText) → AllStand a → AllStand b → AllStand (a ++ b)
  both_stand [] b h k = k
  both_stand (call ∷ a) b h k = (h.0, both_stand a b h.1 k)

  call_stands : (call : CallTree) (target : Target) (scope : List ℕ) (rest : List Item) (p d m q : ℕ) (to : Option ℕ) → CallAt fetch p call d to m → ResultAt fetch t target to m q → TargetScoped c scope target → RestIs target rest scope q
      → HeldRoom t target (t + temps) → CallStands (record { call = call; target = target; scope = scope; rest = rest })
  call_stands (CallTable s f i e) target scope rest p d m q to h r ts k room = record { place = m; q = q; to = to; site = ap site_in h.3; wants = ap place_in h.3; result = r; target = ts; rest = k; room = room }
  call_stands _ target scope rest p d m q to h r ts k room = record { place = m; q = q; to = to; site = ap site_in h.1; wants = ap place_in h.1; result = r; target = ts; rest = k; room = room }

  right_stands : (v : RightTree) (target : Target) (scope : List ℕ) (rest : List Item) (p q : ℕ) → RightAt fetch t p v target q → TargetScoped c scope target → RestIs target rest scope q → HeldRoom t target (t + temps) → AllStand (right_calls v target scope rest)
  right_stands (Computed e) target scope rest p q h ts k room = tt
  right_stands (Called call) target scope rest p q h ts k room = (call_stands call target scope rest p (held fetch t target) h.0 q h.1 h.2 h.3 ts k room, tt)

  simple_stands : (s : SimpleTree) (scope : List ℕ) (rest : List Item) (p q : ℕ) → SimpleAt fetch t p s q → IsSimpleScoped c scope s → simple_temporaries s ≤ temps → Rests rest q (with_names scope (simple_names s)) → AllStand (simple_calls s scope rest)
  simple_stands (DeclareWith x v) scope rest p q h sc room k = right_stands v (ToLocal x) scope rest p q h (sc.0, sc.1) k tt
  simple_stands (SetLocal x v) scope rest p q h sc room k = right_stands v (ToLocal x) scope rest p q h (sc.0, sc.1) (InFewer scope (within_names (scalar x ∷ []) scope) k) tt
  simple_stands (SetGlobal g v) scope rest p q h sc room k = let some = held_some v in right_stands v (ToGlobal g) scope rest p q h tt k (omega arith)
  simple_stands (SetLocalElement a i v) scope rest p q h sc room k = let some = held_some v in right_stands v (ToLocalElement a) scope rest h.0 q h.2 (sc.0, sc.1) k (omega arith)
  simple_stands (SetGlobalElement a i v) scope rest p q h sc room k = let some = held_some v in right_stands v (ToGlobalElement a) scope rest h.0 q h.2 tt k (omega arith)
  simple_stands (Calling call) scope rest p q h sc room k = (call_stands call ToNowhere scope rest p t h.0 q h.1 h.2 h.3 tt k tt, tt)
  simple_stands _ scope rest p q h sc room k = tt

  simples_calls_stand : (ss : List SimpleTree) (scope : List ℕ) (rest : List Item) (p q : ℕ) → SimplesAt fetch t p ss q → AreSimplesScoped c scope ss → simples_temporaries ss ≤ temps → AllIn text (simples_calls ss scope rest) → Rests rest q (scope_after_all scope ss) → AllStand (simples_calls ss scope rest)
  simples_calls_stand [] scope rest p q h sc room calls k = tt
  simples_calls_stand (s ∷ ss) scope rest p q h sc room calls k =
      let later = with_names scope (simple_names s) in
      let both = all_in_parts text (simple_calls s scope (map Simply ss ++ rest)) (simples_calls ss later rest) calls in
      both_stand (simple_calls s scope (map Simply ss ++ rest)) (simples_calls ss later rest)
      (simple_stands s scope (map Simply ss ++ rest) p h.0 h.1 sc.0 (omega arith) (simples_stand fetch t c temps text ss h.0 q later rest h.2 sc.1 (omega arith) both.1 k))
      (simples_calls_stand ss later rest h.0 q h.2 sc.1 (omega arith) both.1 k)

  step_calls_stand : (step : Option SimpleTree) (scope : List ℕ) (rest : List Item) (p q : ℕ) → StepAt fetch t p step q → Rattle.c_tree.specs.WellScoped.IsStepScoped c scope step → step_temporaries step ≤ temps → Rests rest q scope → AllStand (step_calls step scope rest)
  step_calls_stand None scope rest p q h sc room k = tt
  step_calls_stand (Some s) scope rest p q h sc room k = simple_stands s scope rest p q h sc.1 room (InFewer scope (within_names (simple_names s) scope) k)

  return_stands : (v : Option RightTree) (scope : List ℕ) (rest : List Item) (p q : ℕ) → ReturnAt fetch t p v q → returned_temporaries v ≤ temps → AllStand (returned_calls v scope rest)
  return_stands None scope rest p q h room = tt
  return_stands (Some v) scope rest p q h room = let some = held_some v in right_stands v ToCaller scope rest p q h tt tt (omega arith)

  mutual
    stmt_calls_stand : (s : StmtTree) (loop : Bool) (p q leave skip : ℕ) (scope : List ℕ) (rest : List Item) → StmtAt fetch t p s leave skip q → IsStmtScoped c loop scope s → stmt_temporaries s ≤ temps → AllIn text (stmt_calls s scope rest)
        → Rests rest q (scope_after scope s) → Exits fetch t c temps text loop rest leave skip scope → AllStand (stmt_calls s scope rest)
    stmt_calls_stand (Do s) loop p q leave skip scope rest h sc room calls k exits = simple_stands s scope rest p q h sc room k
    stmt_calls_stand (Block ss) loop p q leave skip scope rest h sc room calls k exits = stmts_calls_stand ss loop p q leave skip scope rest h sc room calls k exits
    stmt_calls_stand (If e s) loop p q leave skip scope rest h sc room calls k exits =
        stmt_calls_stand s loop (h.0 + 1) q leave skip scope rest h.3 sc.1 (omega arith) calls (InFewer scope (within_after s scope) k) exits
    stmt_calls_stand (IfElse e s r) loop p q leave skip scope rest h sc room calls k exits =
        let both = all_in_parts text (stmt_calls s scope rest) (stmt_calls r scope rest) calls in
        both_stand (stmt_calls s scope rest) (stmt_calls r scope rest)
        (stmt_calls_stand s loop (h.0 + 1) h.1 leave skip scope rest h.5 sc.1 (omega arith) both.0 (ByJump q h.6 (InFewer scope (within_after s scope) k)) exits)
        (stmt_calls_stand r loop h.2 q leave skip scope rest h.7 sc.2 (omega arith) both.1 (InFewer scope (within_after r scope) k) exits)
    stmt_calls_stand (While e s) loop p q leave skip scope rest h sc room calls k exits =
        let stands : LoopStands fetch t c temps text (WhileLoop e s) p q scope rest = record { code = h; scoped = sc; room = room; calls = calls } in
        let back : Rests (Back (WhileLoop e s) ∷ rest) h.1 scope = AtBack p q h.5 stands k in
        stmt_calls_stand s true (h.0 + 1) h.1 q p scope (Back (WhileLoop e s) ∷ rest) h.4 sc.1 (omega arith) calls (InFewer scope (within_after s scope) back) (k, AtWhile q stands k)
    stmt_calls_stand (For init e step s) loop p q leave skip scope rest h sc room calls k exits =
        let l = ForLoop e step s in
        let inner = scope_after_all scope init in
        let first = all_in_parts text (simples_calls init scope (turn_before l rest)) (loop_calls l inner rest) calls in
        let stands : LoopStands fetch t c temps text l h.0 q inner rest = record { code = h.2; scoped = (sc.1, sc.2, sc.3); room = omega arith; calls = first.1 } in
        let then_ : Rests rest q inner = InFewer scope (within_all init scope) k in
        let second = all_in_parts text (step_calls step inner (Back l ∷ rest)) (stmt_calls s inner (step_item step ++ Back l ∷ rest)) first.1 in
        let back : Rests (Back l ∷ rest) h.2.2 inner = AtBack h.0 q h.2.6 stands then_ in
        let after : Rests (step_item step ++ Back l ∷ rest) h.2.1 inner = after_body fetch t c temps text step e s h.2.1 h.2.2 h.0 q inner rest h.2.5 h.2.6 stands then_ in
        both_stand (simples_calls init scope (turn_before l rest)) (step_calls step inner (Back l ∷ rest) ++ stmt_calls s inner (step_item step ++ Back l ∷ rest))
        (simples_calls_stand init scope (turn_before l rest) p h.0 h.1 sc.0 (omega arith) first.0 (turn_stands fetch t c temps text l h.0 q inner rest stands then_))
        (both_stand (step_calls step inner (Back l ∷ rest)) (stmt_calls s inner (step_item step ++ Back l ∷ rest))
        (step_calls_stand step inner (Back l ∷ rest) h.2.1 h.2.2 h.2.5 sc.2 (omega arith) back)
        (stmt_calls_stand s true h.2.0 h.2.1 q h.2.1 inner (step_item step ++ Back l ∷ rest) h.2.4 sc.3 (omega arith) second.1 (InFewer inner (within_after s inner) after)
        (subst (λ items. Rests items q inner) (sym (leave_step fetch t c temps text step l rest)) then_, subst (λ items. Rests items h.2.1 inner) (sym (skip_step fetch t c temps text step l rest)) after)))
    stmt_calls_stand (Return v) loop p q leave skip scope rest h sc room calls k exits = return_stands v scope rest p q h room
    stmt_calls_stand _ loop p q leave skip scope rest h sc room calls k exits = tt

    pub stmts_calls_stand : (ss : StmtTrees) (loop : Bool) (p q leave skip : ℕ) (scope : List ℕ) (rest : List Item) → StmtsAt fetch t p ss leave skip q → AreStmtsScoped c loop scope ss → stmts_temporaries ss ≤ temps → AllIn text (stmts_calls ss scope rest)
        → Rests rest q scope → Exits fetch t c temps text loop rest leave skip scope → AllStand (stmts_calls ss scope rest)
    stmts_calls_stand NoStmts loop p q leave skip scope rest h sc room calls k exits = tt
    stmts_calls_stand (Then s ss) loop p q leave skip scope rest h sc room calls k exits =
        let later = scope_after scope s in
        let both = all_in_parts text (stmt_calls s scope (all_before ss rest)) (stmts_calls ss later rest) calls in
        let grown : Rests rest q later = InFewer scope (within_after s scope) k in
        let out : Exits fetch t c temps text loop rest leave skip later = exits_fewer fetch t c temps text loop rest leave skip scope later (within_after s scope) exits in
        both_stand (stmt_calls s scope (all_before ss rest)) (stmts_calls ss later rest)
        (stmt_calls_stand s loop p h.0 leave skip scope (all_before ss rest) h.1 sc.0 (omega arith) both.0
        (all_before_stands fetch t c temps text ss loop h.0 q leave skip later rest h.2 sc.1 (omega arith) both.1 grown out)
        (exits_before fetch t c temps text loop (Block ss) rest leave skip scope exits))
        (stmts_calls_stand ss loop h.0 q leave skip later rest h.2 sc.1 (omega arith) both.1 grown out)

  stands_of : (calls : List CallInText) (k : ℕ) (call : CallInText) → AllStand calls → k < length calls → slice_index_or calls k call ≡ call → CallStands call
  stands_of [] k call h lt e = absurd (omega arith)
  stands_of (first ∷ calls) zero call h lt e = subst CallStands e h.0
  stands_of (first ∷ calls) (suc k) call h lt e = stands_of calls k call h.1 (omega arith) e

  pub contained_stands : (calls : List CallInText) (call : CallInText) → AllStand calls → Contains calls call → CallStands call
  contained_stands calls call h in_ = stands_of calls in_.0 call h in_.1 in_.2
