-- What a frame has still to do stands in the code: item by item, with jumps between them.
use Rattle.machine_meaning.proofs.Common.{◌≡◌, ℕ, ◌+◌, ◌≤◌, Bool, true, false, List, [], ◌∷◌, ◌++◌, map, Option, Some, None, refl, sym, subst, arith, IsTrue, max, eqb, ◌||◌, expr_temporaries, simple_temporaries, simples_temporaries, condition_temporaries, step_temporaries, returned_temporaries, stmt_temporaries, stmts_temporaries, Declared, simple_names, ExprTree, RightTree, SimpleTree, StmtTree, StmtTrees, Do, Empty, Block, If, IfElse, While, For, Break, Continue, Return, NoStmts, Then, Context, visible, with_names, scope_after, scope_after_all, IsExprScoped, IsSimpleScoped, AreSimplesScoped, IsConditionScoped, IsStepScoped, IsReturnScoped, IsStmtScoped, AreStmtsScoped, Item, Simply, Choose, Test, Enter, Back, Leave, Skip, GiveBack, Loop, WhileLoop, ForLoop, step_item, before, all_before, body_before, turn_before, after_leave, after_skip, skipped, CallInText, simple_calls, simples_calls, step_calls, returned_calls, stmt_calls, stmts_calls, AllIn, loop_calls, all_in_parts, Op}
use Rattle.c_mean.proofs.JumpLemmas.{leave_passes, skip_passes}
use Rattle.machine_meaning.proofs.InPlace.{ExprAt, SimpleAt, SimplesAt, StepAt, ReturnAt, StmtAt, StmtsAt, LoopAt, EndAt}

-- each name in the one scope is in the other
abbrev pub Within : List ℕ → List ℕ → Type 0
Within one other = (x : ℕ) → IsTrue (visible x one) → IsTrue (visible x other)

or_right : (a b : Bool) → IsTrue b → IsTrue (a || b)
or_right true b h = refl
or_right false b h = h

pub within_names : (ds : List Declared) (scope : List ℕ) → Within scope (with_names scope ds)
within_names [] scope x h = h
within_names (d ∷ ds) scope x h = within_names ds (d.variable ∷ scope) x (or_right (eqb x d.variable) (visible x scope) h)

pub within_after : (s : StmtTree) (scope : List ℕ) → Within scope (scope_after scope s)
within_after (Do s) scope x h = within_names (simple_names s) scope x h
within_after _ scope x h = h

pub within_all : (ss : List SimpleTree) (scope : List ℕ) → Within scope (scope_after_all scope ss)
within_all [] scope x h = h
within_all (s ∷ ss) scope x h = within_all ss (with_names scope (simple_names s)) x (within_names (simple_names s) scope x h)

abbrev pub LoopScoped : Context → List ℕ → Loop → Type 0
LoopScoped c scope (WhileLoop e s) = IsExprScoped c scope e × IsStmtScoped c true scope s
LoopScoped c scope (ForLoop e step s) = IsConditionScoped c scope e × IsStepScoped c scope step × IsStmtScoped c true scope s

abbrev pub loop_temporaries : Loop → ℕ
loop_temporaries (WhileLoop e s) = max (expr_temporaries e) (stmt_temporaries s)
loop_temporaries (ForLoop e step s) = max (condition_temporaries e) (max (step_temporaries step) (stmt_temporaries s))

module _ (fetch : ℕ → Option Op) (t : ℕ) (c : Context) (temps : ℕ) (text : List CallInText) where
  -- a loop stands from b on, is left to x, is well scoped, and its calls before a rest are of the text
  pub record LoopStands (loop : Loop) (b x : ℕ) (scope : List ℕ) (rest : List Item) : Type 0 where
    pub code : LoopAt fetch t loop b x
    pub scoped : LoopScoped c scope loop
    pub room : loop_temporaries loop ≤ temps
    pub calls : AllIn text (loop_calls loop scope rest)

  pub data Stands : List Item → ℕ → List ℕ → Type 0 where
    AtEnd : {p : ℕ} {scope : List ℕ} (end : EndAt fetch t c.gives p) → Stands [] p scope
    -- a jump leads to where it stands
    ByJump : {items : List Item} {p : ℕ} {scope : List ℕ} (q : ℕ) (jump : fetch p ≡ Some (Op.Jump q)) (then_ : Stands items q scope) → Stands items p scope
    -- it needs fewer names
    InFewer : {items : List Item} {p : ℕ} {scope : List ℕ} (fewer : List ℕ) (within : Within fewer scope) (there : Stands items p fewer) → Stands items p scope
    AtSimple : {s : SimpleTree} {rest : List Item} {p : ℕ} {scope : List ℕ} (q : ℕ) (code : SimpleAt fetch t p s q) (scoped : IsSimpleScoped c scope s) (room : simple_temporaries s ≤ temps)
        (calls : AllIn text (simple_calls s scope rest)) (then_ : Stands rest q (with_names scope (simple_names s))) → Stands (Simply s ∷ rest) p scope
    AtChoose : {e : ExprTree} {s r : StmtTree} {rest : List Item} {p : ℕ} {scope : List ℕ} (m z : ℕ) (code : ExprAt fetch p e t m) (test : fetch m ≡ Some (Op.JumpZero t z)) (scoped : IsExprScoped c scope e)
        (room : expr_temporaries e ≤ temps) (first : Stands (before s rest) (m + 1) scope) (second : Stands (before r rest) z scope) → Stands (Choose e s r ∷ rest) p scope
    AtWhile : {e : ExprTree} {s : StmtTree} {rest : List Item} {p : ℕ} {scope : List ℕ} (x : ℕ) (loop : LoopStands (WhileLoop e s) p x scope rest) (then_ : Stands rest x scope) → Stands (Test e (WhileLoop e s) ∷ rest) p scope
    AtFor : {e : ExprTree} {step : Option SimpleTree} {s : StmtTree} {rest : List Item} {p : ℕ} {scope : List ℕ} (x : ℕ) (loop : LoopStands (ForLoop (Some e) step s) p x scope rest) (then_ : Stands rest x scope)
        → Stands (Test e (ForLoop (Some e) step s) ∷ rest) p scope
    AtEnter : {items : List Item} {p : ℕ} {scope : List ℕ} (then_ : Stands items p scope) → Stands (Enter ∷ items) p scope
    AtBack : {loop' : Loop} {rest : List Item} {p : ℕ} {scope : List ℕ} (b x : ℕ) (jump : fetch p ≡ Some (Op.Jump b)) (loop : LoopStands loop' b x scope rest) (then_ : Stands rest x scope) → Stands (Back loop' ∷ rest) p scope
    AtLeave : {rest : List Item} {p : ℕ} {scope : List ℕ} (x : ℕ) (jump : fetch p ≡ Some (Op.Jump x)) (then_ : Stands (after_leave 0 rest) x scope) → Stands (Leave ∷ rest) p scope
    AtSkip : {rest : List Item} {p : ℕ} {scope : List ℕ} (x : ℕ) (jump : fetch p ≡ Some (Op.Jump x)) (then_ : Stands (after_skip 0 rest) x scope) → Stands (Skip ∷ rest) p scope
    AtReturn : {v : Option RightTree} {rest : List Item} {p : ℕ} {scope : List ℕ} (q : ℕ) (code : ReturnAt fetch t p v q) (scoped : IsReturnScoped c scope v) (room : returned_temporaries v ≤ temps)
        (calls : AllIn text (returned_calls v scope rest)) → Stands (GiveBack v ∷ rest) p scope

  -- where the jumps of a loop's body lead, if it is in a loop
  abbrev pub Exits : Bool → List Item → ℕ → ℕ → List ℕ → Type 0
  Exits true rest leave skip scope = Stands (after_leave 0 rest) leave scope × Stands (after_skip 0 rest) skip scope
  Exits false rest leave skip scope = Unit {0}

  pub exits_fewer : (loop : Bool) (rest : List Item) (leave skip : ℕ) (fewer scope : List ℕ) → Within fewer scope → Exits loop rest leave skip fewer → Exits loop rest leave skip scope
  exits_fewer true rest leave skip fewer scope w h = (InFewer fewer w h.0, InFewer fewer w h.1)
  exits_fewer false rest leave skip fewer scope w h = tt

  -- what stands before a rest has the same exits
  pub exits_before : (loop : Bool) (s : StmtTree) (rest : List Item) (leave skip : ℕ) (scope : List ℕ) → Exits loop rest leave skip scope → Exits loop (before s rest) leave skip scope
  exits_before true s rest leave skip scope h =
      (subst (λ items. Stands items leave scope) (sym (leave_passes 0 s rest)) h.0, subst (λ items. Stands items skip scope) (sym (skip_passes 0 s rest)) h.1)
  exits_before false s rest leave skip scope h = tt

  pub simples_stand : (ss : List SimpleTree) (p q : ℕ) (scope : List ℕ) (rest : List Item) → SimplesAt fetch t p ss q → AreSimplesScoped c scope ss → simples_temporaries ss ≤ temps → AllIn text (simples_calls ss scope rest)
      → Stands rest q (scope_after_all scope ss) → Stands (map Simply ss ++ rest) p scope
  simples_stand [] p q scope rest h s room calls k = subst (λ n. Stands rest n scope) h k
  simples_stand (s ∷ ss) p q scope rest h sc room calls k =
      let both = all_in_parts text (simple_calls s scope (map Simply ss ++ rest)) (simples_calls ss (with_names scope (simple_names s)) rest) calls in
      AtSimple h.0 h.1 sc.0 (omega arith) both.0 (simples_stand ss h.0 q (with_names scope (simple_names s)) rest h.2 sc.1 (omega arith) both.1 k)

  -- the step of a `for`, which declares nothing
  pub step_stands : (step : Option SimpleTree) (p q : ℕ) (scope : List ℕ) (rest : List Item) → StepAt fetch t p step q → IsStepScoped c scope step → step_temporaries step ≤ temps → AllIn text (step_calls step scope rest)
      → Stands rest q scope → Stands (step_item step ++ rest) p scope
  step_stands None p q scope rest h s room calls k = subst (λ n. Stands rest n scope) h k
  step_stands (Some s) p q scope rest h sc room calls k = AtSimple q h sc.1 room calls (InFewer scope (within_names (simple_names s) scope) k)

  -- from the end of a loop's body: its step and the jump back
  pub after_body : (step : Option SimpleTree) (e : Option ExprTree) (s : StmtTree) (n k b x : ℕ) (scope : List ℕ) (rest : List Item) → StepAt fetch t n step k → fetch k ≡ Some (Op.Jump b)
      → LoopStands (ForLoop e step s) b x scope rest → Stands rest x scope → Stands (step_item step ++ Back (ForLoop e step s) ∷ rest) n scope
  after_body step e s n k b x scope rest h j loop then_ =
      let both = all_in_parts text (step_calls step scope (Back (ForLoop e step s) ∷ rest)) (stmt_calls s scope (step_item step ++ Back (ForLoop e step s) ∷ rest)) loop.calls in
      let room = loop.room in
      step_stands step n k scope (Back (ForLoop e step s) ∷ rest) h loop.scoped.1 (omega arith) both.0 (AtBack b x j loop then_)

  pub leave_step : (step : Option SimpleTree) (loop : Loop) (rest : List Item) → after_leave 0 (step_item step ++ Back loop ∷ rest) ≡ rest
  leave_step None loop rest = refl
  leave_step (Some s) loop rest = refl

  pub skip_step : (step : Option SimpleTree) (loop : Loop) (rest : List Item) → after_skip 0 (step_item step ++ Back loop ∷ rest) ≡ skipped loop rest
  skip_step None loop rest = refl
  skip_step (Some s) loop rest = refl

  mutual
    pub before_stands : (s : StmtTree) (loop : Bool) (p q leave skip : ℕ) (scope : List ℕ) (rest : List Item) → StmtAt fetch t p s leave skip q → IsStmtScoped c loop scope s → stmt_temporaries s ≤ temps → AllIn text (stmt_calls s scope rest)
        → Stands rest q (scope_after scope s) → Exits loop rest leave skip scope → Stands (before s rest) p scope
    before_stands (Do s) loop p q leave skip scope rest h sc room calls k exits = AtSimple q h sc room calls k
    before_stands Empty loop p q leave skip scope rest h sc room calls k exits = subst (λ n. Stands rest n scope) h k
    before_stands (Block ss) loop p q leave skip scope rest h sc room calls k exits = all_before_stands ss loop p q leave skip scope rest h sc room calls k exits
    before_stands (If e s) loop p q leave skip scope rest h sc room calls k exits =
        AtChoose h.0 q h.1 h.2 sc.0 (omega arith)
        (before_stands s loop (h.0 + 1) q leave skip scope rest h.3 sc.1 (omega arith) calls (InFewer scope (within_after s scope) k) exits) k
    before_stands (IfElse e s r) loop p q leave skip scope rest h sc room calls k exits =
        let both = all_in_parts text (stmt_calls s scope rest) (stmt_calls r scope rest) calls in
        AtChoose h.0 h.2 h.3 h.4 sc.0 (omega arith)
        (before_stands s loop (h.0 + 1) h.1 leave skip scope rest h.5 sc.1 (omega arith) both.0 (ByJump q h.6 (InFewer scope (within_after s scope) k)) exits)
        (before_stands r loop h.2 q leave skip scope rest h.7 sc.2 (omega arith) both.1 (InFewer scope (within_after r scope) k) exits)
    before_stands (While e s) loop p q leave skip scope rest h sc room calls k exits =
        AtWhile q (record { code = h; scoped = sc; room = room; calls = calls }) k
    before_stands (For init (Some e) step s) loop p q leave skip scope rest h sc room calls k exits =
        let inner = scope_after_all scope init in
        let first = all_in_parts text (simples_calls init scope (turn_before (ForLoop (Some e) step s) rest)) (loop_calls (ForLoop (Some e) step s) inner rest) calls in
        simples_stand init p h.0 scope (Test e (ForLoop (Some e) step s) ∷ rest) h.1 sc.0 (omega arith) first.0
        (AtFor q (record { code = h.2; scoped = (sc.1, sc.2, sc.3); room = omega arith; calls = first.1 }) (InFewer scope (within_all init scope) k))
    before_stands (For init None step s) loop p q leave skip scope rest h sc room calls k exits =
        let inner = scope_after_all scope init in
        let first = all_in_parts text (simples_calls init scope (turn_before (ForLoop None step s) rest)) (loop_calls (ForLoop None step s) inner rest) calls in
        let stands : LoopStands (ForLoop None step s) h.0 q inner rest = record { code = h.2; scoped = (sc.1, sc.2, sc.3); room = omega arith; calls = first.1 } in
        let then_ : Stands rest q inner = InFewer scope (within_all init scope) k in
        let second = all_in_parts text (step_calls step inner (Back (ForLoop None step s) ∷ rest)) (stmt_calls s inner (step_item step ++ Back (ForLoop None step s) ∷ rest)) first.1 in
        let after : Stands (step_item step ++ Back (ForLoop None step s) ∷ rest) h.2.1 inner = after_body step None s h.2.1 h.2.2 h.0 q inner rest h.2.5 h.2.6 stands then_ in
        simples_stand init p h.0 scope (Enter ∷ before s (step_item step ++ Back (ForLoop None step s) ∷ rest)) h.1 sc.0 (omega arith) first.0
        (AtEnter (subst (λ n. Stands (before s (step_item step ++ Back (ForLoop None step s) ∷ rest)) n inner) h.2.3
        (before_stands s true h.2.0 h.2.1 q h.2.1 inner (step_item step ++ Back (ForLoop None step s) ∷ rest) h.2.4 sc.3 (omega arith) second.1
        (InFewer inner (within_after s inner) after)
        (subst (λ items. Stands items q inner) (sym (leave_step step (ForLoop None step s) rest)) then_, subst (λ items. Stands items h.2.1 inner) (sym (skip_step step (ForLoop None step s) rest)) after))))
    before_stands Break true p q leave skip scope rest h sc room calls k exits = AtLeave leave h exits.0
    before_stands Continue true p q leave skip scope rest h sc room calls k exits = AtSkip skip h exits.1
    before_stands (Return v) loop p q leave skip scope rest h sc room calls k exits = AtReturn q h sc room calls
    before_stands _ false p q leave skip scope rest h sc room calls k exits = absurd cc

    pub all_before_stands : (ss : StmtTrees) (loop : Bool) (p q leave skip : ℕ) (scope : List ℕ) (rest : List Item) → StmtsAt fetch t p ss leave skip q → AreStmtsScoped c loop scope ss → stmts_temporaries ss ≤ temps → AllIn text (stmts_calls ss scope rest)
        → Stands rest q scope → Exits loop rest leave skip scope → Stands (all_before ss rest) p scope
    all_before_stands NoStmts loop p q leave skip scope rest h sc room calls k exits = subst (λ n. Stands rest n scope) h k
    all_before_stands (Then s ss) loop p q leave skip scope rest h sc room calls k exits =
        let later = scope_after scope s in
        let both = all_in_parts text (stmt_calls s scope (all_before ss rest)) (stmts_calls ss later rest) calls in
        before_stands s loop p h.0 leave skip scope (all_before ss rest) h.1 sc.0 (omega arith) both.0
        (all_before_stands ss loop h.0 q leave skip later rest h.2 sc.1 (omega arith) both.1 (InFewer scope (within_after s scope) k) (exits_fewer loop rest leave skip scope later (within_after s scope) exits))
        (exits_before loop (Block ss) rest leave skip scope exits)

  -- ---- the body and the turns of a loop

  pub while_body_stands : (e : ExprTree) (s : StmtTree) (b x : ℕ) (scope : List ℕ) (rest : List Item) (h : LoopStands (WhileLoop e s) b x scope rest) → Stands rest x scope → Stands (body_before (WhileLoop e s) rest) (h.code.0 + 1) scope
  while_body_stands e s b x scope rest h k =
      let room = h.room in
      let back : Stands (Back (WhileLoop e s) ∷ rest) h.code.1 scope = AtBack b x h.code.5 h k in
      before_stands s true (h.code.0 + 1) h.code.1 x b scope (Back (WhileLoop e s) ∷ rest) h.code.4 h.scoped.1 (omega arith) h.calls (InFewer scope (within_after s scope) back) (k, AtWhile x h k)

  pub for_body_stands : (e : Option ExprTree) (step : Option SimpleTree) (s : StmtTree) (b x : ℕ) (scope : List ℕ) (rest : List Item) (h : LoopStands (ForLoop e step s) b x scope rest) → Stands rest x scope → Stands (body_before (ForLoop e step s) rest) h.code.0 scope
  for_body_stands e step s b x scope rest h k =
      let room = h.room in
      let loop = ForLoop e step s in
      let both = all_in_parts text (step_calls step scope (Back loop ∷ rest)) (stmt_calls s scope (step_item step ++ Back loop ∷ rest)) h.calls in
      let after : Stands (step_item step ++ Back loop ∷ rest) h.code.1 scope = after_body step e s h.code.1 h.code.2 b x scope rest h.code.5 h.code.6 h k in
      before_stands s true h.code.0 h.code.1 x h.code.1 scope (step_item step ++ Back loop ∷ rest) h.code.4 h.scoped.2 (omega arith) both.1
      (InFewer scope (within_after s scope) after)
      (subst (λ items. Stands items x scope) (sym (leave_step step loop rest)) k, subst (λ items. Stands items h.code.1 scope) (sym (skip_step step loop rest)) after)

  pub turn_stands : (loop : Loop) (b x : ℕ) (scope : List ℕ) (rest : List Item) → LoopStands loop b x scope rest → Stands rest x scope → Stands (turn_before loop rest) b scope
  turn_stands (WhileLoop e s) b x scope rest h k = AtWhile x h k
  turn_stands (ForLoop (Some e) step s) b x scope rest h k = AtFor x h k
  turn_stands (ForLoop None step s) b x scope rest h k =
      AtEnter (subst (λ n. Stands (body_before (ForLoop None step s) rest) n scope) h.code.3 (for_body_stands None step s b x scope rest h k))
