-- What a frame has still to do is always a rest of its function's text, so every frame that waits does so at a call of it.
use Rattle.c_mean.proofs.Common.{ℕ, zero, suc, List, [], ◌∷◌, ◌++◌, map, Option, Some, None, Contains, simple_names, with_names, scope_after, scope_after_all, Item, Simply, Choose, Test, Enter, Back, Leave, Skip, GiveBack, GiveBackWord, Fail, Loop, WhileLoop, ForLoop, step_item, begun, before, all_before, body_before, turn_before, after_leave, after_skip, skipped, Target, ToLocal, ToGlobal, ToLocalElement, ToGlobalElement, ToCaller, CallInText, right_calls, simple_calls, simples_calls, step_calls, returned_calls, stmt_calls, stmts_calls}
use Rattle.c_tree.specs.Trees.{ExprTree, RightTree, Computed, Called, SimpleTree, DeclareWith, SetLocal, SetGlobal, SetLocalElement, SetGlobalElement, Calling, StmtTree, StmtTrees, Do, Empty, Block, If, IfElse, While, For, Break, Continue, Return, NoStmts, Then}

-- each of these calls is one of the text
abbrev pub AllIn : List CallInText → List CallInText → Type 0
AllIn text [] = Unit {0}
AllIn text (call ∷ calls) = Contains text call × AllIn text calls

-- the calls of the turns of a loop
abbrev pub loop_calls : Loop → List ℕ → List Item → List CallInText
loop_calls (WhileLoop c s) scope rest = stmt_calls s scope (Back (WhileLoop c s) ∷ rest)
loop_calls (ForLoop c step s) scope rest = step_calls step scope (Back (ForLoop c step s) ∷ rest) ++ stmt_calls s scope (step_item step ++ Back (ForLoop c step s) ∷ rest)

module _ (text : List CallInText) where
  -- the calls of an item before a rest are of the text
  abbrev pub ItemIn : Item → List Item → Type 0
  ItemIn (Simply s) rest = (scope : List ℕ) × AllIn text (simple_calls s scope rest)
  ItemIn (Choose c s r) rest = (scope : List ℕ) × AllIn text (stmt_calls s scope rest) × AllIn text (stmt_calls r scope rest)
  ItemIn (Test c loop) rest = (scope : List ℕ) × AllIn text (loop_calls loop scope rest)
  ItemIn (Back loop) rest = (scope : List ℕ) × AllIn text (loop_calls loop scope rest)
  ItemIn (GiveBack v) rest = (scope : List ℕ) × AllIn text (returned_calls v scope rest)
  ItemIn _ rest = Unit {0}

  -- and those of all items
  abbrev pub IsRest : List Item → Type 0
  IsRest [] = Unit {0}
  IsRest (item ∷ rest) = ItemIn item rest × IsRest rest

  pub all_in_parts : (a b : List CallInText) → AllIn text (a ++ b) → AllIn text a × AllIn text b
  all_in_parts [] b h = (tt, h)
  all_in_parts (call ∷ a) b h = let rest = all_in_parts a b h.1 in ((h.0, rest.0), rest.1)

  simples_rest : (ss : List SimpleTree) (scope : List ℕ) (rest : List Item) → AllIn text (simples_calls ss scope rest) → IsRest rest → IsRest (map Simply ss ++ rest)
  simples_rest [] scope rest h k = k
  simples_rest (s ∷ ss) scope rest h k =
      let both = all_in_parts (simple_calls s scope (map Simply ss ++ rest)) (simples_calls ss (with_names scope (simple_names s)) rest) h in
      ((scope, both.0), simples_rest ss (with_names scope (simple_names s)) rest both.1 k)

  pub step_rest : (step : Option SimpleTree) (scope : List ℕ) (rest : List Item) → AllIn text (step_calls step scope rest) → IsRest rest → IsRest (step_item step ++ rest)
  step_rest None scope rest h k = k
  step_rest (Some s) scope rest h k = ((scope, h), k)

  begun_rest : (c : Option ExprTree) (loop : Loop) (scope : List ℕ) (body rest : List Item) → AllIn text (loop_calls loop scope rest) → IsRest body → IsRest rest → IsRest (begun c loop body rest)
  begun_rest None loop scope body rest h k r = (tt, k)
  begun_rest (Some c) loop scope body rest h k r = ((scope, h), r)

  mutual
    pub before_rest : (s : StmtTree) (scope : List ℕ) (rest : List Item) → AllIn text (stmt_calls s scope rest) → IsRest rest → IsRest (before s rest)
    before_rest Empty scope rest h k = k
    before_rest (Block ss) scope rest h k = all_before_rest ss scope rest h k
    before_rest (If c s) scope rest h k = ((scope, h, tt), k)
    before_rest (IfElse c s r) scope rest h k = let both = all_in_parts (stmt_calls s scope rest) (stmt_calls r scope rest) h in ((scope, both.0, both.1), k)
    before_rest (For init c step s) scope rest h k =
        let loop = ForLoop c step s in
        let inner = scope_after_all scope init in
        let first = all_in_parts (simples_calls init scope (turn_before loop rest)) (step_calls step inner (Back loop ∷ rest) ++ stmt_calls s inner (step_item step ++ Back loop ∷ rest)) h in
        let second = all_in_parts (step_calls step inner (Back loop ∷ rest)) (stmt_calls s inner (step_item step ++ Back loop ∷ rest)) first.1 in
        let back : IsRest (Back loop ∷ rest) = ((inner, first.1), k) in
        let body : IsRest (before s (step_item step ++ Back loop ∷ rest)) = before_rest s inner (step_item step ++ Back loop ∷ rest) second.1 (step_rest step inner (Back loop ∷ rest) second.0 back) in
        simples_rest init scope (turn_before loop rest) first.0 (begun_rest c loop inner (before s (step_item step ++ Back loop ∷ rest)) rest first.1 body k)
    before_rest Break scope rest h k = (tt, k)
    before_rest Continue scope rest h k = (tt, k)
    before_rest _ scope rest h k = ((scope, h), k)

    pub all_before_rest : (ss : StmtTrees) (scope : List ℕ) (rest : List Item) → AllIn text (stmts_calls ss scope rest) → IsRest rest → IsRest (all_before ss rest)
    all_before_rest NoStmts scope rest h k = k
    all_before_rest (Then s ss) scope rest h k =
        let both = all_in_parts (stmt_calls s scope (all_before ss rest)) (stmts_calls ss (scope_after scope s) rest) h in
        before_rest s scope (all_before ss rest) both.0 (all_before_rest ss (scope_after scope s) rest both.1 k)

  -- ---- the rest after each call of a statement is a rest of the text

  abbrev pub RestsIn : List CallInText → Type 0
  RestsIn [] = Unit {0}
  RestsIn (call ∷ calls) = IsRest call.rest × RestsIn calls

  rests_both : (a b : List CallInText) → RestsIn a → RestsIn b → RestsIn (a ++ b)
  rests_both [] b h k = k
  rests_both (call ∷ a) b h k = (h.0, rests_both a b h.1 k)

  right_rests : (v : RightTree) (target : Target) (scope : List ℕ) (rest : List Item) → IsRest rest → RestsIn (right_calls v target scope rest)
  right_rests (Computed e) target scope rest k = tt
  right_rests (Called call) target scope rest k = (k, tt)

  simple_rests : (s : SimpleTree) (scope : List ℕ) (rest : List Item) → IsRest rest → RestsIn (simple_calls s scope rest)
  simple_rests (DeclareWith x v) scope rest k = right_rests v (ToLocal x) scope rest k
  simple_rests (SetLocal x v) scope rest k = right_rests v (ToLocal x) scope rest k
  simple_rests (SetGlobal g v) scope rest k = right_rests v (ToGlobal g) scope rest k
  simple_rests (SetLocalElement a i v) scope rest k = right_rests v (ToLocalElement a) scope rest k
  simple_rests (SetGlobalElement a i v) scope rest k = right_rests v (ToGlobalElement a) scope rest k
  simple_rests (Calling call) scope rest k = (k, tt)
  simple_rests _ scope rest k = tt

  simples_rests : (ss : List SimpleTree) (scope : List ℕ) (rest : List Item) → AllIn text (simples_calls ss scope rest) → IsRest rest → RestsIn (simples_calls ss scope rest)
  simples_rests [] scope rest h k = tt
  simples_rests (s ∷ ss) scope rest h k =
      let later = with_names scope (simple_names s) in
      let both = all_in_parts (simple_calls s scope (map Simply ss ++ rest)) (simples_calls ss later rest) h in
      rests_both (simple_calls s scope (map Simply ss ++ rest)) (simples_calls ss later rest) (simple_rests s scope (map Simply ss ++ rest) (simples_rest ss later rest both.1 k)) (simples_rests ss later rest both.1 k)

  step_rests : (step : Option SimpleTree) (scope : List ℕ) (rest : List Item) → IsRest rest → RestsIn (step_calls step scope rest)
  step_rests None scope rest k = tt
  step_rests (Some s) scope rest k = simple_rests s scope rest k

  returned_rests : (v : Option RightTree) (scope : List ℕ) (rest : List Item) → IsRest rest → RestsIn (returned_calls v scope rest)
  returned_rests None scope rest k = tt
  returned_rests (Some v) scope rest k = right_rests v ToCaller scope rest k

  mutual
    stmt_rests : (s : StmtTree) (scope : List ℕ) (rest : List Item) → AllIn text (stmt_calls s scope rest) → IsRest rest → RestsIn (stmt_calls s scope rest)
    stmt_rests (Do s) scope rest h k = simple_rests s scope rest k
    stmt_rests (Block ss) scope rest h k = stmts_rests ss scope rest h k
    stmt_rests (If c s) scope rest h k = stmt_rests s scope rest h k
    stmt_rests (IfElse c s r) scope rest h k =
        let both = all_in_parts (stmt_calls s scope rest) (stmt_calls r scope rest) h in
        rests_both (stmt_calls s scope rest) (stmt_calls r scope rest) (stmt_rests s scope rest both.0 k) (stmt_rests r scope rest both.1 k)
    stmt_rests (While c s) scope rest h k = stmt_rests s scope (Back (WhileLoop c s) ∷ rest) h ((scope, h), k)
    stmt_rests (For init c step s) scope rest h k =
        let loop = ForLoop c step s in
        let inner = scope_after_all scope init in
        let first = all_in_parts (simples_calls init scope (turn_before loop rest)) (step_calls step inner (Back loop ∷ rest) ++ stmt_calls s inner (step_item step ++ Back loop ∷ rest)) h in
        let second = all_in_parts (step_calls step inner (Back loop ∷ rest)) (stmt_calls s inner (step_item step ++ Back loop ∷ rest)) first.1 in
        let back : IsRest (Back loop ∷ rest) = ((inner, first.1), k) in
        let after : IsRest (step_item step ++ Back loop ∷ rest) = step_rest step inner (Back loop ∷ rest) second.0 back in
        let body : IsRest (before s (step_item step ++ Back loop ∷ rest)) = before_rest s inner (step_item step ++ Back loop ∷ rest) second.1 after in
        let turn : IsRest (turn_before loop rest) = begun_rest c loop inner (before s (step_item step ++ Back loop ∷ rest)) rest first.1 body k in
        rests_both (simples_calls init scope (turn_before loop rest)) (step_calls step inner (Back loop ∷ rest) ++ stmt_calls s inner (step_item step ++ Back loop ∷ rest))
        (simples_rests init scope (turn_before loop rest) first.0 turn)
        (rests_both (step_calls step inner (Back loop ∷ rest)) (stmt_calls s inner (step_item step ++ Back loop ∷ rest)) (step_rests step inner (Back loop ∷ rest) back) (stmt_rests s inner (step_item step ++ Back loop ∷ rest) second.1 after))
    stmt_rests (Return v) scope rest h k = returned_rests v scope rest k
    stmt_rests _ scope rest h k = tt

    pub stmts_rests : (ss : StmtTrees) (scope : List ℕ) (rest : List Item) → AllIn text (stmts_calls ss scope rest) → IsRest rest → RestsIn (stmts_calls ss scope rest)
    stmts_rests NoStmts scope rest h k = tt
    stmts_rests (Then s ss) scope rest h k =
        let later = scope_after scope s in
        let both = all_in_parts (stmt_calls s scope (all_before ss rest)) (stmts_calls ss later rest) h in
        rests_both (stmt_calls s scope (all_before ss rest)) (stmts_calls ss later rest)
        (stmt_rests s scope (all_before ss rest) both.0 (all_before_rest ss later rest both.1 k))
        (stmts_rests ss later rest both.1 k)

  -- ---- the body and the turns of a loop

  pub body_rest : (loop : Loop) (scope : List ℕ) (rest : List Item) → AllIn text (loop_calls loop scope rest) → IsRest rest → IsRest (body_before loop rest)
  body_rest (WhileLoop c s) scope rest h k = before_rest s scope (Back (WhileLoop c s) ∷ rest) h ((scope, h), k)
  body_rest (ForLoop c step s) scope rest h k =
      let both = all_in_parts (step_calls step scope (Back (ForLoop c step s) ∷ rest)) (stmt_calls s scope (step_item step ++ Back (ForLoop c step s) ∷ rest)) h in
      before_rest s scope (step_item step ++ Back (ForLoop c step s) ∷ rest) both.1 (step_rest step scope (Back (ForLoop c step s) ∷ rest) both.0 ((scope, h), k))

  pub turn_rest : (loop : Loop) (scope : List ℕ) (rest : List Item) → AllIn text (loop_calls loop scope rest) → IsRest rest → IsRest (turn_before loop rest)
  turn_rest (WhileLoop c s) scope rest h k = ((scope, h), k)
  turn_rest (ForLoop c step s) scope rest h k = begun_rest c (ForLoop c step s) scope (body_before (ForLoop c step s) rest) rest h (body_rest (ForLoop c step s) scope rest h k) k

  pub leave_rest : (n : ℕ) (items : List Item) → IsRest items → IsRest (after_leave n items)
  leave_rest n [] h = tt
  leave_rest n (Enter ∷ rest) h = leave_rest (suc n) rest h.1
  leave_rest zero (Back loop ∷ rest) h = h.1
  leave_rest (suc n) (Back loop ∷ rest) h = leave_rest n rest h.1
  leave_rest n (Simply s ∷ rest) h = leave_rest n rest h.1
  leave_rest n (Choose c s r ∷ rest) h = leave_rest n rest h.1
  leave_rest n (Test c loop ∷ rest) h = leave_rest n rest h.1
  leave_rest n (Leave ∷ rest) h = leave_rest n rest h.1
  leave_rest n (Skip ∷ rest) h = leave_rest n rest h.1
  leave_rest n (GiveBack v ∷ rest) h = leave_rest n rest h.1
  leave_rest n (GiveBackWord word ∷ rest) h = leave_rest n rest h.1
  leave_rest n (Fail trap ∷ rest) h = leave_rest n rest h.1

  skipped_rest : (loop : Loop) (scope : List ℕ) (rest : List Item) → AllIn text (loop_calls loop scope rest) → IsRest rest → IsRest (skipped loop rest)
  skipped_rest (WhileLoop c s) scope rest h k = turn_rest (WhileLoop c s) scope rest h k
  skipped_rest (ForLoop c step s) scope rest h k =
      let both = all_in_parts (step_calls step scope (Back (ForLoop c step s) ∷ rest)) (stmt_calls s scope (step_item step ++ Back (ForLoop c step s) ∷ rest)) h in
      step_rest step scope (Back (ForLoop c step s) ∷ rest) both.0 ((scope, h), k)

  pub skip_rest : (n : ℕ) (items : List Item) → IsRest items → IsRest (after_skip n items)
  skip_rest n [] h = tt
  skip_rest n (Enter ∷ rest) h = skip_rest (suc n) rest h.1
  skip_rest zero (Back loop ∷ rest) h = skipped_rest loop h.0.0 rest h.0.1 h.1
  skip_rest (suc n) (Back loop ∷ rest) h = skip_rest n rest h.1
  skip_rest n (Simply s ∷ rest) h = skip_rest n rest h.1
  skip_rest n (Choose c s r ∷ rest) h = skip_rest n rest h.1
  skip_rest n (Test c loop ∷ rest) h = skip_rest n rest h.1
  skip_rest n (Leave ∷ rest) h = skip_rest n rest h.1
  skip_rest n (Skip ∷ rest) h = skip_rest n rest h.1
  skip_rest n (GiveBack v ∷ rest) h = skip_rest n rest h.1
  skip_rest n (GiveBackWord word ∷ rest) h = skip_rest n rest h.1
  skip_rest n (Fail trap ∷ rest) h = skip_rest n rest h.1
