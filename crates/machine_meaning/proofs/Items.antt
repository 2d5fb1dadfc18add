-- Each item that a frame has still to do is answered by the operations that stand for it.
use Rattle.machine_meaning.proofs.Common.{◌≡◌, ℕ, zero, suc, ◌+◌, ◌<◌, ◌≤◌, Bool, true, false, List, [], ◌∷◌, length, replicate, Option, Some, None, refl, sym, ap, ◌∙◌, subst, arith, set, max, slice_index, Result, Ok, Err, length-set, width, with_zeros, Goes, Stops, TrapKind, expr_temporaries, right_temporaries, held_temporaries, simple_temporaries, returned_temporaries, scalar, simple_names, ExprTree, RightTree, Computed, Called, SimpleTree, DeclareScalar, DeclareArray, DeclareWith, SetLocal, SetGlobal, SetLocalElement, SetGlobalElement, Calling, ProgramTree, IsExprScoped, IsRightScoped, IsSimpleScoped, IsReturnScoped, Place, Nowhere, InLocal, InGlobal, InLocalElement, InGlobalElement, Returned, WaitingFrame, Running, target_of, right_calls, simple_calls, returned_calls, function_calls, Item, WhileLoop, ForLoop, before, body_before, turn_before, after_leave, after_skip, AllIn, Op, FlatCode, operation_at, FlatFrame, FlatThread, Finished, returns, answered, flat_step, expr_takes_one}
use Rattle.c_mean.specs.Steps.{to_do, with_names, valued, on_value, stored, assigned, delivered, assigns, does, branched, returned, gives_back, performs_first}
use Rattle.machine_meaning.proofs.InPlace.{ExprAt, RightAt, SimpleAt, ReturnAt, EndAt, held}
use Rattle.machine_meaning.proofs.Silent.{Vars, put, Has, has_put, stays, step_is, on_has, const_leads, jump_leads}
use Rattle.machine_meaning.proofs.Expressions.{wide_at}
use Rattle.machine_meaning.proofs.Stands.{within_names, AtEnd, ByJump, InFewer, AtSimple, AtChoose, AtWhile, AtFor, AtEnter, AtBack, AtLeave, AtSkip, AtReturn, while_body_stands, for_body_stands, turn_stands}
use Rattle.machine_meaning.proofs.Rows.{reads_zeros, reads_fewer, wide_zeros}
use Rattle.machine_meaning.proofs.Frames.{after_base, fn, cx, base, temps, StandsIn, Lowers, Holds, holds_kept, Ready, AllWait, thread_of, Under, UnderWay, OneStep, store_step, ready_kept, delivers}
use Rattle.machine_meaning.proofs.LoweredSteps.{Answers, answers_later, goes_by, stops_by, value_answers, value_here, called_answers}

right_held : (v : RightTree) → right_temporaries v ≤ held_temporaries v
right_held (Computed e) = omega arith
right_held (Called c) = omega arith

pub held_some : (v : RightTree) → 1 ≤ held_temporaries v
held_some (Computed e) = expr_takes_one e
held_some (Called c) = omega arith

module _ (program : ProgramTree) (code : FlatCode) (given : Lowers program code) where
  -- a return to the frame below, or the thread's end
  pub returned_by : (thread : Running) (flat : FlatThread) (ws : List WaitingFrame) (gs : List FlatFrame) (word : ℕ) → flat.globals ≡ thread.globals → AllWait program code ws gs → flat_step code flat ≡ returns code flat gs word → Answers program code (returned thread ws word) flat
  returned_by thread flat [] [] word same all e = stops_by program code flat (record { trap = None; globals = thread.globals }) (e ∙ ap (λ (gs : List (List ℕ)). Stops (Finished (record { trap = None; globals = gs }))) same)
  returned_by thread flat (w ∷ ws) (g ∷ gs) word same all e =
      goes_by program code flat (record { frame = answered code g word; below = gs; globals = thread.globals }) (delivered w ws thread.globals word)
      (e ∙ ap (λ (gl : List (List ℕ)). Goes (record { frame = answered code g word; below = gs; globals = gl })) same) (delivers program code w ws g gs thread.globals word all.0 all.1)
  returned_by thread flat _ _ word same all e = absurd all

  module _ (thread : Running) (below : List FlatFrame) (waits : AllWait program code thread.below below) where
    abbrev f : ℕ
    f = thread.frame.function

    abbrev at : ℕ → Vars → FlatThread
    at p vars = thread_of program code thread p vars below

    abbrev fetch : ℕ → Option Op
    fetch p = operation_at code f p

    abbrev t : ℕ
    t = base program code f

    stored_answers : (flat : FlatThread) (result : Result Running TrapKind) → OneStep program code flat thread result → Answers program code (on_value thread result Goes) flat
    stored_answers flat (Ok after) o = goes_by program code flat o.0 after o.1 o.2
    stored_answers flat (Err trap) o = stops_by program code flat (record { trap = Some trap; globals = thread.globals }) o

    assigns_answers : (v : RightTree) (place : Place) (p q : ℕ) (vars : Vars) (scope : List ℕ) → RightAt fetch t p v (target_of place) q → IsRightScoped (cx program code f) scope v → held fetch t (target_of place) + right_temporaries v ≤ length vars
        → Ready program code thread.frame place vars scope q → AllIn (function_calls (fn program code f)) (right_calls v (target_of place) scope thread.frame.to_do) → (place ≡ Returned → ⊥) → Answers program code (assigns program thread place v) (at p vars)
    assigns_answers (Computed e) place p q vars scope h sc room ready calls stay =
        let d = held fetch t (target_of place) in
        value_answers program code thread below p h.0 d vars (valued thread e) (assigned thread place)
        (value_here program code thread below scope e p h.0 d vars h.1 sc (after_base fetch t (target_of place)) room ready.holds)
        (λ word after has kept. stored_answers (at h.0 after) (stored thread place word)
        (store_step program code thread below waits place h.0 q word after scope stay h.2 has (ready_kept program code thread below waits place q vars after scope kept ready)))
    assigns_answers (Called call) place p q vars scope h sc room ready calls stay =
        called_answers program code thread below given waits call place p h.0 q h.1 vars scope h.2 sc.0 room h.3 ready calls.0

    zero_is : (x : ℕ) → width thread.frame.names x ≡ 1 → ◌≡◌ {A = List ℕ} (replicate (width thread.frame.names x) 0) (0 ∷ [])
    zero_is x e = ap (λ (n : ℕ). replicate {A = ℕ} n 0) e

    -- a name's words and its variable's are 0
    zeros_under : (x p q : ℕ) (words : List ℕ) (vars : Vars) (scope : List ℕ) → replicate (width thread.frame.names x) 0 ≡ words → 1 ≤ width thread.frame.names x → x < t → q ≡ p + 1 → Holds program code f thread.frame.names vars scope → StandsIn program code f thread.frame.to_do q (x ∷ scope)
        → Under program code (with_names thread (with_zeros thread.frame.names x)) (at (p + 1) (set vars x (Some words)))
    zeros_under x p q words vars scope is some lt e holds stands =
        UnderWay (p + 1) (set vars x (Some words)) below (stays code (at (p + 1) (set vars x (Some words))))
        (record {
          scope = x ∷ scope;
          holds = record {
            defined = holds.defined;
            wide = wide_zeros (cx program code f) thread.frame.names x holds.wide;
            long = length-set vars x (Some words) ∙ holds.long;
            reads = subst (λ ws. Rattle.machine_meaning.proofs.Expressions.Reads (cx program code f) (x ∷ scope) (with_zeros thread.frame.names x) (set vars x (Some ws))) is
                (reads_zeros (cx program code f) scope thread.frame.names vars x some (omega (arith, holds.long)) holds.reads);
          };
          stands = subst (λ n. StandsIn program code f thread.frame.to_do n (x ∷ scope)) e stands;
        })
        waits

    simple_answers : (s : SimpleTree) (p q : ℕ) (vars : Vars) (scope : List ℕ) → SimpleAt fetch t p s q → IsSimpleScoped (cx program code f) scope s → t + simple_temporaries s ≤ length vars → Holds program code f thread.frame.names vars scope
        → AllIn (function_calls (fn program code f)) (simple_calls s scope thread.frame.to_do) → StandsIn program code f thread.frame.to_do q (Rattle.c_tree.specs.WellScoped.with_names scope (simple_names s)) → Answers program code (does program thread s) (at p vars)
    simple_answers (DeclareScalar x) p q vars scope h sc room holds calls stands =
        let one : width thread.frame.names x ≡ 1 = wide_at (cx program code f) thread.frame.names holds.wide x ∙ sc.1 in
        goes_by program code (at p vars) (at (p + 1) (put vars x 0)) (with_names thread (with_zeros thread.frame.names x)) (step_is code f below thread.globals p vars (Op.Const x 0) h.0)
        (zeros_under x p q (0 ∷ []) vars scope (zero_is x one) (omega arith) sc.0 h.1 holds stands)
    simple_answers (DeclareArray x n) p q vars scope h sc room holds calls stands =
        let here = given.functions f holds.defined in
        let words : List ℕ = replicate (slice_index (Rattle.flat_code.specs.Codes.function_at code f).sizes x) 0 in
        let is : replicate (width thread.frame.names x) 0 ≡ words = ap (λ (k : ℕ). replicate {A = ℕ} k 0) (wide_at (cx program code f) thread.frame.names holds.wide x ∙ sym (here.same x sc.0)) in
        goes_by program code (at p vars) (at (p + 1) (set vars x (Some words))) (with_names thread (with_zeros thread.frame.names x)) (step_is code f below thread.globals p vars (Op.Zero x) h.0)
        (zeros_under x p q words vars scope is (omega (arith, wide_at (cx program code f) thread.frame.names holds.wide x, sc.1, sc.2)) sc.0 h.1 holds stands)
    simple_answers (DeclareWith x v) p q vars scope h sc room holds calls stands =
        assigns_answers v (InLocal x) p q vars scope h sc.2 room (record { holds = holds; target = (sc.0, sc.1); index = tt; rest = stands; room = tt }) calls (λ e. cc)
    simple_answers (SetLocal x v) p q vars scope h sc room holds calls stands =
        assigns_answers v (InLocal x) p q vars scope h sc.3 room
        (record { holds = holds; target = (sc.0, sc.1); index = tt; rest = InFewer scope (within_names (scalar x ∷ []) scope) stands; room = tt }) calls (λ e. cc)
    simple_answers (SetGlobal g v) p q vars scope h sc room holds calls stands =
        let some = held_some v in
        let more = right_held v in
        assigns_answers v (InGlobal g) p q vars scope h sc.2 (omega arith) (record { holds = holds; target = tt; index = tt; rest = stands; room = omega arith }) calls (λ e. cc)
    simple_answers (SetLocalElement a i v) p q vars scope h sc room holds calls stands =
        let some = held_some v in
        let more = right_held v in
        value_answers program code thread below p h.0 t vars (valued thread i) (λ index. assigns program thread (InLocalElement a index) v)
        (value_here program code thread below scope i p h.0 t vars h.1 sc.2 (omega arith) (omega arith) holds)
        (λ index after has kept. assigns_answers v (InLocalElement a index) h.0 q after scope h.2 sc.3 (omega (arith, kept.long))
        (record { holds = holds_kept program code f thread.frame.names vars after scope t (omega arith) kept holds; target = (sc.0, sc.1); index = has; rest = stands; room = omega (arith, kept.long) }) calls (λ e. cc))
    simple_answers (SetGlobalElement a i v) p q vars scope h sc room holds calls stands =
        let some = held_some v in
        let more = right_held v in
        value_answers program code thread below p h.0 t vars (valued thread i) (λ index. assigns program thread (InGlobalElement a index) v)
        (value_here program code thread below scope i p h.0 t vars h.1 sc.1 (omega arith) (omega arith) holds)
        (λ index after has kept. assigns_answers v (InGlobalElement a index) h.0 q after scope h.2 sc.2 (omega (arith, kept.long))
        (record { holds = holds_kept program code f thread.frame.names vars after scope t (omega arith) kept holds; target = tt; index = has; rest = stands; room = omega (arith, kept.long) }) calls (λ e. cc))
    simple_answers (Calling call) p q vars scope h sc room holds calls stands =
        called_answers program code thread below given waits call Nowhere p h.0 q h.1 vars scope h.2 sc room h.3
        (record { holds = holds; target = tt; index = tt; rest = stands; room = tt }) calls.0

    return_answers : (v : Option RightTree) (p q : ℕ) (vars : Vars) (scope : List ℕ) → ReturnAt fetch t p v q → IsReturnScoped (cx program code f) scope v → t + returned_temporaries v ≤ length vars → Holds program code f thread.frame.names vars scope
        → AllIn (function_calls (fn program code f)) (returned_calls v scope thread.frame.to_do) → Answers program code (gives_back program thread v) (at p vars)
    return_answers None p q vars scope h sc room holds calls = returned_by thread (at p vars) thread.below below 0 refl waits (step_is code f below thread.globals p vars (Op.Return None) h)
    return_answers (Some (Computed e)) p q vars scope h sc room holds calls =
        value_answers program code thread below p h.0 t vars (valued thread e) (returned thread thread.below)
        (value_here program code thread below scope e p h.0 t vars h.1 sc.1 (omega arith) room holds)
        (λ word after has kept. returned_by thread (at h.0 after) thread.below below word refl waits
        (step_is code f below thread.globals h.0 after (Op.Return (Some t)) h.2 ∙ on_has after t word (returns code (at h.0 after) below) has))
    return_answers (Some (Called call)) p q vars scope h sc room holds calls =
        called_answers program code thread below given waits call Returned p h.0 q h.1 vars scope h.2 sc.1.0 (omega arith) h.3
        (record { holds = holds; target = tt; index = tt; rest = tt; room = omega arith }) calls.0

    -- a frame goes on with other items
    goes_with : (items : List Item) (p : ℕ) (vars : Vars) (scope : List ℕ) → Holds program code f thread.frame.names vars scope → StandsIn program code f items p scope → Under program code (to_do thread items) (at p vars)
    goes_with items p vars scope holds stands = UnderWay p vars below (stays code (at p vars)) (record { scope = scope; holds = holds; stands = stands }) waits

    -- the test of a branch or of a loop
    branched_by : (first second : List Item) (m y z : ℕ) (vars : Vars) (scope : List ℕ) (word : ℕ) → fetch m ≡ Some (Op.JumpZero t z) → y ≡ m + 1 → Has vars t word → Holds program code f thread.frame.names vars scope
        → StandsIn program code f first y scope → StandsIn program code f second z scope → Answers program code (branched thread first second word) (at m vars)
    branched_by first second m y z vars scope zero e at' has holds one two =
        goes_by program code (at m vars) (at z vars) (to_do thread second) (step_is code f below thread.globals m vars (Op.JumpZero t z) e ∙ on_has vars t 0 (Rattle.flat_code.specs.Step.jumps (at m vars) z) has) (goes_with second z vars scope holds two)
    branched_by first second m y z vars scope (suc n) e at' has holds one two =
        goes_by program code (at m vars) (at (m + 1) vars) (to_do thread first) (step_is code f below thread.globals m vars (Op.JumpZero t z) e ∙ on_has vars t (suc n) (Rattle.flat_code.specs.Step.jumps (at m vars) z) has)
        (goes_with first (m + 1) vars scope holds (subst (λ k. StandsIn program code f first k scope) at' one))

    test_answers : (e : ExprTree) (first second : List Item) (p m y z : ℕ) (vars : Vars) (scope : List ℕ) → ExprAt fetch p e t m → fetch m ≡ Some (Op.JumpZero t z) → y ≡ m + 1 → IsExprScoped (cx program code f) scope e → t + expr_temporaries e ≤ length vars
        → Holds program code f thread.frame.names vars scope → StandsIn program code f first y scope → StandsIn program code f second z scope → Answers program code (on_value thread (valued thread e) (branched thread first second)) (at p vars)
    test_answers e first second p m y z vars scope h j at' sc room holds one two =
        value_answers program code thread below p m t vars (valued thread e) (branched thread first second)
        (value_here program code thread below scope e p m t vars h sc (omega arith) room holds)
        (λ word after has kept. branched_by first second m y z after scope word j at' has (holds_kept program code f thread.frame.names vars after scope t (omega arith) kept holds) one two)

    end_answers : (gives : Bool) (p : ℕ) (vars : Vars) → EndAt fetch t gives p → (gives ≡ true → t < length vars) → Answers program code (returned thread thread.below 0) (at p vars)
    end_answers true p vars h room =
        answers_later program code (returned thread thread.below 0) (at p vars) (at (p + 1) (put vars t 0)) (const_leads code f below thread.globals p t 0 vars h.0)
        (returned_by thread (at (p + 1) (put vars t 0)) thread.below below 0 refl waits
        (step_is code f below thread.globals (p + 1) (put vars t 0) (Op.Return (Some t)) h.1 ∙ on_has (put vars t 0) t 0 (returns code (at (p + 1) (put vars t 0)) below) (has_put t 0 vars (room refl))))
    end_answers false p vars h room = returned_by thread (at p vars) thread.below below 0 refl waits (step_is code f below thread.globals p vars (Op.Return None) h)

  closing_room : (gives : Bool) (n m : ℕ) → m ≡ max (Rattle.std.specs.Prelude.if◌then◌else◌ gives 1 0) n → gives ≡ true → 1 ≤ m
  closing_room true n m e g = omega arith
  closing_room false n m e g = absurd cc

  -- what is still to do first is answered
  pub items_answer : (thread : Running) (below : List FlatFrame) (waits : AllWait program code thread.below below) (items : List Item) (p : ℕ) (vars : Vars) (scope : List ℕ) → StandsIn program code thread.frame.function items p scope
      → Holds program code thread.frame.function thread.frame.names vars scope → Answers program code (performs_first program thread items) (thread_of program code thread p vars below)
  items_answer thread below waits items p vars scope (AtEnd end) holds =
      let f = thread.frame.function in
      end_answers thread below waits (fn program code f).gives p vars end
      (λ g. omega (arith, holds.long, closing_room (fn program code f).gives (Rattle.c_tree.specs.Temporaries.stmts_temporaries (fn program code f).body) (temps program code f) refl g))
  items_answer thread below waits items p vars scope (ByJump q jump then_) holds =
      answers_later program code (performs_first program thread items) (thread_of program code thread p vars below) (thread_of program code thread q vars below) (jump_leads code thread.frame.function below thread.globals p q vars jump)
      (items_answer thread below waits items q vars scope then_ holds)
  items_answer thread below waits items p vars scope (InFewer fewer within there) holds =
      items_answer thread below waits items p vars fewer there
      (record { defined = holds.defined; wide = holds.wide; long = holds.long; reads = reads_fewer (cx program code thread.frame.function) fewer scope thread.frame.names vars within holds.reads })
  items_answer thread below waits items p vars scope (AtSimple {s} {rest} q h scoped room calls then_) holds =
      simple_answers (to_do thread rest) below waits s p q vars scope h scoped (omega (arith, holds.long)) holds calls then_
  items_answer thread below waits items p vars scope (AtChoose {e} {s} {r} {rest} m z h test scoped room first second) holds =
      test_answers (to_do thread rest) below waits e (before s rest) (before r rest) p m (m + 1) z vars scope h test refl scoped (omega (arith, holds.long)) holds first second
  items_answer thread below waits items p vars scope (AtWhile {e} {s} {rest} x loop then_) holds =
      let f = thread.frame.function in
      let room = loop.room in
      test_answers (to_do thread rest) below waits e (body_before (WhileLoop e s) rest) rest p loop.code.0 (loop.code.0 + 1) x vars scope loop.code.2 loop.code.3 refl loop.scoped.0 (omega (arith, holds.long)) holds
      (while_body_stands (operation_at code f) (base program code f) (cx program code f) (temps program code f) (function_calls (fn program code f)) e s p x scope rest loop then_) then_
  items_answer thread below waits items p vars scope (AtFor {e} {step} {s} {rest} x loop then_) holds =
      let f = thread.frame.function in
      let room = loop.room in
      test_answers (to_do thread rest) below waits e (body_before (ForLoop (Some e) step s) rest) rest p loop.code.3.0 loop.code.0 x vars scope loop.code.3.1 loop.code.3.2 loop.code.3.3 loop.scoped.0 (omega (arith, holds.long)) holds
      (for_body_stands (operation_at code f) (base program code f) (cx program code f) (temps program code f) (function_calls (fn program code f)) (Some e) step s p x scope rest loop then_) then_
  items_answer thread below waits items p vars scope (AtEnter {items = rest} then_) holds = items_answer thread below waits rest p vars scope then_ holds
  items_answer thread below waits items p vars scope (AtBack {loop'} {rest} b x jump loop then_) holds =
      let f = thread.frame.function in
      goes_by program code (thread_of program code thread p vars below) (thread_of program code thread b vars below) (to_do thread (turn_before loop' rest)) (step_is code f below thread.globals p vars (Op.Jump b) jump)
      (goes_with thread below waits (turn_before loop' rest) b vars scope holds
      (turn_stands (operation_at code f) (base program code f) (cx program code f) (temps program code f) (function_calls (fn program code f)) loop' b x scope rest loop then_))
  items_answer thread below waits items p vars scope (AtLeave {rest} x jump then_) holds =
      goes_by program code (thread_of program code thread p vars below) (thread_of program code thread x vars below) (to_do thread (after_leave 0 rest)) (step_is code thread.frame.function below thread.globals p vars (Op.Jump x) jump)
      (goes_with thread below waits (after_leave 0 rest) x vars scope holds then_)
  items_answer thread below waits items p vars scope (AtSkip {rest} x jump then_) holds =
      goes_by program code (thread_of program code thread p vars below) (thread_of program code thread x vars below) (to_do thread (after_skip 0 rest)) (step_is code thread.frame.function below thread.globals p vars (Op.Jump x) jump)
      (goes_with thread below waits (after_skip 0 rest) x vars scope holds then_)
  items_answer thread below waits items p vars scope (AtReturn {v} {rest} q h scoped room calls) holds =
      return_answers (to_do thread rest) below waits v p q vars scope h scoped (omega (arith, holds.long)) holds calls
