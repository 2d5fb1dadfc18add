-- Every frame of a source thread that waits does so at a call of its function's text.
use Rattle.c_mean.proofs.Common.{◌≡◌, ℕ, zero, suc, ◌<◌, Bool, true, false, List, [], ◌∷◌, ◌++◌, length, Option, Some, None, refl, sym, subst, arith, append_assoc, length-append, Result, Ok, Err, slice_index_or, Contains, AllByRecursion, Call, Question, Answer, Finish, call_of, Goes, Asks, Stops, Progress, Unfinished, Over, on_from, played, run, TrapKind, number_of, call_site, CallTree, CallFunction, CallTable, CallSpawn, CallModelled, RightTree, Computed, Called, SimpleTree, DeclareWith, SetLocal, SetGlobal, SetLocalElement, SetGlobalElement, Calling, ProgramTree, Item, Simply, Choose, Test, Enter, Back, Leave, Skip, GiveBack, GiveBackWord, Fail, all_before, Place, Nowhere, InLocal, InGlobal, InLocalElement, InGlobalElement, Returned, WaitingFrame, Running, Waiting, function_at, SourceMove, to_do, valued, all_valued, on_value, stored_where, stored, assigned, delivered_or, delivered, waits_at, entered, entered_where, asks_if, called, assigns, does, branched, returned, gives_back, performs, performs_first, source_step, source_resume, source_machine, started, target_of, CallInText, right_calls, simple_calls, returned_calls, function_calls, WaitsInText}
use Rattle.std.proofs.Math.Seq.{get_or-append_seam}
use Rattle.c_tree.specs.Sizes.{below}
use Rattle.c_mean.proofs.TextLemmas.{AllIn, IsRest, ItemIn, RestsIn, before_rest, all_before_rest, body_rest, turn_rest, leave_rest, skip_rest, stmts_rests}

-- an element in the midst of a list is in it
pub contains_seam : {A : Type 0} (a : List A) (x : A) (b : List A) → Contains (a ++ x ∷ b) x
contains_seam a x b = (length a, omega (arith, length-append a (x ∷ b)), get_or-append_seam a x b x)

all_in_self : (a b : List CallInText) → AllIn (a ++ b) b
all_in_self a [] = tt
all_in_self a (call ∷ b) = (contains_seam a call b, subst (λ text. AllIn text b) (append_assoc a (call ∷ []) b) (all_in_self (a ++ call ∷ []) b))

rest_at : (text calls : List CallInText) (k : ℕ) (call : CallInText) → RestsIn text calls → k < length calls → slice_index_or calls k call ≡ call → IsRest text call.rest
rest_at text [] k call h lt e = absurd (omega arith)
rest_at text (first ∷ calls) zero call h lt e = subst (λ (c : CallInText). IsRest text c.rest) e h.0
rest_at text (first ∷ calls) (suc k) call h lt e = rest_at text calls k call h.1 (omega arith) e

module _ (program : ProgramTree) where
  abbrev text_of : ℕ → List CallInText
  text_of f = function_calls (function_at program f)

  -- a function begins with a rest of its text, and what follows a call in it is one
  start_rest : (f : ℕ) → IsRest (text_of f) (all_before (function_at program f).body [])
  start_rest f = all_before_rest (text_of f) (function_at program f).body (below (function_at program f).params) [] (all_in_self [] (text_of f)) tt

  after_call : (f : ℕ) (call : CallInText) → Contains (text_of f) call → IsRest (text_of f) call.rest
  after_call f call h =
      rest_at (text_of f) (text_of f) h.0 call (stmts_rests (text_of f) (function_at program f).body (below (function_at program f).params) [] (all_in_self [] (text_of f)) tt) h.1 h.2

  -- the running frame is at a rest of its text, and the frames below wait at calls of theirs
  pub record Stands (thread : Running) : Type 0 where
    pub running : IsRest (text_of thread.frame.function) thread.frame.to_do
    pub below : AllByRecursion (WaitsInText program) thread.below

  abbrev pub MoveStands : SourceMove → Type 0
  MoveStands (Goes thread) = Stands thread
  MoveStands (Asks question waiting) = AllByRecursion (WaitsInText program) (waiting.front ∷ waiting.below)
  MoveStands (Stops end) = Unit {0}

  value_stands : {A : Type 0} (thread : Running) (result : Result A TrapKind) (use_it : A → SourceMove) → ((a : A) → MoveStands (use_it a)) → MoveStands (on_value thread result use_it)
  value_stands thread (Ok a) use_it h = h a
  value_stands thread (Err trap) use_it h = tt

  -- ---- storing

  abbrev StoredStands : Result Running TrapKind → Type 0
  StoredStands (Ok thread) = Stands thread
  StoredStands (Err trap) = Unit {0}

  where_stands : (within : Bool) (thread : Running) → Stands thread → StoredStands (stored_where within thread)
  where_stands true thread h = h
  where_stands false thread h = tt

  stored_stands : (thread : Running) (place : Place) (word : ℕ) → Stands thread → StoredStands (stored thread place word)
  stored_stands thread Nowhere word h = h
  stored_stands thread (InLocalElement a i) word h = where_stands _ _ (record { running = h.running; below = h.below })
  stored_stands thread (InGlobalElement a i) word h = where_stands _ _ (record { running = h.running; below = h.below })
  stored_stands thread Returned word h = record { running = (tt, tt); below = h.below }
  stored_stands thread _ word h = record { running = h.running; below = h.below }

  assigned_by : (thread : Running) (result : Result Running TrapKind) → StoredStands result → MoveStands (on_value thread result Goes)
  assigned_by thread (Ok after) h = h
  assigned_by thread (Err trap) h = tt

  delivered_by : (thread : Running) (result : Result Running TrapKind) → Stands thread → StoredStands result → Stands (delivered_or thread result)
  delivered_by thread (Ok after) h k = k
  delivered_by thread (Err trap) h k = record { running = (tt, tt); below = h.below }

  pub delivered_stands : (waiting : WaitingFrame) (under : List WaitingFrame) (globals : List (List ℕ)) (word : ℕ) → WaitsInText program waiting → AllByRecursion (WaitsInText program) under → Stands (delivered waiting under globals word)
  delivered_stands waiting under globals word h k =
      let thread : Running = record { frame = waiting.frame; below = under; globals = globals } in
      let stands : Stands thread = record { running = subst (λ items. IsRest (text_of waiting.frame.function) items) (sym h.1.rest) (after_call waiting.frame.function h.0 h.1.in_text); below = k } in
      delivered_by thread (stored thread waiting.place word) stands (stored_stands thread waiting.place word stands)

  -- ---- calls

  -- the call that the running frame makes is one of its text, before what it has still to do
  abbrev CallStands : Running → Place → CallTree → Type 0
  CallStands thread place call =
      (scope : List ℕ) × Contains (text_of thread.frame.function) (record { call = call; target = target_of place; scope = scope; rest = thread.frame.to_do })

  waits_stands : (thread : Running) (place : Place) (call : CallTree) (site : ℕ) → site ≡ (call_site call).number → CallStands thread place call → WaitsInText program (waits_at thread site place)
  waits_stands thread place call site e h = (record { call = call; target = target_of place; scope = h.0; rest = thread.frame.to_do }, record { in_text = h.1; site = e; target = refl; rest = refl })

  entered_stands : (thread : Running) (site : ℕ) (place : Place) (f : ℕ) (arguments : List ℕ) → WaitsInText program (waits_at thread site place) → Stands thread → MoveStands (entered program thread site place f arguments)
  entered_stands thread site place f arguments w h = record { running = start_rest f; below = (w, h.below) }

  where_entered : (within : Bool) (thread : Running) (site : ℕ) (place : Place) (f argument : ℕ) → WaitsInText program (waits_at thread site place) → Stands thread → MoveStands (entered_where within program thread site place f argument)
  where_entered true thread site place f argument w h = entered_stands thread site place f (argument ∷ []) w h
  where_entered false thread site place f argument w h = tt

  asks_stands : (thread : Running) (site : ℕ) (place : Place) (call : Option Call) → WaitsInText program (waits_at thread site place) → Stands thread → MoveStands (asks_if thread site place call)
  asks_stands thread site place (Some call) w h = (w, h.below)
  asks_stands thread site place None w h = tt

  called_stands : (thread : Running) (place : Place) (call : CallTree) → CallStands thread place call → Stands thread → MoveStands (called program thread place call)
  called_stands thread place (CallFunction site f es) w h =
      value_stands thread (all_valued thread es) _ (λ arguments. entered_stands thread site place f arguments (waits_stands thread place (CallFunction site f es) site refl w) h)
  called_stands thread place (CallTable site t i e) w h =
      value_stands thread (valued thread i) _ (λ index. value_stands thread (valued thread e) _ (λ argument. where_entered _ thread site place _ argument (waits_stands thread place (CallTable site t i e) site refl w) h))
  called_stands thread place (CallSpawn site f e) w h =
      value_stands thread (valued thread e) _ (λ argument. (waits_stands thread place (CallSpawn site f e) site refl w, h.below))
  called_stands thread place (CallModelled site m es) w h =
      value_stands thread (all_valued thread es) _ (λ arguments. asks_stands thread site place (call_of (number_of m) arguments) (waits_stands thread place (CallModelled site m es) site refl w) h)

  assigns_stands : (thread : Running) (place : Place) (v : RightTree) → (scope : List ℕ) → AllIn (text_of thread.frame.function) (right_calls v (target_of place) scope thread.frame.to_do) → Stands thread → MoveStands (assigns program thread place v)
  assigns_stands thread place (Computed e) scope k h =
      value_stands thread (valued thread e) (assigned thread place) (λ word. assigned_by thread (stored thread place word) (stored_stands thread place word h))
  assigns_stands thread place (Called call) scope k h = called_stands thread place call (scope, k.0) h

  does_stands : (thread : Running) (s : SimpleTree) (scope : List ℕ) → AllIn (text_of thread.frame.function) (simple_calls s scope thread.frame.to_do) → Stands thread → MoveStands (does program thread s)
  does_stands thread (DeclareWith x v) scope k h = assigns_stands thread (InLocal x) v scope k h
  does_stands thread (SetLocal x v) scope k h = assigns_stands thread (InLocal x) v scope k h
  does_stands thread (SetGlobal g v) scope k h = assigns_stands thread (InGlobal g) v scope k h
  does_stands thread (SetLocalElement a i v) scope k h = value_stands thread (valued thread i) _ (λ index. assigns_stands thread (InLocalElement a index) v scope k h)
  does_stands thread (SetGlobalElement a i v) scope k h = value_stands thread (valued thread i) _ (λ index. assigns_stands thread (InGlobalElement a index) v scope k h)
  does_stands thread (Calling call) scope k h = called_stands thread Nowhere call (scope, k.0) h
  does_stands thread _ scope k h = record { running = h.running; below = h.below }

  -- ---- a step

  branched_stands : (thread : Running) (first second : List Item) (word : ℕ) → IsRest (text_of thread.frame.function) first → IsRest (text_of thread.frame.function) second → Stands thread → MoveStands (branched thread first second word)
  branched_stands thread first second zero a b h = record { running = b; below = h.below }
  branched_stands thread first second (suc n) a b h = record { running = a; below = h.below }

  returned_stands : (thread : Running) (under : List WaitingFrame) (word : ℕ) → AllByRecursion (WaitsInText program) under → MoveStands (returned thread under word)
  returned_stands thread [] word h = tt
  returned_stands thread (waiting ∷ under) word h = delivered_stands waiting under thread.globals word h.0 h.1

  gives_back_stands : (thread : Running) (v : Option RightTree) (scope : List ℕ) → AllIn (text_of thread.frame.function) (returned_calls v scope thread.frame.to_do) → Stands thread → MoveStands (gives_back program thread v)
  gives_back_stands thread None scope k h = returned_stands thread thread.below 0 h.below
  gives_back_stands thread (Some (Computed e)) scope k h = value_stands thread (valued thread e) _ (λ word. returned_stands thread thread.below word h.below)
  gives_back_stands thread (Some (Called call)) scope k h = called_stands thread Returned call (scope, k.0) h

  performs_stands : (thread : Running) (item : Item) → ItemIn (text_of thread.frame.function) item thread.frame.to_do → Stands thread → MoveStands (performs program thread item thread.frame.to_do)
  performs_stands thread (Simply s) k h = does_stands thread s k.0 k.1 h
  performs_stands thread (Choose c s r) k h =
      value_stands thread (valued thread c) _ (λ word. branched_stands thread _ _ word (before_rest (text_of thread.frame.function) s k.0 thread.frame.to_do k.1 h.running) (before_rest (text_of thread.frame.function) r k.0 thread.frame.to_do k.2 h.running) h)
  performs_stands thread (Test c loop) k h =
      value_stands thread (valued thread c) _ (λ word. branched_stands thread _ _ word (body_rest (text_of thread.frame.function) loop k.0 thread.frame.to_do k.1 h.running) h.running h)
  performs_stands thread Enter k h = record { running = h.running; below = h.below }
  performs_stands thread (Back loop) k h = record { running = turn_rest (text_of thread.frame.function) loop k.0 thread.frame.to_do k.1 h.running; below = h.below }
  performs_stands thread Leave k h = record { running = leave_rest (text_of thread.frame.function) 0 thread.frame.to_do h.running; below = h.below }
  performs_stands thread Skip k h = record { running = skip_rest (text_of thread.frame.function) 0 thread.frame.to_do h.running; below = h.below }
  performs_stands thread (GiveBack v) k h = gives_back_stands thread v k.0 k.1 h
  performs_stands thread (GiveBackWord word) k h = returned_stands thread thread.below word h.below
  performs_stands thread (Fail trap) k h = tt

  first_stands : (thread : Running) (items : List Item) → IsRest (text_of thread.frame.function) items → AllByRecursion (WaitsInText program) thread.below → MoveStands (performs_first program thread items)
  first_stands thread [] k h = returned_stands thread thread.below 0 h
  first_stands thread (Enter ∷ rest) k h = first_stands thread rest k.1 h
  first_stands thread (Simply s ∷ rest) k h = performs_stands (to_do thread rest) (Simply s) k.0 (record { running = k.1; below = h })
  first_stands thread (Choose c s r ∷ rest) k h = performs_stands (to_do thread rest) (Choose c s r) k.0 (record { running = k.1; below = h })
  first_stands thread (Test c loop ∷ rest) k h = performs_stands (to_do thread rest) (Test c loop) k.0 (record { running = k.1; below = h })
  first_stands thread (Back loop ∷ rest) k h = performs_stands (to_do thread rest) (Back loop) k.0 (record { running = k.1; below = h })
  first_stands thread (Leave ∷ rest) k h = performs_stands (to_do thread rest) Leave k.0 (record { running = k.1; below = h })
  first_stands thread (Skip ∷ rest) k h = performs_stands (to_do thread rest) Skip k.0 (record { running = k.1; below = h })
  first_stands thread (GiveBack v ∷ rest) k h = performs_stands (to_do thread rest) (GiveBack v) k.0 (record { running = k.1; below = h })
  first_stands thread (GiveBackWord word ∷ rest) k h = performs_stands (to_do thread rest) (GiveBackWord word) k.0 (record { running = k.1; below = h })
  first_stands thread (Fail trap ∷ rest) k h = performs_stands (to_do thread rest) (Fail trap) k.0 (record { running = k.1; below = h })

  pub step_stands : (thread : Running) → Stands thread → MoveStands (source_step program thread)
  step_stands thread h = first_stands thread thread.frame.to_do h.running h.below

  pub resume_stands : (waiting : Waiting) (answer : Answer) → AllByRecursion (WaitsInText program) (waiting.front ∷ waiting.below) → Stands (source_resume waiting answer)
  resume_stands waiting answer h = delivered_stands waiting.front waiting.below answer.globals answer.result h.0 h.1

  pub started_stands : (f : ℕ) (arguments : List ℕ) (globals : List (List ℕ)) → Stands (started program f arguments globals)
  started_stands f arguments globals = record { running = start_rest f; below = tt }

  -- ---- runs

  abbrev ProgressStands : Progress Running Question Finish → Type 0
  ProgressStands (Unfinished asked thread) = Stands thread
  ProgressStands (Over asked end) = Unit {0}

  module _ (world : List Question → Answer) where
    played_stands : (asked : List Question) (move : SourceMove) → MoveStands move → ProgressStands (played (source_machine program) world asked move)
    played_stands asked (Goes thread) h = h
    played_stands asked (Asks question waiting) h = resume_stands waiting (world (question ∷ asked)) h
    played_stands asked (Stops end) h = tt

    on_stands : (progress : Progress Running Question Finish) (rest : List Question → Running → Progress Running Question Finish) → ProgressStands progress → ((asked : List Question) (thread : Running) → Stands thread → ProgressStands (rest asked thread)) → ProgressStands (on_from progress rest)
    on_stands (Unfinished asked thread) rest h k = k asked thread h
    on_stands (Over asked end) rest h k = tt

    run_stands : (n : ℕ) (asked : List Question) (thread : Running) → Stands thread → ProgressStands (run (source_machine program) world n asked thread)
    run_stands zero asked thread h = h
    run_stands (suc n) asked thread h =
        on_stands (played (source_machine program) world asked (source_step program thread)) (run (source_machine program) world n) (played_stands asked (source_step program thread) (step_stands thread h)) (λ a t k. run_stands n a t k)

    pub reached_stands : (f : ℕ) (arguments : List ℕ) (globals : List (List ℕ)) (n : ℕ) (asked : List Question) (thread : Running) → run (source_machine program) world n [] (started program f arguments globals) ≡ Unfinished asked thread → Stands thread
    reached_stands f arguments globals n asked thread e = subst ProgressStands e (run_stands n [] (started program f arguments globals) (started_stands f arguments globals))
