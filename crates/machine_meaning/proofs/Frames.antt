-- Frames of flat code that stand for frames of the source: one that runs, and one that waits for a result.
use Rattle.machine_meaning.proofs.Common.{◌≡◌, ℕ, ◌+◌, ◌<◌, ◌≤◌, Bool, true, false, List, [], ◌∷◌, length, Option, Some, None, refl, sym, ap, ◌∙◌, subst, arith, get_or, set, IsTrue, nat_lt, slice_index, slice_index_or, Result, Ok, Err, ltb-true, row, width, with_word, Goes, Stops, TrapKind, function_temporaries, FunctionTree, ProgramTree, Context, context_of, visible, IsFunctionScoped, Target, ToNowhere, ToLocal, ToGlobal, ToLocalElement, ToGlobalElement, ToCaller, target_of, CallInText, function_calls, WaitsAt, Item, GiveBackWord, Fail, Op, FlatCode, operation_at, FlatFrame, FlatThread, FlatWaiting, Finished, site_in, with_result, on, first, where_in, within, puts, goes_with, place_in, answered, flat_step}
use Rattle.c_mean.specs.Frames.{Place, Nowhere, InLocal, InGlobal, InLocalElement, InGlobalElement, Returned, Frame, WaitingFrame, Running, Waiting, function_at}
use Rattle.c_mean.specs.Steps.{to_do, with_names, with_globals, stored_where, stored, delivered_or, delivered}
use Rattle.machine_meaning.proofs.InPlace.{StmtsAt, EndAt, StoreAt, ResultAt, held}
use Rattle.machine_meaning.proofs.Silent.{Vars, frame_at, put, Has, Kept, kept_put, has_put, Leads, Ends, stays, one_leads, one_ends, leads_both, ends_later, th, step_is, on_has}
use Rattle.machine_meaning.proofs.Expressions.{Reads, Wide, reads_kept}
use Rattle.machine_meaning.proofs.Stands.{Stands}
use Rattle.machine_meaning.proofs.Rows.{reads_word, wide_word, reads_element}

-- where the text says that a result goes, it can
abbrev pub TargetScoped : Context → List ℕ → Target → Type 0
TargetScoped c scope (ToLocal x) = (x < length c.sizes) × (slice_index c.sizes x ≡ 1)
TargetScoped c scope (ToLocalElement a) = (a < length c.sizes) × IsTrue (visible a scope)
TargetScoped c scope _ = Unit {0}

-- the index of a place is in the first temporary
abbrev pub IndexHeld : ℕ → Place → Vars → Type 0
IndexHeld t (InLocalElement a i) vars = Has vars t i
IndexHeld t (InGlobalElement a i) vars = Has vars t i
IndexHeld t _ vars = Unit {0}

-- there is a variable in which a result is held before it is stored, where it is
abbrev pub HeldRoom : ℕ → Target → ℕ → Type 0
HeldRoom t (ToGlobal g) n = t + 1 ≤ n
HeldRoom t (ToLocalElement a) n = t + 2 ≤ n
HeldRoom t (ToGlobalElement a) n = t + 2 ≤ n
HeldRoom t ToCaller n = t + 1 ≤ n
HeldRoom t _ n = Unit {0}

pub index_kept : (t : ℕ) (place : Place) (vars after : Vars) (fetch : ℕ → Option Op) → Kept (held fetch t (target_of place)) vars after → IndexHeld t place vars → IndexHeld t place after
index_kept t Nowhere vars after fetch kept h = tt
index_kept t (InLocal x) vars after fetch kept h = tt
index_kept t (InGlobal g) vars after fetch kept h = tt
index_kept t (InLocalElement a i) vars after fetch kept h = kept.same t (omega arith) ∙ h
index_kept t (InGlobalElement a i) vars after fetch kept h = kept.same t (omega arith) ∙ h
index_kept t Returned vars after fetch kept h = tt

pub after_base : (fetch : ℕ → Option Op) (t : ℕ) (target : Target) → t ≤ held fetch t target
after_base fetch t ToNowhere = omega arith
after_base fetch t _ = omega arith

module _ (program : ProgramTree) (code : FlatCode) where
  abbrev pub fn : ℕ → FunctionTree
  fn f = function_at program f

  abbrev pub cx : ℕ → Context
  cx f = context_of program (fn f)

  -- the first temporary, and how many there are
  abbrev pub base : ℕ → ℕ
  base f = length (fn f).sizes

  abbrev pub temps : ℕ → ℕ
  temps f = function_temporaries (fn f)

  abbrev pub StandsIn : ℕ → List Item → ℕ → List ℕ → Type 0
  StandsIn f items p scope = Stands (operation_at code f) (base f) (cx f) (temps f) (function_calls (fn f)) items p scope

  -- a function's operations stand in the code, in variables as many as it has names and temporaries
  pub record FunctionStands (f : ℕ) : Type 0 where
    pub last : ℕ
    pub body : StmtsAt (operation_at code f) (base f) 0 (fn f).body 0 0 last
    pub end : EndAt (operation_at code f) (base f) (fn f).gives last
    pub count : length (Rattle.flat_code.specs.Codes.function_at code f).sizes ≡ base f + temps f
    pub same : (x : ℕ) → x < base f → slice_index (Rattle.flat_code.specs.Codes.function_at code f).sizes x ≡ slice_index (fn f).sizes x
    pub scoped : IsFunctionScoped program (fn f)

  pub record Lowers : Type 0 where
    pub functions : (f : ℕ) → f < length program.functions → FunctionStands f
    pub tables : code.tables ≡ program.tables
    -- a member of a table is a function with one parameter
    pub members : (t k : ℕ) → t < length program.tables → k < length (slice_index_or program.tables t [])
        → (slice_index (slice_index_or program.tables t []) k < length program.functions) × ((fn (slice_index (slice_index_or program.tables t []) k)).params ≡ 1)

  -- words of names and variables in function f
  pub record Holds (f : ℕ) (names : List (List ℕ)) (vars : Vars) (scope : List ℕ) : Type 0 where
    pub defined : f < length program.functions
    pub wide : Wide (cx f) names
    pub long : length vars ≡ base f + temps f
    pub reads : Reads (cx f) scope names vars

  pub holds_kept : (f : ℕ) (names : List (List ℕ)) (vars after : Vars) (scope : List ℕ) (d : ℕ) → base f ≤ d → Kept d vars after → Holds f names vars scope → Holds f names after scope
  holds_kept f names vars after scope d le kept h =
      record { defined = h.defined; wide = h.wide; long = kept.long ∙ h.long; reads = reads_kept (cx f) scope names d vars after le kept h.reads }

  -- a frame that runs stands at operation p with these variables
  pub record Runs (frame : Frame) (p : ℕ) (vars : Vars) : Type 0 where
    pub scope : List ℕ
    pub holds : Holds frame.function frame.names vars scope
    pub stands : StandsIn frame.function frame.to_do p scope

  -- what follows a result stands at q, unless it goes back to the caller
  abbrev pub RestStands : Target → Frame → List ℕ → ℕ → Type 0
  RestStands (ToLocal x) frame scope q = StandsIn frame.function frame.to_do q (x ∷ scope)
  RestStands ToCaller frame scope q = Unit {0}
  RestStands _ frame scope q = StandsIn frame.function frame.to_do q scope

  -- a frame that is to have a word for a place, and is then at q
  pub record Ready (frame : Frame) (place : Place) (vars : Vars) (scope : List ℕ) (q : ℕ) : Type 0 where
    pub holds : Holds frame.function frame.names vars scope
    pub target : TargetScoped (cx frame.function) scope (target_of place)
    pub index : IndexHeld (base frame.function) place vars
    pub rest : RestStands (target_of place) frame scope q
    pub room : HeldRoom (base frame.function) (target_of place) (length vars)

  -- a frame that waits for the result of its call
  pub record Waits (waiting : WaitingFrame) (flat : FlatFrame) : Type 0 where
    pub call : CallInText
    pub waits : WaitsAt program waiting call
    pub place : ℕ
    pub vars : Vars
    pub q : ℕ
    pub to : Option ℕ
    pub is : flat ≡ frame_at waiting.frame.function place vars
    pub site : site_in (operation_at code waiting.frame.function place) ≡ Some waiting.site
    pub wants : place_in (operation_at code waiting.frame.function place) ≡ to
    pub result : ResultAt (operation_at code waiting.frame.function) (base waiting.frame.function) (target_of waiting.place) to place q
    pub ready : Ready waiting.frame waiting.place vars call.scope q

  abbrev pub AllWait : List WaitingFrame → List FlatFrame → Type 0
  AllWait [] [] = Unit {0}
  AllWait (w ∷ ws) (g ∷ gs) = Waits w g × AllWait ws gs
  AllWait _ _ = ⊥

  abbrev pub thread_of : Running → ℕ → Vars → List FlatFrame → FlatThread
  thread_of thread p vars below = th code thread.frame.function below thread.globals p vars

  -- silent steps lead to where a thread of flat code stands for a source thread
  pub data Under : Running → FlatThread → Type 0 where
    UnderWay : {thread : Running} {flat : FlatThread} (p : ℕ) (vars : Vars) (below : List FlatFrame) (leads : Leads code flat (thread_of thread p vars below)) (runs : Runs thread.frame p vars) (waits : AllWait thread.below below) → Under thread flat
    -- it only gives back a word
    Giving : {thread : Running} {flat : FlatThread} (p : ℕ) (vars : Vars) (below : List FlatFrame) (word : ℕ) (does_ : thread.frame.to_do ≡ GiveBackWord word ∷ []) (leads : Leads code flat (thread_of thread p vars below))
        (return_ : operation_at code thread.frame.function p ≡ Some (Op.Return (Some (base thread.frame.function)))) (has : Has vars (base thread.frame.function) word) (waits : AllWait thread.below below) → Under thread flat
    -- it only traps
    Failing : {thread : Running} {flat : FlatThread} (trap : TrapKind) (does_ : thread.frame.to_do ≡ Fail trap ∷ []) (ends : Ends code flat (Finished (record { trap = Some trap; globals = thread.globals }))) → Under thread flat

  pub record WaitUnder (waiting : Waiting) (flat : FlatWaiting) : Type 0 where
    pub front : Waits waiting.front flat.frame
    pub below : AllWait waiting.below flat.below

  pub under_later : (thread : Running) (from to : FlatThread) → Leads code from to → Under thread to → Under thread from
  under_later thread from to h (UnderWay p vars below leads runs waits) = UnderWay p vars below (leads_both code from to (thread_of thread p vars below) h leads) runs waits
  under_later thread from to h (Giving p vars below word does_ leads return_ has waits) = Giving p vars below word does_ (leads_both code from to (thread_of thread p vars below) h leads) return_ has waits
  under_later thread from to h (Failing trap does_ ends) = Failing trap does_ (ends_later code from to (Finished (record { trap = Some trap; globals = thread.globals })) h ends)

  -- ---- storing

  -- one step stores a word as the source does, or traps as it does
  abbrev pub OneStep : FlatThread → Running → Result Running TrapKind → Type 0
  OneStep flat before (Ok thread) = (next : FlatThread) × (flat_step code flat ≡ Goes next) × Under thread next
  OneStep flat before (Err trap) = flat_step code flat ≡ Stops (Finished (record { trap = Some trap; globals = before.globals }))

  where_step : (flat : FlatThread) (before thread : Running) (next : FlatThread) (within' : Bool) → flat_step code flat ≡ where_in within' flat TrapKind.Index (Goes next) → flat.globals ≡ before.globals → (within' ≡ true → Under thread next) → OneStep flat before (stored_where within' thread)
  where_step flat before thread next true e g h = (next, e, h refl)
  where_step flat before thread next false e g h = e ∙ ap (λ (gs : List (List ℕ)). Stops (Finished (record { trap = Some TrapKind.Index; globals = gs }))) g

  module _ (thread : Running) (below : List FlatFrame) (waits : AllWait thread.below below) where
    abbrev f : ℕ
    f = thread.frame.function

    abbrev at : ℕ → Vars → FlatThread
    at p vars = thread_of thread p vars below

    abbrev fetch : ℕ → Option Op
    fetch = operation_at code f

    -- from a place on the thread runs
    runs_on : (after : Running) (q m : ℕ) (vars : Vars) (scope : List ℕ) → after.below ≡ thread.below → q ≡ m → Holds after.frame.function after.frame.names vars scope → StandsIn after.frame.function after.frame.to_do q scope → Under after (th code after.frame.function below after.globals m vars)
    runs_on after q m vars scope e at' holds stands =
        UnderWay m vars below (stays code (th code after.frame.function below after.globals m vars))
        (record { scope = scope; holds = holds; stands = subst (λ n. StandsIn after.frame.function after.frame.to_do n scope) at' stands })
        (subst (λ ws. AllWait ws below) (sym e) waits)

    pub set_local : (x q m word : ℕ) (vars : Vars) (scope : List ℕ) → q ≡ m → Ready thread.frame (InLocal x) vars scope q → Under (with_names thread (with_word thread.frame.names x 0 word)) (at m (put vars x word))
    set_local x q m word vars scope e h =
        let room : x < length vars = omega (arith, h.holds.long, h.target.0) in
        runs_on (with_names thread (with_word thread.frame.names x 0 word)) q m (put vars x word) (x ∷ scope) refl e
        (record {
          defined = h.holds.defined;
          wide = wide_word (cx f) thread.frame.names x 0 word h.holds.wide;
          long = Rattle.std.proofs.lemmas.List.length-set vars x (Some (word ∷ [])) ∙ h.holds.long;
          reads = reads_word (cx f) scope thread.frame.names vars x word h.holds.wide h.target.1 room h.holds.reads;
        })
        h.rest

    -- a word that is held is stored
    pub store_step : (place : Place) (m q word : ℕ) (vars : Vars) (scope : List ℕ) → (place ≡ Returned → ⊥) → StoreAt fetch (base f) (target_of place) m q → Has vars (held fetch (base f) (target_of place)) word → Ready thread.frame place vars scope q → OneStep (at m vars) thread (stored thread place word)
    store_step Nowhere m q word vars scope stay s has h = absurd s
    store_step (InLocal x) m q word vars scope stay s has h =
        (at (m + 1) (put vars x word), step_is code f below thread.globals m vars (Op.Copy x (base f)) s.0 ∙ on_has vars (base f) word (puts (at m vars) x) has, set_local x q (m + 1) word vars scope s.1 h)
    store_step (InGlobal g) m q word vars scope stay s has h = (
      th code f below (with_word thread.globals g 0 word) (m + 1) vars,
      step_is code f below thread.globals m vars (Op.StoreGlobal g (base f)) s.0 ∙ on_has vars (base f) word (λ v. goes_with (at m vars) (with_word thread.globals g 0 v)) has,
      runs_on (with_globals thread (with_word thread.globals g 0 word)) q (m + 1) vars scope refl s.1 h.holds h.rest,
    )
    store_step (InLocalElement a i) m q word vars scope stay s has h =
        where_step (at m vars) thread (with_names thread (with_word thread.frame.names a i word)) (at (m + 1) (set vars a (Some (set (row thread.frame.names a) i word)))) (nat_lt i (width thread.frame.names a))
        (step_is code f below thread.globals m vars (Op.StoreLocal a (base f) (base f + 1)) s.0
        ∙ on_has vars (base f) i (λ k. on (first (get_or vars (base f + 1) None)) (λ v. on (get_or vars a None) (λ r. within (at m vars) k (length r) (Goes (at (m + 1) (set vars a (Some (set r k v)))))))) h.index
        ∙ on_has vars (base f + 1) word (λ v. on (get_or vars a None) (λ r. within (at m vars) i (length r) (Goes (at (m + 1) (set vars a (Some (set r i v))))))) has
        ∙ ap (λ w. on w (λ r. within (at m vars) i (length r) (Goes (at (m + 1) (set vars a (Some (set r i word))))))) (h.holds.reads a h.target.0 h.target.1))
        refl
        (λ e.
        runs_on (with_names thread (with_word thread.frame.names a i word)) q (m + 1) (set vars a (Some (set (row thread.frame.names a) i word))) scope refl s.1
        (record {
          defined = h.holds.defined;
          wide = wide_word (cx f) thread.frame.names a i word h.holds.wide;
          long = Rattle.std.proofs.lemmas.List.length-set vars a (Some (set (row thread.frame.names a) i word)) ∙ h.holds.long;
          reads = reads_element (cx f) scope thread.frame.names vars a i word (ltb-true i (width thread.frame.names a) e) (omega (arith, h.holds.long, h.target.0)) h.holds.reads;
        })
        h.rest)
    store_step (InGlobalElement a i) m q word vars scope stay s has h =
        where_step (at m vars) thread (with_globals thread (with_word thread.globals a i word)) (th code f below (with_word thread.globals a i word) (m + 1) vars) (nat_lt i (width thread.globals a))
        (step_is code f below thread.globals m vars (Op.StoreArray a (base f) (base f + 1)) s.0
        ∙ on_has vars (base f) i (λ k. on (first (get_or vars (base f + 1) None)) (λ v. within (at m vars) k (width thread.globals a) (goes_with (at m vars) (with_word thread.globals a k v)))) h.index
        ∙ on_has vars (base f + 1) word (λ v. within (at m vars) i (width thread.globals a) (goes_with (at m vars) (with_word thread.globals a i v))) has)
        refl
        (λ e. runs_on (with_globals thread (with_word thread.globals a i word)) q (m + 1) vars scope refl s.1 h.holds h.rest)
    store_step Returned m q word vars scope stay s has h = absurd (stay refl)

    -- a word that is held goes where its place says, as the result of a call does
    delivered_step : (place : Place) (m q word : ℕ) (vars : Vars) (scope : List ℕ) → StoreAt fetch (base f) (target_of place) m q → Has vars (held fetch (base f) (target_of place)) word → Ready thread.frame place vars scope q → (place ≡ Returned → ⊥) → Under (delivered_or thread (stored thread place word)) (at m vars)
    delivered_step place m q word vars scope s has h stay = by_step (stored thread place word) (store_step place m q word vars scope stay s has h)
      where
        by_step : (result : Result Running TrapKind) → OneStep (at m vars) thread result → Under (delivered_or thread result) (at m vars)
        by_step (Ok after) o = under_later after (at m vars) o.0 (one_leads code (at m vars) o.0 o.1) o.2
        by_step (Err trap) o = Failing trap refl (one_ends code (at m vars) (Finished (record { trap = Some trap; globals = thread.globals })) o)

    pub ready_kept : (place : Place) (q : ℕ) (vars after : Vars) (scope : List ℕ) → Kept (held fetch (base f) (target_of place)) vars after → Ready thread.frame place vars scope q → Ready thread.frame place after scope q
    ready_kept place q vars after scope kept h = record {
      holds = holds_kept f thread.frame.names vars after scope (held fetch (base f) (target_of place)) (after_base fetch (base f) (target_of place)) kept h.holds;
      target = h.target;
      index = index_kept (base f) place vars after fetch kept h.index;
      rest = h.rest;
      room = subst (HeldRoom (base f) (target_of place)) (sym kept.long) h.room;
    }

    -- a result that is held first
    held_comes : (place : Place) (m q word : ℕ) (vars : Vars) (scope : List ℕ) → (place ≡ Returned → ⊥) → held fetch (base f) (target_of place) < length vars → StoreAt fetch (base f) (target_of place) (m + 1) q → Ready thread.frame place vars scope q
        → Under (delivered_or thread (stored thread place word)) (at (m + 1) (put vars (held fetch (base f) (target_of place)) word))
    held_comes place m q word vars scope stay lt s h =
        let d = held fetch (base f) (target_of place) in
        let after : Vars = put vars d word in
        delivered_step place (m + 1) q word after scope s (has_put d word vars lt) (ready_kept place q vars after scope (kept_put d d word vars (omega arith)) h) stay

    -- a frame that waits goes on when its result comes
    pub result_comes : (place : Place) (m q word : ℕ) (to : Option ℕ) (vars : Vars) (scope : List ℕ) → ResultAt fetch (base f) (target_of place) to m q → Ready thread.frame place vars scope q
        → Under (delivered_or thread (stored thread place word)) (record { frame = with_result (frame_at f m vars) to word; below = below; globals = thread.globals })
    result_comes Nowhere m q word to vars scope r h =
        subst (λ (d : Option ℕ). Under thread (record { frame = with_result (frame_at f m vars) d word; below = below; globals = thread.globals })) (sym r.0) (runs_on thread q (m + 1) vars scope refl r.1 h.holds h.rest)
    result_comes (InLocal x) m q word to vars scope r h =
        subst (λ (d : Option ℕ). Under (with_names thread (with_word thread.frame.names x 0 word)) (record { frame = with_result (frame_at f m vars) d word; below = below; globals = thread.globals })) (sym r.0) (set_local x q (m + 1) word vars scope r.1 h)
    result_comes (InGlobal g) m q word to vars scope r h =
        subst (λ (d : Option ℕ). Under (with_globals thread (with_word thread.globals g 0 word)) (record { frame = with_result (frame_at f m vars) d word; below = below; globals = thread.globals })) (sym r.0)
        (held_comes (InGlobal g) m q word vars scope (λ e. cc) (omega (arith, h.room)) r.1 h)
    result_comes (InLocalElement a i) m q word to vars scope r h =
        subst (λ (d : Option ℕ). Under (delivered_or thread (stored thread (InLocalElement a i) word)) (record { frame = with_result (frame_at f m vars) d word; below = below; globals = thread.globals })) (sym r.0)
        (held_comes (InLocalElement a i) m q word vars scope (λ e. cc) (omega (arith, h.room)) r.1 h)
    result_comes (InGlobalElement a i) m q word to vars scope r h =
        subst (λ (d : Option ℕ). Under (delivered_or thread (stored thread (InGlobalElement a i) word)) (record { frame = with_result (frame_at f m vars) d word; below = below; globals = thread.globals })) (sym r.0)
        (held_comes (InGlobalElement a i) m q word vars scope (λ e. cc) (omega (arith, h.room)) r.1 h)
    result_comes Returned m q word to vars scope r h =
        subst (λ (d : Option ℕ). Under (to_do thread (GiveBackWord word ∷ [])) (record { frame = with_result (frame_at f m vars) d word; below = below; globals = thread.globals })) (sym r.0)
        (Giving (m + 1) (put vars (base f) word) below word refl (stays code (at (m + 1) (put vars (base f) word))) r.1 (has_put (base f) word vars (omega (arith, h.room))) waits)

  pub delivers : (waiting : WaitingFrame) (ws : List WaitingFrame) (flat : FlatFrame) (gs : List FlatFrame) (globals : List (List ℕ)) (word : ℕ) → Waits waiting flat → AllWait ws gs
      → Under (delivered waiting ws globals word) (record { frame = answered code flat word; below = gs; globals = globals })
  delivers waiting ws flat gs globals word h all =
      let thread : Running = record { frame = waiting.frame; below = ws; globals = globals } in
      let is : answered code flat word ≡ with_result (frame_at waiting.frame.function h.place h.vars) h.to word =
      ap (λ (g : FlatFrame). answered code g word) h.is ∙ ap (λ (d : Option ℕ). with_result (frame_at waiting.frame.function h.place h.vars) d word) h.wants in
      subst (λ (g : FlatFrame). Under (delivered waiting ws globals word) (record { frame = g; below = gs; globals = globals })) (sym is)
      (result_comes thread gs all waiting.place h.place h.q word h.to h.vars h.call.scope h.result h.ready)
