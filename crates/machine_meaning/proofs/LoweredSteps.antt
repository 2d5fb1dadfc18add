-- Each step of a source thread is answered by the flat code that stands for it.
use Rattle.machine_meaning.proofs.Common.{◌≡◌, ℕ, suc, ◌+◌, ◌<◌, ◌≤◌, Bool, true, false, List, [], ◌∷◌, map, length, Option, Some, None, refl, sym, ap, ◌∙◌, subst, arith, get_or, IsSome, nat_lt, slice_index, slice_index_or, Result, Ok, Err, Contains, ltb-true, length-map, get_or-map, Call, Question, Finish, call_of, spawn_of, Goes, Asks, Stops, and_then, moves, IsAnswered, TrapKind, goes_on, number_of, expr_temporaries, arguments_temporaries, call_temporaries, call_site, ExprTree, CallTree, CallFunction, CallTable, CallSpawn, CallModelled, FunctionTree, ProgramTree, NoStmts, signature_of, IsExprScoped, AreExprsScoped, IsCallScoped, signature_at, Place, Running, Waiting, function_at, pushed, target_of, function_calls, SourceMove, to_do, valued, all_valued, on_value, waits_at, entered, entered_where, entered_by, asks_if, called, Value, with_first, known, counted, Op, FlatCode, operation_at, members_of, FlatFrame, FlatThread, FlatWaiting, Finished, site_in, on, first, scalars, both, where_in, enters, enters_by, place_in, flat_step, flat_machine, finishing_move, arguments_in}
use Rattle.flat_code.specs.Step as flat
use Rattle.flat_code.specs.Frames as frames
use Rattle.machine_meaning.proofs.InPlace.{ExprAt, ArgsAt, CallAt, ResultAt, held}
use Rattle.machine_meaning.proofs.Silent.{Vars, frame_at, Has, Kept, kept_all, kept_both, kept_fewer, Leads, Ends, stays, leads_both, ends_later, step_is, on_has}
use Rattle.machine_meaning.proofs.Expressions.{Comes, expr_comes}
use Rattle.machine_meaning.proofs.Frames.{after_base, fn, cx, base, Lowers, Holds, holds_kept, Ready, Waits, AllWait, thread_of, Under, UnderWay, WaitUnder, ready_kept}
use Rattle.machine_meaning.proofs.Pushed.{pushed_runs}

-- the parameters of a function that is there
pub params_at : (program : ProgramTree) (f : ℕ) → f < length (map signature_of program.functions) → (signature_at (map signature_of program.functions) f).params ≡ (function_at program f).params
params_at program f lt =
    let there : f < length program.functions = omega (arith, length-map program.functions signature_of) in
    let default : FunctionTree = record { name = []; params = 0; gives = false; sizes = []; body = NoStmts } in
    ap (λ s. s.params) (get_or-map signature_of program.functions f default (record { params = 0; gives = false }) there)

module _ (program : ProgramTree) (code : FlatCode) where
  -- the flat thread answers a move of the source's
  abbrev pub Answers : SourceMove → FlatThread → Type 0
  Answers move flat = IsAnswered (Under program code) (WaitUnder program code) (flat_machine code) (finishing_move move) flat

  pub answers_later : (move : SourceMove) (from to : FlatThread) → Leads code from to → Answers move to → Answers move from
  answers_later (Goes next) from to h a =
      let e : suc (h.count + a.0) ≡ h.count + suc a.0 = omega arith in
      (h.count + a.0, a.1, ap (λ n. moves (flat_machine code) n from) e ∙ goes_on (flat_machine code) h.count (suc a.0) from to h.silent ∙ a.2, a.3)
  answers_later (Asks question waiting) from to h a = (h.count + a.0, a.1, goes_on (flat_machine code) h.count a.0 from to h.silent ∙ a.2, a.3)
  answers_later (Stops end) from to h a = (h.count + a.0, goes_on (flat_machine code) h.count a.0 from to h.silent ∙ a.1)

  pub goes_by : (flat next : FlatThread) (thread : Running) → flat_step code flat ≡ Goes next → Under program code thread next → Answers (Goes thread) flat
  goes_by flat next thread e u = (0, next, ap (λ m. and_then m (moves (flat_machine code) 0)) e, u)

  pub asks_by : (flat : FlatThread) (question : Question) (waiting : Waiting) (other : FlatWaiting) → flat_step code flat ≡ Asks question other → WaitUnder program code waiting other → Answers (Asks question waiting) flat
  asks_by flat question waiting other e u = (1, other, ap (λ m. and_then m (moves (flat_machine code) 0)) e, u)

  pub stops_by : (flat : FlatThread) (finish : Finish) → flat_step code flat ≡ Stops (Finished finish) → Answers (Stops finish) flat
  stops_by flat finish e = (1, ap (λ m. and_then m (moves (flat_machine code) 0)) e)

  -- ---- values and arguments

  module _ (thread : Running) (below : List FlatFrame) where
    abbrev pub f : ℕ
    f = thread.frame.function

    abbrev pub at : ℕ → Vars → FlatThread
    at p vars = thread_of program code thread p vars below

    abbrev pub fetch : ℕ → Option Op
    fetch p = operation_at code f p

    pub value_answers : (p m d : ℕ) (vars : Vars) (v : Value) (use_it : ℕ → SourceMove) → Comes code f below thread.globals p m d vars v
        → ((word : ℕ) (after : Vars) → Has after d word → Kept d vars after → Answers (use_it word) (at m after)) → Answers (on_value thread v use_it) (at p vars)
    value_answers p m d vars (Ok word) use_it r rest = answers_later (use_it word) (at p vars) (at m r.after) r.leads (rest word r.after r.holds r.kept)
    value_answers p m d vars (Err trap) use_it r rest = (r.count, r.stops)

    -- the arguments are in their variables
    record ArgsLeave (p q d : ℕ) (vars : Vars) (es : List ExprTree) (words : List ℕ) : Type 0 where
      pub after : Vars
      pub leads : Leads code (at p vars) (at q after)
      pub all : scalars (at q after) (arguments_in es d) ≡ Some words
      pub kept : Kept d vars after

    abbrev ArgsCome : ℕ → ℕ → ℕ → Vars → List ExprTree → Result (List ℕ) TrapKind → Type 0
    ArgsCome p q d vars es (Ok words) = ArgsLeave p q d vars es words
    ArgsCome p q d vars es (Err trap) = Ends code (at p vars) (Finished (record { trap = Some trap; globals = thread.globals }))

    args_rest : (p m q d : ℕ) (vars : Vars) (e : ExprTree) (es : List ExprTree) (v : Value) (rest : Result (List ℕ) TrapKind) → Comes code f below thread.globals p m d vars v
        → ((word : ℕ) (after : Vars) → Kept d vars after → ArgsCome m q (d + 1) after es rest) → ArgsCome p q d vars (e ∷ es) (with_first v rest)
    args_rest p m q d vars e es (Ok word) (Ok words) r more =
        let k = more word r.after r.kept in
        let has : Has k.after d word = k.kept.same d (omega arith) ∙ r.holds in
        record {
          after = k.after;
          leads = leads_both code (at p vars) (at m r.after) (at q k.after) r.leads k.leads;
          all = ap (λ w. both (first w) (scalars (at q k.after) (arguments_in es (d + 1)))) has ∙ ap (λ ws. both (Some word) ws) k.all;
          kept = kept_both d vars r.after k.after r.kept (kept_fewer (d + 1) d r.after k.after (omega arith) k.kept);
        }
    args_rest p m q d vars e es (Ok word) (Err trap) r more = ends_later code (at p vars) (at m r.after) (Finished (record { trap = Some trap; globals = thread.globals })) r.leads (more word r.after r.kept)
    args_rest p m q d vars e es (Err trap) rest r more = r

    args_come : (scope : List ℕ) (es : List ExprTree) (p q start k d : ℕ) (vars : Vars) → ArgsAt fetch p es d q → AreExprsScoped (cx program code f) scope es → d ≡ start + k → base program code f ≤ start → start + arguments_temporaries k es ≤ length vars
        → Holds program code f thread.frame.names vars scope → ArgsCome p q d vars es (all_valued thread es)
    args_come scope [] p q start k d vars h s e le room holds = record { after = vars; leads = subst (λ n. Leads code (at p vars) (at n vars)) (sym h) (stays code (at p vars)); all = refl; kept = kept_all d vars }
    args_come scope (e ∷ es) p q start k d vars h s at' le room holds =
        args_rest p h.0 q d vars e es (valued thread e) (all_valued thread es)
        (expr_comes code f below thread.globals (cx program code f) scope thread.frame.names holds.wide e p d h.0 vars h.1 s.0 (omega arith) (omega arith) holds.reads)
        (λ word after kept. args_come scope es h.0 q start (1 + k) (d + 1) after h.2 s.1 (omega arith) le (omega (arith, kept.long)) (holds_kept program code f thread.frame.names vars after scope d (omega arith) kept holds))

    args_answers : (p q d : ℕ) (vars : Vars) (es : List ExprTree) (result : Result (List ℕ) TrapKind) (use_it : List ℕ → SourceMove) → ArgsCome p q d vars es result
        → ((words : List ℕ) (after : Vars) → result ≡ Ok words → scalars (at q after) (arguments_in es d) ≡ Some words → Kept d vars after → Answers (use_it words) (at q after)) → Answers (on_value thread result use_it) (at p vars)
    args_answers p q d vars es (Ok words) use_it r rest = answers_later (use_it words) (at p vars) (at q r.after) r.leads (rest words r.after refl r.all r.kept)
    args_answers p q d vars es (Err trap) use_it r rest = (r.count, r.stops)

    pub value_here : (scope : List ℕ) (e : ExprTree) (p q d : ℕ) (vars : Vars) → ExprAt fetch p e d q → IsExprScoped (cx program code f) scope e → base program code f ≤ d → d + expr_temporaries e ≤ length vars
        → Holds program code f thread.frame.names vars scope → Comes code f below thread.globals p q d vars (valued thread e)
    value_here scope e p q d vars h s le room holds = expr_comes code f below thread.globals (cx program code f) scope thread.frame.names holds.wide e p d q vars h s le room holds.reads

    -- ---- calls

    module _ (given : Lowers program code) (waits : AllWait program code thread.below below) where
      -- the running frame waits at a call of its text
      waits_here : (call : CallTree) (place : Place) (m q site : ℕ) (to : Option ℕ) (op : Op) (vars : Vars) (scope : List ℕ) → fetch m ≡ Some op → site_in (Some op) ≡ Some site → place_in (Some op) ≡ to → site ≡ (call_site call).number
          → ResultAt fetch (base program code f) (target_of place) to m q → Ready program code thread.frame place vars scope q
          → Contains (function_calls (fn program code f)) (record { call = call; target = target_of place; scope = scope; rest = thread.frame.to_do }) → Waits program code (waits_at thread site place) (frame_at f m vars)
      waits_here call place m q site to op vars scope e at_site at_place number result ready found = record {
        call = record { call = call; target = target_of place; scope = scope; rest = thread.frame.to_do };
        waits = record { in_text = found; site = number; target = refl; rest = refl };
        place = m;
        vars = vars;
        q = q;
        to = to;
        is = refl;
        site = ap site_in e ∙ at_site;
        wants = ap place_in e ∙ at_place;
        result = result;
        ready = ready;
      }

      enters_answer : (place : Place) (m g site : ℕ) (vars : Vars) (words : List ℕ) → flat_step code (at m vars) ≡ enters code (at m vars) g words → g < length program.functions → length words ≡ (fn program code g).params
          → Waits program code (waits_at thread site place) (frame_at f m vars) → Answers (entered program thread site place g words) (at m vars)
      enters_answer place m g site vars words e lt many w =
          let next : FlatThread = record { frame = frames.pushed code g words; below = frame_at f m vars ∷ below; globals = thread.globals } in
          goes_by (at m vars) next (record { frame = pushed program g words; below = waits_at thread site place ∷ thread.below; globals = thread.globals }) e
          (UnderWay 0 (frames.pushed code g words).variables (frame_at f m vars ∷ below) (stays code next) (pushed_runs program code given g words lt many) (w, waits))

      asks_answer : (place : Place) (m site : ℕ) (vars : Vars) (call : Call) → flat_step code (at m vars) ≡ flat.asks (at m vars) call → Waits program code (waits_at thread site place) (frame_at f m vars)
          → Answers (Rattle.c_mean.specs.Steps.asks thread site place call) (at m vars)
      asks_answer place m site vars call e w =
          asks_by (at m vars) (record { call = call; globals = thread.globals }) (record { front = waits_at thread site place; below = thread.below }) (record { frame = frame_at f m vars; below = below }) e (record { front = w; below = waits })

      known_answers : (place : Place) (m site : ℕ) (vars : Vars) (call : Option Call) → IsSome call → flat_step code (at m vars) ≡ on call (flat.asks (at m vars)) → Waits program code (waits_at thread site place) (frame_at f m vars)
          → Answers (asks_if thread site place call) (at m vars)
      known_answers place m site vars None some e w = absurd cc
      known_answers place m site vars (Some call) some e w = asks_answer place m site vars call e w

      table_answers : (place : Place) (m s t index argument : ℕ) (vars : Vars) (within' : Bool) → t < length program.tables → nat_lt index (length (slice_index_or program.tables t [])) ≡ within'
          → flat_step code (at m vars) ≡ where_in within' (at m vars) TrapKind.Table (enters code (at m vars) (slice_index (slice_index_or program.tables t []) index) (argument ∷ []))
          → Waits program code (waits_at thread s place) (frame_at f m vars)
          → Answers (entered_where within' program thread s place (slice_index (slice_index_or program.tables t []) index) argument) (at m vars)
      table_answers place m s t index argument vars true there is e w =
          let member = given.members t index there (ltb-true index (length (slice_index_or program.tables t [])) is) in
          enters_answer place m (slice_index (slice_index_or program.tables t []) index) s vars (argument ∷ []) e member.0 (sym member.1) w
      table_answers place m s t index argument vars false there is e w = stops_by (at m vars) (record { trap = Some TrapKind.Table; globals = thread.globals }) e

      pub called_answers : (call : CallTree) (place : Place) (p m q : ℕ) (to : Option ℕ) (vars : Vars) (scope : List ℕ) → CallAt fetch p call (held fetch (base program code f) (target_of place)) to m → IsCallScoped (cx program code f) scope call
          → held fetch (base program code f) (target_of place) + call_temporaries call ≤ length vars → ResultAt fetch (base program code f) (target_of place) to m q → Ready program code thread.frame place vars scope q
          → Contains (function_calls (fn program code f)) (record { call = call; target = target_of place; scope = scope; rest = thread.frame.to_do }) → Answers (called program thread place call) (at p vars)
      called_answers (CallFunction s g es) place p m q to vars scope h sc room result ready found =
          let d = held fetch (base program code f) (target_of place) in
          args_answers p m d vars es (all_valued thread es) (λ arguments. entered program thread s place g arguments)
          (args_come scope es p m d 0 d vars h.0 sc.2 (omega arith) (after_base fetch (base program code f) (target_of place)) room ready.holds)
          (λ words after is all kept.
          enters_answer place m g s after words
          (step_is code f below thread.globals m after (Op.Call s to g (arguments_in es d)) h.1 ∙ ap (λ ws. on ws (enters code (at m after) g)) all)
          (omega (arith, sc.0, length-map program.functions signature_of)) (counted thread.frame.names thread.globals es words is ∙ sc.1 ∙ params_at program g sc.0)
          (waits_here (CallFunction s g es) place m q s to (Op.Call s to g (arguments_in es d)) after scope h.1 refl refl refl result (ready_kept program code thread below waits place q vars after scope kept ready) found))
      called_answers (CallTable s t i e) place p m q to vars scope h sc room result ready found =
          let d = held fetch (base program code f) (target_of place) in
          let le = after_base fetch (base program code f) (target_of place) in
          let members = slice_index_or program.tables t [] in
          value_answers p h.0 d vars (valued thread i) (λ index. on_value thread (valued thread e) (λ argument. entered_by members program thread s place index argument))
          (value_here scope i p h.0 d vars h.1 sc.1 le (omega arith) ready.holds)
          (λ index middle has kept.
          value_answers h.0 m (d + 1) middle (valued thread e) (λ argument. entered_by members program thread s place index argument)
          (value_here scope e h.0 m (d + 1) middle h.2 sc.2 (omega arith) (omega (arith, kept.long)) (holds_kept program code f thread.frame.names vars middle scope d le kept ready.holds))
          (λ argument after has' kept'.
          table_answers place m s t index argument after (nat_lt index (length members)) sc.0 refl
          (step_is code f below thread.globals m after (Op.CallTable s to t d (d + 1)) h.3
          ∙ on_has after d index (λ k. on (first (get_or after (d + 1) None)) (enters_by (members_of code t) code (at m after) k)) (kept'.same d (omega arith) ∙ has)
          ∙ on_has after (d + 1) argument (enters_by (members_of code t) code (at m after) index) has'
          ∙ ap (λ (tables : List (List ℕ)). enters_by (slice_index_or tables t []) code (at m after) index argument) given.tables)
          (waits_here (CallTable s t i e) place m q s to (Op.CallTable s to t d (d + 1)) after scope h.3 refl refl refl result
          (ready_kept program code thread below waits place q vars after scope (kept_both d vars middle after kept (kept_fewer (d + 1) d middle after (omega arith) kept')) ready) found)))
      called_answers (CallSpawn s g e) place p m q to vars scope h sc room result ready found =
          let d = held fetch (base program code f) (target_of place) in
          value_answers p m d vars (valued thread e) (λ argument. Rattle.c_mean.specs.Steps.asks thread s place (spawn_of g argument))
          (value_here scope e p m d vars h.0 sc.2 (after_base fetch (base program code f) (target_of place)) room ready.holds)
          (λ argument after has kept.
          asks_answer place m s after (spawn_of g argument)
          (step_is code f below thread.globals m after (Op.Spawn s to g d) h.1 ∙ on_has after d argument (λ a. flat.asks (at m after) (spawn_of g a)) has)
          (waits_here (CallSpawn s g e) place m q s to (Op.Spawn s to g d) after scope h.1 refl refl refl result (ready_kept program code thread below waits place q vars after scope kept ready) found))
      called_answers (CallModelled s c es) place p m q to vars scope h sc room result ready found =
          let d = held fetch (base program code f) (target_of place) in
          args_answers p m d vars es (all_valued thread es) (λ arguments. asks_if thread s place (call_of (number_of c) arguments))
          (args_come scope es p m d 0 d vars h.0 sc.1 (omega arith) (after_base fetch (base program code f) (target_of place)) room ready.holds)
          (λ words after is all kept.
          known_answers place m s after (call_of (number_of c) words) (known c words (counted thread.frame.names thread.globals es words is ∙ sc.0))
          (step_is code f below thread.globals m after (Op.Model s to (number_of c) (arguments_in es d)) h.1 ∙ ap (λ ws. on ws (λ arguments. on (call_of (number_of c) arguments) (flat.asks (at m after)))) all)
          (waits_here (CallModelled s c es) place m q s to (Op.Model s to (number_of c) (arguments_in es d)) after scope h.1 refl refl refl result (ready_kept program code thread below waits place q vars after scope kept ready) found))
