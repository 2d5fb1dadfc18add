-- The public relation between threads and the one that the steps keep.
use Rattle.machine_meaning.proofs.Common.{◌≡◌, ℕ, ◌+◌, ◌<◌, false, List, [], ◌∷◌, length, Some, refl, sym, ap, ◌∙◌, subst, arith, length-append, ⊎_elim, slice_get, Contains, cases_lt, below, function_temporaries, FunctionTree, ProgramTree, NoStmts, IsWellScoped, Target, ToLocal, ToCaller, target_of, CallInText, function_calls, Item, FlatFunction, Op, operation_at, FlatFrame, FlatThread, FlatWaiting, site_in, function_ops, function_sizes, lowered, sites_distinct}
use Rattle.c_mean.specs.Frames.{Place, Nowhere, InLocal, InGlobal, InLocalElement, InGlobalElement, Returned, Frame, WaitingFrame, Running, Waiting, function_at}
use Rattle.flat_code.specs.Codes as codes
use Rattle.machine_meaning.specs.StandsFor.{IndexStands, FrameStandsFor, FramesStandFor, StandsFor, StartsAs}
use Rattle.machine_meaning.proofs.InPlace.{ResultAt}
use Rattle.machine_meaning.proofs.Silent.{frame_at, Leads, stays}
use Rattle.machine_meaning.proofs.Stands.{AtEnd}
use Rattle.machine_meaning.proofs.Frames.{TargetScoped, IndexHeld, HeldRoom, cx, base, temps, StandsIn, RestStands, Waits, AllWait, thread_of, Under, UnderWay, WaitUnder}
use Rattle.machine_meaning.proofs.Pushed.{all_in_self, start_stands}
use Rattle.machine_meaning.proofs.Lowered.{function_is, lowers, scalars_length}
use Rattle.machine_meaning.proofs.TextCalls.{RestIs, CallStands, stmts_calls_stand, contained_stands}
use Rattle.machine_meaning.proofs.SiteNumbers.{one_function, one_place}
use Rattle.machine_meaning.proofs.Numbering.{past_end}
use Rattle.machine_meaning.proofs.Sites.{nothing_in}

index_held : (tree : FunctionTree) (place : Place) (flat : FlatFrame) → IndexStands tree place flat → IndexHeld (length tree.sizes) place flat.variables
index_held tree Nowhere flat h = tt
index_held tree (InLocal x) flat h = tt
index_held tree (InGlobal g) flat h = tt
index_held tree (InLocalElement a i) flat h = h
index_held tree (InGlobalElement a i) flat h = h
index_held tree Returned flat h = tt

index_stands : (tree : FunctionTree) (place : Place) (flat : FlatFrame) → IndexHeld (length tree.sizes) place flat.variables → IndexStands tree place flat
index_stands tree Nowhere flat h = tt
index_stands tree (InLocal x) flat h = tt
index_stands tree (InGlobal g) flat h = tt
index_stands tree (InLocalElement a i) flat h = h
index_stands tree (InGlobalElement a i) flat h = h
index_stands tree Returned flat h = tt

pub sizes_length : (tree : FunctionTree) → length (function_sizes tree) ≡ length tree.sizes + function_temporaries tree
sizes_length tree = length-append tree.sizes (Rattle.c_tree.specs.Sizes.scalars (function_temporaries tree)) ∙ ap (λ n. length tree.sizes + n) (scalars_length (function_temporaries tree))

-- a frame by its function and its place
frame_is : (flat : FlatFrame) (f p : ℕ) → flat.function ≡ f → flat.next ≡ p → flat ≡ frame_at f p flat.variables
frame_is flat f p e k = ap (λ g. frame_at g flat.next flat.variables) e ∙ ap (λ n. frame_at f n flat.variables) k

module _ (program : ProgramTree) (scoped : IsWellScoped program) where
  -- a function with a call is there
  has_calls : (f : ℕ) (call : CallInText) → Contains (function_calls (function_at program f)) call → f < length program.functions
  has_calls f call h = ⊎_elim (λ lt. lt)
      (λ ge. absurd (nothing_in call (subst (λ (tree : FunctionTree). Contains (function_calls tree) call) (past_end program.functions f (record { name = []; params = 0; gives = false; sizes = []; body = NoStmts }) ge) h)))
      (cases_lt f (length program.functions))

  call_is : (f : ℕ) (call : CallInText) (lt : f < length program.functions) → Contains (function_calls (function_at program f)) call
      → CallStands (operation_at (lowered program) f) (base program (lowered program) f) (cx program (lowered program) f) (temps program (lowered program) f) (function_calls (function_at program f)) call
  call_is f call lt h =
      let code = lowered program in
      let here = (lowers program scoped).functions f lt in
      let tree = function_at program f in
      contained_stands (operation_at code f) (base program code f) (cx program code f) (temps program code f) (function_calls tree) (function_calls tree) call
      (stmts_calls_stand (operation_at code f) (base program code f) (cx program code f) (temps program code f) (function_calls tree) tree.body false 0 here.last 0 0 (below tree.params) []
      here.body here.scoped.body (omega arith) (all_in_self (function_calls tree)) (AtEnd here.end) tt)
      h

  rest_is : (target : Target) (frame : Frame) (items : List Item) (scope : List ℕ) (q : ℕ) → frame.to_do ≡ items
      → RestIs (operation_at (lowered program) frame.function) (base program (lowered program) frame.function) (cx program (lowered program) frame.function) (temps program (lowered program) frame.function) (function_calls (function_at program frame.function)) target items scope q
      → RestStands program (lowered program) target frame scope q
  rest_is (ToLocal x) frame items scope q e h = subst (λ items. StandsIn program (lowered program) frame.function items q (x ∷ scope)) (sym e) h
  rest_is ToCaller frame items scope q e h = tt
  rest_is _ frame items scope q e h = subst (λ items. StandsIn program (lowered program) frame.function items q scope) (sym e) h

  -- two operations of a function with the same site are one
  one_site : (f i j s : ℕ) → f < length program.functions → site_in (operation_at (lowered program) f i) ≡ Some s → site_in (operation_at (lowered program) f j) ≡ Some s → i ≡ j
  one_site f i j s lt h k =
      let ops : (codes.function_at (lowered program) f).ops ≡ function_ops (function_at program f) = ap (λ (g : FlatFunction). g.ops) (function_is program scoped f lt) in
      one_place (function_ops (function_at program f)) i j s (one_function program.functions f (record { name = []; params = 0; gives = false; sizes = []; body = NoStmts }) lt (sites_distinct program scoped.site_numbers.0))
      (ap (λ (os : List Op). site_in (slice_get os i)) (sym ops) ∙ h) (ap (λ (os : List Op). site_in (slice_get os j)) (sym ops) ∙ k)

  waits_from : (waiting : WaitingFrame) (flat : FlatFrame) → FrameStandsFor program waiting flat → Waits program (lowered program) waiting flat
  waits_from waiting flat h =
      let code = lowered program in
      let f = waiting.frame.function in
      let lt : f < length program.functions = has_calls f h.call h.waits.in_text in
      let there = call_is f h.call lt h.waits.in_text in
      let site : site_in (operation_at code f there.place) ≡ Some waiting.site = there.site ∙ ap (λ n. Some n) (sym h.waits.site) in
      let stands : site_in (operation_at code f flat.next) ≡ Some waiting.site = ap (λ g. site_in (operation_at code g flat.next)) (sym h.function) ∙ h.site in
      let long : length flat.variables ≡ base program code f + temps program code f = h.variables ∙ sizes_length (function_at program f) in
      record {
        call = h.call;
        waits = h.waits;
        place = there.place;
        vars = flat.variables;
        q = there.q;
        to = there.to;
        is = frame_is flat f there.place h.function (one_site f flat.next there.place waiting.site lt stands site);
        site = site;
        wants = there.wants;
        result = subst (λ target. ResultAt (operation_at code f) (base program code f) target there.to there.place there.q) (sym h.waits.target) there.result;
        ready = record {
          holds = record { defined = lt; wide = h.names; long = long; reads = h.scope };
          target = subst (TargetScoped (cx program code f) h.call.scope) (sym h.waits.target) there.target;
          index = index_held (function_at program f) waiting.place flat h.index;
          rest = subst (λ target. RestStands program code target waiting.frame h.call.scope there.q) (sym h.waits.target) (rest_is h.call.target waiting.frame h.call.rest h.call.scope there.q h.waits.rest there.rest);
          room = subst (λ n. HeldRoom (base program code f) (target_of waiting.place) n) (sym long) (subst (λ target. HeldRoom (base program code f) target (base program code f + temps program code f)) (sym h.waits.target) there.room);
        };
      }

  stands_from : (waiting : WaitingFrame) (flat : FlatFrame) → Waits program (lowered program) waiting flat → FrameStandsFor program waiting flat
  stands_from waiting flat h =
      let f = waiting.frame.function in
      subst (FrameStandsFor program waiting) (sym h.is)
      (record {
        call = h.call;
        waits = h.waits;
        function = refl;
        site = h.site;
        names = h.ready.holds.wide;
        variables = h.ready.holds.long ∙ sym (sizes_length (function_at program f));
        scope = h.ready.holds.reads;
        index = index_stands (function_at program f) waiting.place (frame_at f h.place h.vars) h.ready.index;
      })

  all_from : (ws : List WaitingFrame) (gs : List FlatFrame) → FramesStandFor program ws gs → AllWait program (lowered program) ws gs
  all_from [] [] h = tt
  all_from (w ∷ ws) (g ∷ gs) h = (waits_from w g h.0, all_from ws gs h.1)
  all_from _ _ h = h

  all_stand : (ws : List WaitingFrame) (gs : List FlatFrame) → AllWait program (lowered program) ws gs → FramesStandFor program ws gs
  all_stand [] [] h = tt
  all_stand (w ∷ ws) (g ∷ gs) h = (stands_from w g h.0, all_stand ws gs h.1)
  all_stand _ _ h = h

  pub wait_from : (waiting : Waiting) (flat : FlatWaiting) → StandsFor program waiting flat → WaitUnder program (lowered program) waiting flat
  wait_from waiting flat h = record { front = waits_from waiting.front flat.frame h.front; below = all_from waiting.below flat.below h.below }

  pub stand_from : (waiting : Waiting) (flat : FlatWaiting) → WaitUnder program (lowered program) waiting flat → StandsFor program waiting flat
  stand_from waiting flat h = record { front = stands_from waiting.front flat.frame h.front; below = all_stand waiting.below flat.below h.below }

  -- a thread whose running frame is at its function's start is under way
  pub start_from : (thread : Running) (flat : FlatThread) → StartsAs program thread flat → Under program (lowered program) thread flat
  start_from thread flat h =
      let code = lowered program in
      let f = thread.frame.function in
      let is : flat ≡ thread_of program code thread 0 flat.frame.variables flat.below =
      ap (λ (frame : FlatFrame). record { frame = frame; below = flat.below; globals = flat.globals }) (frame_is flat.frame f 0 h.frame.function h.frame.next)
      ∙ ap (λ (globals : List (List ℕ)). record { frame = frame_at f 0 flat.frame.variables; below = flat.below; globals = globals }) h.globals in
      UnderWay 0 flat.frame.variables flat.below (subst (λ (other : FlatThread). Leads code flat other) is (stays code flat))
      (record {
        scope = below (function_at program f).params;
        holds = record { defined = h.frame.defined; wide = h.frame.names; long = h.frame.variables ∙ sizes_length (function_at program f); reads = h.frame.scope };
        stands = subst (λ items. StandsIn program code f items 0 (below (function_at program f).params)) (sym h.frame.to_do) (start_stands program code (lowers program scoped) f h.frame.defined);
      })
      (all_from thread.below flat.below h.below)
