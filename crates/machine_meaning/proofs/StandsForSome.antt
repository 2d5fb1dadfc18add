-- Each machine thread that rests stands for some source thread: its names are read from the frames' words, and what it has
-- still to do from the text.
use Rattle.machine_meaning.proofs.Common.{◌≡◌, ℕ, zero, suc, ◌+◌, ◌*◌, ◌<◌, Bool, true, false, List, [], ◌∷◌, ◌++◌, length, map, drop, take, cond, Option, Some, None, refl, sym, ap, ◌∙◌, subst, arith, slice_get, slice_index, sum, flat_map, length-map, length-take-le, length-drop, take-append-drop, sum_by-cons, function_ops, lowered_function, lowered, Place, Nowhere, InLocal, InGlobal, InLocalElement, InGlobalElement, Returned, WaitingFrame, Waiting, function_at, pushed, Target, ToNowhere, ToLocal, ToGlobal, ToLocalElement, ToGlobalElement, ToCaller, target_of, ProgramTree, IsWellScoped, IsValid, Pool, FlatFunction, Op, FlatCode, operation_at, site_of, AreGlobals, global_widths, Frame, Calls, ReturnsInto, IsStack, FramesAt, chain_below, a0, Core, variable_word, ecall_word, IsResting, AtStart, AtCall, PastCall, read, kind_of, Certificate, Image}
use Rattle.cap_word.specs.Rows.{width, word_at, scalars}
use Rattle.c_mean.specs.Frames as source
use Rattle.flat_code.specs.Codes as codes
use Rattle.machine_meaning.proofs.Lowered.{function_is, lowers}
use Rattle.machine_meaning.proofs.Pushed.{pushed_holds}
use Rattle.machine_world.specs.Places as places
use Rattle.machine_world.specs.Places.{Checked, InStub, InPrologue, InOperation, IsAt, Row, NoFrame, Empty, Fresh, Linking, Whole, row_of, row_at, row_in, prologue_row, transfer_row, is_linking, function_of}
use Rattle.machine_world.specs.StandsFor.{SourceThread, Starts, Waits, HoldsIndex, IsWaitingFrame, AreWaitingFrames, IsStartingFrame, StandsFor, first_temporary}
use Rattle.stack_certificate.specs.declared.sites.LinkKind.{LinkKind}
use Rattle.machine_meaning.proofs.Numbering.{numbered, numbered_length, numbered_at}
use Rattle.machine_meaning.proofs.Past.{ecall_site, past_word, stub_word, past_function}
use Rattle.machine_meaning.proofs.Sites.{has_operation}
use Rattle.machine_meaning.proofs.TextSites.{function_site}
use Rattle.machine_meaning.proofs.ExactlyBetween.{at_place, in_function}

-- ---- rows of words

-- rows of these widths, of the words that a function gives
rows_of : (ℕ → ℕ → ℕ) → ℕ → List ℕ → List (List ℕ)
rows_of g s [] = []
rows_of g s (n ∷ sizes) = numbered (g s) 0 n ∷ rows_of g (s + 1) sizes

rows_wide : (g : ℕ → ℕ → ℕ) (s : ℕ) (sizes : List ℕ) → map length (rows_of g s sizes) ≡ sizes
unfolding rows_of
rows_wide g s [] = refl
rows_wide g s (n ∷ sizes) = ap (λ (m : ℕ). m ∷ map length (rows_of g (s + 1) sizes)) (numbered_length (g s) 0 n) ∙ ap (λ (ms : List ℕ). n ∷ ms) (rows_wide g (s + 1) sizes)

rows_word : (g : ℕ → ℕ → ℕ) (s : ℕ) (sizes : List ℕ) (x k : ℕ) → k < width (rows_of g s sizes) x → word_at (rows_of g s sizes) x k ≡ g (s + x) k
unfolding rows_of
rows_word g s [] x k lt = absurd (omega (arith, lt))
rows_word g s (n ∷ sizes) zero k lt = numbered_at (g s) 0 n k 0 (omega (arith, lt, numbered_length (g s) 0 n)) ∙ (let a : 0 + k ≡ k = omega arith in let b : s ≡ s + 0 = omega arith in λ i. g (b i) (a i))
rows_word g s (n ∷ sizes) (suc x) k lt = rows_word g (s + 1) sizes x k lt ∙ (let a : s + 1 + x ≡ s + suc x = omega arith in ap (λ (y : ℕ). g y k) a)

-- ---- a place from its target

place_for : Target → ℕ → Place
place_for ToNowhere i = Nowhere
place_for (ToLocal x) i = InLocal x
place_for (ToGlobal g) i = InGlobal g
place_for (ToLocalElement a) i = InLocalElement a i
place_for (ToGlobalElement a) i = InGlobalElement a i
place_for ToCaller i = Returned

place_target : (target : Target) (i : ℕ) → target_of (place_for target i) ≡ target
unfolding place_for
place_target ToNowhere i = refl
place_target _ i = refl

place_index : (c : Checked) (pool : Pool) (frame : Frame) (temporary : ℕ) (target : Target) → HoldsIndex c pool frame temporary (place_for target (variable_word c pool frame temporary 0))
unfolding place_for
place_index c pool frame temporary ToNowhere = tt
place_index c pool frame temporary (ToLocal x) = tt
place_index c pool frame temporary (ToGlobal g) = tt
place_index c pool frame temporary (ToLocalElement a) = refl
place_index c pool frame temporary (ToGlobalElement a) = refl
place_index c pool frame temporary ToCaller = tt

-- ---- arguments

pub argument_word : (arguments : List ℕ) (rest : List (List ℕ)) (x : ℕ) → x < length arguments → word_at (scalars arguments ++ rest) x 0 ≡ slice_index arguments x
argument_word [] rest x lt = absurd (omega arith)
argument_word (v ∷ arguments) rest zero lt = refl
argument_word (v ∷ arguments) rest (suc x) lt = argument_word arguments rest x (omega arith)

-- ---- rows of the table of frames

abbrev row_if : Bool → Row
row_if b = cond b Linking Whole

abbrev row_end : Bool → Row
row_end b = cond b Empty Whole

linking_some : (b : Bool) → row_if b ≡ NoFrame → ⊥
linking_some true e = cc
linking_some false e = cc

ending_some : (b : Bool) → row_end b ≡ NoFrame → ⊥
ending_some true e = cc
ending_some false e = cc

transfer_some : (kind : LinkKind) (w : ℕ) (before : Option ℕ) → transfer_row kind w before ≡ NoFrame → ⊥
transfer_some kind w None e = cc
transfer_some kind w (Some n) e = linking_some (is_linking kind n w) e

operation_some : (kind : LinkKind) (w : ℕ) (op : Op) → row_in kind w op ≡ NoFrame → ⊥
operation_some kind w (Op.Return None) e = ending_some (Rattle.std.specs.Prelude.nat_eq w 2) e
operation_some kind w (Op.Return (Some s)) e = ending_some (Rattle.std.specs.Prelude.nat_eq w 3) e
operation_some kind w (Op.Call site d f args) e = transfer_some kind w (Some (length args)) e
operation_some kind w (Op.CallTable site d t i s) e = transfer_some kind w (Some 13) e
operation_some kind w _ e = cc

at_some : (certificate : Certificate) (w : ℕ) (op : Option Op) → row_at certificate w op ≡ NoFrame → ⊥
at_some certificate w None e = cc
at_some certificate w (Some op) e = operation_some (kind_of certificate op) w op e

prologue_some : (w : ℕ) → prologue_row w ≡ NoFrame → ⊥
prologue_some zero e = cc
prologue_some (suc zero) e = cc
prologue_some (suc (suc w)) e = cc

-- only there no frame stands
none_there : (c : Checked) (pool : Pool) (core : Core) (place : places.Place) (row : Row) (chain : List ℕ) → FramesAt c pool core place row chain [] → row ≡ NoFrame
none_there c pool core place NoFrame chain h = refl
none_there c pool core place Empty [] h = absurd h
none_there c pool core place Empty (chunk ∷ chain) h = absurd h
none_there c pool core place Fresh [] h = absurd h
none_there c pool core place Fresh (chunk ∷ chain) h = absurd h
none_there c pool core place Whole [] h = absurd h
none_there c pool core place Whole (chunk ∷ chain) h = absurd h
none_there c pool core place Linking [] h = absurd h
none_there c pool core place Linking (chunk ∷ []) h = absurd h
none_there c pool core place Linking (linked ∷ chunk ∷ chain) h = absurd h

-- ---- stacks

record HasStack (c : Checked) (pool : Pool) (frame : Frame) (below : List Frame) : Type 0 where
  chain : List ℕ
  stack : IsStack c pool chain frame below

stack_of : (c : Checked) (pool : Pool) (core : Core) (place : places.Place) (row : Row) (chain : List ℕ) (frame : Frame) (below : List Frame) → FramesAt c pool core place row chain (frame ∷ below) → HasStack c pool frame below
stack_of c pool core place NoFrame [] frame below h = absurd h
stack_of c pool core place NoFrame (chunk ∷ []) frame below h = absurd h
stack_of c pool core place NoFrame (chunk ∷ next ∷ chain) frame below h = absurd h
stack_of c pool core place Empty [] frame below h = absurd h
stack_of c pool core place Empty (chunk ∷ chain) frame below h = record { chain = chunk ∷ chain; stack = h.1 }
stack_of c pool core place Fresh [] frame below h = absurd h
stack_of c pool core place Fresh (chunk ∷ chain) frame below h = record { chain = chunk ∷ chain; stack = h.1 }
stack_of c pool core place Whole [] frame below h = absurd h
stack_of c pool core place Whole (chunk ∷ chain) frame below h = record { chain = chunk ∷ chain; stack = h.1 }
stack_of c pool core place Linking [] frame below h = absurd h
stack_of c pool core place Linking (chunk ∷ []) frame below h = absurd h
stack_of c pool core place Linking (linked ∷ chunk ∷ chain) frame below h = record { chain = chunk ∷ chain; stack = h.3 }

-- an operation with its site
record IsSited (o : Option Op) : Type 0 where
  op : Op
  is : o ≡ Some op
  site : ℕ
  at_site : site_of op ≡ Some site

calls_site : (code : FlatCode) (op : Op) (f : ℕ) → Calls code op f → (s : ℕ) × (site_of op ≡ Some s)
calls_site code (Op.Call site d g args) f h = (site, refl)
calls_site code (Op.CallTable site d t i s) f h = (site, refl)
calls_site code (Op.Model site d n args) f h = (site, refl)
calls_site code (Op.Spawn site d g s) f h = (site, refl)
calls_site code _ f h = absurd h

returns_sited : (c : Checked) (frame below : Frame) (o : Option Op) → ReturnsInto c frame below o → IsSited o
returns_sited c frame below None h = absurd h
returns_sited c frame below (Some op) h = let site = calls_site c.flat op frame.function h.0 in record { op = op; is = refl; site = site.0; at_site = site.1 }

module _ (program : ProgramTree) (certificate : Certificate) (scoped : IsWellScoped program) where
  abbrev checked : Checked
  checked = record { flat = lowered program; certificate = certificate }

  record Waited (pool : Pool) (frame : Frame) (op : Option Op) : Type 0 where
    waiting : WaitingFrame
    is : IsWaitingFrame checked program pool frame op waiting

  -- a source frame for a frame at an operation with a site
  waited : (pool : Pool) (frame : Frame) (i s : ℕ) (op : Op) → operation_at (lowered program) frame.function i ≡ Some op → site_of op ≡ Some s → Waited pool frame (Some op)
  waited pool frame i s op at site =
      let f = frame.function in
      let tree = function_at program f in
      let there = has_operation program scoped f i op at in
      let ops : (codes.function_at (lowered program) f).ops ≡ function_ops tree = ap (λ (g : FlatFunction). g.ops) (function_is program scoped f there) in
      let found = (function_site tree i op (ap (λ (os : List Op). slice_get os i) (sym ops) ∙ at)).found s site in
      let call = found.0 in
      let words = λ (x k : ℕ). variable_word checked pool frame x k in
      record {
        waiting = record {
          frame = record { function = f; names = rows_of words 0 tree.sizes; to_do = call.rest };
          site = s;
          place = place_for call.target (variable_word checked pool frame (first_temporary program f) 0);
        };
        is = record {
          function = refl;
          site = site;
          named = rows_wide words 0 tree.sizes;
          call = call;
          in_text = record { in_text = found.1; site = sym found.2; target = place_target call.target _; rest = refl };
          names = λ x k seen lt. sym (rows_word words 0 tree.sizes x k lt ∙ (let same : 0 + x ≡ x = omega arith in ap (λ (y : ℕ). variable_word checked pool frame y k) same));
          index = place_index checked pool frame (first_temporary program f) call.target;
        };
      }

  record AllWaited (pool : Pool) (frames : List Frame) : Type 0 where
    waitings : List WaitingFrame
    are : AreWaitingFrames checked program pool frames waitings

  all_waited : (pool : Pool) (chain : List ℕ) (frame : Frame) (below : List Frame) → IsStack checked pool chain frame below → AllWaited pool below
  all_waited pool chain frame [] h = record { waitings = []; are = tt }
  all_waited pool chain frame (next ∷ below) h =
      let sited = returns_sited checked frame next (operation_at (lowered program) next.function next.operation) h.1.called in
      let here = waited pool next next.operation sited.site sited.op sited.is sited.at_site in
      let rest = all_waited pool (chain_below frame.is_first chain) next below h.2 in
      record { waitings = here.waiting ∷ rest.waitings; are = (subst (λ (o : Option Op). IsWaitingFrame checked program pool next o here.waiting) (sym sited.is) here.is, rest.are) }

  record Started (core : Core) (frame : Frame) : Type 0 where
    starting : source.Frame
    is : IsStartingFrame program core frame starting

  started : (core : Core) (frame : Frame) → frame.function < length program.functions → Started core frame
  started core frame there =
      let f = frame.function in
      let params = (function_at program f).params in
      let arguments = numbered (λ x. read core.x (a0 + x)) 0 params in
      let count : length arguments ≡ params = numbered_length (λ x. read core.x (a0 + x)) 0 params in
      record {
        starting = pushed program f arguments;
        is = record {
          function = refl;
          named = (pushed_holds program (lowered program) (lowers program scoped) f arguments there count).wide;
          parameters = λ x lt. argument_word arguments _ x (omega (arith, count, lt)) ∙ numbered_at (λ y. read core.x (a0 + y)) 0 params x 0 lt ∙ (let same : a0 + (0 + x) ≡ a0 + x = omega arith in ap (λ (r : ℕ). read core.x r) same);
          to_do = refl;
        };
      }

  module _ (image : Image) (valid : IsValid (lowered program) image certificate) where
    asked : (pool : Pool) (core : Core) (f i word : ℕ) (op : Op) (place : places.Place) (frame : Frame) (below : List Frame) → frame.function ≡ f → operation_at (lowered program) f i ≡ Some op → ecall_word op ≡ Some word
        → FramesAt checked pool core place (row_of checked place) core.chain (frame ∷ below) → (waiting : Waiting) × IsWaitingFrame checked program pool frame (Some op) waiting.front × AreWaitingFrames checked program pool below waiting.below
    asked pool core f i word op place frame below same at ecall h =
        let site = ecall_site op word ecall in
        let here = waited pool frame i site.0 op (ap (λ (g : ℕ). operation_at (lowered program) g i) same ∙ at) site.1 in
        let stack = stack_of checked pool core place (row_of checked place) core.chain frame below h in
        let rest = all_waited pool stack.chain frame below stack.stack in
        (record { front = here.waiting; below = rest.waitings }, here.is, rest.are)

    past_somewhere : (pool : Pool) (core : Core) (f i word : ℕ) (op : Op) (place : places.Place) (frames : List Frame) → operation_at (lowered program) f i ≡ Some op → ecall_word op ≡ Some word → core.pc ≡ Rattle.stack_certificate.specs.Templates.begin (lowered program) certificate f i + 4 * (word + 1)
        → IsAt checked core.pc place → FramesAt checked pool core place (row_of checked place) core.chain frames → (frame : Frame) × (below : List Frame) × (frames ≡ frame ∷ below)
    past_somewhere pool core f i word op place (frame ∷ below) at ecall pc is h = (frame, below, refl)
    past_somewhere pool core f i word op (InStub w) [] at ecall pc is h = absurd (stub_word (lowered program) image certificate core.pc w f _ valid is (past_word program image certificate core.pc f i word op scoped valid at ecall pc))
    past_somewhere pool core f i word op (InPrologue g w) [] at ecall pc is h = absurd (prologue_some w (none_there checked pool core (InPrologue g w) (row_of checked (InPrologue g w)) core.chain h))
    past_somewhere pool core f i word op (InOperation g j w) [] at ecall pc is h = absurd (at_some certificate w (operation_at (lowered program) g j) (none_there checked pool core (InOperation g j w) (row_of checked (InOperation g j w)) core.chain h))

    pub somewhere : (pool : Pool) (core : Core) (rests : IsResting checked pool core) → (thread : SourceThread) × StandsFor checked program pool core rests thread
    somewhere pool core (AtStart f [] in_place) = absurd (prologue_some 0 (none_there checked pool core (InPrologue f 0) (row_of checked (InPrologue f 0)) core.chain in_place.frames_are))
    somewhere pool core (AtStart f (frame ∷ below) in_place) =
        let at = at_place checked pool core (InPrologue f 0) (row_of checked (InPrologue f 0)) core.chain frame below in_place.frames_are in
        let there : frame.function < length program.functions = subst (λ (g : ℕ). g < length program.functions) (sym at.function) (omega (arith, in_place.at.0, length-map program.functions lowered_function)) in
        let first = started core frame there in
        let stack = stack_of checked pool core (InPrologue f 0) (row_of checked (InPrologue f 0)) core.chain frame below in_place.frames_are in
        let rest = all_waited pool stack.chain frame below stack.stack in
        (Starts first.starting rest.waitings, (first.is, rest.are))
    somewhere pool core (AtCall f i op word [] in_place) = absurd (at_some certificate word (operation_at (lowered program) f i) (none_there checked pool core (InOperation f i word) (row_of checked (InOperation f i word)) core.chain in_place.frames_are.frames_are))
    somewhere pool core (AtCall f i op word (frame ∷ below) in_place) =
        let at = at_place checked pool core (InOperation f i word) (row_of checked (InOperation f i word)) core.chain frame below in_place.frames_are.frames_are in
        let h = asked pool core f i word op (InOperation f i word) frame below at.function in_place.operation in_place.ecall in_place.frames_are.frames_are in
        (Waits h.0, (h.1, h.2))
    somewhere pool core (PastCall f i op word place [] in_place) =
        let some = past_somewhere pool core f i word op place [] in_place.operation in_place.ecall in_place.pc in_place.frames_are.at in_place.frames_are.frames_are in absurd (let e = some.2 in cc)
    somewhere pool core (PastCall f i op word place (frame ∷ below) in_place) =
        let at = at_place checked pool core place (row_of checked place) core.chain frame below in_place.frames_are.frames_are in
        let some = in_function checked pool core place core.chain frame below in_place.frames_are.frames_are in
        let past : function_of place ≡ f = past_function program image certificate core.pc f i word op place scoped valid in_place.operation in_place.ecall in_place.pc in_place.frames_are.at some in
        let h = asked pool core f i word op place frame below (at.function ∙ past) in_place.operation in_place.ecall in_place.frames_are.frames_are in
        (Waits h.0, (h.1, h.2))

-- ---- globals

-- words in rows of these widths
in_rows : List ℕ → List ℕ → List (List ℕ)
in_rows [] words = []
in_rows (n ∷ widths) words = take n words ∷ in_rows widths (drop n words)

rows_are : (widths words : List ℕ) → length words ≡ sum widths → (map length (in_rows widths words) ≡ widths) × (flat_map (λ row. row) (in_rows widths words) ≡ words)
unfolding in_rows
rows_are [] [] e = (refl, refl)
rows_are [] (w ∷ words) e = absurd (omega (arith, e))
rows_are (n ∷ widths) words e =
    let all : sum (n ∷ widths) ≡ n + sum widths = sum_by-cons (λ (x : ℕ). x) n widths in
    let front : length (take n words) ≡ n = length-take-le n words (omega (arith, e, all)) in
    let rest = rows_are widths (drop n words) (omega (arith, e, all, length-drop n words)) in
    ((λ i. front i ∷ rest.0 i), ap (λ (ws : List ℕ). take n words ++ ws) rest.1 ∙ take-append-drop n words)

pub globals_somewhere : (code : FlatCode) (words : List ℕ) → length words ≡ sum (global_widths code) → (rows : List (List ℕ)) × AreGlobals code rows words
globals_somewhere code words e = let h = rows_are (global_widths code) words e in (in_rows (global_widths code) words, record { widths = h.0; joined = h.1 })
