-- A machine thread that rests stands for a source thread exactly where a thread of flat code is between the two.
use Rattle.machine_meaning.proofs.Common.{◌≡◌, ℕ, zero, suc, ◌-◌, ◌<◌, List, [], ◌∷◌, ◌++◌, length, map, replicate, Option, Some, None, refl, sym, ap, ◌∙◌, subst, arith, length-append, slice_index, length-map, length-replicate, row, word_at, function_sizes, lowered_function, lowered, WaitingFrame, Waiting, function_at, declared_words, ProgramTree, IsWellScoped, IsValid, Pool, FlatFunction, Op, operation_at, FrameStandsFor, FrameStartsAs, FramesStandFor, Frame, FramesAt, Core, IsResting, AtStart, AtCall, PastCall, ecall_word, HoldsVariables, IsShaped, AreFlatFrames, IsFlatStart, StandsForFlat, SourceThread, Starts, Waits, StandsFor, IsWaitingFrame, IsStartingFrame, AreWaitingFrames, Certificate, Image, FlatsStandFor, RestAlike, HasBetween}
use Rattle.c_mean.specs.Frames as source
use Rattle.c_tree.specs.Sizes as widths
use Rattle.flat_code.specs.Codes as codes
use Rattle.flat_code.specs.Frames.{FlatFrame, site_in, pushed}
use Rattle.machine_meaning.proofs.Lowered.{function_is, lowers}
use Rattle.machine_meaning.proofs.Pushed.{seen_below}
use Rattle.machine_meaning.proofs.RelationKept.{sizes_length}
use Rattle.machine_world.specs.Places.{Checked, Place, InStub, InPrologue, InOperation, Row, NoFrame, Empty, Fresh, Linking, Whole, row_of, function_of, operation_of}
use Rattle.machine_meaning.proofs.Numbering.{numbered, numbered_length, numbered_at, row_length, argument_at}
use Rattle.machine_meaning.proofs.Past.{InFunction, past_function, ecall_site}
use Rattle.machine_meaning.proofs.Sites.{one_function}
use Rattle.machine_meaning.proofs.Down.{flat_of, frame_down, shape_down, variables_down, frames_down}
use Rattle.machine_meaning.proofs.Up.{frame_up, frames_up, start_up, params_named}
use Rattle.machine_meaning.proofs.Expressions.{one_word}

-- ---- the running frame's function and operation

pub record IsAtPlace (place : Place) (frame : Frame) : Type 0 where
  pub function : frame.function ≡ function_of place
  pub operation : frame.operation ≡ operation_of place

pub at_place : (c : Checked) (pool : Pool) (core : Core) (place : Place) (row : Row) (chain : List ℕ) (frame : Frame) (below : List Frame) → FramesAt c pool core place row chain (frame ∷ below) → IsAtPlace place frame
at_place c pool core place NoFrame [] frame below h = absurd h
at_place c pool core place NoFrame (chunk ∷ []) frame below h = absurd h
at_place c pool core place NoFrame (chunk ∷ next ∷ chain) frame below h = absurd h
at_place c pool core place Empty [] frame below h = absurd h
at_place c pool core place Empty (chunk ∷ chain) frame below h = record { function = h.0.function; operation = h.0.operation }
at_place c pool core place Fresh [] frame below h = absurd h
at_place c pool core place Fresh (chunk ∷ chain) frame below h = record { function = h.0.function; operation = h.0.operation }
at_place c pool core place Whole [] frame below h = absurd h
at_place c pool core place Whole (chunk ∷ chain) frame below h = record { function = h.0.function; operation = h.0.operation }
at_place c pool core place Linking [] frame below h = absurd h
at_place c pool core place Linking (chunk ∷ []) frame below h = absurd h
at_place c pool core place Linking (linked ∷ chunk ∷ chain) frame below h = record { function = h.2.function; operation = h.2.operation }

-- ---- parameters

scalar_size : (n : ℕ) (rest : List ℕ) (x : ℕ) → x < n → slice_index (widths.scalars n ++ rest) x ≡ 1
scalar_size zero rest x lt = absurd (omega arith)
scalar_size (suc n) rest zero lt = refl
scalar_size (suc n) rest (suc x) lt = scalar_size n rest x (omega arith)

-- ---- places

-- there is no frame in the stub
pub in_function : (c : Checked) (pool : Pool) (core : Core) (place : Place) (chain : List ℕ) (frame : Frame) (below : List Frame) → FramesAt c pool core place (row_of c place) chain (frame ∷ below) → InFunction place
in_function c pool core (InStub word) [] frame below h = absurd h
in_function c pool core (InStub word) (chunk ∷ []) frame below h = absurd h
in_function c pool core (InStub word) (chunk ∷ next ∷ chain) frame below h = absurd h
in_function c pool core (InPrologue f word) chain frame below h = record { not_stub = λ w e. cc }
in_function c pool core (InOperation f i word) chain frame below h = record { not_stub = λ w e. cc }

module _ (program : ProgramTree) (certificate : Certificate) (scoped : IsWellScoped program) where
  abbrev checked : Checked
  checked = record { flat = lowered program; certificate = certificate }

  -- ---- down

  -- the arguments of a frame at its function's start
  abbrev arguments_of : source.Frame → List ℕ
  arguments_of starting = numbered (λ x. word_at starting.names x 0) 0 (function_at program starting.function).params

  record StartBetween (core : Core) (frame : Frame) (starting : source.Frame) : Type 0 where
    flat : FlatFrame
    machine : IsFlatStart checked core frame flat
    source : FrameStartsAs program starting flat

  start_down : (core : Core) (frame : Frame) (starting : source.Frame) → frame.function < length program.functions → IsStartingFrame program core frame starting → StartBetween core frame starting
  start_down core frame starting there h =
      let f = starting.function in
      let tree = function_at program f in
      let arguments = arguments_of starting in
      let defined : f < length program.functions = subst (λ (g : ℕ). g < length program.functions) h.function there in
      let scoped_here = ((lowers program scoped).functions f defined).scoped in
      let is : codes.function_at (lowered program) frame.function ≡ lowered_function tree = ap (λ (g : ℕ). codes.function_at (lowered program) g) h.function ∙ function_is program scoped f defined in
      let params : (codes.function_at (lowered program) frame.function).params ≡ tree.params = ap (λ (g : FlatFunction). g.params) is in
      let sizes : (codes.function_at (lowered program) frame.function).sizes ≡ function_sizes tree = ap (λ (g : FlatFunction). g.sizes) is in
      let long : length (codes.function_at (lowered program) frame.function).sizes ≡ length (function_sizes tree) = ap (λ (ns : List ℕ). length ns) sizes in
      let count : length arguments ≡ tree.params = numbered_length (λ x. word_at starting.names x 0) 0 tree.params in
      let unset = length (codes.function_at (lowered program) frame.function).sizes - length arguments in
      let rest : List (Option (List ℕ)) = replicate unset None in
      let named = params_named program certificate scoped f defined in
      let all = sizes_length tree in
      record {
        flat = pushed (lowered program) frame.function arguments;
        machine = record {
          arguments = arguments;
          count = count ∙ sym params;
          pushed_so = refl;
          registers = λ k lt. numbered_at (λ x. word_at starting.names x 0) 0 tree.params k 0 (omega (arith, lt, count)) ∙ ap (λ (n : ℕ). word_at starting.names n 0) (omega arith) ∙ h.parameters k (omega (arith, lt, count));
        };
        source = record {
          defined = defined;
          function = h.function;
          next = refl;
          to_do = h.to_do;
          names = h.named;
          variables = length-append (map (λ v. Some (v ∷ [])) arguments) rest ∙ omega (arith, length-map arguments (λ v. Some (v ∷ [])), length-replicate {A = Option (List ℕ)} unset None, long, count, named, all);
          scope = λ x lt seen.
              let low : x < tree.params = seen_below tree.params x seen in
              let one : length (row starting.names x) ≡ 1 = row_length starting.names tree.sizes x h.named ∙ ap (λ (ns : List ℕ). slice_index ns x) scoped_here.sizes ∙ scalar_size tree.params (declared_words tree) x low in
              argument_at arguments rest x (omega (arith, low, count))
              ∙ ap (λ (w : ℕ). Some (w ∷ [])) (numbered_at (λ x. word_at starting.names x 0) 0 tree.params x 0 low ∙ ap (λ (n : ℕ). word_at starting.names n 0) (omega arith))
              ∙ ap (λ (ws : List ℕ). Some ws) (sym (one_word (row starting.names x) one));
        };
      }

  -- the flat thread of a thread at or just past an ECALL
  record CallBetween (pool : Pool) (frame : Frame) (below : List Frame) (next : ℕ) (waiting : Waiting) : Type 0 where
    flat : FlatFrame
    flats : List FlatFrame
    next_is : flat.next ≡ next
    function_is : frame.function ≡ flat.function
    shape : IsShaped checked flat
    variables : HoldsVariables checked pool frame flat
    machine : AreFlatFrames checked pool below flats
    front : FrameStandsFor program waiting.front flat
    source : FramesStandFor program waiting.below flats

  call_down : (pool : Pool) (frame : Frame) (below : List Frame) (op : Op) (next : ℕ) (waiting : Waiting) → operation_at (lowered program) frame.function next ≡ Some op → IsWaitingFrame checked program pool frame (Some op) waiting.front
      → AreWaitingFrames checked program pool below waiting.below → CallBetween pool frame below next waiting
  call_down pool frame below op next waiting at h k =
      let rest = frames_down program certificate scoped pool below waiting.below k in
      record {
        flat = flat_of program certificate frame next waiting.front h.call.scope;
        flats = rest.flats;
        next_is = refl;
        function_is = refl;
        shape = shape_down program certificate scoped pool frame (Some op) waiting.front next h;
        variables = variables_down program certificate scoped pool frame (Some op) waiting.front next h;
        machine = rest.machine;
        front = frame_down program certificate scoped pool frame (Some op) waiting.front next h (ap site_in at);
        source = rest.source;
      }

  -- the function of an operation that has an ECALL is that of the source frame that waits at it
  past_frame : (pool : Pool) (frame : Frame) (f i word : ℕ) (op : Op) (waiting : WaitingFrame) → operation_at (lowered program) f i ≡ Some op → ecall_word op ≡ Some word → IsWaitingFrame checked program pool frame (Some op) waiting → f ≡ frame.function
  past_frame pool frame f i word op waiting at ecall h =
      let site = ecall_site op word ecall in
      let is : Some site.0 ≡ Some waiting.site = sym site.1 ∙ h.site in
      let same : site.0 ≡ waiting.site = cc in
      one_function program scoped f i site.0 op waiting.frame.function h.call at site.1 h.in_text.in_text (same ∙ h.in_text.site) ∙ sym h.function

  pub down : (pool : Pool) (core : Core) (rests : IsResting checked pool core) (thread : SourceThread) → StandsFor checked program pool core rests thread → HasBetween checked program pool core rests thread
  down pool core (AtStart f [] in_place) (Starts starting below) h = absurd h
  down pool core (AtStart f (frame ∷ frames) in_place) (Starts starting below) h =
      let at = at_place checked pool core (InPrologue f 0) (row_of checked (InPrologue f 0)) core.chain frame frames in_place.frames_are in
      let there : frame.function < length program.functions = subst (λ (g : ℕ). g < length program.functions) (sym at.function) (omega (arith, in_place.at.0, length-map program.functions lowered_function)) in
      let first = start_down core frame starting there h.0 in
      let rest = frames_down program certificate scoped pool frames below h.1 in
      (first.flat ∷ rest.flats, record { alike = tt; machine = (first.machine, rest.machine); source = (first.source, rest.source) })
  down pool core (AtStart f frames in_place) (Waits waiting) h = absurd h
  down pool core (AtCall f i op word [] in_place) (Waits waiting) h = absurd h
  down pool core (AtCall f i op word (frame ∷ frames) in_place) (Waits waiting) h =
      let at = at_place checked pool core (InOperation f i word) (row_of checked (InOperation f i word)) core.chain frame frames in_place.frames_are.frames_are in
      let is : operation_at (lowered program) frame.function i ≡ Some op = ap (λ (g : ℕ). operation_at (lowered program) g i) at.function ∙ in_place.operation in
      let b = call_down pool frame frames op i waiting is h.0 h.1 in (
        b.flat ∷ b.flats,
        record {
          alike = tt;
          machine = (record { function = b.function_is; operation = at.operation ∙ sym b.next_is; shape = b.shape; variables = b.variables }, b.machine);
          source = (b.front, b.source);
        },
      )
  down pool core (AtCall f i op word frames in_place) (Starts starting below) h = absurd h
  down pool core (PastCall f i op word place [] in_place) (Waits waiting) h = absurd h
  down pool core (PastCall f i op word place (frame ∷ frames) in_place) (Waits waiting) h =
      let same : f ≡ frame.function = past_frame pool frame f i word op waiting.front in_place.operation in_place.ecall h.0 in
      let is : operation_at (lowered program) frame.function i ≡ Some op = ap (λ (g : ℕ). operation_at (lowered program) g i) (sym same) ∙ in_place.operation in
      let b = call_down pool frame frames op i waiting is h.0 h.1 in (
        b.flat ∷ b.flats,
        record {
          alike = tt;
          machine = (record { function = b.function_is; operation = b.next_is; shape = b.shape; variables = b.variables }, b.machine);
          source = (b.front, b.source);
        },
      )
  down pool core (PastCall f i op word place frames in_place) (Starts starting below) h = absurd h

  -- ---- up

  module _ (image : Image) (valid : IsValid (lowered program) image certificate) where
    pub up : (pool : Pool) (core : Core) (rests : IsResting checked pool core) (thread : SourceThread) → HasBetween checked program pool core rests thread → StandsFor checked program pool core rests thread
    up pool core rests thread (flats, b) = up_from pool core rests thread flats b.alike b.machine b.source
      where
        up_from : (pool : Pool) (core : Core) (rests : IsResting checked pool core) (thread : SourceThread) (flats : List FlatFrame) → RestAlike checked pool core rests thread → StandsForFlat checked pool core rests flats → FlatsStandFor program flats thread → StandsFor checked program pool core rests thread
        up_from pool core rests thread [] alike machine source = absurd source
        up_from pool core (AtStart f [] in_place) (Starts starting below) (flat ∷ flats) alike machine source = absurd machine
        up_from pool core (AtStart f (frame ∷ frames) in_place) (Starts starting below) (flat ∷ flats) alike machine source =
            (start_up program certificate scoped core frame starting flat machine.0 source.0, frames_up program certificate scoped pool frames flats below machine.1 source.1)
        up_from pool core (AtStart f frames in_place) (Waits waiting) (flat ∷ flats) alike machine source = absurd alike
        up_from pool core (AtCall f i op word [] in_place) (Waits waiting) (flat ∷ flats) alike machine source = absurd machine
        up_from pool core (AtCall f i op word (frame ∷ frames) in_place) (Waits waiting) (flat ∷ flats) alike machine source =
            let at = at_place checked pool core (InOperation f i word) (row_of checked (InOperation f i word)) core.chain frame frames in_place.frames_are.frames_are in
            let function : flat.function ≡ f = sym machine.0.function ∙ at.function in
            let operation : flat.next ≡ i = sym machine.0.operation ∙ at.operation in
            let is : operation_at (lowered program) flat.function flat.next ≡ Some op = (λ k. operation_at (lowered program) (function k) (operation k)) ∙ in_place.operation in
            (frame_up program certificate scoped pool frame (Some op) waiting.front flat machine.0.function (ap site_in is) machine.0.variables source.0, frames_up program certificate scoped pool frames flats waiting.below machine.1 source.1)
        up_from pool core (AtCall f i op word frames in_place) (Starts starting below) (flat ∷ flats) alike machine source = absurd alike
        up_from pool core (PastCall f i op word place [] in_place) (Waits waiting) (flat ∷ flats) alike machine source = absurd machine
        up_from pool core (PastCall f i op word place (frame ∷ frames) in_place) (Waits waiting) (flat ∷ flats) alike machine source =
            let at = at_place checked pool core place (row_of checked place) core.chain frame frames in_place.frames_are.frames_are in
            let some = in_function checked pool core place core.chain frame frames in_place.frames_are.frames_are in
            let past : function_of place ≡ f = past_function program image certificate core.pc f i word op place scoped valid in_place.operation in_place.ecall in_place.pc in_place.frames_are.at some in
            let function : flat.function ≡ f = sym machine.0.function ∙ at.function ∙ past in
            let is : operation_at (lowered program) flat.function flat.next ≡ Some op = (λ k. operation_at (lowered program) (function k) (machine.0.operation k)) ∙ in_place.operation in
            (frame_up program certificate scoped pool frame (Some op) waiting.front flat machine.0.function (ap site_in is) machine.0.variables source.0, frames_up program certificate scoped pool frames flats waiting.below machine.1 source.1)
        up_from pool core (PastCall f i op word place frames in_place) (Starts starting below) (flat ∷ flats) alike machine source = absurd alike
