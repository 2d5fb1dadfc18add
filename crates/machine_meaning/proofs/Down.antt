-- From a source thread for which a machine thread stands to a thread of flat code between the two.
use Rattle.machine_meaning.proofs.Common.{◌≡◌, ℕ, zero, suc, ◌+◌, ◌<◌, List, [], ◌∷◌, ◌++◌, length, Option, Some, refl, sym, ap, ◌∙◌, subst, arith, slice_index, get_or_append_left, function_sizes, lowered, Place, Nowhere, InLocal, InGlobal, InLocalElement, InGlobalElement, Returned, WaitingFrame, function_at, Target, target_of, CallInText, WaitsAt, function_temporaries, FunctionTree, ProgramTree, IsWellScoped, Pool, FlatFunction, Op, operation_at, FlatFrame, site_in, FrameStandsFor, FramesStandFor, IndexStands, Frame, Checked, HoldsVariables, IsShaped, AreFlatFrames, variable_word, IsWaitingFrame, AreWaitingFrames, HoldsIndex, Certificate}
use Rattle.c_tree.specs.Sizes as widths
use Rattle.flat_code.specs.Codes as codes
use Rattle.machine_meaning.proofs.Frames.{HeldRoom}
use Rattle.machine_meaning.proofs.Lowered.{function_is}
use Rattle.machine_meaning.proofs.RelationKept.{sizes_length}
use Rattle.machine_world.specs.Keys.{standing}
use Rattle.machine_meaning.proofs.Numbering.{row_length}
use Rattle.machine_meaning.proofs.Sites.{has_calls, call_is}
use Rattle.machine_meaning.proofs.Variables.{index_of, IsName, IsIndex, name_row, index_row, row_is, variables_of, variables_length, variable_is, variable_set}

-- a temporary has one word
temporary_size : (sizes : List ℕ) (n : ℕ) → 0 < n → slice_index (sizes ++ widths.scalars n) (length sizes) ≡ 1
temporary_size [] zero some = absurd (omega arith)
temporary_size [] (suc n) some = refl
temporary_size (x ∷ sizes) n some = temporary_size sizes n some

one_word : (i : ℕ) (g : ℕ → ℕ) → g 0 ≡ i → (k : ℕ) → k < length (i ∷ []) → g k ≡ slice_index (i ∷ []) k
one_word i g h zero lt = h
one_word i g h (suc k) lt = absurd (omega arith)

-- words of which the first alone is there
single : (i : ℕ) (words : List ℕ) (g : ℕ → ℕ) (k : ℕ) → g 0 ≡ i → Some (i ∷ []) ≡ Some words → k < length words → g k ≡ slice_index words k
single i words g k h e lt = let same : (i ∷ []) ≡ words = cc in subst (λ (ws : List ℕ). k < length ws → g k ≡ slice_index ws k) same (one_word i g h k) lt

index_one : (place : Place) (words : List ℕ) → index_of place ≡ Some words → length words ≡ 1
index_one Nowhere words e = absurd cc
index_one (InLocal x) words e = absurd cc
index_one (InGlobal g) words e = absurd cc
index_one (InLocalElement a i) words e = let same : (i ∷ []) ≡ words = cc in sym (ap (λ (ws : List ℕ). length ws) same)
index_one (InGlobalElement a i) words e = let same : (i ∷ []) ≡ words = cc in sym (ap (λ (ws : List ℕ). length ws) same)
index_one Returned words e = absurd cc

-- ---- one frame

-- the variables of a frame that waits at a call
module _ (program : ProgramTree) (certificate : Certificate) where
  abbrev checked : Checked
  checked = record { flat = lowered program; certificate = certificate }

  abbrev tree_of : WaitingFrame → FunctionTree
  tree_of waiting = function_at program waiting.frame.function

  abbrev flats_of : WaitingFrame → List ℕ → List (Option (List ℕ))
  flats_of waiting scope = variables_of waiting.frame.names scope (length (tree_of waiting).sizes) waiting.place (length (function_sizes (tree_of waiting)))

  abbrev pub flat_of : Frame → ℕ → WaitingFrame → List ℕ → FlatFrame
  flat_of frame next waiting scope = record { function = frame.function; next = next; variables = flats_of waiting scope }

  index_holds : (pool : Pool) (frame : Frame) (t : ℕ) (place : Place) (words : List ℕ) (k : ℕ) → HoldsIndex checked pool frame t place → index_of place ≡ Some words → k < length words → variable_word checked pool frame t k ≡ slice_index words k
  index_holds pool frame t (InLocalElement a i) words k h e lt = single i words (λ n. variable_word checked pool frame t n) k h e lt
  index_holds pool frame t (InGlobalElement a i) words k h e lt = single i words (λ n. variable_word checked pool frame t n) k h e lt
  index_holds pool frame t Nowhere words k h e lt = absurd cc
  index_holds pool frame t (InLocal x) words k h e lt = absurd cc
  index_holds pool frame t (InGlobal g) words k h e lt = absurd cc
  index_holds pool frame t Returned words k h e lt = absurd cc

  index_stands : (tree : FunctionTree) (place : Place) (names : List (List ℕ)) (scope : List ℕ) (n f next : ℕ) → HeldRoom (length tree.sizes) (target_of place) n
      → IndexStands tree place (record { function = f; next = next; variables = variables_of names scope (length tree.sizes) place n })
  index_stands tree Nowhere names scope n f next room = tt
  index_stands tree (InLocal x) names scope n f next room = tt
  index_stands tree (InGlobal g) names scope n f next room = tt
  index_stands tree (InLocalElement a i) names scope n f next room = variable_is names scope (length tree.sizes) (InLocalElement a i) n (length tree.sizes) (omega arith) ∙ index_row names scope (length tree.sizes) (InLocalElement a i)
  index_stands tree (InGlobalElement a i) names scope n f next room = variable_is names scope (length tree.sizes) (InGlobalElement a i) n (length tree.sizes) (omega arith) ∙ index_row names scope (length tree.sizes) (InGlobalElement a i)
  index_stands tree Returned names scope n f next room = tt

  module _ (scoped : IsWellScoped program) where
    -- the flat frame stands for the source frame
    pub frame_down : (pool : Pool) (frame : Frame) (op : Option Op) (waiting : WaitingFrame) (next : ℕ) → (h : IsWaitingFrame checked program pool frame op waiting) → site_in (operation_at (lowered program) frame.function next) ≡ site_in op
        → FrameStandsFor program waiting (flat_of frame next waiting h.call.scope)
    frame_down pool frame op waiting next h at =
        let tree = tree_of waiting in
        let t = length tree.sizes in
        let n = length (function_sizes tree) in
        let long : n ≡ t + function_temporaries tree = sizes_length tree in
        let there = call_is program scoped waiting.frame.function h.call (has_calls program scoped waiting.frame.function h.call h.in_text.in_text) h.in_text.in_text in
        let room : HeldRoom t (target_of waiting.place) n = subst (λ (m : ℕ). HeldRoom t (target_of waiting.place) m) (sym long) (subst (λ (target : Target). HeldRoom t target (t + function_temporaries tree)) (sym h.in_text.target) there.room) in
        record {
          call = h.call;
          waits = h.in_text;
          function = h.function;
          site = at ∙ h.site;
          names = h.named;
          variables = variables_length waiting.frame.names h.call.scope t waiting.place n;
          scope = λ x lt seen. variable_is waiting.frame.names h.call.scope t waiting.place n x (omega (arith, long, lt)) ∙ name_row waiting.frame.names h.call.scope t waiting.place x lt seen;
          index = index_stands tree waiting.place waiting.frame.names h.call.scope n frame.function next room;
        }

    sizes_at : (frame : Frame) (waiting : WaitingFrame) (call : CallInText) → frame.function ≡ waiting.frame.function → WaitsAt program waiting call → (codes.function_at (lowered program) frame.function).sizes ≡ function_sizes (tree_of waiting)
    sizes_at frame waiting call same waits =
        ap (λ (f : ℕ). (codes.function_at (lowered program) f).sizes) same
        ∙ ap (λ (g : FlatFunction). g.sizes) (function_is program scoped waiting.frame.function (has_calls program scoped waiting.frame.function call waits.in_text))

    -- its variables have the words that they say
    pub shape_down : (pool : Pool) (frame : Frame) (op : Option Op) (waiting : WaitingFrame) (next : ℕ) → (h : IsWaitingFrame checked program pool frame op waiting) → IsShaped checked (flat_of frame next waiting h.call.scope)
    shape_down pool frame op waiting next h =
        let tree = tree_of waiting in
        let t = length tree.sizes in
        let n = length (function_sizes tree) in
        let temps = function_temporaries tree in
        let names = waiting.frame.names in
        let scope = h.call.scope in
        let long : n ≡ t + temps = sizes_length tree in
        let sizes = sizes_at frame waiting h.call h.function h.in_text in
        record {
          count = variables_length names scope t waiting.place n ∙ ap (λ (ns : List ℕ). length ns) (sym sizes);
          words = λ x words e.
              let within : x < n = variable_set names scope t waiting.place n x words e in
              elim (row_is names scope t waiting.place x words (sym (variable_is names scope t waiting.place n x within) ∙ e)) as (λ r. length words ≡ slice_index (codes.function_at (lowered program) frame.function).sizes x) [
                | IsName there seen is ↦ ap (λ (ws : List ℕ). length ws) is ∙ row_length names tree.sizes x h.named ∙ sym (get_or_append_left tree.sizes (widths.scalars temps) 0 x there) ∙ ap (λ (ns : List ℕ). slice_index ns x) (sym sizes)
                | IsIndex last is ↦ index_one waiting.place words is ∙ sym (temporary_size tree.sizes temps (omega (arith, long, last, within))) ∙ ap (λ (k : ℕ). slice_index (function_sizes tree) k) (sym last) ∙ ap (λ (ns : List ℕ). slice_index ns x) (sym sizes)
              ];
        }

    -- and stand at their places in the machine's frame
    pub variables_down : (pool : Pool) (frame : Frame) (op : Option Op) (waiting : WaitingFrame) (next : ℕ) → (h : IsWaitingFrame checked program pool frame op waiting) → HoldsVariables checked pool frame (flat_of frame next waiting h.call.scope)
    variables_down pool frame op waiting next h x words e k lt =
        let tree = tree_of waiting in
        let t = length tree.sizes in
        let n = length (function_sizes tree) in
        let names = waiting.frame.names in
        let scope = h.call.scope in
        let within : x < n = variable_set names scope t waiting.place n x words e in
        elim (row_is names scope t waiting.place x words (sym (variable_is names scope t waiting.place n x within) ∙ e)) as (λ r. variable_word checked pool frame x k ≡ slice_index words k) [
          | IsName there seen is ↦ h.names x k seen (subst (λ (ws : List ℕ). k < length ws) is lt) ∙ ap (λ (ws : List ℕ). slice_index ws k) (sym is)
          | IsIndex last is ↦ ap (λ (y : ℕ). variable_word checked pool frame y k) last ∙ index_holds pool frame t waiting.place words k h.index is lt
        ]

    -- ---- all frames that wait

    pub record FlatsUnder (pool : Pool) (frames : List Frame) (waitings : List WaitingFrame) : Type 0 where
      pub flats : List FlatFrame
      pub machine : AreFlatFrames checked pool frames flats
      pub source : FramesStandFor program waitings flats

    pub frames_down : (pool : Pool) (frames : List Frame) (waitings : List WaitingFrame) → AreWaitingFrames checked program pool frames waitings → FlatsUnder pool frames waitings
    frames_down pool [] [] h = record { flats = []; machine = tt; source = tt }
    frames_down pool [] (waiting ∷ waitings) h = absurd h
    frames_down pool (frame ∷ frames) [] h = absurd h
    frames_down pool (frame ∷ frames) (waiting ∷ waitings) h =
        let rest = frames_down pool frames waitings h.1 in
        let op = standing checked frame in
        record {
          flats = flat_of frame frame.operation waiting h.0.call.scope ∷ rest.flats;
          machine = (record { function = refl; operation = refl; shape = shape_down pool frame op waiting frame.operation h.0; variables = variables_down pool frame op waiting frame.operation h.0 }, rest.machine);
          source = (frame_down pool frame op waiting frame.operation h.0 refl, rest.source);
        }
