-- From a thread of flat code between a machine thread and a source thread to what the one says of the other.
use Rattle.machine_meaning.proofs.Common.{◌≡◌, ℕ, zero, suc, ◌-◌, ◌<◌, ◌≤◌, Bool, true, false, List, [], ◌∷◌, ◌++◌, length, map, replicate, Option, Some, None, refl, sym, ap, ◌∙◌, subst, arith, eqb, ⊎_elim, IsTrue, slice_index, ◌||◌, cases_lt, cases_eq, eq-eqb, row, width, lowered, Place, InLocalElement, InGlobalElement, WaitingFrame, function_at, below, declared_words, FunctionTree, ProgramTree, visible, IsWellScoped, Pool, FlatFunction, Op, operation_at, FlatFrame, variable, site_in, FrameStandsFor, FrameStartsAs, FramesStandFor, IndexStands, Frame, Core, Checked, HoldsVariables, AreFlatFrames, IsFlatStart, IsWaitingFrame, IsStartingFrame, AreWaitingFrames, HoldsIndex, Certificate}
use Rattle.c_mean.specs.Frames as source
use Rattle.c_tree.specs.Sizes as widths
use Rattle.flat_code.specs.Codes as codes
use Rattle.machine_meaning.proofs.Lowered.{function_is, lowers, scalars_length}
use Rattle.machine_meaning.proofs.Numbering.{past_end, rows_length, argument_at}

-- there is no index past the last name
beyond : (names : List (List ℕ)) (sizes : List ℕ) (x k : ℕ) → map length names ≡ sizes → length sizes ≤ x → k < width names x → ⊥
beyond names sizes x k wide ge lt =
    let count : length names ≡ length sizes = rows_length names sizes wide in
    let none : row names x ≡ [] = past_end names x [] (omega (arith, count, ge)) in
    let small : k < length {A = ℕ} [] = subst (λ (ws : List ℕ). k < length ws) none lt in
    omega (arith, small)

-- the first parameters are in scope
pub below_seen : (n x : ℕ) → x < n → IsTrue (visible x (below n))
below_seen zero x lt = absurd (omega arith)
below_seen (suc n) x lt = ⊎_elim
    (λ (same : x ≡ n). ap (λ (b : Bool). b || visible x (below n)) (eq-eqb x n same))
    (λ (other : x ≡ n → ⊥). or_second (eqb x n) (visible x (below n)) (below_seen n x (omega (arith, other, lt))))
    (cases_eq x n)
  where
    or_second : (a b : Bool) → IsTrue b → IsTrue (a || b)
    or_second true b h = refl
    or_second false b h = h

length_both : (a b : List ℕ) → length a ≤ length (a ++ b)
length_both [] b = omega arith
length_both (x ∷ a) b = let rest = length_both a b in omega (arith, rest)

module _ (program : ProgramTree) (certificate : Certificate) (scoped : IsWellScoped program) where
  abbrev checked : Checked
  checked = record { flat = lowered program; certificate = certificate }

  -- parameters are names
  pub params_named : (f : ℕ) → f < length program.functions → (function_at program f).params ≤ length (function_at program f).sizes
  params_named f there =
      let tree = function_at program f in
      let is = ((lowers program scoped).functions f there).scoped.sizes in
      let many = length_both (widths.scalars tree.params) (declared_words tree) in
      let same : length tree.sizes ≡ length (widths.scalars tree.params ++ declared_words tree) = ap (λ (ns : List ℕ). length ns) is in
      omega (arith, many, same, scalars_length tree.params)

  index_up : (pool : Pool) (frame : Frame) (tree : FunctionTree) (place : Place) (flat : FlatFrame) → HoldsVariables checked pool frame flat → IndexStands tree place flat → HoldsIndex checked pool frame (length tree.sizes) place
  index_up pool frame tree (InLocalElement a i) flat holds h = holds (length tree.sizes) (i ∷ []) h 0 (omega arith)
  index_up pool frame tree (InGlobalElement a i) flat holds h = holds (length tree.sizes) (i ∷ []) h 0 (omega arith)
  index_up pool frame tree _ flat holds h = tt

  -- a frame that waits
  pub frame_up : (pool : Pool) (frame : Frame) (op : Option Op) (waiting : WaitingFrame) (flat : FlatFrame) → frame.function ≡ flat.function → site_in (operation_at (lowered program) flat.function flat.next) ≡ site_in op
      → HoldsVariables checked pool frame flat → FrameStandsFor program waiting flat → IsWaitingFrame checked program pool frame op waiting
  frame_up pool frame op waiting flat same at holds h =
      let tree = function_at program waiting.frame.function in
      record {
        function = same ∙ h.function;
        site = sym at ∙ h.site;
        named = h.names;
        call = h.call;
        in_text = h.waits;
        names = λ x k seen lt. ⊎_elim
            (λ (there : x < length tree.sizes). holds x (row waiting.frame.names x) (h.scope x there seen) k lt)
            (λ (ge : length tree.sizes ≤ x). absurd (beyond waiting.frame.names tree.sizes x k h.names ge lt))
            (cases_lt x (length tree.sizes));
        index = index_up pool frame tree waiting.place flat holds h.index;
      }

  pub frames_up : (pool : Pool) (frames : List Frame) (flats : List FlatFrame) (waitings : List WaitingFrame) → AreFlatFrames checked pool frames flats → FramesStandFor program waitings flats → AreWaitingFrames checked program pool frames waitings
  frames_up pool [] [] [] h k = tt
  frames_up pool [] (flat ∷ flats) waitings h k = absurd h
  frames_up pool (frame ∷ frames) [] waitings h k = absurd h
  frames_up pool (frame ∷ frames) (flat ∷ flats) (waiting ∷ waitings) h k = (
    frame_up pool frame (operation_at (lowered program) frame.function frame.operation) waiting flat h.0.function
        (λ i. site_in (operation_at (lowered program) (sym h.0.function i) (sym h.0.operation i))) h.0.variables k.0,
    frames_up pool frames flats waitings h.1 k.1,
  )
  frames_up pool _ _ _ h k = absurd k

  -- a frame at its function's start
  pub start_up : (core : Core) (frame : Frame) (starting : source.Frame) (flat : FlatFrame) → IsFlatStart checked core frame flat → FrameStartsAs program starting flat → IsStartingFrame program core frame starting
  start_up core frame starting flat h k =
      let f = starting.function in
      let tree = function_at program f in
      let same : frame.function ≡ f = sym (ap (λ (g : FlatFrame). g.function) h.pushed_so) ∙ k.function in
      let params : (codes.function_at (lowered program) frame.function).params ≡ tree.params = ap (λ (g : ℕ). (codes.function_at (lowered program) g).params) same ∙ ap (λ (g : FlatFunction). g.params) (function_is program scoped f k.defined) in
      let count : length h.arguments ≡ tree.params = h.count ∙ params in
      record {
        function = same;
        named = k.names;
        parameters = λ x lt.
            let many = params_named f k.defined in
            let set : variable flat x ≡ Some (row starting.names x) = k.scope x (omega (arith, many, lt)) (below_seen tree.params x lt) in
            let rest : List (Option (List ℕ)) = replicate (length (codes.function_at (lowered program) frame.function).sizes - length h.arguments) None in
            let given : variable flat x ≡ Some (slice_index h.arguments x ∷ []) = ap (λ (g : FlatFrame). variable g x) h.pushed_so ∙ argument_at h.arguments rest x (omega (arith, count, lt)) in
            let both : Some (row starting.names x) ≡ Some (slice_index h.arguments x ∷ []) = sym set ∙ given in
            let rows : row starting.names x ≡ slice_index h.arguments x ∷ [] = cc in
            ap (λ (ws : List ℕ). slice_index ws 0) rows ∙ h.registers x (omega (arith, count, lt));
        to_do = k.to_do;
      }
