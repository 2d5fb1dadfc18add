-- A machine thread with one frame at its function's start stands for a source thread that has just started.
use Rattle.machine_meaning.proofs.Common.{◌≡◌, ℕ, ◌+◌, ◌<◌, List, [], ◌∷◌, length, refl, sym, ap, ◌∙◌, subst, arith, length-map, lowered_function, lowered, function_at, pushed, ProgramTree, IsWellScoped, IsValid, Pool, Frame, HasFrames, a0, Core, Checked, InPrologue, row_of, AtStart, Starts, StandsFor, read, Certificate, Image}
use Rattle.machine_meaning.proofs.Lowered.{lowers}
use Rattle.machine_meaning.proofs.Pushed.{pushed_holds}
use Rattle.machine_meaning.proofs.Numbering.{numbered, numbered_length, numbered_at}
use Rattle.machine_meaning.proofs.StandsForSome.{argument_word}
use Rattle.machine_meaning.proofs.ExactlyBetween.{at_place}

module _ (program : ProgramTree) (image : Image) (certificate : Certificate) (scoped : IsWellScoped program) (valid : IsValid (lowered program) image certificate) where
  abbrev checked : Checked
  checked = record { flat = lowered program; certificate = certificate }

  pub record JustStarted (pool : Pool) (core : Core) (f : ℕ) (frames : List Frame) (in_place : HasFrames checked pool core (InPrologue f 0) frames) : Type 0 where
    pub function : ℕ
    pub arguments : List ℕ
    pub stands : StandsFor checked program pool core (AtStart f frames in_place) (Starts (pushed program function arguments) [])

  pub fresh_somewhere : (pool : Pool) (core : Core) (f : ℕ) (frames : List Frame) (in_place : HasFrames checked pool core (InPrologue f 0) frames) → length frames ≡ 1 → JustStarted pool core f frames in_place
  fresh_somewhere pool core f (frame ∷ []) in_place single =
      let at = at_place checked pool core (InPrologue f 0) (row_of checked (InPrologue f 0)) core.chain frame [] in_place.frames_are in
      let there : frame.function < length program.functions = subst (λ (g : ℕ). g < length program.functions) (sym at.function) (omega (arith, in_place.at.0, length-map program.functions lowered_function)) in
      let g = frame.function in
      let params = (function_at program g).params in
      let arguments = numbered (λ x. read core.x (a0 + x)) 0 params in
      let count : length arguments ≡ params = numbered_length (λ x. read core.x (a0 + x)) 0 params in
      record {
        function = g;
        arguments = arguments;
        stands = (
          record {
            function = refl;
            named = (pushed_holds program (lowered program) (lowers program scoped) g arguments there count).wide;
            parameters = λ x lt. argument_word arguments _ x (omega (arith, count, lt)) ∙ numbered_at (λ y. read core.x (a0 + y)) 0 params x 0 lt ∙ (let same : a0 + (0 + x) ≡ a0 + x = omega arith in ap (λ (r : ℕ). read core.x r) same);
            to_do = refl;
          },
          tt,
        );
      }
  fresh_somewhere pool core f _ in_place single = absurd (omega (arith, single))
