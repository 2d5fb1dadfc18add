-- `graph` and `build` of a program: some outcome is due.
use Rattle.decisions.proofs.Common.{◌≡◌, ℕ, ◌+◌, ◌-◌, ◌^◌, ◌<◌, ◌≤◌, ◌⊎◌, inl, inr, Bool, true, false, List, [], ◌∷◌, ◌++◌, eqb, Option, Some, None, refl, subst, arith, min, option_map, if◌then◌else◌, IsDistinct, cases_lt, Files, ProgramTree, IsWellScoped, lowered, sites_distinct, site_numbers, CallGraphState, back_edges, Plan, PlaceError, is_too_large, refusal_from, weights_of, frame_refusal, IsPlacedBy, IsPlanned, IsLaidOut, of_place, Image, Certificate, Options, code_words, analysis_lines, name_at, printed, refused, frame_words, refusal, names_of, IsFrameRefused, HasFittingFrames, GraphsProgram, Graphs, built, HasFittingCode, IsUnbuilt, BuildsProgram, Builds, lowered-graph, HoldBytes}
use Rattle.checkpoint_place.specs.declared.refusals.PlaceError.TheVariants as place
use Rattle.stack_build.specs.declared.refusals.BuildError.{BuildError}
use Rattle.stack_build.specs.declared.refusals.BuildError.TheVariants.{FrameTooLarge, CodeTooLarge, Memory}
use Rattle.command_outcomes.specs.declared.documents.Document.TheVariants as document
use Rattle.command_outcomes.specs.declared.stops.Cause.TheVariants as cause
use Rattle.pair_commands.proofs.OneBuild.{plans-are-one}
use Rattle.decisions.proofs.Graphs.{a_graph}
use Rattle.decisions.proofs.Bounds.{a_placement}
use Rattle.decisions.proofs.Layouts.{a_layout}
use Rattle.decisions.proofs.Loading.{Some_due, load_due, source_due}

-- ---- frames

-- a refusal, if there is one, is of a frame
abbrev IsOfFrame : Option BuildError → Type 0
IsOfFrame (Some (CodeTooLarge words)) = ⊥
IsOfFrame (Some Memory) = ⊥
IsOfFrame _ = Unit {0}

one_frame : (large : Bool) (function bytes : ℕ) (rest : Option PlaceError) → IsOfFrame (option_map of_place rest) → IsOfFrame (option_map of_place (if large then Some (place.FrameTooLarge function bytes) else rest))
one_frame true function bytes rest is = tt
one_frame false function bytes rest is = is

of_frames : (path function : ℕ) (weights : List ℕ) → IsOfFrame (option_map of_place (refusal_from path function weights))
of_frames path function [] = tt
of_frames path function (weight ∷ weights) = one_frame (is_too_large path weight) function weight (refusal_from path (function + 1) weights) (of_frames path (function + 1) weights)

module _ (program : ProgramTree) (scoped : IsWellScoped program) where
  frames_by : (path : ℕ) (found : Option BuildError) → frame_refusal (lowered program) path ≡ found → IsOfFrame found → Some_due (IsFrameRefused program path) ⊎ HasFittingFrames program path
  frames_by path None e is = inr e
  frames_by path (Some (FrameTooLarge function bytes)) e is =
      inl (refused 5 (frame_words (name_at (names_of program) function) bytes ++ 10 ∷ []), record { function = function; bytes = bytes; first = e; is = refl })
  frames_by path (Some _) e is = absurd is

  frames_fit : (path : ℕ) → Some_due (IsFrameRefused program path) ⊎ HasFittingFrames program path
  frames_fit path = frames_by path (frame_refusal (lowered program) path) refl (of_frames path 0 (weights_of (lowered program)))

  -- ---- the placement

  distinct : IsDistinct eqb (site_numbers (lowered program))
  distinct = sites_distinct program scoped.site_numbers.0

  pub record APlan (path : ℕ) : Type 0 where
    pub graph : CallGraphState
    pub plan : Plan
    pub placed : IsPlacedBy (lowered program) path graph (back_edges graph) plan

  a_plan : (path : ℕ) → APlan path
  a_plan path =
      let g = a_graph (lowered program) distinct in
      let p = a_placement g.graph path (lowered-graph program scoped g.graph g.is) in
      record { graph = g.graph; plan = p.plan; placed = record { graph_is = g.is; back_is = refl; placed = p.is } }

  -- ---- graph

  graph_by : (path : ℕ) → Some_due (IsFrameRefused program path) ⊎ HasFittingFrames program path → Some_due (GraphsProgram path program)
  graph_by path (inl o) = (o.0, inl o.1)
  graph_by path (inr fits) =
      let p = a_plan path in
      let text = analysis_lines (names_of program) p.graph.weights p.plan.bounds p.graph.sites (back_edges p.graph) p.plan.checkpointed in
      (printed 0 text, inr (fits, (text, record { graph = p.graph; back = back_edges p.graph; plan = p.plan; placed = p.placed; lines = refl }, refl)))

  pub graph_program : (path : ℕ) → Some_due (GraphsProgram path program)
  graph_program path = graph_by path (frames_fit path)

  -- ---- build

  module _ (options : Options) where
    planned : (p : APlan options.max_path) → IsPlanned (lowered program) options.max_path p.plan
    planned p = (p.graph, back_edges p.graph, p.placed)

    fitting : (p : APlan options.max_path) → code_words (lowered program) p.plan ≤ 200000 → HasFittingCode program options
    fitting p fits words large =
        let same : large.0 ≡ p.plan = plans-are-one program scoped options.max_path large.0 p.plan large.1 (planned p) in
        let count : 200000 < code_words (lowered program) p.plan = subst (λ (plan : Plan). 200000 < code_words (lowered program) plan) same large.2 in
        omega (arith, count, fits)

    -- the program is laid out so, with frames and code that fit
    pub record ABuild : Type 0 where
      pub frames : HasFittingFrames program options.max_path
      pub code : HasFittingCode program options
      pub image : Image
      pub certificate : Certificate
      pub laid : IsLaidOut (lowered program) options image certificate

    by_code : (p : APlan options.max_path) → HasFittingFrames program options.max_path → (200000 < code_words (lowered program) p.plan) ⊎ (code_words (lowered program) p.plan ≤ 200000) → Some_due (IsUnbuilt options program) ⊎ ABuild
    by_code p frames (inl large) =
        let words = min (code_words (lowered program) p.plan) (2 ^ 64 - 1) in
        inl (refusal (cause.Code words), inr (frames, words, (p.plan, planned p, large, refl), refl))
    by_code p frames (inr fits) =
        let l = a_layout (lowered program) options p.plan distinct (planned p) in
        inr (record { frames = frames; code = fitting p fits; image = l.image; certificate = l.certificate; laid = l.is })

    by_frames : Some_due (IsFrameRefused program options.max_path) ⊎ HasFittingFrames program options.max_path → Some_due (IsUnbuilt options program) ⊎ ABuild
    by_frames (inl o) = inl (o.0, inl o.1)
    by_frames (inr frames) = let p = a_plan options.max_path in by_code p frames (cases_lt 200000 (code_words (lowered program) p.plan))

    pub built_or_not : Some_due (IsUnbuilt options program) ⊎ ABuild
    built_or_not = by_frames (frames_fit options.max_path)

    pub build_program : (image_name certificate_name : List ℕ) → Some_due (BuildsProgram options image_name certificate_name program)
    build_program image_name certificate_name =
        elim built_or_not [
          | inl o ↦ (o.0, inl o.1)
          | inr b ↦ (built image_name certificate_name b.image b.certificate, inr (b.frames, b.code, b.image, b.certificate, b.laid, refl))
        ]

-- ---- the commands

pub graph_due : (files : Option Files) (name : List ℕ) (path : ℕ) → HoldBytes files → Some_due (Graphs files name path)
graph_due files name path are = load_due document.Source files name _ are (λ bytes b. source_due bytes (GraphsProgram path) (λ program is. graph_program program is.scoped path))

pub build_due : (files : Option Files) (name image_name certificate_name : List ℕ) (options : Options) → HoldBytes files → Some_due (Builds files name image_name certificate_name options)
build_due files name image_name certificate_name options are =
    load_due document.Source files name _ are (λ bytes b. source_due bytes (BuildsProgram options image_name certificate_name) (λ program is. build_program program is.scoped options image_name certificate_name))
