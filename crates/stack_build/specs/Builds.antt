-- The analysis of a program, and its image and certificate.
use Rattle.std.specs.Prelude.{ℕ, ◌≡◌, ◌<◌, ◌^◌, ◌-◌, List, min, option_map, Option}
use Rattle.flat_code.specs.Codes.{FlatCode}
use Rattle.call_graph.specs.Graph.{CallGraphState}
use Rattle.cycle_break.specs.BackEdges.{back_edges}
use Rattle.checkpoint_place.specs.declared.plans.Plan.{Plan}
use Rattle.checkpoint_place.specs.Placement.{IsPlacement}
use Rattle.checkpoint_place.specs.Refusal.{refusal_from}
use Rattle.stack_image.specs.declared.images.Image.{Image}
use Rattle.stack_certificate.specs.declared.certificates.Certificate.{Certificate}
use Rattle.stack_plan.specs.Plans.{weights_of, IsGraphOf}
use Rattle.codegen_link.specs.declared.options.Options.{Options}
use Rattle.codegen_link.specs.Layout.{code_words, IsCertificateOf, IsImageOf}
use Rattle.stack_build.specs.declared.refusals.BuildError.{BuildError}
use Rattle.stack_build.specs.declared.refusals.BuildError.TheVariants.{CodeTooLarge}
use Rattle.stack_build.specs.Refusals.{of_place}

-- the refusal of the first frame that exceeds max path or 2,032 bytes, if there is one
abbrev pub frame_refusal : FlatCode → ℕ → Option BuildError
frame_refusal code max_path = option_map of_place (refusal_from max_path 0 (weights_of code))

-- a plan is the placement of a program's call graph without the back edges of the walk
pub record IsPlacedBy (code : FlatCode) (max_path : ℕ) (graph : CallGraphState) (back : List ℕ) (plan : Plan) : Type 0 where
  pub graph_is : IsGraphOf code graph
  pub back_is : back ≡ back_edges graph
  pub placed : IsPlacement graph back max_path plan

abbrev pub IsPlanned : FlatCode → ℕ → Plan → Type 0
IsPlanned code max_path plan = (graph : CallGraphState) × (back : List ℕ) × IsPlacedBy code max_path graph back plan

-- the image and the certificate that are laid out for the placement
abbrev pub IsLaidOut : FlatCode → Options → Image → Certificate → Type 0
IsLaidOut code options image certificate =
    (plan : Plan) × IsPlanned code options.max_path plan × IsCertificateOf code plan options certificate × IsImageOf code certificate image

-- the refusal of a placement whose code is too large
abbrev pub IsTooLarge : FlatCode → Options → BuildError → Type 0
IsTooLarge code options error =
    (plan : Plan) × IsPlanned code options.max_path plan × (200000 < code_words code plan) × (error ≡ CodeTooLarge (min (code_words code plan) (2 ^ 64 - 1)))
