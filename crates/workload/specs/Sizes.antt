-- The sizes of a program that is built whatever its placement.
use Rattle.std.specs.Prelude.{◌≡◌, ◌≤◌, None}
use Rattle.c_tree.specs.Trees.{ProgramTree}
use Rattle.c_lower.specs.ProgramCode.{lowered}
use Rattle.checkpoint_place.specs.declared.plans.Plan.{Plan}
use Rattle.codegen_link.specs.Layout.{code_words}
use Rattle.stack_build.specs.Builds.{frame_refusal}

-- no frame exceeds 2,032 bytes, and the code has at most 200,000 words under any plan
pub record HasFittingSizes (program : ProgramTree) : Type 0 where
  pub frames : frame_refusal (lowered program) 2032 ≡ None
  pub words : (plan : Plan) → code_words (lowered program) plan ≤ 200000
