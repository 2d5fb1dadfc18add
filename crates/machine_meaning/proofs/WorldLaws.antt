-- The laws of segments, in the order of their contracts.
use Rattle.machine_meaning.proofs.Common.{◌≡◌, ℕ, List, [], Some, lowered, ProgramTree, IsWellScoped, IsValid, Pick, after_action, World, Setting, step, IsWellFormed, Certificate, Image, IsReached, StepReaches, IsSettled, StandsSettled, StandsForWorld}
use Rattle.c_mean.specs.World as source
use Rattle.machine_meaning.proofs.BetweenSegments.{somewhere_law}
use Rattle.machine_meaning.proofs.Picks.{pick_reach}
use Rattle.machine_meaning.proofs.WorldSteps.{step_reach}

pub picks : (program : ProgramTree) (image : Image) (certificate : Certificate) (s : Setting) (w after : World) (start : source.World) (number : ℕ) → IsWellScoped program → IsValid (lowered program) image certificate → s.code ≡ image.code →
    IsWellFormed (record { flat = lowered program; certificate = certificate }) s w → StandsSettled (record { flat = lowered program; certificate = certificate }) program w start → after_action s w (Pick number) ≡ Some after →
    IsReached (record { flat = lowered program; certificate = certificate }) program s start number [] after
picks program image certificate s w after start number scoped valid code_is formed stands e = pick_reach program image certificate scoped valid s code_is start number w formed stands after e

pub steps : (program : ProgramTree) (image : Image) (certificate : Certificate) (s : Setting) (w : World) (start : source.World) (number : ℕ) (puts : List ℕ) → IsWellScoped program → IsValid (lowered program) image certificate → s.code ≡ image.code →
    IsWellFormed (record { flat = lowered program; certificate = certificate }) s w → IsReached (record { flat = lowered program; certificate = certificate }) program s start number puts w →
    StepReaches (record { flat = lowered program; certificate = certificate }) program s start number puts (step s w)
steps program image certificate s w start number puts scoped valid code_is formed reached = step_reach program image certificate scoped valid s code_is start number puts w formed reached

pub somewhere : (program : ProgramTree) (image : Image) (certificate : Certificate) (s : Setting) (w : World) → IsWellScoped program → IsValid (lowered program) image certificate →
    IsWellFormed (record { flat = lowered program; certificate = certificate }) s w → IsSettled (record { flat = lowered program; certificate = certificate }) w →
    (other : source.World) × StandsForWorld (record { flat = lowered program; certificate = certificate }) program w other
somewhere program image certificate s w scoped valid formed settled = somewhere_law program image certificate scoped valid s w formed settled
