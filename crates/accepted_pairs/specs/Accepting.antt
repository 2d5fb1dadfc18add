-- The definition of an accepted program.
use Rattle.std.specs.Prelude.{◌≡◌}
use Rattle.c_tree.specs.Trees.{ProgramTree}
use Rattle.c_tree.specs.ProgramView.{program_tree}
use Rattle.c_tree.specs.declared.programs.Program.{Program}
use Rattle.stack_image.specs.declared.images.Image.{Image}
use Rattle.stack_certificate.specs.declared.certificates.Certificate.{Certificate}
use Rattle.accepted_pairs.specs.declared.accepted.Accepted.{Accepted}

-- the tree of an accepted program
abbrev pub accepted_tree : Accepted → ProgramTree
accepted_tree accepted = program_tree accepted.program

-- the three given values, accepted
pub record Accepts (accepted : Accepted) (program : Program) (image : Image) (certificate : Certificate) : Type 0 where
  pub program_is : accepted_tree accepted ≡ program_tree program
  pub image_is : accepted.image ≡ image
  pub certificate_is : accepted.certificate ≡ certificate
