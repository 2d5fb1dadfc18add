-- An accepted program, as contracts see it.
use Rattle.c_tree.specs.declared.programs.Program.{Program}
use Rattle.stack_image.specs.declared.images.Image.{Image}
use Rattle.stack_certificate.specs.declared.certificates.Certificate.{Certificate}

-- a program with the image and the certificate that were accepted with it
pub record Acceptance : Type 0 where
  pub program : Program
  pub image : Image
  pub certificate : Certificate
