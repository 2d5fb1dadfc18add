-- When a pair is read back from its files.
use Rattle.std.specs.Prelude.{◌≤◌, length}
use Rattle.c_tree.specs.Trees.{ProgramTree}
use Rattle.c_lower.specs.ProgramCode.{lowered}
use Rattle.certificate_rules.specs.Validity.{IsValid}
use Rattle.certificate_text.specs.Text as certificate
use Rattle.stack_image.specs.declared.images.Image.{Image}
use Rattle.stack_image.specs.Spelling as image
use Rattle.stack_certificate.specs.declared.certificates.Certificate.{Certificate}
use Rattle.command_outcomes.specs.declared.documents.Document.TheVariants as document
use Rattle.command_outcomes.specs.CauseLines.{most_bytes}

-- both are within the limits of their formats, each number is a word, neither file is too long, and every rule holds
pub record IsReadAgain (program : ProgramTree) (i : Image) (c : Certificate) : Type 0 where
  pub image_fits : image.IsWithinLimits i
  pub image_words : image.HoldsWords i
  pub image_short : length (image.spelling i) ≤ most_bytes document.Image
  pub certificate_fits : certificate.IsWithinLimits c
  pub certificate_words : certificate.HoldsWords c
  pub certificate_short : length (certificate.spelling c) ≤ most_bytes document.Certificate
  pub valid : IsValid (lowered program) i c
