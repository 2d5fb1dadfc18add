-- How the bytes of a source, an image and a certificate are read, one after another.
use Rattle.std.specs.Prelude.{ℕ, List}
use Rattle.c_tree.specs.ProgramView.{program_tree}
use Rattle.c_tree.specs.Trees.{ProgramTree}
use Rattle.stack_image.specs.declared.images.Image.{Image}
use Rattle.stack_certificate.specs.declared.certificates.Certificate.{Certificate}
use Rattle.command_files.specs.Loads.{AfterSource, AfterImage, AfterCertificate, IsSourceText, IsImageText, IsCertificateText}
use Rattle.command_outcomes.specs.Outcome.{Outcome, NoMore}
use Rattle.pair_commands.specs.declared.pairs.ReadPair.{ReadPair}

-- the bytes are those of this program, this image and this certificate
pub record IsPairText (source image certificate : List ℕ) (pair : ReadPair) : Type 0 where
  pub program : IsSourceText source (program_tree pair.program)
  pub image_bytes : IsImageText image pair.image
  pub certificate_bytes : IsCertificateText certificate pair.certificate

-- the source is read first, then the image, then the certificate
abbrev pub AfterPair : (source image certificate : List ℕ) → (ProgramTree → Image → Certificate → Outcome → Type 0) → Outcome → Type 0
AfterPair source image certificate next =
    AfterSource source (λ program. AfterImage image (λ i. AfterCertificate certificate (next program i)))

-- nothing more is due once all three are read
abbrev pub Unread : ProgramTree → Image → Certificate → Outcome → Type 0
Unread program i = NoMore
