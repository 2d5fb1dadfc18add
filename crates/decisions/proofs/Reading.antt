-- Files that are there and read lead on to what follows them.
use Rattle.decisions.proofs.Common.{◌≡◌, ℕ, List, Option, Some, None, sym, subst, ◌∙◌, arith, ⊎_elim, Files, ProgramTree, one_program, never, Options, Image, Certificate, Document, Outcome, OfFile, AfterLoad, AfterThree, IsSourceText, AfterSource, IsImageText, AfterImage, IsCertificateText, AfterCertificate, IsLoaded, HasFittingCode, IsUnbuilt, HasFittingFrames, IsFrameRefused, HasSource, HasValidPair}
use Rattle.stack_build.specs.declared.refusals.BuildError.TheVariants.{FrameTooLarge}
use Rattle.certificate_text.proofs.Spellings.{spelling_unique}
use Rattle.command_outcomes.specs.declared.documents.Document.TheVariants as document
use Rattle.capriccio_call.proofs.OneCase.{image-is, image-never, certificate-never}

-- ---- loads

pub after_load : (which : Document) (files : Files) (name bytes : List ℕ) (next : List ℕ → Outcome → Type 0) (o : Outcome) → IsLoaded which (Some files) name bytes → AfterLoad which (Some files) name next o → next bytes o
after_load which files name bytes next o there h =
    let same : h.0 ≡ Some bytes = sym h.1 ∙ there.file in
    let fits = there.fits in
    ⊎_elim (λ x. x.1) (λ x. let long = x.0 in absurd (omega (arith, fits, long))) (subst (λ (file : Option (List ℕ)). OfFile which file next o) same h.2)

-- ---- readings

pub after_source : (bytes : List ℕ) (program : ProgramTree) (next : ProgramTree → Outcome → Type 0) (o : Outcome) → IsSourceText bytes program → AfterSource bytes next o → next program o
after_source bytes program next o is h =
    ⊎_elim
    (λ x. let other = x.1 in subst (λ (p : ProgramTree). next p o) (one_program bytes x.0 program other.reads is.reads) x.2)
    (λ x. absurd (never bytes program x.0 is.reads x.1))
    h

pub after_image : (bytes : List ℕ) (i : Image) (next : Image → Outcome → Type 0) (o : Outcome) → IsImageText bytes i → AfterImage bytes next o → next i o
after_image bytes i next o is h =
    ⊎_elim
    (λ x. subst (λ (j : Image). next j o) (sym (image-is bytes x.0 x.1) ∙ image-is bytes i is) x.2)
    (λ x. absurd (image-never bytes i x.0 is x.1))
    h

pub after_certificate : (bytes : List ℕ) (c : Certificate) (next : Certificate → Outcome → Type 0) (o : Outcome) → IsCertificateText bytes c → AfterCertificate bytes next o → next c o
after_certificate bytes c next o is h =
    ⊎_elim
    (λ x. let other = x.1 in subst (λ (d : Certificate). next d o) (spelling_unique x.0 c (sym other.spelled ∙ is.spelled)) x.2)
    (λ x. absurd (certificate-never bytes c x.0 is x.1))
    h

-- ---- a source, and a pair

pub after_program : (files : Files) (name : List ℕ) (program : ProgramTree) (next : ProgramTree → Outcome → Type 0) (o : Outcome) → HasSource files name program →
    AfterLoad document.Source (Some files) name (λ bytes. AfterSource bytes next) o → next program o
after_program files name program next o h due =
    after_source h.bytes program next o h.reads (after_load document.Source files name h.bytes (λ bytes. AfterSource bytes next) o h.there due)

-- what is read of the bytes of three files
abbrev pub ReadsThree : (ProgramTree → Image → Certificate → Outcome → Type 0) → (source image certificate : List ℕ) → Outcome → Type 0
ReadsThree next source image certificate = AfterSource source (λ program. AfterImage image (λ i. AfterCertificate certificate (λ c. next program i c)))

pub after_pair : (files : Files) (s i c : List ℕ) (program : ProgramTree) (im : Image) (ce : Certificate) (next : ProgramTree → Image → Certificate → Outcome → Type 0) (o : Outcome) → HasValidPair files s i c program im ce →
    AfterThree (Some files) s i c (ReadsThree next) o → next program im ce o
after_pair files s i c program im ce next o h due =
    let source = h.source in
    let one = after_load document.Source files s source.bytes (λ source. AfterLoad document.Image (Some files) i (λ image. AfterLoad document.Certificate (Some files) c (ReadsThree next source image))) o source.there due in
    let two = after_load document.Image files i h.image_bytes (λ image. AfterLoad document.Certificate (Some files) c (ReadsThree next source.bytes image)) o h.image_there one in
    let three = after_load document.Certificate files c h.certificate_bytes (ReadsThree next source.bytes h.image_bytes) o h.certificate_there two in
    let program_read = after_source source.bytes program (λ p. AfterImage h.image_bytes (λ i. AfterCertificate h.certificate_bytes (λ c. next p i c))) o source.reads three in
    let image_read = after_image h.image_bytes im (λ i. AfterCertificate h.certificate_bytes (λ c. next program i c)) o h.image_is program_read in
    after_certificate h.certificate_bytes ce (λ c. next program im c) o h.certificate_is image_read

-- ---- limits

pub not_refused : (program : ProgramTree) (path : ℕ) (o : Outcome) → HasFittingFrames program path → IsFrameRefused program path o → ⊥
not_refused program path o fits h = let e : Some (FrameTooLarge h.function h.bytes) ≡ None = sym h.first ∙ fits in cc

pub not_unbuilt : (sizes : Options) (program : ProgramTree) (o : Outcome) → HasFittingFrames program sizes.max_path → HasFittingCode program sizes → IsUnbuilt sizes program o → ⊥
not_unbuilt sizes program o frames code h = ⊎_elim (λ x. not_refused program sizes.max_path o frames x) (λ x. code x.1 x.2) h
