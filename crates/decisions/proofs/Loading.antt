-- What follows a load, and a reading of what was loaded, is due where it is due of everything that may be read.
use Rattle.decisions.proofs.Common.{ℕ, ◌≡◌, ◌⊎◌, inl, inr, refl, List, length, Option, Some, None, cases_lt, Files, ProgramTree, Image, Certificate, Document, Outcome, most_bytes, refusal, OfFile, AfterLoad, AfterThree, IsSourceText, AfterSource, IsImageText, AfterImage, IsCertificateText, AfterCertificate, AreBytes, HoldBytes}
use Rattle.command_outcomes.specs.declared.documents.Document.TheVariants as document
use Rattle.command_outcomes.specs.declared.stops.Cause.TheVariants as cause
use Rattle.decisions.proofs.Sources.{AProgram, AnError, source_decided}
use Rattle.decisions.proofs.Images as images
use Rattle.decisions.proofs.Certificates as certificates

-- some outcome is due
abbrev pub Some_due : (Outcome → Type 0) → Type 0
Some_due due = (outcome : Outcome) × due outcome

-- ---- loads

of_bytes : (which : Document) (bytes : List ℕ) (next : List ℕ → Outcome → Type 0) → Some_due (next bytes) → Some_due (OfFile which (Some bytes) next)
of_bytes which bytes next after =
    elim (cases_lt (most_bytes which) (length bytes)) [
      | inl long ↦ (refusal (cause.TooLong which), inr (long, refl))
      | inr fits ↦ (after.0, inl (fits, after.1))
    ]

told : (which : Document) (files : Files) (name : List ℕ) (next : List ℕ → Outcome → Type 0) → ((bytes : List ℕ) → AreBytes bytes → Some_due (next bytes)) → HoldBytes (Some files) → (file : Option (List ℕ)) → files name ≡ file
    → Some_due (AfterLoad which (Some files) name next)
told which files name next after are None e = (refusal (cause.Absent which), (None, e, refl))
told which files name next after are (Some bytes) e = let o = of_bytes which bytes next (after bytes (are name bytes e)) in (o.0, (Some bytes, e, o.1))

pub load_due : (which : Document) (files : Option Files) (name : List ℕ) (next : List ℕ → Outcome → Type 0) → HoldBytes files → ((bytes : List ℕ) → AreBytes bytes → Some_due (next bytes)) → Some_due (AfterLoad which files name next)
load_due which None name next are after = (refusal (cause.Absent which), (None, tt, refl))
load_due which (Some files) name next are after = told which files name next after are (files name) refl

pub three_due : (files : Option Files) (source image certificate : List ℕ) (next : List ℕ → List ℕ → List ℕ → Outcome → Type 0) → HoldBytes files
    → ((s i c : List ℕ) → AreBytes i → Some_due (next s i c)) → Some_due (AfterThree files source image certificate next)
three_due files source image certificate next are after =
    load_due document.Source files source _ are (λ s s_bytes.
    load_due document.Image files image _ are (λ i i_bytes.
    load_due document.Certificate files certificate _ are (λ c c_bytes. after s i c i_bytes)))

-- ---- readings

pub source_due : (bytes : List ℕ) (next : ProgramTree → Outcome → Type 0) → ((program : ProgramTree) → IsSourceText bytes program → Some_due (next program)) → Some_due (AfterSource bytes next)
source_due bytes next after = by (source_decided bytes) where
  by : AProgram bytes ⊎ AnError bytes → Some_due (AfterSource bytes next)
  by (inl p) =
      let is : IsSourceText bytes p.program = record { reads = p.reads; scoped = p.scoped } in
      let o = after p.program is in
      (o.0, inl (p.program, is, o.1))
  by (inr e) = (refusal (cause.Source e.0), inr (e.0, e.1, refl))

pub image_due : (bytes : List ℕ) (next : Image → Outcome → Type 0) → AreBytes bytes → ((i : Image) → IsImageText bytes i → Some_due (next i)) → Some_due (AfterImage bytes next)
image_due bytes next are after = by (images.image_decided bytes are) where
  by : images.ReadOrRefused bytes → Some_due (AfterImage bytes next)
  by (inl r) =
      let is : IsImageText bytes r.0 = record { limits = r.1; words = r.2; spelled = r.3 } in
      let o = after r.0 is in
      (o.0, inl (r.0, is, o.1))
  by (inr e) = (refusal (cause.Image e.0), inr (e.0, e.1, refl))

pub certificate_due : (bytes : List ℕ) (next : Certificate → Outcome → Type 0) → ((c : Certificate) → IsCertificateText bytes c → Some_due (next c)) → Some_due (AfterCertificate bytes next)
certificate_due bytes next after = by (certificates.certificate_decided bytes) where
  by : certificates.ReadOrRefused bytes → Some_due (AfterCertificate bytes next)
  by (inl r) =
      let is : IsCertificateText bytes r.0 = record { limits = r.1; words = r.2; spelled = r.3 } in
      let o = after r.0 is in
      (o.0, inl (r.0, is, o.1))
  by (inr e) = (refusal (cause.CertificateLine e.0), inr (e.0, e.1, refl))
