-- What is due with what follows it, from what is due of the step before.
use Rattle.std.proofs.Common.{◌≡◌, ℕ, suc, ◌<◌, List, length, Option, Some, None, Result, Ok, Err, refl, sym, ◌∙◌, subst, arith, inl, inr, ⊎_elim}
use Rattle.std.specs.Prelude.{IfSome, IsSomeAnd, MatchResult, replicate}
use Rattle.std.proofs.lemmas.List.{length-replicate}
use Rattle.cap_io.specs.Files.{Files, KeepsFiles}
use Rattle.cap_io.specs.Shelves.{Loads}
use Rattle.cap_io.specs.declared.shelves.ShelfError.TheVariants as shelf
use Rattle.c_tree.specs.Trees.{ProgramTree}
use Rattle.stack_image.specs.declared.images.Image.{Image}
use Rattle.stack_certificate.specs.declared.certificates.Certificate.{Certificate}
use Rattle.command_outcomes.specs.declared.documents.Document.{Document}
use Rattle.command_outcomes.specs.declared.documents.Document.TheVariants as document
use Rattle.command_outcomes.specs.declared.stops.Cause.TheVariants as cause
use Rattle.command_outcomes.specs.declared.stops.Stop.{Stop}
use Rattle.command_outcomes.specs.declared.stops.Stop.TheVariants.{Refused, Failed}
use Rattle.command_outcomes.specs.declared.faults.Fault.TheVariants.{Write, Memory}
use Rattle.command_outcomes.specs.Outcome.{Outcome, NoMore}
use Rattle.command_outcomes.specs.CauseLines.{most_bytes, refusal}
use Rattle.command_files.specs.Loads.{OfFile, AfterLoad, AfterThree, AfterSource, AfterImage, AfterCertificate}
use Rattle.command_outcomes.specs.Steps.{IsStop, IsShelfStop}
use Rattle.command_files.specs.Loaded.{IsLoaded, AreLoaded}
use Rattle.command_files.specs.declared.loading.LoadedFiles.{LoadedFiles}

-- What follows may be put in the place of what implies it.

pub file-follows : (document : Document) (file : Option (List ℕ)) (P Q : List ℕ → Outcome → Type 0) (o : Outcome) → ((bytes : List ℕ) → P bytes o → Q bytes o) → OfFile document file P o → OfFile document file Q o
file-follows document None P Q o step h = h
file-follows document (Some bytes) P Q o step h = ⊎_elim (λ x. inl (x.0, step bytes x.1)) (λ x. inr x) h

pub load-follows : (document : Document) (files : Option Files) (name : List ℕ) (P Q : List ℕ → Outcome → Type 0) (o : Outcome) → ((bytes : List ℕ) → P bytes o → Q bytes o) → AfterLoad document files name P o → AfterLoad document files name Q o
load-follows document files name P Q o step h = (h.0, h.1, file-follows document h.0 P Q o step h.2)

-- Stops.

pub stop-follows : (P Q : Outcome → Type 0) (stop : Stop) → ((o : Outcome) → P o → Q o) → IsStop P stop → IsStop Q stop
stop-follows P Q (Refused cause) step h = step (refusal cause) h
stop-follows P Q (Failed Memory) step h = tt
stop-follows P Q (Failed _) step h = absurd h

pub shelf-stop-follows : (P Q : Outcome → Type 0) (old new : ℕ) (stop : Stop) → ((o : Outcome) → P o → Q o) → IsShelfStop P old new stop → IsShelfStop Q old new stop
shelf-stop-follows P Q old new (Refused cause) step h = (step (refusal cause) h.0, h.1)
shelf-stop-follows P Q old new (Failed Write) step h = absurd h
shelf-stop-follows P Q old new (Failed _) step h = h

pub stop-on-shelf : (P Q : Outcome → Type 0) (old new : ℕ) (stop : Stop) → ((o : Outcome) → P o → Q o) → new ≡ old → IsStop P stop → IsShelfStop Q old new stop
stop-on-shelf P Q old new (Refused cause) step same h = (step (refusal cause) h, same)
stop-on-shelf P Q old new (Failed Memory) step same h = same
stop-on-shelf P Q old new (Failed _) step same h = absurd h

-- Loads.

-- the file that was loaded, with what is due of it
pub loaded : (document : Document) (files : Option Files) (name bytes : List ℕ) (next : List ℕ → Outcome → Type 0) (o : Outcome) → IsLoaded document files name bytes → next bytes o → AfterLoad document files name next o
loaded document files name bytes next o is h = (Some bytes, is.file, inl (is.fits, h))

-- a step after a load, over its bytes
pub after-load : {T : Type 0} (outcome : T → Outcome) (document : Document) (files : Option Files) (name bytes : List ℕ) (next : List ℕ → Outcome → Type 0) (old new : ℕ) (r : Result T Stop) → IsLoaded document files name bytes → new ≡ old →
    MatchResult r (λ v. next bytes (outcome v)) (IsStop (next bytes)) →
    MatchResult r (λ v. AfterLoad document files name next (outcome v) × (new ≡ old)) (IsShelfStop (AfterLoad document files name next) old new)
after-load outcome document files name bytes next old new (Ok v) is same h = (loaded document files name bytes next (outcome v) is h, same)
after-load outcome document files name bytes next old new (Err stop) is same h =
    stop-on-shelf (next bytes) (AfterLoad document files name next) old new stop (λ o. loaded document files name bytes next o is) same h

some-too-long : (document : Document) (file : Option (List ℕ)) → IsSomeAnd file (λ bytes. most_bytes document < length bytes) → OfFile document file NoMore (refusal (cause.TooLong document))
some-too-long document None h = absurd h
some-too-long document (Some bytes) h = inr (h, refl)

long : (n : ℕ) → n < length {A = ℕ} (replicate (suc n) 0)
long n = let zero : ℕ = 0 in let e = length-replicate (suc n) zero in omega (arith, e)

pub too-long : (document : Document) (files : Option Files) (name : List ℕ) → Loads files name (most_bytes document) (Err shelf.TooLong) → AfterLoad document files name NoMore (refusal (cause.TooLong document))
too-long document None name h = (Some (replicate (suc (most_bytes document)) 0), tt, inr (long (most_bytes document), refl))
too-long document (Some f) name h = (f name, refl, some-too-long document (f name) h)

told-before : (old new : Option Files) (name : List ℕ) (file : Option (List ℕ)) → KeepsFiles old new → IfSome new (λ f. f name ≡ file) → IfSome old (λ f. f name ≡ file)
told-before None new name file keeps h = tt
told-before (Some old) None name file keeps h = absurd keeps
told-before (Some old) (Some new) name file keeps h = sym (keeps name) ∙ h

-- no file has changed before a load
pub load-before : (document : Document) (old new : Option Files) (name : List ℕ) (next : List ℕ → Outcome → Type 0) (o : Outcome) → KeepsFiles old new → AfterLoad document new name next o → AfterLoad document old name next o
load-before document old new name next o keeps h = (h.0, told-before old new name h.0 keeps h.1, h.2)

pub keeps-on : (a b c : Option Files) → KeepsFiles a b → KeepsFiles b c → KeepsFiles a c
keeps-on None b c h k = tt
keeps-on (Some a) None c h k = absurd h
keeps-on (Some a) (Some b) None h k = absurd k
keeps-on (Some a) (Some b) (Some c) h k = λ name. k name ∙ h name

-- Three loads.

abbrev pub Nothing : List ℕ → List ℕ → List ℕ → Outcome → Type 0
Nothing source image certificate = NoMore certificate

shelf-stop-from : (P Q : Outcome → Type 0) (a b c : ℕ) (stop : Stop) → ((o : Outcome) → P o → Q o) → b ≡ a → IsShelfStop P b c stop → IsShelfStop Q a c stop
shelf-stop-from P Q a b c stop step same h = subst (λ n. IsShelfStop Q n c stop) same (shelf-stop-follows P Q b c stop step h)

is-before : (document : Document) (old new : Option Files) (name bytes : List ℕ) → KeepsFiles old new → IsLoaded document new name bytes → IsLoaded document old name bytes
is-before document old new name bytes keeps h = record { file = told-before old new name (Some bytes) keeps h.file; fits = h.fits }

pub second-stop : (a b : Option Files) (s i c source : List ℕ) (l m n : ℕ) (stop : Stop) → IsLoaded document.Source a s source → KeepsFiles a b → m ≡ l →
    IsShelfStop (AfterLoad document.Image b i NoMore) m n stop → IsShelfStop (AfterThree a s i c Nothing) l n stop
second-stop a b s i c source l m n stop is keeps same h =
    shelf-stop-from (AfterLoad document.Image b i NoMore) (AfterThree a s i c Nothing) l m n stop
    (λ o x. loaded document.Source a s source (λ source. AfterLoad document.Image a i (λ image. AfterLoad document.Certificate a c (Nothing source image))) o is
    (load-follows document.Image a i NoMore (λ image. AfterLoad document.Certificate a c (Nothing source image)) o (λ bytes y. absurd y) (load-before document.Image a b i NoMore o keeps x))) same h

pub third-stop : (a b d : Option Files) (s i c source image : List ℕ) (l m n k : ℕ) (stop : Stop) → IsLoaded document.Source a s source → IsLoaded document.Image b i image → KeepsFiles a b → KeepsFiles b d → m ≡ l → n ≡ m →
    IsShelfStop (AfterLoad document.Certificate d c NoMore) n k stop → IsShelfStop (AfterThree a s i c Nothing) l k stop
third-stop a b d s i c source image l m n k stop is also keeps more same again h =
    shelf-stop-from (AfterLoad document.Certificate d c NoMore) (AfterThree a s i c Nothing) l n k stop
    (λ o x. loaded document.Source a s source (λ source. AfterLoad document.Image a i (λ image. AfterLoad document.Certificate a c (Nothing source image))) o is
    (loaded document.Image a i image (λ image. AfterLoad document.Certificate a c (Nothing source image)) o (is-before document.Image a b i image keeps also)
    (load-before document.Certificate a d c NoMore o (keeps-on a b d keeps more) x))) (again ∙ same) h

pub of-three : (files : Option Files) (s i c source image certificate : List ℕ) (next : List ℕ → List ℕ → List ℕ → Outcome → Type 0) (o : Outcome) → IsLoaded document.Source files s source → IsLoaded document.Image files i image → IsLoaded document.Certificate files c certificate → next source image certificate o → AfterThree files s i c next o
of-three files s i c source image certificate next o is also third h =
    loaded document.Source files s source (λ source. AfterLoad document.Image files i (λ image. AfterLoad document.Certificate files c (next source image))) o is
    (loaded document.Image files i image (λ image. AfterLoad document.Certificate files c (next source image)) o also
    (loaded document.Certificate files c certificate (next source image) o third h))

pub three-follow : (files : Option Files) (s i c : List ℕ) (next : List ℕ → List ℕ → List ℕ → Outcome → Type 0) (o : Outcome) → AfterThree files s i c Nothing o → AfterThree files s i c next o
three-follow files s i c next o h =
    load-follows document.Source files s (λ source. AfterLoad document.Image files i (λ image. AfterLoad document.Certificate files c (Nothing source image))) (λ source. AfterLoad document.Image files i (λ image. AfterLoad document.Certificate files c (next source image))) o
    (λ source x. load-follows document.Image files i (λ image. AfterLoad document.Certificate files c (Nothing source image)) (λ image. AfterLoad document.Certificate files c (next source image)) o
    (λ image y. load-follows document.Certificate files c (Nothing source image) (next source image) o (λ bytes z. absurd z) y) x) h

-- a step after the loads, over their bytes
pub after-three : {T : Type 0} (outcome : T → Outcome) (files : Option Files) (s i c : List ℕ) (loads loads' : ℕ) (l : LoadedFiles) (next : List ℕ → List ℕ → List ℕ → Outcome → Type 0) (r : Result T Stop) → AreLoaded files s i c loads loads' (Ok l) →
    MatchResult r (λ v. next l.source.items l.image.items l.certificate.items (outcome v)) (IsStop (next l.source.items l.image.items l.certificate.items)) →
    MatchResult r (λ v. AfterThree files s i c next (outcome v) × (loads' ≡ loads)) (IsShelfStop (AfterThree files s i c next) loads loads')
after-three outcome files s i c loads loads' l next (Ok v) h k = (of-three files s i c l.source.items l.image.items l.certificate.items next (outcome v) h.0 h.1 h.2 k, h.3)
after-three outcome files s i c loads loads' l next (Err stop) h k =
    stop-on-shelf (next l.source.items l.image.items l.certificate.items) (AfterThree files s i c next) loads loads' stop (λ o. of-three files s i c l.source.items l.image.items l.certificate.items next o h.0 h.1 h.2) h.3 k

-- Readers.

pub source-follows : (bytes : List ℕ) (P Q : ProgramTree → Outcome → Type 0) (o : Outcome) → ((program : ProgramTree) → P program o → Q program o) → AfterSource bytes P o → AfterSource bytes Q o
source-follows bytes P Q o step h = ⊎_elim (λ x. inl (x.0, x.1, step x.0 x.2)) (λ x. inr x) h

pub image-follows : (bytes : List ℕ) (P Q : Image → Outcome → Type 0) (o : Outcome) → ((i : Image) → P i o → Q i o) → AfterImage bytes P o → AfterImage bytes Q o
image-follows bytes P Q o step h = ⊎_elim (λ x. inl (x.0, x.1, step x.0 x.2)) (λ x. inr x) h

pub certificate-follows : (bytes : List ℕ) (P Q : Certificate → Outcome → Type 0) (o : Outcome) → ((c : Certificate) → P c o → Q c o) → AfterCertificate bytes P o → AfterCertificate bytes Q o
certificate-follows bytes P Q o step h = ⊎_elim (λ x. inl (x.0, x.1, step x.0 x.2)) (λ x. inr x) h
