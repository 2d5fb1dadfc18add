-- What is due of told files is due of what they are read as; and an answer whose status no fault has is what is due.
use Rattle.capriccio_call.proofs.Common.{◌≡◌, ℕ, List, Option, Some, Ok, Err, sym, subst, ◌∙◌, arith, ⊎_elim, ProgramTree, Files, spelling_unique, IsWordList, Request, one_request, Certificate, Image, Held, one_program, never, Document, Memory, fault_status, Outcome, Outside, line_of, OfFile, AfterLoad, AfterSource, AfterImage, AfterCertificate, IsSourceText, IsImageText, IsCertificateText, IsLoaded, Does, IsDue, IsAnswer}
use Rattle.capriccio_call.proofs.Faults.{answer-of}
use Rattle.capriccio_call.proofs.OneCase.{certificate-never, image-is, image-never}
use Rattle.capriccio_call.proofs.OutcomeKinds.{IsFree, free-apart}

-- a loaded file is the one that is read
pub loaded : (which : Document) (files : Files) (name bytes : List ℕ) (next : List ℕ → Outcome → Type 0) (o : Outcome) → IsLoaded which (Some files) name bytes → AfterLoad which (Some files) name next o → next bytes o
loaded which files name bytes next o there h =
    let first : OfFile which (Some bytes) next o = subst (λ (file : Option (List ℕ)). OfFile which file next o) (sym h.1 ∙ there.file) h.2 in
    ⊎_elim (λ x. x.1) (λ x. let fits = there.fits in let long = x.0 in absurd (omega (arith, fits, long))) first

pub program-read : (bytes : List ℕ) (p : ProgramTree) (next : ProgramTree → Outcome → Type 0) (o : Outcome) → IsSourceText bytes p → AfterSource bytes next o → next p o
program-read bytes p next o is h =
    ⊎_elim
    (λ x. let found = x.1 in subst (λ (program : ProgramTree). next program o) (one_program bytes x.0 p found.reads is.reads) x.2)
    (λ x. absurd (never bytes p x.0 is.reads x.1))
    h

pub image-read : (bytes : List ℕ) (i : Image) (next : Image → Outcome → Type 0) (o : Outcome) → IsImageText bytes i → AfterImage bytes next o → next i o
image-read bytes i next o is h =
    ⊎_elim
    (λ x. subst (λ (image : Image). next image o) (sym (image-is bytes x.0 x.1) ∙ image-is bytes i is) x.2)
    (λ x. absurd (image-never bytes i x.0 is x.1))
    h

pub certificate-read : (bytes : List ℕ) (c : Certificate) (next : Certificate → Outcome → Type 0) (o : Outcome) → IsCertificateText bytes c → AfterCertificate bytes next o → next c o
certificate-read bytes c next o is h =
    ⊎_elim
    (λ x. let found = x.1 in subst (λ (certificate : Certificate). next certificate o) (spelling_unique x.0 c (sym found.spelled ∙ is.spelled)) x.2)
    (λ x. absurd (certificate-never bytes c x.0 is x.1))
    h

-- what is due of these words is what they ask for
pub does-asked : (words : List (List ℕ)) (before : Outside) (request : Request) (o : Outcome) → IsWordList words request → IsDue words before o → Does request before o
does-asked words before request o asked due =
    ⊎_elim (λ x. subst (λ (r : Request). Does r before o) (one_request words x.0 request x.1 asked) x.2) (λ x. absurd (x.0 request asked)) due

-- an answer with a status that no fault has is that of an outcome that is due
pub outcome-of : (words : List (List ℕ)) (before after : Outside) (err err' : Option (List ℕ)) (faults faults' : ℕ) (last : Option Held) (status : ℕ) → IsAnswer words before after err err' faults faults' last status → IsFree status →
    (o : Outcome) × IsDue words before o × (o.status ≡ status)
outcome-of words before after err err' faults faults' last status (Ok o, done, exact, told, handed) free =
    ⊎_elim (λ same. (o, done.0, sym same)) (λ want. free-apart status Memory free want) (answer-of o.status o.line err err' faults faults' status told)
outcome-of words before after err err' faults faults' last status (Err fault, done, exact, told, handed) free =
    ⊎_elim (λ same. free-apart status fault free same) (λ want. free-apart status Memory free want) (answer-of (fault_status fault) (line_of (Err fault)) err err' faults faults' status told)
