-- A command that runs a program returns a world with the status of a run.
use Rattle.promises.proofs.Common.{◌≡◌, ◌⊎◌, ◌∙◌, ◌≤◌, ℕ, List, [], ◌∷◌, Option, Some, None, Ok, Err, refl, sym, ap, subst, ⊎_elim, inl, inr, arith, codes, slice_get, IsWordList, Request, Serve, Run, Build, Check, Graph, Demo, Audit, Budget, Files, ProgramTree, AfterLoad, AfterSource, OfFile, IsDue, IsAnswer, Outside, Outcome, Ran, Held, IsLast, IsFree, RunsOn, RunsBytes, RunsPair, ServesProgram, cause_status, refusal, Cause, Document, Memory, answer-of, free-apart, fault_status, line_of, sizes_of, pool_bytes, Does, Setup}
use Rattle.std.specs.Prelude.{IsSome}
use Rattle.codegen_link.specs.declared.options.Options.{Options}
use Rattle.command_files.specs.Loads.{AfterCertificate, AfterImage}
use Rattle.command_outcomes.specs.declared.documents.Document.TheVariants as document
use Rattle.command_outcomes.specs.declared.stops.Cause.TheVariants as cause
use Rattle.command_words.specs.declared.options.Policy.{Policy as RunOptions}
use Rattle.stack_certificate.specs.declared.certificates.Certificate.{Certificate}
use Rattle.stack_image.specs.declared.images.Image.{Image}
use Rattle.promises.specs.Returned.{IsReturned}

-- ---- words

-- the name of a request's command, and the first byte of a word, or 0
abbrev pub command_of : Request → List ℕ
command_of (Serve source placement policy) = codes "serve"
command_of (Run source image certificate policy) = codes "run"
command_of (Build source image certificate placement) = codes "build"
command_of (Check source image certificate) = codes "check"
command_of (Graph source placement) = codes "graph"
command_of (Demo number) = codes "demo"
command_of (Audit source log options) = codes "audit"
command_of (Budget source image certificate) = codes "budget"

abbrev pub first_of : List ℕ → ℕ
first_of [] = 0
first_of (byte ∷ bytes) = byte

abbrev pub letter_of : Option (List ℕ) → ℕ
letter_of None = 0
letter_of (Some word) = first_of word

first-word : (words : List (List ℕ)) (name : List ℕ) (more : List (List ℕ)) → words ≡ name ∷ more → slice_get words 0 ≡ Some name
first-word words name more is = ap (λ (w : List (List ℕ)). slice_get w 0) is

pub word-of : (words : List (List ℕ)) (request : Request) → IsWordList words request → slice_get words 0 ≡ Some (command_of request)
word-of words (Serve source placement policy) asked = let says = asked.1 in first-word words _ _ says.in_words
word-of words (Run source image certificate policy) asked = let says = asked.1 in first-word words _ _ says.in_words
word-of words (Build source image certificate placement) asked = let says = asked.1 in first-word words _ _ says.in_words
word-of words (Check source image certificate) asked = let says = asked.1 in first-word words _ _ says.in_words
word-of words (Graph source placement) asked = let says = asked.1 in first-word words _ _ says.in_words
word-of words (Demo number) asked = let says = asked.1 in first-word words _ _ says.in_words
word-of words (Audit source log options) asked = let says = asked.1 in first-word words _ _ says.in_words
word-of words (Budget source image certificate) asked = let says = asked.1 in first-word words _ _ says.in_words

-- the first byte of the first word is that of the command
pub letter-is : (words : List (List ℕ)) (request : Request) (name : List ℕ) → IsWordList words request → slice_get words 0 ≡ Some name → first_of (command_of request) ≡ first_of name
letter-is words request name asked is = ap letter_of (sym (word-of words request asked) ∙ is)

-- ---- statuses

abbrev pub IsStop : ℕ → Type 0
IsStop status = (status ≡ 0) ⊎ ((10 ≤ status) × (status ≤ 14))

abbrev IsOther : ℕ → Type 0
IsOther status = ((1 ≤ status) × (status ≤ 9)) ⊎ (15 ≤ status)

apart : {P : Type 0} (status : ℕ) → IsOther status → IsStop status → P
apart status other is = absurd (⊎_elim
    (λ x. let low = x.0 in let high = x.1 in ⊎_elim (λ e. omega (arith, low, e)) (λ y. let least = y.0 in omega (arith, high, least)) is)
    (λ far. ⊎_elim (λ e. omega (arith, far, e)) (λ y. let most = y.1 in omega (arith, far, most)) is)
    other)

pub cause-other : (c : Cause) → IsOther (cause_status c)
cause-other cause.Usage = inl (omega arith, omega arith)
cause-other (cause.Absent document) = inl (omega arith, omega arith)
cause-other (cause.TooLong document.Source) = inl (omega arith, omega arith)
cause-other (cause.TooLong document.Image) = inl (omega arith, omega arith)
cause-other (cause.TooLong document.Certificate) = inl (omega arith, omega arith)
cause-other (cause.TooLong document.Log) = inl (omega arith, omega arith)
cause-other (cause.Source error) = inl (omega arith, omega arith)
cause-other (cause.Image error) = inl (omega arith, omega arith)
cause-other (cause.CertificateLine number) = inl (omega arith, omega arith)
cause-other (cause.Frame name bytes) = inl (omega arith, omega arith)
cause-other (cause.Code words) = inl (omega arith, omega arith)
cause-other (cause.Rejected rule function index) = inl (omega arith, omega arith)
cause-other (cause.Pool bytes) = inl (omega arith, omega arith)
cause-other (cause.Cycle name) = inr (omega arith)

-- ---- outcomes

-- with the status of a run, an outcome has one
abbrev HasRun : Outcome → Type 0
HasRun o = IsStop o.status → (ran : Ran) × (o.last ≡ Some ran)

other : (o p : Outcome) → o ≡ p → IsOther p.status → HasRun o
other o p is status stop = apart p.status status (subst (λ (x : Outcome). IsStop x.status) is stop)

refused : (o : Outcome) (c : Cause) → o ≡ refusal c → HasRun o
refused o c is = other o (refusal c) is (cause-other c)

of-load : (which : Document) (files : Option Files) (name : List ℕ) (next : List ℕ → Outcome → Type 0) (o : Outcome) → ((bytes : List ℕ) → next bytes o → HasRun o) → AfterLoad which files name next o → HasRun o
of-load which files name next o step h = of-file h.0 h.2
  where
    of-file : (file : Option (List ℕ)) → OfFile which file next o → HasRun o
    of-file None is = refused o (cause.Absent which) is
    of-file (Some bytes) is = ⊎_elim (λ x. step bytes x.1) (λ x. refused o (cause.TooLong which) x.1) is

of-source : (bytes : List ℕ) (next : ProgramTree → Outcome → Type 0) (o : Outcome) → ((program : ProgramTree) → next program o → HasRun o) → AfterSource bytes next o → HasRun o
of-source bytes next o step h = ⊎_elim (λ x. step x.0 x.2) (λ x. refused o (cause.Source x.0) x.2) h

of-image : (bytes : List ℕ) (next : Image → Outcome → Type 0) (o : Outcome) → ((i : Image) → next i o → HasRun o) → AfterImage bytes next o → HasRun o
of-image bytes next o step h = ⊎_elim (λ x. step x.0 x.2) (λ x. refused o (cause.Image x.0) x.2) h

of-certificate : (bytes : List ℕ) (next : Certificate → Outcome → Type 0) (o : Outcome) → ((c : Certificate) → next c o → HasRun o) → AfterCertificate bytes next o → HasRun o
of-certificate bytes next o step h = ⊎_elim (λ x. step x.0 x.2) (λ x. refused o (cause.CertificateLine x.0) x.2) h

of-run : (trace : Option (List ℕ)) {setup : Setup} (o : Outcome) → RunsOn trace setup o → HasRun o
of-run trace {setup} o h = λ stop. (record { setup = setup; end = h.3 }, ap (λ (x : Outcome). x.last) h.5)

of-served : (trace : Option (List ℕ)) (sizes : Options) (policy : RunOptions) (program : ProgramTree) (o : Outcome) → ServesProgram trace sizes policy program o → HasRun o
of-served trace sizes policy program o h =
    ⊎_elim
    (λ x. ⊎_elim (λ y. other o _ y.is (inl (omega arith, omega arith))) (λ y. refused o (cause.Code y.1) y.3) x)
    (λ x. of-run trace o x.5) h

of-pair : (trace : Option (List ℕ)) (policy : RunOptions) (program : ProgramTree) (i : Image) (c : Certificate) (o : Outcome) → RunsPair trace policy program i c o → HasRun o
of-pair trace policy program i c o h =
    ⊎_elim
    (λ x. refused o (cause.Rejected x.0 x.1 x.2) x.4)
    (λ x. ⊎_elim (λ y. refused o (cause.Pool (pool_bytes policy c)) y.1) (λ y. of-run trace o y.1) x.1) h

-- ---- what is due

abbrev IsRunWord : Option (List ℕ) → Type 0
IsRunWord word = (word ≡ Some (codes "serve")) ⊎ ((word ≡ Some (codes "run")) ⊎ (word ≡ Some (codes "demo")))

-- the first byte of the word of such a command
letters : (words : List (List ℕ)) (request : Request) → IsWordList words request → IsRunWord (slice_get words 0) → (first_of (command_of request) ≡ 115) ⊎ ((first_of (command_of request) ≡ 114) ⊎ (first_of (command_of request) ≡ 100))
letters words request asked word =
    ⊎_elim (λ x. inl (letter-is words request (codes "serve") asked x)) (λ y. ⊎_elim (λ x. inr (inl (letter-is words request (codes "run") asked x))) (λ x. inr (inr (letter-is words request (codes "demo") asked x))) y) word

no-letter : {P : Type 0} (n : ℕ) → n ≤ 99 ⊎ (n ≡ 103) → (n ≡ 115) ⊎ ((n ≡ 114) ⊎ (n ≡ 100)) → P
no-letter n is one = absurd (⊎_elim
    (λ few. ⊎_elim (λ a. omega (arith, few, a)) (λ x. ⊎_elim (λ b. omega (arith, few, b)) (λ c. omega (arith, few, c)) x) one)
    (λ same. ⊎_elim (λ a. omega (arith, same, a)) (λ x. ⊎_elim (λ b. omega (arith, same, b)) (λ c. omega (arith, same, c)) x) one)
    is)

does-run : (words : List (List ℕ)) (request : Request) (before : Outside) (o : Outcome) → IsWordList words request → IsRunWord (slice_get words 0) → Does request before o → HasRun o
does-run words (Serve source placement policy) before o asked word h =
    of-load document.Source before.files source (λ bytes. AfterSource bytes (ServesProgram before.left (sizes_of placement) policy)) o
    (λ bytes x. of-source bytes (ServesProgram before.left (sizes_of placement) policy) o (λ program y. of-served before.left (sizes_of placement) policy program o y) x) h
does-run words (Run source image certificate policy) before o asked word h =
    of-load document.Source before.files source (λ s. AfterLoad document.Image before.files image (λ i. AfterLoad document.Certificate before.files certificate (RunsBytes before.left policy s i))) o
    (λ s x. of-load document.Image before.files image (λ i. AfterLoad document.Certificate before.files certificate (RunsBytes before.left policy s i)) o
    (λ i y. of-load document.Certificate before.files certificate (RunsBytes before.left policy s i) o
    (λ c z. of-source s (λ program. AfterImage i (λ im. AfterCertificate c (λ ce. RunsPair before.left policy program im ce))) o
    (λ program u. of-image i (λ im. AfterCertificate c (λ ce. RunsPair before.left policy program im ce)) o
    (λ im v. of-certificate c (λ ce. RunsPair before.left policy program im ce) o (λ ce w. of-pair before.left policy program im ce o w) v) u) z) y) x) h
does-run words (Demo number) before o asked word h =
    let shows = h.2 in
    let run = shows.3 in
    λ stop. (_, ap (λ (x : Outcome). x.last) run.5)
does-run words (Build source image certificate placement) before o asked word h = no-letter 98 (inl (omega arith)) (letters words (Build source image certificate placement) asked word)
does-run words (Check source image certificate) before o asked word h = no-letter 99 (inl (omega arith)) (letters words (Check source image certificate) asked word)
does-run words (Graph source placement) before o asked word h = no-letter 103 (inr refl) (letters words (Graph source placement) asked word)
does-run words (Audit source log options) before o asked word h = no-letter 97 (inl (omega arith)) (letters words (Audit source log options) asked word)
does-run words (Budget source image certificate) before o asked word h = no-letter 98 (inl (omega arith)) (letters words (Budget source image certificate) asked word)

due-run : (words : List (List ℕ)) (before : Outside) (o : Outcome) → IsRunWord (slice_get words 0) → IsDue words before o → HasRun o
due-run words before o word due = ⊎_elim (λ x. does-run words x.0 before o x.1 word x.2) (λ x. refused o cause.Usage x.1) due

-- ---- the promise

some-last : (ran : Ran) (o : Option Ran) (last : Option Held) → o ≡ Some ran → IsLast o last → IsSome last
some-last ran o None some h = absurd (subst (λ (x : Option Ran). IsLast x None) some h)
some-last ran o (Some world) some h = refl

free : (status : ℕ) → IsStop status → IsFree status
free status is = ⊎_elim (λ none. inl (omega (arith, none))) (λ x. let least = x.0 in inr (omega (arith, least))) is

pub returned : (words : List (List ℕ)) (before after : Outside) (err err' : Option (List ℕ)) (faults faults' : ℕ) (last : Option Held) (status : ℕ) → IsAnswer words before after err err' faults faults' last status → IsReturned words last status
returned words before after err err' faults faults' last status (Ok o, done, exact, told, handed) = λ word is.
    ⊎_elim
    (λ same. let run = due-run words before o word done.0 (subst IsStop same is) in some-last run.0 o.last last run.1 handed)
    (λ want. free-apart status Memory (free status is) want)
    (answer-of o.status o.line err err' faults faults' status told)
returned words before after err err' faults faults' last status (Err fault, done, exact, told, handed) = λ word is.
    ⊎_elim (λ same. free-apart status fault (free status is) same) (λ want. free-apart status Memory (free status is) want)
    (answer-of (fault_status fault) (line_of (Err fault)) err err' faults faults' status told)
