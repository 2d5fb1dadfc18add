-- What holds after a fault follows from what was done and told.
use Rattle.capriccio_call.proofs.Common.{◌≡◌, ◌≢◌, ◌⊎◌, ℕ, true≢false, List, [], ◌∷◌, length, Option, Some, None, Result, Ok, Err, refl, sym, ap, subst, ◌∙◌, ⊎_elim, inl, inr, arith, take_all, Appends, Files, KeepsFiles, KeepsOthers, IsWordList, Request, Serve, Run, Build, Check, Graph, Demo, Audit, Budget, Fault, Read, Write, Memory, fault_status, Outcome, Outside, WhereTold, AreStored, AreCutShort, IsCutShort, NoneCounted, IsDone, IsTold, status_of, line_of, IsDue, Held, IsAnswer}
use Rattle.cap_io.specs.Shelves.{HoldsPrefix}
use Rattle.command_words.specs.declared.options.Placement.{Placement}
use Rattle.command_outcomes.specs.declared.stops.Cause.TheVariants as cause
use Rattle.schedule_log.specs.Writing.{TakesPrefix}
use Rattle.capriccio_call.specs.AfterFault.{HasCounted, IsLineOf, TookLine, TookPart, TookDue, HoldsPart, IsPairInPart, BuildsInPart, HoldsAfterFault}
use Rattle.capriccio_call.proofs.OutcomeKinds.{IsFree, IsPlain, IsPair, IsPairFor, IsKind, free-apart, refusal-plain, kind-of, run-for-free}
use Rattle.capriccio_call.proofs.Told.{stored-none}

-- ---- What is due.

-- the words ask for a build, and this is its pair
record IsBuilt (words : List (List ℕ)) (o : Outcome) : Type 0 where
  source_name : List ℕ
  image_name : List ℕ
  certificate_name : List ℕ
  placement : Placement
  asked : IsWordList words (Build source_name image_name certificate_name placement)
  pair : IsPair image_name certificate_name o

-- no status of a fault, and no file but of a build
record IsOrdinary (words : List (List ℕ)) (o : Outcome) : Type 0 where
  free : IsFree o.status
  stores : (o.stores ≡ []) ⊎ IsBuilt words o

of-plain : (words : List (List ℕ)) (o : Outcome) → IsPlain o → IsOrdinary words o
of-plain words o h = record { free = h.status; stores = inl h.stores }

of-pair : (words : List (List ℕ)) (request : Request) (o : Outcome) → IsWordList words request → IsPairFor request o → IsOrdinary words o
of-pair words (Build source image certificate placement) o asked h =
    record { free = h.status; stores = inr (record { source_name = source; image_name = image; certificate_name = certificate; placement = placement; asked = asked; pair = h }) }
of-pair words (Serve source placement policy) o asked h = absurd h
of-pair words (Run source image certificate policy) o asked h = absurd h
of-pair words (Check source image certificate) o asked h = absurd h
of-pair words (Graph source placement) o asked h = absurd h
of-pair words (Budget source image certificate) o asked h = absurd h
of-pair words (Audit source log options) o asked h = absurd h
of-pair words (Demo number) o asked h = absurd h

of-run : (words : List (List ℕ)) (o : Outcome) → IsFree o.status × (o.stores ≡ []) → IsOrdinary words o
of-run words o h = record { free = h.0; stores = inl h.1 }

of-kind : (words : List (List ℕ)) (request : Request) (trace : Option (List ℕ)) (o : Outcome) → IsWordList words request → IsKind request trace o → IsOrdinary words o
of-kind words request trace o asked h =
    ⊎_elim (λ x. of-plain words o x) (λ x. ⊎_elim (λ run. of-run words o (run-for-free request trace run.0 o run.1)) (λ pair. of-pair words request o asked pair) x) h

ordinary : (words : List (List ℕ)) (before : Outside) (o : Outcome) → IsDue words before o → IsOrdinary words o
ordinary words before o h =
    ⊎_elim (λ x. of-kind words x.0 before.left o x.1 (kind-of x.0 before o x.2)) (λ x. of-plain words o (refusal-plain o cause.Usage x.1)) h

-- ---- Statuses and standard error.

pub answer-of : (status : ℕ) (line : List ℕ) (old new : Option (List ℕ)) (faults faults' answer : ℕ) → IsTold status line old new faults faults' answer → (answer ≡ status) ⊎ (answer ≡ fault_status Memory)
answer-of status line old new faults faults' answer h = ⊎_elim (λ x. inl x.0) (λ x. ⊎_elim (λ y. inl y.0) (λ y. inr y.0) x.2) h

uncounted : {P : Type 0} (before after : Outside) → NoneCounted before after → HasCounted before after → P
uncounted before after h rose =
    let loads = h.loads in
    let stores = h.stores in
    let reads = h.reads in
    let writes = h.writes in
    absurd (⊎_elim (λ a. omega (arith, a, loads)) (λ x. ⊎_elim (λ b. omega (arith, b, stores)) (λ y. ⊎_elim (λ c. omega (arith, c, reads)) (λ d. omega (arith, d, writes)) y) x) rose)

counted-of : (due : Outcome → Type 0) (before after : Outside) (given : Result Outcome Fault) (old new : Option (List ℕ)) (faults faults' status : ℕ) →
    IsDone due before after given → IsTold (status_of given) (line_of given) old new faults faults' status → HasCounted before after → (fault : Fault) × (status ≡ fault_status fault)
counted-of due before after (Ok o) old new faults faults' status done told rose = uncounted before after done.2 rose
counted-of due before after (Err fault) old new faults faults' status done told rose =
    ⊎_elim (λ same. (fault, same)) (λ want. (Memory, want)) (answer-of _ _ old new faults faults' status told)

line-is : (due : Outcome → Type 0) (before after : Outside) (given : Result Outcome Fault) → IsDone due before after given → IsLineOf due (status_of given) (line_of given)
line-is due before after (Ok o) done = inl (o, done.0, refl, refl)
line-is due before after (Err fault) done = inr (fault, refl, refl)

took-line : (due : Outcome → Type 0) (before after : Outside) (given : Result Outcome Fault) (old new : Option (List ℕ)) (faults faults' status : ℕ) →
    IsDone due before after given → IsTold (status_of given) (line_of given) old new faults faults' status → status ≢ fault_status Memory → TookLine due status old new faults faults'
took-line due before after given old new faults faults' status done told differs =
    let line = λ (same : status ≡ status_of given). subst (λ n. IsLineOf due n (line_of given)) (sym same) (line-is due before after given done) in
    ⊎_elim
    (λ x. (line_of given, line x.0, inl x.1))
    (λ x. ⊎_elim (λ y. (line_of given, line y.0, inr (x.1, y.1))) (λ y. absurd (differs y.0)) x.2)
    told

whole-prefix : (old new : Option (List ℕ)) (bytes : List ℕ) → Appends old new bytes → TakesPrefix old new bytes
whole-prefix old new bytes h = (length bytes, omega arith, subst (λ b. Appends old new b) (sym (take_all (length bytes) bytes (omega arith))) h)

took-part : (due : Outcome → Type 0) (before after : Outside) (given : Result Outcome Fault) (old new : Option (List ℕ)) (faults faults' status : ℕ) →
    IsDone due before after given → IsTold (status_of given) (line_of given) old new faults faults' status → TookPart due old new
took-part due before after given old new faults faults' status done told =
    let line = line-is due before after given done in
    ⊎_elim (λ x. (status_of given, line_of given, line, whole-prefix old new (line_of given) x.1)) (λ x. (status_of given, line_of given, line, x.1)) told

-- ---- The output.

took-due : (due : Outcome → Type 0) (before after : Outside) (given : Result Outcome Fault) → IsDone due before after given → TookDue due before.taken after.taken
took-due due before after (Ok o) done = let whole = done.1 in inr (o, done.0, whole-prefix before.taken after.taken o.out whole.out)
took-due due before after (Err Read) done =
    ⊎_elim (λ x. ⊎_elim (λ y. let nothing = y.0 in inl nothing.out) (λ y. let only = y.0 in inl only.out) x) (λ x. let cut = x.3 in inr (x.0, x.2, cut.out)) done
took-due due before after (Err Write) done =
    ⊎_elim (λ x. let cut = x.0 in inl cut.out) (λ x. let cut = x.0 in inr (done.0, done.1, cut.out)) done.2
took-due due before after (Err Memory) done =
    ⊎_elim (λ x. inl x.out) (λ z. ⊎_elim (λ x. inl x.out) (λ x. ⊎_elim (λ y. inl y.out) (λ y. inr (x.0, x.1, y.out)) x.2) z) done.0

-- ---- The files.

told-as : (P Q : Files → Files → Type 0) (old new : Option Files) → ((a b : Files) → P a b → Q a b) → WhereTold P old new → WhereTold Q old new
told-as P Q None new step h = tt
told-as P Q (Some old) None step h = absurd h
told-as P Q (Some old) (Some new) step h = step old new h

whole-held : (file : Option (List ℕ)) (bytes : List ℕ) → file ≡ Some bytes → HoldsPrefix file bytes
whole-held file bytes same = (length bytes, omega arith, same ∙ ap (λ (b : List ℕ). Some b) (sym (take_all (length bytes) bytes (omega arith))))

stored-pair : (i c image certificate : List ℕ) (old new : Files) → AreStored ((i, image) ∷ (c, certificate) ∷ []) old new → IsPairInPart i c image certificate old new
stored-pair i c image certificate old new h =
    let first = h.1 in
    let second = h.2.1 in
    let rest = h.2.2 in
    record {
      two_names = λ differs. inr (rest i ∙ second.others i differs ∙ first.holds, inr (whole-held (new c) certificate (rest c ∙ second.holds)));
      one_name = λ same. inr (inr (whole-held (new i) certificate (ap new same ∙ rest c ∙ second.holds)));
      others = λ other a b. rest other ∙ second.others other b ∙ first.others other a;
    }

held-part : (old new : Files) (name bytes : List ℕ) → HoldsPrefix (new name) bytes ⊎ (new name ≡ old name) → HoldsPart old new name bytes
held-part old new name bytes h = ⊎_elim (λ p. inr p) (λ same. inl same) h

-- the image's store was cut short
cut-image : (i c image certificate : List ℕ) (old new : Files) → IsCutShort old new i image → IsPairInPart i c image certificate old new
cut-image i c image certificate old new h =
    record {
      two_names = λ differs. inl (held-part old new i image h.holds, h.others c (λ same. differs (sym same)));
      one_name = λ same. inl (held-part old new i image h.holds);
      others = λ other a b. h.others other a;
    }

-- the image was stored, and the certificate's store was cut short
cut-certificate : (i c image certificate : List ℕ) (old next new : Files) → next i ≡ Some image → KeepsOthers old next i → IsCutShort next new c certificate → IsPairInPart i c image certificate old new
cut-certificate i c image certificate old next new holds others h =
    record {
      two_names = λ differs. inr (
        h.others i differs ∙ holds,
        ⊎_elim (λ p. inr p) (λ same. inl (same ∙ others c (λ equal. differs (sym equal)))) h.holds,
      );
      one_name = λ same. ⊎_elim
          (λ p. inr (inr (subst (λ name. HoldsPrefix (new name) certificate) (sym same) p)))
          (λ kept. inl (inr (whole-held (new i) image (ap new same ∙ kept ∙ ap next (sym same) ∙ holds))))
          h.holds;
      others = λ other a b. h.others other b ∙ others other a;
    }

cut-pair : (i c image certificate : List ℕ) (old new : Files) → AreCutShort ((i, image) ∷ (c, certificate) ∷ []) old new → IsPairInPart i c image certificate old new
cut-pair i c image certificate old new h =
    ⊎_elim
    (λ x. cut-image i c image certificate old new x)
    (λ x. let first = x.1 in
    ⊎_elim (λ y. cut-certificate i c image certificate old x.0 new first.holds first.others y) (λ y. absurd y.2) x.2)
    h

in-part : (words : List (List ℕ)) (before after : Outside) (o : Outcome) (built : IsBuilt words o) → IsDue words before o →
    (let pair = built.pair in WhereTold (IsPairInPart built.image_name built.certificate_name pair.image pair.certificate) before.files after.files) → BuildsInPart words before after
in-part words before after o built due part =
    let pair = built.pair in
    record {
      source_name = built.source_name;
      image_name = built.image_name;
      certificate_name = built.certificate_name;
      placement = built.placement;
      asked = built.asked;
      image = pair.image;
      certificate = pair.certificate;
      outcome = o;
      due = due;
      pair = pair.stores;
      part = part;
    }

stored-left : (words : List (List ℕ)) (before after : Outside) (o : Outcome) → IsDue words before o → WhereTold (AreStored o.stores) before.files after.files → KeepsFiles before.files after.files ⊎ BuildsInPart words before after
stored-left words before after o due h =
    let is = ordinary words before o due in
    ⊎_elim
    (λ none. inl (stored-none before.files after.files (subst (λ (files : List (List ℕ × List ℕ)). WhereTold (AreStored files) before.files after.files) none h)))
    (λ built. let pair = built.pair in
    let files = subst (λ (files : List (List ℕ × List ℕ)). WhereTold (AreStored files) before.files after.files) pair.stores h in
    inr (in-part words before after o built due
    (told-as (AreStored ((built.image_name, pair.image) ∷ (built.certificate_name, pair.certificate) ∷ [])) (IsPairInPart built.image_name built.certificate_name pair.image pair.certificate) before.files after.files
    (λ a b. stored-pair built.image_name built.certificate_name pair.image pair.certificate a b) files)))
    is.stores

cut-left : (words : List (List ℕ)) (before after : Outside) (o : Outcome) → IsDue words before o → o.stores ≢ [] → WhereTold (AreCutShort o.stores) before.files after.files → KeepsFiles before.files after.files ⊎ BuildsInPart words before after
cut-left words before after o due some h =
    let is = ordinary words before o due in
    ⊎_elim
    (λ none. absurd (some none))
    (λ built. let pair = built.pair in
    let files = subst (λ (files : List (List ℕ × List ℕ)). WhereTold (AreCutShort files) before.files after.files) pair.stores h in
    inr (in-part words before after o built due
    (told-as (AreCutShort ((built.image_name, pair.image) ∷ (built.certificate_name, pair.certificate) ∷ [])) (IsPairInPart built.image_name built.certificate_name pair.image pair.certificate) before.files after.files
    (λ a b. cut-pair built.image_name built.certificate_name pair.image pair.certificate a b) files)))
    is.stores

-- a fault of a read leaves the files, since what reads the trace stores nothing
read-keeps : (words : List (List ℕ)) (before after : Outside) → IsDone (IsDue words before) before after (Err Read) → KeepsFiles before.files after.files
read-keeps words before after done =
    ⊎_elim
    (λ x. ⊎_elim (λ y. let nothing = y.0 in nothing.files) (λ y. let only = y.0 in only.files) x)
    (λ x. let is = ordinary words before x.0 x.2 in let cut = x.3 in
    ⊎_elim
    (λ none. stored-none before.files after.files (subst (λ (files : List (List ℕ × List ℕ)). WhereTold (AreStored files) before.files after.files) none cut.files))
    (λ built. let pair = built.pair in absurd (true≢false (sym x.1 ∙ pair.unread)))
    is.stores)
    done

read-kept : (words : List (List ℕ)) (before after : Outside) (given : Result Outcome Fault) (old new : Option (List ℕ)) (faults faults' status : ℕ) →
    IsDone (IsDue words before) before after given → IsTold (status_of given) (line_of given) old new faults faults' status → status ≡ fault_status Read → KeepsFiles before.files after.files
read-kept words before after (Ok o) old new faults faults' status done told is =
    let common = ordinary words before o done.0 in
    ⊎_elim (λ same. free-apart o.status Read common.free (sym same ∙ is)) (λ want. absurd (omega (arith, want, is))) (answer-of _ _ old new faults faults' status told)
read-kept words before after (Err Read) old new faults faults' status done told is = read-keeps words before after done
read-kept words before after (Err Write) old new faults faults' status done told is =
    absurd (⊎_elim (λ same. omega (arith, same, is)) (λ want. omega (arith, want, is)) (answer-of _ _ old new faults faults' status told))
read-kept words before after (Err Memory) old new faults faults' status done told is =
    absurd (⊎_elim (λ same. omega (arith, same, is)) (λ want. omega (arith, want, is)) (answer-of _ _ old new faults faults' status told))

write-left : (words : List (List ℕ)) (before after : Outside) (given : Result Outcome Fault) (old new : Option (List ℕ)) (faults faults' status : ℕ) →
    IsDone (IsDue words before) before after given → IsTold (status_of given) (line_of given) old new faults faults' status → (status ≡ fault_status Write) ⊎ (status ≡ fault_status Memory) → KeepsFiles before.files after.files ⊎ BuildsInPart words before after
write-left words before after (Ok o) old new faults faults' status done told which =
    let whole = done.1 in stored-left words before after o done.0 whole.files
write-left words before after (Err Read) old new faults faults' status done told which = inl (read-keeps words before after done)
write-left words before after (Err Write) old new faults faults' status done told which =
    ⊎_elim (λ x. let cut = x.0 in cut-left words before after done.0 done.1 cut.some cut.files) (λ x. let cut = x.0 in stored-left words before after done.0 done.1 cut.files) done.2
write-left words before after (Err Memory) old new faults faults' status done told which =
    ⊎_elim
    (λ x. inl x.files)
    (λ z. ⊎_elim (λ x. inl x.files) (λ x. ⊎_elim (λ y. cut-left words before after x.0 x.1 y.some y.files) (λ y. stored-left words before after x.0 x.1 y.files) x.2) z) done.0

-- ---- The whole.

pub after-fault : (words : List (List ℕ)) (before after : Outside) (err err' : Option (List ℕ)) (faults faults' : ℕ) (last : Option Held) (status : ℕ) → IsAnswer words before after err err' faults faults' last status → HoldsAfterFault words before after err err' faults faults' status
after-fault words before after err err' faults faults' last status (given, done, exact, told, world) =
    record {
      counted = counted-of (IsDue words before) before after given err err' faults faults' status done told;
      line = took-line (IsDue words before) before after given err err' faults faults' status done told;
      line_in_part = λ is. took-part (IsDue words before) before after given err err' faults faults' status done told;
      out = λ fault is. took-due (IsDue words before) before after given done;
      after_read = read-kept words before after given err err' faults faults' status done told;
      after_write = write-left words before after given err err' faults faults' status done told;
    }
