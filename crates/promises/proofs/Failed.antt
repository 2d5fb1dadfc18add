-- What holds after a failure.
use Rattle.promises.proofs.Common.{◌≡◌, ◌≢◌, ◌⊎◌, ◌∙◌, ℕ, List, Option, Result, Ok, Err, refl, sym, ap, subst, ⊎_elim, inl, inr, arith, Appends, Request, Serve, Run, Build, Check, Graph, Demo, Audit, Budget, IsDue, IsAnswer, Outside, Outcome, Held, IsDone, IsTold, status_of, line_of, IsFree, IsPairFor, after-fault, answer-of, free-apart, kind-of, refusal-plain, run-for-free, Fault, Read, Write, Memory, fault_line, fault_status}
use Rattle.cap_io.specs.Faults.{IsRisen, Rose}
use Rattle.capriccio_call.specs.AfterFault.{BuildsInPart, IsLineOf}
use Rattle.command_outcomes.specs.declared.stops.Cause.TheVariants as cause
use Rattle.promises.specs.Faults.{KeepsAfterFault, StoresInPart}
use Rattle.buffered_writer.specs.Writing.{TakesPrefix}

-- ---- no outcome has the status of a fault

pair-free : (request : Request) (o : Outcome) → IsPairFor request o → IsFree o.status
pair-free (Build source image certificate placement) o h = h.status
pair-free (Serve source placement policy) o h = absurd h
pair-free (Run source image certificate policy) o h = absurd h
pair-free (Check source image certificate) o h = absurd h
pair-free (Graph source placement) o h = absurd h
pair-free (Budget source image certificate) o h = absurd h
pair-free (Audit source log options) o h = absurd h
pair-free (Demo number) o h = absurd h

free-due : (words : List (List ℕ)) (before : Outside) (o : Outcome) → IsDue words before o → IsFree o.status
free-due words before o due =
    ⊎_elim
    (λ x. ⊎_elim (λ plain. plain.status) (λ y. ⊎_elim (λ run. (run-for-free x.0 before.left run.0 o run.1).0) (λ pair. pair-free x.0 o pair) y) (kind-of x.0 before o x.2))
    (λ x. let plain = refusal-plain o cause.Usage x.1 in plain.status)
    due

-- ---- which fault

same-fault : (a b : Fault) → fault_status a ≡ fault_status b → a ≡ b
same-fault Read Read e = refl
same-fault Write Write e = refl
same-fault Memory Memory e = refl
same-fault Read Write e = absurd (omega (arith, e))
same-fault Read Memory e = absurd (omega (arith, e))
same-fault Write Read e = absurd (omega (arith, e))
same-fault Write Memory e = absurd (omega (arith, e))
same-fault Memory Read e = absurd (omega (arith, e))
same-fault Memory Write e = absurd (omega (arith, e))

one-of : (fault : Fault) (status : ℕ) → status ≡ fault_status fault → (status ≡ 6) ⊎ ((status ≡ 7) ⊎ (status ≡ 8))
one-of Read status e = inl e
one-of Write status e = inr (inl e)
one-of Memory status e = inr (inr e)

line-is : (words : List (List ℕ)) (before : Outside) (status : ℕ) (fault : Fault) (line : List ℕ) → status ≡ fault_status fault → IsLineOf (IsDue words before) status line → line ≡ fault_line fault
line-is words before status fault line is h =
    ⊎_elim
    (λ x. free-apart x.0.status fault (free-due words before x.0 x.1) (x.2 ∙ is))
    (λ x. sym x.2 ∙ ap fault_line (same-fault x.0 fault (x.1 ∙ is)))
    h

-- ---- counts

other-status : {P : Type 0} (words : List (List ℕ)) (before : Outside) (o : Outcome) (line : List ℕ) (old new : Option (List ℕ)) (faults faults' status : ℕ) (fault : Fault) → IsDue words before o → IsTold o.status line old new faults faults' status → status ≡ fault_status fault → fault ≢ Memory → P
other-status words before o line old new faults faults' status fault due told is not =
    ⊎_elim
    (λ same. free-apart o.status fault (free-due words before o due) (sym same ∙ is))
    (λ want. absurd (not (same-fault fault Memory (sym is ∙ want))))
    (answer-of o.status line old new faults faults' status told)

not-memory-read : Read ≢ Memory
not-memory-read e = absurd (let no : fault_status Read ≡ fault_status Memory = ap fault_status e in omega (arith, no))

not-memory-write : Write ≢ Memory
not-memory-write e = absurd (let no : fault_status Write ≡ fault_status Memory = ap fault_status e in omega (arith, no))

-- the fault that was told is another one
other-fault : {P : Type 0} (told fault : Fault) (line : List ℕ) (old new : Option (List ℕ)) (faults faults' status : ℕ) → IsTold (fault_status told) line old new faults faults' status → status ≡ fault_status fault → told ≢ fault → fault ≢ Memory → P
other-fault told fault line old new faults faults' status h is differs not =
    ⊎_elim
    (λ same. absurd (differs (same-fault told fault (sym same ∙ is))))
    (λ want. absurd (not (same-fault fault Memory (sym is ∙ want))))
    (answer-of (fault_status told) line old new faults faults' status h)

read-counted : (words : List (List ℕ)) (before after : Outside) (given : Result Outcome Fault) (old new : Option (List ℕ)) (faults faults' status : ℕ) → IsDone (IsDue words before) before after given →
    IsTold (status_of given) (line_of given) old new faults faults' status → status ≡ 6 → Rose before.loads after.loads ⊎ Rose before.reads after.reads
read-counted words before after (Ok o) old new faults faults' status done told is = other-status words before o o.line old new faults faults' status Read done.0 told is not-memory-read
read-counted words before after (Err Read) old new faults faults' status done told is =
    ⊎_elim
    (λ x. ⊎_elim (λ y. let counted = y.1 in let loads = counted.loads in inl loads.rose) (λ y. let counted = y.1 in inr counted.reads) x)
    (λ x. let counted = x.4 in let reads = counted.reads in inr reads.rose)
    done
read-counted words before after (Err Write) old new faults faults' status done told is = other-fault Write Read _ old new faults faults' status told is (λ e. absurd (let no : fault_status Write ≡ fault_status Read = ap fault_status e in omega (arith, no))) not-memory-read
read-counted words before after (Err Memory) old new faults faults' status done told is = other-fault Memory Read _ old new faults faults' status told is (λ e. not-memory-read (sym e)) not-memory-read

write-counted : (words : List (List ℕ)) (before after : Outside) (given : Result Outcome Fault) (old new : Option (List ℕ)) (faults faults' status : ℕ) → IsDone (IsDue words before) before after given →
    IsTold (status_of given) (line_of given) old new faults faults' status → status ≡ 7 → Rose before.stores after.stores ⊎ Rose before.writes after.writes
write-counted words before after (Ok o) old new faults faults' status done told is = other-status words before o o.line old new faults faults' status Write done.0 told is not-memory-write
write-counted words before after (Err Read) old new faults faults' status done told is = other-fault Read Write _ old new faults faults' status told is (λ e. absurd (let no : fault_status Read ≡ fault_status Write = ap fault_status e in omega (arith, no))) not-memory-write
write-counted words before after (Err Write) old new faults faults' status done told is =
    ⊎_elim
    (λ x. let counted = x.1 in let stores = counted.stores in inl stores.rose)
    (λ x. let counted = x.1 in let writes = counted.writes in inr writes.rose)
    done.2
write-counted words before after (Err Memory) old new faults faults' status done told is = other-fault Memory Write _ old new faults faults' status told is (λ e. not-memory-write (sym e)) not-memory-write

-- ---- the promise

in-part : (words : List (List ℕ)) (before after : Outside) → BuildsInPart words before after → StoresInPart words before.files after.files
in-part words before after h =
    let asked = h.asked in
    let says = asked.1 in
    record {
      items = asked.0;
      asked = record { in_words = says.in_words; plain = says.plain };
      source_name = h.source_name;
      image_name = h.image_name;
      certificate_name = h.certificate_name;
      named = says.positional;
      image = h.image;
      certificate = h.certificate;
      part = h.part;
    }

pub faults-kept : (words : List (List ℕ)) (before after : Outside) (err err' : Option (List ℕ)) (faults faults' : ℕ) (last : Option Held) (status : ℕ) → IsAnswer words before after err err' faults faults' last status →
    KeepsAfterFault words before after err err' faults faults' status
faults-kept words before after err err' faults faults' last status (given, done, exact, told, handed) =
    let holds = after-fault words before after err err' faults faults' last status (given, done, exact, told, handed) in
    record {
      counted = λ rose. let fault = holds.counted rose in one-of fault.0 status fault.1;
      read = read-counted words before after given err err' faults faults' status done told;
      write = write-counted words before after given err err' faults faults' status done told;
      line = λ fault is differs.
          let took = holds.line differs in
          let same = line-is words before status fault took.0 is took.1 in
          subst (λ (line : List ℕ). Appends err err' line ⊎ (TakesPrefix err err' line × IsRisen faults faults')) same took.2;
      after_read = holds.after_read;
      after_write = λ which. ⊎_elim (λ kept. inl kept) (λ part. inr (in-part words before after part)) (holds.after_write which);
    }
