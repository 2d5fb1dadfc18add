-- How a command ends, from what its last step did.
use Rattle.std.proofs.Common.{◌≡◌, ◌≢◌, ℕ, true, List, [], ◌∷◌, Option, Some, None, Result, Ok, Err, refl, sym, ◌∙◌, subst, inl, inr, ⊎_elim}
use Rattle.std.proofs.lemmas.List.{append-nil}
use Rattle.std.specs.Io.KnownBytes.{Keeps, Appends}
use Rattle.std.proofs.KnownBytes.{Keeps-refl}
use Rattle.cap_io.specs.Faults.{IsRisen}
use Rattle.cap_io.specs.Files.{Files, KeepsFiles, KeepsOthers}
use Rattle.command_outcomes.specs.declared.stops.Cause.{Cause}
use Rattle.command_outcomes.specs.declared.stops.Stop.{Stop}
use Rattle.command_outcomes.specs.declared.stops.Stop.TheVariants.{Refused, Failed}
use Rattle.command_outcomes.specs.declared.faults.Fault.{Fault}
use Rattle.command_outcomes.specs.declared.faults.Fault.TheVariants.{Read, Write, Memory}
use Rattle.command_outcomes.specs.Outcome.{Outcome, printed}
use Rattle.command_outcomes.specs.CauseLines.{refusal}
use Rattle.command_outcomes.specs.Done.{Outside, WhereTold, AreStored, AreCutShort, IsDone, IsOnlyRead, IsTraceLeft}
use Rattle.command_outcomes.specs.Steps.{IsReadStop, IsShelfStop, IsPrinted, IsStatus, AreStores, EndsAs, RunEnds}

pub append-nothing : (old new : Option (List ℕ)) → Keeps old new → Appends old new []
append-nothing None new h = tt
append-nothing (Some old) None h = absurd h
append-nothing (Some old) (Some new) h = h ∙ sym (append-nil old)

pub kept-are-stored : (old new : Option Files) → KeepsFiles old new → WhereTold (AreStored []) old new
kept-are-stored None new h = tt
kept-are-stored (Some old) None h = absurd h
kept-are-stored (Some old) (Some new) h = h

others-from : (old old2 new : Files) (name : List ℕ) → ((other : List ℕ) → old2 other ≡ old other) → KeepsOthers old2 new name → KeepsOthers old new name
others-from old old2 new name same h = λ other differs. h other differs ∙ same other

stored-from : (files : List (List ℕ × List ℕ)) (old old2 new : Files) → ((name : List ℕ) → old2 name ≡ old name) → AreStored files old2 new → AreStored files old new
stored-from [] old old2 new same h = λ name. h name ∙ same name
stored-from (file ∷ files) old old2 new same h =
    let first = h.1 in
    (h.0, record { holds = first.holds; others = others-from old old2 h.0 file.0 same first.others }, h.2)

cut-from : (files : List (List ℕ × List ℕ)) (old old2 new : Files) → ((name : List ℕ) → old2 name ≡ old name) → AreCutShort files old2 new → AreCutShort files old new
cut-from [] old old2 new same h = absurd h
cut-from (file ∷ files) old old2 new same h =
    ⊎_elim
    (λ x. inl (record { holds = ⊎_elim (λ p. inl p) (λ e. inr (e ∙ same file.0)) x.holds; others = others-from old old2 new file.0 same x.others }))
    (λ x. let first = x.1 in inr (x.0, record { holds = first.holds; others = others-from old old2 x.0 file.0 same first.others }, x.2))
    h

-- stores after steps that changed no file
pub stored-after : (files : List (List ℕ × List ℕ)) (a b c : Option Files) → KeepsFiles a b → WhereTold (AreStored files) b c → WhereTold (AreStored files) a c
stored-after files None b c h k = tt
stored-after files (Some a) None c h k = absurd h
stored-after files (Some a) (Some b) None h k = absurd k
stored-after files (Some a) (Some b) (Some c) h k = stored-from files a b c h k

pub cut-after : (files : List (List ℕ × List ℕ)) (a b c : Option Files) → KeepsFiles a b → WhereTold (AreCutShort files) b c → WhereTold (AreCutShort files) a c
cut-after files None b c h k = tt
cut-after files (Some a) None c h k = absurd h
cut-after files (Some a) (Some b) None h k = absurd k
cut-after files (Some a) (Some b) (Some c) h k = cut-from files a b c h k

-- the same, however the stores end
pub stores-after : (files : List (List ℕ × List ℕ)) (a b c : Option Files) (l m n : ℕ) (r : Result (Unit {0}) Stop) → KeepsFiles a b → m ≡ l → AreStores files b c m n r → AreStores files a c l n r
stores-after files a b c l m n (Ok u) keeps same h = (stored-after files a b c keeps h.0, h.1 ∙ same)
stores-after files a b c l m n (Err (Failed Write)) keeps same h = (cut-after files a b c keeps h.0, subst (λ k. IsRisen k n) same h.1)
stores-after files a b c l m n (Err (Failed Memory)) keeps same h = (cut-after files a b c keeps h.0, h.1 ∙ same)
stores-after files a b c l m n (Err _) keeps same h = h

-- a step that stops before anything is stored or printed
pub stopped : {T : Type 0} (hands_on : Outcome → T → Type 0) (due : Outcome → Type 0) (before after : Outside) (stop : Stop) → KeepsFiles before.files after.files → after.stores ≡ before.stores → Keeps before.left after.left → after.reads ≡ before.reads → Keeps before.taken after.taken → after.writes ≡ before.writes →
    IsShelfStop due before.loads after.loads stop → EndsAs hands_on due before after (Err stop)
stopped hands_on due before after (Refused cause) files stores left reads taken writes h =
    (h.0, record { files = kept-are-stored before.files after.files files; trace = left; out = append-nothing before.taken after.taken taken }, record { loads = h.1; stores = stores; reads = reads; writes = writes })
stopped hands_on due before after (Failed Read) files stores left reads taken writes h =
    inl (inl (record { files = files; trace = left; out = taken }, record { loads = h; stores = stores; reads = reads; writes = writes }))
stopped hands_on due before after (Failed Write) files stores left reads taken writes h = absurd h
stopped hands_on due before after (Failed Memory) files stores left reads taken writes h =
    (inl (record { files = files; trace = left; out = taken }), record { loads = h; stores = stores; reads = reads; writes = writes })

-- a step that stops after the trace was read, before anything is printed
pub stopped-reading : {T : Type 0} (hands_on : Outcome → T → Type 0) (due : Outcome → Type 0) (before after : Outside) (fault : Fault) → (((outcome : Outcome) → due outcome → outcome.reads_trace ≡ true → outcome.last ≢ None) → ⊥) → KeepsFiles before.files after.files → Keeps before.taken after.taken →
    after.loads ≡ before.loads → after.stores ≡ before.stores → after.writes ≡ before.writes → IsReadStop fault before.reads after.reads → EndsAs hands_on due before after (Err (Failed fault))
stopped-reading hands_on due before after Read reads files taken loads stores writes h =
    inl (inr (record { reads = reads; files = files; out = taken }, record { loads = loads; stores = stores; reads = h; writes = writes }))
stopped-reading hands_on due before after Write reads files taken loads stores writes h = absurd h
stopped-reading hands_on due before after Memory reads files taken loads stores writes h =
    (inr (inl (record { reads = reads; files = files; out = taken })), record { loads = loads; stores = stores; reads = h; writes = writes })

-- the stores of an outcome are made, and its text is printed
pub printed-ends : (due : Outcome → Type 0) (before after : Outside) (o : Outcome) (r : Result ℕ Stop) → due o → o.line ≡ [] → o.last ≡ None → IsTraceLeft o.reads_trace before.left after.left → WhereTold (AreStored o.stores) before.files after.files → after.loads ≡ before.loads → after.stores ≡ before.stores → after.reads ≡ before.reads →
    IsPrinted o.status o.out before.taken after.taken before.writes after.writes r → EndsAs IsStatus due before after r
printed-ends due before after o (Ok given) is line none trace files loads stores reads h =
    (o, (is, record { files = files; trace = trace; out = h.1 }, record { loads = loads; stores = stores; reads = reads; writes = h.2 }), (sym h.0, line, none))
printed-ends due before after o (Err (Failed Write)) is line none trace files loads stores reads h =
    (o, is, inr (record { files = files; trace = trace; out = h.0 }, record { loads = loads; stores = stores; reads = reads; writes = h.1 }))
printed-ends due before after o (Err (Failed Memory)) is line none trace files loads stores reads h =
    (inr (inr (o, is, inr (record { files = files; trace = trace; out = h.0 }))), record { loads = loads; stores = stores; reads = reads; writes = h.1 })
printed-ends due before after o (Err _) is line none trace files loads stores reads h = absurd h

-- a store of an outcome was cut short
pub stores-cut : (due : Outcome → Type 0) (before after : Outside) (o : Outcome) (stop : Stop) → due o → o.stores ≢ [] → Keeps before.left after.left → Keeps before.taken after.taken → after.loads ≡ before.loads → after.reads ≡ before.reads → after.writes ≡ before.writes →
    AreStores o.stores before.files after.files before.stores after.stores (Err stop) → EndsAs IsStatus due before after (Err stop)
stores-cut due before after o (Failed Write) is some left taken loads reads writes h =
    (o, is, inl (record { some = some; files = h.0; trace = left; out = taken }, record { loads = loads; stores = h.1; reads = reads; writes = writes }))
stores-cut due before after o (Failed Memory) is some left taken loads reads writes h =
    (inr (inr (o, is, inl (record { some = some; files = h.0; trace = left; out = taken }))), record { loads = loads; stores = h.1; reads = reads; writes = writes })
stores-cut due before after o _ is some left taken loads reads writes h = absurd h

pub printed-now : (due : Outcome → Type 0) (before after : Outside) (status : ℕ) (text : List ℕ) (r : Result ℕ Stop) → due (printed status text) → KeepsFiles before.files after.files → Keeps before.left after.left → after.loads ≡ before.loads → after.stores ≡ before.stores → after.reads ≡ before.reads →
    IsPrinted status text before.taken after.taken before.writes after.writes r → EndsAs IsStatus due before after r
printed-now due before after status text r is files left loads stores reads h =
    printed-ends due before after (printed status text) r is refl refl left (kept-are-stored before.files after.files files) loads stores reads h

-- Nothing is done at all.

pub files-keep : (files : Option Files) → KeepsFiles files files
files-keep None = tt
files-keep (Some f) = λ name. refl

pub refused-at-once : {T : Type 0} (hands_on : Outcome → T → Type 0) (due : Outcome → Type 0) (o : Outside) (cause : Cause) → due (refusal cause) → EndsAs hands_on due o o (Err (Refused cause))
refused-at-once hands_on due o cause h = stopped hands_on due o o (Refused cause) (files-keep o.files) refl (Keeps-refl o.left) refl (Keeps-refl o.taken) refl (h, refl)

pub memory-at-once : {T : Type 0} (hands_on : Outcome → T → Type 0) (due : Outcome → Type 0) (o : Outside) → EndsAs hands_on due o o (Err (Failed Memory))
memory-at-once hands_on due o = stopped hands_on due o o (Failed Memory) (files-keep o.files) refl (Keeps-refl o.left) refl (Keeps-refl o.taken) refl refl

-- memory is wanting before the trace is read
pub memory-before : {T : Type 0} (hands_on : Outcome → T → Type 0) (due : Outcome → Type 0) (left : Option (List ℕ)) (reads : ℕ) (taken : Option (List ℕ)) (writes : ℕ) → RunEnds hands_on due left left reads reads taken taken writes writes (Err (Failed Memory))
memory-before hands_on due left reads taken writes = λ files files' loads loads' stores stores' keeps same again.
    stopped hands_on due (record { files = files; loads = loads; stores = stores; left = left; reads = reads; taken = taken; writes = writes })
    (record { files = files'; loads = loads'; stores = stores'; left = left; reads = reads; taken = taken; writes = writes }) (Failed Memory) keeps again (Keeps-refl left) refl (Keeps-refl taken) refl same

-- What is due may be put in the place of what implies it.

read-follows : (P Q : Outcome → Type 0) (before after : Outside) → ((o : Outcome) → P o → Q o) → IsOnlyRead P before after → IsOnlyRead Q before after
read-follows P Q before after step h = record { reads = λ all. h.reads (λ o is. all o (step o is)); files = h.files; out = h.out }

done-follows : (P Q : Outcome → Type 0) (before after : Outside) (given : Result Outcome Fault) → ((o : Outcome) → P o → Q o) → IsDone P before after given → IsDone Q before after given
done-follows P Q before after (Ok o) step h = (step o h.0, h.1, h.2)
done-follows P Q before after (Err Read) step h = ⊎_elim (λ x. inl (⊎_elim (λ y. inl y) (λ y. inr (read-follows P Q before after step y.0, y.1)) x)) (λ x. inr (x.0, x.1, step x.0 x.2, x.3, x.4)) h
done-follows P Q before after (Err Write) step h = (h.0, step h.0 h.1, h.2)
done-follows P Q before after (Err Memory) step h =
    (⊎_elim (λ x. inl x) (λ x. inr (⊎_elim (λ y. inl (read-follows P Q before after step y)) (λ y. inr (y.0, step y.0 y.1, y.2)) x)) h.0, h.1)

pub ends-follow : {T : Type 0} (hands_on : Outcome → T → Type 0) (P Q : Outcome → Type 0) (before after : Outside) (r : Result T Stop) → ((o : Outcome) → P o → Q o) → EndsAs hands_on P before after r → EndsAs hands_on Q before after r
ends-follow hands_on P Q before after (Ok given) step h = (h.0, done-follows P Q before after (Ok h.0) step h.1, h.2)
ends-follow hands_on P Q before after (Err (Refused cause)) step h = done-follows P Q before after (Ok (refusal cause)) step h
ends-follow hands_on P Q before after (Err (Failed fault)) step h = done-follows P Q before after (Err fault) step h
