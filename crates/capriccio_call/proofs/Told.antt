-- What is told of how a command ended.
use Rattle.capriccio_call.proofs.Common.{◌≡◌, ℕ, List, [], Option, Some, None, Result, Ok, Err, refl, sym, subst, inl, ⊎_elim, Keeps, Files, KeepsFiles, Cause, Stop, Refused, Failed, Fault, Memory, Ended, Outcome, refusal, Held, Outside, WhereTold, AreStored, IsDone, IsExact, IsTold, IsEnd, IsLast, EndsAs, IsFinished, append-nothing, IsAnswerOf, keeps_by_none}

pub stored-none : (old new : Option Files) → WhereTold (AreStored []) old new → KeepsFiles old new
stored-none None new h = tt
stored-none (Some old) None h = absurd h
stored-none (Some old) (Some new) h = h

refused-without : (due : Outcome → Type 0) (before after : Outside) (cause : Cause) → IsDone due before after (Ok (refusal cause)) → IsDone due before after (Err Memory)
refused-without due before after cause h =
    let whole = h.1 in
    (inl (record { files = stored-none before.files after.files whole.files; trace = whole.trace; out = keeps_by_none before.taken after.taken whole.out }), h.2)

told-again : (status : ℕ) (o : Outcome) (old new : Option (List ℕ)) (faults faults' answer : ℕ) → o.status ≡ status → o.line ≡ [] → IsTold status [] old new faults faults' answer → IsTold o.status o.line old new faults faults' answer
told-again status o old new faults faults' answer same none h =
    let first = subst (λ n. IsTold n [] old new faults faults' answer) (sym same) h in
    subst (λ line. IsTold o.status line old new faults faults' answer) (sym none) first

-- what is done is exactly what is due
abbrev pub AreExact : (Outside → Outcome → Type 0) → (before after : Outside) → Type 0
AreExact due before after = (given : Result Outcome Fault) → IsDone (due before) before after given → IsExact due before after given

-- the command did what its words ask
pub told-done : (due : Outside → Outcome → Type 0) (before after : Outside) (given : Ended) (last : Option Held) (old new : Option (List ℕ)) (faults faults' : ℕ) → AreExact due before after → EndsAs IsEnd (due before) before after (Ok given) → last ≡ given.last → Keeps old new → faults' ≡ faults →
    IsAnswerOf due before after old new faults faults' last given.status
told-done due before after given last old new faults faults' exact h handed kept same =
    let told = inl (refl, append-nothing old new kept, same) in
    (Ok h.0, h.1, exact (Ok h.0) h.1, told-again given.status h.0 old new faults faults' given.status h.2.0 h.2.1 told, subst (λ (world : Option Held). IsLast h.0.last world) (sym handed) h.2.2)

nothing-handed : (last : Option Held) → last ≡ None → IsLast None last
nothing-handed last none = subst (λ (world : Option Held). IsLast None world) (sym none) tt

-- the command stopped before that
pub told-stop : (due : Outside → Outcome → Type 0) (before after : Outside) (stop : Stop) (last : Option Held) (old new : Option (List ℕ)) (faults faults' answer : ℕ) → AreExact due before after → EndsAs IsEnd (due before) before after (Err stop) → last ≡ None → IsFinished stop old new faults faults' answer →
    IsAnswerOf due before after old new faults faults' last answer
told-stop due before after (Refused cause) last old new faults faults' answer exact h none k =
    ⊎_elim (λ t. (Ok (refusal cause), h, exact (Ok (refusal cause)) h, t, nothing-handed last none))
    (λ t. let nothing = refused-without (due before) before after cause h in (Err Memory, nothing, exact (Err Memory) nothing, t, nothing-handed last none)) k
told-stop due before after (Failed fault) last old new faults faults' answer exact h none k = (Err fault, h, exact (Err fault) h, k, nothing-handed last none)
