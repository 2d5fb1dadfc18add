-- How `demo` ends: what its run did, and what is shown of it.
use Rattle.capriccio_commands.proofs.Common.{◌≡◌, ℕ, ◌≤◌, Bool, false, List, [], ◌++◌, Option, Some, None, Result, Ok, Err, refl, sym, ap, subst, ◌∙◌, inr, ⊎_elim, append_assoc, arith, MatchResult, OnOk, on_ok_weaker, KeepsFiles, ProgramTree, accepted_tree, Acceptance, Setup, entry_text, log_text, Entry, Held, program_text, trace_text, Read, Write, Memory, Stop, Refused, Failed, Ended, Outcome, Ran, NoMore, Outside, WhereTold, AreStored, IsTraceLeft, IsSourceText, IsStop, IsPrinted, EndsAs, RunEnds, kept-are-stored, refused-at-once, memory-at-once, RunsOn, ServesProgram, run_outcome, setup_of, census_of, tally_of, last_from, summary_text, Demos, ShowsRun, IsAcceptedWorkload, IsShown, ShowsDue, ShowsEnd, shown_outcome, demo_sizes, demo_policy, IsEnd, IsLast}
use Rattle.std.specs.Io.KnownBytes.{Keeps, Appends}
use Rattle.cap_io.specs.Faults.{IsRisen, Rose}
use Rattle.schedule_log.specs.declared.entries.Entry.TheVariants.{Stop as StopEntry}
use Rattle.command_outcomes.specs.CauseLines.{refusal}
use Rattle.schedule_log.specs.Writing.{TakesPrefix}
use Rattle.capriccio_commands.specs.declared.demo_command.Shown.{Shown}
use Rattle.capriccio_commands.specs.declared.summaries.Census.{Census}
use Rattle.capriccio_commands.proofs.Counting.{last-is-stop}
use Rattle.capriccio_commands.proofs.Workloads.{always-built}

regroup : (start a b c d : List ℕ) → (((start ++ a) ++ b) ++ c) ++ d ≡ start ++ (((a ++ b) ++ c) ++ d)
regroup start a b c d = simp append_assoc

-- four pieces, the last of which may find no memory
pub four-pieces : {T E : Type 0} (r : Result T E) (start a b c d one two three four : List ℕ) → one ≡ start ++ a → two ≡ one ++ b → three ≡ two ++ c → OnOk r (four ≡ three ++ d) → OnOk r (four ≡ start ++ (((a ++ b) ++ c) ++ d))
four-pieces r start a b c d one two three four h k l last =
    on_ok_weaker r (λ e. e ∙ (ap (λ x. x ++ d) (l ∙ ap (λ x. x ++ c) (k ∙ ap (λ x. x ++ b) h)) ∙ regroup start a b c d)) last

-- a step that can't refuse
pub no-more : {A : Type 0} (a : A) (due : Outcome → Type 0) (stop : Stop) → IsStop (NoMore a) stop → IsStop due stop
no-more a due (Failed Memory) h = tt
no-more a due _ h = absurd h

-- ---- the run

-- what a run does is no refusal, and comes with a world
no-refusal : {P : Type 0} (trace : Option (List ℕ)) (g : Setup) (o : Outcome) → RunsOn trace g o → o.last ≡ None → P
no-refusal trace g o h none =
    let some : Some (record { setup = g; end = h.3 }) ≡ None = sym (ap (λ (x : Outcome). x.last) h.5) ∙ none in
    absurd (cc)

not-risen : {P : Type 0} → IsRisen 0 0 → P
not-risen risen = let less = risen.rose (omega arith) in absurd (omega arith)

not-rose : {P : Type 0} → Rose 0 0 → P
not-rose rose = let less = rose (omega arith) in absurd (omega arith)

-- a run over a clean source and sink stops for want of memory alone
pub no-stop : {A : Type 0} (a : A) (trace trace' : List ℕ) (g : Setup) (log : List ℕ) (stop : Stop) → RunEnds IsEnd (RunsOn (Some trace) g) (Some trace) (Some trace') 0 0 (Some []) (Some log) 0 0 (Err stop) → IsStop (NoMore a) stop
no-stop a trace trace' g log (Refused cause) h =
    let e = h None None 0 0 0 0 tt refl refl in
    no-refusal (Some trace) g (refusal cause) e.0 refl
no-stop a trace trace' g log (Failed Read) h =
    let e = h None None 0 0 0 0 tt refl refl in
    ⊎_elim
    (λ x. ⊎_elim (λ y. let counted = y.1 in not-risen counted.loads) (λ y. let counted = y.1 in not-rose counted.reads) x)
    (λ x. let counted = x.4 in not-risen counted.reads) e
no-stop a trace trace' g log (Failed Write) h =
    let e = h None None 0 0 0 0 tt refl refl in
    ⊎_elim (λ x. let counted = x.1 in not-risen counted.stores) (λ x. let counted = x.1 in not-risen counted.writes) e.2
no-stop a trace trace' g log (Failed Memory) h = tt

-- ---- a run that came to its stop

world-there : (o : Outcome) (ran : Ran) (last : Option Held) → o.last ≡ Some ran → IsLast o.last last → (world : Held) × (last ≡ Some world)
world-there o ran None some h = absurd (subst (λ (x : Option Ran). IsLast x None) some h)
world-there o ran (Some world) some h = (world, refl)

-- what such a run did: all that is due, the whole of which its log has
pub record IsServed (due : Outcome → Type 0) (log : List ℕ) (ended : Ended) : Type 0 where
  pub outcome : Outcome
  pub is_due : due outcome
  pub status : outcome.status ≡ ended.status
  pub last : IsLast outcome.last ended.last
  pub log_is : log ≡ outcome.out

pub served : (trace trace' : List ℕ) (g : Setup) (log : List ℕ) (ended : Ended) → RunEnds IsEnd (RunsOn (Some trace) g) (Some trace) (Some trace') 0 0 (Some []) (Some log) 0 0 (Ok ended) → IsServed (RunsOn (Some trace) g) log ended
served trace trace' g log ended h =
    let e = h None None 0 0 0 0 tt refl refl in
    let done = e.1 in
    let whole = done.1 in
    record { outcome = e.0; is_due = done.0; status = e.2.0; last = e.2.2; log_is = whole.out }

pub served-world : (trace : Option (List ℕ)) (g : Setup) (log : List ℕ) (ended : Ended) → IsServed (RunsOn trace g) log ended → (world : Held) × (ended.last ≡ Some world)
served-world trace g log ended h =
    let due = h.is_due in
    world-there h.outcome (record { setup = g; end = due.3 }) ended.last (ap (λ (x : Outcome). x.last) due.5) h.last

-- what is shown of it
shows : {A : Type 0} (a : A) (due : Outcome → Type 0) (log : List ℕ) (ended : Ended) (census : Census) (r : Result Shown Stop) → IsServed due log ended →
    ((entries : List Entry) → log ≡ log_text entries → MatchResult r (ShowsEnd ended census entries) (IsStop (NoMore census))) → (entries : List Entry) → log ≡ log_text entries →
    MatchResult r (ShowsDue due census) (IsStop (NoMore a))
shows a due log ended census (Ok shown) served h entries is =
    let end = h entries is in
    record {
      served = served.outcome;
      is_due = served.is_due;
      status = served.status ∙ sym end.status;
      last = subst (λ (world : Option Held). IsLast served.outcome.last world) end.world served.last;
      text = λ others same. let other = h others (served.log_is ∙ same) in other.text;
    }
shows a due log ended census (Err stop) served h entries is = no-more census (NoMore a) stop (h entries is)

pub shows-due : {A : Type 0} (a : A) (trace : Option (List ℕ)) (g : Setup) (log : List ℕ) (ended : Ended) (census : Census) (r : Result Shown Stop) → IsServed (RunsOn trace g) log ended →
    ((entries : List Entry) → log ≡ log_text entries → MatchResult r (ShowsEnd ended census entries) (IsStop (NoMore census))) → MatchResult r (ShowsDue (RunsOn trace g) census) (IsStop (NoMore a))
shows-due a trace g log ended census r served h =
    let due = served.is_due in
    shows a (RunsOn trace g) log ended census r served h due.1 (served.log_is ∙ ap (λ (x : Outcome). x.out) due.5)

-- ---- what is due of the workload

abbrev setup_or : Setup → Option Ran → Setup
setup_or g None = g
setup_or g (Some ran) = ran.setup

-- the run of the pair that was accepted is the run that is due
shown-run : (trace : List ℕ) (g k : Setup) (shown : Shown) (o : Outcome) → RunsOn (Some trace) g o → RunsOn (Some trace) k o → o.status ≡ shown.status → IsLast o.last (Some shown.world) →
    ((entries : List Entry) → o.out ≡ log_text entries → shown.text.items ≡ summary_text (census_of g.program g.certificate) (tally_of entries) (last_from [] entries)) →
    (outcome : Outcome) × ShowsRun trace k outcome × (outcome.status ≡ shown.status) × (outcome.out ≡ shown.text.items) × (outcome.line ≡ []) × (outcome.stores ≡ []) × (outcome.reads_trace ≡ false) × IsLast outcome.last (Some shown.world)
shown-run trace g k shown o first second status last text =
    let entries = second.1 in let stop = second.2 in let end = second.3 in
    let is : o ≡ run_outcome k entries stop end = second.5 in
    let one : o.last ≡ Some (record { setup = g; end = first.3 }) = ap (λ (x : Outcome). x.last) first.5 in
    let two : o.last ≡ Some (record { setup = k; end = end }) = ap (λ (x : Outcome). x.last) is in
    let same : g ≡ k = ap (setup_or g) (sym one ∙ two) in
    let run = second.4 in
    let counted = text entries (ap (λ (x : Outcome). x.out) is) in
    let census : census_of g.program g.certificate ≡ census_of k.program k.certificate = ap (λ (x : Setup). census_of x.program x.certificate) same in
    let stops : last_from [] entries ≡ entry_text (StopEntry stop) = last-is-stop k trace entries stop end run.lawful in (
      shown_outcome k entries stop end,
      (second.0, entries, stop, end, run, refl),
      sym (ap (λ (x : Outcome). x.status) is) ∙ status,
      sym (counted ∙ (ap (λ c. summary_text c (tally_of entries) (last_from [] entries)) census ∙ ap (λ l. summary_text (census_of k.program k.certificate) (tally_of entries) l) stops)),
      refl,
      refl,
      refl,
      subst (λ (ran : Option Ran). IsLast ran (Some shown.world)) two last,
    )

pub shown-due : (number : ℕ) → 1 ≤ number → number ≤ 1000 → (accepted : Acceptance) (trace : List ℕ) (shown : Shown) → IsAcceptedWorkload number accepted → trace ≡ trace_text number →
    ShowsDue (RunsOn (Some trace) (setup_of (accepted_tree accepted) accepted.image accepted.certificate demo_policy)) (census_of (accepted_tree accepted) accepted.certificate) shown → IsShown (Demos number) shown
shown-due number low high accepted trace shown is traced h =
    let g = setup_of (accepted_tree accepted) accepted.image accepted.certificate demo_policy in
    let o = h.served in
    let runs : RunsOn (Some (trace_text number)) g o = subst (λ (t : List ℕ). RunsOn (Some t) g o) traced h.is_due in
    ⊎_elim
    (λ x. let source = is.source in always-built number low high is.program o source.reads x)
    (λ x.
    let k = setup_of is.program x.2 x.3 demo_policy in
    let all = shown-run (trace_text number) g k shown o runs x.5 h.status h.last h.text in
    record {
      outcome = all.0;
      is_due = (is.program, is.source, (x.2, x.3, x.4, all.1));
      status = all.2;
      text = all.3;
      line = all.4;
      stores = all.5;
      unread = all.6;
      last = all.7;
    })
    (is.leads o runs)

-- the workload isn't accepted: for want of memory alone
pub unaccepted-workload : (number : ℕ) → 1 ≤ number → number ≤ 1000 → (program : ProgramTree) (stop : Stop) → IsSourceText (program_text number) program → IsStop (ServesProgram (Some (trace_text number)) demo_sizes demo_policy program) stop → IsStop (Demos number) stop
unaccepted-workload number low high program (Refused cause) source h =
    ⊎_elim (λ x. always-built number low high program (refusal cause) source.reads x) (λ x. no-refusal (Some (trace_text number)) (setup_of program x.2 x.3 demo_policy) (refusal cause) x.5 refl) h
unaccepted-workload number low high program (Failed Memory) source h = tt
unaccepted-workload number low high program (Failed _) source h = absurd h

-- ---- its end

pub shown-told : (due : Outcome → Type 0) (before after : Outside) (shown : Shown) (status : ℕ) → IsShown due shown → KeepsFiles before.files after.files → Keeps before.left after.left → after.loads ≡ before.loads → after.stores ≡ before.stores → after.reads ≡ before.reads →
    IsPrinted shown.status shown.text.items before.taken after.taken before.writes after.writes (Ok status) → EndsAs IsEnd due before after (Ok (record { status = status; last = Some shown.world }))
shown-told due before after shown status is files left loads stores reads h =
    let kept = subst (λ (s : List (List ℕ × List ℕ)). WhereTold (AreStored s) before.files after.files) (sym is.stores) (kept-are-stored before.files after.files files) in
    let trace = subst (λ (reads : Bool). IsTraceLeft reads before.left after.left) (sym is.unread) left in
    let out = subst (λ (text : List ℕ). Appends before.taken after.taken text) (sym is.text) h.1 in (
      is.outcome,
      (is.is_due, record { files = kept; trace = trace; out = out }, record { loads = loads; stores = stores; reads = reads; writes = h.2 }),
      (is.status ∙ sym h.0, is.line, is.last),
    )

pub shown-cut : (due : Outcome → Type 0) (before after : Outside) (shown : Shown) (stop : Stop) → IsShown due shown → KeepsFiles before.files after.files → Keeps before.left after.left → after.loads ≡ before.loads → after.stores ≡ before.stores → after.reads ≡ before.reads →
    IsPrinted shown.status shown.text.items before.taken after.taken before.writes after.writes (Err stop) → EndsAs IsEnd due before after (Err stop)
shown-cut due before after shown (Failed Write) is files left loads stores reads h =
    let kept = subst (λ (s : List (List ℕ × List ℕ)). WhereTold (AreStored s) before.files after.files) (sym is.stores) (kept-are-stored before.files after.files files) in
    let trace = subst (λ (reads : Bool). IsTraceLeft reads before.left after.left) (sym is.unread) left in
    let taken = h.0 in
    let out = subst (λ (text : List ℕ). TakesPrefix before.taken after.taken text) (sym is.text) taken in
    (is.outcome, is.is_due, inr (record { files = kept; trace = trace; out = out }, record { loads = loads; stores = stores; reads = reads; writes = h.1 }))
shown-cut due before after shown (Failed Memory) is files left loads stores reads h =
    let kept = subst (λ (s : List (List ℕ × List ℕ)). WhereTold (AreStored s) before.files after.files) (sym is.stores) (kept-are-stored before.files after.files files) in
    let trace = subst (λ (reads : Bool). IsTraceLeft reads before.left after.left) (sym is.unread) left in
    let taken = h.0 in
    let out = subst (λ (text : List ℕ). TakesPrefix before.taken after.taken text) (sym is.text) taken in
    (inr (inr (is.outcome, is.is_due, inr (record { files = kept; trace = trace; out = out }))), record { loads = loads; stores = stores; reads = reads; writes = h.1 })
shown-cut due before after shown _ is files left loads stores reads h = absurd h

-- nothing was shown
pub shown-stopped : (due : Outcome → Type 0) (o : Outside) (stop : Stop) → IsStop due stop → EndsAs IsEnd due o o (Err stop)
shown-stopped due o (Refused cause) h = refused-at-once IsEnd due o cause h
shown-stopped due o (Failed Memory) h = memory-at-once IsEnd due o
shown-stopped due o (Failed _) h = absurd h
