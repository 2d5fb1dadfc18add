-- The run was good whose world is handed out.
use Rattle.capriccio_call.proofs.Common.{◌≡◌, ◌⊎◌, ℕ, List, [], Option, IfSome, Some, None, Ok, Err, sym, ap, subst, ◌∙◌, ⊎_elim, inl, inr, Appends, IsWordList, Request, Serve, Run, Build, Check, Graph, Demo, Audit, Budget, Setup, Held, Outcome, Ran, IsSourceText, IsRun, IsRunOfSome, RunsOn, run_outcome, ShowsRun, shown_outcome, IsDue, trace_text, program_text, log_text, Outside, IsTold, IsLast, IsAnswer, IsLogFor, RanWell, WasGood}
use Rattle.capriccio_call.proofs.OutcomeKinds.{IsRunFor, IsPairFor, kind-of}
use Rattle.capriccio_call.proofs.TheText.{IsRunOfSource, run-of-source, log-of-text}

-- the same for what the words ask for; the run is that of the source that they ask for
abbrev pub IsAskedFor : (words : List (List ℕ)) → Outside → Outcome → Type 0
IsAskedFor words before o =
    (o.last ≡ None)
    ⊎ ((request : Request) × IsWordList words request × (setup : Setup) × IsRunFor request before.left setup o × IsRunOfSource request before.files o)

-- a pair is no run
pair-quiet : (request : Request) (o : Outcome) → IsPairFor request o → o.last ≡ None
pair-quiet (Build source image certificate placement) o h = h.last
pair-quiet (Serve source placement policy) o h = absurd h
pair-quiet (Run source image certificate policy) o h = absurd h
pair-quiet (Check source image certificate) o h = absurd h
pair-quiet (Graph source placement) o h = absurd h
pair-quiet (Budget source image certificate) o h = absurd h
pair-quiet (Audit source log options) o h = absurd h
pair-quiet (Demo number) o h = absurd h

pub of-due : (words : List (List ℕ)) (before : Outside) (o : Outcome) → IsDue words before o → IsAskedFor words before o
of-due words before o h =
    ⊎_elim
    (λ x. ⊎_elim (λ plain. inl plain.last) (λ y. ⊎_elim (λ run. inr (x.0, x.1, run.0, run.1, run-of-source words x.0 before o x.1 x.2)) (λ pair. inl (pair-quiet x.0 o pair)) y) (kind-of x.0 before o x.2))
    (λ x. inl (ap (λ (p : Outcome). p.last) x.1))
    h

-- The world that is handed out.

no-world : {P : Type 0} (o : Outcome) (world : Held) → o.last ≡ None → IsLast o.last (Some world) → P
no-world o world none h = absurd (subst (λ (ran : Option Ran). IsLast ran (Some world)) none h)

pub status-told : (status : ℕ) (line : List ℕ) (old new : Option (List ℕ)) (faults faults' answer : ℕ) → line ≡ [] → IsTold status line old new faults faults' answer → answer ≡ status
status-told status line old new faults faults' answer none h = ⊎_elim (λ x. x.0) (λ x. absurd (x.0 none)) h

-- which has its lawful log, and is made of this source
ran-well : (words : List (List ℕ)) (request : Request) (asked : IsWordList words request) (before after : Outside) (o : Outcome) (world : Held) (status : ℕ) (setup : Setup) (h : RunsOn before.left setup o) → IsRunOfSource request before.files o → Appends before.taken after.taken o.out → IsLast o.last (Some world) → (o.line ≡ [] → status ≡ o.status) → (IfSome before.left (λ trace. IsRun setup trace h.1 h.2 h.3) × Appends before.taken after.taken (log_text h.1) × IsRunOfSome setup before.left h.1 h.2 h.3 → IsLogFor request setup before after h.1 h.2 h.3) → RanWell words before after world status
ran-well words request asked before after o world status setup h of_source printed last told logs =
    let ran : o ≡ run_outcome setup h.1 h.2 h.3 = h.5 in
    let some = h.6 in
    let run = some.run in
    let made = of_source (record { setup = setup; end = h.3 }) (ap (λ (x : Outcome). x.last) ran) in
    record {
      request = request;
      asked = asked;
      setup = setup;
      policy = made.policy;
      entries = h.1;
      stop = h.2;
      end = h.3;
      accepted = h.0;
      log = logs (h.4, subst (λ (x : Outcome). Appends before.taken after.taken x.out) ran printed, h.6);
      text = log-of-text request before.files setup some.bytes h.1 h.2 h.3 made h.0 run.lawful;
      stopped = told (ap (λ (x : Outcome). x.line) ran) ∙ ap (λ (x : Outcome). x.status) ran;
      handed_out = subst (λ (x : Outcome). IsLast x.last (Some world)) ran last;
    }

shown-well : (words : List (List ℕ)) (number : ℕ) (asked : IsWordList words (Demo number)) (before after : Outside) (o : Outcome) (world : Held) (status : ℕ) (setup : Setup) → IsSourceText (program_text number) setup.program → ShowsRun (trace_text number) setup o → IsRunOfSource (Demo number) before.files o → Appends before.taken after.taken o.out → IsLast o.last (Some world) → (o.line ≡ [] → status ≡ o.status) → RanWell words before after world status
shown-well words number asked before after o world status setup source h of_source printed last told =
    let ran : o ≡ shown_outcome setup h.1 h.2 h.3 = h.5 in
    let run = h.4 in
    let made = of_source (record { setup = setup; end = h.3 }) (ap (λ (x : Outcome). x.last) ran) in
    record {
      request = Demo number;
      asked = asked;
      setup = setup;
      policy = made.policy;
      entries = h.1;
      stop = h.2;
      end = h.3;
      accepted = h.0;
      log = (source, h.4, subst (λ (x : Outcome). Appends before.taken after.taken x.out) ran printed);
      text = log-of-text (Demo number) before.files setup (trace_text number) h.1 h.2 h.3 made h.0 run.lawful;
      stopped = told (ap (λ (x : Outcome). x.line) ran) ∙ ap (λ (x : Outcome). x.status) ran;
      handed_out = subst (λ (x : Outcome). IsLast x.last (Some world)) ran last;
    }

well : (words : List (List ℕ)) (request : Request) (asked : IsWordList words request) (before after : Outside) (o : Outcome) (world : Held) (status : ℕ) (setup : Setup) → IsRunFor request before.left setup o → IsRunOfSource request before.files o → Appends before.taken after.taken o.out → IsLast o.last (Some world) → (o.line ≡ [] → status ≡ o.status) → RanWell words before after world status
well words (Serve source placement policy) asked before after o world status setup h of_source printed last told = ran-well words (Serve source placement policy) asked before after o world status setup h of_source printed last told (λ log. log)
well words (Run source image certificate policy) asked before after o world status setup h of_source printed last told = ran-well words (Run source image certificate policy) asked before after o world status setup h of_source printed last told (λ log. log)
well words (Build source image certificate placement) asked before after o world status setup h of_source printed last told = absurd h
well words (Check source image certificate) asked before after o world status setup h of_source printed last told = absurd h
well words (Graph source placement) asked before after o world status setup h of_source printed last told = absurd h
well words (Budget source image certificate) asked before after o world status setup h of_source printed last told = absurd h
well words (Audit source log options) asked before after o world status setup h of_source printed last told = absurd h
well words (Demo number) asked before after o world status setup h of_source printed last told = shown-well words number asked before after o world status setup h.0 h.1 of_source printed last told

pub was-good : (words : List (List ℕ)) (before after : Outside) (err err' : Option (List ℕ)) (faults faults' : ℕ) (last : Option Held) (status : ℕ) → IsAnswer words before after err err' faults faults' last status → WasGood words before after last status
was-good words before after err err' faults faults' None status h = tt
was-good words before after err err' faults faults' (Some world) status (Ok o, done, exact, told, last) =
    let whole = done.1 in
    ⊎_elim
    (λ none. no-world o world none last)
    (λ x. well words x.0 x.1 before after o world status x.2 x.3 x.4 whole.out last (λ empty. status-told o.status o.line err err' faults faults' status empty told))
    (of-due words before o done.0)
was-good words before after err err' faults faults' (Some world) status (Err fault, done, exact, told, last) = absurd last

-- where no world is handed out, there is nothing to say
pub good-without : (words : List (List ℕ)) (before after : Outside) (last : Option Held) (status : ℕ) → last ≡ None → WasGood words before after last status
good-without words before after last status none = subst (λ (world : Option Held). WasGood words before after world status) (sym none) tt
