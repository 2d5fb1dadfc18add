-- The run of a returned world, as the answer says it.
use Rattle.promises.proofs.Common.{◌≡◌, ◌∙◌, ℕ, List, [], Option, IfSome, Some, Ok, Err, ap, subst, ⊎_elim, Appends, IsWordList, Request, Serve, Run, Build, Check, Graph, Demo, Audit, Budget, IsPolicyFor, IsLawfulLog, Setup, World, Entry, StopLine, log_text, Held, Outcome, Ran, Outside, IsAccepted, RunsOn, ShowsRun, run_outcome, shown_outcome, stop_status, IsLast, IsWorldOf, IsAnswer, IsRunFor, IsRunOfSource, IsSetupOf, IsReady, areas-formed, of-due, status-told}
use Rattle.workload.specs.Traces.{trace_text}

-- what a run but that of `demo` prints, on this trace
abbrev pub Prints : Request → (before after : Outside) → List ℕ → List Entry → Type 0
Prints (Demo number) before after trace entries = Unit {0}
Prints request before after trace entries = IfSome before.left (λ its. its ≡ trace) × Appends before.taken after.taken (log_text entries)

pub record IsRan (words : List (List ℕ)) (before after : Outside) (world : Held) (status : ℕ) : Type 0 where
  pub request : Request
  pub asked : IsWordList words request
  pub setup : Setup
  pub policy : IsPolicyFor request setup.policy
  pub accepted : IsAccepted setup
  pub ready : IsReady setup
  pub source : IsSetupOf request before.files setup
  pub trace : List ℕ
  pub entries : List Entry
  pub stop : StopLine
  pub end : World
  pub lawful : IsLawfulLog setup trace entries stop end
  pub prints : Prints request before after trace entries
  pub status_is : status ≡ stop_status stop
  pub world_is : IsWorldOf (record { setup = setup; end = end }) world

-- its program is accepted, and its policy in the ranges
ready : (request : Request) (before : Outside) (setup : Setup) → IsAccepted setup → IsSetupOf request before.files setup → IsReady setup
ready request before setup ok made = let range = made.range in record { scoped = ok.scoped; valid = ok.valid; areas = areas-formed setup ok range; fuel = range.fuel }

module _ (words : List (List ℕ)) (request : Request) (asked : IsWordList words request) (before after : Outside) (o : Outcome) (world : Held) (status : ℕ) (setup : Setup) (of_source : IsRunOfSource request before.files o)
    (printed : Appends before.taken after.taken o.out) (last : IsLast o.last (Some world)) (told : o.line ≡ [] → status ≡ o.status) where
  ran : (h : RunsOn before.left setup o) → ((trace : List ℕ) (entries : List Entry) → IfSome before.left (λ its. its ≡ trace) × Appends before.taken after.taken (log_text entries) → Prints request before after trace entries) → IsRan words before after world status
  ran h prints =
      let is : o ≡ run_outcome setup h.1 h.2 h.3 = h.5 in
      let some = h.6 in
      let run = some.run in
      let made = of_source (record { setup = setup; end = h.3 }) (ap (λ (x : Outcome). x.last) is) in
      record {
        request = request;
        asked = asked;
        setup = setup;
        policy = made.policy;
        accepted = h.0;
        ready = ready request before setup h.0 made;
        source = made;
        trace = some.bytes;
        entries = h.1;
        stop = h.2;
        end = h.3;
        lawful = run.lawful;
        prints = prints some.bytes h.1 (some.told, subst (λ (x : Outcome). Appends before.taken after.taken x.out) is printed);
        status_is = told (ap (λ (x : Outcome). x.line) is) ∙ ap (λ (x : Outcome). x.status) is;
        world_is = subst (λ (x : Outcome). IsLast x.last (Some world)) is last;
      }

  shown : (trace : List ℕ) (h : ShowsRun trace setup o) → ((entries : List Entry) → Prints request before after trace entries) → IsRan words before after world status
  shown trace h prints =
      let is : o ≡ shown_outcome setup h.1 h.2 h.3 = h.5 in
      let run = h.4 in
      let made = of_source (record { setup = setup; end = h.3 }) (ap (λ (x : Outcome). x.last) is) in
      record {
        request = request;
        asked = asked;
        setup = setup;
        policy = made.policy;
        accepted = h.0;
        ready = ready request before setup h.0 made;
        source = made;
        trace = trace;
        entries = h.1;
        stop = h.2;
        end = h.3;
        lawful = run.lawful;
        prints = prints h.1;
        status_is = told (ap (λ (x : Outcome). x.line) is) ∙ ap (λ (x : Outcome). x.status) is;
        world_is = subst (λ (x : Outcome). IsLast x.last (Some world)) is last;
      }

by-request : (words : List (List ℕ)) (request : Request) (asked : IsWordList words request) (before after : Outside) (o : Outcome) (world : Held) (status : ℕ) (setup : Setup) → IsRunFor request before.left setup o → IsRunOfSource request before.files o →
    Appends before.taken after.taken o.out → IsLast o.last (Some world) → (o.line ≡ [] → status ≡ o.status) → IsRan words before after world status
by-request words (Serve source placement policy) asked before after o world status setup h of_source printed last told =
    ran words (Serve source placement policy) asked before after o world status setup of_source printed last told h (λ trace entries x. x)
by-request words (Run source image certificate policy) asked before after o world status setup h of_source printed last told =
    ran words (Run source image certificate policy) asked before after o world status setup of_source printed last told h (λ trace entries x. x)
by-request words (Demo number) asked before after o world status setup h of_source printed last told =
    shown words (Demo number) asked before after o world status setup of_source printed last told (trace_text number) h.1 (λ entries. tt)
by-request words (Build source image certificate placement) asked before after o world status setup h of_source printed last told = absurd h
by-request words (Check source image certificate) asked before after o world status setup h of_source printed last told = absurd h
by-request words (Graph source placement) asked before after o world status setup h of_source printed last told = absurd h
by-request words (Audit source log options) asked before after o world status setup h of_source printed last told = absurd h
by-request words (Budget source image certificate) asked before after o world status setup h of_source printed last told = absurd h

pub ran-of : (words : List (List ℕ)) (before after : Outside) (err err' : Option (List ℕ)) (faults faults' : ℕ) (world : Held) (status : ℕ) → IsAnswer words before after err err' faults faults' (Some world) status → IsRan words before after world status
ran-of words before after err err' faults faults' world status (Ok o, done, exact, told, last) =
    let whole = done.1 in
    ⊎_elim
    (λ none. absurd (subst (λ (ran : Option Ran). IsLast ran (Some world)) none last))
    (λ x. by-request words x.0 x.1 before after o world status x.2 x.3 x.4 whole.out last (λ empty. status-told o.status o.line err err' faults faults' status empty told))
    (of-due words before o done.0)
ran-of words before after err err' faults faults' world status (Err fault, done, exact, told, last) = absurd last
