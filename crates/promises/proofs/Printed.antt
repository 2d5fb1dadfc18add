-- What a run prints is what the source does by itself.
use Rattle.promises.proofs.Common.{◌≡◌, ◌≢◌, ◌∙◌, ℕ, List, [], ◌∷◌, ◌++◌, map, Option, IfSome, Some, None, sym, subst, append_assoc, codes, slice_get, Appends, IsAnswer, Outside, Setup, Policy, Entry, StopLine, World, IsLawfulLog, log_text, log-of-text, Held}
use Rattle.audited_logs.specs.TextLog.{IsTextLog}
use Rattle.blocking_graph.specs.Edges.{edges_of}
use Rattle.choice_rules.specs.EdgeLines.{edge_entry}
use Rattle.deep_mean.specs.Naming.{deep_program}
use Rattle.promises.specs.Outputs.{KeepsOutputs, PrintsSource}
use Rattle.promises.proofs.Asked.{asked-of}
use Rattle.promises.proofs.Ran.{IsRan, ran-of}
use Rattle.promises.proofs.Returned.{returned}

-- the lines before that of the stop
pub record EndsIn (entries : List Entry) (stop : StopLine) : Type 0 where
  pub lines : List Entry
  pub is : entries ≡ lines ++ Entry.Stop stop ∷ []

pub ends-in : (g : Setup) (trace : List ℕ) (entries : List Entry) (stop : StopLine) (end : World) → IsLawfulLog g trace entries stop end → EndsIn entries stop
ends-in g trace entries stop end log =
    let edges = map (edge_entry g.policy.caps) (edges_of log.last.past.records) in
    record { lines = log.before_end ++ edges; is = log.entries_are ∙ sym (append_assoc log.before_end edges (Entry.Stop stop ∷ [])) }

printed : {words : List (List ℕ)} {before after : Outside} {status : ℕ} (world : Held) → IsRan words before after world status → slice_get words 0 ≢ Some (codes "demo") → PrintsSource words before.files before.taken after.taken status
printed {words} {before} {after} {status} world r other =
    let asked = asked-of words r.request before after r.setup.policy r.trace r.entries r.asked r.policy r.prints other in
    let text = log-of-text r.request before.files r.setup r.trace r.entries r.stop r.end r.source r.accepted r.lawful in
    let read = text.read in
    let parsed = read.parsed in
    let split = ends-in r.setup r.trace r.entries r.stop r.end r.lawful in
    let policy = asked.policy in
    record {
      command = asked.command;
      items = asked.items;
      asked = asked.asked;
      name = asked.name;
      others = asked.others;
      named = asked.named;
      caps = asked.options.caps;
      capped = policy.caps;
      source = text.source;
      there = asked.loads before.files text.source text.source_is;
      tokens = read.tokens;
      lexed = read.lexed;
      tree = read.tree;
      parsed = parsed.tree;
      lines = split.lines;
      stop = r.stop;
      printed = subst (λ (entries : List Entry). Appends before.taken after.taken (log_text entries)) split.is asked.printed;
      stopped = r.status_is;
      log = subst (λ (entries : List Entry). IsTextLog (deep_program read.tree) asked.options.caps entries) split.is
          (subst (λ (policy : Policy). IsTextLog (deep_program read.tree) policy.caps r.entries) asked.same text.log);
    }

kept : (words : List (List ℕ)) (before after : Outside) (err err' : Option (List ℕ)) (faults faults' : ℕ) (last : Option Held) (status : ℕ) → IsAnswer words before after err err' faults faults' last status →
    slice_get words 0 ≢ Some (codes "demo") → IfSome last (λ world. PrintsSource words before.files before.taken after.taken status)
kept words before after err err' faults faults' None status answer other = tt
kept words before after err err' faults faults' (Some world) status answer other = printed world (ran-of words before after err err' faults faults' world status answer) other

pub outputs-kept : (words : List (List ℕ)) (before after : Outside) (err err' : Option (List ℕ)) (faults faults' : ℕ) (last : Option Held) (status : ℕ) → IsAnswer words before after err err' faults faults' last status →
    KeepsOutputs words before.files before.taken after.taken last status
outputs-kept words before after err err' faults faults' last status answer = record {
  returned = returned words before after err err' faults faults' last status answer;
  outputs = kept words before after err err' faults faults' last status answer;
}
