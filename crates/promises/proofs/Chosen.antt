-- Each printed choice is the rule's.
use Rattle.promises.proofs.Common.{◌≡◌, ◌≢◌, ◌∙◌, ◌≤◌, ℕ, List, Option, IfSome, Some, None, sym, ap, subst, arith, codes, slice_get, slice_index, Appends, accepted_tree, ProgramTree, IsAnswer, Outside, Setup, Policy, Entry, StopLine, World, IsLawfulLog, IsReady, log_text, policy_of, IsRunPolicy, Held}
use Rattle.audited_logs.specs.Audited.{AreCapsSmall, given_of, read_policy}
use Rattle.audited_logs.specs.Printed.{AreLawfulChoices}
use Rattle.audited_logs.proofs.Logs.{enough}
use Rattle.audited_logs.proofs.ReadWorlds.{choices_are_lawful}
use Rattle.command_words.specs.declared.options.Policy.{Policy as RunOptions}
use Rattle.lawful_reading.specs.Given.{Given}
use Rattle.lawful_reading.specs.Reading.{IsLawful}
use Rattle.promises.specs.Choices.{KeepsChoices, PrintsChoices}
use Rattle.promises.proofs.Asked.{asked-of}
use Rattle.promises.proofs.Ran.{IsRan, ran-of}
use Rattle.promises.proofs.Returned.{returned}

caps-small : (options : RunOptions) (policy : Policy) → IsRunPolicy options → policy ≡ policy_of options → AreCapsSmall policy.caps
caps-small options policy ranges same = λ r some lt.
    let small = subst (λ (its : Policy). slice_index its.caps r ≤ 1000000) (sym same) (ranges.caps r some lt) in omega (arith, small)

-- a reading of the log, with enough steps
pub record IsRead (g : Setup) (trace : List ℕ) (entries : List Entry) : Type 0 where
  pub most_steps : ℕ
  pub lawful : IsLawful (given_of g most_steps) trace (log_text entries)

pub read : (g : Setup) (options : RunOptions) (trace : List ℕ) (entries : List Entry) (stop : StopLine) (end : World) → IsReady g → IsRunPolicy options → g.policy ≡ policy_of options → IsLawfulLog g trace entries stop end → IsRead g trace entries
read g options trace entries stop end ready ranges same log =
    let steps = enough g ready.scoped ready.valid ready.areas ready.fuel (caps-small options g.policy ranges same) 0 trace entries stop end log in
    record { most_steps = steps.0; lawful = steps.1 steps.0 (omega arith) }

-- what it is read against
pub given-is : (g : Setup) (world : Held) (options : RunOptions) (most_steps : ℕ) → accepted_tree world.accepted ≡ g.program → g.policy ≡ policy_of options →
    given_of g most_steps ≡ record { program = accepted_tree world.accepted; policy = read_policy (policy_of options); most_steps = most_steps }
given-is g world options most_steps program policy =
    let by : ProgramTree → Policy → Given = λ p q. record { program = p; policy = read_policy q; most_steps = most_steps } in
    ap (λ (p : ProgramTree). by p g.policy) (sym program) ∙ ap (λ (q : Policy). by (accepted_tree world.accepted) q) policy

chosen : {words : List (List ℕ)} {before after : Outside} {status : ℕ} (world : Held) → IsRan words before after world status → slice_get words 0 ≢ Some (codes "demo") → PrintsChoices words before.left before.taken after.taken world
chosen {words} {before} {after} {status} world r other =
    let asked = asked-of words r.request before after r.setup.policy r.trace r.entries r.asked r.policy r.prints other in
    let is = r.world_is in
    let found = read r.setup asked.options r.trace r.entries r.stop r.end r.ready asked.ranges asked.same r.lawful in
    let lawful = found.lawful in
    record {
      command = asked.command;
      items = asked.items;
      asked = asked.asked;
      options = asked.options;
      policy = asked.policy;
      trace = r.trace;
      told = asked.told;
      entries = lawful.entries;
      printed = subst (λ (text : List ℕ). Appends before.taken after.taken text) lawful.log_is asked.printed;
      most_steps = found.most_steps;
      choices = subst (λ (given : Given). AreLawfulChoices given r.trace lawful.entries) (given-is r.setup world asked.options found.most_steps is.program asked.same)
          (choices_are_lawful (given_of r.setup found.most_steps) r.trace lawful.entries lawful.last lawful.leads);
    }

kept : (words : List (List ℕ)) (before after : Outside) (err err' : Option (List ℕ)) (faults faults' : ℕ) (last : Option Held) (status : ℕ) → IsAnswer words before after err err' faults faults' last status →
    slice_get words 0 ≢ Some (codes "demo") → IfSome last (PrintsChoices words before.left before.taken after.taken)
kept words before after err err' faults faults' None status answer other = tt
kept words before after err err' faults faults' (Some world) status answer other = chosen world (ran-of words before after err err' faults faults' world status answer) other

pub choices-kept : (words : List (List ℕ)) (before after : Outside) (err err' : Option (List ℕ)) (faults faults' : ℕ) (last : Option Held) (status : ℕ) → IsAnswer words before after err err' faults faults' last status →
    KeepsChoices words before.left before.taken after.taken last status
choices-kept words before after err err' faults faults' last status answer = record {
  returned = returned words before after err err' faults faults' last status answer;
  choices = kept words before after err err' faults faults' last status answer;
}
