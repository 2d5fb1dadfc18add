-- The promise on the choices of the scheduler.
use Rattle.std.specs.Prelude.{◌≡◌, ◌≢◌, ℕ, List, Option, IfSome, Some, codes, slice_get}
use Rattle.std.specs.Io.KnownBytes.{Appends}
use Rattle.accepted_pairs.specs.Accepting.{accepted_tree}
use Rattle.audited_logs.specs.Audited.{read_policy}
use Rattle.audited_logs.specs.Printed.{AreLawfulChoices}
use Rattle.command_words.specs.Said.{Said, value_of}
use Rattle.command_words.specs.Values.{IsPolicy}
use Rattle.command_words.specs.declared.options.Policy.{Policy}
use Rattle.pair_commands.specs.Runs.{policy_of}
use Rattle.promises.specs.Returned.{IsReturned}
use Rattle.promises.specs.Words.{AreOf}
use Rattle.schedule_log.specs.EntryText.{log_text}
use Rattle.schedule_log.specs.declared.entries.Entry.{Entry}
use Rattle.thread_core.specs.Worlds.{Held}

-- The output took the text of these entries, whose `run` lines each name the thread and the node of the rule's choice:
-- by the program's world under the schedule that the lines before it print, and by the costs, the clocks and the free
-- chunks that they print. Rule and policy are those of the words. The trace is the one that was passed, if its bytes are
-- exposed.
pub record PrintsChoices (words : List (List ℕ)) (left taken taken' : Option (List ℕ)) (world : Held) : Type 0 where
  pub command : List ℕ
  pub items : List Said
  pub asked : AreOf words command items
  pub options : Policy
  pub policy : IsPolicy (value_of items) options
  pub trace : List ℕ
  pub told : IfSome left (λ its. its ≡ trace)
  pub entries : List Entry
  pub printed : Appends taken taken' (log_text entries)
  pub most_steps : ℕ
  pub choices : AreLawfulChoices (record { program = accepted_tree world.accepted; policy = read_policy (policy_of options); most_steps = most_steps }) trace entries

-- so it is for each world that `serve` or `run` returns; `demo` prints a summary in place of the lines
pub record KeepsChoices (words : List (List ℕ)) (left taken taken' : Option (List ℕ)) (last : Option Held) (status : ℕ) : Type 0 where
  pub returned : IsReturned words last status
  pub choices : slice_get words 0 ≢ Some (codes "demo") → IfSome last (PrintsChoices words left taken taken')
