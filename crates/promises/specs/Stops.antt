-- The promise on how a run stops.
use Rattle.std.specs.Prelude.{◌≡◌, ◌≢◌, ℕ, List, [], ◌∷◌, ◌++◌, Option, IfSome, Some, codes, slice_get}
use Rattle.std.specs.Io.KnownBytes.{Appends}
use Rattle.accepted_pairs.specs.Accepting.{accepted_tree}
use Rattle.audited_logs.specs.Audited.{read_policy}
use Rattle.command_words.specs.Said.{Said, value_of}
use Rattle.command_words.specs.Values.{IsPolicy}
use Rattle.command_words.specs.declared.options.Policy.{Policy}
use Rattle.lawful_reading.specs.Ends.{IsStop}
use Rattle.lawful_reading.specs.Given.{Given}
use Rattle.lawful_reading.specs.Reading.{Leads}
use Rattle.lawful_reading.specs.State.{State, start_of}
use Rattle.pair_commands.specs.Runs.{policy_of, stop_status}
use Rattle.promises.specs.Returned.{IsReturned}
use Rattle.promises.specs.Words.{AreOf}
use Rattle.schedule_log.specs.EntryText.{log_text}
use Rattle.schedule_log.specs.declared.entries.Entry.{Entry}
use Rattle.schedule_log.specs.declared.entries.StopLine.{StopLine}
use Rattle.thread_core.specs.Worlds.{Held}

-- the program that was run, and the options of the words
abbrev pub given_of : Held → Policy → (most_steps : ℕ) → Given
given_of world options most_steps =
    record { program = accepted_tree world.accepted; policy = read_policy (policy_of options); most_steps = most_steps }

-- The output took the text of entries that end with the line of the stop, whose status is returned. The lines before it
-- are allowed one after another, by the program's own runs, under the policy of the words and on the trace that was
-- passed, if its bytes are exposed; and after them the stop is: `done` if no thread is live, `idle` if the trace is over
-- and no thread is ready or sleeps, `trace` at a line that is no event, a trap where the program has it, `fuel` when the
-- printed costs reach the fuel, and `threads` when the program starts one thread too many. Of the place of `nochunk`,
-- which depends on the machine, nothing is said. In the returned world no thread is live exactly at `done`. If the output
-- doesn't expose what it took, the entries are any that fit the rest.
pub record StopsRightly (words : List (List ℕ)) (left taken taken' : Option (List ℕ)) (status : ℕ) (world : Held) : Type 0 where
  pub command : List ℕ
  pub items : List Said
  pub asked : AreOf words command items
  pub options : Policy
  pub policy : IsPolicy (value_of items) options
  pub trace : List ℕ
  pub told : IfSome left (λ its. its ≡ trace)
  pub lines : List Entry
  pub stop : StopLine
  pub printed : Appends taken taken' (log_text (lines ++ Entry.Stop stop ∷ []))
  pub status_is : status ≡ stop_status stop
  pub most_steps : ℕ
  pub before : State
  pub leads : Leads (given_of world options most_steps) (start_of (given_of world options most_steps) trace) lines before
  pub after : State
  pub stops : IsStop (given_of world options most_steps) before stop after
  pub done : stop ≡ StopLine.Done → world.machine.threads ≡ []
  pub live : stop ≢ StopLine.Done → world.machine.threads ≢ []

-- so it is for each world that `serve` or `run` returns; `demo` prints a summary in place of the lines
pub record KeepsStops (words : List (List ℕ)) (left taken taken' : Option (List ℕ)) (last : Option Held) (status : ℕ) : Type 0 where
  pub returned : IsReturned words last status
  pub stops : slice_get words 0 ≢ Some (codes "demo") → IfSome last (StopsRightly words left taken taken' status)
