-- The promise on what a run prints.
use Rattle.std.specs.Prelude.{◌≡◌, ◌≢◌, ℕ, List, [], ◌∷◌, ◌++◌, Option, IfSome, Some, codes, slice_get}
use Rattle.std.specs.Io.KnownBytes.{Appends}
use Rattle.audited_logs.specs.TextLog.{IsTextLog}
use Rattle.c_grammar.specs.Grammar.{IsProgram}
use Rattle.c_lex.specs.Tokens.{AreTokensOf}
use Rattle.c_lex.specs.declared.tokens.Token.{Token}
use Rattle.c_tree.specs.RawTrees.{RawItemTree}
use Rattle.cap_io.specs.Files.{Files}
use Rattle.command_files.specs.Loaded.{IsLoaded}
use Rattle.command_outcomes.specs.declared.documents.Document.TheVariants as document
use Rattle.command_words.specs.OptionTable.{name_of}
use Rattle.command_words.specs.Said.{Said, positionals_of, value_of}
use Rattle.command_words.specs.Values.{AreCaps}
use Rattle.command_words.specs.declared.option_table.CommandOption.TheVariants as option
use Rattle.deep_mean.specs.Naming.{deep_program}
use Rattle.pair_commands.specs.Runs.{stop_status}
use Rattle.promises.specs.Returned.{IsReturned}
use Rattle.promises.specs.Words.{AreOf}
use Rattle.schedule_log.specs.EntryText.{log_text}
use Rattle.schedule_log.specs.declared.entries.Entry.{Entry}
use Rattle.schedule_log.specs.declared.entries.StopLine.{StopLine}
use Rattle.thread_core.specs.Worlds.{Held}

-- The first positional word names the file of the source, if the shelf exposes its files. Its bytes are these tokens,
-- and these are this tree of the grammar. The output took the text of entries that end with the line of the stop, whose
-- status is returned: under the schedule that they print, the tree by itself, on unbounded stacks and with the caps of
-- the words, outputs, blocks, ends and stops as they say.
pub record PrintsSource (words : List (List ℕ)) (files : Option Files) (taken taken' : Option (List ℕ)) (status : ℕ) : Type 0 where
  pub command : List ℕ
  pub items : List Said
  pub asked : AreOf words command items
  pub name : List ℕ
  pub others : List (List ℕ)
  pub named : positionals_of items ≡ name ∷ others
  pub caps : List ℕ
  pub capped : AreCaps (value_of items (name_of option.Caps)) caps
  pub source : List ℕ
  pub there : IsLoaded document.Source files name source
  pub tokens : List Token
  pub lexed : AreTokensOf source tokens
  pub tree : List RawItemTree
  pub parsed : IsProgram source tokens tree
  pub lines : List Entry
  pub stop : StopLine
  pub printed : Appends taken taken' (log_text (lines ++ Entry.Stop stop ∷ []))
  pub stopped : status ≡ stop_status stop
  pub log : IsTextLog (deep_program tree) caps (lines ++ Entry.Stop stop ∷ [])

-- so it is for each world that `serve` or `run` returns; `demo` prints a summary in place of the lines
pub record KeepsOutputs (words : List (List ℕ)) (files : Option Files) (taken taken' : Option (List ℕ)) (last : Option Held) (status : ℕ) : Type 0 where
  pub returned : IsReturned words last status
  pub outputs : slice_get words 0 ≢ Some (codes "demo") → IfSome last (λ world. PrintsSource words files taken taken' status)
