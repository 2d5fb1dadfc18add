-- The promise on the verdict of an audit.
use Rattle.std.specs.Prelude.{◌≡◌, ℕ, IsSome, List, [], ◌∷◌, ◌++◌, Option, Some, codes, slice_get}
use Rattle.audited_logs.specs.TextLog.{IsTextLog}
use Rattle.c_grammar.specs.Grammar.{IsProgram}
use Rattle.c_lex.specs.Tokens.{AreTokensOf}
use Rattle.c_lex.specs.declared.tokens.Token.{Token}
use Rattle.c_tree.specs.RawTrees.{RawItemTree}
use Rattle.cap_io.specs.Files.{Files}
use Rattle.command_files.specs.Loaded.{IsLoaded}
use Rattle.command_outcomes.specs.declared.documents.Document.TheVariants as document
use Rattle.command_words.specs.OptionTable.{name_of}
use Rattle.command_words.specs.Said.{Said, positionals_of, value_of}
use Rattle.command_words.specs.Values.{AreCaps}
use Rattle.command_words.specs.declared.option_table.CommandOption.TheVariants as option
use Rattle.deep_mean.specs.Naming.{deep_program}
use Rattle.promises.specs.Words.{AreOf}
use Rattle.schedule_log.specs.EntryText.{log_text}
use Rattle.schedule_log.specs.declared.entries.Entry.{Entry}
use Rattle.schedule_log.specs.declared.entries.StopLine.{StopLine}

-- The positional words name the files of a source and of a log. The source's bytes are these tokens, and these are this
-- tree of the grammar. The log's are the text of entries that end with the line of a stop: under the schedule that they
-- print, the tree by itself, with the caps of the words, outputs, blocks, ends and stops as they say.
pub record IsSourcesLog (words : List (List ℕ)) (files : Option Files) : Type 0 where
  pub command : List ℕ
  pub items : List Said
  pub asked : AreOf words command items
  pub source_name : List ℕ
  pub log_name : List ℕ
  pub named : positionals_of items ≡ source_name ∷ log_name ∷ []
  pub caps : List ℕ
  pub capped : AreCaps (value_of items (name_of option.Caps)) caps
  pub source : List ℕ
  pub source_there : IsLoaded document.Source files source_name source
  pub tokens : List Token
  pub lexed : AreTokensOf source tokens
  pub tree : List RawItemTree
  pub parsed : IsProgram source tokens tree
  pub lines : List Entry
  pub stop : StopLine
  pub log_there : IsLoaded document.Log files log_name (log_text (lines ++ Entry.Stop stop ∷ []))
  pub text : IsTextLog (deep_program tree) caps (lines ++ Entry.Stop stop ∷ [])

-- so it is if an audit ends with status 0, on a trace that exposes its bytes
abbrev pub KeepsAudit : (words : List (List ℕ)) → Option Files → (left : Option (List ℕ)) → (status : ℕ) → Type 0
KeepsAudit words files left status = slice_get words 0 ≡ Some (codes "audit") → IsSome left → status ≡ 0 → IsSourcesLog words files
