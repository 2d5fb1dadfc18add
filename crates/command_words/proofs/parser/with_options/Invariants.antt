use Rattle.clap.specs.Words.{app_of}
use Rattle.command_words.proofs.Common.{◌≡◌, fold, take, with_option}
use Rattle.command_words.proofs.parser.with_options.Given as goal

-- the options so far were added
abbrev pub invariant-loop-option : goal.invariant-loop-option
invariant-loop-option l = app_of l.command ≡ fold with_option (app_of l.initial.command) (take l.option-index l.options)
