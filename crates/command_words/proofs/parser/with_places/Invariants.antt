use Rattle.clap.specs.Words.{app_of}
use Rattle.command_words.proofs.Common.{◌≡◌, fold, take, with_place}
use Rattle.command_words.proofs.parser.with_places.Given as goal

-- the positional words so far were added
abbrev pub invariant-loop-name : goal.invariant-loop-name
invariant-loop-name l = app_of l.command ≡ fold (λ app name. with_place app name.now) (app_of l.initial.command) (take l.name-index l.names)
