use Rattle.command_words.proofs.Common.{◌↔◌, drop, names_of, IsOneOf}
use Rattle.command_words.proofs.refusals.is_named.Given as goal

-- the word is the name of an option just where it is that of one which is left
abbrev pub invariant-loop-option : goal.invariant-loop-option
invariant-loop-option l = (IsOneOf (names_of l.options) l.word) ↔ (IsOneOf (names_of (drop l.option-index l.options)) l.word)
