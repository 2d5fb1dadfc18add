use Rattle.command_words.proofs.Common.{◌↔◌, drop, first_value, found_of, LacksAll, names_of}
use Rattle.command_words.proofs.reading.lacks_all.Given as goal

-- none of the options is given just where none of those is that are left
abbrev pub invariant-loop-option : goal.invariant-loop-option
invariant-loop-option l =
    (LacksAll (λ name. first_value (found_of l.matches) name) (names_of l.options))
    ↔ (LacksAll (λ name. first_value (found_of l.matches) name) (names_of (drop l.option-index l.options)))
