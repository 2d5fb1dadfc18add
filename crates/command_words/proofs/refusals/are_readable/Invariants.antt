use Rattle.command_words.proofs.Common.{◌↔◌, map, drop, AllByRecursion, string_bytes, IsWord}
use Rattle.command_words.proofs.refusals.are_readable.Given as goal

-- all words are as they should be just where those that are left are
abbrev pub invariant-loop-word : goal.invariant-loop-word
invariant-loop-word l = (AllByRecursion IsWord (map (λ word. string_bytes word) l.words)) ↔
    (AllByRecursion IsWord (map (λ word. string_bytes word) (drop l.word-index l.words)))
