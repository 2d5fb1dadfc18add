use Rattle.codegen_link.proofs.Common.{◌≡◌, take, replicate, flat_map}
use Rattle.codegen_link.proofs.areas.global_words.Given as goal

abbrev pub invariant-loop-global : goal.invariant-loop-global
invariant-loop-global l = l.words.items ≡ flat_map (λ g. replicate g.words g.start) (take l.global-index l.global-items)
