use Rattle.codegen_link.proofs.Common.{◌≡◌, ◌*◌, ◌++◌, drop, take, sum, places_from}
use Rattle.codegen_link.proofs.facts.places.Given as goal

abbrev pub invariant-loop-words : goal.invariant-loop-words
invariant-loop-words l = record {
  places : l.places.items ++ places_from l.place (drop l.words-index l.sizes) ≡ places_from 0 l.sizes;
  place : l.place ≡ 4 * sum (take l.words-index l.sizes);
}
