use Rattle.accepted_pairs.proofs.Common.{◌≡◌, length, NamesFunctions}
use Rattle.accepted_pairs.proofs.code_lists.name_functions.Given as goal

abbrev pub invariant-loop-f : goal.invariant-loop-f
invariant-loop-f l = record {
  named : NamesFunctions l.certificate l.f l.functions;
  count : length l.functions ≡ length l.image.code;
}
