use Rattle.rule_failures.proofs.Common.{◌≡◌, ℕ, ◌<◌, take, slice_get, sum_by, program_code, starting_words}
use Rattle.rule_failures.proofs.image_lists.first_wrong_global.Given as goal

abbrev pub invariant-loop-global : goal.invariant-loop-global
invariant-loop-global l = record {
  items : l.global-items ≡ l.flat.globals.items;
  passed : l.passed ≡ sum_by (λ g. g.words) (take l.global-index l.flat.globals.items);
  lower : (i : ℕ) → i < l.passed → slice_get l.words i ≡ slice_get (starting_words (program_code l.flat)) i;
}
