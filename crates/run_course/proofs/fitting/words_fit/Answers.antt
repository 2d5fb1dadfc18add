use Rattle.run_course.proofs.Common.{ℕ, ◌^◌, ◌<◌, subst, arith, get_or_default}
use Rattle.std.proofs.lemmas.List.Elements.{recursion_from_All}
use Rattle.run_course.proofs.fitting.words_fit.Goals as goal

pub returns : goal.returns
returns c =
    recursion_from_All (λ (n : ℕ). n < 2 ^ 32) c.args.words.now
    (λ k d within. subst (λ (n : ℕ). n < 2 ^ 32) (get_or_default c.args.words.now k 0 d within) (omega (arith, c.type_inv.words k)))
