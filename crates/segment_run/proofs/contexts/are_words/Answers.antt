use Rattle.segment_run.proofs.Common.{ℕ, ◌^◌, ◌<◌, subst, arith, get_or_default}
use Rattle.segment_run.proofs.contexts.are_words.Goals as goal

pub returns : goal.returns
returns c = λ k d within. subst (λ (n : ℕ). n < 2 ^ 32) (get_or_default c.args.values.now k 0 d within) (omega (arith, c.type_inv.values k))
