use Rattle.rule_failures.proofs.Common.{ℕ, ap, sym, refl, arith, ◌∙◌, Some, map, option_map, slice_get-map, slice_get-get_or, fact_at}
use Rattle.rule_failures.proofs.PieceLemmas.{word_more}
use Rattle.rule_failures.proofs.image_lists.first_other_entry.Goals as goal

pub loop-k-preserved : goal.loop-k-preserved
loop-k-preserved c =
    let entry : ℕ → ℕ = λ g. (fact_at c.args.certificate.now g).entry in
    word_more (map entry c.args.members.now) c.args.words.now c.args.passed c.loop-k.k c.fact_of.result.now.entry (c.if-not-is_at.ensures.0 refl)
    (slice_get-map entry c.args.members.now c.loop-k.k ∙ (ap (option_map entry) (slice_get-get_or c.args.members.now c.loop-k.k 0 (omega arith)) ∙
    ap Some (sym (ap (λ f. f.entry) c.fact_of.ensures)))) c.loop-k.invariant
