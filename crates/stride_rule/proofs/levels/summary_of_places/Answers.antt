use Rattle.stride_rule.proofs.Common.{◌≡◌, ◌≢◌, ℕ, subst, sym, ⊎_elim, arith, rules, cases_eq, row_at, Covers}
use Rattle.stride_rule.proofs.SummaryLemmas.{includes_covers}
use Rattle.stride_rule.proofs.levels.summary_of_places.Goals as goal

pub loop-place-preserved : goal.loop-place-preserved
loop-place-preserved c = λ k from to.
    let its : Covers c.with-summary.result (row_at c.args.places.now c.loop-place.place) = search rules in
    ⊎_elim
    (λ (same : k ≡ c.loop-place.place). subst (λ (i : ℕ). Covers c.with-summary.result (row_at c.args.places.now i)) (sym same) its)
    (λ (apart : k ≢ c.loop-place.place). includes_covers c.with-summary.result c.loop-place.summary (row_at c.args.places.now k) c.with-summary.ensures.keeps (c.loop-place.invariant k from (omega arith)))
    (cases_eq k c.loop-place.place)
