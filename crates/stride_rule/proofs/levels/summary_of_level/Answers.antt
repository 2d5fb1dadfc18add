use Rattle.stride_rule.proofs.Common.{◌≡◌, ◌≢◌, ◌<◌, ℕ, length, subst, sym, ⊎_elim, arith, rules, cases_eq, get_or_default, Summary, Includes, summary_at}
use Rattle.stride_rule.proofs.SummaryLemmas.{includes_trans}
use Rattle.stride_rule.proofs.levels.summary_of_level.Goals as goal

pub loop-other-preserved : goal.loop-other-preserved
loop-other-preserved c = λ k from to.
    let there : c.loop-other.other < length c.args.level.now = search rules in
    let its : Includes c.join-summary.result (summary_at c.args.level.now c.loop-other.other) =
    subst (λ (s : Summary). Includes c.join-summary.result s) (get_or_default c.args.level.now c.loop-other.other _ _ there) c.join-summary.ensures.right in
    ⊎_elim
    (λ (same : k ≡ c.loop-other.other). subst (λ (i : ℕ). Includes c.join-summary.result (summary_at c.args.level.now i)) (sym same) its)
    (λ (apart : k ≢ c.loop-other.other). includes_trans c.join-summary.result c.loop-other.summary (summary_at c.args.level.now k) c.join-summary.ensures.left (c.loop-other.invariant k from (omega arith)))
    (cases_eq k c.loop-other.other)
