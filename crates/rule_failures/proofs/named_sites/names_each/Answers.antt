use Rattle.rule_failures.proofs.Common.{◌≡◌, ℕ, ◌<◌, length, refl, sym, ap, ◌∙◌, arith, subst, ◌||◌, slice_index, slice_index_or, list_any, IsStrictlyIncreasing, false≢true, program_code, certified_site, fact_numbers, is_site, is_marked}
use Rattle.rule_failures.proofs.NamedLemmas.{right_in, right_more, noted_function, names_all, seen_all}
use Rattle.rule_failures.proofs.named_sites.names_each.Goals as goal

pub returns-then-not-note_sites : goal.returns-then-not-note_sites
returns-then-not-note_sites c = (
  λ t. absurd (false≢true t),
  λ names. c.if-not-note_sites.ensures.named.1
      (right_in (program_code c.args.flat.now) c.args.certificate.now c.loop-function.function-index c.function-item.result c.as_slice-facts.result.now c.as_slice.result.now
      (omega (arith, ap length c.functions-function-items.ensures))
      (c.function-item.is ∙ ap (λ l. slice_index_or l c.loop-function.function-index c.function-item.result) c.functions-function-items.ensures) c.as_slice-facts.ensures c.as_slice.ensures names),
)

pub loop-function-preserved : goal.loop-function-preserved
loop-function-preserved c =
    let at : c.function-item.result ≡ slice_index_or (program_code c.args.flat.now).functions c.loop-function.function-index c.function-item.result =
    c.function-item.is ∙ ap (λ l. slice_index_or l c.loop-function.function-index c.function-item.result) c.functions-function-items.ensures in
    let lt : c.loop-function.function-index < length (program_code c.args.flat.now).functions = omega (arith, ap length c.functions-function-items.ensures) in
    let ap_ops = λ (k : ℕ) (less : k < length c.as_slice-facts.result.now). c.if-not-note_sites.ensures.noted refl k less ∙ ap (λ ops. is_marked c.loop-function.seen k || list_any (λ op. is_site (slice_index (fact_numbers c.as_slice-facts.result.now) k) (certified_site op)) ops) c.as_slice.ensures in
    record {
      items = c.functions-function-items.ensures;
      count = omega arith;
      named = right_more (program_code c.args.flat.now) c.as_slice-facts.result.now c.loop-function.function-index c.function-item.result c.as_slice.result.now lt at c.as_slice.ensures
          (c.if-not-note_sites.ensures.named.0 refl) c.loop-function.invariant.named;
      noted = λ k less. noted_function _ (program_code c.args.flat.now).functions c.loop-function.function-index c.function-item.result _ _ lt at (ap_ops k less) (c.loop-function.invariant.noted k less);
    }

pub returns : goal.returns
returns c = (
  λ t. names_all (program_code c.args.flat.now) c.args.certificate.now c.loop-function.function-index c.loop-function.seen c.as_slice-facts.result.now c.as_slice-facts.ensures
      (omega (arith, ap length c.functions-function-items.ensures)) (subst (λ fs. IsStrictlyIncreasing (fact_numbers fs)) (sym c.as_slice-facts.ensures) c.requires.rising)
      (c.loop-function.invariant.count) c.loop-function.invariant.named c.loop-function.invariant.noted (c.are_all_seen.ensures.0 t),
  λ names. c.are_all_seen.ensures.1
      (seen_all (program_code c.args.flat.now) c.args.certificate.now c.loop-function.function-index c.loop-function.seen c.as_slice-facts.result.now c.as_slice-facts.ensures
      (omega (arith, ap length c.functions-function-items.ensures)) c.loop-function.invariant.count c.loop-function.invariant.noted names),
)
