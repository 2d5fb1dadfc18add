use Rattle.std.proofs.lemmas.Result.{err_from_is_err_and}
use Rattle.c_tree.specs.RawProgramView.{raw_program_tree}
use Rattle.c_hoist.proofs.Common.{ap, sym, subst, ◌∙◌, IfOk, length, for_parts_whole, program_tree, is_call, items_places, ranks, HasRead, IsResolvedBy, items_hoisted}
use Rattle.c_tree.specs.WellScoped.{AreSiteNumbers}
use Rattle.hoist_parts.proofs.Temporaries.{items_small}
use Rattle.hoist_parts.proofs.Whole.{items_hoisted_whole}
use Rattle.hoist_meaning.proofs.TreeCounts.{each_call}
use Rattle.c_hoist.proofs.nested_text.resolve_hoisted.Goals as goal

pub finish-requires : goal.finish-requires
finish-requires c =
    let t = raw_program_tree c.args.raw in
    let whole = items_hoisted_whole t (for_parts_whole t c.requires) in
    let places = c.deref.ensures.value ∙ c.in_ok-read.ensures.places ∙ ap (λ x. items_places is_call (items_hoisted x)) c.into_items.ensures in
    let ns = c.deref-2.ensures.value ∙ c.in_ok-numbers.ensures.numbers ∙ ap ranks places in
    record {
      source = items_hoisted t;
      read = subst (λ x. HasRead c.in_ok-read.read.resolver (items_hoisted x) (items_hoisted x)) c.into_items.ensures c.in_ok-read.ensures.read;
      within = items_small t c.args.raw.within;
      whole = whole;
      each = ap length ns ∙ each_call (items_hoisted t) whole;
      distinct = subst AreSiteNumbers (sym c.deref-2.ensures.value) c.in_ok-numbers.ensures.distinct;
    }

pub returns-clause-resolved : goal.returns-clause-resolved
returns-clause-resolved c =
    let t = raw_program_tree c.args.raw in
    let places = c.deref.ensures.value ∙ c.in_ok-read.ensures.places ∙ ap (λ x. items_places is_call (items_hoisted x)) c.into_items.ensures in
    let ns = c.deref-2.ensures.value ∙ c.in_ok-numbers.ensures.numbers ∙ ap ranks places in
    let read = subst (λ x. HasRead c.in_ok-read.read.resolver (items_hoisted x) (items_hoisted x)) c.into_items.ensures c.in_ok-read.ensures.read in
    subst (λ n. IfOk c.finish.result (λ p. IsResolvedBy n (items_hoisted t) (program_tree p))) ns (c.finish.ensures.resolved (items_hoisted t) read)

pub returns-clause-refused : goal.returns-clause-refused
returns-clause-refused c =
    let t = raw_program_tree c.args.raw in
    c.finish.ensures.refused (items_hoisted t) (subst (λ x. HasRead c.in_ok-read.read.resolver (items_hoisted x) (items_hoisted x)) c.into_items.ensures c.in_ok-read.ensures.read)

pub returns-in_err-read-clause-refused : goal.returns-in_err-read-clause-refused
returns-in_err-read-clause-refused c =
    let p = err_from_is_err_and c.from_residual.result c.from_residual.ensures.1 in
    rw (p.1, p.2) tt

pub returns-in_err-numbers-clause-refused : goal.returns-in_err-numbers-clause-refused
returns-in_err-numbers-clause-refused c =
    let p = err_from_is_err_and c.from_residual-in_err-numbers.result c.from_residual-in_err-numbers.ensures.1 in
    rw (p.1, p.2) tt
