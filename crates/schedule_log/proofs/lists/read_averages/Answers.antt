use Rattle.schedule_log.proofs.Common.{◌≡◌, ℤ, List, take, map, FitsSigned, sym, ◌∙◌, w128, canonical_integer, FitsAverages}
use Rattle.schedule_log.proofs.ListsRead.{if_none, no_next, some_fields}
use Rattle.schedule_log.proofs.lists.read_averages.Goals as goal

pub returns-in_err-values-clause-none : goal.returns-in_err-values-clause-none
returns-in_err-values-clause-none c =
    let loop = c.loop-values in
    let some = some_fields loop.fields c.is_over.result c.is_over.ensures c.loop-values-test.true in
    let none : (all : List ℤ) → FitsAverages all → c.args.fields.now ≡ map canonical_integer all → ⊥ =
    λ all fits is. no_next (FitsSigned w128) canonical_integer (take loop.count loop.values) loop.fields all fits.2 (sym loop.invariant.read ∙ is) some c.in_err-values.ensures.none in
    if_none _ none
