use Rattle.schedule_log.proofs.Common.{◌≡◌, ℕ, List, ◌<◌, ◌^◌, take, map, sym, ◌∙◌, canonical_decimal, FitsKey}
use Rattle.schedule_log.proofs.ListsRead.{if_none, no_next, some_fields}
use Rattle.schedule_log.proofs.lists.read_sites.Goals as goal

pub returns-in_err-sites-clause-none : goal.returns-in_err-sites-clause-none
returns-in_err-sites-clause-none c =
    let loop = c.loop-sites in
    let some = some_fields loop.fields c.is_over.result c.is_over.ensures c.loop-sites-test.true in
    let none : (all : List ℕ) → FitsKey all → c.args.fields.now ≡ map canonical_decimal all → ⊥ =
    λ all fits is. no_next (λ (site : ℕ). site < 2 ^ 32) canonical_decimal (take loop.count loop.sites) loop.fields all fits.2 (sym loop.invariant.read ∙ is) some c.in_err-sites.ensures.none in
    if_none _ none
