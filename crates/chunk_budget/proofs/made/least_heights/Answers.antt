use Rattle.chunk_budget.proofs.Common.{◌≡◌, ◌<◌, max, length, get_or, refl, arith, get_or_read, all-at, program_code, height_of}
use Rattle.chunk_budget.proofs.MadeLemmas.{asked_of, covered-more, covered-all, least-more}
use Rattle.chunk_budget.proofs.LeastBudgetLemmas.{max-is}
use Rattle.chunk_budget.proofs.made.least_heights.Goals as goal

pub loop-number-preserved : goal.loop-number-preserved
loop-number-preserved c =
    let code = program_code c.args.flat.now in
    let certificate = c.args.certificate.now in
    let formed = c.args.flat.now.well_formed in
    let order = c.args.order.now in
    let i = c.loop-number.number-index in
    let heights = c.loop-number.heights.items in
    let f = get_or order i 0 in
    let in_order : i < length order = omega arith in
    let below : f < length code.functions = all-at (λ n. n < length code.functions) order i 0 c.requires.functions in_order in
    let within : f < length heights = omega (arith, below, c.loop-number.invariant.each) in
    let read : c.index.result.now ≡ height_of heights f = get_or_read heights f c.index.result.now within c.index.ensures 0 in
    let asked : c.height_over-asked.result ≡ asked_of code certificate formed heights f = rw c.as_slice.ensures.value at c.height_over-asked.ensures in
    let is : c.max.result ≡ max (height_of heights f) (asked_of code certificate formed heights f) = omega (arith, read, asked, max-is c.index.result.now c.height_over-asked.result, c.max.ensures, c.if-asked-from.false, c.from.ensures) in
    record {
      each = c.loop-number.invariant.each;
      covered = covered-more code certificate formed order heights i f c.max.result in_order refl within is c.requires.order c.loop-number.invariant.covered;
      least = least-more code certificate formed heights f c.max.result within is c.loop-number.invariant.least;
    }

pub returns-clause-covered : goal.returns-clause-covered
returns-clause-covered c =
    covered-all (program_code c.args.flat.now) c.args.certificate.now c.args.flat.now.well_formed c.args.order.now c.loop-number.heights.items c.loop-number.number-index (omega arith) c.requires.all c.loop-number.invariant.covered
