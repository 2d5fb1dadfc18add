use Rattle.chunk_budget.proofs.Common.{◌≡◌, ◌+◌, length, arith, program_code}
use Rattle.chunk_budget.proofs.LeastBudgetLemmas.{highest_of, is-least}
use Rattle.chunk_budget.proofs.making.budget_over.Goals as goal

pub returns-in-Some : goal.returns-in-Some
returns-in-Some c =
    let code = program_code c.args.flat.now in
    let heights = c.in_ok-heights.heights.items in
    let each : length heights ≡ length code.functions = omega (arith, c.in_ok-heights.ensures.each) in
    let highest : c.highest_root-highest.result ≡ highest_of code heights = rw c.as_slice.ensures.value at c.highest_root-highest.ensures in
    let is : c.in-Some.per_thread ≡ highest_of code heights + 1 = omega (arith, highest, c.in-Some.ensures) in
    rw c.new.ensures (is-least code c.args.certificate.now (record { per_thread = c.in-Some.per_thread; heights = heights }) each c.in_ok-heights.ensures.covered c.in_ok-heights.ensures.least is)
