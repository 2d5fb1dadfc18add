use Rattle.call_cycles.proofs.Common.{◌≡◌, ◌<◌, ℕ, true, [], length, reverse, subst, arith, AllByRecursion, function_count, has, BreaksEveryCycle, IsBottomUp, program_code, IsFromBottom, StandsBefore, IfOk-weaker}
use Rattle.call_cycles.proofs.OrderLemmas.{breaks, from-bottom, stands-all}
use Rattle.call_cycles.proofs.orders.order_of.Goals as goal

pub returns-clause-order : goal.returns-clause-order
returns-clause-order c =
    let code = program_code c.args.flat.now in
    let graph = c.args.graph.now in
    IfOk-weaker c.leaving_order.result (λ order. BreaksEveryCycle graph [] → IsBottomUp graph [] (reverse order.items)) (λ order. IsFromBottom code order.items)
    (λ order up. from-bottom code graph c.requires.graph order.items (up (breaks code graph c.requires.graph c.requires.acyclic))) c.leaving_order.ensures.bottom_up

pub returns-clause-all : goal.returns-clause-all
returns-clause-all c =
    let code = program_code c.args.flat.now in
    let graph = c.args.graph.now in
    IfOk-weaker c.leaving_order.result (λ order. (f : ℕ) → f < function_count graph → has f (reverse order.items) ≡ true) (λ order. (f : ℕ) → f < length code.functions → StandsBefore order.items (length order.items) f)
    (λ order all f lt. stands-all code graph c.requires.graph order.items f (all f (let count = c.requires.graph.count in omega (arith, count, lt)))) c.leaving_order.ensures.all

pub returns-clause-functions : goal.returns-clause-functions
returns-clause-functions c =
    let code = program_code c.args.flat.now in
    IfOk-weaker c.leaving_order.result (λ order. AllByRecursion (λ f. f < function_count c.args.graph.now) order.items) (λ order. AllByRecursion (λ f. f < length code.functions) order.items)
    (λ order all. subst (λ (n : ℕ). AllByRecursion (λ f. f < n) order.items) c.requires.graph.count all) c.leaving_order.ensures.functions
