use Rattle.cycle_break.proofs.Common.{◌≡◌, ◌<◌, ◌+◌, ◌-◌, [], ◌∷◌, length, reverse, sym, ap, ◌∙◌, subst, arith, function_count, numbers_from, has, IsBottomUp}
use Rattle.cycle_break.proofs.BottomUpLemmas.{whole_walk-up}
use Rattle.cycle_break.proofs.WalkLemmas.{whole_walk-is}
use Rattle.cycle_break.proofs.OrderLemmas.{numbers-more, left_after, left_after-more, all-reversed}
use Rattle.cycle_break.proofs.order.leaving_order.Goals as goal

pub loop-function-init : goal.loop-function-init
loop-function-init c =
    let graph = c.args.graph.now in
    let without = c.args.without.now in
    let count : length c.as_mut_slice-visited.result.now ≡ function_count graph =
    ap length c.as_mut_slice-visited.ensures.value ∙ omega (arith, c.in_ok-marks.ensures.len, ap length c.weights-functions.ensures.value) in
    let marked = rw count at c.in_ok-visit.ensures.marks in
    let order : reverse c.visit.new.left.items ≡ left_after graph without (graph.main ∷ []) [] =
    rw (c.new-left.ensures.items, c.tables-tables.ensures, c.in_ok-index.ensures.sites, c.sites.ensures, c.in_ok-index.ensures.without, count, c.main.ensures) at c.in_ok-visit.ensures.order in
    let whole : function_count graph - 0 ≡ function_count graph = omega arith in
    record {
      marked = marked;
      goes = ap (λ n. left_after graph without (numbers_from 0 n) (reverse c.visit.new.left.items)) whole ∙ left_after-more graph without graph.main (numbers_from 0 (function_count graph)) [] (reverse c.visit.new.left.items) order;
      seen = rw c.tables-tables.ensures at c.in_ok-visit.ensures.seen;
    }

pub loop-function-preserved : goal.loop-function-preserved
loop-function-preserved c =
    let graph = c.args.graph.now in
    let without = c.args.without.now in
    let f = c.loop-function.function in
    let count : length c.loop-function.visited ≡ function_count graph = c.loop-function.invariant.marked.each in
    let marked = rw count at c.in_ok-visit-2.ensures.marks in
    let order : reverse c.visit-in-loop-function.new.left.items ≡ left_after graph without (f ∷ []) (reverse c.loop-function.left.items) =
    rw (c.tables-tables.ensures, c.in_ok-index.ensures.sites, c.sites.ensures, c.in_ok-index.ensures.without, count) at c.in_ok-visit-2.ensures.order in
    let below : f < function_count graph = omega (arith, c.loop-function-test.true, ap length c.weights-functions.ensures.value) in
    record {
      marked = marked;
      goes = left_after-more graph without f (numbers_from (f + 1) (function_count graph - (f + 1))) (reverse c.loop-function.left.items) (reverse c.visit-in-loop-function.new.left.items) order
          ∙ ap (λ fs. left_after graph without fs (reverse c.loop-function.left.items)) (sym (numbers-more f (function_count graph) below))
          ∙ c.loop-function.invariant.goes;
      seen = rw c.tables-tables.ensures at c.in_ok-visit-2.ensures.seen;
    }

pub returns-clause-functions : goal.returns-clause-functions
returns-clause-functions c = all-reversed (λ f. f < function_count c.args.graph.now) c.loop-function.left.items c.loop-function.invariant.marked.below

pub returns-clause-order : goal.returns-clause-order
returns-clause-order c =
    let over : 0 ≡ function_count c.args.graph.now - c.loop-function.function = omega (arith, c.loop-function-test.false, ap length c.weights-functions.ensures.value) in
    ap (λ n. left_after c.args.graph.now c.args.without.now (numbers_from c.loop-function.function n) (reverse c.loop-function.left.items)) over ∙ c.loop-function.invariant.goes

pub returns-clause-all : goal.returns-clause-all
returns-clause-all c = λ f below. ap (has f) (returns-clause-order c) ∙ (whole_walk-is c.args.graph.now c.args.without.now c.weights-functions.ensures.kept).all f below

pub returns-clause-bottom_up : goal.returns-clause-bottom_up
returns-clause-bottom_up c = λ breaks.
    subst (IsBottomUp c.args.graph.now c.args.without.now) (sym (returns-clause-order c)) (whole_walk-up c.args.graph.now c.args.without.now c.weights-functions.ensures.kept breaks)
