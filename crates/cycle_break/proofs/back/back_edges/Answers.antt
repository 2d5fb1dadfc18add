use Rattle.cycle_break.proofs.Common.{◌≡◌, ◌<◌, ℕ, List, length, get_or, ap, sym, ◌∙◌, subst, arith, AllByRecursion, IsStrictlyIncreasing, IsSiteOf, function_count, BreaksEveryCycle, back_edges, rank, IfOk-weaker}
use Rattle.cycle_break.proofs.RankLemmas.{later-back, back_edges-rise, back_edges-break}
use Rattle.cycle_break.proofs.back.back_edges.Goals as goal

pub returns-clause-walk : goal.returns-clause-walk
returns-clause-walk c =
    let graph = c.args.graph.now in
    let ranks = c.in_ok-ranks.ranks.items in
    let is : (f : ℕ) → f < function_count graph → get_or ranks f 0 ≡ rank c.in_ok-left.left.items f =
    rw (c.as_slice.ensures.value, c.weights.ensures.value) at c.in_ok-ranks.ensures.ranks in
    let same = later-back graph c.weights.ensures.kept c.in_ok-left.left.items ranks c.in_ok-left.ensures.order is in
    IfOk-weaker c.later_sites.result _ (λ back. back.items ≡ back_edges graph) (λ back h. h ∙ same)
    (rw (c.sites.ensures, c.tables-tables.ensures, c.as_slice-3.ensures.value) at c.later_sites.ensures)

pub returns-clause-rising : goal.returns-clause-rising
returns-clause-rising c =
    IfOk-weaker c.later_sites.result (λ back. back.items ≡ back_edges c.args.graph.now) (λ back. IsStrictlyIncreasing back.items)
    (λ back h. subst IsStrictlyIncreasing (sym h) (back_edges-rise c.args.graph.now c.weights.ensures.kept)) (returns-clause-walk c)

pub returns-clause-breaks : goal.returns-clause-breaks
returns-clause-breaks c =
    IfOk-weaker c.later_sites.result (λ back. back.items ≡ back_edges c.args.graph.now) (λ back. BreaksEveryCycle c.args.graph.now back.items)
    (λ back h. subst (BreaksEveryCycle c.args.graph.now) (sym h) (back_edges-break c.args.graph.now c.weights.ensures.kept)) (returns-clause-walk c)

pub ranks_of-requires : goal.ranks_of-requires
ranks_of-requires c = rw (c.as_slice.ensures.value, c.weights.ensures.value) c.in_ok-left.ensures.functions

pub greatest_of_tables-requires : goal.greatest_of_tables-requires
greatest_of_tables-requires c =
    let graph = c.args.graph.now in
    let each : function_count graph ≡ length c.as_slice-2.result.now =
    omega (arith, c.in_ok-ranks.ranks.ok.0, c.in_ok-ranks.ensures.each, ap length c.weights.ensures.value, ap length c.as_slice-2.ensures.value) in
    subst (λ (n : ℕ). AllByRecursion (λ (members : List ℕ). AllByRecursion (λ (f : ℕ). f < n) members) c.tables-tables.result.now) each
    (rw c.tables-tables.ensures c.weights.ensures.kept.tables)

pub later_sites-requires-clause-sites : goal.later_sites-requires-clause-sites
later_sites-requires-clause-sites c =
    let graph = c.args.graph.now in
    let each : function_count graph ≡ length c.as_slice-3.result.now =
    omega (arith, c.in_ok-ranks.ranks.ok.0, c.in_ok-ranks.ensures.each, ap length c.weights.ensures.value, ap length c.as_slice-3.ensures.value) in
    rw (c.sites.ensures, c.tables-tables.ensures) (subst (λ (n : ℕ). AllByRecursion (IsSiteOf n graph.tables) graph.sites) each c.weights.ensures.kept.sites)

pub later_sites-requires-clause-tables : goal.later_sites-requires-clause-tables
later_sites-requires-clause-tables c =
    rw (c.as_slice-4.ensures.value, c.as_slice-3.ensures.value) (rw c.as_slice-2.ensures.value at c.in_ok-of_tables.ensures)
