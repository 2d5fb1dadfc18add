use Rattle.call_cycles.proofs.Common.{◌≡◌, ◌<◌, List, ℕ, [], length, get_or, ◌∙◌, arith, get_or_read, AllByRecursion, all-at, All-weaker}
use Rattle.call_cycles.proofs.ReversedLemmas.{below-nodes}
use Rattle.call_cycles.proofs.reversed.add_tables.Goals as goal

pub add_each-requires-clause-functions : goal.add_each-requires-clause-functions
add_each-requires-clause-functions c =
    let tables = c.args.tables.now in
    let i = c.loop-table.table in
    let within : i < length tables = omega arith in
    let members : c.as_slice.result.now ≡ get_or tables i [] = c.as_slice.ensures ∙ get_or_read tables i c.index-tables-table.result within c.index-tables-table.is [] in
    rw members
    (All-weaker (λ (f : ℕ). f < c.args.functions) _ (λ f lt. below-nodes f _ _ lt) (get_or tables i [])
    (all-at (λ (fs : List ℕ). AllByRecursion (λ (f : ℕ). f < c.args.functions) fs) tables i [] c.requires.tables within))
