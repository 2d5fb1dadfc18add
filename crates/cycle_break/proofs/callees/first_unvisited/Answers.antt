use Rattle.cycle_break.proofs.Common.{◌≡◌, not, find, get_or, [], ◌∙◌, sym, ap, arith, get_or_read, is_marked}
use Rattle.std.proofs.lemmas.Option.{slice_get_past, slice_get-get_or}
use Rattle.cycle_break.proofs.SeenLemmas.{table-within}
use Rattle.cycle_break.proofs.callees.first_unvisited.Goals as goal

pub first_unmarked-place-requires-clause-below : goal.first_unmarked-place-requires-clause-below
first_unmarked-place-requires-clause-below c =
    let within = table-within c.args.tables.now c.in-Table.table (rw c.in-Table.is at c.requires.target.some) in
    let members : c.as_slice-members.result.now ≡ get_or c.args.tables.now c.in-Table.table [] =
    c.as_slice-members.ensures ∙ get_or_read c.args.tables.now c.in-Table.table c.index-tables-table.result within c.index-tables-table.is [] in
    rw members (rw c.in-Table.is at c.requires.target.all)

pub returns-then-place-members-clause-first : goal.returns-then-place-members-clause-first
returns-then-place-members-clause-first c =
    let within = table-within c.args.tables.now c.in-Table.table (rw c.in-Table.is at c.requires.target.some) in
    let members : c.as_slice-members.result.now ≡ get_or c.args.tables.now c.in-Table.table [] =
    c.as_slice-members.ensures ∙ get_or_read c.args.tables.now c.in-Table.table c.index-tables-table.result within c.index-tables-table.is [] in
    let first = c.first_unmarked-place.ensures.first in
    let here = slice_get-get_or c.as_slice-members.result.now c.first_unmarked-place.result 0 c.if-place-members.true in
    rw c.in-Table.is (sym here ∙ first ∙ ap (find (λ f. not (is_marked c.args.visited.now f))) members)

pub returns-else-place-members-clause-first : goal.returns-else-place-members-clause-first
returns-else-place-members-clause-first c =
    let within = table-within c.args.tables.now c.in-Table.table (rw c.in-Table.is at c.requires.target.some) in
    let members : c.as_slice-members.result.now ≡ get_or c.args.tables.now c.in-Table.table [] =
    c.as_slice-members.ensures ∙ get_or_read c.args.tables.now c.in-Table.table c.index-tables-table.result within c.index-tables-table.is [] in
    let first = c.first_unmarked-place.ensures.first in
    let here = slice_get_past c.as_slice-members.result.now c.first_unmarked-place.result (omega (arith, c.if-place-members.false)) in
    rw c.in-Table.is (sym here ∙ first ∙ ap (find (λ f. not (is_marked c.args.visited.now f))) members)
