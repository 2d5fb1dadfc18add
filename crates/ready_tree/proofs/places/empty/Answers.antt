use Rattle.std.proofs.Common.{◌∙◌, sym, arith}
use Rattle.ready_tree.proofs.PlaceLaws.{emptied_none, emptied_some}
use Rattle.ready_tree.proofs.places.empty.Goals as goal
use Rattle.ready_tree.proofs.places.empty.Goals.{in-None, in-Some}

pub overflow_sub-left : goal.overflow_sub-left
overflow_sub-left c =
    let e = emptied_some c.args.places.now c.args.place c.in-Some.field-0 c.in-Some.is in
    let live = c.requires.live in
    omega arith

pub returns-clause-live : goal.returns-clause-live
returns-clause-live c = elim c.match-places-place.branch [
  | in-None w ↦ w.left-is ∙ c.requires.live ∙ sym (emptied_none c.args.places.now c.args.place w.in-None.is)
  | in-Some w ↦
      (let e = emptied_some c.args.places.now c.args.place w.in-Some.field-0 w.in-Some.is in
      let left = w.left-is in
      let live = c.requires.live in
      omega arith)
]
