use Rattle.ready_tree.proofs.Common.{◌∙◌, ◌++◌, [], ◌∷◌, List, ap, sym, arith, Entry, entries_of, place_at}
use Rattle.ready_tree.proofs.PlaceLaws.{entries_take, entries_more, more_full}
use Rattle.ready_tree.proofs.places.gathered.Goals as goal

pub keep-requires-clause-room : goal.keep-requires-clause-room
keep-requires-clause-room c = λ some.
    let room = c.loop-place.invariant.room some in
    let most = entries_take c.args.places.now c.loop-place.place-index in
    let full = c.loop-place.invariant.full in
    let live = c.requires in
    omega arith

pub loop-place-preserved : goal.loop-place-preserved
loop-place-preserved c =
    let nodes = c.keep.ensures.nodes in
    record {
      same = c.in_ok-keep.ensures.same ∙ ap (λ (l : List Entry). l ++ entries_of (place_at c.args.places.now c.loop-place.place-index ∷ [])) c.loop-place.invariant.same
          ∙ sym (entries_more c.args.places.now c.loop-place.place-index c.loop-place-test.true);
      full = more_full c.args.places.now c.loop-place.place-index _ _ c.loop-place-test.true c.loop-place.invariant.full c.in_ok-keep.ensures.full;
      above = c.keep.ensures.above;
      room = λ some. let before = c.loop-place.invariant.room (omega arith) in omega arith;
    }
