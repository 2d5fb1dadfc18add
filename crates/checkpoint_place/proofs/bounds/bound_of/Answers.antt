use Rattle.checkpoint_place.proofs.Common.{◌≡◌, ◌<◌, ◌+◌, length, get_or, arith, get_or_read, callees, is_call_of, LeadsTo, no_site, AreAmong}
use Rattle.std.proofs.lemmas.Grind.{common_steps}
use Rattle.checkpoint_place.proofs.KnownLemmas.{filtered-at}
use Rattle.checkpoint_place.proofs.bounds.bound_of.Goals as goal

pub loop-place-preserved : goal.loop-place-preserved
loop-place-preserved c =
    let sites = c.args.index.now.sites.now in
    let without = c.args.index.now.without.now in
    let place = c.loop-place.place in
    let was = c.loop-place.invariant in
    let in_next : place < length c.args.index.now.next.items = omega (arith, c.loop-place-test.true, c.requires.index.each_site) in
    let next = c.index-place-in-loop-place.result.now in
    let read : next ≡ get_or c.args.index.now.next.items place 0 = get_or_read c.args.index.now.next.items place next in_next c.index-place-in-loop-place.ensures 0 in
    let mine = was.mine no_site c.loop-place-test.true in
    let leads : LeadsTo sites without c.args.function (place + 1) next = rw read (c.requires.index.next place no_site c.args.function c.loop-place-test.true mine) in
    record {
      room = grind (arith, common_steps);
      within = leads.within;
      mine = leads.site;
      most = grind (arith, common_steps);
      known = c.callee_bound-below.ensures.known;
      among = λ others before calls.
          c.callee_bound-below.ensures.among others (was.among others before calls)
          (filtered-at (λ s. AreAmong others (callees c.args.tables.now s.target)) (is_call_of without c.args.function) sites place no_site calls c.loop-place-test.true mine);
    }
