use Rattle.std.proofs.Common.{◌≡◌, ◌<◌, ◌+◌, ◌∷◌, ◌++◌, refl, ap, ◌∙◌, length, get_or, drop, arith}
use Rattle.std.proofs.lemmas.List.{get_or_read, length-set}
use Rattle.grammar_laws.specs.Ranks.{ranks, ranks_after}
use Rattle.call_numbers.proofs.Counts.{rank_room, starts_step, numbers_step}
use Rattle.call_numbers.proofs.numbers.ranks.Goals as goal

pub overflow_add-rank : goal.overflow_add-rank
overflow_add-rank c =
    let ps = c.args.places.now in
    let i = c.loop-place.place-index in
    let p = get_or ps i 0 in
    let below = c.in_ok-starts.ensures.all i c.loop-place-test.true in
    let size = c.loop-place.invariant.2 in
    let within : p < length c.loop-place.starts.items = omega (arith, below, size) in
    let n = get_or_read c.loop-place.starts.items p c.index-rank.result.now within c.index-rank.ensures 0 in
    let room = rank_room ps c.loop-place.invariant.0 i p (get_or c.loop-place.starts.items p 0) c.loop-place-test.true refl c.loop-place.invariant.1 (c.loop-place.invariant.3 p within) in
    omega (arith, n, room)

pub loop-place-preserved : goal.loop-place-preserved
loop-place-preserved c =
    let ps = c.args.places.now in
    let i = c.loop-place.place-index in
    let p = get_or ps i 0 in
    let starts = c.loop-place.starts.items in
    let earlier = c.loop-place.invariant.0 in
    let below = c.in_ok-starts.ensures.all i c.loop-place-test.true in
    let size = c.loop-place.invariant.2 in
    let many = c.loop-place.invariant.1 in
    let within : p < length starts = omega (arith, below, size) in
    let n = c.index-rank.result.now in
    let is : n ≡ get_or starts p 0 = get_or_read starts p n within c.index-rank.ensures 0 in (
      p ∷ earlier,
      omega (arith, many),
      length-set starts p (n + 1) ∙ size,
      starts_step starts ps earlier i p n c.loop-place-test.true refl within is c.loop-place.invariant.3,
      ap (λ l. l ++ ranks_after (p ∷ earlier) (drop (i + 1) ps)) c.in_ok-push.ensures.items ∙ numbers_step c.loop-place.numbers.items ps earlier (ranks ps) i p n c.loop-place-test.true refl (is ∙ c.loop-place.invariant.3 p within) c.loop-place.invariant.4,
    )
