use Rattle.std.proofs.Common.{◌≡◌, ◌≢◌, ◌<◌, ◌+◌, refl, sym, ◌∙◌, length, get_or, arith, below_more}
use Rattle.std.proofs.Math.ListN.{set}
use Rattle.std.proofs.lemmas.List.{get_or_read, get_or-set_other, get_or-set_same, length-set}
use Rattle.grammar_laws.proofs.RankLaws.{lesser_few}
use Rattle.grammar_laws.specs.Ranks.{lesser}
use Rattle.call_numbers.proofs.Counts.{lesser_next, lesser_none, count_room, all_counted}
use Rattle.call_numbers.proofs.numbers.starts.Goals as goal

pub overflow_add-index_mut : goal.overflow_add-index_mut
overflow_add-index_mut c =
    let ps = c.args.places.now in
    let i = c.loop-place.place-index in
    let p = get_or ps i 0 in
    let below = c.end_of.ensures i c.loop-place-test.true in
    let within : p < length c.loop-place.counts.items = omega (arith, below, c.in_ok-counts.ensures.len) in
    let n = get_or_read c.loop-place.counts.items p c.index_mut.result.now within c.index_mut.ensures.value 0 in
    let room = count_room ps i p (get_or c.loop-place.counts.items p 0) c.loop-place-test.true refl (c.loop-place.invariant.counted p within) in
    omega (arith, n, room)

pub loop-at-init : goal.loop-at-init
loop-at-init c = record {
  size = refl;
  sum = sym (lesser_none c.args.places.now);
  below = λ k h. absurd (omega (arith, h));
  above = λ k h few. all_counted c.args.places.now c.loop-place.place-index k (get_or c.loop-place.counts.items k 0) c.loop-place-test.false (c.loop-place.invariant.counted k few);
}

pub overflow_add-sum : goal.overflow_add-sum
overflow_add-sum c =
    let ps = c.args.places.now in
    let at = c.loop-at.at in
    let within : at < length c.loop-at.counts.items = omega arith in
    let here = get_or_read c.loop-at.counts.items at c.index-here.result.now within c.index-here.ensures 0 in
    let is = c.loop-at.invariant.above at (omega arith) within in
    let next = lesser_next at ps in
    let few = lesser_few (at + 1) ps in
    omega (arith, here, is, next, few)

pub loop-at-preserved : goal.loop-at-preserved
loop-at-preserved c =
    let ps = c.args.places.now in
    let at = c.loop-at.at in
    let counts = c.loop-at.counts.items in
    let within : at < length counts = omega arith in
    let here = get_or_read counts at c.index-here.result.now within c.index-here.ensures 0 in
    let is = c.loop-at.invariant.above at (omega arith) within in
    let next = lesser_next at ps in
    let long = length-set counts at c.loop-at.sum in
    record {
      size = long ∙ c.loop-at.invariant.size;
      sum = omega (arith, here, is, next);
      below = below_more (λ k. get_or (set counts at c.loop-at.sum) k 0 ≡ lesser k ps) at
          (λ k h. let other : k ≢ at = omega (arith, h) in get_or-set_other counts at k c.loop-at.sum 0 other ∙ c.loop-at.invariant.below k h)
          (get_or-set_same counts at c.loop-at.sum 0 within ∙ c.loop-at.invariant.sum);
      above = λ k h few. let other : k ≢ at = omega (arith, h) in get_or-set_other counts at k c.loop-at.sum 0 other ∙ c.loop-at.invariant.above k (omega (arith, h)) (omega (arith, few, long));
    }
