use Rattle.thread_waits.proofs.Common.{◌≡◌, ◌+◌, ◌<◌, None, length, refl, arith, slice_index, slice_index_or, get_or_read_under, is_at}
use Rattle.thread_waits.proofs.GrownLaws.{one_if}
use Rattle.thread_waits.proofs.PutLaws.{put_counted}
use Rattle.thread_waits.proofs.waits.Waits.put.Goals as goal

pub invariant_of-self : goal.invariant_of-self
invariant_of-self c =
    let there : c.args.place < length c.self.inside.places.items = rw (← c.self.view_is) at c.requires.there in
    let now : c.index-now.result.now ≡ slice_index_or c.self.inside.places.items c.args.place None =
    get_or_read_under c.self.inside.places.items c.args.place (length c.self.inside.places.items) c.index-now.result.now None c.index-now.ensures there refl in
    put_counted c.self.inside _ c.args.place c.index-now.result.now c.args.next c.self.invariant there now c.requires.in_range refl refl
    (rw (c.ready_always.ensures, c.ready_always-2.ensures) refl)
    (rw (c.at_accept.ensures, c.at_accept-2.ensures) refl)
    c.count_in.ensures.size
    (λ k h.
    let out : slice_index c.count_out.new.counts k + one_if (is_at c.channel_of.result k) ≡ slice_index c.self.inside.at_channels k = c.count_out.ensures k h in
    let into : slice_index c.count_in.new.counts k ≡ slice_index c.count_out.new.counts k + one_if (is_at c.channel_of-2.result k) = c.count_in.ensures.counted k h in
    rw (c.channel_of.ensures.is k, c.channel_of-2.ensures.is k) (omega arith))
    (rw (← c.deref.ensures.value) c.renew_sleepers.ensures)
    c.renew_takers.ensures.eight
    (λ r h. rw (← c.deref-2.ensures.value) (c.renew_takers.ensures.after r h))
