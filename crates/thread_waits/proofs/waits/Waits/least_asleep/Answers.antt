use Rattle.thread_waits.proofs.Common.{◌≡◌, ◌<◌, None, Option, length, ap, ◌∙◌, arith, slice_index_or, number_or, silent_wake, IsWaitInRangeIf, Wait}
use Rattle.thread_waits.proofs.GrownLaws.{holds_at}
use Rattle.thread_waits.proofs.SleepLaws.{silent_small, none_first, one_more, first_all}
use Rattle.thread_waits.proofs.waits.Waits.least_asleep.Goals as goal

pub loop-place-init : goal.loop-place-init
loop-place-init c = none_first (silent_wake c.args.exchange.now.exchange c.self.inside.clock) c.self.inside.places.items

pub sleep_number-requires : goal.sleep_number-requires
sleep_number-requires c =
    rw (c.at-wait.ensures, ← c.self.view_is) (holds_at IsWaitInRangeIf tt c.self.inside.places.items c.self.invariant.in_range c.loop-place.place)

pub loop-place-preserved : goal.loop-place-preserved
loop-place-preserved c =
    let there : c.loop-place.place < length c.self.inside.places.items = omega arith in
    let wait : c.at-wait.result ≡ slice_index_or c.self.inside.places.items c.loop-place.place None = rw (← c.self.view_is) at c.at-wait.ensures in
    let is : c.sleep_number.result ≡ number_or (silent_wake c.args.exchange.now.exchange c.self.inside.clock (slice_index_or c.self.inside.places.items c.loop-place.place None)) =
    c.sleep_number.ensures ∙ ap (λ (w : Option Wait). number_or (silent_wake c.args.exchange.now.exchange c.self.inside.clock w)) wait in
    rw c.min-least.ensures
    (one_more (silent_wake c.args.exchange.now.exchange c.self.inside.clock) c.self.inside.places.items c.loop-place.place c.loop-place.least c.sleep_number.result there c.loop-place.invariant
    (λ n e. silent_small c.args.exchange.now.exchange c.self.inside.clock n (slice_index_or c.self.inside.places.items c.loop-place.place None)
    (holds_at IsWaitInRangeIf tt c.self.inside.places.items c.self.invariant.in_range c.loop-place.place) e) is)

pub returns : goal.returns
returns c =
    rw (← c.self.view_is)
    (first_all (silent_wake c.args.exchange.now.exchange c.self.inside.clock) c.self.inside.places.items c.loop-place.place c.loop-place.least (omega arith) c.loop-place.invariant)
