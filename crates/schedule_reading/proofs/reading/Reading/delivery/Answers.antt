use Rattle.schedule_reading.proofs.Common.{◌∙◌, not, ap, is_dropped, delivery_of, after_delivery, Kept}
use Rattle.schedule_reading.specs.declared.points.Point.TheVariants as point
use Rattle.schedule_reading.specs.declared.reading.Next.TheVariants as next
use Rattle.schedule_reading.proofs.Alone.{between_of, none_under}
use Rattle.schedule_reading.proofs.PointLines.{coming_not}
use Rattle.schedule_reading.proofs.Delivered.{agrees_not, as_point, differs, line_ruled, same_end, same_under}
use Rattle.schedule_reading.proofs.Proceeding.{yet_not}
use Rattle.schedule_reading.proofs.reading.Reading.delivery.Goals as goal

pub returns-in_default : goal.returns-in_default
returns-in_default g c = record {
  rules = λ s state stands t.
      let k = c.args.self.now in
      let from = between_of s state k stands c.requires.between c.requires.before_end in
      coming_not s state k c.point.new.self (g.S.Source.left c.args.trace.now) (g.S.Source.left c.point.new.trace) c.in_ok-event.field-0 c.args.clock c.args.item c.args.drops from.0.between c.in_default.not-Comes (c.in_ok-event.ensures.is s state from) t;
  counts = c.in_ok-event.ensures.counts;
}

pub returns-else-not-is_item_of-clause-rules : goal.returns-else-not-is_item_of-clause-rules
returns-else-not-is_item_of-clause-rules g c = λ s state stands.
    let k = c.args.self.now in
    let told = g.S.Source.left c.args.trace.now in
    let told' = g.S.Source.left c.point.new.trace in
    let from = between_of s state k stands c.requires.between c.requires.before_end in
    let none = none_under s state k stands c.requires.between c.requires.before_end in
    let comes = as_point s state k told c.point.new.self told' c.in_ok-event.field-0 (point.Comes c.in-Comes.event) c.in-Comes.is (c.in_ok-event.ensures.is s state from) in
    let queued = c.deliver-queued.ensures.queued ∙ ap (λ (x : Kept). not (is_dropped x.core.threads.exchange.backlog x.core.threads.exchange.exchange (delivery_of c.in-Comes.event.kind))) c.self.view_is in
    line_ruled s state k c.point.new.self told told' c.in-Comes.event comes c.args.clock c.args.item c.args.drops _ c.deliver-queued.new.self (yet_not s state k.end stands.end_is c.requires.before_end) (same_under k c.point.new.self c.in_ok-event.ensures.keeps none)
    (same_end k c.point.new.self c.in_ok-event.ensures.keeps c.requires.before_end) (c.if-clock.false ∙ c.clock.ensures ∙ ap (λ (x : Kept). x.core.threads.waits.clock) c.self.view_is) (c.is_item_of.ensures.0 c.if-not-is_item_of.false)
    (c.deliver-queued.ensures.after ∙ ap (λ (x : Kept). record x.core.threads { exchange = after_delivery x.core.threads.exchange (delivery_of c.in-Comes.event.kind) }) c.self.view_is)
    (ap (λ (x : Kept). record x { core = record x.core { threads = c.deliver-queued.new.self }; next = next.Unread }) c.self.view_is) _ (differs c.deliver-queued.result c.args.drops _ queued) (agrees_not c.deliver-queued.result c.args.drops _ queued) c.ruling_of.result c.ruling_of.ensures
