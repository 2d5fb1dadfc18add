use Rattle.schedule_reading.proofs.Common.{◌∙◌, ap, sym, Kept}
use Rattle.schedule_reading.specs.declared.points.Point.TheVariants as point
use Rattle.schedule_reading.proofs.Alone.{between_of}
use Rattle.schedule_reading.proofs.PointLines.{run_not}
use Rattle.schedule_reading.proofs.Delivered.{as_point, choice_elsewhen, choice_ruled, same_end, to_choice}
use Rattle.schedule_reading.proofs.Proceeding.{yet_not}
use Rattle.schedule_reading.proofs.reading.Reading.choice.Goals as goal

pub returns-in_default : goal.returns-in_default
returns-in_default g c = record {
  rules = λ s state stands t.
      let k = c.args.self.now in
      let from = between_of s state k stands c.requires.between c.requires.before_end in
      run_not s state k c.point.new.self (g.S.Source.left c.args.trace.now) (g.S.Source.left c.point.new.trace) c.args.number c.args.node c.in_ok-point.field-0 c.args.clock from.0.between c.in_default.not-Choice (c.in_ok-point.ensures.is s state from) t;
  counts = c.in_ok-point.ensures.counts;
}

pub returns-then-clock-clause-rules : goal.returns-then-clock-clause-rules
returns-then-clock-clause-rules g c = λ s state stands t.
    let k = c.args.self.now in
    let told = g.S.Source.left c.args.trace.now in
    let told' = g.S.Source.left c.point.new.trace in
    let from = between_of s state k stands c.requires.between c.requires.before_end in
    let comes = as_point s state k told c.point.new.self told' c.in_ok-point.field-0 point.Choice c.in-Choice.is (c.in_ok-point.ensures.is s state from) in
    choice_elsewhen s state k c.point.new.self told told' c.args.number c.args.node comes c.args.clock (λ e. c.if-clock.true (e ∙ sym (c.clock.ensures ∙ ap (λ (x : Kept). x.core.threads.waits.clock) c.self.view_is))) t

pub returns-clause-rules : goal.returns-clause-rules
returns-clause-rules g c = λ s state stands.
    let k = c.args.self.now in
    let told = g.S.Source.left c.args.trace.now in
    let told' = g.S.Source.left c.point.new.trace in
    let from = between_of s state k stands c.requires.between c.requires.before_end in
    let comes = as_point s state k told c.point.new.self told' c.in_ok-point.field-0 point.Choice c.in-Choice.is (c.in_ok-point.ensures.is s state from) in
    choice_ruled s state k c.point.new.self told told' c.args.number c.args.node comes (yet_not s state k.end stands.end_is c.requires.before_end) (same_end k c.point.new.self c.in_ok-point.ensures.keeps c.requires.before_end) c.args.clock
    (c.if-clock.false ∙ c.clock.ensures ∙ ap (λ (x : Kept). x.core.threads.waits.clock) c.self.view_is) c.take.new.self c.take.ensures.rest c.take.result
    (c.take.ensures.rules s state (to_choice s state k c.point.new.self told told' c.args.number c.args.node comes))
