use Rattle.schedule_reading.proofs.Common.{rules, ap, Core, Kept}
use Rattle.schedule_reading.proofs.Recording.{closed_is, in_range}
use Rattle.schedule_reading.proofs.reading.Reading.close.Goals as goal

pub note-requires-clause-range : goal.note-requires-clause-range
note-requires-clause-range g c =
    let uses = c.uses-after.ensures in
    in_range _ c.args.under.now c.args.cost c.args.free (rw (← c.self.view_is) at c.requires) c.clock.result c.advance.new.self c.advance.ensures
    c.uses-after.result uses.eight uses.uses uses.within c.args.node c.changes.result (search rules) (search rules) c.changes.ensures

pub returns : goal.returns
returns g c =
    let i = c.self.inside in
    let with_core : Core → Kept = λ x. record { core = x; reader = i.reader; next = i.next; under = i.under; end = i.end } in
    let uses = c.uses-after.ensures in
    rw (← c.self.view_is) (record {
      after = ap with_core (closed_is _ c.args.under.now c.args.cost c.args.free (rw (← c.self.view_is) at c.requires) c.clock.result c.advance.new.self
          c.advance.ensures c.uses-after.result uses.eight uses.uses uses.within c.args.node c.changes.result (search rules) (search rules) c.changes.ensures
          c.clock.ensures c.note.new.self c.in_ok-note.ensures.ok);
      counted = c.in_ok-note.ensures.counted;
    })
