use Rattle.source_items.proofs.Stacks.{taken-item, taken-mark, kept-pop}
use Rattle.source_items.proofs.items.take_entered.Goals as goal

pub loop-item-preserved : goal.loop-item-preserved
loop-item-preserved c = record {
  entered = rw (← c.loop-item.invariant.entered) (taken-mark c.loop-item.items.items c.pop.new.self.items c.in-Some.item c.in-Some.ensures.items c.in-Enter.is);
  fits = λ context all. kept-pop context c.loop-item.items.items c.pop.new.self.items c.in-Some.item c.in-Some.ensures.items (c.loop-item.invariant.fits context all);
}

pub returns-in-Whole : goal.returns-in-Whole
returns-in-Whole c = λ context all. taken-item context c.args.items.now.items c.loop-item.items.items c.pop.new.self.items c.in-Some.item c.in-Some.ensures.items (rw c.in-Whole.is tt) c.loop-item.invariant.entered (c.loop-item.invariant.fits context all)

pub returns-in-Start : goal.returns-in-Start
returns-in-Start c = λ context all. taken-item context c.args.items.now.items c.loop-item.items.items c.pop.new.self.items c.in-Some.item c.in-Some.ensures.items (rw c.in-Start.is tt) c.loop-item.invariant.entered (c.loop-item.invariant.fits context all)

pub returns-in-Test : goal.returns-in-Test
returns-in-Test c = λ context all. taken-item context c.args.items.now.items c.loop-item.items.items c.pop.new.self.items c.in-Some.item c.in-Some.ensures.items (rw c.in-Test.is tt) c.loop-item.invariant.entered (c.loop-item.invariant.fits context all)

pub returns-in-Step : goal.returns-in-Step
returns-in-Step c = λ context all. taken-item context c.args.items.now.items c.loop-item.items.items c.pop.new.self.items c.in-Some.item c.in-Some.ensures.items (rw c.in-Step.is tt) c.loop-item.invariant.entered (c.loop-item.invariant.fits context all)

pub returns-in-Back : goal.returns-in-Back
returns-in-Back c = λ context all. taken-item context c.args.items.now.items c.loop-item.items.items c.pop.new.self.items c.in-Some.item c.in-Some.ensures.items (rw c.in-Back.is tt) c.loop-item.invariant.entered (c.loop-item.invariant.fits context all)
