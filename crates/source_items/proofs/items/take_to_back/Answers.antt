use Rattle.source_items.proofs.Common.{◌≡◌, ℕ, suc, ◌-◌, [], ◌++◌, List, take, subst, ap, ◌∙◌, arith, IsPassing, Item}
use Rattle.source_items.proofs.Stacks.{passing-plain, passing-enter, passing-back, taken-back, passed-all}
use Rattle.source_items.proofs.items.take_to_back.Goals as goal

pub loop-item-preserved-in-Enter : goal.loop-item-preserved-in-Enter
loop-item-preserved-in-Enter c = record {
  count = omega (arith, c.loop-item.invariant.count, c.in-Some.ensures.cases);
  passing = λ context all. passing-enter context c.args.items.now.items c.loop-item.items.items c.pop.new.self.items c.in-Some.item c.loop-item.begun c.in-Some.ensures.items c.in-Enter.is (c.loop-item.invariant.passing context all);
}

pub returns-then-begun-eq0 : goal.returns-then-begun-eq0
returns-then-begun-eq0 c = λ context all.
    taken-back context c.args.items.now.items c.loop-item.items.items c.pop.new.self.items c.in-Some.item c.in-Some.ensures.items c.in-Back.is
    (subst (λ (n : ℕ). IsPassing context c.args.items.now.items c.loop-item.items.items n) c.if-begun-eq0.true (c.loop-item.invariant.passing context all))

pub loop-item-preserved-in-Back : goal.loop-item-preserved-in-Back
loop-item-preserved-in-Back c =
    let one : c.loop-item.begun ≡ suc (c.loop-item.begun - 1) = omega (arith, c.if-begun-eq0.false) in
    record {
      count = omega (arith, c.loop-item.invariant.count, c.in-Some.ensures.cases);
      passing = λ context all. passing-back context c.args.items.now.items c.loop-item.items.items c.pop.new.self.items c.in-Some.item (c.loop-item.begun - 1) c.loop-item.begun one c.in-Some.ensures.items c.in-Back.is (c.loop-item.invariant.passing context all);
    }

pub loop-item-preserved-in-Whole : goal.loop-item-preserved-in-Whole
loop-item-preserved-in-Whole c = record {
  count = omega (arith, c.loop-item.invariant.count, c.in-Some.ensures.cases);
  passing = λ context all. passing-plain context c.args.items.now.items c.loop-item.items.items c.pop.new.self.items c.in-Some.item c.loop-item.begun c.in-Some.ensures.items (rw c.in-Whole.is tt) (c.loop-item.invariant.passing context all);
}

pub loop-item-preserved-in-Start : goal.loop-item-preserved-in-Start
loop-item-preserved-in-Start c = record {
  count = omega (arith, c.loop-item.invariant.count, c.in-Some.ensures.cases);
  passing = λ context all. passing-plain context c.args.items.now.items c.loop-item.items.items c.pop.new.self.items c.in-Some.item c.loop-item.begun c.in-Some.ensures.items (rw c.in-Start.is tt) (c.loop-item.invariant.passing context all);
}

pub loop-item-preserved-in-Test : goal.loop-item-preserved-in-Test
loop-item-preserved-in-Test c = record {
  count = omega (arith, c.loop-item.invariant.count, c.in-Some.ensures.cases);
  passing = λ context all. passing-plain context c.args.items.now.items c.loop-item.items.items c.pop.new.self.items c.in-Some.item c.loop-item.begun c.in-Some.ensures.items (rw c.in-Test.is tt) (c.loop-item.invariant.passing context all);
}

pub loop-item-preserved : goal.loop-item-preserved
loop-item-preserved c = record {
  count = omega (arith, c.loop-item.invariant.count, c.in-Some.ensures.cases);
  passing = λ context all. passing-plain context c.args.items.now.items c.loop-item.items.items c.pop.new.self.items c.in-Some.item c.loop-item.begun c.in-Some.ensures.items (rw c.in-Step.is tt) (c.loop-item.invariant.passing context all);
}

pub returns : goal.returns
returns c = λ context all.
    let cases = rw c.in_default.is at c.pop.ensures.cases in
    let new : c.pop.new.self.items ≡ [] = c.pop.ensures.rest ∙ ap (λ (n : ℕ). take (n - 1) c.loop-item.items.items) cases.0 in
    let old : c.loop-item.items.items ≡ [] = (rw c.in_default.is at c.pop.ensures.items) ∙ ap (λ (xs : List Item). xs ++ []) new in
    let passed = passed-all context c.args.items.now.items c.loop-item.items.items c.loop-item.begun old (c.loop-item.invariant.passing context all) in
    (passed.0, passed.1, new)
