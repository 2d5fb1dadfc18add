use Rattle.source_items.proofs.Common.{List, [], ◌∷◌, ◌≡◌, refl, subst, MatchOption, AreItems, IsItem, item_of, to_do}
use Rattle.c_mean.specs.ToDo as todo
use Rattle.source_items.proofs.Stacks.{taken-item, taken-mark, kept-pop}
use Rattle.source_items.proofs.items.take_item.Goals as goal

pub returns-in-Enter : goal.returns-in-Enter
returns-in-Enter c = λ context all.
    let old = c.args.items.now.items in
    let rest = c.pop.new.self.items in
    let new = c.take_entered.new.items.items in
    subst (λ (xs : List todo.Item). MatchOption c.take_entered.result (xs ≡ []) (λ item. (xs ≡ item_of item ∷ to_do new) × IsItem context item × AreItems context new))
    (taken-mark old rest c.in-Some.item c.in-Some.ensures.items c.in-Enter.is)
    (c.take_entered.ensures context (kept-pop context old rest c.in-Some.item c.in-Some.ensures.items all))

pub returns-in-Whole : goal.returns-in-Whole
returns-in-Whole c = λ context all. taken-item context c.args.items.now.items c.args.items.now.items c.pop.new.self.items c.in-Some.item c.in-Some.ensures.items (rw c.in-Whole.is tt) refl all

pub returns-in-Start : goal.returns-in-Start
returns-in-Start c = λ context all. taken-item context c.args.items.now.items c.args.items.now.items c.pop.new.self.items c.in-Some.item c.in-Some.ensures.items (rw c.in-Start.is tt) refl all

pub returns-in-Test : goal.returns-in-Test
returns-in-Test c = λ context all. taken-item context c.args.items.now.items c.args.items.now.items c.pop.new.self.items c.in-Some.item c.in-Some.ensures.items (rw c.in-Test.is tt) refl all

pub returns-in-Step : goal.returns-in-Step
returns-in-Step c = λ context all. taken-item context c.args.items.now.items c.args.items.now.items c.pop.new.self.items c.in-Some.item c.in-Some.ensures.items (rw c.in-Step.is tt) refl all

pub returns-in-Back : goal.returns-in-Back
returns-in-Back c = λ context all. taken-item context c.args.items.now.items c.args.items.now.items c.pop.new.self.items c.in-Some.item c.in-Some.ensures.items (rw c.in-Back.is tt) refl all
