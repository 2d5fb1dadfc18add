use Rattle.std.proofs.Common.{◌≡◌, None}
use Rattle.schedule_reading.proofs.Picked.{begins_from, chosen_now, few_choices, free_most, known_needs, none_above, not_none, other_choice}
use Rattle.schedule_reading.proofs.reading.Reading.take.Goals as goal
use Rattle.schedule_reading.proofs.reading.Reading.take.Goals.{then-choice-number-via-then-choice-number, then-choice-number-via-else-choice-number+then-choice-node}

pub uses-before-requires : goal.uses-before-requires
uses-before-requires g c = free_most c.requires.0 c.requires.1 c.args.self.now.core c.requires.2

pub observe-requires : goal.observe-requires
observe-requires g c = none_above c.requires.0 c.requires.1 _ c.args.self.now c.self.view_is c.requires.2 c.uses-before.result c.uses-before.ensures.within

pub take_choice-taken-requires-clause-known : goal.take_choice-taken-requires-clause-known
take_choice-taken-requires-clause-known g c = known_needs c.requires.0 c.requires.1 _ c.args.self.now c.self.view_is c.requires.2

pub take_choice-taken-requires-clause-room : goal.take_choice-taken-requires-clause-room
take_choice-taken-requires-clause-room g c = few_choices c.requires.0 c.requires.1 _ c.args.self.now c.self.view_is c.requires.2

pub unreachable-requires : goal.unreachable-requires
unreachable-requires g c =
    not_none c.requires.0 c.requires.1 _ c.args.self.now c.self.view_is c.requires.2 c.uses-before.result c.uses-before.ensures.within c.uses-before.ensures.eight c.uses-before.ensures.uses c.observe.new.self c.observe.ensures.seen c.take_choice-taken.result c.in_default.is
    c.take_choice-taken.ensures.lawful

pub begin-requires-clause-may : goal.begin-requires-clause-may
begin-requires-clause-may g c =
    begins_from c.requires.0 c.requires.1 _ c.args.self.now c.self.view_is c.requires.2 c.uses-before.result c.uses-before.ensures.within c.uses-before.ensures.eight c.uses-before.ensures.uses c.observe.new.self c.observe.ensures.seen c.take_choice-taken.result c.in-Some.choice
    c.in-Some.is c.take_choice-taken.ensures.lawful

pub returns-then-choice-number-clause-rules : goal.returns-then-choice-number-clause-rules
returns-then-choice-number-clause-rules g c = λ s state chooses.
    other_choice s state _ c.args.self.now c.self.view_is chooses c.uses-before.result c.uses-before.ensures.within c.uses-before.ensures.eight c.uses-before.ensures.uses c.observe.new.self c.observe.ensures.seen c.take_choice-taken.result c.in-Some.choice c.in-Some.is
    c.take_choice-taken.ensures.lawful c.args.number c.args.node (λ p q. elim c.then-choice-number.branch [
      | then-choice-number-via-then-choice-number w ↦ w.if-choice-number.true p
      | then-choice-number-via-else-choice-number+then-choice-node w ↦ w.if-choice-node.true q
    ]) c.args.self.now.core None

pub returns-clause-rules : goal.returns-clause-rules
returns-clause-rules g c = λ s state chooses.
    let p : c.in-Some.choice.thread.number ≡ c.args.number = cc in
    let q : c.in-Some.choice.node ≡ c.args.node = cc in
    chosen_now s state _ c.args.self.now c.self.view_is chooses c.uses-before.result c.uses-before.ensures.within c.uses-before.ensures.eight c.uses-before.ensures.uses c.observe.new.self c.observe.ensures.seen c.take_choice-taken.result c.in-Some.choice c.in-Some.is
    c.take_choice-taken.ensures.lawful c.begin.new.self c.begin.new.globals.items c.in_ok-thread.thread c.in_ok-thread.ensures c.take_choice-taken.new.self c.take_choice-taken.ensures.noted c.take_choice-taken.ensures.taken c.args.number c.args.node p q
