use Rattle.run_course.proofs.Common.{rules, ◌≡◌, Option, length, Event, NoneAbove, Rest, Setup, State, all_caps, output_of, Kept, IsAtChoice, seen_of, uses_of}
use Rattle.run_course.proofs.Choosing.{LawfulNow, resting, lawful_as, taken_as, some_choice, may_begin, uses_now, caps_now, choose_part, choose_falls}
use Rattle.run_course.proofs.Rules.{all_told, none_under_way}
use Rattle.run_course.proofs.course.Course.choose.Given.{Over}
use Rattle.run_course.proofs.course.Course.choose.Goals as goal
use Rattle.run_course.proofs.course.Course.choose.Goals.{After-take-taken}

-- the run's data, as the choice finds it
abbrev kept : (g : Over) → After-take-taken g → Kept
kept g c = let i = c.self.inside in record { rule = i.rule; graph = i.graph; monitor = i.monitor; reader = i.reader; next = i.next; under = i.under }

-- the uses are those of the machine and within the caps, and what is taken is lawful
taken : (g : Over) (c : After-take-taken g) (s : Setup) (state : State) (left : Rest) (next : Option Event)
    (at : IsAtChoice s state (kept g c) c.args.world.now left next) → (uses : c.uses_of-before.result ≡ uses_of (seen_of state))
    × (caps : NoneAbove c.uses_of-before.result (all_caps s.policy))
    × LawfulNow s state (kept g c) c.args.world.now left next at c.uses_of-before.result uses caps c.take-taken.result
taken g c s state left next at =
    let before = c.uses_of-before.result in
    let eight : length before ≡ 8 = search rules in
    let uses = uses_now s state (kept g c) c.args.world.now left next at before eight c.uses_of-before.ensures.uses in
    let caps = caps_now s state (kept g c) c.args.world.now left next at before c.uses_of-before.ensures.within in
    let lawful = lawful_as s state (kept g c) c.args.world.now left next at before uses caps c.observe.new.self c.observe.ensures.seen in
    (uses, caps, lawful c.take-taken.result c.take-taken.ensures.lawful)

pub unreachable-requires : goal.unreachable-requires
unreachable-requires g c =
    let at = rw (← c.self.view_is) at c.requires.stands.4 in
    let p = (goal.at.unreachable-requires g c).After-take-taken in
    let all = taken g p _ _ _ _ at in
    some_choice _ _ _ _ _ _ at c.uses_of-before.result all.0 all.1 (rw c.in_default.is at all.2)

pub take-taken-requires-clause-known : goal.take-taken-requires-clause-known
take-taken-requires-clause-known g c =
    let at = rw (← c.self.view_is) at c.requires.stands.4 in
    all_told c.args.world.now c.self.inside.rule _ (resting _ _ _ _ _ _ at) at.point.stands.kept at.point.stands.needed

pub take-taken-requires-clause-none_under_way : goal.take-taken-requires-clause-none_under_way
take-taken-requires-clause-none_under_way g c =
    let at = rw (← c.self.view_is) at c.requires.stands.4 in
    none_under_way c.args.world.now.places c.self.inside.rule _ at.point.stands.kept

pub begin-turn-requires : goal.begin-turn-requires
begin-turn-requires g c =
    let at = rw (← c.self.view_is) at c.requires.stands.4 in
    let all = taken g (goal.at.begin-turn-requires g c).After-take-taken _ _ _ _ at in
    may_begin _ _ _ _ _ _ at c.uses_of-before.result all.0 all.1 c.in-Some.choice (rw c.in-Some.is at all.2) c.args.world.now.stopped at.point.stands.going

pub returns-clause-ends : goal.returns-clause-ends
returns-clause-ends g c = λ s state left next at_now.
    let at = rw (← c.self.view_is) at at_now in
    let before = c.uses_of-before.result in
    let all = taken g (goal.at.returns-clause-ends g c).After-take-taken s state left next at in
    let noted = taken_as _ _ _ _ _ _ at before all.0 all.1 c.observe.new.self c.observe.ensures.seen c.take-taken.new.self c.in-Some.choice
    (rw c.in-Some.is at c.take-taken.ensures.taken) in
    rw c.observe.ensures.seen (choose_part _ _ _ _ _ _ at before all.0 all.1 c.in-Some.choice (rw c.in-Some.is at all.2) c.take-taken.new.self noted
    (rw c.in-Some.is at c.take-taken.ensures.under_way) c.begin-turn.new.self c.begin-turn.ensures.setting c.begin-turn.ensures.places c.begin-turn.result
    (c.begin-turn.ensures.begins at.point.stands.going) (output_of c.args.writer.now (g.K.Sink.taken c.args.out.now))
    (output_of c.write_line.new.writer (g.K.Sink.taken c.write_line.new.out)) c.write_line.result (rw c.clock.ensures at c.write_line.ensures.bytes))

pub returns-clause-falls : goal.returns-clause-falls
returns-clause-falls g c =
    let at = rw (← c.self.view_is) at c.requires.stands.4 in
    let before = c.uses_of-before.result in
    let all = taken g (goal.at.returns-clause-falls g c).After-take-taken _ _ _ _ at in
    let noted = taken_as _ _ _ _ _ _ at before all.0 all.1 c.observe.new.self c.observe.ensures.seen c.take-taken.new.self c.in-Some.choice
    (rw c.in-Some.is at c.take-taken.ensures.taken) in
    rw (← c.self.view_is) (choose_falls _ _ _ _ _ _ at before all.0 all.1 c.in-Some.choice (rw c.in-Some.is at all.2) c.take-taken.new.self noted
    (rw c.in-Some.is at c.take-taken.ensures.under_way) c.begin-turn.new.self c.begin-turn.ensures.setting c.begin-turn.ensures.places c.begin-turn.result
    (c.begin-turn.ensures.begins at.point.stands.going))
