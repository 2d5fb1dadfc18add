use Rattle.segment_run.proofs.ready_turns.one.Goals as goal

pub turn_in-requires-clause-run : goal.turn_in-requires-clause-run
turn_in-requires-clause-run c = (c.requires.run.0, c.args.stand.left, c.requires.fuel, c.requires.run.1)

pub returns-in-Some-clause-went : goal.returns-in-Some-clause-went
returns-in-Some-clause-went c = λ run is. c.in-Some.ensures.went run c.args.stand.left c.requires.fuel is
