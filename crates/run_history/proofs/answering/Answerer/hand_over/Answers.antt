use Rattle.run_history.proofs.Common.{subst, refl, Numbers, Keeps}
use Rattle.run_history.proofs.AnsweringKept.{of-pairs, of-spawned, with-answers}
use Rattle.run_history.proofs.answering.Answerer.hand_over.Goals as goal

pub returns-in-OfPairs : goal.returns-in-OfPairs
returns-in-OfPairs c = λ answering window chunks told kept was.
    let new : Numbers = record c.args.numbers.now { answers = c.replace.result } in
    with-answers answering window chunks told c.args.numbers.now new was (record { events = refl; arrivals = refl; dropped = refl; takers = refl; taken = refl; waits = refl; held = refl })
    (of-pairs answering told c.in-OfPairs.pairs new c.replace.ensures.value (subst (Keeps answering told) c.in-OfPairs.is kept))

pub returns-in-OfSpawned : goal.returns-in-OfSpawned
returns-in-OfSpawned c = λ answering window chunks told kept was.
    let new : Numbers = record c.args.numbers.now { answers = c.replace-in-OfSpawned.result } in
    with-answers answering window chunks told c.args.numbers.now new was (record { events = refl; arrivals = refl; dropped = refl; takers = refl; taken = refl; waits = refl; held = refl })
    (of-spawned answering told c.in-OfSpawned.followed new c.replace-in-OfSpawned.ensures.value (subst (Keeps answering told) c.in-OfSpawned.is kept))
