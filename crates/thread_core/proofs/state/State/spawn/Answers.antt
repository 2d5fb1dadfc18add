use Rattle.thread_core.proofs.Common.{◌<◌, ◌≤◌, refl, sym, subst, arith, false≢true, lowered, accepted_tree, FitsNone, most_threads, fact_at, Stop, State, as_many}
use Rattle.thread_core.proofs.Alike.{stop_told}
use Rattle.thread_core.proofs.Spawning as spawning
use Rattle.thread_core.proofs.Spawned as spawned
use Rattle.thread_core.proofs.state.State.spawn.Goals as goal

pub returns-then-self-ge-MOST_THREADS : goal.returns-then-self-ge-MOST_THREADS
returns-then-self-ge-MOST_THREADS c =
    let many : most_threads ≤ c.args.self.now.live = omega (arith, c.if-self-ge-MOST_THREADS.true) in
    let told = stop_told c.args.accepted.now c.args.most c.args.self.now c.args.thread c.requires.runs Stop.Threads (spawning.many c.args.accepted.now c.args.most c.args.self.now c.args.thread c.requires.runs c.requires.fuel c.args.function c.args.argument c.requires.at c.image-image.ensures.valid many) in
    rw (c.cut.ensures.after, c.cut.ensures.turn) told

pub returns-then-not-has_chunk_for : goal.returns-then-not-has_chunk_for
returns-then-not-has_chunk_for c =
    let few : c.args.self.now.live < most_threads = omega (arith, c.if-self-ge-MOST_THREADS.false) in
    let told = stop_told c.args.accepted.now c.args.most c.args.self.now c.args.thread c.requires.runs Stop.NoChunk (spawning.fits_none c.args.accepted.now c.args.most c.args.self.now c.args.thread c.requires.runs c.requires.fuel c.args.function c.args.argument c.requires.at c.image-image.ensures.valid few (c.if-not-has_chunk_for.ensures.0 refl)) in
    rw (c.cut-then-not-has_chunk_for.ensures.after, c.cut-then-not-has_chunk_for.ensures.turn) told

pub returns-in_default : goal.returns-in_default
returns-in_default c =
    let few : c.args.self.now.live < most_threads = omega (arith, c.if-self-ge-MOST_THREADS.false) in
    spawned.no_memory c.args.accepted.now c.args.most c.args.self.now c.args.thread c.requires.runs c.requires.fuel c.args.function c.args.argument c.requires.at c.image-image.ensures.valid few (λ none. false≢true (sym (c.if-not-has_chunk_for.ensures.1 none))) c.free_place.new.self c.free_place.ensures.more

pub has_chunk_for-requires : goal.has_chunk_for-requires
has_chunk_for-requires c =
    let there = (spawning.spawn c.args.accepted.now c.args.most c.args.self.now c.args.thread c.requires.runs c.requires.fuel c.args.function c.args.argument c.requires.at c.image-image.ensures.valid).there in
    let many = as_many (lowered (accepted_tree c.args.accepted.now)) c.args.accepted.now.image c.args.accepted.now.certificate c.image-image.ensures.valid in
    omega (arith, there, many)

pub start-requires-clause-function : goal.start-requires-clause-function
start-requires-clause-function c =
    let there = (spawning.spawn c.args.accepted.now c.args.most c.args.self.now c.args.thread c.requires.runs c.requires.fuel c.args.function c.args.argument c.requires.at c.image-image.ensures.valid).there in
    let many = as_many (lowered (accepted_tree c.args.accepted.now)) c.args.accepted.now.image c.args.accepted.now.certificate c.image-image.ensures.valid in
    omega (arith, there, many)

pub unreachable-requires : goal.unreachable-requires
unreachable-requires c =
    let none = subst (λ (x : State). FitsNone x.areas.pool (fact_at c.args.accepted.now.certificate c.args.function).bound) c.free_place.ensures.more.rest (c.in-None.ensures.none.0 refl) in
    false≢true (sym (c.if-not-has_chunk_for.ensures.1 none))

pub pass-passed-requires-clause-pc : goal.pass-passed-requires-clause-pc
pass-passed-requires-clause-pc c =
    let few : c.args.self.now.live < most_threads = omega (arith, c.if-self-ge-MOST_THREADS.false) in
    spawned.small c.args.accepted.now c.args.most c.args.self.now c.args.thread c.requires.runs c.requires.fuel c.args.function c.args.argument c.requires.at c.image-image.ensures.valid few (λ none. false≢true (sym (c.if-not-has_chunk_for.ensures.1 none))) c.free_place.new.self c.free_place.ensures.more c.in-Some.slot c.in-Some.ensures.place c.in-Some-start.context c.start.new.areas c.in-Some-start.ensures.machine c.start.ensures.areas c.add.new.self c.add.ensures

pub returns : goal.returns
returns c =
    let few : c.args.self.now.live < most_threads = omega (arith, c.if-self-ge-MOST_THREADS.false) in
    spawned.spawned_told c.args.accepted.now c.args.most c.args.self.now c.args.thread c.requires.runs c.requires.fuel c.args.function c.args.argument c.requires.at c.image-image.ensures.valid few (λ none. false≢true (sym (c.if-not-has_chunk_for.ensures.1 none))) c.free_place.new.self c.free_place.ensures.more c.in-Some.slot c.in-Some.ensures.place c.in-Some-start.context c.start.new.areas c.in-Some-start.ensures.machine c.start.ensures.areas c.add.new.self c.add.ensures
    c.pass-passed.new.self c.pass-passed.result c.pass-passed.ensures.record c.pass-passed.ensures.context c.pass-passed.ensures.rest c.pass-passed.ensures.fuel c.pass-passed.ensures.rests
