use Rattle.run_course.proofs.Common.{◌≡◌, None, ap, output_of, turn_rank}
use Rattle.run_course.proofs.PartSteps.{given_on_ok, holds_on_ok, memory_counts, over_falls, part_counts, part_ends, part_falls, part_unrefused}
use Rattle.run_course.proofs.Parts.{onward_within, no_part}
use Rattle.run_course.proofs.Passing.{cut_halts}
use Rattle.run_course.proofs.course.Course.pass.Goals as goal

pub returns-in-Out-clause-ends : goal.returns-in-Out-clause-ends
returns-in-Out-clause-ends g c = λ s state left stands.
    part_ends s state left c.put.new.self c.put.new.world left (output_of c.args.writer.now (g.K.Sink.taken c.args.out.now)) (output_of c.put.new.writer (g.K.Sink.taken c.put.new.out))
    c.put.result c.goes_on.result c.goes_on.ensures (c.put.ensures.ends s state left stands)

pub returns-in-Out-clause-counts : goal.returns-in-Out-clause-counts
returns-in-Out-clause-counts g c =
    part_counts c.put.result c.goes_on.result (g.K.Sink.faults c.args.out.now) (g.K.Sink.faults c.put.new.out) c.goes_on.ensures c.put.ensures.counts

pub returns-in-Out-clause-unrefused : goal.returns-in-Out-clause-unrefused
returns-in-Out-clause-unrefused g c = part_unrefused (c.put.new.writer.refused ≡ None) c.put.result c.goes_on.result c.goes_on.ensures c.put.ensures.unrefused

pub returns-in-Out-clause-falls : goal.returns-in-Out-clause-falls
returns-in-Out-clause-falls g c = λ under_is.
    part_falls c.put.result c.goes_on.result c.goes_on.ensures c.args.self.now c.put.new.self c.args.world.now c.put.new.world
    (holds_on_ok _ c.put.result (c.put.ensures.falls under_is))

pub returns-in-Spawned-clause-ends : goal.returns-in-Spawned-clause-ends
returns-in-Spawned-clause-ends g c = λ s state left stands.
    part_ends s state left c.spawn.new.self c.spawn.new.world left (output_of c.args.writer.now (g.K.Sink.taken c.args.out.now)) (output_of c.args.writer.now (g.K.Sink.taken c.args.out.now))
    c.spawn.result c.goes_on-in-Spawned.result c.goes_on-in-Spawned.ensures (c.spawn.ensures.ends s state left (output_of c.args.writer.now (g.K.Sink.taken c.args.out.now)) stands)

pub returns-in-Spawned-clause-counts : goal.returns-in-Spawned-clause-counts
returns-in-Spawned-clause-counts g c = memory_counts c.spawn.result c.goes_on-in-Spawned.result (g.K.Sink.faults c.args.out.now) c.goes_on-in-Spawned.ensures c.spawn.ensures.only_memory

pub returns-in-Spawned-clause-unrefused : goal.returns-in-Spawned-clause-unrefused
returns-in-Spawned-clause-unrefused g c = holds_on_ok _ c.goes_on-in-Spawned.result c.requires.unrefused

pub returns-in-Spawned-clause-falls : goal.returns-in-Spawned-clause-falls
returns-in-Spawned-clause-falls g c = λ under_is.
    part_falls c.spawn.result c.goes_on-in-Spawned.result c.goes_on-in-Spawned.ensures c.args.self.now c.spawn.new.self c.args.world.now c.spawn.new.world
    (given_on_ok _ _ c.spawn.result c.spawn.ensures.falls under_is)

pub returns-in-Blocked-clause-ends : goal.returns-in-Blocked-clause-ends
returns-in-Blocked-clause-ends g c = λ s state left stands.
    part_ends s state left c.block.new.self c.args.world.now left (output_of c.args.writer.now (g.K.Sink.taken c.args.out.now)) (output_of c.block.new.writer (g.K.Sink.taken c.block.new.out))
    c.block.result c.goes_on-in-Blocked.result c.goes_on-in-Blocked.ensures (c.block.ensures.ends s state left stands)

pub returns-in-Blocked-clause-counts : goal.returns-in-Blocked-clause-counts
returns-in-Blocked-clause-counts g c =
    part_counts c.block.result c.goes_on-in-Blocked.result (g.K.Sink.faults c.args.out.now) (g.K.Sink.faults c.block.new.out) c.goes_on-in-Blocked.ensures c.block.ensures.counts

pub returns-in-Blocked-clause-unrefused : goal.returns-in-Blocked-clause-unrefused
returns-in-Blocked-clause-unrefused g c = part_unrefused (c.block.new.writer.refused ≡ None) c.block.result c.goes_on-in-Blocked.result c.goes_on-in-Blocked.ensures c.block.ensures.unrefused

pub returns-in-Blocked-clause-falls : goal.returns-in-Blocked-clause-falls
returns-in-Blocked-clause-falls g c = λ under_is.
    part_falls c.block.result c.goes_on-in-Blocked.result c.goes_on-in-Blocked.ensures c.args.self.now c.block.new.self c.args.world.now c.args.world.now
    (over_falls c.block.result c.args.self.now c.block.new.self c.args.world.now c.args.under under_is (ap turn_rank c.in-Blocked.is) c.block.ensures.over)

pub returns-in-Ended-clause-ends : goal.returns-in-Ended-clause-ends
returns-in-Ended-clause-ends g c = λ s state left stands.
    part_ends s state left c.end.new.self c.args.world.now left (output_of c.args.writer.now (g.K.Sink.taken c.args.out.now)) (output_of c.end.new.writer (g.K.Sink.taken c.end.new.out))
    c.end.result c.goes_on-in-Ended.result c.goes_on-in-Ended.ensures (c.end.ensures.ends s state left stands)

pub returns-in-Ended-clause-counts : goal.returns-in-Ended-clause-counts
returns-in-Ended-clause-counts g c =
    part_counts c.end.result c.goes_on-in-Ended.result (g.K.Sink.faults c.args.out.now) (g.K.Sink.faults c.end.new.out) c.goes_on-in-Ended.ensures c.end.ensures.counts

pub returns-in-Ended-clause-unrefused : goal.returns-in-Ended-clause-unrefused
returns-in-Ended-clause-unrefused g c = part_unrefused (c.end.new.writer.refused ≡ None) c.end.result c.goes_on-in-Ended.result c.goes_on-in-Ended.ensures c.end.ensures.unrefused

pub returns-in-Ended-clause-falls : goal.returns-in-Ended-clause-falls
returns-in-Ended-clause-falls g c = λ under_is.
    part_falls c.end.result c.goes_on-in-Ended.result c.goes_on-in-Ended.ensures c.args.self.now c.end.new.self c.args.world.now c.args.world.now
    (over_falls c.end.result c.args.self.now c.end.new.self c.args.world.now c.args.under under_is (ap turn_rank c.in-Ended.is) c.end.ensures.over)

pub returns-in-Cut-clause-ends : goal.returns-in-Cut-clause-ends
returns-in-Cut-clause-ends g c = λ s state left stands. cut_halts s state c.args.self.now c.args.world.now left c.args.under stands c.in-Cut.stop c.in-Cut.cost c.in-Cut.is (output_of c.args.writer.now (g.K.Sink.taken c.args.out.now))

pub returns-in-Memory-clause-ends : goal.returns-in-Memory-clause-ends
returns-in-Memory-clause-ends g c = λ s state left stands. no_part s state left c.args.world.now (output_of c.args.writer.now (g.K.Sink.taken c.args.out.now)) stands.of (onward_within s state c.args.self.now c.args.world.now left c.args.under stands)
