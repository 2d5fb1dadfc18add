use Rattle.run_course.proofs.Common.{[], None, sym, subst, refl, GraphState, ThreadId, ReaderState, start_of, HasStarted, Kept, StandsBetween, Next, bytes_of}
use Rattle.run_course.proofs.Started.{start_between}
use Rattle.run_course.proofs.Rules.{may_start_first}
use Rattle.run_course.proofs.course.Course.new.Goals as goal

pub returns : goal.returns
returns g c = λ s left at.
    let starts = subst (λ (t : ThreadId). HasStarted c.args.rule c.start.new.self t) c.main_thread.ensures c.in-Ok.ensures.ok in
    let with : GraphState → ReaderState → Kept = λ graph reader. record { rule = c.start.new.self; graph = graph; monitor = c.args.monitor; reader = reader; next = Next.Unread; under = None } in
    let stands = start_between s c.args.world.now c.args.monitor at c.requires.sound left c.args.rule c.start.new.self refl c.requires.fresh starts in (
      refl,
      subst (λ (graph : GraphState). StandsBetween s (start_of s (bytes_of left) c.args.world.now.machine) (with graph c.in-Ok-new.reader) c.args.world.now left) (sym c.new-2.ensures)
          (subst (λ (reader : ReaderState). StandsBetween s (start_of s (bytes_of left) c.args.world.now.machine) (with (record { keys = []; edges = [] }) reader) c.args.world.now left) (sym c.in-Ok-new.ensures) stands),
    )

pub start-requires : goal.start-requires
start-requires g c = may_start_first c.args.rule c.main_thread.result c.requires.fresh
