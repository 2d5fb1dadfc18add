use Rattle.runner.proofs.Common.{◌≡◌, ◌++◌, List, Option, Ok, Err, sym, ap, subst, Appends, GraphState, EdgeLine, Puts, log_text, WriterState, IsRunEnd, end_lines, IsFitText, output_of, rule_of, IsSound, stop_line, Failure, Halt, free_count}
use Rattle.runner.specs.declared.ends.RunEnd.{RunEnd}
use Rattle.runner.proofs.Rounds.{Ends, RunsOn, runs_first, stands_somehow, runs_step, run_fails, run_comes, run_unwritten, run_memory}
use Rattle.runner.proofs.running.go.Goals as goal

pub returns-in_default-clause-answer : goal.returns-in_default-clause-answer
returns-in_default-clause-answer g c = λ s at.
    let sound = subst IsSound c.accepted-accepted.ensures (record { valid = c.is_valid.ensures; aligned = c.sizes_law.ensures.aligned; least = c.sizes_law.ensures.least; most = c.sizes_law.ensures.most }) in
    run_memory c.args.world.now (rule_of c.args.rule) c.args.monitor (g.S.Source.left c.args.trace.now) (g.K.Sink.taken c.args.out.now) (g.S.Source.faults c.args.trace.now) (g.K.Sink.faults c.args.out.now) sound s at

pub returns-in_default-new-clause-answer : goal.returns-in_default-new-clause-answer
returns-in_default-new-clause-answer g c = λ s at.
    let sound = subst IsSound c.accepted-accepted.ensures (record { valid = c.is_valid.ensures; aligned = c.sizes_law.ensures.aligned; least = c.sizes_law.ensures.least; most = c.sizes_law.ensures.most }) in
    run_memory c.args.world.now (rule_of c.args.rule) c.args.monitor (g.S.Source.left c.args.trace.now) (g.K.Sink.taken c.args.out.now) (g.S.Source.faults c.args.trace.now) (g.K.Sink.faults c.args.out.now) sound s at

pub loop-halt-init : goal.loop-halt-init
loop-halt-init g c =
    let sound = subst IsSound c.accepted-accepted.ensures (record { valid = c.is_valid.ensures; aligned = c.sizes_law.ensures.aligned; least = c.sizes_law.ensures.least; most = c.sizes_law.ensures.most }) in
    let runs = runs_first c.args.world.now (rule_of c.args.rule) c.args.monitor (g.S.Source.left c.args.trace.now) (g.K.Sink.taken c.args.out.now) (g.S.Source.faults c.args.trace.now) (g.K.Sink.faults c.args.out.now) c.in-Ok.course c.requires.start sound c.in-Ok.ensures in (
      subst (λ (w : WriterState). RunsOn c.args.world.now (rule_of c.args.rule) c.args.monitor (g.S.Source.left c.args.trace.now) (g.K.Sink.taken c.args.out.now) (g.S.Source.faults c.args.trace.now) (g.K.Sink.faults c.args.out.now) c.in-Ok.course c.args.world.now (g.S.Source.left c.args.trace.now)
          (output_of w (g.K.Sink.taken c.args.out.now)) (g.S.Source.faults c.args.trace.now) (g.K.Sink.faults c.args.out.now)) (sym c.in-Ok-new.ensures) runs,
      ap (λ (w : WriterState). w.refused) c.in-Ok-new.ensures,
    )

pub step-requires : goal.step-requires
step-requires g c = record {
  stands = stands_somehow c.args.world.now (rule_of c.args.rule) c.args.monitor (g.S.Source.left c.args.trace.now) (g.K.Sink.taken c.args.out.now) (g.S.Source.faults c.args.trace.now) (g.K.Sink.faults c.args.out.now) c.loop-halt.course c.loop-halt.world (g.S.Source.left c.loop-halt.trace) (output_of c.loop-halt.writer (g.K.Sink.taken c.loop-halt.out))
      (g.S.Source.faults c.loop-halt.trace) (g.K.Sink.faults c.loop-halt.out) c.loop-halt.invariant.0;
  unrefused = c.loop-halt.invariant.1;
}

pub write_end-written-requires : goal.write_end-written-requires
write_end-written-requires g c = c.in-Ok-Some.ensures.unrefused

pub returns-in-Err-clause-answer : goal.returns-in-Err-clause-answer
returns-in-Err-clause-answer g c = λ s at.
    run_fails c.args.world.now (rule_of c.args.rule) c.args.monitor (g.S.Source.left c.args.trace.now) (g.K.Sink.taken c.args.out.now) (g.S.Source.faults c.args.trace.now) (g.K.Sink.faults c.args.out.now) c.loop-halt.course c.loop-halt.world (g.S.Source.left c.loop-halt.trace) (output_of c.loop-halt.writer (g.K.Sink.taken c.loop-halt.out)) (g.S.Source.faults c.loop-halt.trace) (g.K.Sink.faults c.loop-halt.out) c.loop-halt.invariant.0 c.step.new.course c.step.new.world (g.S.Source.left c.step.new.trace) (output_of c.step.new.writer (g.K.Sink.taken c.step.new.out)) (g.S.Source.faults c.step.new.trace) (g.K.Sink.faults c.step.new.out) c.step.ensures.keeps c.in-Err.failure c.in-Err.ensures.ends c.in-Err.ensures.counts s at

pub returns-in-Err-written-clause-answer : goal.returns-in-Err-written-clause-answer
returns-in-Err-written-clause-answer g c = λ s at.
    let ends = subst (λ (o : Option Halt). Ends c.loop-halt.course c.loop-halt.world (g.S.Source.left c.loop-halt.trace) (output_of c.loop-halt.writer (g.K.Sink.taken c.loop-halt.out)) c.step.new.course c.step.new.world (g.S.Source.left c.step.new.trace) (output_of c.step.new.writer (g.K.Sink.taken c.step.new.out)) (Ok o)) c.in-Ok-Some.field-0-is c.in-Ok-Some.ensures.ends in
    let edges : c.graph.result.now.edges ≡ c.step.new.course.graph.edges = ap (λ (x : GraphState). x.edges) c.graph.ensures in
    let puts = subst (λ (es : List EdgeLine). Puts {E = Failure} (g.K.Sink.taken c.step.new.out) (g.K.Sink.taken c.write_end-written.new.out) (c.step.new.writer.held ++ log_text (end_lines c.step.new.world.setting.caps es (stop_line c.in-Ok-Some.halt (free_count c.step.new.world.machine.areas.pool)))) (Err c.in-Err-written.failure)) edges
    c.in-Err-written.ensures.bytes in
    run_unwritten c.args.world.now (rule_of c.args.rule) c.args.monitor (g.S.Source.left c.args.trace.now) (g.K.Sink.taken c.args.out.now) (g.S.Source.faults c.args.trace.now) (g.K.Sink.faults c.args.out.now) c.loop-halt.course c.loop-halt.world (g.S.Source.left c.loop-halt.trace) (output_of c.loop-halt.writer (g.K.Sink.taken c.loop-halt.out)) (g.S.Source.faults c.loop-halt.trace) (g.K.Sink.faults c.loop-halt.out) c.loop-halt.invariant.0 c.step.new.course c.step.new.world (g.S.Source.left c.step.new.trace) (output_of c.step.new.writer (g.K.Sink.taken c.step.new.out)) (g.S.Source.faults c.step.new.trace) (g.K.Sink.faults c.step.new.out) c.step.ensures.keeps c.in-Ok-Some.halt ends c.in-Ok-Some.ensures.counts (g.K.Sink.taken c.write_end-written.new.out) (g.K.Sink.faults c.write_end-written.new.out)
    c.in-Err-written.failure puts c.in-Err-written.ensures.counts s at

pub returns-in-Ok-written-clause-answer : goal.returns-in-Ok-written-clause-answer
returns-in-Ok-written-clause-answer g c = λ s at.
    let ends = subst (λ (o : Option Halt). Ends c.loop-halt.course c.loop-halt.world (g.S.Source.left c.loop-halt.trace) (output_of c.loop-halt.writer (g.K.Sink.taken c.loop-halt.out)) c.step.new.course c.step.new.world (g.S.Source.left c.step.new.trace) (output_of c.step.new.writer (g.K.Sink.taken c.step.new.out)) (Ok o)) c.in-Ok-Some.field-0-is c.in-Ok-Some.ensures.ends in
    let edges : c.graph.result.now.edges ≡ c.step.new.course.graph.edges = ap (λ (x : GraphState). x.edges) c.graph.ensures in
    let puts = subst (λ (es : List EdgeLine). Appends (g.K.Sink.taken c.step.new.out) (g.K.Sink.taken c.write_end-written.new.out) (c.step.new.writer.held ++ log_text (end_lines c.step.new.world.setting.caps es (stop_line c.in-Ok-Some.halt (free_count c.step.new.world.machine.areas.pool))))) edges
    c.in-Ok-written.ensures.bytes in
    let fits = subst (λ (es : List EdgeLine). IsFitText (log_text (end_lines c.step.new.world.setting.caps es (stop_line c.in-Ok-Some.halt (free_count c.step.new.world.machine.areas.pool))))) edges
    c.in-Ok-written.ensures.fits in
    subst (λ (e : RunEnd). IsRunEnd s c.step.new.world (g.S.Source.left c.args.trace.now) (g.K.Sink.taken c.args.out.now) (g.K.Sink.taken c.write_end-written.new.out) (g.S.Source.faults c.args.trace.now) (g.S.Source.faults c.step.new.trace) (g.K.Sink.faults c.args.out.now) (g.K.Sink.faults c.write_end-written.new.out) e) (sym c.end_of.ensures)
    (run_comes c.args.world.now (rule_of c.args.rule) c.args.monitor (g.S.Source.left c.args.trace.now) (g.K.Sink.taken c.args.out.now) (g.S.Source.faults c.args.trace.now) (g.K.Sink.faults c.args.out.now) c.loop-halt.course c.loop-halt.world (g.S.Source.left c.loop-halt.trace) (output_of c.loop-halt.writer (g.K.Sink.taken c.loop-halt.out)) (g.S.Source.faults c.loop-halt.trace) (g.K.Sink.faults c.loop-halt.out) c.loop-halt.invariant.0 c.step.new.course c.step.new.world (g.S.Source.left c.step.new.trace) (output_of c.step.new.writer (g.K.Sink.taken c.step.new.out)) (g.S.Source.faults c.step.new.trace) (g.K.Sink.faults c.step.new.out) c.step.ensures.keeps c.in-Ok-Some.halt ends c.in-Ok-Some.ensures.counts (g.K.Sink.taken c.write_end-written.new.out) (g.K.Sink.faults c.write_end-written.new.out)
    puts fits c.in-Ok-written.ensures.counts s at)

pub loop-halt-preserved : goal.loop-halt-preserved
loop-halt-preserved g c =
    let ends = subst (λ (o : Option Halt). Ends c.loop-halt.course c.loop-halt.world (g.S.Source.left c.loop-halt.trace) (output_of c.loop-halt.writer (g.K.Sink.taken c.loop-halt.out)) c.step.new.course c.step.new.world (g.S.Source.left c.step.new.trace) (output_of c.step.new.writer (g.K.Sink.taken c.step.new.out)) (Ok o)) c.in-Ok-None.field-0-is c.in-Ok-None.ensures.ends in
    (runs_step c.args.world.now (rule_of c.args.rule) c.args.monitor (g.S.Source.left c.args.trace.now) (g.K.Sink.taken c.args.out.now) (g.S.Source.faults c.args.trace.now) (g.K.Sink.faults c.args.out.now) c.loop-halt.course c.loop-halt.world (g.S.Source.left c.loop-halt.trace) (output_of c.loop-halt.writer (g.K.Sink.taken c.loop-halt.out)) (g.S.Source.faults c.loop-halt.trace) (g.K.Sink.faults c.loop-halt.out) c.loop-halt.invariant.0 c.step.new.course c.step.new.world (g.S.Source.left c.step.new.trace) (output_of c.step.new.writer (g.K.Sink.taken c.step.new.out)) (g.S.Source.faults c.step.new.trace) (g.K.Sink.faults c.step.new.out) c.step.ensures.keeps ends c.in-Ok-None.ensures.counts, c.in-Ok-None.ensures.unrefused)
