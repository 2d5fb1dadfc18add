use Rattle.thread_core.proofs.Common.{◌≡◌, ◌+◌, ◌-◌, Some, sym, ◌∙◌, ap, subst, checked_of, code_of, local_of, IsSegment, KeepsChunks, Context, Segment, get, Ran, Record, State}
use Rattle.segment_run.specs.declared.segments.Segment.TheVariants as answer
use Rattle.thread_core.proofs.Segmented.{lives, record_of, ran_on, ran_off}
use Rattle.thread_core.proofs.state.State.run_to_call.Goals as goal
use Rattle.thread_core.proofs.state.State.run_to_call.Goals.{in-Ends, in_default}

pub leave-requires-clause-live : goal.leave-requires-clause-live
leave-requires-clause-live c = lives c.args.accepted.now c.args.most c.args.thread c.args.self.now c.requires.runs

pub returns : goal.returns
returns c =
    let some : (r : Record) × (get c.args.self.now.records c.args.thread.slot ≡ Some r) = record_of c.args.accepted.now c.args.most c.args.thread c.args.self.now c.requires.runs in
    let from : c.context-context.result ≡ some.0.context = c.context-context.ensures some.0 some.1 in
    let is : IsSegment (checked_of c.args.accepted.now) (code_of c.args.accepted.now) c.run_segment-segment.result (local_of c.args.self.now.areas some.0.context) c.args.self.now.fuel.left (local_of c.run_segment-segment.new.areas c.run_segment-segment.new.context) c.run_segment-segment.new.fuel.left =
    subst (λ (x : Context). IsSegment (checked_of c.args.accepted.now) (code_of c.args.accepted.now) c.run_segment-segment.result (local_of c.args.self.now.areas x) c.args.self.now.fuel.left (local_of c.run_segment-segment.new.areas c.run_segment-segment.new.context) c.run_segment-segment.new.fuel.left) from c.run_segment-segment.ensures.machine in
    let chunks : KeepsChunks (local_of c.args.self.now.areas some.0.context) (local_of c.run_segment-segment.new.areas c.run_segment-segment.new.context) =
    subst (λ (x : Context). KeepsChunks (local_of c.args.self.now.areas x) (local_of c.run_segment-segment.new.areas c.run_segment-segment.new.context)) from c.run_segment-segment.ensures.chunks in
    let ticked : (st : State) → State = λ st. record st { waits = record st.waits { clock = st.waits.clock + (c.args.self.now.fuel.left - c.run_segment-segment.new.fuel.left) } } in
    elim c.match-segment.branch [
      | in-Ends w ↦
          let ends : IsSegment (checked_of c.args.accepted.now) (code_of c.args.accepted.now) answer.Ends (local_of c.args.self.now.areas some.0.context) c.args.self.now.fuel.left (local_of c.run_segment-segment.new.areas c.run_segment-segment.new.context) c.run_segment-segment.new.fuel.left =
          subst (λ (x : Segment). IsSegment (checked_of c.args.accepted.now) (code_of c.args.accepted.now) x (local_of c.args.self.now.areas some.0.context) c.args.self.now.fuel.left (local_of c.run_segment-segment.new.areas c.run_segment-segment.new.context) c.run_segment-segment.new.fuel.left) w.in-Ends.is is in
          let ran = ran_off c.args.accepted.now c.args.most c.args.thread c.args.self.now c.requires some.0 some.1 c.run_segment-segment.new.areas c.run_segment-segment.new.context c.run_segment-segment.new.fuel c.run_segment-segment.ensures.areas chunks
          w.leave.new.self.records w.leave.ensures.«record».others ends w.leave.ensures.«record».changed in
          subst (λ (x : Segment). Ran c.args.accepted.now c.args.most c.args.thread c.args.self.now x c.tick.new.self) (sym w.in-Ends.is)
          (subst (Ran c.args.accepted.now c.args.most c.args.thread c.args.self.now answer.Ends) (sym (c.tick.ensures ∙ ap ticked (w.self-is ∙ w.leave.ensures.rest))) ran)
      | in_default w ↦
          let written : get w.set_context.new.self.records c.args.thread.slot ≡ Some (record some.0 { context = c.run_segment-segment.new.context }) = w.set_context.ensures.«record».written some.0 some.1 in
          let ran = ran_on c.args.accepted.now c.args.most c.args.thread c.args.self.now c.requires some.0 some.1 c.run_segment-segment.new.areas c.run_segment-segment.new.context c.run_segment-segment.new.fuel c.run_segment-segment.ensures.areas chunks
          w.set_context.new.self.records w.set_context.ensures.«record».others c.run_segment-segment.result w.in_default.not-Ends is written in
          subst (Ran c.args.accepted.now c.args.most c.args.thread c.args.self.now c.run_segment-segment.result) (sym (c.tick.ensures ∙ ap ticked (w.self-is ∙ w.set_context.ensures.rest))) ran
    ]
