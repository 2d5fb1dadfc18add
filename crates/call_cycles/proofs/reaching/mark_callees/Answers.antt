use Rattle.call_cycles.proofs.Common.{◌≡◌, List, length, refl, ap, ◌∙◌, subst, arith, slice_get_read, Op, function_at, program_code, Marks}
use Rattle.call_cycles.proofs.MarkLemmas.{CallsBefore, ops-none, ops-more, ops-over}
use Rattle.call_cycles.proofs.reaching.mark_callees.Goals as goal

pub loop-op-init : goal.loop-op-init
loop-op-init c = record {
  marked = ops-none c.as_slice-ops.result.now (program_code c.args.flat.now) c.args.marks.now c.args.left.now.items;
  seen = c.requires.seen;
}

pub loop-op-preserved : goal.loop-op-preserved
loop-op-preserved c =
    let ops = c.as_slice-ops.result.now in
    let i = c.loop-op.op-index in
    record {
      marked = ops-more ops (program_code c.args.flat.now) i c.op-item.result c.args.marks.now c.args.left.now.items c.loop-op.marks c.loop-op.left.items c.mark_called.new.marks c.mark_called.new.left.items
          (slice_get_read ops (length ops) i c.op-item.result refl c.loop-op-test.true c.op-item.is) c.loop-op.invariant.marked c.in_ok-mark_called.ensures.marked;
      seen = c.in_ok-mark_called.ensures.seen;
    }

pub returns-clause-marked : goal.returns-clause-marked
returns-clause-marked c =
    let code = program_code c.args.flat.now in
    let i = c.loop-op.op-index in
    let same : c.as_slice-ops.result.now ≡ (function_at code c.args.function).ops = c.as_slice-ops.ensures ∙ ap (λ f. f.ops) c.function_of.ensures.value in
    ops-over code c.args.function i c.args.marks.now c.args.left.now.items c.loop-op.marks c.loop-op.left.items (omega (arith, ap length same, c.loop-op-test.false))
    (subst (λ (ops : List Op). Marks (CallsBefore ops code i) c.args.marks.now c.args.left.now.items c.loop-op.marks c.loop-op.left.items) same c.loop-op.invariant.marked)
