use Rattle.source_runs.proofs.Common.{◌+◌, ℕ, List, length, ap, ◌∙◌, arith, sum, slice_index, length_push, take_all, sum-take-le, sum_next, sum_next-le}
use Rattle.source_runs.proofs.Functions.{starts-more}
use Rattle.source_runs.proofs.layout.layout_of.Goals as goal

pub overflow_cast-words : goal.overflow_cast-words
overflow_cast-words c =
    let l = c.loop-width in
    omega (arith, sum-take-le c.args.widths.now l.width-index, l.invariant.words, c.requires)

pub overflow_add-words : goal.overflow_add-words
overflow_add-words c =
    let l = c.loop-width in
    omega (arith, sum_next-le c.args.widths.now l.width-index c.loop-width-test.true, l.invariant.words, c.requires)

pub loop-width-preserved : goal.loop-width-preserved
loop-width-preserved c =
    let l = c.loop-width in
    let widths = c.args.widths.now in
    record {
      words = omega (arith, sum_next widths l.width-index c.loop-width-test.true, l.invariant.words);
      count = ap length c.in_ok-push.ensures.items ∙ (length_push l.starts.items l.words ∙ ap (λ n. n + 1) l.invariant.count);
      each = λ x lt. ap (λ (starts : List ℕ). slice_index starts x) c.in_ok-push.ensures.items ∙ starts-more widths l.starts.items l.width-index l.words l.invariant.count l.invariant.words l.invariant.each x lt;
    }

pub returns : goal.returns
returns c =
    let l = c.loop-width in
    let widths = c.args.widths.now in
    record {
      placed = record {
        count = l.invariant.count ∙ omega (arith, c.loop-width-test.false);
        each = λ x lt. l.invariant.each x (omega (arith, c.loop-width-test.false, lt));
      };
      words = l.invariant.words ∙ ap sum (take_all l.width-index widths (omega (arith, c.loop-width-test.false)));
    }
