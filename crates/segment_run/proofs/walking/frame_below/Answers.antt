use Rattle.segment_run.proofs.Common.{◌≡◌, ℕ, ◌+◌, ◌<◌, ◌∷◌, Some, length, sym, ap, subst, ◌∙◌, arith, accepted_tree, end_of, chunk_at, checked_of, fact_at, Certificate, FunctionFact}
use Rattle.segment_run.proofs.Reading.{lies, ends_chunk, ends_before, next_chunk, same_chunk, read_next}
use Rattle.segment_run.proofs.walking.frame_below.Goals as goal

pub fact_of-requires : goal.fact_of-requires
fact_of-requires c =
    let there = c.requires.there in
    let l = lies (accepted_tree c.args.accepted.now) c.args.accepted.now.image c.args.accepted.now.certificate c.args.pool.now c.args.frame there.0 there.1 (there.2 ∷ there.3) c.args.accepted.now.program.well_scoped c.requires.valid there.4 in
    subst (λ (x : Certificate). c.args.frame.function < length x.functions) (sym c.certificate.ensures) l.function

pub unreachable-requires : goal.unreachable-requires
unreachable-requires c =
    let checked = checked_of c.args.accepted.now in
    let pool = c.args.pool.now in
    let frame = c.args.frame in
    let fact : c.fact_of.result.now ≡ fact_at c.args.accepted.now.certificate frame.function = c.fact_of.ensures ∙ ap (λ (x : Certificate). fact_at x frame.function) c.certificate.ensures in
    let size = ap (λ (f : FunctionFact). f.frame) fact in
    let there = c.requires.there in
    let end : frame.low + (fact_at c.args.accepted.now.certificate frame.function).frame ≡ end_of pool frame.chunk = omega (arith, size, c.if-end-chunk_end.true, c.place_of.ensures.place, c.bytes_of.ensures.value) in
    let first = ends_chunk checked pool frame there.0 there.1 (there.2 ∷ there.3) there.4 end in
    let next = next_chunk checked pool frame there.0 there.1 there.2 there.3 c.place_of.ensures.sound there.4 first in
    let none = c.in-None.ensures.value ∙ ap (chunk_at pool) c.read.ensures.value ∙ next.found in
    absurd (cc)

pub returns-in-Some : goal.returns-in-Some
returns-in-Some c = λ chain at next below is function.
    let checked = checked_of c.args.accepted.now in
    let pool = c.args.pool.now in
    let frame = c.args.frame in
    let fact : c.fact_of.result.now ≡ fact_at c.args.accepted.now.certificate frame.function = c.fact_of.ensures ∙ ap (λ (x : Certificate). fact_at x frame.function) c.certificate.ensures in
    let size = ap (λ (f : FunctionFact). f.frame) fact in
    let end : frame.low + (fact_at c.args.accepted.now.certificate frame.function).frame ≡ end_of pool frame.chunk = omega (arith, size, c.if-end-chunk_end.true, c.place_of.ensures.place, c.bytes_of.ensures.value) in
    let first = ends_chunk checked pool frame chain at (next ∷ below) is end in
    let lower = next_chunk checked pool frame chain at next below c.place_of.ensures.sound is first in
    let both : Some next.chunk ≡ Some c.in-Some.chunk = sym lower.found ∙ ap (chunk_at pool) (sym c.read.ensures.value) ∙ sym c.in-Some.ensures.value in
    let same : next.chunk ≡ c.in-Some.chunk = cc in
    read_next checked pool frame (record { function = c.args.function; low = c.read-then-end-chunk_end.result; chunk = c.in-Some.chunk }) chain at next below is lower.headers
    function (lower.low ∙ sym c.read-then-end-chunk_end.ensures.value) same

pub returns-else-end-chunk_end : goal.returns-else-end-chunk_end
returns-else-end-chunk_end c = λ chain at next below is function.
    let checked = checked_of c.args.accepted.now in
    let pool = c.args.pool.now in
    let frame = c.args.frame in
    let fact : c.fact_of.result.now ≡ fact_at c.args.accepted.now.certificate frame.function = c.fact_of.ensures ∙ ap (λ (x : Certificate). fact_at x frame.function) c.certificate.ensures in
    let size = ap (λ (f : FunctionFact). f.frame) fact in
    let other = ends_before checked pool frame chain at (next ∷ below) is (λ end. c.if-end-chunk_end.false (omega (arith, size, end, c.place_of.ensures.place, c.bytes_of.ensures.value))) in
    let lower = same_chunk checked pool frame chain at next below is other in
    read_next checked pool frame (record { function = c.args.function; low = frame.low + c.fact_of.result.now.frame; chunk = frame.chunk }) chain at next below is lower.headers
    function (lower.low ∙ ap (λ (n : ℕ). frame.low + n) (sym size)) lower.chunk
