use Rattle.accepted_pairs.proofs.SomeAt.{some_at}
use Rattle.segment_run.proofs.Common.{◌≡◌, ◌∙◌, ℕ, ◌+◌, ◌-◌, ◌/◌, ◌<◌, ◌≤◌, length, ap, subst, sym, arith, lowered, accepted_tree, FlatCode, function_at, FlatFunction, formed, InOperation, IsAt, fact_at, words_before, Certificate, FunctionFact, checked_of}
use Rattle.stack_certificate.proofs.PlaceLemmas.{function_formed}
use Rattle.segment_run.proofs.Standing.{same_count, first_words, has_word, one_operation, not_past}
use Rattle.segment_run.proofs.places.operation_with.Goals as goal

pub fact_of-requires : goal.fact_of-requires
fact_of-requires c =
    let count = ap (λ (x : Certificate). length x.functions) c.certificate.ensures in
    let same = same_count (lowered (accepted_tree c.args.accepted.now)) c.args.accepted.now.image c.args.accepted.now.certificate c.requires.valid in
    omega (arith, count, same, c.requires.there.2.0)

-- the word of an address in its function
word_is : (flat : FlatCode) (certificate read : Certificate) (fact : FunctionFact) (address f i word n : ℕ) → read ≡ certificate → fact ≡ fact_at read f → n ≡ (address - fact.entry) / 4
    → IsAt (record { flat = flat; certificate = certificate }) address (InOperation f i word) → n ≡ words_before flat certificate f i + word
word_is flat certificate read fact address f i word n read_is fact_is n_is at =
    let fact_there : fact ≡ fact_at certificate f = fact_is ∙ ap (λ (x : Certificate). fact_at x f) read_is in
    let entry : fact.entry ≡ (fact_at certificate f).entry = ap (λ (x : FunctionFact). x.entry) fact_there in
    omega (arith, n_is, entry, at.2)

pub halving-init : goal.halving-init
halving-init c =
    let flat : FlatCode = lowered (accepted_tree c.args.accepted.now) in
    let image = c.args.accepted.now.image in
    let certificate : Certificate = c.args.accepted.now.certificate in
    let there = c.requires.there in
    let is = word_is flat certificate _ c.fact_of.result.now c.args.address c.args.function there.0 there.1 c.from-word.result c.certificate.ensures c.fact_of.ensures c.from-word.ensures there.2 in
    let has = has_word (checked_of c.args.accepted.now) c.args.address c.args.function there.0 there.1 there.2 in
    let body : c.function_of-body.result.now ≡ function_at flat c.args.function = c.function_of-body.ensures ∙ ap (λ (x : FlatCode). function_at x c.args.function) c.flat.ensures in
    let count : c.len-high.result ≡ length (function_at flat c.args.function).ops = c.len-high.ensures ∙ ap (λ (x : FlatFunction). length x.ops) body in
    let past = not_past flat image certificate c.requires.valid c.args.address c.args.function there.0 there.1 there.2 in
    let formed_function = function_formed flat c.args.function (formed (accepted_tree c.args.accepted.now) image certificate c.args.accepted.now.program.well_scoped c.requires.valid) there.2.0 in
    let first = first_words flat image certificate c.requires.valid c.args.function there.0 in
    record {
      apart = omega (arith, count, has.inside);
      inside = omega (arith, count);
      few = omega (arith, count, formed_function.count);
      below = omega (arith, is, first);
      above = subst (λ (n : ℕ). c.from-word.result < words_before flat certificate c.args.function n) (sym count) (omega (arith, is, past));
    }

pub offset_bounds-before-middle : goal.offset_bounds-before-middle
offset_bounds-before-middle c = omega (arith, c.halving.invariant.apart, c.halving.invariant.few)

pub bounds-before-middle : goal.bounds-before-middle
bounds-before-middle c = omega (arith, c.halving.invariant.apart, c.halving.invariant.inside, c.words_before-before.ensures.count)

pub halving-preserved-then-before-middle : goal.halving-preserved-then-before-middle
halving-preserved-then-before-middle c =
    let middle : ℕ = c.halving.low + (c.halving.high - c.halving.low) / 2 in
    let inside : middle < c.halving.high = omega (arith, c.halving-test.true) in
    let words = c.words_before-before.ensures.each middle (omega (arith, inside, c.halving.invariant.inside)) in
    record {
      apart = inside;
      inside = c.halving.invariant.inside;
      few = c.halving.invariant.few;
      below = omega (arith, words, c.if-before-middle.true);
      above = c.halving.invariant.above;
    }

pub halving-preserved : goal.halving-preserved
halving-preserved c =
    let middle : ℕ = c.halving.low + (c.halving.high - c.halving.low) / 2 in
    let inside : middle ≤ c.halving.high = omega (arith, c.halving-test.true) in
    let words = c.words_before-before.ensures.each middle (omega (arith, inside, c.halving.invariant.inside)) in
    record {
      apart = omega (arith, c.halving-test.true);
      inside = omega (arith, inside, c.halving.invariant.inside);
      few = omega (arith, inside, c.halving.invariant.few);
      below = c.halving.invariant.below;
      above = omega (arith, words, c.if-before-middle.false);
    }

pub returns : goal.returns
returns c i word at =
    let flat : FlatCode = lowered (accepted_tree c.args.accepted.now) in
    let image = c.args.accepted.now.image in
    let certificate : Certificate = c.args.accepted.now.certificate in
    let is = word_is flat certificate _ c.fact_of.result.now c.args.address c.args.function i word c.from-word.result c.certificate.ensures c.fact_of.ensures c.from-word.ensures at in
    let there = some_at (function_at flat c.args.function).ops c.halving.low (omega (arith, c.halving.invariant.apart, c.halving.invariant.inside)) in
    let next : c.halving.high ≡ c.halving.low + 1 = omega (arith, c.halving.invariant.apart, c.halving-test.false) in
    let above = subst (λ (n : ℕ). c.from-word.result < words_before flat certificate c.args.function n) next c.halving.invariant.above in
    one_operation flat image certificate c.requires.valid c.args.address c.args.function i c.halving.low word there.0 at there.1
    (omega (arith, is, c.halving.invariant.below)) (omega (arith, is, above))
