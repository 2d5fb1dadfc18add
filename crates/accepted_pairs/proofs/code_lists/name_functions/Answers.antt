use Rattle.accepted_pairs.proofs.Common.{◌≡◌, ℕ, ◌+◌, ◌-◌, ◌/◌, ◌<◌, ◌≤◌, length, ap, subst, arith, slice_index, program_code, FunctionFact, NamesFunctions}
use Rattle.accepted_pairs.proofs.CodeListLemmas.{as_many, lies_inside, named_more}
use Rattle.accepted_pairs.proofs.code_lists.name_functions.Goals as goal

pub fact_of-fact-requires : goal.fact_of-fact-requires
fact_of-fact-requires c =
    let many = as_many (program_code c.args.flat.now) c.args.image.now c.args.certificate.now c.requires.valid in
    omega (arith, ap length c.functions.ensures, many, c.loop-f-test.true)

pub overflow_sub-start : goal.overflow_sub-start
overflow_sub-start c =
    let inside = lies_inside (program_code c.args.flat.now) c.args.image.now c.args.certificate.now c.loop-f.f c.requires.valid (omega (arith, ap length c.functions.ensures, c.loop-f-test.true)) in
    omega (arith, inside.1, ap (λ (x : FunctionFact). x.entry) c.fact_of-fact.ensures)

pub name_run-requires : goal.name_run-requires
name_run-requires c =
    let inside = lies_inside (program_code c.args.flat.now) c.args.image.now c.args.certificate.now c.loop-f.f c.requires.valid (omega (arith, ap length c.functions.ensures, c.loop-f-test.true)) in
    omega (arith, inside.0, inside.1, inside.2, ap (λ (x : FunctionFact). x.entry) c.fact_of-fact.ensures, ap (λ (x : FunctionFact). x.words) c.fact_of-fact.ensures, c.loop-f.invariant.count)

pub loop-f-preserved : goal.loop-f-preserved
loop-f-preserved c =
    let there : c.loop-f.f < length (program_code c.args.flat.now).functions = omega (arith, ap length c.functions.ensures, c.loop-f-test.true) in
    let inside = lies_inside (program_code c.args.flat.now) c.args.image.now c.args.certificate.now c.loop-f.f c.requires.valid there in
    let start : ℕ = (c.fact_of-fact.result.now.entry - 0x1000) / 4 in
    let new = c.name_run.new.functions in
    let is = c.fact_of-fact.ensures in
    let named : NamesFunctions c.args.certificate.now (c.loop-f.f + 1) new =
    named_more (program_code c.args.flat.now) c.args.image.now c.args.certificate.now c.loop-f.f start c.loop-f.functions new c.requires.valid there
    (omega (arith, inside.0, inside.1, ap (λ (x : FunctionFact). x.entry) is)) c.loop-f.invariant.named
    (subst (λ (x : FunctionFact). (word : ℕ) → start ≤ word → word < start + x.words → slice_index new word ≡ c.loop-f.f) is c.name_run.ensures.run)
    c.name_run.ensures.before
    (subst (λ (x : FunctionFact). (word : ℕ) → start + x.words ≤ word → slice_index new word ≡ slice_index c.loop-f.functions word) is c.name_run.ensures.behind) in
    record { named = named; count = omega (arith, c.loop-f.invariant.count, c.name_run.auto.functions) }

pub returns : goal.returns
returns c =
    let many = as_many (program_code c.args.flat.now) c.args.image.now c.args.certificate.now c.requires.valid in
    let end : c.loop-f.f ≡ length c.args.certificate.now.functions = omega (arith, ap length c.functions.ensures, many, c.loop-f-test.false, c.loop-f.auto.f-end) in
    subst (λ (n : ℕ). NamesFunctions c.args.certificate.now n c.loop-f.functions) end c.loop-f.invariant.named
