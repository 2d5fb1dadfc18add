use Rattle.codegen_link.proofs.Common.{◌<◌, length, ap, subst, arith, program_code, numbered-pushed, fact_of}
use Rattle.codegen_link.proofs.AddressLemmas.{few-functions, words-next, words-within}
use Rattle.codegen_link.proofs.facts.facts_of.Goals as goal

pub overflow_cast-count : goal.overflow_cast-count
overflow_cast-count c = omega (arith, few-functions (program_code c.args.flat.now) c.args.plan.now c.requires.fits, ap length c.functions.ensures)

pub overflow_cast-words : goal.overflow_cast-words
overflow_cast-words c =
    let inside = subst (λ fs. c.loop-function.function < length fs) c.functions.ensures c.loop-function-test.true in
    omega (arith, c.function_size-words.ensures.words, words-within (program_code c.args.flat.now) c.args.plan.now c.loop-function.function inside, c.requires.fits)

pub fact-requires : goal.fact-requires
fact-requires c =
    let inside = subst (λ fs. c.loop-function.function < length fs) c.functions.ensures c.loop-function-test.true in
    record {
      each = c.requires.each;
      function = inside;
      before = c.loop-function.invariant.before;
      words = c.function_size-words.ensures.words;
      few = omega (arith, c.loop-function.invariant.before, words-within (program_code c.args.flat.now) c.args.plan.now c.loop-function.function inside, c.requires.fits);
    }

pub overflow_add-before : goal.overflow_add-before
overflow_add-before c =
    let inside = subst (λ fs. c.loop-function.function < length fs) c.functions.ensures c.loop-function-test.true in
    omega (arith, c.loop-function.invariant.before, c.function_size-words.ensures.words, words-within (program_code c.args.flat.now) c.args.plan.now c.loop-function.function inside, c.requires.fits)

pub loop-function-preserved : goal.loop-function-preserved
loop-function-preserved c =
    let code = program_code c.args.flat.now in
    let plan = c.args.plan.now in
    let f = c.loop-function.function in
    let inside = subst (λ fs. f < length fs) c.functions.ensures c.loop-function-test.true in
    record {
      facts = numbered-pushed (fact_of code plan) f _ _ _ c.loop-function.invariant.facts c.in_ok-push.ensures.items c.in_ok-fact.ensures;
      before = omega (arith, c.loop-function.invariant.before, c.function_size-words.ensures.words, words-next code plan f inside);
    }
