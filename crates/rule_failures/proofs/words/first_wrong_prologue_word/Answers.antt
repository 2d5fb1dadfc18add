use Rattle.rule_failures.proofs.Common.{true, length, refl, ap, arith, below_more, inl, inr, cases_lt, false≢true, program_code, prologue, V5}
use Rattle.rule_failures.proofs.CodeLemmas.{few_params, stands_there, stands_not, prologue_fails, prologue_holds, prologue_past}
use Rattle.rule_failures.proofs.words.first_wrong_prologue_word.Goals as goal

pub placed_fact_of-fact-requires-clause-certificate : goal.placed_fact_of-fact-requires-clause-certificate
placed_fact_of-fact-requires-clause-certificate c = c.requires.readable.places

pub prologue_word-requires-clause-places : goal.prologue_word-requires-clause-places
prologue_word-requires-clause-places c =
    let few = few_params c.function_of.result.now.sizes c.function_of.result.now.params c.function_of.ensures.formed.parameters in
    omega (arith, c.placed_fact_of-fact.ensures.places, ap (λ f. length f.sizes) c.function_of.ensures.value)

pub returns-then-word-fact : goal.returns-then-word-fact
returns-then-word-fact c = (
  prologue_fails (program_code c.args.flat.now) c.args.image.now c.args.certificate.now c.args.function c.loop-word.word c.function_of.result.now.params c.placed_fact_of-fact.result.now
      c.placed_fact_of-fact.ensures.value (ap (λ f. f.params) c.function_of.ensures.value) c.requires.function (omega arith) (λ instr e h. omega (arith, h.0)),
  λ j lt. c.loop-word.invariant j lt,
)

pub returns-then-not-stands_at : goal.returns-then-not-stands_at
returns-then-not-stands_at c = (
  prologue_fails (program_code c.args.flat.now) c.args.image.now c.args.certificate.now c.args.function c.loop-word.word c.function_of.result.now.params c.placed_fact_of-fact.result.now
      c.placed_fact_of-fact.ensures.value (ap (λ f. f.params) c.function_of.ensures.value) c.requires.function (omega arith)
      (λ instr e h. false≢true (stands_not c.args.image.now _ (prologue c.placed_fact_of-fact.result.now c.function_of.result.now.params) c.loop-word.word c.prologue_word.result c.prologue_word.ensures c.if-not-stands_at.ensures instr e h.1)),
  λ j lt. c.loop-word.invariant j lt,
)

pub loop-word-preserved : goal.loop-word-preserved
loop-word-preserved c = below_more (λ j. V5 (program_code c.args.flat.now) c.args.image.now c.args.certificate.now c.args.function j) c.loop-word.word c.loop-word.invariant
    (prologue_holds (program_code c.args.flat.now) c.args.image.now c.args.certificate.now c.args.function c.loop-word.word c.function_of.result.now.params c.placed_fact_of-fact.result.now
    c.placed_fact_of-fact.ensures.value (ap (λ f. f.params) c.function_of.ensures.value)
    (λ instr e. (omega arith, stands_there c.args.image.now _ (prologue c.placed_fact_of-fact.result.now c.function_of.result.now.params) c.loop-word.word c.prologue_word.result true c.prologue_word.ensures c.if-not-stands_at.ensures refl instr e)))

pub returns : goal.returns
returns c = λ i. elim (cases_lt i c.loop-word.word) [
  | inl below ↦ c.loop-word.invariant i below
  | inr past ↦ prologue_past (program_code c.args.flat.now) c.args.image.now c.args.certificate.now c.args.function i (omega (arith, ap (λ f. f.params) c.function_of.ensures.value))
]
