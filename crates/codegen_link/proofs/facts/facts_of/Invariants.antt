use Rattle.codegen_link.proofs.Common.{◌≡◌, map, range_with_len, program_code, fact_of, words_to}
use Rattle.codegen_link.proofs.facts.facts_of.Given as goal

abbrev pub invariant-loop-function : goal.invariant-loop-function
invariant-loop-function l = record {
  facts : l.facts.items ≡ map (fact_of (program_code l.flat) l.plan) (range_with_len 0 l.function);
  before : l.before ≡ words_to (program_code l.flat) l.plan l.function;
}
