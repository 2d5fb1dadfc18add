use Rattle.rule_failures.proofs.Common.{length, sym, ap, ◌∙◌, arith, inl, inr, cases_lt, program_code, V2}
use Rattle.rule_failures.proofs.RangeLemmas.{counts_of, code_few, v2_past, v2_more}
use Rattle.rule_failures.proofs.FirstLemmas.{spot_in}
use Rattle.rule_failures.proofs.ranges.first_over_ranges.Goals as goal

pub first_in_range-requires-clause-entries : goal.first_in_range-requires-clause-entries
first_in_range-requires-clause-entries c = let e = counts_of (program_code c.args.flat.now) c.args.image.now c.args.certificate.now c.requires.below in e.1 ∙ sym e.0

pub first_in_range-requires-clause-code : goal.first_in_range-requires-clause-code
first_in_range-requires-clause-code c = code_few (program_code c.args.flat.now) c.args.image.now c.args.certificate.now c.requires.below

pub returns-in-Some : goal.returns-in-Some
returns-in-Some c = spot_in (V2 (program_code c.args.flat.now) c.args.image.now c.args.certificate.now) c.loop-f.f c.in-Some.index
    (c.in-Some.ensures.first (program_code c.args.flat.now) (sym c.requires.readable.functions)) c.loop-f.invariant.lower

pub loop-f-preserved : goal.loop-f-preserved
loop-f-preserved c = record {
  marked = c.in_default.ensures.marked;
  count = omega arith;
  lower = v2_more (program_code c.args.flat.now) c.args.image.now c.args.certificate.now c.loop-f.f c.loop-f.invariant.lower
      (c.in_default.ensures.first (program_code c.args.flat.now) (sym c.requires.readable.functions));
}

pub returns : goal.returns
returns c = λ f i. elim (cases_lt f c.loop-f.f) [
  | inl below ↦ c.loop-f.invariant.lower f i below
  | inr past ↦ v2_past (program_code c.args.flat.now) c.args.image.now c.args.certificate.now f i (omega (arith, ap length c.functions.ensures))
]
