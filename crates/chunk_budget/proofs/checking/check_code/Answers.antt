use Rattle.chunk_budget.proofs.Common.{ap, length, arith, program_code}
use Rattle.chunk_budget.proofs.CheckLemmas.{low_refused, root_refused, is_budget}
use Rattle.chunk_budget.proofs.checking.check_code.Goals as goal

pub returns-in-Some : goal.returns-in-Some
returns-in-Some c = record {
  budget = tt;
  refused = low_refused (program_code c.args.flat.now) c.args.certificate.now c.args.budget.now c.args.flat.now.well_formed (omega (arith, ap length c.functions-functions.ensures)) (omega arith)
      c.in-Some.site (rw c.as_slice.ensures at c.in-Some.ensures);
}

pub returns-in-Some-least_high_root : goal.returns-in-Some-least_high_root
returns-in-Some-least_high_root c = record {
  budget = tt;
  refused = root_refused (program_code c.args.flat.now) c.args.certificate.now c.args.budget.now c.args.flat.now.well_formed (omega (arith, ap length c.functions-functions.ensures)) (omega arith)
      c.in-Some-least_high_root.function (rw c.as_slice.ensures at c.in-None.ensures) c.in-Some-least_high_root.ensures;
}

pub returns-in-None-least_high_root : goal.returns-in-None-least_high_root
returns-in-None-least_high_root c = record {
  budget = is_budget (program_code c.args.flat.now) c.args.certificate.now c.args.budget.now c.args.flat.now.well_formed (omega (arith, ap length c.functions-functions.ensures)) (omega arith)
      (rw c.as_slice.ensures at c.in-None.ensures) c.in-None-least_high_root.ensures;
  refused = tt;
}
