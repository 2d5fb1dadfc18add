-- A small program is well formed, so that well-formedness is not empty.
use Rattle.std.proofs.Common.{refl, lit≤, lit<, rules, [], ◌∷◌, eqb}
use Rattle.std.specs.List.{IsDistinct}
use Rattle.flat_code.specs.Codes.{function_at}
use Rattle.flat_code.specs.Samples.{passing}
use Rattle.flat_code.specs.WellFormed.{IsFunction, IsWellFormed}

identity_formed : IsFunction passing (function_at passing 0)
identity_formed = record {
  params = lit≤ tt;
  parameters = refl;
  words = lit≤ tt;
  count = lit≤ tt;
  ops = search rules;
}

caller_formed : IsFunction passing (function_at passing 1)
caller_formed = record {
  params = lit≤ tt;
  parameters = refl;
  words = lit≤ tt;
  count = lit≤ tt;
  ops = search rules;
}

alone : IsDistinct eqb (0 ∷ [])
unfolding IsDistinct
alone = (tt, tt)

pub passing_formed : IsWellFormed passing
passing_formed = record {
  functions = (identity_formed, (caller_formed, tt));
  main_defined = lit< tt;
  main_params = refl;
  sites = alone;
  global_words = lit≤ tt;
  tables = tt;
  table_members = lit≤ tt;
}
