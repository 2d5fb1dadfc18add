-- The program of the rows is well formed, and the certificate is for it.
use Rattle.std.proofs.Common.{refl, lit≤, lit<, rules, [], ◌∷◌, eqb}
use Rattle.std.specs.List.{IsDistinct}
use Rattle.flat_code.specs.WellFormed.{IsFunction, IsWellFormed}
use Rattle.pair_rows.specs.Sample.{callee_function, main_function, putting_code, putting_function, sample_code}

callee_formed : IsFunction sample_code callee_function
callee_formed = record {
  params = lit≤ tt;
  parameters = refl;
  words = lit≤ tt;
  count = lit≤ tt;
  ops = search rules;
}

main_formed : IsFunction sample_code main_function
main_formed = record {
  params = lit≤ tt;
  parameters = refl;
  words = lit≤ tt;
  count = lit≤ tt;
  ops = search rules;
}

alone : IsDistinct eqb (0 ∷ 1 ∷ 2 ∷ 3 ∷ 4 ∷ 5 ∷ [])
unfolding IsDistinct
alone = ((refl, (refl, (refl, (refl, (refl, tt))))), ((refl, (refl, (refl, (refl, tt)))), ((refl, (refl, (refl, tt))), ((refl, (refl, tt)), ((refl, tt), (tt, tt))))))

pub sample_formed : IsWellFormed sample_code
sample_formed = record {
  functions = (callee_formed, (main_formed, tt));
  main_defined = lit< tt;
  main_params = refl;
  sites = alone;
  global_words = lit≤ tt;
  tables = ((lit≤ tt, ((lit< tt, refl, refl), tt)), ((lit≤ tt, ((lit< tt, refl, refl), ((lit< tt, refl, refl), tt))), tt));
  table_members = lit≤ tt;
}

putting_function_formed : IsFunction putting_code putting_function
putting_function_formed = record {
  params = lit≤ tt;
  parameters = refl;
  words = lit≤ tt;
  count = lit≤ tt;
  ops = search rules;
}

single : IsDistinct eqb (0 ∷ [])
unfolding IsDistinct
single = (tt, tt)

pub putting_formed : IsWellFormed putting_code
putting_formed = record {
  functions = (putting_function_formed, tt);
  main_defined = lit< tt;
  main_params = refl;
  sites = single;
  global_words = lit≤ tt;
  tables = tt;
  table_members = lit≤ tt;
}
