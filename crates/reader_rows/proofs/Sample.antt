-- The small program is well scoped, so that well-scopedness is not empty.
use Rattle.std.proofs.Common.{refl, lit≤, lit<, [], ◌∷◌, eqb}
use Rattle.std.specs.List.{IsDistinct}
use Rattle.reader_rows.specs.Sample.{identity_tree, caller_tree, sample_tree}
use Rattle.c_tree.specs.WellScoped.{IsFunctionScoped, IsWellScoped}

identity_scoped : IsFunctionScoped sample_tree identity_tree
identity_scoped = record {
  params = lit≤ tt;
  sizes = refl;
  order = tt;
  words = lit≤ tt;
  temporaries = lit≤ tt;
  body = ((refl, (lit< tt, refl, refl)), tt);
}

caller_scoped : IsFunctionScoped sample_tree caller_tree
caller_scoped = record {
  params = lit≤ tt;
  sizes = refl;
  order = (refl, (refl, tt));
  words = lit≤ tt;
  temporaries = lit≤ tt;
  body = (
    (lit< tt, refl),
    (
      (lit< tt, refl),
      (
        (lit< tt, refl, refl, ((lit< tt, refl, (lit< tt, tt)), refl)),
        ((refl, (lit< tt, refl, refl)), tt),
      ),
    ),
  );
}

alone : IsDistinct eqb (0 ∷ [])
unfolding IsDistinct
alone = (tt, tt)

pub sample_scoped : IsWellScoped sample_tree
sample_scoped = record {
  bodies = (identity_scoped, (caller_scoped, tt));
  functions = lit≤ tt;
  main_defined = lit< tt;
  main_params = refl;
  site_numbers = (alone, (lit< tt, tt));
  sites = lit≤ tt;
  global_sizes = (lit≤ tt, tt);
  global_words = lit≤ tt;
  tables = ((lit≤ tt, ((lit< tt, refl, refl), tt)), tt);
  table_members = lit≤ tt;
}
