-- The premises of the law hold of a small program and of a thread of it.
use Rattle.machine_meaning.proofs.Common.{zero, suc, [], ◌∷◌, Some, refl, arith, lit≤, lit<, eqb, IsDistinct, ModelledCall, IsFunctionScoped, IsWellScoped, ToNowhere, ToLocal}
use Rattle.c_tree.specs.Trees.{Number, Local, CallFunction, CallModelled}
use Rattle.machine_meaning.specs.Sample.{printing, calling, nested, returning, nested_waiting, nested_flat}
use Rattle.machine_meaning.specs.StandsFor.{ScopeStands, StandsFor}

printing_scoped : IsFunctionScoped nested printing
printing_scoped = record {
  params = lit≤ tt;
  sizes = refl;
  order = tt;
  words = lit≤ tt;
  temporaries = lit≤ tt;
  body = ((refl, ((lit< tt, refl, refl), tt)), ((refl, (lit< tt, refl, refl)), tt));
}

calling_scoped : IsFunctionScoped nested calling
calling_scoped = record {
  params = lit≤ tt;
  sizes = refl;
  order = (refl, tt);
  words = lit≤ tt;
  temporaries = lit≤ tt;
  body = ((lit< tt, refl), ((lit< tt, refl, refl, ((lit< tt, refl, (lit< tt, tt)), refl)), ((refl, (lit< tt, refl, refl)), tt)));
}

apart : IsDistinct eqb (0 ∷ 1 ∷ [])
unfolding IsDistinct
apart = ((refl, tt), (tt, tt))

pub nested_scoped : IsWellScoped nested
nested_scoped = record {
  bodies = (printing_scoped, (calling_scoped, tt));
  functions = lit≤ tt;
  main_defined = lit< tt;
  main_params = refl;
  site_numbers = (apart, (lit< tt, (lit< tt, tt)));
  sites = lit≤ tt;
  global_sizes = tt;
  global_words = lit≤ tt;
  tables = tt;
  table_members = lit≤ tt;
}

front_scope : ScopeStands printing (0 ∷ []) ((1 ∷ []) ∷ []) nested_flat.frame
front_scope zero lt seen = refl
front_scope (suc x) lt seen = absurd (omega arith)

below_scope : ScopeStands calling (0 ∷ []) ((0 ∷ []) ∷ []) (record { function = 1; next = 2; variables = Some (0 ∷ []) ∷ Some (1 ∷ []) ∷ [] })
below_scope zero lt seen = refl
below_scope (suc x) lt seen = absurd (omega arith)

pub nested_stands : StandsFor nested nested_waiting nested_flat
nested_stands = record {
  front = record {
    call = record { call = CallModelled 0 ModelledCall.Put (Local 0 ∷ []); target = ToNowhere; scope = 0 ∷ []; rest = returning };
    waits = record { in_text = (0, lit< tt, refl); site = refl; target = refl; rest = refl };
    function = refl;
    site = refl;
    names = refl;
    variables = refl;
    scope = front_scope;
    index = tt;
  };
  below = (
    record {
      call = record { call = CallFunction 1 0 (Number 1 ∷ []); target = ToLocal 0; scope = 0 ∷ []; rest = returning };
      waits = record { in_text = (0, lit< tt, refl); site = refl; target = refl; rest = refl };
      function = refl;
      site = refl;
      names = refl;
      variables = refl;
      scope = below_scope;
      index = tt;
    },
    tt,
  );
}
