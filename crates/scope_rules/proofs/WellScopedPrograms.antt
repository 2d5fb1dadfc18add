-- A source that breaks no rule, defines main and exceeds no limit is a well-scoped program.
use Rattle.scope_rules.proofs.Common.{◌≡◌, ◌<◌, ◌≤◌, refl, ap, ◌∙◌, Bool, true, false, not, List, [], length, map, None, arith, codes, AllByRecursion, length-map, RawItemTree, AreWithinTemporaries, program_sites, capped, signature_of, IsWellScoped, signature_at, counting_site_numbers, find, function_in, definitions, at_start, is_missing, faults_of, parts_of, program_of, has_main, exceeded}
use Rattle.scope_rules.proofs.Growth.{numbers}
use Rattle.scope_rules.proofs.Definitions.{signatures_of, AreDefinitions, IsDefinedAs, definitions_are, find_definition, signatures_length, items_signatures}
use Rattle.scope_rules.proofs.Agreement.{AreBacked, all_backed}
use Rattle.scope_rules.proofs.WithinLimits.{AreWithin, within}
use Rattle.scope_rules.proofs.Lengthening.{HasWord, HasMember, items_positive, globals_few, tables_few}
use Rattle.scope_rules.proofs.Sites.{AreNumbered, all_numbered}
use Rattle.scope_rules.proofs.MainFunctions.{mains}
use Rattle.scope_rules.proofs.Fine.{IsThere, there, HasSignature, found_signature, IsFine, items_fine}

module _ (is : List RawItemTree) (none : faults_of is ≡ []) (has : has_main is ≡ true) (limits : exceeded (program_of is) ≡ None) (held : AreWithinTemporaries is) where
  here : AreWithin (program_of is)
  here = within (program_of is) limits

  agree : map signature_of (program_of is).functions ≡ signatures_of (definitions is)
  agree = items_signatures (definitions is) at_start [] is refl

  are : AreDefinitions (definitions is)
  are = definitions_are [] is tt

  short : length (definitions is) ≤ 65536
  short =
      let a = ap length agree in
      let b = signatures_length (definitions is) in
      let c = length-map (program_of is).functions signature_of in
      omega (arith, here.functions)

  backed : AreBacked (definitions is) (parts_of is).spot.names
  backed = all_backed (definitions is) at_start [] is none (λ t g k s. absurd s)

  positive : AllByRecursion HasWord (parts_of is).globals × AllByRecursion HasMember (parts_of is).tables
  positive = items_positive (definitions is) at_start is none (tt, tt)

  few_globals : length (program_of is).globals ≤ 65536
  few_globals = let a = globals_few (parts_of is).globals positive.0 in omega (arith, here.globals)

  few_tables : length (program_of is).tables ≤ 65536
  few_tables = let a = tables_few (parts_of is).tables positive.1 in omega (arith, here.tables)

  start_fine : IsFine (program_of is) at_start
  start_fine = record { fits = (tt, (tt, (tt, (tt, (tt, (tt, (tt, (tt, (tt, (tt, tt)))))))))); six = (tt, (tt, (tt, (tt, (tt, (tt, (tt, (tt, (tt, (tt, tt)))))))))); functions = tt; tables = tt }

  fine : IsFine (program_of is) (parts_of is)
  fine = items_fine (program_of is) (definitions is) (parts_of is).spot.names here agree are short backed few_globals few_tables [] at_start is none refl refl refl refl refl held start_fine

  main_there : IsThere (find (codes "main") (definitions is))
  main_there = there (find (codes "main") (definitions is)) (missing_not (is_missing (find (codes "main") (definitions is))) has)
    where
      missing_not : (b : Bool) → not b ≡ true → b ≡ false
      missing_not true h = cc
      missing_not false h = refl

  main_is : IsDefinedAs (definitions is) main_there.found
  main_is = find_definition (codes "main") (definitions is) main_there.found are short main_there.is

  main_signature : HasSignature main_there.found.meaning
  main_signature = found_signature (codes "main") (definitions is) main_there.found are main_there.is

  main_none : main_signature.count ≡ 0
  main_none = mains (definitions is) at_start [] is none (λ g k s. absurd s) main_signature.result main_signature.count (rw main_there.is main_signature.signed)

  numbered : AreNumbered (program_sites (program_of is)) (parts_of is).spot.site
  numbered = all_numbered is

  pub well_scoped : IsWellScoped (program_of is)
  well_scoped = record {
    bodies = fine.functions;
    functions = here.functions;
    main_defined =
        let a : function_in main_there.found.meaning < length (map signature_of (program_of is).functions) = rw agree main_is.0 in
        let b = length-map (program_of is).functions signature_of in
        let c : function_in main_there.found.meaning < length (program_of is).functions = omega arith in
        rw main_there.is c;
    main_params =
        let a : signature_at (map signature_of (program_of is).functions) (function_in main_there.found.meaning) ≡ record { params = capped main_signature.count; gives = main_signature.result } = rw agree (main_is.1 ∙ main_signature.signature) in
        let b : capped main_signature.count ≡ 0 = ap capped main_none in
        rw main_there.is (ap (λ x. x.params) a ∙ b);
    site_numbers = let s = here.sites in counting_site_numbers (numbers (program_sites (program_of is))) (numbered.rise (omega arith));
    sites = here.sites;
    global_sizes = positive.0;
    global_words = here.globals;
    tables = fine.tables;
    table_members = here.tables;
  }
