-- The program of the rewritten tree runs as the text does.
use Rattle.hoist_meaning.proofs.Common.{ℕ, zero, suc, ◌≡◌, ◌≤◌, refl, sym, ap, subst, ◌∙◌, false, List, [], ◌∷◌, length, append-nil, arith, codes, slice_index_or, length-map, RawItemTree, FunctionTree, ProgramTree, AreFunctionsScoped, IsWellScoped, AreForPartsWhole, Binding, find, function_of, definitions, at_start, items_after, program_of, function_numbered, numbered, IsResolvedBy, is_call, items_places, site_numbers, RiseWithin, ranks_length, deep_start, deep_program, items_hoisted, items_hoisted_whole, RunsTheSame, AreItemsNamed}
use Rattle.c_tree.specs.Trees as tree
use Rattle.scope_rules.proofs.WithinLimits.{within}
use Rattle.deep_mean.specs.Naming as deep
use Rattle.hoist_meaning.proofs.SpawnedSources.{scoped_plain}
use Rattle.hoist_meaning.proofs.SiteNumbers.{Occurs, same_numbers}
use Rattle.hoist_meaning.proofs.TreeCounts.{each_call}
use Rattle.hoist_meaning.proofs.Parameters.{start_outer}
use Rattle.hoist_meaning.proofs.TreeSizes.{sizes_few}
use Rattle.hoist_meaning.proofs.SourceItems.{definitions_same, SofarAlike, items_alike}
use Rattle.hoist_meaning.proofs.SoundFunctions.{items_sound, each_sound}
use Rattle.hoist_meaning.proofs.Programs.{programs_same}

all_occur : (places : List ℕ) → Occurs places 0 places
all_occur places = record { earlier = []; later = []; is = sym (append-nil places); many = refl }

few_params : (program : ProgramTree) (fs : List FunctionTree) (f : ℕ) → AreFunctionsScoped program fs → (slice_index_or fs f (record { name = []; params = 0; gives = false; sizes = []; body = tree.NoStmts })).params ≤ 6
few_params program [] f h = omega arith
few_params program (g ∷ fs) zero h = h.0.params
few_params program (g ∷ fs) (suc f) h = few_params program fs f h.1

module _ (items : List RawItemTree) (end : ℕ) (whole : AreForPartsWhole items) (named : AreItemsNamed items) (rise : RiseWithin 0 (items_places is_call items) end)
    (program : ProgramTree) (resolved : IsResolvedBy (site_numbers (items_hoisted items)) (items_hoisted items) program) (scoped : IsWellScoped program) where
  abbrev there : List RawItemTree
  there = items_hoisted items

  abbrev ns : List ℕ
  ns = site_numbers there

  abbrev this : ProgramTree
  this = numbered ns (program_of there)

  this_scoped : IsWellScoped this
  this_scoped = subst IsWellScoped resolved.tree scoped

  same_definitions : definitions items ≡ definitions there
  same_definitions = sym (definitions_same [] items)

  starts_alike : SofarAlike deep_start at_start
  starts_alike = record { names = refl; globals = refl; tables = refl; text_none = refl; tree_none = refl; functions = refl }

  ends_alike : SofarAlike (deep.items_after (definitions items) deep_start items) (items_after (definitions there) at_start there)
  ends_alike = items_alike (definitions items) (definitions there) deep_start at_start items same_definitions starts_alike

  calls_few : length (items_places is_call there) ≤ 65536
  calls_few =
      let many = ranks_length [] (items_places is_call there) in
      let sites = each_call there (items_hoisted_whole items whole) in
      let limit = (within (program_of there) resolved.limits).sites in omega (arith, many, sites, limit)

  as_many : length (deep_program items).functions ≡ length this.functions
  as_many = ends_alike.functions ∙ sym (length-map (program_of there).functions (function_numbered ns))

  pub sources_same : RunsTheSame this (deep_program items)
  sources_same =
      let plain = scoped_plain items resolved.rules in
      programs_same (deep_program items) this ns ends_alike.tables this_scoped
      (each_sound (deep_program items) this ns (items_places is_call items) (items_places is_call there) (definitions items) (definitions there) same_definitions (sizes_few this this_scoped) (λ f. few_params this this.functions f this_scoped.bodies) calls_few
      (same_numbers items end plain rise) as_many
      (items_sound (deep_program items) this ns (items_places is_call items) (items_places is_call there) (definitions items) (definitions there) same_definitions (sizes_few this this_scoped) (λ f. few_params this this.functions f this_scoped.bodies) calls_few
      (same_numbers items end plain rise) items deep_start at_start starts_alike start_outer named whole plain resolved.rules refl refl (all_occur (items_places is_call items)) (all_occur (items_places is_call there)) (λ f less. absurd (omega arith))))
      (ap (λ (ds : List Binding). function_of (find (codes "main") ds)) same_definitions) ends_alike.globals
