-- The names that this crate's proofs cite from other crates and from its definitions, passed on from one place. Declares nothing.
pub use Rattle.std.proofs.Common.{[], ◌%◌, ◌*◌, ◌++◌, ◌+◌, ◌-◌, ◌/◌, ◌<◌, ◌∙◌, ◌∷◌, ◌≡◌, ◌≢◌, ◌≤◌, Bool, List, None, Option, Some, ap, arith, below_more, false, inl, inr, length, map, refl, subst, suc, sym, take, true, zero, zero-add, ℕ}
pub use Rattle.std.proofs.lemmas.Bool.{cases_eq, cases_lt, eq-eqb, eqb-false, eqb-true, false≢true, ltb-false, ltb-true, ne_eqb, or_right}
pub use Rattle.std.proofs.lemmas.List.{get_or-set_other, get_or-set_same, get_or_append_left, get_or_at, get_or_default, get_or_past, length-map, length-replicate, length-take, take_all}
pub use Rattle.std.proofs.lemmas.Option.{same_Some, slice_get-get_or, slice_get-map, slice_get_past, slice_get_read, slice_get_within}
pub use Rattle.std.specs.List.{list_any}
pub use Rattle.std.specs.List.Sorted.{IsStrictlyIncreasing}
pub use Rattle.std.specs.Prelude.{IsTrue, flat_map, if◌then◌else◌, nat_eq, nat_lt, option_map, replicate, slice_get, slice_index, slice_index_or, slice_set, sum_by, ◌||◌, ◌↔◌}
pub use Rattle.certificate_rules.specs.Ranges.{AreApart, IsIn, Stands}
pub use Rattle.certificate_rules.specs.Rules.{IsPlaced, V1, V12, V2, V4, V5, V6, V7, V8, frame_places, frame_words, member_entries, starting_words}
pub use Rattle.certificate_rules.specs.Sites.{NamesSites, certified_site, fact_numbers, has_site, is_named, is_site, is_spawned, starts_thread}
pub use Rattle.flat_code.specs.Codes.{FlatCode, function_at, operation_at, site_of}
pub use Rattle.flat_code.specs.ProgramView.{program_code}
pub use Rattle.flat_code.specs.declared.operations.Op.{Op}
pub use Rattle.rv_code.specs.declared.instructions.Instr.{Instr}
pub use Rattle.stack_certificate.proofs.AddressLemmas.{sum_room, sum_step}
pub use Rattle.stack_certificate.specs.Certificates.{fact_at, kind_in}
pub use Rattle.stack_certificate.specs.Templates.{begin, kind_at, kind_of, prologue, row_at, setting, setting_at, size, size_at, template, words_before}
pub use Rattle.stack_certificate.specs.declared.certificates.Certificate.{Certificate}
pub use Rattle.stack_certificate.specs.declared.functions.FunctionFact.{FunctionFact}
pub use Rattle.stack_image.specs.declared.images.Image.{Image}
pub use Rattle.rule_failures.specs.First.{HoldBelow, IsFirst, IsFirstOther, IsFirstSpot, unfit_spot}
pub use Rattle.rule_failures.specs.Marks.{AreMarked, is_marked}
pub use Rattle.rule_failures.specs.Named.{IsNamedRight}
