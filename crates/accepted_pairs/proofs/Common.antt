-- The names that this crate's proofs cite from other crates and from its definitions, passed on from one place. Declares nothing.
pub use Rattle.decoded_code.proofs.MoreReady.{pushed}
pub use Rattle.std.proofs.Common.{[], ◌%◌, ◌*◌, ◌++◌, ◌+◌, ◌-◌, ◌/◌, ◌<◌, ◌^◌, ◌∙◌, ◌∷◌, ◌≡◌, ◌≢◌, ◌≤◌, ◌⊎◌, Bool, List, Some, ap, arith, false, inl, inr, length, lit<, refl, subst, suc, sym, true, zero, ℕ}
pub use Rattle.std.proofs.lemmas.Bool.{cases_lt, eq-eqb, eqb-true, ne_eqb, or_cases, or_left, or_right}
pub use Rattle.std.proofs.lemmas.List.{get_or-map, get_or_append_left, get_or_default, get_or_past, get_or_push, length-map, length_push}
pub use Rattle.std.specs.Prelude.{nat_eq, slice_get, slice_index, slice_index_or}
pub use Rattle.c_lower.specs.ProgramCode.{lowered}
pub use Rattle.c_tree.specs.ProgramView.{program_tree}
pub use Rattle.certificate_rules.specs.Sites.{fact_numbers, is_named}
pub use Rattle.certificate_rules.specs.Validity.{IsValid}
pub use Rattle.flat_code.specs.Codes.{FlatCode, function_at, operation_at}
pub use Rattle.flat_code.specs.ProgramView.{program_code}
pub use Rattle.flat_code.specs.WellFormed.{IsFunction, IsOperation, context_of}
pub use Rattle.stack_certificate.proofs.PlaceLemmas.{any_default, function_formed, operation_formed}
pub use Rattle.stack_certificate.specs.Certificates.{fact_at, kind_in, kind_or}
pub use Rattle.stack_certificate.specs.Templates.{HasPlaces, kind_of, size_at, words_before}
pub use Rattle.stack_certificate.specs.declared.certificates.Certificate.{Certificate}
pub use Rattle.stack_certificate.specs.declared.functions.FunctionFact.{FunctionFact}
pub use Rattle.stack_image.specs.declared.images.Image.{Image}
pub use Rattle.accepted_pairs.specs.Acceptance.{Acceptance}
pub use Rattle.accepted_pairs.specs.CodeLists.{AreBefore, NamesFunctions, StandsIn}
pub use Rattle.accepted_pairs.specs.Held.{AreWordsBefore, IsReadable}
