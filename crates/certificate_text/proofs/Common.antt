-- The names that this crate's proofs cite from other crates and from its definitions, passed on from one place. Declares nothing.
pub use Rattle.std.proofs.Common.{[], ◌++◌, ◌+◌, ◌-◌, ◌<◌, ◌==◌, ◌^◌, ◌∙◌, ◌∷◌, ◌≡◌, ◌≤◌, ◌⊎◌, Bool, Err, FitsSigned, IfErr, IfNone, IfOk, IfSome, List, MatchResult, None, Ok, Option, Result, Some, ap, append-nil, append_assoc, arith, codes, cond, drop, false, get_or, inl, inr, is_ok, length, length-append, map, of_z, pos, refl, subst, suc, sym, take, to_z, true, zero, ℕ, ℤ}
pub use Rattle.std.proofs.ByRecursion.{All-more, All-push}
pub use Rattle.std.proofs.lemmas.List.{append_cancel_left, flat_map_more, get_or-take, length-take-le, map_more, take_rest}
pub use Rattle.std.specs.List.{AllByRecursion, position, position_or_len}
pub use borrow.Author.Tests.{eq-eqb, ne_eqb}
pub use Rattle.cap_text.proofs.DecimalLaws.{decimal_unique}
pub use Rattle.cap_text.proofs.PieceLaws.{Visible, all_lack, from_shown, lacks-append, lacks_after_each, pieces_joined, text_of_pieces, visible_decimal, visible_lacks}
pub use Rattle.cap_text.specs.Decimals.{canonical_decimal}
unfoldable pub use Rattle.cap_text.specs.Decimals.{canonical_integer}
pub use Rattle.cap_text.specs.Pieces.{Lacks, after_each, pieces}
pub use Rattle.cap_text.specs.TextLines.{ended_lines, lines_of}
pub use Rattle.stack_certificate.specs.declared.certificates.Certificate.{Certificate}
pub use Rattle.stack_certificate.specs.declared.functions.FunctionFact.{FunctionFact}
pub use Rattle.stack_certificate.specs.declared.sites.LinkKind.{LinkKind}
pub use Rattle.stack_certificate.specs.declared.sites.SiteFact.{SiteFact}
pub use Rattle.certificate_text.specs.FirstRefused.{BeginsOtherwise, BreaksAfter, Chunk, Due, FunctionCount, Functions, IsAsSaid, IsCauseOf, IsFirstRefused, IsOver, MaxPath, Sites, Title}
pub use Rattle.certificate_text.specs.Text.{AreWords, HasFewPlaces, HoldsFunctionWords, HoldsKindWords, HoldsSiteWords, HoldsWords, IsAbove, IsWithinLimits, Rises, certificate_lines, chunk_line, function_line, function_numbers, functions_line, kind_fields, max_path_line, site_line, sites_line, title_line}
unfoldable pub use Rattle.certificate_text.specs.Text.{spelling}
