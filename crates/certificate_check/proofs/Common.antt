-- The names that this crate's proofs cite from other crates and from its definitions, passed on from one place. Declares nothing.
pub use Rattle.std.proofs.Common.{[], ◌+◌, ◌<◌, ◌∙◌, ◌≡◌, ◌≤◌, List, None, Option, Some, ap, arith, drop, false, inl, inr, length, map, min, refl, subst, sym, take, zero, ℕ}
pub use Rattle.std.proofs.lemmas.Bool.{cases_lt, false≢true}
pub use Rattle.std.proofs.lemmas.Result.{IfOk-weaker}
pub use Rattle.std.specs.Prelude.{MatchOption, max, slice_get, slice_index}
pub use Rattle.certificate_rules.proofs.HoldsLemmas.{holds_outside, holds_v1, holds_v10, holds_v11, holds_v12, holds_v2, holds_v3, holds_v4, holds_v5, holds_v6, holds_v7, holds_v8, holds_v9}
pub use Rattle.certificate_rules.specs.Rules.{V1, V10, V11, V12, V2, V3, V4, V5, V6, V7, V8, V9}
pub use Rattle.certificate_rules.specs.Sites.{certified_site, greatest_bound}
pub use Rattle.certificate_rules.specs.Validity.{Holds, IsFirstFailure, IsValid}
pub use Rattle.flat_code.specs.Codes.{FlatCode, function_at, operation_at}
pub use Rattle.flat_code.specs.ProgramView.{program_code}
pub use Rattle.flat_code.specs.declared.operations.Op.{Op}
pub use Rattle.rule_failures.specs.First.{HoldBelow, IsFirst, IsFirstSpot}
pub use Rattle.rule_failures.specs.declared.spots.Spot.{Spot}
pub use Rattle.stack_certificate.specs.declared.certificates.Certificate.{Certificate}
pub use Rattle.stack_image.specs.declared.images.Image.{Image}
pub use Rattle.certificate_check.specs.Answers.{IsFunctionRule, at_zero}
pub use Rattle.certificate_check.specs.LeastSite.{Fails, HoldsAtSite, HoldsBelow, IsLeastSite}
