-- The answers of the checker.
use Rattle.std.specs.Prelude.{◌≢◌, ℕ, ◌<◌, Option, Some, None}
use Rattle.flat_code.specs.Codes.{FlatCode}
use Rattle.stack_image.specs.declared.images.Image.{Image}
use Rattle.stack_certificate.specs.declared.certificates.Certificate.{Certificate}
use Rattle.certificate_rules.specs.Validity.{IsValid, IsFirstFailure}
use Rattle.certificate_check.specs.declared.failures.Failure.{Failure}
use Rattle.rule_failures.specs.declared.spots.Spot.{Spot}

-- a failure of a rule that isn't about functions
abbrev pub at_zero : Option ℕ → Option Spot
at_zero None = None
at_zero (Some i) = Some (record { function = 0; index = i })

-- the rules from V3 to V11 that look at each function by itself: all but V7 and V8
abbrev pub IsFunctionRule : ℕ → Type 0
IsFunctionRule rule = (2 < rule) × (rule < 12) × (rule ≢ 7) × (rule ≢ 8)

-- the checker's answer: none if the pair is valid, and otherwise its first failure
abbrev pub IsAnswer : FlatCode → Image → Certificate → Option Failure → Type 0
IsAnswer code image certificate None = IsValid code image certificate
IsAnswer code image certificate (Some failure) = IsFirstFailure code image certificate failure.rule failure.function failure.index
