-- A form that is filled number by number.
use Rattle.std.proofs.Common.{◌≡◌, true, List, ◌++◌, ℕ}
use Rattle.report_text.specs.Written.{Written}

-- what a text has and what is still to come are all of it
abbrev pub LeadsTo : List ℕ → List ℕ → Written → Written → Type 0
LeadsTo whole rest before after = after.is_whole ≡ true → (before.is_whole ≡ true) × (after.bytes ++ rest ≡ before.bytes ++ whole)
