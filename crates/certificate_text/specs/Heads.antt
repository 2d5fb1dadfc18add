-- The numbers of a function's line before its places.
use Rattle.std.specs.Prelude.{ℕ, List, [], ◌∷◌}
use Rattle.certificate_text.specs.declared.fact_lines.FunctionHead.{FunctionHead}

abbrev pub head_numbers : FunctionHead → List ℕ
head_numbers head = head.entry ∷ head.words ∷ head.frame ∷ head.ra ∷ head.bound ∷ []
