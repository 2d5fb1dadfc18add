-- The results of the readers of the parts of a certificate's text.
use Rattle.std.specs.Prelude.{◌≡◌, ℕ, ◌+◌, List, [], ◌∷◌}
use Rattle.certificate_text.specs.declared.errors.CertError.{CertError}
use Rattle.certificate_text.specs.declared.errors.CertError.TheVariants.{Line, Memory}
use Rattle.certificate_text.specs.declared.reading.Head.{Head}
use Rattle.certificate_text.specs.Text.{title_line, chunk_line, max_path_line, functions_line}
use Rattle.certificate_text.specs.FirstRefused.{Due, BreaksAfter}

-- the lines before those of the functions
abbrev pub head_lines : Head → List (List ℕ)
head_lines head = title_line ∷ chunk_line head.chunk ∷ max_path_line head.max_path ∷ functions_line head.functions ∷ []

-- what a refusal says of a text of which this is expected, and whose first line has that number
abbrev pub BreaksIn : Due → List ℕ → ℕ → CertError → Type 0
BreaksIn due text first (Line number) = (passed : ℕ) × (number ≡ first + passed) × BreaksAfter passed due text
BreaksIn due text first Memory = Unit {0}
