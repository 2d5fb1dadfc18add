-- The first line of a text that breaks the format of certificates.
use Rattle.std.specs.Prelude.{◌≡◌, ℕ, zero, suc, ◌+◌, ◌^◌, ◌<◌, ◌≤◌, List, [], ◌∷◌, ◌++◌, Option, None, Some}
use Rattle.stack_certificate.specs.declared.functions.FunctionFact.{FunctionFact}
use Rattle.stack_certificate.specs.declared.sites.SiteFact.{SiteFact}
use Rattle.certificate_text.specs.declared.errors.CertError.{CertError}
use Rattle.certificate_text.specs.declared.errors.CertError.TheVariants.{Line, Memory}
use Rattle.certificate_text.specs.Text.{title_line, chunk_line, max_path_line, functions_line, function_line, sites_line, site_line, HasFewPlaces, HoldsFunctionWords, HoldsSiteWords, IsAbove}

-- what is expected next: a line of the head; one of several lines of functions, with the count of sites after them; or
-- one of several lines of sites, after the last number of a site
pub data Due : Type 0 where
  Title : Due
  Chunk : Due
  MaxPath : Due
  FunctionCount : Due
  Functions : ℕ → Due
  Sites : ℕ → Option ℕ → Due

-- the line is as expected, and what is expected after it
abbrev pub IsAsSaid : Due → List ℕ → Due → Type 0
IsAsSaid Title line next = (line ≡ title_line) × (next ≡ Chunk)
IsAsSaid Chunk line next = (n : ℕ) × (n < 2 ^ 32) × (line ≡ chunk_line n) × (next ≡ MaxPath)
IsAsSaid MaxPath line next = (n : ℕ) × (n < 2 ^ 32) × (line ≡ max_path_line n) × (next ≡ FunctionCount)
IsAsSaid FunctionCount line next = (n : ℕ) × (n ≤ 4096) × (line ≡ functions_line n) × (next ≡ Functions n)
IsAsSaid (Functions (suc left)) line next =
    (fact : FunctionFact) × HasFewPlaces fact × HoldsFunctionWords fact × (line ≡ function_line fact) × (next ≡ Functions left)
IsAsSaid (Functions zero) line next = (n : ℕ) × (n ≤ 65535) × (line ≡ sites_line n) × (next ≡ Sites n None)
IsAsSaid (Sites (suc left) last) line next =
    (fact : SiteFact) × IsAbove last fact.number × HoldsSiteWords fact × (line ≡ site_line fact) × (next ≡ Sites left (Some fact.number))
IsAsSaid (Sites zero last) line next = ⊥

-- nothing more is expected
abbrev pub IsOver : Due → Type 0
IsOver Title = ⊥
IsOver Chunk = ⊥
IsOver MaxPath = ⊥
IsOver FunctionCount = ⊥
IsOver (Functions left) = ⊥
IsOver (Sites (suc left) last) = ⊥
IsOver (Sites zero last) = Unit {0}

-- the text neither begins with the expected line, with its LF, nor ends as expected
pub record BeginsOtherwise (due : Due) (text : List ℕ) : Type 0 where
  pub no_line : (line more : List ℕ) (next : Due) → text ≡ line ++ 10 ∷ more → IsAsSaid due line next → ⊥
  pub not_over : IsOver due → text ≡ [] → ⊥

-- this number of lines is as expected, and what follows them isn't
abbrev pub BreaksAfter : ℕ → Due → List ℕ → Type 0
BreaksAfter zero due text = BeginsOtherwise due text
BreaksAfter (suc passed) due text =
    (line : List ℕ) × (more : List ℕ) × (next : Due) × (text ≡ line ++ 10 ∷ more) × IsAsSaid due line next × BreaksAfter passed next more

-- the number, from 1, of the first line that isn't as expected, is missing, is one too many or lacks its LF
abbrev pub IsFirstRefused : List ℕ → ℕ → Type 0
IsFirstRefused text number = (passed : ℕ) × (number ≡ passed + 1) × BreaksAfter passed Title text

-- what a refusal says of the text
abbrev pub IsCauseOf : List ℕ → CertError → Type 0
IsCauseOf text (Line number) = IsFirstRefused text number
IsCauseOf text Memory = Unit {0}
