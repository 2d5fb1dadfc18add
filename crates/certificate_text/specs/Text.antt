-- The text of a certificate.
use Rattle.std.specs.Prelude.{ℕ, ◌^◌, ◌<◌, ◌≤◌, List, [], ◌∷◌, ◌++◌, length, map, codes, Option, None, Some}
use Rattle.std.specs.List.{AllByRecursion}
use Rattle.cap_text.specs.Decimals.{canonical_decimal}
use Rattle.cap_text.specs.Pieces.{after_each}
use Rattle.cap_text.specs.TextLines.{ended_lines}
use Rattle.stack_certificate.specs.declared.certificates.Certificate.{Certificate}
use Rattle.stack_certificate.specs.declared.functions.FunctionFact.{FunctionFact}
use Rattle.stack_certificate.specs.declared.sites.SiteFact.{SiteFact}
use Rattle.stack_certificate.specs.declared.sites.LinkKind.{LinkKind}
use Rattle.stack_certificate.specs.declared.sites.LinkKind.TheVariants.{Plain, Linked, Spawned}

-- The lines, without their LF.

abbrev pub title_line : List ℕ
title_line = codes "capriccio certificate 1"

abbrev pub chunk_line : ℕ → List ℕ
chunk_line n = codes "chunk " ++ canonical_decimal n

abbrev pub max_path_line : ℕ → List ℕ
max_path_line n = codes "max-path " ++ canonical_decimal n

abbrev pub functions_line : ℕ → List ℕ
functions_line n = codes "functions " ++ canonical_decimal n

abbrev pub sites_line : ℕ → List ℕ
sites_line n = codes "sites " ++ canonical_decimal n

-- the numbers of a function's line: its entry, words, frame, ra and bound, followed by its places
abbrev pub function_numbers : FunctionFact → List ℕ
function_numbers fact = fact.entry ∷ fact.words ∷ fact.frame ∷ fact.ra ∷ fact.bound ∷ fact.places

abbrev pub function_line : FunctionFact → List ℕ
function_line fact = codes "function" ++ after_each 32 (map canonical_decimal (function_numbers fact))

abbrev pub kind_fields : LinkKind → List (List ℕ)
kind_fields Plain = codes "plain" ∷ []
kind_fields (Linked need) = codes "linked" ∷ canonical_decimal need ∷ []
kind_fields (Spawned need) = codes "spawn" ∷ canonical_decimal need ∷ []

abbrev pub site_line : SiteFact → List ℕ
site_line fact = codes "site" ++ after_each 32 (canonical_decimal fact.number ∷ kind_fields fact.kind)

-- the lines of a certificate, in order
abbrev pub certificate_lines : Certificate → List (List ℕ)
certificate_lines c =
    title_line ∷ chunk_line c.chunk ∷ max_path_line c.max_path ∷ functions_line (length c.functions) ∷ (map function_line c.functions
    ++ (sites_line (length c.sites) ∷ map site_line c.sites))

-- its one spelling: each line ends with LF
unfoldable pub spelling : Certificate → List ℕ
spelling c = ended_lines (certificate_lines c)

-- The limits.

-- a number above the last, if there is a last
abbrev pub IsAbove : Option ℕ → ℕ → Type 0
IsAbove None number = Unit {0}
IsAbove (Some last) number = last < number

-- the numbers of the sites strictly increase, from above the last
abbrev pub Rises : Option ℕ → List SiteFact → Type 0
Rises last [] = Unit {0}
Rises last (fact ∷ facts) = IsAbove last fact.number × Rises (Some fact.number) facts

-- at most 4,096 places
abbrev pub HasFewPlaces : FunctionFact → Type 0
HasFewPlaces fact = length fact.places ≤ 4096

pub record IsWithinLimits (c : Certificate) : Type 0 where
  pub functions : length c.functions ≤ 4096
  pub places : AllByRecursion HasFewPlaces c.functions
  pub sites : length c.sites ≤ 65535
  pub rising : Rises None c.sites

-- The numbers are words.

abbrev pub AreWords : List ℕ → Type 0
AreWords numbers = AllByRecursion (λ number. number < 2 ^ 32) numbers

abbrev pub HoldsFunctionWords : FunctionFact → Type 0
HoldsFunctionWords fact = AreWords (function_numbers fact)

abbrev pub HoldsKindWords : LinkKind → Type 0
HoldsKindWords Plain = Unit {0}
HoldsKindWords (Linked need) = need < 2 ^ 32
HoldsKindWords (Spawned need) = need < 2 ^ 32

abbrev pub HoldsSiteWords : SiteFact → Type 0
HoldsSiteWords fact = (fact.number < 2 ^ 32) × HoldsKindWords fact.kind

pub record HoldsWords (c : Certificate) : Type 0 where
  pub chunk : c.chunk < 2 ^ 32
  pub max_path : c.max_path < 2 ^ 32
  pub functions : AllByRecursion HoldsFunctionWords c.functions
  pub sites : AllByRecursion HoldsSiteWords c.sites
