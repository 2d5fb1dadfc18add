-- The command for which named texts ask: the texts of the options, and those of the positional words `command`,
-- `first`, `second` and `third`.
use Rattle.std.specs.Prelude.{ℕ, ◌≡◌, ◌+◌, ◌*◌, ◌≤◌, List, codes, Option, Some, None}
use Rattle.std.specs.List.{AllByRecursion}
use Rattle.cap_text.specs.Decimals.{canonical_decimal}
use Rattle.clap.specs.Words.{first_value, found_of}
use Rattle.clap.specs.declared.parser.matches.ArgMatches.{ArgMatches}
use Rattle.command_words.specs.Values.{IsAudit, IsPlacement, IsPolicy}
use Rattle.command_words.specs.WordList.{Request, Serve, Run, Build, Check, Graph, Demo, Audit, Budget, audit_options}
use Rattle.command_words.specs.WordList.{placement_options, policy_options, run_options}

abbrev pub Texts : Type 0
Texts = List ℕ → Option (List ℕ)

-- the texts that the parser found, by name
abbrev pub texts_of : ArgMatches → Texts
texts_of matches = λ name. first_value (found_of matches) name

abbrev pub LacksAll : Texts → List (List ℕ) → Type 0
LacksAll given options = AllByRecursion (λ option. given option ≡ None) options

-- one word follows the command's name
abbrev pub HasOne : Texts → List ℕ → List ℕ → Type 0
HasOne given name word =
    (given (codes "command") ≡ Some name) × (given (codes "first") ≡ Some word) × (given (codes "second") ≡ None)

-- two words follow the command's name
abbrev pub HasTwo : Texts → List ℕ → List ℕ → List ℕ → Type 0
HasTwo given name first second = (given (codes "command") ≡ Some name) × (given (codes "first") ≡ Some first)
    × (given (codes "second") ≡ Some second) × (given (codes "third") ≡ None)

-- three words follow the command's name
abbrev pub HasThree : Texts → List ℕ → List ℕ → List ℕ → List ℕ → Type 0
HasThree given name first second third = (given (codes "command") ≡ Some name) × (given (codes "first") ≡ Some first)
    × (given (codes "second") ≡ Some second) × (given (codes "third") ≡ Some third)

abbrev pub IsAsked : Texts → Request → Type 0
IsAsked given (Serve source placement policy) = HasOne given (codes "serve") source
    × IsPlacement given placement × IsPolicy given policy
    × (placement.chunk * policy.chunks + policy.extra_bytes * policy.extra ≤ 67108864)
    × LacksAll given audit_options
IsAsked given (Run source image certificate policy) = HasThree given (codes "run") source image certificate
    × LacksAll given placement_options × IsPolicy given policy × LacksAll given audit_options
IsAsked given (Build source image certificate placement) = HasThree given (codes "build") source image certificate
    × IsPlacement given placement × LacksAll given policy_options × LacksAll given audit_options
IsAsked given (Check source image certificate) = HasThree given (codes "check") source image certificate
    × LacksAll given placement_options × LacksAll given policy_options × LacksAll given audit_options
IsAsked given (Graph source placement) = HasOne given (codes "graph") source
    × IsPlacement given placement × LacksAll given policy_options × LacksAll given audit_options
IsAsked given (Demo number) = HasOne given (codes "demo") (canonical_decimal number)
    × (1 ≤ number) × (number ≤ 1000) × LacksAll given placement_options × LacksAll given policy_options
    × LacksAll given audit_options
IsAsked given (Audit source log options) = HasTwo given (codes "audit") source log
    × LacksAll given placement_options × LacksAll given run_options × IsAudit given options
IsAsked given (Budget source image certificate) = HasThree given (codes "budget") source image certificate
    × LacksAll given placement_options × LacksAll given policy_options × LacksAll given audit_options
