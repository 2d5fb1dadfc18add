-- Which lists of words the program accepts, and for which command each asks.
use Rattle.std.specs.Prelude.{ℕ, ◌≡◌, ◌+◌, ◌*◌, ◌≤◌, List, [], ◌∷◌, ◌++◌, codes}
use Rattle.std.specs.List.{flat_map, AllByRecursion}
use Rattle.cap_text.specs.Decimals.{canonical_decimal}
use Rattle.command_words.specs.Said.{Said, words_of, IsPlainSaid, positionals_of, options_of, value_of, IsOneOf}
use Rattle.command_words.specs.Said.{AreOnce}
use Rattle.command_words.specs.OptionTable.{placement_table, run_table, shared_table, audit_table, names_of}
use Rattle.command_words.specs.Values.{IsAudit, IsPlacement, IsPolicy}
use Rattle.command_words.specs.declared.commands.Command.{Command}
use Rattle.command_words.specs.declared.commands.Command.TheVariants as command
use Rattle.command_words.specs.declared.options.Audit.{Audit as AuditOptions}
use Rattle.command_words.specs.declared.options.Placement.{Placement}
use Rattle.command_words.specs.declared.options.Policy.{Policy}

-- a command with the names of its files and its options
pub data Request : Type 0 where
  Serve : (source : List ℕ) → Placement → Policy → Request
  Run : (source image certificate : List ℕ) → Policy → Request
  Build : (source image certificate : List ℕ) → Placement → Request
  Check : (source image certificate : List ℕ) → Request
  Graph : (source : List ℕ) → Placement → Request
  Demo : ℕ → Request
  Audit : (source log : List ℕ) → AuditOptions → Request
  Budget : (source image certificate : List ℕ) → Request

-- the request of a command that the code returns
abbrev pub request_of : Command → Request
request_of (command.Serve source placement policy) = Serve source.now placement policy
request_of (command.Run source image certificate policy) = Run source.now image.now certificate.now policy
request_of (command.Build source image certificate placement) = Build source.now image.now certificate.now placement
request_of (command.Check source image certificate) = Check source.now image.now certificate.now
request_of (command.Graph source placement) = Graph source.now placement
request_of (command.Demo number) = Demo number
request_of (command.Audit source log options) = Audit source.now log.now options
request_of (command.Budget source image certificate) = Budget source.now image.now certificate.now

-- the options of placement
abbrev pub placement_options : List (List ℕ)
placement_options = names_of placement_table

-- the options that only runs take
abbrev pub run_options : List (List ℕ)
run_options = names_of run_table

-- all options of a run
abbrev pub policy_options : List (List ℕ)
policy_options = names_of (run_table ++ shared_table)

-- the options that only audits take
abbrev pub audit_options : List (List ℕ)
audit_options = names_of audit_table

-- all options of an audit
abbrev pub audit_policy : List (List ℕ)
audit_policy = names_of (shared_table ++ audit_table)

-- the words are the command's name and, in any order, exactly these positional words and some of these options, each at
-- most once and followed by its value
pub record Says (words : List (List ℕ)) (name : List ℕ) (positionals options : List (List ℕ))
    (said : List Said) : Type 0 where
  pub in_words : words ≡ name ∷ flat_map words_of said
  pub plain : AllByRecursion IsPlainSaid said
  pub positional : positionals_of said ≡ positionals
  pub known : AllByRecursion (IsOneOf options) (options_of said)
  pub once : AreOnce (options_of said)

-- the words ask for the command
abbrev pub IsWordList : List (List ℕ) → Request → Type 0
IsWordList words (Serve source placement policy) =
    (said : List Said) × Says words (codes "serve") (source ∷ []) (placement_options ++ policy_options) said
    × IsPlacement (value_of said) placement × IsPolicy (value_of said) policy
    × (placement.chunk * policy.chunks + policy.extra_bytes * policy.extra ≤ 67108864)
IsWordList words (Run source image certificate policy) =
    (said : List Said) × Says words (codes "run") (source ∷ image ∷ certificate ∷ []) policy_options said
    × IsPolicy (value_of said) policy
IsWordList words (Build source image certificate placement) = (said : List Said)
    × Says words (codes "build") (source ∷ image ∷ certificate ∷ []) placement_options said
    × IsPlacement (value_of said) placement
IsWordList words (Check source image certificate) =
    (said : List Said) × Says words (codes "check") (source ∷ image ∷ certificate ∷ []) [] said
IsWordList words (Graph source placement) =
    (said : List Said) × Says words (codes "graph") (source ∷ []) placement_options said
    × IsPlacement (value_of said) placement
IsWordList words (Demo number) = (said : List Said) × Says words (codes "demo") (canonical_decimal number ∷ []) [] said
    × (1 ≤ number) × (number ≤ 1000)
IsWordList words (Audit source log options) =
    (said : List Said) × Says words (codes "audit") (source ∷ log ∷ []) audit_policy said
    × IsAudit (value_of said) options
IsWordList words (Budget source image certificate) =
    (said : List Said) × Says words (codes "budget") (source ∷ image ∷ certificate ∷ []) [] said
