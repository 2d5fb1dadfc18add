-- Which words reach the parser, and how it reads them: as one command without subcommands, whose first positional word
-- is the command's name.
use Rattle.std.specs.Prelude.{ℕ, ◌≡◌, ◌⊎◌, ◌≤◌, true, List, [], ◌∷◌, length, codes, fold, slice_get, Option, Some}
use Rattle.std.specs.List.{flat_map, AllByRecursion}
use Rattle.clap.specs.Simple.{App, on_top, new_app, new_rule, with_rule}
use Rattle.clap.specs.Walk.{Rule}
use Rattle.command_words.specs.Said.{Said, words_of, IsPlain, IsPlainSaid, positionals_of, options_of, value_of}
use Rattle.command_words.specs.Said.{IsOneOf, AreOnce}
use Rattle.command_words.specs.OptionTable.{all_table, placement_table, run_table, shared_table, audit_table, name_of}
use Rattle.command_words.specs.OptionTable.{long_name_of, names_of}
use Rattle.command_words.specs.declared.option_table.CommandOption.{CommandOption}

abbrev pub command_names : List (List ℕ)
command_names =
    codes "serve" ∷ codes "run" ∷ codes "build" ∷ codes "check" ∷ codes "graph" ∷ codes "demo" ∷ codes "audit" ∷ codes
    "budget" ∷ []

abbrev pub all_options : List (List ℕ)
all_options = names_of all_table

-- a value, a positional word or an option's name
abbrev pub IsWord : List ℕ → Type 0
IsWord word = IsPlain word ⊎ IsOneOf all_options word

-- the words reach the parser: the first is a command, and any other that is empty or begins with `-` is an option's
-- name
abbrev pub IsReadable : List (List ℕ) → Type 0
IsReadable [] = ⊥
IsReadable (first ∷ rest) = IsOneOf command_names first × AllByRecursion IsWord rest

-- all words, including the command's name, say this: each option at most once, and at most four positional words
pub record IsSaid (words : List (List ℕ)) (said : List Said) : Type 0 where
  pub in_words : words ≡ flat_map words_of said
  pub plain : AllByRecursion IsPlainSaid said
  pub known : AllByRecursion (IsOneOf all_options) (options_of said)
  pub once : AreOnce (options_of said)
  pub few : length (positionals_of said) ≤ 4

-- `given` returns the texts of the options and of the positional words, by name
pub record Tells (given : List ℕ → Option (List ℕ)) (said : List Said) : Type 0 where
  pub options : AllByRecursion (λ option. given option ≡ value_of said option) all_options
  pub command : given (codes "command") ≡ slice_get (positionals_of said) 0
  pub first : given (codes "first") ≡ slice_get (positionals_of said) 1
  pub second : given (codes "second") ≡ slice_get (positionals_of said) 2
  pub third : given (codes "third") ≡ slice_get (positionals_of said) 3

abbrev pub IsReadAs : List (List ℕ) → (List ℕ → Option (List ℕ)) → Type 0
IsReadAs words given = (said : List Said) × IsSaid words said × Tells given said

-- the parser's command: positional words and options are added one after another
abbrev pub with_place : App → List ℕ → App
with_place app name = with_rule app (new_rule name)

abbrev pub option_rule : CommandOption → Rule
option_rule it = record (new_rule (name_of it)) { long = Some (long_name_of it) }

abbrev pub with_option : App → CommandOption → App
with_option app it = with_rule app (option_rule it)

abbrev pub place_names : List (List ℕ)
place_names = codes "command" ∷ codes "first" ∷ codes "second" ∷ codes "third" ∷ []

abbrev pub bare_app : App
bare_app = on_top (λ top. record top { no_binary_name = true; disable_help_flag = true }) (new_app (codes "capriccio"))

abbrev pub words_app : App
words_app =
    let placed = fold with_option (fold with_place bare_app place_names) placement_table in
    fold with_option (fold with_option (fold with_option placed run_table) shared_table) audit_table
