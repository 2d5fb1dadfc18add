-- The options of the command line, as one table: each with its name, its default and its range, and which commands take
-- it.
use Rattle.std.specs.Prelude.{ℕ, List, [], ◌∷◌, ◌++◌, drop, map, codes}
use Rattle.command_words.specs.declared.option_table.CommandOption.{CommandOption}
use Rattle.command_words.specs.declared.option_table.CommandOption.TheVariants as option

-- the name with its dashes, the default, and the least and the greatest number. The least and greatest number of a list
-- are those of each member, and its default isn't used; `--rule` takes a word, and its numbers are 0. If the numbers of
-- an option depend on another option, the row has the default for that one's default and the greatest number for its
-- greatest: `IsPlacement` and `IsPolicy` define the numbers of `--max-path` and `--low` for any chunk and any `--high`
pub record OptionRow : Type 0 where
  pub name : List ℕ
  pub default : ℕ
  pub least : ℕ
  pub most : ℕ

abbrev row : List ℕ → ℕ → ℕ → ℕ → OptionRow
row name default least most = record { name = name; default = default; least = least; most = most }

-- the table
abbrev pub row_of : CommandOption → OptionRow
row_of option.Chunk = row (codes "--chunk") 4096 64 65536
row_of option.MaxPath = row (codes "--max-path") 2032 16 65520
row_of option.ExtraSize = row (codes "--extra-size") 64 32 65536
row_of option.Rule = row (codes "--rule") 0 0 0
row_of option.Tickets = row (codes "--tickets") 1 1 1024
row_of option.Chunks = row (codes "--chunks") 1024 1 65536
row_of option.Extra = row (codes "--extra") 0 0 65536
row_of option.Fuel = row (codes "--fuel") 10000000 0 1000000000
row_of option.Backlog = row (codes "--backlog") 64 1 4096
row_of option.Caps = row (codes "--caps") 0 1 1000000
row_of option.High = row (codes "--high") 900 1 1000
row_of option.Low = row (codes "--low") 700 0 999
row_of option.Knee = row (codes "--knee") 0 0 999
row_of option.Steps = row (codes "--steps") 1000000000 0 1000000000

-- the columns of the table: the name, the default, the least and the greatest number
abbrev pub name_of : CommandOption → List ℕ
name_of it = (row_of it).name

-- the name after the dashes
abbrev pub long_name_of : CommandOption → List ℕ
long_name_of it = drop 2 (name_of it)

abbrev pub default_of : CommandOption → ℕ
default_of it = (row_of it).default

abbrev pub least_of : CommandOption → ℕ
least_of it = (row_of it).least

abbrev pub most_of : CommandOption → ℕ
most_of it = (row_of it).most

-- the options of the commands that lay out a program's frames: `serve`, `build` and `graph`
abbrev pub placement_table : List CommandOption
placement_table = option.Chunk ∷ option.MaxPath ∷ []

-- the options that only runs take: `serve` and `run`
abbrev pub run_table : List CommandOption
run_table = option.ExtraSize ∷ option.Rule ∷ option.Tickets ∷ []

-- the options that runs and audits take: `serve`, `run` and `audit`
abbrev pub shared_table : List CommandOption
shared_table =
    option.Chunks ∷ option.Extra ∷ option.Fuel ∷ option.Backlog ∷ option.Caps ∷ option.High ∷ option.Low ∷ option.Knee
    ∷ []

-- the options that only audits take
abbrev pub audit_table : List CommandOption
audit_table = option.Steps ∷ []

-- all options
abbrev pub all_table : List CommandOption
all_table = placement_table ++ (run_table ++ (shared_table ++ audit_table))

-- the names of some options
abbrev pub names_of : List CommandOption → List (List ℕ)
names_of = map name_of
