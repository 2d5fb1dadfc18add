-- The rules that the parser goes by: of the positional words and of the options, each with one text as its value.
use Rattle.command_words.proofs.Common.{◌≡◌, ℕ, refl, sym, subst, inl, inr, codes, true, false, List, [], ◌∷◌, drop, map, Option, Some, None, bytes_eq, Rule, Text, arg_by_id, arg_by_index, arg_by_long, next_position, App, Shape, built, is_simple_and_free, long_of, clap_on_literals, all_table, long_name_of, name_of, names_of, CommandOption, IsOneOf, words_app, all_options}
use Rattle.clap.specs.declared.builder.action.ArgAction.TheVariants.{Set}
use Rattle.clap.specs.declared.builder.value_parser.ValueParser.TheVariants.{String}
use Rattle.command_words.specs.declared.option_table.CommandOption.TheVariants as option

-- a rule that takes one text
abbrev pub text_rule : Text → Option Text → Option ℕ → Rule
text_rule id long index = record {
  id = id;
  long = long;
  aliases = [];
  short = None;
  short_aliases = [];
  index = index;
  action = Some Set;
  range = Some (record { start_inclusive = 1; end_inclusive = 1 });
  value_names = 0;
  defaults = [];
  missing = [];
  trailing_var_arg = false;
  parser = Some String;
  ignore_case = false;
  required = false;
  is_simple = true;
  is_free = true;
}

abbrev pub option_rule : Text → Text → Rule
option_rule name long = text_rule name (Some long) None

abbrev pub place_rule : Text → ℕ → Rule
place_rule name index = text_rule name None (Some index)

-- the names of the positional words
abbrev pub places : List Text
places = codes "command" ∷ codes "first" ∷ codes "second" ∷ codes "third" ∷ []

abbrev pub rules : List Rule
rules = place_rule (codes "command") 1 ∷ place_rule (codes "first") 2 ∷ place_rule (codes "second") 3 ∷ place_rule (codes "third") 4
    ∷ map (λ it. option_rule (name_of it) (long_name_of it)) all_table

-- the command as it is built
abbrev pub top : Shape
top = record {
  name = codes "capriccio";
  aliases = [];
  rules = rules;
  is_plain = true;
  is_leaf = true;
  no_binary_name = true;
  disable_help_flag = true;
  disable_help_subcommand = true;
  disable_version_flag = false;
  propagate_version = false;
  has_version = false;
  has_long_version = false;
  args_override_self = false;
  arg_required_else_help = false;
  subcommand_required = false;
  subcommand_negates_reqs = false;
  is_built = true;
}

pub top_is : ◌≡◌ {A = App} (built words_app) (record { top = top; subs = [] })
unfolding clap_on_literals
top_is = refl

pub is_simple : is_simple_and_free words_app ≡ true
unfolding clap_on_literals
is_simple = refl

-- what the rules know of an option's name
pub record IsOption (name : Text) : Type 0 where
  pub long : Text
  pub is_long : long_of name ≡ Some (long, None)
  pub no_end : bytes_eq name (45 ∷ 45 ∷ []) ≡ false
  pub by_long : arg_by_long rules long ≡ Some (option_rule name long)
  pub by_id : arg_by_id rules name ≡ Some (option_rule name long)
  pub rest : Text
  pub begins : name ≡ 45 ∷ rest

option_at : (it : CommandOption) → long_of (name_of it) ≡ Some (long_name_of it, None) → bytes_eq (name_of it) (45 ∷ 45 ∷ []) ≡ false
    → arg_by_long rules (long_name_of it) ≡ Some (option_rule (name_of it) (long_name_of it))
    → arg_by_id rules (name_of it) ≡ Some (option_rule (name_of it) (long_name_of it)) → name_of it ≡ 45 ∷ drop 1 (name_of it) → IsOption (name_of it)
option_at it is_long no_end by_long by_id begins =
    record { long = long_name_of it; is_long = is_long; no_end = no_end; by_long = by_long; by_id = by_id; rest = drop 1 (name_of it); begins = begins }

is_of_table : (it : CommandOption) → IsOption (name_of it)
unfolding clap_on_literals
is_of_table option.Chunk = option_at option.Chunk refl refl refl refl refl
is_of_table option.MaxPath = option_at option.MaxPath refl refl refl refl refl
is_of_table option.ExtraSize = option_at option.ExtraSize refl refl refl refl refl
is_of_table option.Rule = option_at option.Rule refl refl refl refl refl
is_of_table option.Tickets = option_at option.Tickets refl refl refl refl refl
is_of_table option.Chunks = option_at option.Chunks refl refl refl refl refl
is_of_table option.Extra = option_at option.Extra refl refl refl refl refl
is_of_table option.Fuel = option_at option.Fuel refl refl refl refl refl
is_of_table option.Backlog = option_at option.Backlog refl refl refl refl refl
is_of_table option.Caps = option_at option.Caps refl refl refl refl refl
is_of_table option.High = option_at option.High refl refl refl refl refl
is_of_table option.Low = option_at option.Low refl refl refl refl refl
is_of_table option.Knee = option_at option.Knee refl refl refl refl refl
is_of_table option.Steps = option_at option.Steps refl refl refl refl refl

one_of_table : (table : List CommandOption) (name : Text) → IsOneOf (names_of table) name → IsOption name
one_of_table [] name is = absurd is
one_of_table (it ∷ table) name (inl e) = subst IsOption (sym e) (is_of_table it)
one_of_table (it ∷ table) name (inr more) = one_of_table table name more

pub is_option : (name : Text) → IsOneOf all_options name → IsOption name
is_option name is = one_of_table all_table name is

-- what the rules know of the name of a positional word, which stands at this place and before the next
pub record IsPlace (name : Text) (place next : ℕ) : Type 0 where
  pub by_index : arg_by_index rules place ≡ Some (place_rule name place)
  pub by_id : arg_by_id rules name ≡ Some (place_rule name place)
  pub on : next_position (place_rule name place) place ≡ next

-- the names of the positional words from this place on
abbrev pub ArePlaces : List Text → ℕ → Type 0
ArePlaces [] place = arg_by_index rules place ≡ None
ArePlaces (name ∷ names) place = (next : ℕ) × IsPlace name place next × ArePlaces names next

pub are_places : ArePlaces places 1
unfolding clap_on_literals
are_places = (
  2,
  record { by_index = refl; by_id = refl; on = refl },
  (
    3,
    record { by_index = refl; by_id = refl; on = refl },
    (
      4,
      record { by_index = refl; by_id = refl; on = refl },
      (5, record { by_index = refl; by_id = refl; on = refl }, refl),
    ),
  ),
)
