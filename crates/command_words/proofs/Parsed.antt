-- What the parser makes of the words as a whole.
use Rattle.command_words.proofs.Common.{◌≡◌, ◌≢◌, ◌∙◌, inl, inr, ℕ, refl, ap, sym, subst, Bool, true, false, true≢false, ◌==◌, List, [], ◌∷◌, ◌≤◌, length, Option, Some, None, codes, cond, map, fold, is_some, flat_map, AllByRecursion, Kinds, or_else, built_fault, check_fault, default_fault, defaults_fault, entered_fault, fault_of, level_fault, settle_fault, walk_fault, Held, Row, Rule, Text, finished, has_row, first_of, nothing_held, rows_after, walk, walk_from, with_default, default_rows, reading_by, Said, words_of, IsPlain, positionals_of, options_of, value_of, IsOneOf, AreOnce, words_app, all_options, IsWord, IsReadable, command_names, IsSaid, Tells, IsReadAs, all_table, long_name_of, name_of, CommandOption, or-true}
use Rattle.clap.specs.Simple.{App, entered, matches_of, names_of}
use Rattle.command_words.proofs.GivenOptions.{all_among}
use Rattle.command_words.proofs.Rules.{rules, top, top_is, are_places, places, is_option, option_rule}
use Rattle.command_words.proofs.Steps.{between}
use Rattle.command_words.proofs.Rows.{first_none, then_none, both_none}
use Rattle.command_words.proofs.Walks.{fault_from, rows_at as held_rows, rows_of, passes, find_said}
use Rattle.command_words.proofs.Told.{bare_places, not_among, option_told, place_told, new_of_once, once_of_new, few_of_new}

abbrev app : App
app = record { top = top; subs = [] }

-- no rule has a default
abbrev HaveNoDefaults : List Rule → Type 0
HaveNoDefaults = AllByRecursion (λ a. a.defaults ≡ [])

none_in_table : (table : List CommandOption) → HaveNoDefaults (map (λ it. option_rule (name_of it) (long_name_of it)) table)
none_in_table [] = tt
none_in_table (it ∷ table) = (refl, none_in_table table)

none_in_rules : HaveNoDefaults rules
none_in_rules = (refl, (refl, (refl, (refl, none_in_table all_table))))

no_default : (rows : List Row) (a : Rule) → a.defaults ≡ [] → with_default rows a ≡ rows
no_default rows a none = go (has_row a.id rows)
  where
    go : (b : Bool) → cond b rows (default_rows a.id (reading_by a) a.defaults rows) ≡ rows
    go true = refl
    go false = rw none refl

no_default_fault : (rows : List Row) (a : Rule) → a.defaults ≡ [] → default_fault rows a ≡ []
no_default_fault rows a none = rw (none, or-true (has_row a.id rows)) refl

no_defaults : (rows : List Row) (left : List Rule) → HaveNoDefaults left → fold with_default rows left ≡ rows
no_defaults rows [] none = refl
no_defaults rows (a ∷ left) none = ap (λ (r : List Row). fold with_default r left) (no_default rows a none.0) ∙ no_defaults rows left none.1

no_defaults_fault : (rows : List Row) (left : List Rule) → HaveNoDefaults left → defaults_fault rows left ≡ []
unfolding defaults_fault
no_defaults_fault rows [] none = refl
no_defaults_fault rows (a ∷ left) none =
    both_none _ _ (no_default_fault rows a none.0)
    (ap (λ (r : List Row). defaults_fault r left) (no_default rows a none.0) ∙ no_defaults_fault rows left none.1)

-- there is no subcommand to enter
not_entered : (stop : Option (Text × List Text)) → is_some (entered app stop) ≡ false
not_entered None = refl
not_entered (Some p) = refl

none_entered : (stop : Option (Text × List Text)) → entered_fault app stop ≡ []
none_entered None = refl
none_entered (Some p) = refl

abbrev stop_of : List Text → Option (Text × List Text)
stop_of words = (walk rules [] nothing_held words).stopped

-- the faults of a parse are those of the walk and of its end
pub faults_are : (words : List Text) → fault_of words_app words ≡ level_fault top [] nothing_held words false []
faults_are words =
    ap (λ (a : App). built_fault a nothing_held words) top_is
    ∙ ap (λ (b : Bool). level_fault top [] nothing_held words b (entered_fault app (stop_of words))) (not_entered (stop_of words))
    ∙ ap (level_fault top [] nothing_held words false) (none_entered (stop_of words))

abbrev end_of : List Text → Held
end_of words = (walk rules [] nothing_held words).held

-- the faults of the walk, of its end, and of what comes after it
abbrev of_walk : List Text → Kinds
of_walk words = walk_fault top [] (walk_from nothing_held) words

abbrev of_end : List Text → Kinds
of_end words = settle_fault rules false (end_of words)

abbrev of_rest : List Text → Kinds
of_rest words = or_else (defaults_fault (held_rows (end_of words)) rules) (check_fault top (finished rules (end_of words)) false)

no_faults : (words : List Text) → fault_of words_app words ≡ [] → fault_from (between nothing_held 1) words ≡ []
no_faults words none =
    let level : or_else (of_walk words) (or_else (of_end words) (of_rest words)) ≡ [] = sym (faults_are words) ∙ none in
    let later = then_none (of_walk words) (or_else (of_end words) (of_rest words)) level in
    both_none (of_walk words) (of_end words) (first_none (of_walk words) (or_else (of_end words) (of_rest words)) level)
    (first_none (of_end words) (of_rest words) later)

all_pass : (words : List Text) → fault_from (between nothing_held 1) words ≡ [] → fault_of words_app words ≡ []
all_pass words none =
    let rest : of_rest words ≡ [] = both_none (defaults_fault (held_rows (end_of words)) rules) []
    (no_defaults_fault (held_rows (end_of words)) rules none_in_rules) refl in
    faults_are words ∙ both_none (of_walk words) (or_else (of_end words) (of_rest words)) (first_none (of_walk words) (of_end words) none)
    (both_none (of_end words) (of_rest words) (then_none (of_walk words) (of_end words) none) rest)

-- the matches are the rows that are held at the end
pub rows_are : (words : List Text) → matches_of words_app words ≡ held_rows (end_of words)
rows_are words = ap (λ (a : App). rows_after a.top.rules (names_of a) words) top_is ∙ no_defaults (held_rows (end_of words)) rules none_in_rules

not_dash : (byte : ℕ) → (byte == 45) ≡ false → byte ≢ 45
not_dash byte other e = true≢false (sym (ap (λ b. b == 45) e) ∙ other)

plain_as : (first : Text) (byte : ℕ) (rest : Text) → first ≡ byte ∷ rest → (byte == 45) ≡ false → IsPlain first
plain_as first byte rest is other = subst IsPlain (sym is) (not_dash byte other)

pub plain_command : (first : Text) → IsOneOf command_names first → IsPlain first
plain_command first (inl e) = plain_as first 115 (codes "erve") e refl
plain_command first (inr (inl e)) = plain_as first 114 (codes "un") e refl
plain_command first (inr (inr (inl e))) = plain_as first 98 (codes "uild") e refl
plain_command first (inr (inr (inr (inl e)))) = plain_as first 99 (codes "heck") e refl
plain_command first (inr (inr (inr (inr (inl e))))) = plain_as first 103 (codes "raph") e refl
plain_command first (inr (inr (inr (inr (inr (inl e)))))) = plain_as first 100 (codes "emo") e refl
plain_command first (inr (inr (inr (inr (inr (inr (inl e))))))) = plain_as first 97 (codes "udit") e refl
plain_command first (inr (inr (inr (inr (inr (inr (inr (inl e)))))))) = plain_as first 98 (codes "udget") e refl
plain_command first (inr (inr (inr (inr (inr (inr (inr (inr none)))))))) = absurd none

-- the words that reach the parser are values, positional words and options
all_words : (words : List Text) → IsReadable words → AllByRecursion IsWord words
all_words [] readable = absurd readable
all_words (first ∷ rest) readable = (inl (plain_command first readable.0), readable.1)

places_once : AreOnce places
places_once = (
  not_among (codes "command") (codes "first" ∷ codes "second" ∷ codes "third" ∷ []) (refl, (refl, (refl, tt))),
  (
    not_among (codes "first") (codes "second" ∷ codes "third" ∷ []) (refl, (refl, tt)),
    (not_among (codes "second") (codes "third" ∷ []) (refl, tt), ((λ none. none), tt)),
  ),
)

abbrev told : List Said → Text → Option Text
told said name = first_of name (rows_of places said)

tells_options : (said : List Said) → length (positionals_of said) ≤ 4 → (options : List Text) → AllByRecursion (IsOneOf all_options) options
    → AllByRecursion (λ option. told said option ≡ value_of said option) options
tells_options said few [] known = tt
tells_options said few (option ∷ options) known =
    (option_told places said option bare_places (is_option option known.0) few, tells_options said few options known.1)

tells : (said : List Said) → AllByRecursion (IsOneOf all_options) (options_of said) → length (positionals_of said) ≤ 4 → Tells (told said) said
tells said known few = record {
  options = tells_options said few all_options (all_among all_options all_options refl);
  command = place_told places said 0 (codes "command") refl bare_places places_once bare_places.0 known few;
  first = place_told places said 1 (codes "first") refl bare_places places_once bare_places.1.0 known few;
  second = place_told places said 2 (codes "second") refl bare_places places_once bare_places.1.1.0 known few;
  third = place_told places said 3 (codes "third") refl bare_places places_once bare_places.1.1.1.0 known few;
}

-- words that are parsed say something, and the matches tell what
pub read_as : (words : List Text) → IsReadable words → fault_of words_app words ≡ [] → (given : Text → Option Text)
    → ((name : Text) → first_of name (matches_of words_app words) ≡ given name) → IsReadAs words given
read_as words readable none given tell =
    let found = find_said words (all_words words readable) nothing_held [] 1 places are_places refl (no_faults words none) in
    let few = few_of_new found.said [] places found.new in
    let said : IsSaid words found.said =
    record { in_words = found.in_words; plain = found.plain; known = found.known; once = (once_of_new found.said [] places found.new).0; few = few } in
    let told_is : told found.said ≡ given = λ i name. (ap (λ (rows : List Row). first_of name rows) (sym (rows_are words ∙ found.rows_are)) ∙ tell name) i in
    (found.said, said, subst (λ f. Tells f found.said) told_is (tells found.said found.known few))

-- and words that say something are parsed
pub said_passes : (words : List Text) (said : List Said) → IsSaid words said → fault_of words_app words ≡ []
said_passes words said is =
    let new = new_of_once said [] places bare_places places_once is.known is.once (absent_at_first (options_of said)) (absent_at_first places) is.few in
    let none = passes said nothing_held [] 1 places are_places is.plain is.known new refl refl in
    subst (λ ws. fault_of words_app ws ≡ []) (sym is.in_words) (all_pass (flat_map words_of said) none)
  where
    absent_at_first : (names : List Text) → AllByRecursion (λ name. has_row name [] ≡ false) names
    absent_at_first [] = tt
    absent_at_first (name ∷ names) = (refl, absent_at_first names)
