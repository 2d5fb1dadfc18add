-- The options of a word list: those that its command has are kept, and all others lacked.
use Rattle.command_words.proofs.Common.{◌≡◌, ◌∙◌, ◌⊎◌, inl, inr, ℕ, sym, subst, Bool, true, false, true≢false, List, [], ◌∷◌, ◌++◌, ◌&&◌, ◌||◌, refl, Option, Some, None, not, bytes_eq, AllByRecursion, Placement, Policy, Said, Given, Positional, options_of, value_of, IsOneOf, IsAudit, IsPlacement, IsPolicy, IsNumber, AreCaps, IsRule, name_of, CommandOption, all_options, Texts, LacksAll, bytes_eq-Decides, and_parts, not-true}
use Rattle.command_words.specs.declared.options.Audit.{Audit}
use Rattle.command_words.specs.declared.option_table.CommandOption.TheVariants as option

abbrev pub Text : Type 0
Text = List ℕ

-- ---- lists of names

in_either : (a b : List Text) (x : Text) → IsOneOf (a ++ b) x → IsOneOf a x ⊎ IsOneOf b x
in_either [] b x is = inr is
in_either (y ∷ a) b x (inl e) = inl (inl e)
in_either (y ∷ a) b x (inr more) = elim (in_either a b x more) [ inl first ↦ inl (inr first) | inr second ↦ inr second ]

pub all_in : (a b xs : List Text) → ((x : Text) → IsOneOf a x → IsOneOf b x) → AllByRecursion (IsOneOf a) xs → AllByRecursion (IsOneOf b) xs
all_in a b [] more known = tt
all_in a b (x ∷ xs) more known = (more x known.0, all_in a b xs more known.1)

at_one : (P : Text → Type 0) (xs : List Text) (x : Text) → AllByRecursion P xs → IsOneOf xs x → P x
at_one P [] x all is = absurd is
at_one P (y ∷ xs) x all (inl e) = subst P (sym e) all.0
at_one P (y ∷ xs) x all (inr more) = at_one P xs x all.1 more

-- whether a name is in a list, and whether all of a list are in another
abbrev is_among : List Text → Text → Bool
is_among [] name = false
is_among (option ∷ options) name = bytes_eq name option || is_among options name

abbrev pub are_among : List Text → List Text → Bool
are_among options [] = true
are_among options (name ∷ names) = is_among options name && are_among options names

one_among : (options : List Text) (name : Text) → is_among options name ≡ true → IsOneOf options name
one_among [] name is = absurd (true≢false (sym is))
one_among (option ∷ options) name is = go (bytes_eq name option) refl is (one_among options name)
  where
    go : (b : Bool) → bytes_eq name option ≡ b → (b || is_among options name) ≡ true → (is_among options name ≡ true → IsOneOf options name)
        → IsOneOf (option ∷ options) name
    go true e is more = inl ((bytes_eq-Decides name option).0 e)
    go false e is more = inr (more is)

pub all_among : (options names : List Text) → are_among options names ≡ true → AllByRecursion (IsOneOf options) names
all_among options [] is = tt
all_among options (name ∷ names) is =
    let parts = and_parts (is_among options name) (are_among options names) is in
    (one_among options name parts.0, all_among options names parts.1)

-- names of the one list are of the other
pub within : (options names : List Text) → are_among options names ≡ true → (x : Text) → IsOneOf names x → IsOneOf options x
within options names are x is = at_one (IsOneOf options) names x (all_among options names are) is

-- what holds of all holds of some of them
pub of_some : (P : Text → Type 0) (options names : List Text) → are_among options names ≡ true → AllByRecursion P options → AllByRecursion P names
of_some P options [] are all = tt
of_some P options (name ∷ names) are all =
    let parts = and_parts (is_among options name) (are_among options names) are in
    (at_one P options name all (one_among options name parts.0), of_some P options names parts.1 all)

-- whether no name of the one list is in the other
abbrev is_apart : List Text → Text → Bool
is_apart [] name = true
is_apart (option ∷ options) name = not (bytes_eq option name) && is_apart options name

abbrev pub are_apart : List Text → List Text → Bool
are_apart options [] = true
are_apart options (name ∷ names) = is_apart options name && are_apart options names

all_differ : (options : List Text) (name : Text) → is_apart options name ≡ true → AllByRecursion (λ option. bytes_eq option name ≡ false) options
all_differ [] name is = tt
all_differ (option ∷ options) name is =
    let parts = and_parts (not (bytes_eq option name)) (is_apart options name) is in
    (not-true (bytes_eq option name) parts.0, all_differ options name parts.1)

-- ---- options that are not given

absent : (said : List Said) (options : List Text) (name : Text) → AllByRecursion (IsOneOf options) (options_of said)
    → AllByRecursion (λ option. bytes_eq option name ≡ false) options
    → value_of said name ≡ None
absent [] options name known differ = refl
absent (Given option value ∷ rest) options name known differ =
    let other : bytes_eq option name ≡ false = at_one (λ o. bytes_eq o name ≡ false) options option differ known.0 in
    rw other (absent rest options name known.1 differ)
absent (Positional word ∷ rest) options name known differ = absent rest options name known differ

-- where each option is one of those that are kept, all that are apart from them are lacked
all_absent : (said : List Said) (kept lacked : List Text) → AllByRecursion (IsOneOf kept) (options_of said) → are_apart kept lacked ≡ true
    → LacksAll (value_of said) lacked
all_absent said kept [] known apart = tt
all_absent said kept (name ∷ names) known apart =
    let parts = and_parts (is_apart kept name) (are_apart kept names) apart in
    (absent said kept name known (all_differ kept name parts.0), all_absent said kept names known parts.1)

some_given : (option value : Text) (rest : List Said) → value_of (Given option value ∷ rest) option ≡ None → ⊥
some_given option value rest none =
    let here : bytes_eq option option ≡ true = (bytes_eq-Decides option option).1 refl in
    let bad : Some value ≡ None = rw here at none in
    cc

none_left : (option value : Text) (rest : List Said) (name : Text) → value_of (Given option value ∷ rest) name ≡ None → value_of rest name ≡ None
none_left option value rest name none = go (bytes_eq option name) refl none
  where
    go : (b : Bool) → bytes_eq option name ≡ b → value_of (Given option value ∷ rest) name ≡ None → value_of rest name ≡ None
    go true e none = let bad : Some value ≡ None = rw e at none in cc
    go false e none = rw e at none

all_left : (option value : Text) (rest : List Said) (names : List Text) → LacksAll (value_of (Given option value ∷ rest)) names → LacksAll (value_of rest) names
all_left option value rest [] none = tt
all_left option value rest (name ∷ names) none = (none_left option value rest name none.0, all_left option value rest names none.1)

-- of options that are among two lists, and lack the first, each is of the second
among_second : (said : List Said) (a b : List Text) → AllByRecursion (IsOneOf (a ++ b)) (options_of said) → LacksAll (value_of said) a
    → AllByRecursion (IsOneOf b) (options_of said)
among_second [] a b known none = tt
among_second (Given option value ∷ rest) a b known none = (
  elim (in_either a b option known.0) [
    | inl first ↦ absurd
        (some_given option value rest (at_one (λ o. value_of (Given option value ∷ rest) o ≡ None) a option none first))
    | inr second ↦ second
  ],
  among_second rest a b known.1 (all_left option value rest a none),
)
among_second (Positional word ∷ rest) a b known none = among_second rest a b known none

-- ---- the same, of what `given` tells

abbrev pub AreSame : Texts → Texts → List Text → Type 0
AreSame f g names = AllByRecursion (λ option. f option ≡ g option) names

pub turned : (f g : Texts) (names : List Text) → AreSame f g names → AreSame g f names
turned f g [] same = tt
turned f g (name ∷ names) same = (sym same.0, turned f g names same.1)

lacks_along : (f g : Texts) (names : List Text) → AreSame f g names → LacksAll f names → LacksAll g names
lacks_along f g [] same none = tt
lacks_along f g (name ∷ names) same none = (sym same.0 ∙ none.0, lacks_along f g names same.1 none.1)

pub lacks : (given : Texts) (said : List Said) (kept lacked : List Text) → AreSame given (value_of said) all_options
    → AllByRecursion (IsOneOf kept) (options_of said)
    → are_apart kept lacked ≡ true → are_among all_options lacked ≡ true → LacksAll given lacked
lacks given said kept lacked same known apart among =
    lacks_along (value_of said) given lacked (turned given (value_of said) lacked
    (of_some (λ option. given option ≡ value_of said option) all_options lacked among same))
    (all_absent said kept lacked known apart)

-- all options are kept or lacked
pub keeps : (given : Texts) (said : List Said) (kept lacked : List Text) → AreSame given (value_of said) all_options
    → AllByRecursion (IsOneOf all_options) (options_of said)
    → are_among (lacked ++ kept) all_options ≡ true → are_among all_options lacked ≡ true → LacksAll given lacked
    → AllByRecursion (IsOneOf kept) (options_of said)
keeps given said kept lacked same known covered among none =
    among_second said lacked kept (all_in all_options (lacked ++ kept) (options_of said) (within (lacked ++ kept) all_options covered) known)
    (lacks_along given (value_of said) lacked (of_some (λ option. given option ≡ value_of said option) all_options lacked among same) none)

pub joined : (P : Text → Type 0) (a b : List Text) → AllByRecursion P a → AllByRecursion P b → AllByRecursion P (a ++ b)
joined P [] b all more = more
joined P (x ∷ a) b all more = (all.0, joined P a b all.1 more)

-- ---- the values that texts choose

-- an option of the table has the same text
text_along : (f g : Texts) → AreSame f g all_options → (it : CommandOption) → is_among all_options (name_of it) ≡ true → f (name_of it) ≡ g (name_of it)
text_along f g all it among = at_one (λ option. f option ≡ g option) all_options (name_of it) all (one_among all_options (name_of it) among)

-- and the number that is chosen with it
number_along : (f g : Texts) → AreSame f g all_options → (it : CommandOption) → is_among all_options (name_of it) ≡ true
    → (default least most n : ℕ) → IsNumber (f (name_of it)) default least most n → IsNumber (g (name_of it)) default least most n
number_along f g all it among default least most n is = subst (λ (t : Option Text). IsNumber t default least most n) (text_along f g all it among) is

pub placement_along : (f g : Texts) (p : Placement) → AreSame f g all_options → IsPlacement f p → IsPlacement g p
placement_along f g p all is = record {
  chunk = number_along f g all option.Chunk refl _ _ _ _ is.chunk;
  whole = is.whole;
  max_path = number_along f g all option.MaxPath refl _ _ _ _ is.max_path;
}

pub policy_along : (f g : Texts) (p : Policy) → AreSame f g all_options → IsPolicy f p → IsPolicy g p
policy_along f g p all is = record {
  chunks = number_along f g all option.Chunks refl _ _ _ _ is.chunks;
  extra = number_along f g all option.Extra refl _ _ _ _ is.extra;
  extra_bytes = number_along f g all option.ExtraSize refl _ _ _ _ is.extra_bytes;
  extra_whole = is.extra_whole;
  fuel = number_along f g all option.Fuel refl _ _ _ _ is.fuel;
  backlog = number_along f g all option.Backlog refl _ _ _ _ is.backlog;
  caps = subst (λ (t : Option Text). AreCaps t p.caps) (text_along f g all option.Caps refl) is.caps;
  high = number_along f g all option.High refl _ _ _ _ is.high;
  low = number_along f g all option.Low refl _ _ _ _ is.low;
  rule = subst (λ (t : Option Text). IsRule t (g (name_of option.Tickets)) p.rule) (text_along f g all option.Rule refl)
      (subst (λ (t : Option Text). IsRule (f (name_of option.Rule)) t p.rule) (text_along f g all option.Tickets refl) is.rule);
  knee = number_along f g all option.Knee refl _ _ _ _ is.knee;
}

pub audit_along : (f g : Texts) (a : Audit) → AreSame f g all_options → IsAudit f a → IsAudit g a
audit_along f g a all is =
    record { policy = policy_along f g a.policy all is.policy; steps = number_along f g all option.Steps refl _ _ _ _ is.steps }
