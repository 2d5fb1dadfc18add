-- Word lists and what the parser makes of them: what is said is one, and tells one command.
use Rattle.command_words.proofs.Common.{◌≡◌, ◌∙◌, inl, inr, true, ◌≤◌, refl, ap, sym, subst, arith, List, [], ◌∷◌, ◌++◌, length, Some, None, codes, flat_map, AllByRecursion, slice_get, canonical_decimal, Said, Given, Positional, words_of, IsPlain, IsPlainSaid, positionals_of, options_of, value_of, IsOneOf, Request, Serve, Run, Build, Check, Graph, Demo, Audit, Budget, Says, IsWordList, audit_options, audit_policy, placement_options, policy_options, run_options, all_options, command_names, IsWord, IsReadable, IsSaid, Tells, IsReadAs, Texts, LacksAll, HasOne, HasTwo, HasThree, IsAsked}
use Rattle.command_words.proofs.GivenOptions.{Text, all_in, are_among, are_apart, audit_along, joined, keeps, lacks, placement_along, policy_along, turned, within}
use Rattle.command_words.proofs.Rules.{is_option}
use Rattle.command_words.proofs.Parsed.{plain_command}

-- ---- what is said is one

pub plain_is_no_option : (word : Text) → IsOneOf all_options word → IsPlain word → ⊥
plain_is_no_option [] known plain = plain
plain_is_no_option (byte ∷ bytes) known plain =
    let begins = (is_option (byte ∷ bytes) known).begins in
    plain (cc)

one_list : (a b : List Said) → flat_map words_of a ≡ flat_map words_of b → AllByRecursion IsPlainSaid a → AllByRecursion IsPlainSaid b
    → AllByRecursion (IsOneOf all_options) (options_of a) → AllByRecursion (IsOneOf all_options) (options_of b) → a ≡ b
one_list [] [] same plain also known too = refl
one_list [] (Given option value ∷ b) same plain also known too = absurd (cc)
one_list [] (Positional word ∷ b) same plain also known too = absurd (cc)
one_list (Given option value ∷ a) [] same plain also known too = absurd (cc)
one_list (Positional word ∷ a) [] same plain also known too = absurd (cc)
one_list (Given option value ∷ a) (Given other more ∷ b) same plain also known too =
    let name : option ≡ other = cc in
    let text : value ≡ more = cc in
    let rest : flat_map words_of a ≡ flat_map words_of b = cc in
    λ i. Given (name i) (text i) ∷ one_list a b rest plain.1 also.1 known.1 too.1 i
one_list (Given option value ∷ a) (Positional word ∷ b) same plain also known too =
    let name : option ≡ word = cc in
    absurd (plain_is_no_option option known.0 (subst IsPlain (sym name) also.0))
one_list (Positional word ∷ a) (Given option value ∷ b) same plain also known too =
    let name : word ≡ option = cc in
    absurd (plain_is_no_option option too.0 (subst IsPlain name plain.0))
one_list (Positional word ∷ a) (Positional other ∷ b) same plain also known too =
    let name : word ≡ other = cc in
    let rest : flat_map words_of a ≡ flat_map words_of b = cc in
    λ i. Positional (name i) ∷ one_list a b rest plain.1 also.1 known too i

pub one_said : (words : List Text) (a b : List Said) → IsSaid words a → IsSaid words b → a ≡ b
one_said words a b is same = one_list a b (sym is.in_words ∙ same.in_words) is.plain same.plain is.known same.known

-- ---- the commands' names

abbrev IsCommand : Text → Type 0
IsCommand = IsOneOf command_names

is_serve : IsCommand (codes "serve")
is_serve = inl refl

is_run : IsCommand (codes "run")
is_run = inr (inl refl)

is_build : IsCommand (codes "build")
is_build = inr (inr (inl refl))

is_check : IsCommand (codes "check")
is_check = inr (inr (inr (inl refl)))

is_graph : IsCommand (codes "graph")
is_graph = inr (inr (inr (inr (inl refl))))

is_demo : IsCommand (codes "demo")
is_demo = inr (inr (inr (inr (inr (inl refl)))))

is_audit : IsCommand (codes "audit")
is_audit = inr (inr (inr (inr (inr (inr (inl refl))))))

is_budget : IsCommand (codes "budget")
is_budget = inr (inr (inr (inr (inr (inr (inr (inl refl)))))))

-- ---- word lists as the parser has them

readable_rest : (said : List Said) → AllByRecursion IsPlainSaid said → AllByRecursion (IsOneOf all_options) (options_of said)
    → AllByRecursion IsWord (flat_map words_of said)
readable_rest [] plain known = tt
readable_rest (Given option value ∷ rest) plain known = (inr known.0, (inl plain.0, readable_rest rest plain.1 known.1))
readable_rest (Positional word ∷ rest) plain known = (inl plain.0, readable_rest rest plain.1 known)

-- what a list says, with the command's name as the first positional word
pub record IsWhole (words : List Text) (name : Text) (said : List Said) : Type 0 where
  pub readable : IsReadable words
  pub whole : IsSaid words (Positional name ∷ said)

whole_of : (words : List Text) (name : Text) (positionals options : List Text) (said : List Said) → Says words name positionals options said → IsCommand name
    → ((x : Text) → IsOneOf options x → IsOneOf all_options x) → length positionals ≤ 3 → IsWhole words name said
whole_of words name positionals options said says command within few =
    let known = all_in options all_options (options_of said) within says.known in
    record {
      readable = subst IsReadable (sym says.in_words) (command, readable_rest said says.plain known);
      whole = record {
        in_words = says.in_words;
        plain = (plain_command name command, says.plain);
        known = known;
        once = says.once;
        few = omega (arith, ap length says.positional);
      };
    }

abbrev pub name_of : Request → Text
name_of (Serve source placement policy) = codes "serve"
name_of (Run source image certificate policy) = codes "run"
name_of (Build source image certificate placement) = codes "build"
name_of (Check source image certificate) = codes "check"
name_of (Graph source placement) = codes "graph"
name_of (Demo number) = codes "demo"
name_of (Audit source log options) = codes "audit"
name_of (Budget source image certificate) = codes "budget"

abbrev pub said_in : (words : List Text) (request : Request) → IsWordList words request → List Said
said_in words (Serve source placement policy) is = is.0
said_in words _ is = is.0

-- a word list is readable, and says what its command says
pub whole_list : (words : List Text) (request : Request) (is : IsWordList words request) → IsWhole words (name_of request) (said_in words request is)
whole_list words (Serve source placement policy) is = whole_of words _ _ (placement_options ++ policy_options) is.0 is.1 is_serve
    (within all_options (placement_options ++ policy_options) refl) (omega arith)
whole_list words (Run source image certificate policy) is = whole_of words _ _ policy_options is.0 is.1 is_run (within all_options policy_options refl)
    (omega arith)
whole_list words (Build source image certificate placement) is = whole_of words _ _ placement_options is.0 is.1 is_build
    (within all_options placement_options refl) (omega arith)
whole_list words (Check source image certificate) is = whole_of words _ _ [] is.0 is.1 is_check (within all_options [] refl) (omega arith)
whole_list words (Graph source placement) is = whole_of words _ _ placement_options is.0 is.1 is_graph (within all_options placement_options refl) (omega arith)
whole_list words (Demo number) is = whole_of words _ _ [] is.0 is.1 is_demo (within all_options [] refl) (omega arith)
whole_list words (Audit source log options) is = whole_of words _ _ audit_policy is.0 is.1 is_audit (within all_options audit_policy refl) (omega arith)
whole_list words (Budget source image certificate) is = whole_of words _ _ [] is.0 is.1 is_budget (within all_options [] refl) (omega arith)

-- ---- a word list asks for its command

one_word : (given : Texts) (name word : Text) (said : List Said) → Tells given (Positional name ∷ said) → positionals_of said ≡ word ∷ []
    → HasOne given name word
one_word given name word said tells is =
    (tells.command, tells.first ∙ ap (λ (ps : List Text). slice_get ps 0) is, tells.second ∙ ap (λ (ps : List Text). slice_get ps 1) is)

two_words : (given : Texts) (name a b : Text) (said : List Said) → Tells given (Positional name ∷ said) → positionals_of said ≡ a ∷ b ∷ []
    → HasTwo given name a b
two_words given name a b said tells is = (
  tells.command,
  tells.first ∙ ap (λ (ps : List Text). slice_get ps 0) is,
  tells.second ∙ ap (λ (ps : List Text). slice_get ps 1) is,
  tells.third ∙ ap (λ (ps : List Text). slice_get ps 2) is,
)

three_words : (given : Texts) (name a b c : Text) (said : List Said) → Tells given (Positional name ∷ said) → positionals_of said ≡ a ∷ b ∷ c ∷ []
    → HasThree given name a b c
three_words given name a b c said tells is = (
  tells.command,
  tells.first ∙ ap (λ (ps : List Text). slice_get ps 0) is,
  tells.second ∙ ap (λ (ps : List Text). slice_get ps 1) is,
  tells.third ∙ ap (λ (ps : List Text). slice_get ps 2) is,
)

-- the options that a list lacks aren't told
none_of : (given : Texts) (name : Text) (said : List Said) (kept lacked : List Text) → Tells given (Positional name ∷ said)
    → AllByRecursion (IsOneOf kept) (options_of said)
    → are_apart kept lacked ≡ true → are_among all_options lacked ≡ true → LacksAll given lacked
none_of given name said kept lacked tells = lacks given said kept lacked tells.options

abbrev same_told : (given : Texts) (name : Text) (said : List Said) → Tells given (Positional name ∷ said)
    → AllByRecursion (λ option. value_of said option ≡ given option) all_options
same_told given name said tells = turned given (value_of said) all_options tells.options

asks : (words : List Text) (given : Texts) (request : Request) (is : IsWordList words request)
    → Tells given (Positional (name_of request) ∷ said_in words request is)
    → IsAsked given request
asks words given (Serve source placement policy) is tells = (
  one_word given (codes "serve") source is.0 tells is.1.positional,
  placement_along (value_of is.0) given placement (same_told given (codes "serve") is.0 tells) is.2,
  policy_along (value_of is.0) given policy (same_told given (codes "serve") is.0 tells) is.3,
  is.4,
  none_of given (codes "serve") is.0 (placement_options ++ policy_options) audit_options tells is.1.known refl refl,
)
asks words given (Run source image certificate policy) is tells = (
  three_words given (codes "run") source image certificate is.0 tells is.1.positional,
  none_of given (codes "run") is.0 policy_options placement_options tells is.1.known refl refl,
  policy_along (value_of is.0) given policy (same_told given (codes "run") is.0 tells) is.2,
  none_of given (codes "run") is.0 policy_options audit_options tells is.1.known refl refl,
)
asks words given (Build source image certificate placement) is tells = (
  three_words given (codes "build") source image certificate is.0 tells is.1.positional,
  placement_along (value_of is.0) given placement (same_told given (codes "build") is.0 tells) is.2,
  none_of given (codes "build") is.0 placement_options policy_options tells is.1.known refl refl,
  none_of given (codes "build") is.0 placement_options audit_options tells is.1.known refl refl,
)
asks words given (Check source image certificate) is tells = (
  three_words given (codes "check") source image certificate is.0 tells is.1.positional,
  none_of given (codes "check") is.0 [] placement_options tells is.1.known refl refl,
  none_of given (codes "check") is.0 [] policy_options tells is.1.known refl refl,
  none_of given (codes "check") is.0 [] audit_options tells is.1.known refl refl,
)
asks words given (Graph source placement) is tells = (
  one_word given (codes "graph") source is.0 tells is.1.positional,
  placement_along (value_of is.0) given placement (same_told given (codes "graph") is.0 tells) is.2,
  none_of given (codes "graph") is.0 placement_options policy_options tells is.1.known refl refl,
  none_of given (codes "graph") is.0 placement_options audit_options tells is.1.known refl refl,
)
asks words given (Demo number) is tells = (
  one_word given (codes "demo") (canonical_decimal number) is.0 tells is.1.positional,
  is.2,
  is.3,
  none_of given (codes "demo") is.0 [] placement_options tells is.1.known refl refl,
  none_of given (codes "demo") is.0 [] policy_options tells is.1.known refl refl,
  none_of given (codes "demo") is.0 [] audit_options tells is.1.known refl refl,
)
asks words given (Audit source log options) is tells = (
  two_words given (codes "audit") source log is.0 tells is.1.positional,
  none_of given (codes "audit") is.0 audit_policy placement_options tells is.1.known refl refl,
  none_of given (codes "audit") is.0 audit_policy run_options tells is.1.known refl refl,
  audit_along (value_of is.0) given options (same_told given (codes "audit") is.0 tells) is.2,
)
asks words given (Budget source image certificate) is tells = (
  three_words given (codes "budget") source image certificate is.0 tells is.1.positional,
  none_of given (codes "budget") is.0 [] placement_options tells is.1.known refl refl,
  none_of given (codes "budget") is.0 [] policy_options tells is.1.known refl refl,
  none_of given (codes "budget") is.0 [] audit_options tells is.1.known refl refl,
)

-- where the parser's texts are those of the words, a word list's command is asked for
pub list_asks : (words : List Text) (given : Texts) (request : Request) → IsReadAs words given → IsWordList words request → IsAsked given request
list_asks words given request read is =
    let whole = whole_list words request is in
    let same : read.0 ≡ Positional (name_of request) ∷ said_in words request is = one_said words read.0
    (Positional (name_of request) ∷ said_in words request is) read.1 whole.whole in
    asks words given request is (subst (Tells given) same read.2)

-- ---- and a command that is asked for is that of a word list

-- the first thing said is the command's name
pub record BeginsWith (words : List Text) (given : Texts) : Type 0 where
  pub name : Text
  pub rest : List Said
  pub said : IsSaid words (Positional name ∷ rest)
  pub tells : Tells given (Positional name ∷ rest)

begins : (words : List Text) (given : Texts) (said : List Said) → IsReadable words → IsSaid words said → Tells given said → BeginsWith words given
begins words given [] readable is tells = absurd (subst IsReadable is.in_words readable)
begins words given (Given option value ∷ rest) readable is tells =
    let first = subst IsReadable is.in_words readable in
    absurd (plain_is_no_option option is.known.0 (plain_command option first.0))
begins words given (Positional name ∷ rest) readable is tells = record { name = name; rest = rest; said = is; tells = tells }

one_place : (ps : List Text) (word : Text) → slice_get ps 0 ≡ Some word → slice_get ps 1 ≡ None → ps ≡ word ∷ []
one_place (p ∷ []) word first second = let is : p ≡ word = cc in ap (λ (w : Text). w ∷ []) is
one_place _ word first second = absurd (cc)

two_places : (ps : List Text) (a b : Text) → slice_get ps 0 ≡ Some a → slice_get ps 1 ≡ Some b → slice_get ps 2 ≡ None → ps ≡ a ∷ b ∷ []
two_places (p ∷ q ∷ []) a b first second third =
    let is_a : p ≡ a = cc in
    let is_b : q ≡ b = cc in
    λ i. is_a i ∷ is_b i ∷ []
two_places _ a b first second third = absurd (cc)

three_places : (ps : List Text) (a b c : Text) → slice_get ps 0 ≡ Some a → slice_get ps 1 ≡ Some b → slice_get ps 2 ≡ Some c → length ps ≤ 3
    → ps ≡ a ∷ b ∷ c ∷ []
three_places (p ∷ q ∷ r ∷ []) a b c first second third few =
    let is_a : p ≡ a = cc in
    let is_b : q ≡ b = cc in
    let is_c : r ≡ c = cc in
    λ i. is_a i ∷ is_b i ∷ is_c i ∷ []
three_places (p ∷ q ∷ r ∷ s ∷ ps) a b c first second third few = absurd (omega arith)
three_places _ a b c first second third few = absurd (cc)

says_of : (words : List Text) (given : Texts) (b : BeginsWith words given) (name : Text) (positionals options : List Text) → given (codes "command") ≡ Some name
    → positionals_of b.rest ≡ positionals → AllByRecursion (IsOneOf options) (options_of b.rest) → Says words name positionals options b.rest
says_of words given b name positionals options named placed known =
    let both : Some b.name ≡ Some name = sym b.tells.command ∙ named in
    let is : b.name ≡ name = cc in
    record {
      in_words = b.said.in_words ∙ ap (λ (n : Text). n ∷ flat_map words_of b.rest) is;
      plain = b.said.plain.1;
      positional = placed;
      known = known;
      once = b.said.once;
    }

place_of_one : (words : List Text) (given : Texts) (b : BeginsWith words given) (name word : Text) → HasOne given name word → positionals_of b.rest ≡ word ∷ []
place_of_one words given b name word has = one_place (positionals_of b.rest) word (sym b.tells.first ∙ has.1) (sym b.tells.second ∙ has.2)

places_of_two : (words : List Text) (given : Texts) (b : BeginsWith words given) (name x y : Text) → HasTwo given name x y → positionals_of b.rest ≡ x ∷ y ∷ []
places_of_two words given b name x y has = two_places (positionals_of b.rest) x y (sym b.tells.first ∙ has.1) (sym b.tells.second ∙ has.2)
    (sym b.tells.third ∙ has.3)

places_of_three : (words : List Text) (given : Texts) (b : BeginsWith words given) (name x y z : Text) → HasThree given name x y z
    → positionals_of b.rest ≡ x ∷ y ∷ z ∷ []
places_of_three words given b name x y z has =
    three_places (positionals_of b.rest) x y z (sym b.tells.first ∙ has.1) (sym b.tells.second ∙ has.2) (sym b.tells.third ∙ has.3) (omega (arith, b.said.few))

-- the options of words that lack some are among the others
only : (words : List Text) (given : Texts) (b : BeginsWith words given) (kept lacked : List Text) → are_among (lacked ++ kept) all_options ≡ true
    → are_among all_options lacked ≡ true → LacksAll given lacked → AllByRecursion (IsOneOf kept) (options_of b.rest)
only words given b kept lacked = keeps given b.rest kept lacked b.tells.options b.said.known

only_placement : (words : List Text) (given : Texts) (b : BeginsWith words given) → LacksAll given policy_options → LacksAll given audit_options
    → AllByRecursion (IsOneOf placement_options) (options_of b.rest)
only_placement words given b none also =
    only words given b placement_options (policy_options ++ audit_options) refl refl (joined (λ o. given o ≡ None) policy_options audit_options none also)

only_none : (words : List Text) (given : Texts) (b : BeginsWith words given) → LacksAll given placement_options → LacksAll given policy_options
    → LacksAll given audit_options
    → AllByRecursion (IsOneOf []) (options_of b.rest)
only_none words given b none also more =
    only words given b [] all_options refl refl
    (joined (λ o. given o ≡ None) placement_options (policy_options ++ audit_options) none
    (joined (λ o. given o ≡ None) policy_options audit_options also more))

is_list : (words : List Text) (given : Texts) (b : BeginsWith words given) (request : Request) → IsAsked given request → IsWordList words request
is_list words given b (Serve source placement policy) asked = (
  b.rest,
  says_of words given b (codes "serve") (source ∷ []) (placement_options ++ policy_options) asked.0.0
      (place_of_one words given b (codes "serve") source asked.0) (only words given b (placement_options ++ policy_options) audit_options refl refl asked.4),
  placement_along given (value_of b.rest) placement b.tells.options asked.1,
  policy_along given (value_of b.rest) policy b.tells.options asked.2,
  asked.3,
)
is_list words given b (Run source image certificate policy) asked = (
  b.rest,
  says_of words given b (codes "run") (source ∷ image ∷ certificate ∷ []) policy_options asked.0.0
      (places_of_three words given b (codes "run") source image certificate asked.0)
      (only words given b policy_options (placement_options ++ audit_options) refl refl
      (joined (λ o. given o ≡ None) placement_options audit_options asked.1 asked.3)),
  policy_along given (value_of b.rest) policy b.tells.options asked.2,
)
is_list words given b (Build source image certificate placement) asked = (
  b.rest,
  says_of words given b (codes "build") (source ∷ image ∷ certificate ∷ []) placement_options asked.0.0
      (places_of_three words given b (codes "build") source image certificate asked.0) (only_placement words given b asked.2 asked.3),
  placement_along given (value_of b.rest) placement b.tells.options asked.1,
)
is_list words given b (Check source image certificate) asked = (
  b.rest,
  says_of words given b (codes "check") (source ∷ image ∷ certificate ∷ []) [] asked.0.0
      (places_of_three words given b (codes "check") source image certificate asked.0) (only_none words given b asked.1 asked.2 asked.3),
)
is_list words given b (Graph source placement) asked = (
  b.rest,
  says_of words given b (codes "graph") (source ∷ []) placement_options asked.0.0 (place_of_one words given b (codes "graph") source asked.0)
      (only_placement words given b asked.2 asked.3),
  placement_along given (value_of b.rest) placement b.tells.options asked.1,
)
is_list words given b (Demo number) asked = (
  b.rest,
  says_of words given b (codes "demo") (canonical_decimal number ∷ []) [] asked.0.0
      (place_of_one words given b (codes "demo") (canonical_decimal number) asked.0) (only_none words given b asked.3 asked.4 asked.5),
  asked.1,
  asked.2,
)
is_list words given b (Audit source log options) asked = (
  b.rest,
  says_of words given b (codes "audit") (source ∷ log ∷ []) audit_policy asked.0.0 (places_of_two words given b (codes "audit") source log asked.0)
      (only words given b audit_policy (placement_options ++ run_options) refl refl
      (joined (λ o. given o ≡ None) placement_options run_options asked.1 asked.2)),
  audit_along given (value_of b.rest) options b.tells.options asked.3,
)
is_list words given b (Budget source image certificate) asked = (
  b.rest,
  says_of words given b (codes "budget") (source ∷ image ∷ certificate ∷ []) [] asked.0.0
      (places_of_three words given b (codes "budget") source image certificate asked.0) (only_none words given b asked.1 asked.2 asked.3),
)

pub asked_list : (words : List Text) (given : Texts) (request : Request) → IsReadable words → IsReadAs words given → IsAsked given request
    → IsWordList words request
asked_list words given request readable read asked = is_list words given (begins words given read.0 readable read.1 read.2) request asked
