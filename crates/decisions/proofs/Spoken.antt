-- What words say, or that they say nothing.
use Rattle.decisions.proofs.Common.{◌≡◌, ◌∙◌, ℕ, zero, suc, ◌≤◌, inl, inr, List, [], ◌∷◌, length, refl, sym, ap, subst, arith, decided_by, both_decided, either_decided, denied, number_same, all_decided, text_same, flat_map, AllByRecursion, Said, Given, Positional, words_of, IsPlain, IsPlainSaid, positionals_of, options_of, IsOneOf, AreOnce, all_options, Says, Decided, plain_is_no_option}

abbrev pub Text : Type 0
Text = List ℕ

-- ---- lists of names

pub one_of_decided : (names : List Text) (word : Text) → Decided (IsOneOf names word)
one_of_decided [] word = inr (λ is. is)
one_of_decided (name ∷ names) word = either_decided (text_same word name) (one_of_decided names word)

pub once_decided : (names : List Text) → Decided (AreOnce names)
once_decided [] = inl tt
once_decided (name ∷ names) = both_decided (denied (one_of_decided names name)) (once_decided names)

pub plain_decided : (word : Text) → Decided (IsPlain word)
plain_decided [] = inr (λ is. is)
plain_decided (byte ∷ bytes) = denied (number_same byte 45)

-- ---- an option's name is no plain word

at_one : (P : Text → Type 0) (names : List Text) (word : Text) → AllByRecursion P names → IsOneOf names word → P word
at_one P [] word all is = absurd is
at_one P (name ∷ names) word all (inl e) = subst P (sym e) all.0
at_one P (name ∷ names) word all (inr more) = at_one P names word all.1 more

none_plain : AllByRecursion (λ (name : Text). IsPlain name → ⊥) all_options
none_plain = (λ p. p refl, (λ p. p refl, (λ p. p refl, (λ p. p refl, (λ p. p refl, (λ p. p refl, (λ p. p refl, (λ p. p refl, (λ p. p refl, (λ p. p refl, (λ p. p refl, (λ p. p refl, (λ p. p refl, (λ p. p refl, tt))))))))))))))

-- ---- what is said

-- the words say this, whatever is said twice
pub record IsSpoken (words : List Text) (said : List Said) : Type 0 where
  pub in_words : words ≡ flat_map words_of said
  pub plain : AllByRecursion IsPlainSaid said
  pub known : AllByRecursion (IsOneOf all_options) (options_of said)

same_list : (a b : List Said) → flat_map words_of a ≡ flat_map words_of b → AllByRecursion IsPlainSaid a → AllByRecursion IsPlainSaid b
    → AllByRecursion (IsOneOf all_options) (options_of a) → AllByRecursion (IsOneOf all_options) (options_of b) → a ≡ b
same_list [] [] same plain also known too = refl
same_list [] (Given option value ∷ b) same plain also known too = absurd cc
same_list [] (Positional word ∷ b) same plain also known too = absurd cc
same_list (Given option value ∷ a) [] same plain also known too = absurd cc
same_list (Positional word ∷ a) [] same plain also known too = absurd cc
same_list (Given option value ∷ a) (Given name text ∷ b) same plain also known too =
    let names : option ≡ name = cc in
    let texts : value ≡ text = cc in
    let rest : flat_map words_of a ≡ flat_map words_of b = cc in
    let more = same_list a b rest plain.1 also.1 known.1 too.1 in
    cc
same_list (Given option value ∷ a) (Positional word ∷ b) same plain also known too =
    let name : option ≡ word = cc in
    absurd (plain_is_no_option option known.0 (subst IsPlain (sym name) also.0))
same_list (Positional word ∷ a) (Given option value ∷ b) same plain also known too =
    let name : word ≡ option = cc in
    absurd (plain_is_no_option option too.0 (subst IsPlain name plain.0))
same_list (Positional word ∷ a) (Positional other ∷ b) same plain also known too =
    let name : word ≡ other = cc in
    let rest : flat_map words_of a ≡ flat_map words_of b = cc in
    let more = same_list a b rest plain.1 also.1 known too in
    cc

pub one_spoken : (words : List Text) (a b : List Said) → IsSpoken words a → IsSpoken words b → a ≡ b
one_spoken words a b is also = same_list a b (sym is.in_words ∙ also.in_words) is.plain also.plain is.known also.known

abbrev Speaks : List Text → Type 0
Speaks words = (said : List Said) × IsSpoken words said

-- an option's name needs a plain word behind it
lone_option : (option : Text) → IsOneOf all_options option → Speaks (option ∷ []) → ⊥
lone_option option is (([], s)) = let e = s.in_words in absurd cc
lone_option option is ((Given name value ∷ rest, s)) = let e = s.in_words in absurd cc
lone_option option is ((Positional word ∷ rest, s)) =
    let e = s.in_words in
    let same : option ≡ word = cc in
    plain_is_no_option option is (subst IsPlain (sym same) s.plain.0)

behind_option : (option value : Text) (rest : List Text) → IsOneOf all_options option → Speaks (option ∷ value ∷ rest) → IsPlain value × Speaks rest
behind_option option value rest is (([], s)) = let e = s.in_words in absurd cc
behind_option option value rest is ((Given name text ∷ said, s)) =
    let e = s.in_words in
    let same : value ≡ text = cc in
    let more : rest ≡ flat_map words_of said = cc in
    (subst IsPlain (sym same) s.plain.0, (said, record { in_words = more; plain = s.plain.1; known = s.known.1 }))
behind_option option value rest is ((Positional word ∷ said, s)) =
    let e = s.in_words in
    let same : option ≡ word = cc in
    absurd (plain_is_no_option option is (subst IsPlain (sym same) s.plain.0))

behind_word : (word : Text) (rest : List Text) → (IsOneOf all_options word → ⊥) → Speaks (word ∷ rest) → IsPlain word × Speaks rest
behind_word word rest none (([], s)) = let e = s.in_words in absurd cc
behind_word word rest none ((Given name text ∷ said, s)) =
    let e = s.in_words in
    let same : word ≡ name = cc in
    absurd (none (subst (IsOneOf all_options) (sym same) s.known.0))
behind_word word rest none ((Positional other ∷ said, s)) =
    let e = s.in_words in
    let same : word ≡ other = cc in
    let more : rest ≡ flat_map words_of said = cc in
    (subst IsPlain (sym same) s.plain.0, (said, record { in_words = more; plain = s.plain.1; known = s.known }))

with_option : (option value : Text) (rest : List Text) → IsOneOf all_options option → IsPlain value → Speaks rest → Speaks (option ∷ value ∷ rest)
with_option option value rest is plain s =
    (Given option value ∷ s.0, record { in_words = ap (λ (more : List Text). option ∷ value ∷ more) s.1.in_words; plain = (plain, s.1.plain); known = (is, s.1.known) })

with_word : (word : Text) (rest : List Text) → IsPlain word → Speaks rest → Speaks (word ∷ rest)
with_word word rest plain s =
    (Positional word ∷ s.0, record { in_words = ap (λ (more : List Text). word ∷ more) s.1.in_words; plain = (plain, s.1.plain); known = s.1.known })

-- among so many words
speaks_in : (size : ℕ) (words : List Text) → length words ≤ size → Decided (Speaks words)
speaks_in size [] fits = inl ([], record { in_words = refl; plain = tt; known = tt })
speaks_in zero (word ∷ rest) fits = absurd (omega arith)
speaks_in (suc size) (word ∷ rest) fits = by rest (one_of_decided all_options word) (λ more h. speaks_in size more h) fits where
  by : (rest : List Text) → Decided (IsOneOf all_options word) → ((more : List Text) → length more ≤ size → Decided (Speaks more)) → length (word ∷ rest) ≤ suc size → Decided (Speaks (word ∷ rest))
  by [] (inl is) again fits = inr (lone_option word is)
  by (value ∷ more) (inl is) again fits =
      decided_by (λ (h : IsPlain value × Speaks more). with_option word value more is h.0 h.1) (behind_option word value more is)
      (both_decided (plain_decided value) (again more (omega (arith, fits))))
  by rest (inr none) again fits =
      decided_by (λ (h : IsPlain word × Speaks rest). with_word word rest h.0 h.1) (behind_word word rest none)
      (both_decided (plain_decided word) (again rest (omega (arith, fits))))

pub speaks_decided : (words : List Text) → Decided ((said : List Said) × IsSpoken words said)
speaks_decided words = speaks_in (length words) words (omega arith)

-- ---- what is said behind a command's name, with some of the options

abbrev Within : List Text → Type 0
Within options = (word : Text) → IsOneOf options word → IsOneOf all_options word

all_in : (options names : List Text) → Within options → AllByRecursion (IsOneOf options) names → AllByRecursion (IsOneOf all_options) names
all_in options [] within known = tt
all_in options (name ∷ names) within known = (within name known.0, all_in options names within known.1)

-- the list begins with this word, and the others say this
pub record Follows (words : List Text) (name : Text) (said : List Said) : Type 0 where
  pub rest : List Text
  pub first : words ≡ name ∷ rest
  pub spoken : IsSpoken rest said

follows_decided : (words : List Text) (name : Text) → Decided ((said : List Said) × Follows words name said)
follows_decided [] name = inr (λ f. let e = f.1.first in absurd cc)
follows_decided (word ∷ rest) name =
    decided_by (λ (h : (word ≡ name) × Speaks rest). (h.1.0, record { rest = rest; first = (let e = h.0 in cc); spoken = h.1.1 })) back
    (both_decided (text_same word name) (speaks_decided rest))
  where
    back : (said : List Said) × Follows (word ∷ rest) name said → (word ≡ name) × Speaks rest
    back f =
        let e = f.1.first in
        let same : rest ≡ f.1.rest = cc in
        ((cc), (f.0, subst (λ (r : List Text). IsSpoken r f.0) (sym same) f.1.spoken))

pub one_following : (words : List Text) (name : Text) (a b : List Said) → Follows words name a → Follows words name b → a ≡ b
one_following words name a b f g =
    let e = f.first in
    let also = g.first in
    let same : g.rest ≡ f.rest = cc in
    one_spoken f.rest a b f.spoken (subst (λ (r : List Text). IsSpoken r b) same g.spoken)

pub follows_of : (words : List Text) (name : Text) (positionals options : List Text) (said : List Said) → Within options → Says words name positionals options said → Follows words name said
follows_of words name positionals options said within says =
    record {
      rest = flat_map words_of said;
      first = says.in_words;
      spoken = record { in_words = refl; plain = says.plain; known = all_in options (options_of said) within says.known };
    }

-- some words say so
abbrev pub Heard : List Text → Text → List Text → Type 0
Heard words name options = (said : List Said) × Says words name (positionals_of said) options said

pub heard_decided : (words : List Text) (name : Text) (options : List Text) → Within options → Decided (Heard words name options)
heard_decided words name options within = by (follows_decided words name) where
  whole : (f : (said : List Said) × Follows words name said) → Decided (AllByRecursion (IsOneOf options) (options_of f.0) × AreOnce (options_of f.0)) → Decided (Heard words name options)
  whole f (inl h) = inl (
    f.0,
    record {
      in_words = f.1.first ∙ ap (λ (r : List Text). name ∷ r) f.1.spoken.in_words;
      plain = f.1.spoken.plain;
      positional = refl;
      known = h.0;
      once = h.1;
    },
  )
  whole f (inr none) = inr (λ heard.
      let same : heard.0 ≡ f.0 = one_following words name heard.0 f.0 (follows_of words name _ options heard.0 within heard.1) f.1 in
      none (subst (λ (said : List Said). AllByRecursion (IsOneOf options) (options_of said) × AreOnce (options_of said)) same (heard.1.known, heard.1.once)))

  by : Decided ((said : List Said) × Follows words name said) → Decided (Heard words name options)
  by (inr none) = inr (λ heard. none (heard.0, follows_of words name _ options heard.0 within heard.1))
  by (inl f) = whole f (both_decided (all_decided (IsOneOf options) (one_of_decided options) (options_of f.0)) (once_decided (options_of f.0)))
