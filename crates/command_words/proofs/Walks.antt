-- The parser over all words: it passes just those that say something, and holds a row for each thing said.
use Rattle.command_words.proofs.Common.{◌≡◌, ◌∙◌, inl, inr, ℕ, refl, ap, sym, subst, false, List, [], ◌∷◌, ◌++◌, Some, None, append-nil, append_assoc, fold, ⊤, flat_map, AllByRecursion, Kinds, or_else, settle_fault, turn_fault, walk_fault, Held, Row, Text, Walk, has_row, settled_rows, walked, Said, Given, Positional, words_of, IsPlain, IsPlainSaid, options_of, IsOneOf, all_options, IsWord}
use Rattle.command_words.proofs.Rules.{rules, top, IsOption, IsPlace, ArePlaces, is_option}
use Rattle.command_words.proofs.Steps.{between, awaiting, opened, with_value, no_flag, option_walked, option_turn, option_again, option_ends, value_walked, value_turn, place_walked, place_turn, stray_turn}
use Rattle.command_words.proofs.Rows.{row, first_none, then_none, both_none, value_fault, value_once, value_row}

-- the walk over these words
abbrev pub after : Walk → List Text → Walk
after w words = fold (walked rules []) w words

-- the faults of the walk over these words and of its end
abbrev pub fault_from : Walk → List Text → Kinds
fault_from w words = or_else (walk_fault top [] w words) (settle_fault rules false (after w words).held)

abbrev pub rows_at : Held → List Row
rows_at h = settled_rows rules h.pending h.rows

-- one row for each thing said; the positional words have these names
abbrev pub rows_of : List Text → List Said → List Row
rows_of names (Given option value ∷ rest) = row option value ∷ rows_of names rest
rows_of (name ∷ names) (Positional word ∷ rest) = row name word ∷ rows_of names rest
rows_of _ _ = []

-- each name is new where it comes
abbrev pub AreNew : List Row → List Text → List Said → Type 0
AreNew rows names [] = ⊤
AreNew rows names (Given option value ∷ rest) = (has_row option rows ≡ false) × AreNew (rows ++ row option value ∷ []) names rest
AreNew rows [] (Positional word ∷ rest) = ⊥
AreNew rows (name ∷ names) (Positional word ∷ rest) = (has_row name rows ≡ false) × AreNew (rows ++ row name word ∷ []) names rest

pub or_else_then : (a b c : Kinds) → or_else a (or_else b c) ≡ or_else (or_else a b) c
or_else_then [] b c = refl
or_else_then (k ∷ ks) b c = refl

-- one word, and then the others
turn_first : (w next : Walk) (word : Text) (rest : List Text) → walked rules [] w word ≡ next
    → fault_from w (word ∷ rest) ≡ or_else (turn_fault top [] w word) (fault_from next rest)
unfolding walk_fault
turn_first w next word rest is = subst (λ (n : Walk). fault_from w (word ∷ rest) ≡ or_else (turn_fault top [] w word) (fault_from n rest)) is
    (sym (or_else_then (turn_fault top [] w word) (walk_fault top [] (walked rules [] w word) rest)
    (settle_fault rules false (after (walked rules [] w word) rest).held)))

no_words : (w : Walk) → fault_from w [] ≡ settle_fault rules false w.held
unfolding walk_fault
no_words w = refl

-- what comes out of words in which the parser finds no fault
pub record IsFound (words : List Text) (h : Held) (rows : List Row) (place : ℕ) (names : List Text) : Type 0 where
  pub said : List Said
  pub in_words : words ≡ flat_map words_of said
  pub plain : AllByRecursion IsPlainSaid said
  pub known : AllByRecursion (IsOneOf all_options) (options_of said)
  pub new : AreNew rows names said
  pub rows_are : rows_at (after (between h place) words).held ≡ rows ++ rows_of names said

-- the walk over an option with its value, and over a positional word
option_after : (h : Held) (place : ℕ) (name value : Text) (rest : List Text) → IsOption name → IsPlain value
    → after (between h place) (name ∷ value ∷ rest) ≡ after (between (with_value h name value) place) rest
option_after h place name value rest is plain =
    ap (λ (w : Walk). after (walked rules [] w value) rest) (option_walked h place name is)
    ∙ ap (λ (w : Walk). after w rest) (value_walked h place name value is (no_flag value plain))

place_after : (h : Held) (place next : ℕ) (name word : Text) (rest : List Text) → IsPlace name place next → IsPlain word
    → after (between h place) (word ∷ rest) ≡ after (between (with_value h name word) next) rest
place_after h place next name word rest is plain = ap (λ (w : Walk). after w rest) (place_walked h place next name word is (no_flag word plain))

-- and their faults
option_fault : (h : Held) (place : ℕ) (name value : Text) (rest : List Text) → IsOption name → IsPlain value
    → fault_from (between h place) (name ∷ value ∷ rest) ≡ or_else (or_else (settle_fault rules false h) [])
    (fault_from (between (with_value h name value) place) rest)
option_fault h place name value rest is plain =
    turn_first (between h place) (awaiting (opened h name) name place) name (value ∷ rest) (option_walked h place name is)
    ∙ (λ i. or_else (option_turn h place name is i) (value_then i))
  where
    value_then : fault_from (awaiting (opened h name) name place) (value ∷ rest) ≡ fault_from (between (with_value h name value) place) rest
    value_then =
        turn_first (awaiting (opened h name) name place) (between (with_value h name value) place) value rest
        (value_walked h place name value is (no_flag value plain))
        ∙ ap (λ (k : Kinds). or_else k (fault_from (between (with_value h name value) place) rest)) (value_turn h place name value is (no_flag value plain))

place_fault : (h : Held) (place next : ℕ) (name word : Text) (rest : List Text) → IsPlace name place next → IsPlain word
    → fault_from (between h place) (word ∷ rest) ≡ or_else (settle_fault rules false h) (fault_from (between (with_value h name word) next) rest)
place_fault h place next name word rest is plain =
    turn_first (between h place) (between (with_value h name word) next) word rest (place_walked h place next name word is (no_flag word plain))
    ∙ ap (λ (k : Kinds). or_else k (fault_from (between (with_value h name word) next) rest)) (place_turn h place next name word is (no_flag word plain))

-- no fault comes of words that say something new each time
pub passes : (said : List Said) (h : Held) (rows : List Row) (place : ℕ) (names : List Text) → ArePlaces names place
    → AllByRecursion IsPlainSaid said → AllByRecursion (IsOneOf all_options) (options_of said) → AreNew rows names said
    → rows_at h ≡ rows → settle_fault rules false h ≡ [] → fault_from (between h place) (flat_map words_of said) ≡ []
passes [] h rows place names places plain known new held none = no_words (between h place) ∙ none
passes (Given option value ∷ rest) h rows place names places plain known new held none =
    let is = is_option option known.0 in
    let absent : has_row option (rows_at h) ≡ false = rw held new.0 in
    option_fault h place option value (flat_map words_of rest) is plain.0
    ∙ both_none _ _ (both_none _ _ none refl)
    (passes rest (with_value h option value) (rows ++ row option value ∷ []) place names places plain.1 known.1 new.1
    (value_row h rows option value (Some is.long) None is.by_id held new.0) (value_fault h option value (Some is.long) None is.by_id absent))
passes (Positional word ∷ rest) h rows place [] places plain known new held none = absurd new
passes (Positional word ∷ rest) h rows place (name ∷ names) places plain known new held none =
    let absent : has_row name (rows_at h) ≡ false = rw held new.0 in
    place_fault h place places.0 name word (flat_map words_of rest) places.1 plain.0
    ∙ both_none _ _ none
    (passes rest (with_value h name word) (rows ++ row name word ∷ []) places.0 names places.2 plain.1 known new.1
    (value_row h rows name word None (Some place) places.1.by_id held new.0) (value_fault h name word None (Some place) places.1.by_id absent))

-- where no fault comes, what was held before has none
settled_first : (words : List Text) → AllByRecursion IsWord words → (h : Held) (place : ℕ) (names : List Text) → ArePlaces names place
    → fault_from (between h place) words ≡ [] → settle_fault rules false h ≡ []
settled_first [] all h place names places none = sym (no_words (between h place)) ∙ none
settled_first (word ∷ rest) (inr known, all) h place names places none =
    let is = is_option word known in
    let first = first_none _ _ (sym (turn_first (between h place) _ word rest (option_walked h place word is)) ∙ none) in
    first_none _ _ (sym (option_turn h place word is) ∙ first)
settled_first (word ∷ rest) (inl plain, all) h place [] places none =
    let first = first_none _ _ (sym (turn_first (between h place) _ word rest refl) ∙ none) in
    let bad = sym (stray_turn h place word places (no_flag word plain)) ∙ first in
    absurd (cc)
settled_first (word ∷ rest) (inl plain, all) h place (name ∷ names) places none =
    first_none _ _ (sym (place_fault h place places.0 name word rest places.1 plain) ∙ none)

found_option : (option value : Text) (words : List Text) (h : Held) (rows : List Row) (place : ℕ) (names : List Text) → IsOneOf all_options option
    → IsPlain value
    → has_row option rows ≡ false → IsFound words (with_value h option value) (rows ++ row option value ∷ []) place names
    → IsFound (option ∷ value ∷ words) h rows place names
found_option option value words h rows place names known plain absent found = record {
  said = Given option value ∷ found.said;
  in_words = ap (λ (ws : List Text). option ∷ value ∷ ws) found.in_words;
  plain = (plain, found.plain);
  known = (known, found.known);
  new = (absent, found.new);
  rows_are = ap (λ (w : Walk). rows_at w.held) (option_after h place option value words (is_option option known) plain) ∙ found.rows_are
      ∙ append_assoc rows (row option value ∷ []) (rows_of names found.said);
}

found_place : (name word : Text) (words : List Text) (h : Held) (rows : List Row) (place next : ℕ) (names : List Text) → IsPlace name place next → IsPlain word
    → has_row name rows ≡ false → IsFound words (with_value h name word) (rows ++ row name word ∷ []) next names
    → IsFound (word ∷ words) h rows place (name ∷ names)
found_place name word words h rows place next names is plain absent found = record {
  said = Positional word ∷ found.said;
  in_words = ap (λ (ws : List Text). word ∷ ws) found.in_words;
  plain = (plain, found.plain);
  known = found.known;
  new = (absent, found.new);
  rows_are = ap (λ (w : Walk). rows_at w.held) (place_after h place next name word words is plain) ∙ found.rows_are
      ∙ append_assoc rows (row name word ∷ []) (rows_of names found.said);
}

-- words without a fault say something
pub find_said : (words : List Text) → AllByRecursion IsWord words → (h : Held) (rows : List Row) (place : ℕ) (names : List Text) → ArePlaces names place
    → rows_at h ≡ rows → fault_from (between h place) words ≡ [] → IsFound words h rows place names
find_said [] all h rows place names places held none =
    record { said = []; in_words = refl; plain = tt; known = tt; new = tt; rows_are = held ∙ sym (append-nil rows) }
find_said (word ∷ rest) (inl plain, all) h rows place [] places held none =
    let first = first_none _ _ (sym (turn_first (between h place) _ word rest refl) ∙ none) in
    let bad = sym (stray_turn h place word places (no_flag word plain)) ∙ first in
    absurd (cc)
find_said (word ∷ rest) (inl plain, all) h rows place (name ∷ names) places held none =
    let next = then_none _ _ (sym (place_fault h place places.0 name word rest places.1 plain) ∙ none) in
    let settled = settled_first rest all (with_value h name word) places.0 names places.2 next in
    let absent = value_once h name word None (Some place) places.1.by_id settled in
    let absent_there : has_row name rows ≡ false = rw (← held) absent in
    found_place name word rest h rows place places.0 names places.1 plain absent_there
    (find_said rest all (with_value h name word) (rows ++ row name word ∷ []) places.0 names places.2
    (value_row h rows name word None (Some place) places.1.by_id held absent_there) next)
find_said (word ∷ []) (inr known, all) h rows place names places held none =
    let is = is_option word known in
    let end = then_none _ _ (sym (turn_first (between h place) (awaiting (opened h word) word place) word [] (option_walked h place word is)) ∙ none) in
    let bad = sym (option_ends h word is) ∙ sym (no_words (awaiting (opened h word) word place)) ∙ end in
    absurd (cc)
find_said (word ∷ value ∷ rest) (inr known, (inr again, all)) h rows place names places held none =
    let is = is_option word known in
    let then = then_none _ _ (sym (turn_first (between h place) (awaiting (opened h word) word place) word (value ∷ rest) (option_walked h place word is))
    ∙ none) in
    let turn = first_none _ _ (sym (turn_first (awaiting (opened h word) word place) _ value rest refl) ∙ then) in
    let bad = sym (option_again h place word value is (is_option value again)) ∙ turn in
    absurd (cc)
find_said (word ∷ value ∷ rest) (inr known, (inl plain, all)) h rows place names places held none =
    let is = is_option word known in
    let next = then_none _ _ (sym (option_fault h place word value rest is plain) ∙ none) in
    let settled = settled_first rest all (with_value h word value) place names places next in
    let absent = value_once h word value (Some is.long) None is.by_id settled in
    let absent_there : has_row word rows ≡ false = rw (← held) absent in
    found_option word value rest h rows place names known plain absent_there
    (find_said rest all (with_value h word value) (rows ++ row word value ∷ []) place names places
    (value_row h rows word value (Some is.long) None is.by_id held absent_there) next)
