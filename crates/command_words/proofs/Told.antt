-- What the rows tell of the things said.
use Rattle.command_words.proofs.Common.{◌==◌, ◌≡◌, ◌≢◌, ◌∙◌, inl, inr, ℕ, zero, suc, ◌≤◌, refl, sym, subst, arith, Bool, true, false, true≢false, List, [], ◌∷◌, ◌++◌, length, Some, bytes_eq, AllByRecursion, slice_get, bytes_eq-Decides, Row, Text, first_of, has_row, Said, Given, Positional, positionals_of, options_of, value_of, IsOneOf, AreOnce, all_options}
use Rattle.command_words.proofs.Rules.{IsOption, is_option, places}
use Rattle.command_words.proofs.Rows.{row}
use Rattle.command_words.proofs.Walks.{rows_of, AreNew}
use Rattle.command_words.proofs.Steps.{same_text}

-- a name that does not begin with `-`
abbrev pub IsBare : Text → Type 0
IsBare [] = ⊥
IsBare (byte ∷ bytes) = (45 == byte) ≡ false × ((byte == 45) ≡ false)

same : (a b : Text) → bytes_eq a b ≡ true → a ≡ b
same a b is = (bytes_eq-Decides a b).0 is

pub apart : (a b : Text) → a ≢ b → bytes_eq a b ≡ false
apart a b differ = go (bytes_eq a b) refl
  where
    go : (v : Bool) → bytes_eq a b ≡ v → bytes_eq a b ≡ false
    go false is = is
    go true is = absurd (differ (same a b is))

option_is_no_place : (option name : Text) → IsOption option → IsBare name → bytes_eq option name ≡ false
option_is_no_place option [] is bare = absurd bare
option_is_no_place option (byte ∷ bytes) is bare = rw (is.begins, bare.0) refl

place_is_no_option : (name option : Text) → IsOption option → IsBare name → bytes_eq name option ≡ false
place_is_no_option [] option is bare = absurd bare
place_is_no_option (byte ∷ bytes) option is bare = rw (is.begins, bare.1) refl

-- the first row of an option is its value
pub option_told : (names : List Text) (said : List Said) (option : Text) → AllByRecursion IsBare names → IsOption option
    → length (positionals_of said) ≤ length names
    → first_of option (rows_of names said) ≡ value_of said option
option_told names [] option bare is few = refl
option_told names (Given other value ∷ rest) option bare is few = go (bytes_eq other option) refl (option_told names rest option bare is few)
  where
    go : (b : Bool) → bytes_eq other option ≡ b → first_of option (rows_of names rest) ≡ value_of rest option
        → first_of option (rows_of names (Given other value ∷ rest)) ≡ value_of (Given other value ∷ rest) option
    go true e below = rw e refl
    go false e below = rw e below
option_told [] (Positional word ∷ rest) option bare is few = absurd (omega arith)
option_told (name ∷ names) (Positional word ∷ rest) option bare is few =
    rw (place_is_no_option name option is bare.0) (option_told names rest option bare.1 is (omega arith))

one_of : (names : List Text) (place : ℕ) (name : Text) → slice_get names place ≡ Some name → IsOneOf names name
one_of [] place name at = absurd (cc)
one_of (first ∷ names) zero name at = inl (cc)
one_of (first ∷ names) (suc place) name at = inr (one_of names place name at)

-- the row of a place is the positional word at it
pub place_told : (names : List Text) (said : List Said) (place : ℕ) (name : Text) → slice_get names place ≡ Some name → AllByRecursion IsBare names
    → AreOnce names
    → IsBare name → AllByRecursion (IsOneOf all_options) (options_of said) → length (positionals_of said) ≤ length names
    → first_of name (rows_of names said) ≡ slice_get (positionals_of said) place
place_told names [] place name at bare once is known few = refl
place_told names (Given option value ∷ rest) place name at bare once is known few =
    rw (option_is_no_place option name (is_option option known.0) is) (place_told names rest place name at bare once is known.1 few)
place_told [] (Positional word ∷ rest) place name at bare once is known few = absurd (omega arith)
place_told (first ∷ names) (Positional word ∷ rest) zero name at bare once is known few =
    let e : first ≡ name = cc in
    let here : bytes_eq first name ≡ true = subst (λ n. bytes_eq first n ≡ true) e (same_text first) in
    rw here refl
place_told (first ∷ names) (Positional word ∷ rest) (suc place) name at bare once is known few =
    let differ : first ≢ name = λ e. once.0 (subst (IsOneOf names) (sym e) (one_of names place name at)) in
    rw (apart first name differ) (place_told names rest place name at bare.1 once.1 is known (omega arith))

-- ---- new names, and names that come once

absent_more : (rows : List Row) (name value sought : Text) → has_row sought rows ≡ false → bytes_eq name sought ≡ false
    → has_row sought (rows ++ row name value ∷ []) ≡ false
absent_more [] name value sought none differ = rw differ refl
absent_more (r ∷ rows) name value sought none differ = go (bytes_eq r.id sought) refl none (λ below. absent_more rows name value sought below differ)
  where
    go : (b : Bool) → bytes_eq r.id sought ≡ b → has_row sought (r ∷ rows) ≡ false
        → (has_row sought rows ≡ false → has_row sought (rows ++ row name value ∷ []) ≡ false)
        → has_row sought (r ∷ (rows ++ row name value ∷ [])) ≡ false
    go true e none below = let bad : true ≡ false = rw e at none in absurd (true≢false bad)
    go false e none below = let left : has_row sought rows ≡ false = rw e at none in rw e (below left)

absent_less : (rows : List Row) (name value sought : Text) → has_row sought (rows ++ row name value ∷ []) ≡ false → (has_row sought rows ≡ false)
    × (bytes_eq name sought ≡ false)
absent_less [] name value sought none = (refl, go (bytes_eq name sought) refl none)
  where
    go : (b : Bool) → bytes_eq name sought ≡ b → has_row sought (row name value ∷ []) ≡ false → bytes_eq name sought ≡ false
    go false e none = e
    go true e none = let bad : true ≡ false = rw e at none in absurd (true≢false bad)
absent_less (r ∷ rows) name value sought none = go (bytes_eq r.id sought) refl none (absent_less rows name value sought)
  where
    go : (b : Bool) → bytes_eq r.id sought ≡ b → has_row sought (r ∷ (rows ++ row name value ∷ [])) ≡ false
        → (has_row sought (rows ++ row name value ∷ []) ≡ false → (has_row sought rows ≡ false) × (bytes_eq name sought ≡ false))
        → (has_row sought (r ∷ rows) ≡ false) × (bytes_eq name sought ≡ false)
    go true e none below = let bad : true ≡ false = rw e at none in absurd (true≢false bad)
    go false e none below = let left : has_row sought (rows ++ row name value ∷ []) ≡ false = rw e at none in let two = below left in (rw e two.0, two.1)

abbrev pub AreAbsent : List Row → List Text → Type 0
AreAbsent rows names = AllByRecursion (λ name. has_row name rows ≡ false) names

all_more : (rows : List Row) (name value : Text) (names : List Text) → AreAbsent rows names → AllByRecursion (λ other. bytes_eq name other ≡ false) names
    → AreAbsent (rows ++ row name value ∷ []) names
all_more rows name value [] absent differ = tt
all_more rows name value (other ∷ names) absent differ = (absent_more rows name value other absent.0 differ.0, all_more rows name value names absent.1 differ.1)

differ_once : (name : Text) (names : List Text) → (IsOneOf names name → ⊥) → AllByRecursion (λ other. bytes_eq name other ≡ false) names
differ_once name [] once = tt
differ_once name (other ∷ names) once = (apart name other (λ e. once (inl e)), differ_once name names (λ more. once (inr more)))

differ_options : (name : Text) (options : List Text) → IsBare name → AllByRecursion (IsOneOf all_options) options
    → AllByRecursion (λ other. bytes_eq name other ≡ false) options
differ_options name [] bare known = tt
differ_options name (option ∷ options) bare known = (place_is_no_option name option (is_option option known.0) bare, differ_options name options bare known.1)

differ_places : (option : Text) (names : List Text) → IsOption option → AllByRecursion IsBare names
    → AllByRecursion (λ other. bytes_eq option other ≡ false) names
differ_places option [] is bare = tt
differ_places option (name ∷ names) is bare = (option_is_no_place option name is bare.0, differ_places option names is bare.1)

-- options that come once are new where they come
pub new_of_once : (said : List Said) (rows : List Row) (names : List Text) → AllByRecursion IsBare names → AreOnce names
    → AllByRecursion (IsOneOf all_options) (options_of said)
    → AreOnce (options_of said) → AreAbsent rows (options_of said) → AreAbsent rows names → length (positionals_of said) ≤ length names → AreNew rows names said
new_of_once [] rows names bare distinct known once absent free few = tt
new_of_once (Given option value ∷ rest) rows names bare distinct known once absent free few = (
  absent.0,
  new_of_once rest (rows ++ row option value ∷ []) names bare distinct known.1 once.1
      (all_more rows option value (options_of rest) absent.1 (differ_once option (options_of rest) once.0))
      (all_more rows option value names free (differ_places option names (is_option option known.0) bare)) few,
)
new_of_once (Positional word ∷ rest) rows [] bare distinct known once absent free few = absurd (omega arith)
new_of_once (Positional word ∷ rest) rows (name ∷ names) bare distinct known once absent free few = (
  free.0,
  new_of_once rest (rows ++ row name word ∷ []) names bare.1 distinct.1 known once
      (all_more rows name word (options_of rest) absent (differ_options name (options_of rest) bare.0 known))
      (all_more rows name word names free.1 (differ_once name names distinct.0)) (omega arith),
)

pub not_among : (name : Text) (names : List Text) → AllByRecursion (λ other. bytes_eq name other ≡ false) names → IsOneOf names name → ⊥
not_among name [] differ among = among
not_among name (other ∷ names) differ (inl e) = true≢false (sym (subst (λ n. bytes_eq name n ≡ true) e (same_text name)) ∙ differ.0)
not_among name (other ∷ names) differ (inr more) = not_among name names differ.1 more

all_less : (rows : List Row) (name value : Text) (names : List Text) → AreAbsent (rows ++ row name value ∷ []) names
    → AreAbsent rows names × AllByRecursion (λ other. bytes_eq name other ≡ false) names
all_less rows name value [] absent = (tt, tt)
all_less rows name value (other ∷ names) absent =
    let here = absent_less rows name value other absent.0 in
    let below = all_less rows name value names absent.1 in
    ((here.0, below.0), (here.1, below.1))

pub once_of_new : (said : List Said) (rows : List Row) (names : List Text) → AreNew rows names said → AreOnce (options_of said)
    × AreAbsent rows (options_of said)
once_of_new [] rows names new = (tt, tt)
once_of_new (Given option value ∷ rest) rows names new =
    let below = once_of_new rest (rows ++ row option value ∷ []) names new.1 in
    let less = all_less rows option value (options_of rest) below.1 in
    ((not_among option (options_of rest) less.1, below.0), (new.0, less.0))
once_of_new (Positional word ∷ rest) rows [] new = absurd new
once_of_new (Positional word ∷ rest) rows (name ∷ names) new =
    let below = once_of_new rest (rows ++ row name word ∷ []) names new.1 in
    (below.0, (all_less rows name word (options_of rest) below.1).0)

pub few_of_new : (said : List Said) (rows : List Row) (names : List Text) → AreNew rows names said → length (positionals_of said) ≤ length names
few_of_new [] rows names new = omega arith
few_of_new (Given option value ∷ rest) rows names new = few_of_new rest (rows ++ row option value ∷ []) names new.1
few_of_new (Positional word ∷ rest) rows [] new = absurd new
few_of_new (Positional word ∷ rest) rows (name ∷ names) new = let below = few_of_new rest (rows ++ row name word ∷ []) names new.1 in omega arith

pub bare_places : AllByRecursion IsBare places
bare_places = ((refl, refl), ((refl, refl), ((refl, refl), ((refl, refl), tt))))
