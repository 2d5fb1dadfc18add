-- Fields with a separator between, and the pieces of their text.
use Rattle.cap_text.proofs.Common.{◌≡◌, ℕ, ℤ, pos, negsuc, ◌<◌, nat_lt, zero, suc, ◌≤◌, Bool, true, false, cond, List, [], ◌∷◌, ◌++◌, refl, ap, sym, ◌∙◌, arith, All, ◌==◌, append-nil, AllByRecursion, join_with_byte, onto_first, slice_split_none, slice_split_at, join_with_byte-slice_split, AllDigits, digit_from_value, eq-eqb, ne_eqb, ltb-true, canonical_decimal, canonical_integer, pieces, Lacks, after_each}
use Rattle.cap_text.proofs.DecimalLaws.{decimal_digits}

pub all_by : (P : ℕ → Type 0) (xs : List ℕ) → AllByRecursion P xs → All P xs
all_by P [] h k d l = absurd (omega arith)
all_by P (x ∷ xs) h zero d l = h.0
all_by P (x ∷ xs) h (suc k) d l = all_by P xs h.1 k d (omega arith)

pub lacks-append : (separator : ℕ) (xs ys : List ℕ) → Lacks separator xs → Lacks separator ys → Lacks separator (xs ++ ys)
lacks-append separator [] ys h g = g
lacks-append separator (x ∷ xs) ys h g = (h.0, lacks-append separator xs ys h.1 g)

-- fields without the separator, joined by it, are the pieces of their text
pub pieces_joined : (separator : ℕ) (first : List ℕ) (fields : List (List ℕ)) → Lacks separator first → AllByRecursion (Lacks separator) fields
    → pieces separator (first ++ after_each separator fields) ≡ first ∷ fields
pieces_joined separator first [] h g =
    ap (pieces separator) (append-nil first) ∙ slice_split_none (λ byte. byte == separator) first (all_by (λ byte. (byte == separator) ≡ false) first h)
pieces_joined separator first (field ∷ fields) h g =
    slice_split_at (λ byte. byte == separator) first separator (field ++ after_each separator fields) (all_by (λ byte. (byte == separator) ≡ false) first h) (eq-eqb separator separator refl)
    ∙ ap (λ x. first ∷ x) (pieces_joined separator field fields g.0 g.1)

joined_is : (separator : ℕ) (first : List ℕ) (fields : List (List ℕ)) → join_with_byte separator (first ∷ fields) ≡ first ++ after_each separator fields
joined_is separator first [] = sym (append-nil first)
joined_is separator first (field ∷ fields) = ap (λ x. first ++ (separator ∷ x)) (joined_is separator field fields)

-- a text is its pieces, joined by the separator
pub text_of_pieces : (separator : ℕ) (text first : List ℕ) (fields : List (List ℕ)) → pieces separator text ≡ first ∷ fields
    → text ≡ first ++ after_each separator fields
text_of_pieces separator text first fields e = sym (join_with_byte-slice_split separator text) ∙ ap (join_with_byte separator) e ∙ joined_is separator first fields

-- no piece has the separator
onto_clean : (separator byte : ℕ) (parts : List (List ℕ)) → (byte == separator) ≡ false → AllByRecursion (Lacks separator) parts → AllByRecursion (Lacks separator) (onto_first byte parts)
onto_clean separator byte [] other h = ((other, tt), tt)
onto_clean separator byte (part ∷ parts) other h = ((other, h.0), h.1)

pub pieces_lack : (separator : ℕ) (text : List ℕ) → AllByRecursion (Lacks separator) (pieces separator text)
pieces_lack separator [] = (tt, tt)
pieces_lack separator (byte ∷ text) = step (byte == separator) refl (pieces_lack separator text)
  where
    step : (b : Bool) → (byte == separator) ≡ b → AllByRecursion (Lacks separator) (pieces separator text)
        → AllByRecursion (Lacks separator) (cond b ([] ∷ pieces separator text) (onto_first byte (pieces separator text)))
    step true is h = (tt, h)
    step false is h = onto_clean separator byte (pieces separator text) is h

-- numbers have no separator but a digit or a `-`

lacks_digits : (separator : ℕ) (text : List ℕ) → ((c : ℕ) → 45 ≤ c → c ≤ 57 → c ≡ separator → ⊥) → AllDigits 10 text → Lacks separator text
lacks_digits separator [] away h = tt
lacks_digits separator (c ∷ cs) away h =
    let range = digit_from_value c h.0 in (ne_eqb c separator (away c (omega arith) range.1), lacks_digits separator cs away h.1)

pub lacks_decimal : (separator : ℕ) (n : ℕ) → ((c : ℕ) → 45 ≤ c → c ≤ 57 → c ≡ separator → ⊥) → Lacks separator (canonical_decimal n)
lacks_decimal separator n away = lacks_digits separator (canonical_decimal n) away (decimal_digits n)

-- texts of visible characters, which are those above the blank

abbrev pub Visible : List ℕ → Type 0
Visible text = AllByRecursion (λ byte. 32 < byte) text

pub visible_lacks : (separator : ℕ) (text : List ℕ) → separator ≤ 32 → Visible text → Lacks separator text
visible_lacks separator [] low h = tt
visible_lacks separator (c ∷ cs) low h = let above : 32 < c = h.0 in (ne_eqb c separator (λ e. omega arith), visible_lacks separator cs low h.1)

pub all_lack : (separator : ℕ) (fields : List (List ℕ)) → separator ≤ 32 → AllByRecursion Visible fields → AllByRecursion (Lacks separator) fields
all_lack separator [] low h = tt
all_lack separator (field ∷ fields) low h = (visible_lacks separator field low h.0, all_lack separator fields low h.1)

pub visible-append : (xs ys : List ℕ) → Visible xs → Visible ys → Visible (xs ++ ys)
visible-append [] ys h g = g
visible-append (x ∷ xs) ys h g = (h.0, visible-append xs ys h.1 g)

visible_digits : (text : List ℕ) → AllDigits 10 text → Visible text
visible_digits [] h = tt
visible_digits (c ∷ cs) h = let range = digit_from_value c h.0 in (omega arith, visible_digits cs h.1)

pub visible_decimal : (n : ℕ) → Visible (canonical_decimal n)
visible_decimal n = visible_digits (canonical_decimal n) (decimal_digits n)

pub visible_integer : (z : ℤ) → Visible (canonical_integer z)
unfolding canonical_integer
visible_integer (pos n) = visible_decimal n
visible_integer (negsuc n) = (omega arith, visible_decimal (suc n))

-- whether a text is visible, as a test that computes on words
abbrev pub shown : List ℕ → Bool
shown [] = true
shown (c ∷ cs) = cond (nat_lt 32 c) (shown cs) false

pub from_shown : (text : List ℕ) → shown text ≡ true → Visible text
from_shown [] e = tt
from_shown (c ∷ cs) e = step (nat_lt 32 c) refl e (from_shown cs)
  where
    step : (b : Bool) → nat_lt 32 c ≡ b → cond b (shown cs) false ≡ true → (shown cs ≡ true → Visible cs) → (32 < c) × Visible cs
    step true is h rest = (omega (arith, ltb-true), rest h)
    step false is h rest = absurd (cc)

-- fields each after a separator lack another byte that none of them has
pub lacks_after_each : (separator other : ℕ) (fields : List (List ℕ)) → (separator == other) ≡ false → AllByRecursion (Lacks other) fields → Lacks other (after_each separator fields)
lacks_after_each separator other [] apart h = tt
lacks_after_each separator other (field ∷ fields) apart h =
    lacks-append other (separator ∷ field) (after_each separator fields) (apart, h.0) (lacks_after_each separator other fields apart h.1)
