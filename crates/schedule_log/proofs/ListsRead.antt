-- A list of numbers, of which the first were read and the fields of the others are left.
use Rattle.schedule_log.proofs.Common.{◌≡◌, ℕ, ◌+◌, ◌<◌, List, [], ◌∷◌, ◌++◌, length, drop, map, ap, sym, ◌∙◌, arith, Bool, false, ◌==◌, Option, Some, None, IfSome, IfNone, canonical_decimal, pieces, FitsKey, key_field, AllByRecursion, All-drop}
use Rattle.schedule_log.proofs.KeyPieces.{key_pieces, key_of_pieces}

pub if_none : {T : Type 0} {P : Type 0} (o : Option T) → P → IfNone o P
if_none None p = p
if_none (Some x) p = tt

pub left_of : {A : Type 0} (f : A → List ℕ) (read : List A) (left : List (List ℕ)) (all : List A) → map f read ++ left ≡ map f all → left ≡ map f (drop (length read) all)
left_of f [] left all e = e
left_of f (x ∷ read) left [] e = absurd (cc)
left_of f (x ∷ read) left (y ∷ all) e = left_of f read left all (cc)

-- what is left begins with the field of the next number
pub no_next : {A : Type 0} (P : A → Type 0) (f : A → List ℕ) (read : List A) (left : List (List ℕ)) (all : List A) → AllByRecursion P all → map f read ++ left ≡ map f all
    → 0 < length left → ((x : A) (rest : List (List ℕ)) → P x → left ≡ f x ∷ rest → ⊥) → ⊥
no_next {A} P f read left all h e some none = next (drop (length read) all) (All-drop P (length read) all h) (left_of f read left all e)
  where
    next : (others : List A) → AllByRecursion P others → left ≡ map f others → ⊥
    next [] g is = omega (arith, ap length is)
    next (x ∷ others) g is = none x (map f others) g.0 is

pub some_fields : (fields : List (List ℕ)) (b : Bool) → b ≡ (length fields == 0) → b ≡ false → 0 < length fields
some_fields [] b e f = absurd (cc)
some_fields (x ∷ fields) b e f = omega arith

pub key_found : (field : List ℕ) (sites : List (List ℕ)) (r : Option (List ℕ)) → sites ≡ pieces 60 field → IfSome r (λ key. FitsKey key × (sites ≡ map canonical_decimal key))
    → IfSome r (λ key. FitsKey key × (field ≡ key_field key))
key_found field sites None e h = tt
key_found field sites (Some key) e h = (h.0, key_of_pieces field key h.0.0 (sym e ∙ h.1))

pub no_key : (field : List ℕ) (sites : List (List ℕ)) (r : Option (List ℕ)) → sites ≡ pieces 60 field → IfNone r ((key : List ℕ) → FitsKey key → sites ≡ map canonical_decimal key → ⊥)
    → IfNone r ((key : List ℕ) → FitsKey key → field ≡ key_field key → ⊥)
no_key field sites None e h = λ key fits is. h key fits (e ∙ ap (pieces 60) is ∙ key_pieces key fits.0)
no_key field sites (Some key) e h = tt
