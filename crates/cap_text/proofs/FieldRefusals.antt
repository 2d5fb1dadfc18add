-- What a refused field says of the fields that were left.
use Rattle.cap_text.proofs.Common.{◌≡◌, ℕ, ℤ, ◌≤◌, List, ◌∷◌, FitsSigned, Result, Ok, Err, Option, Some, None, is_ok, is_some, IfNone, Width, canonical_decimal, canonical_integer, NumberError}

pub no_number : (old mid : List (List ℕ)) (field : List ℕ) (max : ℕ) (r : Result ℕ NumberError) (o : Option ℕ) → is_some o ≡ is_ok r → old ≡ field ∷ mid
    → ((n : ℕ) → n ≤ max → field ≡ canonical_decimal n → r ≡ Ok n)
    → IfNone o ((n : ℕ) (rest : List (List ℕ)) → n ≤ max → old ≡ canonical_decimal n ∷ rest → ⊥)
no_number old mid field max r (Some x) variant e reads = tt
no_number old mid field max (Ok v) None variant e reads = absurd (cc)
no_number old mid field max (Err error) None variant e reads = λ n rest most is. let answer = reads n most (cc) in absurd (cc)

pub no_integer : (w : Width) (old mid : List (List ℕ)) (field : List ℕ) (r : Result ℤ NumberError) (o : Option ℤ) → is_some o ≡ is_ok r → old ≡ field ∷ mid
    → ((z : ℤ) → FitsSigned w z → field ≡ canonical_integer z → r ≡ Ok z)
    → IfNone o ((z : ℤ) (rest : List (List ℕ)) → FitsSigned w z → old ≡ canonical_integer z ∷ rest → ⊥)
no_integer w old mid field r (Some x) variant e reads = tt
no_integer w old mid field (Ok v) None variant e reads = absurd (cc)
no_integer w old mid field (Err error) None variant e reads = λ z rest fits is. let answer = reads z fits (cc) in absurd (cc)
