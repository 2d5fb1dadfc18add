-- The decimals of small numbers, and a cap's text.
use Rattle.command_words.proofs.Common.{◌≡◌, ◌∙◌, ℕ, suc, ◌+◌, ◌≤◌, refl, ap, sym, arith, List, [], ◌∷◌, ◌++◌, canonical_decimal, cap_text}

pub one_digit : (n : ℕ) → n ≤ 7 → canonical_decimal n ≡ (48 + n) ∷ []
unfolding canonical_decimal
one_digit (suc (suc (suc (suc (suc (suc (suc (suc n)))))))) small = absurd (omega arith)
one_digit _ small = refl

pub cap_text_is : (resource most : ℕ) → resource ≤ 7 → cap_text (resource, most) ≡ (48 + resource) ∷ 61 ∷ canonical_decimal most
cap_text_is resource most small = ap (λ digits. digits ++ 61 ∷ canonical_decimal most) (one_digit resource small)

pub cap_parts : (field rest : List ℕ) (digit resource most : ℕ) → field ≡ digit ∷ rest → resource ≤ 7 → field ≡ cap_text (resource, most)
    → (digit ≡ 48 + resource) × (rest ≡ 61 ∷ canonical_decimal most)
cap_parts field rest digit resource most is small text =
    let e : digit ∷ rest ≡ (48 + resource) ∷ 61 ∷ canonical_decimal most = sym is ∙ text ∙ cap_text_is resource most small in
    (cc, cc)
