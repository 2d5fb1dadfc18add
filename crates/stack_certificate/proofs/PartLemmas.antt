-- Parts that grow by one instruction at their end.
use Rattle.stack_certificate.proofs.Common.{◌≡◌, ℕ, zero, suc, ◌+◌, ◌<◌, List, [], ◌∷◌, ◌++◌, length, map, take, arith, ap, ◌∙◌, append_assoc, add-zero, Option, slice_index, take_more, map-append, length-take-le, Instr, FunctionFact, checked, load, store, arguments, saves, a0}

arguments-append : (fact : FunctionFact) (r : ℕ) (xs : List ℕ) (x : ℕ) → arguments fact r (xs ++ x ∷ []) ≡ arguments fact r xs ++ load fact (r + length xs) x ∷ []
arguments-append fact r [] x = rw add-zero
arguments-append fact r (y ∷ ys) x =
    let e : r + 1 + length ys ≡ r + suc (length ys) = omega arith in
    ap (λ (l : List Instr). load fact r y ∷ l) (arguments-append fact (r + 1) ys x) ∙ ap (λ n. load fact r y ∷ (arguments fact (r + 1) ys ++ load fact n x ∷ [])) e

saves-more : (fact : FunctionFact) (r k n : ℕ) → saves fact r k (suc n) ≡ saves fact r k n ++ store fact (r + n) (k + n) ∷ []
saves-more fact r k zero = rw (add-zero, add-zero)
saves-more fact r k (suc n) =
    let e : r + 1 + n ≡ r + suc n = omega arith in
    let f : k + 1 + n ≡ k + suc n = omega arith in
    ap (λ (l : List Instr). store fact r k ∷ l) (saves-more fact (r + 1) (k + 1) n) ∙
    (ap (λ m. store fact r k ∷ (saves fact (r + 1) (k + 1) n ++ store fact m (k + 1 + n) ∷ [])) e ∙
    ap (λ m. store fact r k ∷ (saves fact (r + 1) (k + 1) n ++ store fact (r + suc n) m ∷ [])) f)

-- a list that ends with the instructions so far, and one more
grown : (old list : List (Option Instr)) (so_far more : List Instr) (instr : Instr) →
    more ≡ so_far ++ instr ∷ [] → list ≡ old ++ map checked so_far → list ++ checked instr ∷ [] ≡ old ++ map checked more
grown old list so_far more instr e h = rw (e, h, map-append, append_assoc)

arguments_more : (fact : FunctionFact) (xs : List ℕ) (k : ℕ) → k < length xs →
    arguments fact a0 (take (k + 1) xs) ≡ arguments fact a0 (take k xs) ++ load fact (a0 + k) (slice_index xs k) ∷ []
arguments_more fact xs k lt =
    ap (λ ys. arguments fact a0 ys) (take_more xs k 0 lt) ∙
    (arguments-append fact a0 (take k xs) (slice_index xs k) ∙
    ap (λ n. arguments fact a0 (take k xs) ++ load fact (a0 + n) (slice_index xs k) ∷ []) (length-take-le k xs (omega arith)))

saves_more : (fact : FunctionFact) (k : ℕ) → saves fact a0 0 (k + 1) ≡ saves fact a0 0 k ++ store fact (a0 + k) k ∷ []
saves_more fact k =
    let one : k + 1 ≡ suc k = omega arith in
    let same : 0 + k ≡ k = omega arith in
    ap (λ n. saves fact a0 0 n) one ∙ (saves-more fact a0 0 k ∙ ap (λ n. saves fact a0 0 k ++ store fact (a0 + k) n ∷ []) same)

pub arguments_step : (old list : List (Option Instr)) (fact : FunctionFact) (xs : List ℕ) (k : ℕ) → k < length xs →
    list ≡ old ++ map checked (arguments fact a0 (take k xs)) →
    list ++ checked (load fact (a0 + k) (slice_index xs k)) ∷ [] ≡ old ++ map checked (arguments fact a0 (take (k + 1) xs))
arguments_step old list fact xs k lt h = grown old list (arguments fact a0 (take k xs)) (arguments fact a0 (take (k + 1) xs)) (load fact (a0 + k) (slice_index xs k)) (arguments_more fact xs k lt) h

pub saves_step : (old list : List (Option Instr)) (fact : FunctionFact) (k : ℕ) →
    list ≡ old ++ map checked (saves fact a0 0 k) →
    list ++ checked (store fact (a0 + k) k) ∷ [] ≡ old ++ map checked (saves fact a0 0 (k + 1))
saves_step old list fact k h = grown old list (saves fact a0 0 k) (saves fact a0 0 (k + 1)) (store fact (a0 + k) k) (saves_more fact k) h
