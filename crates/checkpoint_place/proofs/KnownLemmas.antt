-- What is known of tables stays so while bounds are written.
use Rattle.checkpoint_place.proofs.Common.{◌≡◌, ℕ, zero, suc, ◌+◌, ◌<◌, Bool, true, Option, List, [], ◌∷◌, length, get_or, take, reverse, filter, ◌∙◌, arith, AllByRecursion, has, by_test, has-tail, reverse-more, AreAmong, AreKnownAmong, IsKnown, All-weaker}
use Rattle.checkpoint_place.proofs.BoundLemmas.{greatest-agree}

-- ---- other bounds that are the same where it matters

pub IsKnown-agree : (tables : List (List ℕ)) (p q : ℕ → ℕ) (others : List ℕ) (known : List (Option ℕ)) → ((c : ℕ) → has c others ≡ true → p c ≡ q c) →
    AreKnownAmong tables others known → IsKnown tables p known → IsKnown tables q known
IsKnown-agree tables p q others known same among was = record {
  each = was.each;
  most = λ table value is.
      was.most table value is
      ∙ greatest-agree p q (get_or tables table [])
      (All-weaker (λ c. has c others ≡ true) (λ c. p c ≡ q c) same (get_or tables table []) (among table value is));
}

-- one function more
pub AreKnownAmong-more : (tables : List (List ℕ)) (order : List ℕ) (i : ℕ) (known : List (Option ℕ)) → i < length order →
    AreKnownAmong tables (reverse (take i order)) known → AreKnownAmong tables (reverse (take (i + 1) order)) known
AreKnownAmong-more tables order i known within among table value is =
    let more : AreAmong (get_or order i 0 ∷ reverse (take i order)) (get_or tables table []) =
    All-weaker (λ c. has c (reverse (take i order)) ≡ true) (λ c. has c (get_or order i 0 ∷ reverse (take i order)) ≡ true)
    (λ c. has-tail c (get_or order i 0) (reverse (take i order))) (get_or tables table []) (among table value is) in
    rw (reverse-more order i within) more

-- ---- the sites of a function

-- what holds of each element that passes a test holds of one at a place that passes it
pub filtered-at : {X : Type 0} (P : X → Type 0) (p : X → Bool) (xs : List X) (i : ℕ) (d : X) → AllByRecursion P (filter p xs) → i < length xs → p (get_or xs i d) ≡ true → P (get_or xs i d)
filtered-at P p [] i d all within passes = absurd (omega arith)
filtered-at P p (x ∷ xs) zero d all within passes = (rw passes at all).0
filtered-at P p (x ∷ xs) (suc i) d all within passes =
    by_test (p x)
    (λ t. filtered-at P p xs i d (rw t at all).1 (omega arith) passes)
    (λ e. filtered-at P p xs i d (rw e at all) (omega arith) passes)
