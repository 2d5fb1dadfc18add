-- Threads that are found by their numbers, in the order of the numbers.
use Rattle.segment_laws.proofs.Common.{◌≡◌, ℕ, zero, suc, ◌+◌, ◌<◌, ◌≤◌, Bool, true, false, cond, not, List, [], ◌∷◌, ◌++◌, length, Option, Some, None, refl, sym, ap, subst, ◌∙◌, arith, ⊎_elim, nat_eq, AllByRecursion, eq-eqb, ne_eqb, cases_eq, Thread, first_with, replaced, without, with_found, threads_from}

-- what is found has its number
abbrev pub AreNamed : (ℕ → Option Thread) → Type 0
AreNamed find = (number : ℕ) (thread : Thread) → find number ≡ Some thread → thread.number ≡ number

abbrev chosen : Thread → Thread → Bool → Thread
chosen new old same = cond same new old

-- ---- the first of a number

skip : (number : ℕ) (thread : Thread) (threads : List Thread) → (thread.number ≡ number → ⊥) → first_with number (thread ∷ threads) ≡ first_with number threads
skip number thread threads apart = ap (λ (b : Bool). cond b (Some thread) (first_with number threads)) (ne_eqb thread.number number apart)

first_none : (find : ℕ → Option Thread) (number from n : ℕ) → AreNamed find → number < from → first_with number (threads_from find from n) ≡ None
first_none find number from zero named less = refl
first_none find number from (suc n) named less = by (first_none find number (from + 1) n named (omega arith)) (find from) refl
  where
    by : first_with number (threads_from find (from + 1) n) ≡ None → (here : Option Thread) → find from ≡ here → first_with number (with_found here (threads_from find (from + 1) n)) ≡ None
    by rest None e = rest
    by rest (Some thread) e = let is = named from thread e in skip number thread (threads_from find (from + 1) n) (λ same. omega (arith, is, same, less)) ∙ rest

pub first_found : (find : ℕ → Option Thread) (number from n : ℕ) → AreNamed find → from ≤ number → number < from + n → first_with number (threads_from find from n) ≡ find number
first_found find number from zero named low high = absurd (omega arith)
first_found find number from (suc n) named low high = ⊎_elim
    (λ (same : from ≡ number). here same (find from) refl)
    (λ (apart : from ≡ number → ⊥). there apart (first_found find number (from + 1) n named (omega arith) (omega arith)) (find from) refl)
    (cases_eq from number)
  where
    here : from ≡ number → (found : Option Thread) → find from ≡ found → first_with number (with_found found (threads_from find (from + 1) n)) ≡ find number
    here same None e = first_none find number (from + 1) n named (omega arith) ∙ sym (ap find (sym same) ∙ e)
    here same (Some thread) e =
        let is = named from thread e in
        ap (λ (b : Bool). cond b (Some thread) (first_with number (threads_from find (from + 1) n))) (eq-eqb thread.number number (is ∙ same)) ∙ sym (ap find (sym same) ∙ e)

    there : (from ≡ number → ⊥) → first_with number (threads_from find (from + 1) n) ≡ find number → (found : Option Thread) → find from ≡ found → first_with number (with_found found (threads_from find (from + 1) n)) ≡ find number
    there apart rest None e = rest
    there apart rest (Some thread) e = let is = named from thread e in skip number thread (threads_from find (from + 1) n) (λ same. apart (sym is ∙ same)) ∙ rest

-- what stands there was found
pub first_back : (find : ℕ → Option Thread) (number from n : ℕ) (thread : Thread) → AreNamed find → first_with number (threads_from find from n) ≡ Some thread → find number ≡ Some thread
first_back find number from zero thread named e = absurd cc
first_back find number from (suc n) thread named e = by (λ later. first_back find number (from + 1) n thread named later) (find from) refl e
  where
    by : (first_with number (threads_from find (from + 1) n) ≡ Some thread → find number ≡ Some thread) → (here : Option Thread) → find from ≡ here → first_with number (with_found here (threads_from find (from + 1) n)) ≡ Some thread → find number ≡ Some thread
    by rest None h e = rest e
    by rest (Some t) h e = ⊎_elim
        (λ (same : t.number ≡ number).
        let both : Some t ≡ Some thread = sym (ap (λ (b : Bool). cond b (Some t) (first_with number (threads_from find (from + 1) n))) (eq-eqb t.number number same)) ∙ e in
        ap find (sym same ∙ named from t h) ∙ h ∙ both)
        (λ (apart : t.number ≡ number → ⊥). rest (sym (skip number t (threads_from find (from + 1) n) apart) ∙ e))
        (cases_eq t.number number)

pub all_found : (P : Thread → Type 0) (find : ℕ → Option Thread) (from n : ℕ) → ((number : ℕ) (thread : Thread) → find number ≡ Some thread → P thread) → AllByRecursion P (threads_from find from n)
all_found P find from zero each = tt
all_found P find from (suc n) each = by (all_found P find (from + 1) n each) (find from) refl
  where
    by : AllByRecursion P (threads_from find (from + 1) n) → (here : Option Thread) → find from ≡ here → AllByRecursion P (with_found here (threads_from find (from + 1) n))
    by rest None e = rest
    by rest (Some thread) e = (each from thread e, rest)

-- ---- the same

pub threads_same : (find find' : ℕ → Option Thread) (from n : ℕ) → ((number : ℕ) → from ≤ number → number < from + n → find' number ≡ find number) → threads_from find' from n ≡ threads_from find from n
threads_same find find' from zero same = refl
threads_same find find' from (suc n) same =
    let here = same from (omega arith) (omega arith) in
    let rest = threads_same find find' (from + 1) n (λ number low high. same number (omega arith) (omega arith)) in
    (λ i. with_found (here i) (rest i))

-- ---- one is put in the place of another

pub threads_replaced : (find find' : ℕ → Option Thread) (new : Thread) (from n : ℕ) → AreNamed find → ((number : ℕ) → (number ≡ new.number → ⊥) → find' number ≡ find number) → (old : Thread) → find new.number ≡ Some old → find' new.number ≡ Some new →
    threads_from find' from n ≡ replaced new (threads_from find from n)
threads_replaced find find' new from zero named same old was now = refl
threads_replaced find find' new from (suc n) named same old was now =
    let rest = threads_replaced find find' new (from + 1) n named same old was now in
    ⊎_elim
    (λ (is : from ≡ new.number).
    let yes : nat_eq old.number new.number ≡ true = eq-eqb old.number new.number (named new.number old was) in
    let there : find' from ≡ Some new = ap find' is ∙ now in
    let here : find from ≡ Some old = ap find is ∙ was in
    ap (λ (f : Option Thread). with_found f (threads_from find' (from + 1) n)) there
    ∙ (λ i. chosen new old (sym yes i) ∷ rest i)
    ∙ sym (ap (λ (f : Option Thread). replaced new (with_found f (threads_from find (from + 1) n))) here))
    (λ (apart : from ≡ new.number → ⊥). by apart rest (find from) refl)
    (cases_eq from new.number)
  where
    by : (from ≡ new.number → ⊥) → threads_from find' (from + 1) n ≡ replaced new (threads_from find (from + 1) n) → (here : Option Thread) → find from ≡ here → with_found (find' from) (threads_from find' (from + 1) n) ≡ replaced new (with_found (find from) (threads_from find (from + 1) n))
    by apart rest None e =
        ap (λ (f : Option Thread). with_found f (threads_from find' (from + 1) n)) (same from apart ∙ e) ∙ rest ∙ sym (ap (λ (f : Option Thread). replaced new (with_found f (threads_from find (from + 1) n))) e)
    by apart rest (Some t) e =
        let no : nat_eq t.number new.number ≡ false = ne_eqb t.number new.number (λ k. apart (sym (named from t e) ∙ k)) in
        ap (λ (f : Option Thread). with_found f (threads_from find' (from + 1) n)) (same from apart ∙ e)
        ∙ (λ i. chosen new t (sym no i) ∷ rest i)
        ∙ sym (ap (λ (f : Option Thread). replaced new (with_found f (threads_from find (from + 1) n))) e)

-- ---- one more at the end

pub threads_more : (find : ℕ → Option Thread) (from n : ℕ) → threads_from find from (n + 1) ≡ threads_from find from n ++ with_found (find (from + n)) []
threads_more find from zero = let none : from ≡ from + 0 = omega arith in let one : zero + 1 ≡ suc zero = omega arith in ap (threads_from find from) one ∙ ap (λ (k : ℕ). with_found (find k) []) none
threads_more find from (suc n) =
    let sum : from + 1 + n ≡ from + suc n = omega arith in
    let more : suc n + 1 ≡ suc (n + 1) = omega arith in
    ap (threads_from find from) more
    ∙ ap (with_found (find from)) (threads_more find (from + 1) n ∙ ap (λ (k : ℕ). threads_from find (from + 1) n ++ with_found (find k) []) sum)
    ∙ front (find from) (threads_from find (from + 1) n) (with_found (find (from + suc n)) [])
  where
    front : (here : Option Thread) (xs ys : List Thread) → with_found here (xs ++ ys) ≡ with_found here xs ++ ys
    front None xs ys = refl
    front (Some t) xs ys = refl

-- ---- one goes away

keeps : (number : ℕ) (t : Thread) (threads : List Thread) → (t.number ≡ number → ⊥) → without number (t ∷ threads) ≡ t ∷ without number threads
keeps number t threads apart = ap (λ (b : Bool). cond (not b) (t ∷ without number threads) (without number threads)) (ne_eqb t.number number apart)

drops : (number : ℕ) (t : Thread) (threads : List Thread) → t.number ≡ number → without number (t ∷ threads) ≡ without number threads
drops number t threads same = ap (λ (b : Bool). cond (not b) (t ∷ without number threads) (without number threads)) (eq-eqb t.number number same)

pub threads_without : (find find' : ℕ → Option Thread) (number from n : ℕ) → AreNamed find → ((other : ℕ) → (other ≡ number → ⊥) → find' other ≡ find other) → find' number ≡ None → threads_from find' from n ≡ without number (threads_from find from n)
threads_without find find' number from zero named same gone = refl
threads_without find find' number from (suc n) named same gone =
    let rest = threads_without find find' number (from + 1) n named same gone in
    ⊎_elim
    (λ (is : from ≡ number). at is rest (find from) refl)
    (λ (apart : from ≡ number → ⊥). by apart rest (find from) refl)
    (cases_eq from number)
  where
    at : from ≡ number → threads_from find' (from + 1) n ≡ without number (threads_from find (from + 1) n) → (here : Option Thread) → find from ≡ here → with_found (find' from) (threads_from find' (from + 1) n) ≡ without number (with_found (find from) (threads_from find (from + 1) n))
    at is rest None e =
        ap (λ (f : Option Thread). with_found f (threads_from find' (from + 1) n)) (ap find' is ∙ gone) ∙ rest ∙ sym (ap (λ (f : Option Thread). without number (with_found f (threads_from find (from + 1) n))) e)
    at is rest (Some t) e =
        ap (λ (f : Option Thread). with_found f (threads_from find' (from + 1) n)) (ap find' is ∙ gone) ∙ rest ∙ sym (drops number t (threads_from find (from + 1) n) (named from t e ∙ is))
        ∙ sym (ap (λ (f : Option Thread). without number (with_found f (threads_from find (from + 1) n))) e)

    by : (from ≡ number → ⊥) → threads_from find' (from + 1) n ≡ without number (threads_from find (from + 1) n) → (here : Option Thread) → find from ≡ here → with_found (find' from) (threads_from find' (from + 1) n) ≡ without number (with_found (find from) (threads_from find (from + 1) n))
    by apart rest None e =
        ap (λ (f : Option Thread). with_found f (threads_from find' (from + 1) n)) (same from apart ∙ e) ∙ rest ∙ sym (ap (λ (f : Option Thread). without number (with_found f (threads_from find (from + 1) n))) e)
    by apart rest (Some t) e =
        ap (λ (f : Option Thread). with_found f (threads_from find' (from + 1) n)) (same from apart ∙ e) ∙ ap (λ (ts : List Thread). t ∷ ts) rest
        ∙ sym (keeps number t (threads_from find (from + 1) n) (λ k. apart (sym (named from t e) ∙ k)))
        ∙ sym (ap (λ (f : Option Thread). without number (with_found f (threads_from find (from + 1) n))) e)

-- none of that number stands behind it
length_same : (find : ℕ → Option Thread) (number from n : ℕ) → AreNamed find → number < from → length (without number (threads_from find from n)) ≡ length (threads_from find from n)
length_same find number from zero named less = refl
length_same find number from (suc n) named less = by (length_same find number (from + 1) n named (omega arith)) (find from) refl
  where
    by : length (without number (threads_from find (from + 1) n)) ≡ length (threads_from find (from + 1) n) → (here : Option Thread) → find from ≡ here → length (without number (with_found here (threads_from find (from + 1) n))) ≡ length (with_found here (threads_from find (from + 1) n))
    by rest None e = rest
    by rest (Some t) e = let is = named from t e in ap length (keeps number t (threads_from find (from + 1) n) (λ same. omega (arith, is, same, less))) ∙ ap suc rest

pub length_less : (find : ℕ → Option Thread) (number from n : ℕ) (thread : Thread) → AreNamed find → find number ≡ Some thread → from ≤ number → number < from + n → length (without number (threads_from find from n)) + 1 ≡ length (threads_from find from n)
length_less find number from zero thread named found low high = absurd (omega arith)
length_less find number from (suc n) thread named found low high = ⊎_elim
    (λ (is : from ≡ number).
    let here : find from ≡ Some thread = ap find is ∙ found in
    let rest = length_same find number (from + 1) n named (omega arith) in
    let gone : length (without number (with_found (find from) (threads_from find (from + 1) n))) ≡ length (threads_from find (from + 1) n) =
    ap (λ (f : Option Thread). length (without number (with_found f (threads_from find (from + 1) n)))) here ∙ ap length (drops number thread (threads_from find (from + 1) n) (named number thread found)) ∙ rest in
    let all : length (with_found (find from) (threads_from find (from + 1) n)) ≡ suc (length (threads_from find (from + 1) n)) = ap (λ (f : Option Thread). length (with_found f (threads_from find (from + 1) n))) here in
    omega (arith, gone, all))
    (λ (apart : from ≡ number → ⊥). by apart (find from) refl (length_less find number (from + 1) n thread named found (omega arith) (omega arith)))
    (cases_eq from number)
  where
    by : (from ≡ number → ⊥) → (here : Option Thread) → find from ≡ here → length (without number (threads_from find (from + 1) n)) + 1 ≡ length (threads_from find (from + 1) n) →
        length (without number (with_found (find from) (threads_from find (from + 1) n))) + 1 ≡ length (with_found (find from) (threads_from find (from + 1) n))
    by apart None e rest = subst (λ (f : Option Thread). length (without number (with_found f (threads_from find (from + 1) n))) + 1 ≡ length (with_found f (threads_from find (from + 1) n))) (sym e) rest
    by apart (Some t) e rest =
        let kept : length (without number (t ∷ threads_from find (from + 1) n)) ≡ suc (length (without number (threads_from find (from + 1) n))) = ap length (keeps number t (threads_from find (from + 1) n) (λ k. apart (sym (named from t e) ∙ k))) in
        let one : length (without number (t ∷ threads_from find (from + 1) n)) + 1 ≡ suc (length (threads_from find (from + 1) n)) = omega (arith, kept, rest) in
        subst (λ (f : Option Thread). length (without number (with_found f (threads_from find (from + 1) n))) + 1 ≡ length (with_found f (threads_from find (from + 1) n))) (sym e) one
