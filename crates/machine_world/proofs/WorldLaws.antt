-- Held and free chunks stay exactly the pool, under each step of the world.
use Rattle.machine_world.proofs.Common.{◌≡◌, ℕ, ◌+◌, ◌<◌, Bool, true, false, nat_eq, not, List, [], ◌∷◌, ◌++◌, Some, refl, sym, ap, ◌∙◌, arith, cond, ⊎_elim, cases_eq, cond-true, cond-false, eq-eqb, ne_eqb, copies, Thread, first_with, replaced, without, held_copies, RiseBetween}

-- ---- threads by number

-- no thread has a number below the first
pub replaced_none : (new : Thread) (from next : ℕ) (threads : List Thread) → RiseBetween from next threads → new.number < from → replaced new threads ≡ threads
replaced_none new from next [] rise below = refl
replaced_none new from next (t ∷ ts) rise below =
    let apart : nat_eq t.number new.number ≡ false = ne_eqb t.number new.number (λ same. omega (arith, rise.0)) in
    (λ i. cond (apart i) new t ∷ replaced_none new (t.number + 1) next ts rise.1 (omega (arith, rise.0)) i)

without_none : (number from next : ℕ) (threads : List Thread) → RiseBetween from next threads → number < from → without number threads ≡ threads
without_none number from next [] rise below = refl
without_none number from next (t ∷ ts) rise below =
    let apart : nat_eq t.number number ≡ false = ne_eqb t.number number (λ same. omega (arith, rise.0)) in
    ap (λ (b : Bool). cond (not b) (t ∷ without number ts) (without number ts)) apart
    ∙ ap (λ (rest : List Thread). t ∷ rest) (without_none number (t.number + 1) next ts rise.1 (omega (arith, rise.0)))

-- ---- chunks of threads

pub held_copies-replaced : (chunk : ℕ) (new old : Thread) (from next : ℕ) (threads : List Thread) → RiseBetween from next threads → first_with new.number threads ≡ Some old →
    held_copies chunk (replaced new threads) + copies chunk old.core.chain ≡ held_copies chunk threads + copies chunk new.core.chain
held_copies-replaced chunk new old from next [] rise found = absurd (cc)
held_copies-replaced chunk new old from next (t ∷ ts) rise found =
    ⊎_elim
    (λ (same : t.number ≡ new.number).
    let test : nat_eq t.number new.number ≡ true = eq-eqb t.number new.number same in
    let is_old : t ≡ old = (let here : Some t ≡ Some old = sym (cond-true (nat_eq t.number new.number) (Some t) (first_with new.number ts) test) ∙ found in cc) in
    let rest = replaced_none new (t.number + 1) next ts rise.1 (omega arith) in
    let whole : held_copies chunk (replaced new (t ∷ ts)) ≡ copies chunk new.core.chain + held_copies chunk ts =
    (λ i. held_copies chunk (cond (test i) new t ∷ rest i)) in
    let chain : copies chunk t.core.chain ≡ copies chunk old.core.chain = ap (λ (u : Thread). copies chunk u.core.chain) is_old in
    omega (arith, whole, chain))
    (λ apart.
    let test : nat_eq t.number new.number ≡ false = ne_eqb t.number new.number apart in
    let later : first_with new.number ts ≡ Some old = sym (cond-false (nat_eq t.number new.number) (Some t) (first_with new.number ts) test) ∙ found in
    let whole : held_copies chunk (replaced new (t ∷ ts)) ≡ copies chunk t.core.chain + held_copies chunk (replaced new ts) =
    (λ i. held_copies chunk (cond (test i) new t ∷ replaced new ts)) in
    omega (arith, whole, held_copies-replaced chunk new old (t.number + 1) next ts rise.1 later))
    (cases_eq t.number new.number)

pub held_copies-without : (chunk number : ℕ) (old : Thread) (from next : ℕ) (threads : List Thread) → RiseBetween from next threads → first_with number threads ≡ Some old →
    held_copies chunk (without number threads) + copies chunk old.core.chain ≡ held_copies chunk threads
held_copies-without chunk number old from next [] rise found = absurd (cc)
held_copies-without chunk number old from next (t ∷ ts) rise found =
    ⊎_elim
    (λ (same : t.number ≡ number).
    let test : nat_eq t.number number ≡ true = eq-eqb t.number number same in
    let is_old : t ≡ old = (let here : Some t ≡ Some old = sym (cond-true (nat_eq t.number number) (Some t) (first_with number ts) test) ∙ found in cc) in
    let whole : held_copies chunk (without number (t ∷ ts)) ≡ held_copies chunk ts =
    ap (λ (b : Bool). held_copies chunk (cond (not b) (t ∷ without number ts) (without number ts))) test
    ∙ ap (held_copies chunk) (without_none number (t.number + 1) next ts rise.1 (omega arith)) in
    let chain : copies chunk t.core.chain ≡ copies chunk old.core.chain = ap (λ (u : Thread). copies chunk u.core.chain) is_old in
    omega (arith, whole, chain))
    (λ apart.
    let test : nat_eq t.number number ≡ false = ne_eqb t.number number apart in
    let later : first_with number ts ≡ Some old = sym (cond-false (nat_eq t.number number) (Some t) (first_with number ts) test) ∙ found in
    let whole : held_copies chunk (without number (t ∷ ts)) ≡ copies chunk t.core.chain + held_copies chunk (without number ts) =
    ap (λ (b : Bool). held_copies chunk (cond (not b) (t ∷ without number ts) (without number ts))) test in
    omega (arith, whole, held_copies-without chunk number old (t.number + 1) next ts rise.1 later))
    (cases_eq t.number number)

pub held_copies-append : (chunk : ℕ) (threads : List Thread) (t : Thread) → held_copies chunk (threads ++ t ∷ []) ≡ held_copies chunk threads + copies chunk t.core.chain
held_copies-append chunk [] t = omega arith
held_copies-append chunk (u ∷ us) t = omega (arith, held_copies-append chunk us t)
