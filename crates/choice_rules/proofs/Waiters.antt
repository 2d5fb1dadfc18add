-- Lists of waiting threads.
use Rattle.choice_rules.proofs.Common.{◌≡◌, ◌≢◌, ℕ, ◌+◌, ◌-◌, ◌≤◌, ◌||◌, Bool, true, false, nat_eq, not, List, [], ◌∷◌, ◌++◌, length, map, refl, sym, ap, ◌∙◌, cond, ⊎_elim, arith, filter, AllByRecursion, range_with_len, cases_eq, eq-eqb, ne_eqb, Waiter, newcomers, IsOnce, waits, All-append, or_left, or_parts, or_from}
use Rattle.std.proofs.lemmas.List.FromFn.{map-range_with_len_more}
use Rattle.c_mean.specs.World as source

joined : (t a b c : Bool) → c ≡ (a || b) → (t || c) ≡ ((t || a) || b)
joined true a b c e = refl
joined false a b c e = e

pub waits_append : (a b : List Waiter) (number : ℕ) → waits (a ++ b) number ≡ (waits a number || waits b number)
waits_append [] b number = refl
waits_append (x ∷ a) b number = joined (nat_eq x.thread number) _ _ _ (waits_append a b number)

pub self : (n : ℕ) → nat_eq n n ≡ true
self n = eq-eqb n n refl

pub waits_one : (x : Waiter) → waits (x ∷ []) x.thread ≡ true
waits_one x = or_left (nat_eq x.thread x.thread) false (self x.thread)

pub waits_other : (x : Waiter) (number : ℕ) → x.thread ≢ number → waits (x ∷ []) number ≡ false
waits_other x number apart = or_from (nat_eq x.thread number) false (ne_eqb x.thread number apart) refl

-- no thread of that number waits
pub none_waits : (waiting : List Waiter) (number : ℕ) → AllByRecursion (λ w. w.thread ≢ number) waiting → waits waiting number ≡ false
none_waits [] number all = refl
none_waits (x ∷ waiting) number all = or_from (nat_eq x.thread number) (waits waiting number) (ne_eqb x.thread number all.0) (none_waits waiting number all.1)

pub differ_all : (waiting : List Waiter) (number : ℕ) → waits waiting number ≡ false → AllByRecursion (λ w. w.thread ≢ number) waiting
differ_all [] number e = tt
differ_all (x ∷ waiting) number e =
    let both : (nat_eq x.thread number ≡ false) × (waits waiting number ≡ false) = or_parts (nat_eq x.thread number) (waits waiting number) e in
    ((λ same. let yes : nat_eq x.thread number ≡ true = eq-eqb x.thread number same in absurd (let no : true ≡ false = sym yes ∙ both.0 in cc)), differ_all waiting number both.1)

once_last : (a : List Waiter) (x : Waiter) → IsOnce a → AllByRecursion (λ w. w.thread ≢ x.thread) a → IsOnce (a ++ x ∷ [])
once_last [] x once apart = (tt, tt)
once_last (y ∷ a) x once apart =
    (All-append (λ w. w.thread ≢ y.thread) a (x ∷ []) once.0 ((λ e. apart.0 (sym e)), tt), once_last a x once.1 apart.1)

pub once_append : (a : List Waiter) (x : Waiter) → IsOnce a → waits a x.thread ≡ false → IsOnce (a ++ x ∷ [])
once_append a x once none = once_last a x once (differ_all a x.thread none)

-- ---- without one

abbrev pub but : ℕ → List Waiter → List Waiter
but number waiting = filter (λ w. not (nat_eq w.thread number)) waiting

all_by : (P : Waiter → Type 0) (x : Waiter) (rest : List Waiter) (t : Bool) → P x → AllByRecursion P rest → AllByRecursion P (cond (not t) (x ∷ rest) rest)
all_by P x rest true p all = all
all_by P x rest false p all = (p, all)

pub all_but : (P : Waiter → Type 0) (number : ℕ) (waiting : List Waiter) → AllByRecursion P waiting → AllByRecursion P (but number waiting)
all_but P number [] all = tt
all_but P number (x ∷ waiting) all = all_by P x (but number waiting) (nat_eq x.thread number) all.0 (all_but P number waiting all.1)

once_by : (x : Waiter) (rest : List Waiter) (t : Bool) → AllByRecursion (λ w. w.thread ≢ x.thread) rest → IsOnce rest → IsOnce (cond (not t) (x ∷ rest) rest)
once_by x rest true apart once = once
once_by x rest false apart once = (apart, once)

pub once_but : (number : ℕ) (waiting : List Waiter) → IsOnce waiting → IsOnce (but number waiting)
once_but number [] once = tt
once_but number (x ∷ waiting) once =
    once_by x (but number waiting) (nat_eq x.thread number) (all_but (λ w. w.thread ≢ x.thread) number waiting once.0) (once_but number waiting once.1)

pub waits_but_self : (number : ℕ) (waiting : List Waiter) → waits (but number waiting) number ≡ false
waits_but_self number [] = refl
waits_but_self number (x ∷ waiting) = ⊎_elim
    (λ (same : x.thread ≡ number). ap (λ (t : Bool). waits (cond (not t) (x ∷ but number waiting) (but number waiting)) number) (eq-eqb x.thread number same) ∙ waits_but_self number waiting)
    (λ apart. ap (λ (t : Bool). waits (cond (not t) (x ∷ but number waiting) (but number waiting)) number) (ne_eqb x.thread number apart)
    ∙ or_from (nat_eq x.thread number) (waits (but number waiting) number) (ne_eqb x.thread number apart) (waits_but_self number waiting))
    (cases_eq x.thread number)

pub waits_but_other : (number other : ℕ) (waiting : List Waiter) → other ≢ number → waits (but number waiting) other ≡ waits waiting other
waits_but_other number other [] apart = refl
waits_but_other number other (x ∷ waiting) apart = ⊎_elim
    (λ (same : x.thread ≡ number). ap (λ (t : Bool). waits (cond (not t) (x ∷ but number waiting) (but number waiting)) other) (eq-eqb x.thread number same)
    ∙ waits_but_other number other waiting apart
    ∙ ap (λ (t : Bool). t || waits waiting other) (sym (ne_eqb x.thread other (λ e. apart (sym e ∙ same)))))
    (λ differ. ap (λ (t : Bool). waits (cond (not t) (x ∷ but number waiting) (but number waiting)) other) (ne_eqb x.thread number differ)
    ∙ ap (λ (t : Bool). nat_eq x.thread other || t) (waits_but_other number other waiting apart))
    (cases_eq x.thread number)

-- ---- newcomers

pub newcomers_more : (old : source.World) (next : ℕ) → length old.threads ≤ next →
    newcomers old (next + 1) ≡ newcomers old next ++ record { thread = next; node = 0; since = 0 } ∷ []
newcomers_more old next h =
    let f : ℕ → Waiter = λ thread. record { thread = thread; node = 0; since = 0 } in
    let count : next + 1 - length old.threads ≡ next - length old.threads + 1 = omega arith in
    let last : length old.threads + (next - length old.threads) ≡ next = omega arith in
    ap (λ (n : ℕ). map f (range_with_len (length old.threads) n)) count ∙ map-range_with_len_more f (length old.threads) (next - length old.threads) next last
