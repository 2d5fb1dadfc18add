-- What is found by a number: clients by the numbers of their threads, and what waits by those of the threads.
use Rattle.lawful_log.proofs.Common.{◌≡◌, ◌≢◌, ℕ, ◌&&◌, Bool, true, false, cond, nat_eq, not, List, [], ◌∷◌, ◌++◌, Option, Some, None, find, refl, sym, ap, ◌∙◌, subst, filter, AllByRecursion, list_any, eq-eqb, Waiter, IsOnce, waits, Client, AreOnce, other_number, waiter_of, by_test, eq_true}
use Rattle.stride_rule.specs.Clients.{IsAbsent, client_of, with_growth, grown, without}

pub all_both : {X : Type 0} (P Q R : X → Type 0) → ((x : X) → P x → Q x → R x) → (xs : List X) → AllByRecursion P xs → AllByRecursion Q xs → AllByRecursion R xs
all_both P Q R gives [] p q = tt
all_both P Q R gives (x ∷ xs) p q = (gives x p.0 q.0, all_both P Q R gives xs p.1 q.1)

-- ---- by any key

module _ {X : Type 0} (key : X → ℕ) where
  abbrev at : ℕ → List X → Option X
  at number xs = find (λ x. nat_eq (key x) number) xs

  pub key_is : (number : ℕ) (xs : List X) (x : X) → at number xs ≡ Some x → key x ≡ number
  key_is number [] x e = absurd (cc)
  key_is number (y ∷ ys) x e =
      by_test (nat_eq (key y) number) _
      (λ same. let here : Some y ≡ Some x = rw same at e in let is : y ≡ x = cc in ap key (sym is) ∙ eq_true (key y) number same)
      (λ other. let later : at number ys ≡ Some x = rw other at e in key_is number ys x later)

  pub all_at : (P : X → Type 0) (number : ℕ) (xs : List X) (x : X) → AllByRecursion P xs → at number xs ≡ Some x → P x
  all_at P number [] x all e = absurd (cc)
  all_at P number (y ∷ ys) x all e =
      by_test (nat_eq (key y) number) _
      (λ same. let here : Some y ≡ Some x = rw same at e in let is : y ≡ x = cc in subst P is all.0)
      (λ other. let later : at number ys ≡ Some x = rw other at e in all_at P number ys x all.1 later)

  pub none_at : (number : ℕ) (xs : List X) → AllByRecursion (λ x. key x ≢ number) xs → at number xs ≡ None
  none_at number [] apart = refl
  none_at number (x ∷ xs) apart = let other : nat_eq (key x) number ≡ false = other_number (key x) number apart.0 in rw other (none_at number xs apart.1)

  pub apart_at : (number : ℕ) (xs : List X) → at number xs ≡ None → AllByRecursion (λ x. key x ≢ number) xs
  apart_at number [] e = tt
  apart_at number (x ∷ xs) e =
      by_test (nat_eq (key x) number) _
      (λ same. let no : Some x ≡ None = rw same at e in absurd (cc))
      (λ other. let later : at number xs ≡ None = rw other at e in
      ((λ same. let yes : nat_eq (key x) number ≡ true = eq-eqb (key x) number same in absurd (let no : true ≡ false = sym yes ∙ other in cc)), apart_at number xs later))

  -- ---- one more at the end

  pub append_other : (number : ℕ) (xs : List X) (x : X) → key x ≢ number → at number (xs ++ x ∷ []) ≡ at number xs
  append_other number [] x apart = let other : nat_eq (key x) number ≡ false = other_number (key x) number apart in rw other refl
  append_other number (y ∷ ys) x apart = ap (λ (o : Option X). cond (nat_eq (key y) number) (Some y) o) (append_other number ys x apart)

  pub append_self : (number : ℕ) (xs : List X) (x : X) → key x ≡ number → at number xs ≡ None → at number (xs ++ x ∷ []) ≡ Some x
  append_self number [] x same e = let here : nat_eq (key x) number ≡ true = eq-eqb (key x) number same in rw here refl
  append_self number (y ∷ ys) x same e =
      by_test (nat_eq (key y) number) _
      (λ found. let no : Some y ≡ None = rw found at e in absurd (cc))
      (λ other. let later : at number ys ≡ None = rw other at e in rw other (append_self number ys x same later))

  pub append_there : (number : ℕ) (xs : List X) (x y : X) → at number xs ≡ Some x → at number (xs ++ y ∷ []) ≡ Some x
  append_there number [] x y e = absurd (cc)
  append_there number (z ∷ zs) x y e =
      by_test (nat_eq (key z) number) _
      (λ same. let here : Some z ≡ Some x = rw same at e in rw same here)
      (λ other. let later : at number zs ≡ Some x = rw other at e in rw other (append_there number zs x y later))

  -- the same of those that pass a test
  pub filtered_other : (keeps : X → Bool) (number : ℕ) (xs : List X) (x : X) → key x ≢ number → at number (filter keeps (xs ++ x ∷ [])) ≡ at number (filter keeps xs)
  filtered_other keeps number [] x apart =
      let other : nat_eq (key x) number ≡ false = other_number (key x) number apart in
      by_test (keeps x) _ (λ kept. rw (kept, other) refl) (λ dropped. rw dropped refl)
  filtered_other keeps number (y ∷ ys) x apart =
      by_test (keeps y) _
      (λ kept. rw kept (ap (λ (o : Option X). cond (nat_eq (key y) number) (Some y) o) (filtered_other keeps number ys x apart)))
      (λ dropped. rw dropped (filtered_other keeps number ys x apart))

  -- ---- but for one number

  abbrev pub but : ℕ → List X → List X
  but number xs = filter (λ x. not (nat_eq (key x) number)) xs

  pub but_self : (number : ℕ) (xs : List X) → at number (but number xs) ≡ None
  but_self number [] = refl
  but_self number (x ∷ xs) =
      by_test (nat_eq (key x) number) _
      (λ same. rw same (but_self number xs))
      (λ other. rw (other, other) (but_self number xs))

  -- a change of those of one number keeps what is found by another
  changed_other : (number other : ℕ) (change : List X → List X) (hit : X → List X → List X) → other ≢ number → at other (change []) ≡ None →
      ((x : X) (xs : List X) → change (x ∷ xs) ≡ cond (nat_eq (key x) number) (hit x xs) (x ∷ change xs)) →
      ((x : X) (xs : List X) → nat_eq (key x) other ≡ false → at other (change xs) ≡ at other xs → at other (hit x xs) ≡ at other xs) →
      (xs : List X) → at other (change xs) ≡ at other xs
  changed_other number other change hit apart none more passes [] = none
  changed_other number other change hit apart none more passes (x ∷ xs) =
      let later = changed_other number other change hit apart none more passes xs in
      by_test (nat_eq (key x) number) _
      (λ same.
      let differs : nat_eq (key x) other ≡ false = other_number (key x) other (λ e. apart (sym e ∙ eq_true (key x) number same)) in
      rw (more x xs, same, differs) (passes x xs differs later))
      (λ differs. rw (more x xs, differs) (ap (λ (o : Option X). cond (nat_eq (key x) other) (Some x) o) later))

  pub but_other : (number other : ℕ) (xs : List X) → other ≢ number → at other (but number xs) ≡ at other xs
  but_other number other xs apart = changed_other number other (but number) (λ x ys. but number ys) apart refl more (λ x ys differs later. later) xs where
    more : (x : X) (ys : List X) → but number (x ∷ ys) ≡ cond (nat_eq (key x) number) (but number ys) (x ∷ but number ys)
    more x ys = by_test (nat_eq (key x) number) _ (λ same. rw same) (λ differs. rw differs)

-- ---- clients whose pass grows, or that leave

pub grown_other : (number other : ℕ) (cs : List Client) → other ≢ number → client_of other (grown number cs) ≡ client_of other cs
grown_other number other cs apart =
    changed_other (λ (c : Client). c.thread.number) number other (grown number) (λ c rest. with_growth c ∷ rest) apart refl (λ c rest. refl)
    (λ c rest differs later. rw differs refl) cs

pub grown_self : (number : ℕ) (cs : List Client) (c : Client) → client_of number cs ≡ Some c → client_of number (grown number cs) ≡ Some (with_growth c)
grown_self number [] c e = absurd (cc)
grown_self number (x ∷ xs) c e =
    by_test (nat_eq x.thread.number number) _
    (λ same. let here : Some x ≡ Some c = rw same at e in let is : x ≡ c = cc in rw (same, same) (ap (λ (v : Client). Some (with_growth v)) is))
    (λ other. let later : client_of number xs ≡ Some c = rw other at e in rw (other, other) (grown_self number xs c later))

pub without_other : (number other : ℕ) (cs : List Client) → other ≢ number → client_of other (without number cs) ≡ client_of other cs
without_other number other cs apart =
    changed_other (λ (c : Client). c.thread.number) number other (without number) (λ c rest. rest) apart refl (λ c rest. refl)
    (λ c rest differs later. refl) cs

pub without_self : (number : ℕ) (cs : List Client) → AreOnce cs → client_of number (without number cs) ≡ None
without_self number [] once = refl
without_self number (c ∷ cs) once =
    by_test (nat_eq c.thread.number number) _
    (λ same.
    let gone : IsAbsent number cs = subst (λ (n : ℕ). IsAbsent n cs) (eq_true c.thread.number number same) once.0 in
    rw same (none_at (λ (x : Client). x.thread.number) number cs gone))
    (λ other. rw (other, other) (without_self number cs once.1))

-- ---- what waits

pub none_waiting : (waiting : List Waiter) (number : ℕ) → waits waiting number ≡ false → waiter_of number waiting ≡ None
none_waiting [] number e = refl
none_waiting (w ∷ waiting) number e =
    by_test (nat_eq w.thread number) _
    (λ same. absurd (let no : true ≡ false = rw same at e in cc))
    (λ other. let later : waits waiting number ≡ false = rw other at e in rw other (none_waiting waiting number later))

-- each that waits is the one of its thread
pub own : (waiting : List Waiter) → IsOnce waiting → AllByRecursion (λ w. waiter_of w.thread waiting ≡ Some w) waiting
own [] once = tt
own (x ∷ xs) once = (
  (let same : nat_eq x.thread x.thread ≡ true = eq-eqb x.thread x.thread refl in rw same refl),
  all_both (λ w. w.thread ≢ x.thread) (λ w. waiter_of w.thread xs ≡ Some w) (λ w. waiter_of w.thread (x ∷ xs) ≡ Some w)
      (λ w apart found. let other : nat_eq x.thread w.thread ≡ false = other_number x.thread w.thread (λ e. apart (sym e)) in rw other found) xs once.0 (own xs once.1),
)

pub own_clients : (cs : List Client) → AreOnce cs → AllByRecursion (λ c. client_of c.thread.number cs ≡ Some c) cs
own_clients [] once = tt
own_clients (x ∷ xs) once = (
  (let same : nat_eq x.thread.number x.thread.number ≡ true = eq-eqb x.thread.number x.thread.number refl in rw same refl),
  all_both (λ c. c.thread.number ≢ x.thread.number) (λ c. client_of c.thread.number xs ≡ Some c) (λ c. client_of c.thread.number (x ∷ xs) ≡ Some c)
      (λ c apart found. let other : nat_eq x.thread.number c.thread.number ≡ false = other_number x.thread.number c.thread.number (λ e. apart (sym e)) in rw other found) xs once.0 (own_clients xs once.1),
)

-- none passes a test
pub none_passes : {X : Type 0} (test : X → Bool) (xs : List X) → AllByRecursion (λ x. test x ≡ false) xs → list_any test xs ≡ false
none_passes test [] none = refl
none_passes test (x ∷ xs) none = let here : test x ≡ false = none.0 in rw here (none_passes test xs none.1)

and_false : (b : Bool) → (b && false) ≡ false
and_false true = refl
and_false false = refl

-- what waits of a thread is the first of it that passes a test, where it passes
pub found_passing : (test : Waiter → Bool) (number : ℕ) (waiting : List Waiter) (w : Waiter) → waiter_of number waiting ≡ Some w → test w ≡ true → find (λ v. test v && nat_eq v.thread number) waiting ≡ Some w
found_passing test number [] w e passing = absurd (cc)
found_passing test number (x ∷ xs) w e passing =
    by_test (nat_eq x.thread number) _
    (λ same.
    let here : Some x ≡ Some w = rw same at e in
    let is : x ≡ w = cc in
    let passes : test x ≡ true = ap test is ∙ passing in
    rw (passes, same) here)
    (λ other. let later : waiter_of number xs ≡ Some w = rw other at e in rw (other, and_false (test x)) (found_passing test number xs w later passing))
