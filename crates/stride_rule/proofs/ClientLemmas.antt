-- A client by its number.
use Rattle.stride_rule.proofs.Common.{◌≡◌, ◌≢◌, ℕ, ◌==◌, false, Some, List, [], ◌∷◌, ◌++◌, refl, sym, ap, ◌∙◌, subst, arith, AllByRecursion, nat_tests, Client, IsAbsent, client_of, pass_in, with_growth, grown, without, AreOnce, by_test}

pub other_number : (a b : ℕ) → a ≢ b → (a == b) ≡ false
other_number a b h = grind (arith, nat_tests)

-- ---- all clients

pub all_to : (P Q : Client → Type 0) → ((c : Client) → P c → Q c) → (cs : List Client) → AllByRecursion P cs → AllByRecursion Q cs
all_to P Q to [] all = tt
all_to P Q to (c ∷ cs) all = (to c all.0, all_to P Q to cs all.1)

pub all_append : (P : Client → Type 0) (cs : List Client) (c : Client) → AllByRecursion P cs → P c → AllByRecursion P (cs ++ c ∷ [])
all_append P [] c all it = (it, tt)
all_append P (x ∷ xs) c all it = (all.0, all_append P xs c all.1 it)

module _ (number : ℕ) where
  -- ---- a thread that isn't there

  pub grown-absent : (cs : List Client) → IsAbsent number cs → cs ≡ grown number cs
  grown-absent [] none = refl
  grown-absent (c ∷ cs) none =
      let other : (c.thread.number == number) ≡ false = other_number _ _ none.0 in
      rw other (ap (λ (v : List Client). c ∷ v) (grown-absent cs none.1))

  pub pass-absent : (cs : List Client) → IsAbsent number cs → pass_in number cs ≡ 0
  pass-absent [] none = refl
  pass-absent (c ∷ cs) none =
      let other : (c.thread.number == number) ≡ false = other_number _ _ none.0 in
      rw other (pass-absent cs none.1)

  pub without-absent : (cs : List Client) → IsAbsent number cs → cs ≡ without number cs
  without-absent [] none = refl
  without-absent (c ∷ cs) none =
      let other : (c.thread.number == number) ≡ false = other_number _ _ none.0 in
      rw other (ap (λ (v : List Client). c ∷ v) (without-absent cs none.1))

  -- ---- a thread that is there

  pub pass-of_client : (cs : List Client) (c : Client) → client_of number cs ≡ Some c → pass_in number cs ≡ c.pass
  pass-of_client [] c e = absurd cc
  pass-of_client (x ∷ xs) c e =
      by_test (x.thread.number == number) _
      (λ same. let it : Some x ≡ Some c = rw same at e in rw same cc)
      (λ other. let rest : client_of number xs ≡ Some c = rw other at e in rw other (pass-of_client xs c rest))

  pub all-client : (P : Client → Type 0) (cs : List Client) (c : Client) → AllByRecursion P cs → client_of number cs ≡ Some c → P c
  all-client P [] c all e = absurd cc
  all-client P (x ∷ xs) c all e =
      by_test (x.thread.number == number) _
      (λ same. let it : Some x ≡ Some c = rw same at e in let is : x ≡ c = cc in subst (λ (v : Client). P v) is all.0)
      (λ other. let rest : client_of number xs ≡ Some c = rw other at e in all-client P xs c all.1 rest)

  -- ---- growth and leaving keep what holds of each client

  pub all-grown : (P : Client → Type 0) → ((c : Client) → P c → P (with_growth c)) → (cs : List Client) → AllByRecursion P cs → AllByRecursion P (grown number cs)
  all-grown P grows [] all = tt
  all-grown P grows (c ∷ cs) all =
      by_test (c.thread.number == number) _
      (λ same. rw same (grows c all.0, all.1))
      (λ other. rw other (all.0, all-grown P grows cs all.1))

  pub all-without : (P : Client → Type 0) (cs : List Client) → AllByRecursion P cs → AllByRecursion P (without number cs)
  all-without P [] all = tt
  all-without P (c ∷ cs) all =
      by_test (c.thread.number == number) _
      (λ same. rw same all.1)
      (λ other. rw other (all.0, all-without P cs all.1))

  pub once-grown : (cs : List Client) → AreOnce cs → AreOnce (grown number cs)
  once-grown [] once = tt
  once-grown (c ∷ cs) once =
      by_test (c.thread.number == number) _
      (λ same. rw same (once.0, once.1))
      (λ other. rw other (all-grown (λ x. x.thread.number ≢ c.thread.number) (λ x ne. ne) cs once.0, once-grown cs once.1))

  pub once-without : (cs : List Client) → AreOnce cs → AreOnce (without number cs)
  once-without [] once = tt
  once-without (c ∷ cs) once =
      by_test (c.thread.number == number) _
      (λ same. rw same once.1)
      (λ other. rw other (all-without (λ x. x.thread.number ≢ c.thread.number) cs once.0, once-without cs once.1))

  pub once-append : (cs : List Client) (c : Client) → c.thread.number ≡ number → AreOnce cs → IsAbsent number cs → AreOnce (cs ++ c ∷ [])
  once-append [] c is once none = (tt, tt)
  once-append (x ∷ xs) c is once none = (
    all_append (λ y. y.thread.number ≢ x.thread.number) xs c once.0 (λ e. none.0 (sym e ∙ is)),
    once-append xs c is once.1 none.1,
  )
