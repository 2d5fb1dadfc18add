-- Places, with the clients and the needs that stand at them.
use Rattle.stride_rule.proofs.Common.{◌≡◌, ◌≢◌, ℕ, zero, suc, ◌<◌, ◌≤◌, ◌==◌, true, false, Option, Some, None, List, [], ◌∷◌, ◌++◌, length, filter, slice_set, refl, sym, ap, ◌∙◌, subst, arith, AllByRecursion, nat_tests, Need, Client, Row, IsAbsent, client_of, pass_in, grown, without, clients_of, is_of, is_there, needs_in, pass_of, row_at, row_grown, row_told, AreOnce, need_of, with_need, without_need, by_test, eq_true}
use Rattle.stride_rule.proofs.ClientLemmas.{other_number}

-- ---- all places

pub clients_gathered : (ps : List (Option Row)) → clients_of (filter is_there ps) ≡ clients_of ps
clients_gathered [] = refl
clients_gathered (None ∷ ps) = clients_gathered ps
clients_gathered (Some r ∷ ps) = ap (λ (cs : List Client). r.client ∷ cs) (clients_gathered ps)

pub needs_gathered : (ps : List (Option Row)) → needs_in (filter is_there ps) ≡ needs_in ps
needs_gathered [] = refl
needs_gathered (None ∷ ps) = needs_gathered ps
needs_gathered (Some r ∷ ps) = ap (λ (ns : List (ℕ × Need)). (r.client.thread.number, r.need) ∷ ns) (needs_gathered ps)

pub gathered-shorter : (ps : List (Option Row)) → length (filter is_there ps) ≤ length ps
gathered-shorter [] = omega arith
gathered-shorter (None ∷ ps) = let h : length (filter is_there ps) ≤ length ps = gathered-shorter ps in omega arith
gathered-shorter (Some r ∷ ps) = let h : length (filter is_there ps) ≤ length ps = gathered-shorter ps in omega arith

pub clients_appended : (ps : List (Option Row)) (r : Row) → clients_of (ps ++ Some r ∷ []) ≡ clients_of ps ++ r.client ∷ []
clients_appended [] r = refl
clients_appended (None ∷ ps) r = clients_appended ps r
clients_appended (Some x ∷ ps) r = ap (λ (cs : List Client). x.client ∷ cs) (clients_appended ps r)

pub needs_appended : (ps : List (Option Row)) (r : Row) → IsAbsent r.client.thread.number (clients_of ps) →
    needs_in (ps ++ Some r ∷ []) ≡ with_need r.client.thread.number r.need (needs_in ps)
needs_appended [] r none = refl
needs_appended (None ∷ ps) r none = needs_appended ps r none
needs_appended (Some x ∷ ps) r none =
    let other : (x.client.thread.number == r.client.thread.number) ≡ false = other_number _ _ none.0 in
    rw other (ap (λ (ns : List (ℕ × Need)). (x.client.thread.number, x.need) ∷ ns) (needs_appended ps r none.1))

-- ---- one place

module _ (number : ℕ) where
  pub absent_rows : (ps : List (Option Row)) → ((k : ℕ) → k < length ps → is_of number (row_at ps k) ≡ false) → IsAbsent number (clients_of ps)
  absent_rows [] none = tt
  absent_rows (None ∷ ps) none = absent_rows ps (λ k there. none (suc k) (omega arith))
  absent_rows (Some r ∷ ps) none = (
    (λ e. let f : (r.client.thread.number == number) ≡ false = none 0 (omega arith) in grind (arith, nat_tests)),
    absent_rows ps (λ k there. none (suc k) (omega arith)),
  )

  pub needs-absent : (ps : List (Option Row)) → IsAbsent number (clients_of ps) → needs_in ps ≡ without_need number (needs_in ps)
  needs-absent [] none = refl
  needs-absent (None ∷ ps) none = needs-absent ps none
  needs-absent (Some r ∷ ps) none =
      let other : (r.client.thread.number == number) ≡ false = other_number _ _ none.0 in
      rw other (ap (λ (ns : List (ℕ × Need)). (r.client.thread.number, r.need) ∷ ns) (needs-absent ps none.1))

  pub client-absent : (cs : List Client) → IsAbsent number cs → client_of number cs ≡ None
  client-absent [] none = refl
  client-absent (c ∷ cs) none =
      let other : (c.thread.number == number) ≡ false = other_number _ _ none.0 in
      rw other (client-absent cs none.1)

  apart_rows : (ps : List (Option Row)) (k other : ℕ) → IsAbsent other (clients_of ps) → k < length ps → is_of number (row_at ps k) ≡ true → other ≢ number
  apart_rows [] k other none there its = absurd (omega arith)
  apart_rows (None ∷ ps) zero other none there its = absurd cc
  apart_rows (None ∷ ps) (suc k) other none there its = apart_rows ps k other none (omega arith) its
  apart_rows (Some r ∷ ps) zero other none there its = λ e. none.0 (eq_true _ _ its ∙ sym e)
  apart_rows (Some r ∷ ps) (suc k) other none there its = apart_rows ps k other none.1 (omega arith) its

  -- what holds at the place of the thread, whose number no row before it has
  at_place : (P : List (Option Row) → ℕ → Type 0) → ((ps : List (Option Row)) (k : ℕ) → P ps k → P (None ∷ ps) (suc k)) →
      ((r : Row) (ps : List (Option Row)) → (r.client.thread.number == number) ≡ true → P (Some r ∷ ps) zero) →
      ((r : Row) (ps : List (Option Row)) (k : ℕ) → (r.client.thread.number == number) ≡ false → P ps k → P (Some r ∷ ps) (suc k)) →
      (ps : List (Option Row)) (k : ℕ) → AreOnce (clients_of ps) → k < length ps → is_of number (row_at ps k) ≡ true → P ps k
  at_place P none here passed [] k once there its = absurd (omega arith)
  at_place P none here passed (None ∷ ps) zero once there its = absurd cc
  at_place P none here passed (None ∷ ps) (suc k) once there its = none ps k (at_place P none here passed ps k once (omega arith) its)
  at_place P none here passed (Some r ∷ ps) zero once there its = here r ps its
  at_place P none here passed (Some r ∷ ps) (suc k) once there its =
      let below : k < length ps = omega arith in
      let apart = other_number _ _ (apart_rows ps k r.client.thread.number once.0 below its) in
      passed r ps k apart (at_place P none here passed ps k once.1 below its)

  pub pass_row : (ps : List (Option Row)) (k : ℕ) → AreOnce (clients_of ps) → k < length ps → is_of number (row_at ps k) ≡ true → pass_of (row_at ps k) ≡ pass_in number (clients_of ps)
  pass_row = at_place (λ ps k. pass_of (row_at ps k) ≡ pass_in number (clients_of ps)) (λ ps k h. h) (λ r ps its. rw its refl) (λ r ps k apart h. rw apart h)

  pub clients_grown_at : (ps : List (Option Row)) (k : ℕ) → AreOnce (clients_of ps) → k < length ps → is_of number (row_at ps k) ≡ true →
      clients_of (slice_set ps k (row_grown (row_at ps k))) ≡ grown number (clients_of ps)
  clients_grown_at =
      at_place (λ ps k. clients_of (slice_set ps k (row_grown (row_at ps k))) ≡ grown number (clients_of ps)) (λ ps k h. h)
      (λ r ps its. rw its refl) (λ r ps k apart h. rw apart (ap (λ (cs : List Client). r.client ∷ cs) h))

  pub clients_emptied : (ps : List (Option Row)) (k : ℕ) → AreOnce (clients_of ps) → k < length ps → is_of number (row_at ps k) ≡ true →
      clients_of (slice_set ps k None) ≡ without number (clients_of ps)
  clients_emptied =
      at_place (λ ps k. clients_of (slice_set ps k None) ≡ without number (clients_of ps)) (λ ps k h. h)
      (λ r ps its. rw its refl) (λ r ps k apart h. rw apart (ap (λ (cs : List Client). r.client ∷ cs) h))

  pub needs_told : (need : Need) (ps : List (Option Row)) (k : ℕ) → AreOnce (clients_of ps) → k < length ps → is_of number (row_at ps k) ≡ true →
      needs_in (slice_set ps k (row_told need (row_at ps k))) ≡ with_need number need (needs_in ps)
  needs_told need =
      at_place (λ ps k. needs_in (slice_set ps k (row_told need (row_at ps k))) ≡ with_need number need (needs_in ps)) (λ ps k h. h)
      (λ r ps its. rw its refl) (λ r ps k apart h. rw apart (ap (λ (ns : List (ℕ × Need)). (r.client.thread.number, r.need) ∷ ns) h))

  pub needs_emptied : (ps : List (Option Row)) (k : ℕ) → AreOnce (clients_of ps) → k < length ps → is_of number (row_at ps k) ≡ true →
      needs_in (slice_set ps k None) ≡ without_need number (needs_in ps)
  needs_emptied =
      at_place (λ ps k. needs_in (slice_set ps k None) ≡ without_need number (needs_in ps)) (λ ps k h. h)
      (λ r ps its. rw its refl) (λ r ps k apart h. rw apart (ap (λ (ns : List (ℕ × Need)). (r.client.thread.number, r.need) ∷ ns) h))

-- what holds of each client holds of that at a place
pub row_passes : (P : Client → Type 0) (ps : List (Option Row)) (k : ℕ) (r : Row) → AllByRecursion P (clients_of ps) → row_at ps k ≡ Some r → P r.client
row_passes P (None ∷ ps) (suc k) r all e = row_passes P ps k r all e
row_passes P (Some x ∷ ps) zero r all e = let is : x ≡ r = cc in subst (λ (y : Row). P y.client) is all.0
row_passes P (Some x ∷ ps) (suc k) r all e = row_passes P ps k r all.1 e
row_passes P _ _ r all e = absurd cc

-- growth changes no need, and what a thread waits for no client

pub needs_grown : (ps : List (Option Row)) (k : ℕ) → needs_in (slice_set ps k (row_grown (row_at ps k))) ≡ needs_in ps
needs_grown (None ∷ ps) (suc k) = needs_grown ps k
needs_grown (Some r ∷ ps) (suc k) = ap (λ (ns : List (ℕ × Need)). (r.client.thread.number, r.need) ∷ ns) (needs_grown ps k)
needs_grown _ _ = refl

pub clients_told : (need : Need) (ps : List (Option Row)) (k : ℕ) → clients_of (slice_set ps k (row_told need (row_at ps k))) ≡ clients_of ps
clients_told need (None ∷ ps) (suc k) = clients_told need ps k
clients_told need (Some r ∷ ps) (suc k) = ap (λ (cs : List Client). r.client ∷ cs) (clients_told need ps k)
clients_told need _ _ = refl

-- ---- needs by the numbers of threads

pub need_of-told : (needs : List (ℕ × Need)) (number : ℕ) (need : Need) → need_of number (with_need number need needs) ≡ need
need_of-told [] number need = let same : (number == number) ≡ true = grind (arith, nat_tests) in rw same refl
need_of-told (x ∷ needs) number need =
    by_test (x.0 == number) _
    (λ same. rw (same, same) refl)
    (λ other. rw (other, other) (need_of-told needs number need))

pub need_of-others : (needs : List (ℕ × Need)) (number other : ℕ) (need : Need) → other ≢ number → need_of other (with_need number need needs) ≡ need_of other needs
need_of-others [] number other need apart = let no : (number == other) ≡ false = other_number _ _ (λ e. apart (sym e)) in rw no refl
need_of-others (x ∷ needs) number other need apart =
    by_test (x.0 == number) _
    (λ same.
    let no : (x.0 == other) ≡ false = other_number _ _ (λ e. apart (sym e ∙ eq_true _ _ same)) in
    rw (same, no) refl)
    (λ differs.
    rw differs
    (by_test (x.0 == other) _ (λ found. rw found refl) (λ passed. rw passed (need_of-others needs number other need apart))))

pub need_of-without : (needs : List (ℕ × Need)) (number other : ℕ) → other ≢ number → need_of other (without_need number needs) ≡ need_of other needs
need_of-without [] number other apart = refl
need_of-without (x ∷ needs) number other apart =
    by_test (x.0 == number) _
    (λ same.
    let no : (x.0 == other) ≡ false = other_number _ _ (λ e. apart (sym e ∙ eq_true _ _ same)) in
    rw (same, no) refl)
    (λ differs.
    rw differs
    (by_test (x.0 == other) _ (λ found. rw found refl) (λ passed. rw passed (need_of-without needs number other apart))))
