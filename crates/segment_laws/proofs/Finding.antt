-- The thread of a number among records: it is that of the record with the number, wherever it stands.
use Rattle.segment_laws.proofs.Common.{◌≡◌, ℕ, zero, suc, ◌+◌, Bool, true, false, cond, List, [], ◌∷◌, Option, Some, None, refl, sym, ap, ◌∙◌, arith, ⊎_elim, nat_eq, eq-eqb, ne_eqb, cases_eq, Thread, at_place, find_from, IsNumbered}

module _ {R : Type 0} (number_of : R → ℕ) (thread_in : ℕ → R → Thread) where
  -- ---- a record that stands at a place

  find_at : (place : ℕ) (slots : List (Option R)) (i : ℕ) (r : R) → at_place slots i ≡ Some r → ((j : ℕ) (s : R) → at_place slots j ≡ Some s → number_of s ≡ number_of r → j ≡ i) → find_from number_of thread_in place slots (number_of r) ≡ Some (thread_in (place + i) r)
  find_at place (None ∷ rest) (suc i) r there one =
      let sum : place + 1 + i ≡ place + suc i = omega arith in
      find_at (place + 1) rest i r there (λ j s at same. let e = one (suc j) s at same in omega (arith, e)) ∙ ap (λ (k : ℕ). Some (thread_in k r)) sum
  find_at place (Some s ∷ rest) zero r there one =
      let same : s ≡ r = cc in
      let yes : nat_eq (number_of s) (number_of r) ≡ true = eq-eqb (number_of s) (number_of r) (ap number_of same) in
      let none : place ≡ place + 0 = omega arith in
      ap (λ (b : Bool). cond b (Some (thread_in place s)) (find_from number_of thread_in (place + 1) rest (number_of r))) yes
      ∙ (λ k. Some (thread_in (none k) (same k)))
  find_at place (Some s ∷ rest) (suc i) r there one =
      let sum : place + 1 + i ≡ place + suc i = omega arith in
      let no : nat_eq (number_of s) (number_of r) ≡ false = ne_eqb (number_of s) (number_of r) (λ same. let e = one 0 s refl same in omega (arith, e)) in
      ap (λ (b : Bool). cond b (Some (thread_in place s)) (find_from number_of thread_in (place + 1) rest (number_of r))) no
      ∙ find_at (place + 1) rest i r there (λ j s' at same. let e = one (suc j) s' at same in omega (arith, e)) ∙ ap (λ (k : ℕ). Some (thread_in k r)) sum
  find_at place _ _ r there one = absurd cc

  pub finds : (slots : List (Option R)) (next i : ℕ) (r : R) → IsNumbered number_of slots next → at_place slots i ≡ Some r → find_from number_of thread_in 0 slots (number_of r) ≡ Some (thread_in i r)
  finds slots next i r numbered there =
      let sum : 0 + i ≡ i = omega arith in
      find_at 0 slots i r there (λ j s at same. numbered.unique j i s r at there same) ∙ ap (λ (k : ℕ). Some (thread_in k r)) sum

  -- ---- and back

  pub record FoundAt (place : ℕ) (slots : List (Option R)) (number : ℕ) (thread : Thread) : Type 0 where
    pub i : ℕ
    pub r : R
    pub there : at_place slots i ≡ Some r
    pub number_is : number_of r ≡ number
    pub is : thread ≡ thread_in (place + i) r

  later : (place : ℕ) (found : Option R) (rest : List (Option R)) (number : ℕ) (thread : Thread) → FoundAt (place + 1) rest number thread → FoundAt place (found ∷ rest) number thread
  later place found rest number thread h =
      let sum : place + 1 + h.i ≡ place + suc h.i = omega arith in
      record { i = suc h.i; r = h.r; there = h.there; number_is = h.number_is; is = h.is ∙ ap (λ (k : ℕ). thread_in k h.r) sum }

  found_from : (place : ℕ) (slots : List (Option R)) (number : ℕ) (thread : Thread) → find_from number_of thread_in place slots number ≡ Some thread → FoundAt place slots number thread
  found_from place [] number thread e = absurd cc
  found_from place (None ∷ rest) number thread e = later place None rest number thread (found_from (place + 1) rest number thread e)
  found_from place (Some s ∷ rest) number thread e = ⊎_elim
      (λ (same : number_of s ≡ number).
      let yes : nat_eq (number_of s) number ≡ true = eq-eqb (number_of s) number same in
      let both : Some (thread_in place s) ≡ Some thread = sym (ap (λ (b : Bool). cond b (Some (thread_in place s)) (find_from number_of thread_in (place + 1) rest number)) yes) ∙ e in
      let here : thread_in place s ≡ thread = cc in
      let none : place ≡ place + 0 = omega arith in
      (let h : FoundAt place (Some s ∷ rest) number thread = record { i = 0; r = s; there = refl; number_is = same; is = sym here ∙ ap (λ (k : ℕ). thread_in k s) none } in h))
      (λ (apart : number_of s ≡ number → ⊥).
      let no : nat_eq (number_of s) number ≡ false = ne_eqb (number_of s) number apart in
      later place (Some s) rest number thread (found_from (place + 1) rest number thread (sym (ap (λ (b : Bool). cond b (Some (thread_in place s)) (find_from number_of thread_in (place + 1) rest number)) no) ∙ e)))
      (cases_eq (number_of s) number)

  pub found : (slots : List (Option R)) (number : ℕ) (thread : Thread) → find_from number_of thread_in 0 slots number ≡ Some thread → FoundAt 0 slots number thread
  found slots number thread e = found_from 0 slots number thread e

-- ---- two lists of records

-- no record has that number in either, or the same one
pub find_same : {R : Type 0} (number_of : R → ℕ) (thread_in thread_in' : ℕ → R → Thread) (slots slots' : List (Option R)) (next next' number : ℕ) → IsNumbered number_of slots next → IsNumbered number_of slots' next' →
    ((i : ℕ) (s : R) → at_place slots i ≡ Some s → number_of s ≡ number → (at_place slots' i ≡ Some s) × (thread_in' i s ≡ thread_in i s)) → ((i : ℕ) (s : R) → at_place slots' i ≡ Some s → number_of s ≡ number → at_place slots i ≡ Some s) →
    find_from number_of thread_in' 0 slots' number ≡ find_from number_of thread_in 0 slots number
find_same {R = R} number_of thread_in thread_in' slots slots' next next' number numbered numbered' there back = by (find_from number_of thread_in 0 slots number) refl
  where
    sum : (i : ℕ) → 0 + i ≡ i
    sum i = omega arith

    none_by : (other : Option Thread) → find_from number_of thread_in 0 slots number ≡ None → find_from number_of thread_in' 0 slots' number ≡ other → other ≡ None
    none_by None none e = refl
    none_by (Some thread) none e =
        let h = found number_of thread_in' slots' number thread e in
        let old = back h.i h.r h.there h.number_is in
        let first = finds number_of thread_in slots next h.i h.r numbered old in
        let some : find_from number_of thread_in 0 slots number ≡ Some (thread_in h.i h.r) = ap (find_from number_of thread_in 0 slots) (sym h.number_is) ∙ first in
        absurd (let both : None ≡ Some (thread_in h.i h.r) = sym none ∙ some in cc)

    by : (first : Option Thread) → find_from number_of thread_in 0 slots number ≡ first → find_from number_of thread_in' 0 slots' number ≡ first
    by None e = none_by (find_from number_of thread_in' 0 slots' number) e refl
    by (Some thread) e =
        let h = found number_of thread_in slots number thread e in
        let new = there h.i h.r h.there h.number_is in
        let now = finds number_of thread_in' slots' next' h.i h.r numbered' new.0 in
        ap (find_from number_of thread_in' 0 slots') (sym h.number_is) ∙ now ∙ ap (λ (t : Thread). Some t) (new.1 ∙ sym (h.is ∙ ap (λ (k : ℕ). thread_in k h.r) (sum h.i)))
